-- What an expression takes from the front leaves no more than there was.
use Rattle.std.proofs.Common.{◌≤◌, List, length, arith}
use Rattle.rml_syntax.specs.declared.token.Spot.{Spot}
use Rattle.rml_syntax.specs.declared.rules.Long.{Long}
use Rattle.rml_syntax.specs.declared.rules.Exp.{Exp}
use Rattle.rml_grammar.specs.SpelledNames.{IsLong, alone, dotted}
use Rattle.rml_grammar.specs.SpelledExpressions as s
use Rattle.rml_grammar.specs.SpelledExpressions.{IsExp, IsEapps, IsEapp, IsEargs1, IsEatom, IsExpTuple, IsEatom1, IsExps, IsMoreExps, IsEargs, IsEseq}

pub short-long : {us rest : List Spot} {l : Long} → IsLong us l rest → length rest ≤ length us
short-long (alone e) = omega arith
short-long dotted = omega arith

mutual
  pub short-exp : {us rest : List Spot} {t : Exp} → IsExp us t rest → length rest ≤ length us
  short-exp (s.chain a b) = let x = short-eapp a in let y = short-eapps b in omega arith

  pub short-eapps : {us rest : List Spot} {ts : List Exp} → IsEapps us ts rest → length rest ≤ length us
  short-eapps (s.no_eapp e) = omega arith
  short-eapps (s.more_eapps a b) = let x = short-eapp a in let y = short-eapps b in omega arith

  pub short-eapp : {us rest : List Spot} {t : Exp} → IsEapp us t rest → length rest ≤ length us
  short-eapp (s.name a e) = short-long a
  short-eapp (s.applied a b) = let x = short-long a in let y = short-eargs1 b in omega arith
  short-eapp (s.atom a) = short-eatom a

  pub short-eargs1 : {us rest : List Spot} {ts : List Exp} → IsEargs1 us ts rest → length rest ≤ length us
  short-eargs1 (s.bracketed a) = let x = short-exps a in omega arith
  short-eargs1 (s.an_atom a) = short-eatom1 a
  short-eargs1 (s.a_long a) = short-long a

  pub short-eatom : {us rest : List Spot} {t : Exp} → IsEatom us t rest → length rest ≤ length us
  short-eatom (s.simple a) = short-eatom1 a
  short-eatom (s.bracket a) = let x = short-exp a in omega arith
  short-eatom (s.tuple a) = short-exp_tuple a

  pub short-exp_tuple : {us rest : List Spot} {ts : List Exp} → IsExpTuple us ts rest → length rest ≤ length us
  short-exp_tuple (s.two_exps a b c) = let x = short-exp a in let y = short-exp b in let z = short-more_exps c in omega arith

  pub short-eatom1 : {us rest : List Spot} {t : Exp} → IsEatom1 us t rest → length rest ≤ length us
  short-eatom1 s.lit = omega arith
  short-eatom1 s.no_list = omega arith
  short-eatom1 (s.list a) = let x = short-exps a in omega arith

  pub short-exps : {us rest : List Spot} {ts : List Exp} → IsExps us ts rest → length rest ≤ length us
  short-exps (s.some_exps a b) = let x = short-exp a in let y = short-more_exps b in omega arith

  pub short-more_exps : {us rest : List Spot} {ts : List Exp} → IsMoreExps us ts rest → length rest ≤ length us
  short-more_exps (s.no_more_exps e) = omega arith
  short-more_exps (s.more_exps a b) = let x = short-exp a in let y = short-more_exps b in omega arith
