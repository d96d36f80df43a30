-- What a pattern takes from the front leaves no more than there was.
use Rattle.std.proofs.Common.{◌≤◌, List, length, arith}
use Rattle.rml_syntax.specs.declared.token.Spot.{Spot}
use Rattle.rml_syntax.specs.declared.rules.Pattern.{Pattern}
use Rattle.rml_grammar.proofs.ShortExpressions.{short-long}
use Rattle.rml_grammar.specs.SpelledPatterns as s
use Rattle.rml_grammar.specs.SpelledPatterns.{IsPat, IsPcons, IsPapps, IsPapp, IsPargs1, IsPatom, IsPatTuple, IsPatom1, IsPats, IsMorePats, IsPargs, IsPseq}

mutual
  pub short-pat : {us rest : List Spot} {t : Pattern} → IsPat us t rest → length rest ≤ length us
  short-pat (s.bound a) = let x = short-pcons a in omega arith
  short-pat (s.unbound e a) = short-pcons a

  pub short-pcons : {us rest : List Spot} {t : Pattern} → IsPcons us t rest → length rest ≤ length us
  short-pcons (s.chain a b) = let x = short-papp a in let y = short-papps b in omega arith

  pub short-papps : {us rest : List Spot} {ts : List Pattern} → IsPapps us ts rest → length rest ≤ length us
  short-papps (s.no_papp e) = omega arith
  short-papps (s.more_papps a b) = let x = short-papp a in let y = short-papps b in omega arith

  pub short-papp : {us rest : List Spot} {t : Pattern} → IsPapp us t rest → length rest ≤ length us
  short-papp (s.name a e) = short-long a
  short-papp (s.applied a b) = let x = short-long a in let y = short-pargs1 b in omega arith
  short-papp (s.atom a) = short-patom a

  pub short-pargs1 : {us rest : List Spot} {ts : List Pattern} → IsPargs1 us ts rest → length rest ≤ length us
  short-pargs1 (s.bracketed a) = let x = short-pats a in omega arith
  short-pargs1 (s.an_atom a) = short-patom1 a
  short-pargs1 (s.a_long a) = short-long a

  pub short-patom : {us rest : List Spot} {t : Pattern} → IsPatom us t rest → length rest ≤ length us
  short-patom (s.simple a) = short-patom1 a
  short-patom (s.bracket a) = let x = short-pat a in omega arith
  short-patom (s.tuple a) = short-pat_tuple a

  pub short-pat_tuple : {us rest : List Spot} {ts : List Pattern} → IsPatTuple us ts rest → length rest ≤ length us
  short-pat_tuple (s.two_pats a b c) = let x = short-pat a in let y = short-pat b in let z = short-more_pats c in omega arith

  pub short-patom1 : {us rest : List Spot} {t : Pattern} → IsPatom1 us t rest → length rest ≤ length us
  short-patom1 s.any = omega arith
  short-patom1 s.lit = omega arith
  short-patom1 s.no_list = omega arith
  short-patom1 (s.list a) = let x = short-pats a in omega arith

  pub short-pats : {us rest : List Spot} {ts : List Pattern} → IsPats us ts rest → length rest ≤ length us
  short-pats (s.some_pats a b) = let x = short-pat a in let y = short-more_pats b in omega arith

  pub short-more_pats : {us rest : List Spot} {ts : List Pattern} → IsMorePats us ts rest → length rest ≤ length us
  short-more_pats (s.no_more_pats e) = omega arith
  short-more_pats (s.more_pats a b) = let x = short-pat a in let y = short-more_pats b in omega arith
