-- What a goal takes from the front leaves no more than there was.
use Rattle.std.proofs.Common.{◌≤◌, List, length, arith}
use Rattle.rml_syntax.specs.declared.token.Spot.{Spot}
use Rattle.rml_syntax.specs.declared.rules.Exp.{Exp}
use Rattle.rml_syntax.specs.declared.rules.Pattern.{Pattern}
use Rattle.rml_syntax.specs.declared.rules.Goal.{Goal}
use Rattle.rml_grammar.specs.SpelledExpressions as e
use Rattle.rml_grammar.specs.SpelledExpressions.{IsEargs, IsEseq}
use Rattle.rml_grammar.specs.SpelledPatterns as p
use Rattle.rml_grammar.specs.SpelledPatterns.{IsPargs, IsPseq}
use Rattle.rml_grammar.specs.SpelledGoals as s
use Rattle.rml_grammar.specs.SpelledGoals.{IsCallResults, IsGoals, IsMoreGoals, IsGoal, IsGatom}
use Rattle.rml_grammar.proofs.ShortExpressions.{short-long, short-exp, short-eargs1, short-exp_tuple}
use Rattle.rml_grammar.proofs.ShortPatterns.{short-pat, short-pargs1, short-pat_tuple}

pub short-eargs : {us rest : List Spot} {ts : List Exp} → IsEargs us ts rest → length rest ≤ length us
short-eargs (e.no_eargs h) = omega arith
short-eargs e.empty_eargs = omega arith
short-eargs (e.eargs1 a) = short-eargs1 a

pub short-eseq : {us rest : List Spot} {ts : List Exp} → IsEseq us ts rest → length rest ≤ length us
short-eseq e.no_exps = omega arith
short-eseq (e.exps a h) = short-exp_tuple a
short-eseq (e.one_exp a h) = short-exp a

pub short-pargs : {us rest : List Spot} {ts : List Pattern} → IsPargs us ts rest → length rest ≤ length us
short-pargs (p.no_pargs h) = omega arith
short-pargs p.empty_pargs = omega arith
short-pargs (p.pargs1 a) = short-pargs1 a

pub short-pseq : {us rest : List Spot} {ts : List Pattern} → IsPseq us ts rest → length rest ≤ length us
short-pseq p.no_pats = omega arith
short-pseq (p.pats a h) = short-pat_tuple a
short-pseq (p.one_pat a h) = short-pat a

short-results : {us rest : List Spot} {ts : List Pattern} → IsCallResults us ts rest → length rest ≤ length us
short-results (s.no_results h) = omega arith
short-results (s.results a) = let x = short-pseq a in omega arith

mutual
  pub short-goals : {us rest : List Spot} {gs : List Goal} → IsGoals us gs rest → length rest ≤ length us
  short-goals (s.some_goals a b) = let x = short-goal a in let y = short-more_goals b in omega arith

  pub short-more_goals : {us rest : List Spot} {gs : List Goal} → IsMoreGoals us gs rest → length rest ≤ length us
  short-more_goals (s.no_more_goals e) = omega arith
  short-more_goals (s.more_goals a b) = let x = short-goal a in let y = short-more_goals b in omega arith

  pub short-goal : {us rest : List Spot} {g : Goal} → IsGoal us g rest → length rest ≤ length us
  short-goal (s.negated a) = let x = short-gatom a in omega arith
  short-goal (s.plain a) = short-gatom a

  pub short-gatom : {us rest : List Spot} {g : Goal} → IsGatom us g rest → length rest ≤ length us
  short-gatom (s.matching a b) = let x = short-pat a in let y = short-exp b in omega arith
  short-gatom (s.equation a b) = let x = short-long a in let y = short-exp b in omega arith
  short-gatom (s.call a h b c) = let x = short-long a in let y = short-eargs b in let z = short-results c in omega arith
  short-gatom (s.bracket a) = let x = short-goals a in omega arith
