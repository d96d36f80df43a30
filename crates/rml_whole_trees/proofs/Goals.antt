-- A goal of formed tokens is formed so, production by production.
use Rattle.std.proofs.Common.{◌≡◌, ℕ, ◌≤◌, Bool, true, List, length, refl, ◌∙◌, arith}
use Rattle.std.specs.List.{list_all}
use Rattle.rml_syntax.specs.declared.token.Spot.{Spot}
use Rattle.rml_syntax.specs.declared.rules.Pattern.{Pattern}
use Rattle.rml_syntax.specs.declared.rules.Goal.{Goal}
use Rattle.rml_grammar.specs.SpelledGoals as s
use Rattle.rml_grammar.specs.SpelledGoals.{IsCallResults, IsGatom, IsGoal, IsGoals, IsMoreGoals}
use Rattle.rml_grammar.proofs.Callers.{goal-All, goal-Call, goal-Equal, goal-Let, goal-Not}
use Rattle.rml_whole.specs.Rules.{goal_formed_at, goal_is_formed, pattern_is_formed}
use Rattle.rml_whole_trees.proofs.Expressions.{eargs-formed, exp-formed}
use Rattle.rml_whole_trees.proofs.Patterns.{pat-formed, pseq-formed}
use Rattle.rml_whole_trees.proofs.Tokens.{AreFormed, long-formed}
use Rattle.rml_whole_trees.proofs.Words.{cons-of, some-of}

module _ (n : ℕ) where
  abbrev is : Goal → Bool
  is = goal_is_formed n

  results-formed : {us rest : List Spot} {ps : List Pattern} → IsCallResults us ps rest → AreFormed n us → (list_all (pattern_is_formed n) ps ≡ true) × AreFormed n rest
  results-formed (s.no_results e) h = (refl, h)
  results-formed (s.results a) h = pseq-formed n a h.1

  mutual
    pub goals-formed : {us rest : List Spot} {gs : List Goal} → IsGoals us gs rest → AreFormed n us → (1 ≤ length gs) × (list_all is gs ≡ true) × AreFormed n rest
    goals-formed (s.some_goals {g} {gs} a b) h = let x = goal-formed a h in let y = more_goals-formed b x.1 in (omega arith, cons-of is g gs x.0 y.0, y.1)

    more_goals-formed : {us rest : List Spot} {gs : List Goal} → IsMoreGoals us gs rest → AreFormed n us → (list_all is gs ≡ true) × AreFormed n rest
    more_goals-formed (s.no_more_goals e) h = (refl, h)
    more_goals-formed (s.more_goals {g} {gs} a b) h = let x = goal-formed a h.1 in let y = more_goals-formed b x.1 in (cons-of is g gs x.0 y.0, y.1)

    goal-formed : {us rest : List Spot} {g : Goal} → IsGoal us g rest → AreFormed n us → (is g ≡ true) × AreFormed n rest
    goal-formed (s.negated {g} a) h = let x = gatom-formed a h.1 in (goal-Not Bool (goal_formed_at n) g ∙ x.0, x.1)
    goal-formed (s.plain a) h = gatom-formed a h

    gatom-formed : {us rest : List Spot} {g : Goal} → IsGatom us g rest → AreFormed n us → (is g ≡ true) × AreFormed n rest
    gatom-formed (s.matching {t} {e} a b) h = let x = pat-formed n a h.1 in let y = exp-formed n b x.1.1 in (goal-Let Bool (goal_formed_at n) t e ∙ rw (x.0, y.0) refl, y.1)
    gatom-formed (s.equation {l} {e} a b) h = let x = long-formed n a h in let y = exp-formed n b x.1.1 in (goal-Equal Bool (goal_formed_at n) l e ∙ rw (x.0, y.0) refl, y.1)
    gatom-formed (s.call {l} {es} {ps} a e b c) h =
        let x = long-formed n a h in
        let y = eargs-formed n b x.1 in
        let z = results-formed c y.1 in
        (goal-Call Bool (goal_formed_at n) l es ps ∙ rw (x.0, y.0, z.0) refl, z.1)
    gatom-formed (s.bracket {gs} a) h = let x = goals-formed a h.1 in (goal-All Bool (goal_formed_at n) gs ∙ some-of is gs x.0 x.1, x.2.1)
