-- Goals can be finished.
use Rattle.std.proofs.Common.{◌≡◌, ℕ, zero, suc, List, [], ◌∷◌, refl, sym, subst, ◌∙◌, Some, None, Ok}
use Rattle.rml_base.specs.declared.place.Place.{Place}
use Rattle.rml_syntax.specs.declared.token.Spot.{Spot}
use Rattle.rml_syntax.specs.declared.token.Mark.TheVariants as mark
use Rattle.rml_syntax.specs.declared.rules.Long.{Long}
use Rattle.rml_syntax.specs.declared.rules.Exp.{Exp}
use Rattle.rml_syntax.specs.declared.rules.Pattern.{Pattern}
use Rattle.rml_syntax.specs.declared.rules.Goal.{Goal}
use Rattle.rml_syntax.specs.declared.rules.Goal.TheVariants as goal
use Rattle.rml_grammar.specs.declared.fault.ParseKind.TheVariants as kind
use Rattle.rml_grammar.specs.declared.front.Front.{Front}
use Rattle.rml_grammar.specs.declared.front.Front.TheVariants as front
use Rattle.rml_grammar.specs.Tokens.{named, after, front_of}
use Rattle.rml_grammar.specs.Reading.{◌>>=◌, Parser, before, qualified, separated, then_by}
use Rattle.rml_grammar.specs.Patterns.{pat_at, pseq_at}
use Rattle.rml_grammar.specs.Expressions.{eargs_at, exp_at}
use Rattle.rml_grammar.specs.Goals.{Inner, a_goal, call_results_at, call_results_by, gatom, goal_by, goals_at, long_goal_by, matching_at}
use Rattle.rml_grammar.proofs.Levels.{goals_level}
use Rattle.rml_grammar.proofs.Fine.{fine-front, sign-decides}
use Rattle.rml_grammar.proofs.FineGoals as fine
use Rattle.rml_grammar.proofs.Goes.{Anything, Narrow, Wide, narrow, closed, equals, Goes, Next, Branch, behind, like, at, narrow-all, goes-give, goes-map, goes-then, goes-before-fewer, next-before-fewer, goes-first, goes-by, goes-is, goes-separated, goes-sign, next-sign, lacks-quiet, none-repeats, never-sign, next-map, next-then, refuses}
use Rattle.rml_grammar.proofs.GoesNames.{Quiet, ByName, quiet-anywhere, named-next, quiet-then, quiet-map, quiet-fewer, is-name, goes-qualified, quiet-qualified, long-behind}
use Rattle.rml_grammar.proofs.GoesExpressions.{exp-goes, exp-by-name, eargs-goes, quiet-eargs}
use Rattle.rml_grammar.proofs.GoesPatterns.{pat-goes, pat-by-name, pseq-goes, pseq-by-name}

pub narrow-arrow : (z : List Spot) → Narrow z → after mark.Arrow z ≡ None
narrow-arrow z w = narrow-all (λ us. after mark.Arrow us ≡ None) refl (λ p us. refl) (λ p us. refl) (λ n p us. refl) (λ p us. refl) z w

narrow-equals : (z : List Spot) → Narrow z → after mark.Equals z ≡ None
narrow-equals z w = narrow-all (λ us. after mark.Equals us ≡ None) refl (λ p us. refl) (λ p us. refl) (λ n p us. refl) (λ p us. refl) z w

narrow-and : (z : List Spot) → Narrow z → after mark.Amp z ≡ None
narrow-and z w = narrow-all (λ us. after mark.Amp us ≡ None) refl (λ p us. refl) (λ p us. refl) (λ n p us. refl) (λ p us. refl) z w

pub wider : (z : List Spot) → Narrow z → Wide z
wider z s = narrow s

-- goals in brackets
pub record Encloses (q : Parser (List Goal)) : Type 0 where
  pub goes : Goes Narrow q
  pub next : Next Anything Narrow q

abbrev pub InnerGoes : Inner → Type 0
InnerGoes None = Unit {0}
InnerGoes (Some q) = Encloses q

inner-is-fine : (inner : Inner) → InnerGoes inner → fine.InnerFine inner
inner-is-fine None h = tt
inner-is-fine (Some q) h = h.goes.fine

-- what a name begins, and what a `let` does
module _ (n : ℕ) where
  exp-narrow : Goes Narrow (exp_at n)
  exp-narrow = goes-before-fewer Wide Narrow (exp_at n) wider (exp-goes n)

  exp-next : Next Anything Narrow (exp_at n)
  exp-next = next-before-fewer Anything Wide Narrow (exp_at n) wider (named-next Wide (exp_at n) (exp-by-name n))

  results-goes : Goes Narrow (call_results_at n)
  results-goes = goes-by Narrow (after mark.Arrow) (call_results_by n) (pseq_at n) (sign-decides mark.Arrow) (λ us vs. refl) (goes-give Narrow []) (goes-before-fewer Wide Narrow (pseq_at n) wider (pseq-goes n))
      (next-before-fewer Anything Wide Narrow (pseq_at n) wider (named-next Wide (pseq_at n) (pseq-by-name n))) (lacks-quiet Narrow (after mark.Arrow) (call_results_by n) (goes-give Narrow []) narrow-arrow) (λ y us e. never-sign mark.Arrow (pseq_at n) y us e)

  results-quiet : Quiet Narrow (call_results_at n)
  results-quiet = record { gives = []; reads = λ z s. (rw (narrow-arrow z s) refl) }

  abbrev with-results : Long → List Exp → Parser Goal
  with-results l es us = call_results_at n us >>= λ ps. Ok (goal.Call l es ps.0, ps.1)

  abbrev called : Long → Parser Goal
  called l us = eargs_at n us >>= λ es. with-results l es.0 es.1

  with-quiet : (l : Long) (es : List Exp) → Quiet Narrow (with-results l es)
  with-quiet l es = quiet-map Narrow (call_results_at n) (λ ps. goal.Call l es ps) results-quiet

  called-goes : (l : Long) → Goes Narrow (called l)
  called-goes l = goes-then Wide Narrow (eargs_at n) (with-results l) (eargs-goes n) (λ es. goes-map Narrow (call_results_at n) (λ ps. goal.Call l es ps) results-goes) (λ es. quiet-anywhere Wide Narrow (with-results l es) wider (with-quiet l es)) (λ a b rest e z s. narrow s)

  called-quiet : (l : Long) → Quiet Narrow (called l)
  called-quiet l = quiet-then Narrow (eargs_at n) (with-results l) (quiet-fewer Wide Narrow (eargs_at n) wider (quiet-eargs n)) (with-quiet l)

  abbrev equal : Long → Parser Goal
  equal l us = exp_at n us >>= λ e. Ok (goal.Equal l e.0, e.1)

  abbrev long-goal : Long → Parser Goal
  long-goal l us = long_goal_by n l us (after mark.Equals us)

  long-goal-goes : (l : Long) → Goes Narrow (long-goal l)
  long-goal-goes l = goes-by Narrow (after mark.Equals) (long_goal_by n l) (equal l) (sign-decides mark.Equals) (λ us vs. refl) (called-goes l) (goes-map Narrow (exp_at n) (λ e. goal.Equal l e) exp-narrow)
      (next-map Anything Narrow (exp_at n) (λ e. goal.Equal l e) exp-next) (lacks-quiet Narrow (after mark.Equals) (long_goal_by n l) (called-goes l) narrow-equals) (λ y us e. never-sign mark.Equals (equal l) y us e)

  long-goal-quiet : (l : Long) → Quiet Narrow (long-goal l)
  long-goal-quiet l = let q = called-quiet l in record { gives = q.gives; reads = λ z s. (rw (narrow-equals z s) (q.reads z s)) }

  abbrev matched : Parser Pattern
  matched us = pat_at n us >>= before (after mark.Equals)

  abbrev bound-to : Pattern → Parser Goal
  bound-to p us = exp_at n us >>= λ e. Ok (goal.Let p e.0, e.1)

  matching-goes : Goes Narrow (matching_at n)
  matching-goes = goes-then Anything Narrow matched bound-to (goes-sign Wide Anything mark.Equals (pat_at n) (λ z. equals) (pat-goes n)) (λ p. goes-map Narrow (exp_at n) (λ e. goal.Let p e) exp-narrow) (λ p. next-map Anything Narrow (exp_at n) (λ e. goal.Let p e) exp-next) (λ a b rest e z s. tt)

  matching-next : Next Anything Narrow (matching_at n)
  matching-next = next-then Anything Anything Narrow matched bound-to (next-then Anything Wide Anything (pat_at n) (λ a us. then_by a us (after mark.Equals us)) (named-next Wide (pat_at n) (pat-by-name n)) (λ a. next-sign Wide Anything mark.Equals a (λ z. equals)))
      (λ p. next-map Anything Narrow (exp_at n) (λ e. goal.Let p e) exp-next)

  module _ (k : ℕ) (p : Place) where
    abbrev dotted : Parser Long
    dotted us = qualified (k, p) us (after mark.Dot us)

    behind-name : Parser Goal
    behind-name us = dotted us >>= λ l. long-goal l.0 l.1

    name-goes : Goes Narrow behind-name
    unfolding behind-name
    name-goes = goes-then Wide Narrow dotted long-goal (goes-qualified (k, p)) long-goal-goes (λ l. quiet-anywhere Wide Narrow (long-goal l) wider (long-goal-quiet l)) (λ a b rest e z s. narrow s)

    name-quiet : Quiet Narrow behind-name
    unfolding behind-name
    name-quiet = quiet-then Narrow dotted long-goal (quiet-fewer Wide Narrow dotted wider (quiet-qualified (k, p))) long-goal-quiet

-- behind a bracket that opens
abbrev bracketed : Parser (List Goal) → Parser Goal
bracketed q us = (q us >>= before (after mark.CloseRound)) >>= λ gs. Ok (goal.All gs.0, gs.1)

round-by : (n : ℕ) (inner : Inner) → InnerGoes inner → (y : Spot) → front_of (y ∷ []) ≡ front.Round → Branch Narrow (gatom n inner) y
round-by n None h y e = refuses Narrow (gatom n None) y kind.TooDeep (λ us. rw e refl)
round-by n (Some q) h y e = behind (bracketed q) (goes-map Narrow (λ us. q us >>= before (after mark.CloseRound)) (λ gs. goal.All gs) (goes-sign Narrow Narrow mark.CloseRound q (λ z. closed) h.goes))
    (next-map Anything Narrow (λ us. q us >>= before (after mark.CloseRound)) (λ gs. goal.All gs) (next-then Anything Narrow Narrow q (λ a us. then_by a us (after mark.CloseRound us)) h.next (λ a. next-sign Narrow Narrow mark.CloseRound a (λ z. closed)))) (λ us. rw e refl)

module _ (n : ℕ) (inner : Inner) (goes : InnerGoes inner) where
  atom-named : (k : ℕ) (p : Place) (us : List Spot) → gatom n inner (named k p ∷ us) ≡ behind-name n k p us
  unfolding behind-name
  atom-named k p us = rw (long-behind k p us) refl

  by-atom : (y : Spot) (f : Front) → front_of (y ∷ []) ≡ f → Branch Narrow (gatom n inner) y
  by-atom y front.Let e = behind (matching_at n) (matching-goes n) (matching-next n) (λ us. rw e refl)
  by-atom y front.Named e =
      let i = is-name y e in
      subst (λ (s : Spot). Branch Narrow (gatom n inner) s) (sym i.1) (behind (behind-name n i.0 y.place) (name-goes n i.0 y.place) (quiet-anywhere Anything Narrow (behind-name n i.0 y.place) (λ z s. tt) (name-quiet n i.0 y.place)) (atom-named i.0 y.place))
  by-atom y front.Round e = round-by n inner goes y e
  by-atom y f e = refuses Narrow (gatom n inner) y kind.Unexpected (λ us. rw e refl)

  gatom-goes : Goes Narrow (gatom n inner)
  gatom-goes = goes-first Narrow (gatom n inner) (fine.gatom-fine n inner (inner-is-fine inner goes)) (λ a h z s. absurd (cc h)) (λ y. by-atom y (front_of (y ∷ [])) refl)

  gatom-by-name : ByName Narrow (gatom n inner)
  gatom-by-name = let q = name-quiet n 0 at in record { gives = q.gives; reads = λ z s. (atom-named 0 at z ∙ q.reads z s) }

  same-atom : (z : List Spot) → Narrow z → a_goal n inner z ≡ gatom n inner z
  same-atom z w = narrow-all (λ us. a_goal n inner us ≡ gatom n inner us) refl (λ p us. refl) (λ p us. refl) (λ k p us. refl) (λ p us. refl) z w

  as-atom : (y : Spot) → ((us : List Spot) → a_goal n inner (y ∷ us) ≡ gatom n inner (y ∷ us)) → Branch Narrow (a_goal n inner) y
  as-atom y e = like (gatom n inner) gatom-goes e (λ us a h z s. same-atom z s ∙ gatom-goes.ends [] (y ∷ us) a h z s)

  by-goal : (y : Spot) (f : Front) → front_of (y ∷ []) ≡ f → Branch Narrow (a_goal n inner) y
  by-goal y front.Not e = behind (λ us. gatom n inner us >>= λ g. Ok (goal.Not g.0, g.1)) (goes-map Narrow (gatom n inner) (λ g. goal.Not g) gatom-goes) (next-map Anything Narrow (gatom n inner) (λ g. goal.Not g) (named-next Narrow (gatom n inner) gatom-by-name)) (λ us. rw e refl)
  by-goal y f e = as-atom y (λ us. rw e refl)

  goal-goes : Goes Narrow (a_goal n inner)
  goal-goes = goes-first Narrow (a_goal n inner) (fine-front (goal_by n inner) (fine.goal-by-fine n inner (inner-is-fine inner goes))) (λ a h z s. absurd (cc h)) (λ y. by-goal y (front_of (y ∷ [])) refl)

  goal-by-name : ByName Narrow (a_goal n inner)
  goal-by-name = record { gives = gatom-by-name.gives; reads = λ z s. gatom-by-name.reads z s }

  level-goes : Goes Narrow (separated (after mark.Amp) (a_goal n inner))
  level-goes = goes-separated Narrow (after mark.Amp) (a_goal n inner) (sign-decides mark.Amp) goal-goes (named-next Narrow (a_goal n inner) goal-by-name) narrow-and (λ y us e. never-sign mark.Amp (a_goal n inner) y us e)

  level-by-name : ByName Narrow (separated (after mark.Amp) (a_goal n inner))
  level-by-name = record { gives = goal-by-name.gives ∷ []; reads = λ z s. (rw (goal-by-name.reads z s, none-repeats (after mark.Amp) (a_goal n inner) z (narrow-and z s)) refl) }

mutual
  pub goals-goes : (n : ℕ) → Goes Narrow (goals_at n)
  goals-goes zero = goes-is Narrow (goals_at zero) (separated (after mark.Amp) (a_goal zero None)) (goals_level zero) (level-goes zero None tt)
  goals-goes (suc n) = goes-is Narrow (goals_at (suc n)) (separated (after mark.Amp) (a_goal (suc n) (Some (goals_at n)))) (goals_level (suc n)) (level-goes (suc n) (Some (goals_at n)) (record { goes = goals-goes n; next = named-next Narrow (goals_at n) (goals-by-name n) }))

  pub goals-by-name : (n : ℕ) → ByName Narrow (goals_at n)
  goals-by-name zero = let q = level-by-name zero None tt in record { gives = q.gives; reads = λ z s. (goals_level zero (named 0 at ∷ z) ∙ q.reads z s) }
  goals-by-name (suc n) = let q = level-by-name (suc n) (Some (goals_at n)) (record { goes = goals-goes n; next = named-next Narrow (goals_at n) (goals-by-name n) }) in record { gives = q.gives; reads = λ z s. (goals_level (suc n) (named 0 at ∷ z) ∙ q.reads z s) }
