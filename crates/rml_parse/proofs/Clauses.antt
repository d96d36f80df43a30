-- The loop that reads clauses, of which only so many may still come.
use Rattle.std.proofs.Common.{◌≡◌, ℕ, zero, suc, ◌-◌, ◌<◌, ◌≤◌, List, [], ◌∷◌, ◌++◌, length, refl, sym, ap, ◌∙◌, arith, Option, Some, None, Result, Ok, Err, append_assoc, append-nil}
use Rattle.rml_syntax.specs.declared.token.Spot.{Spot}
use Rattle.rml_syntax.specs.declared.rules.Rule.{Rule}
use Rattle.rml_grammar.specs.declared.fault.Fault.{Fault}
use Rattle.rml_grammar.specs.declared.fault.ParseKind.TheVariants as kind
use Rattle.rml_phrases.specs.declared.stop.Stop.{Stop}
use Rattle.rml_phrases.specs.declared.stop.Stop.TheVariants as stop
use Rattle.rml_phrases.specs.Mirrors.{Fails}
use Rattle.rml_grammar.specs.Reading.{◌>>=◌, refused}
use Rattle.rml_grammar.specs.Texts.{clause_next, clause_at, clauses_at}
use Rattle.rml_phrases.proofs.Callers.{with_front, no-front, front-more}

module _ (n : ℕ) where
  none-at : (k : ℕ) (us : List Spot) → clause_next us ≡ None → clauses_at n k us ≡ Ok ([], us)
  unfolding clauses_at
  none-at zero us e = rw (e, clauses_at) refl
  none-at (suc k) us e = rw (e, clauses_at) refl

  one-at : (k : ℕ) (us vs : List Spot) → clause_next us ≡ Some vs → clauses_at n (suc k) us ≡ (clause_at n vs >>= λ r. clauses_at n k r.1 >>= λ rs. Ok (r.0 ∷ rs.0, rs.1))
  unfolding clauses_at
  one-at k us vs e = rw (e, clauses_at) refl

  full-at : (us vs : List Spot) → clause_next us ≡ Some vs → clauses_at n zero us ≡ refused kind.TooManyRules us
  unfolding clauses_at
  full-at us vs e = rw (e, clauses_at) refl

  one-more : (k : ℕ) (rest more after : List Spot) (next : Rule) → clause_next rest ≡ Some more → clause_at n more ≡ Ok (next, after) → clauses_at n (suc k) rest ≡ (clauses_at n k after >>= λ rs. Ok (next ∷ rs.0, rs.1))
  one-more k rest more after next e h = rw (one-at k rest more e, h) refl

  -- The clauses so far, and then what the others give, are what the whole gives.
  pub record ClausesSoFar (most : ℕ) (start : List Spot) (items : List Rule) (left : ℕ) (rest : List Spot) : Type 0 where
    pub same : with_front items (clauses_at n left rest) ≡ clauses_at n most start
    pub shorter : length rest ≤ length start

  pub clauses-begin : (most : ℕ) (start : List Spot) → ClausesSoFar most start [] most start
  clauses-begin most start = record { same = no-front (clauses_at n most start); shorter = omega arith }

  pub clauses-go-on : (most : ℕ) (start : List Spot) (items : List Rule) (left : ℕ) (rest more after : List Spot) (next : Rule) → ClausesSoFar most start items left rest → (left ≡ 0 → ⊥) → clause_next rest ≡ Some more → clause_at n more ≡ Ok (next, after)
      → length after < length rest → ClausesSoFar most start (items ++ next ∷ []) (left - 1) after
  clauses-go-on most start items left rest more after next so some e h shorter =
      let k = left - 1 in
      let is : left ≡ suc k = omega arith in
      let one : clauses_at n left rest ≡ (clauses_at n k after >>= λ rs. Ok (next ∷ rs.0, rs.1)) = ap (λ (j : ℕ). clauses_at n j rest) is ∙ one-more k rest more after next e h in
      record {
        same = front-more items next (clauses_at n k after) ∙ sym (ap (with_front items) one) ∙ so.same;
        shorter = (let q = so.shorter in omega arith);
      }

  pub clauses-ended : (most : ℕ) (start : List Spot) (items : List Rule) (left : ℕ) (rest : List Spot) → ClausesSoFar most start items left rest → clause_next rest ≡ None → clauses_at n most start ≡ Ok (items, rest)
  clauses-ended most start items left rest so e = sym so.same ∙ rw (none-at left rest e, append-nil) refl

  pub clauses-full : (most : ℕ) (start : List Spot) (items : List Rule) (left : ℕ) (rest more : List Spot) → ClausesSoFar most start items left rest → left ≡ 0 → clause_next rest ≡ Some more → clauses_at n most start ≡ refused kind.TooManyRules rest
  clauses-full most start items left rest more so z e = sym so.same ∙ rw (z, full-at rest more e) refl

  clauses-failed : (most : ℕ) (start : List Spot) (items : List Rule) (left : ℕ) (rest more : List Spot) (f : Fault) → ClausesSoFar most start items left rest → (left ≡ 0 → ⊥) → clause_next rest ≡ Some more → clause_at n more ≡ Err f
      → clauses_at n most start ≡ Err f
  clauses-failed most start items left rest more f so some e h =
      let k = left - 1 in
      let is : left ≡ suc k = omega arith in
      let one : clauses_at n left rest ≡ Err f = rw (is, one-at k rest more e, h) refl in
      sym so.same ∙ rw one refl

  pub clauses-fail : (most : ℕ) (start : List Spot) (items : List Rule) (left : ℕ) (rest more : List Spot) (e : Stop) → ClausesSoFar most start items left rest → (left ≡ 0 → ⊥) → clause_next rest ≡ Some more → Fails e (clause_at n more)
      → Fails e (clauses_at n most start)
  clauses-fail most start items left rest more stop.Memory so some is h = tt
  clauses-fail most start items left rest more (stop.At f) so some is h = clauses-failed most start items left rest more f so some is h
