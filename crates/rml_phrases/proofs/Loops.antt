-- Loops that read items as long as one opens.
use Rattle.std.proofs.Common.{◌≡◌, ℕ, zero, suc, ◌-◌, ◌<◌, ◌≤◌, List, [], ◌∷◌, ◌++◌, length, refl, sym, ap, ◌∙◌, arith, Option, Some, None, Result, Ok, Err, append_assoc, append-nil}
use Rattle.rml_syntax.specs.declared.token.Spot.{Spot}
use Rattle.rml_grammar.specs.declared.fault.Fault.{Fault}
use Rattle.rml_phrases.specs.declared.stop.Stop.{Stop}
use Rattle.rml_phrases.specs.declared.stop.Stop.TheVariants as stop
use Rattle.rml_phrases.specs.Mirrors.{Fails}
use Rattle.rml_grammar.specs.Reading.{◌>>=◌, Parser, follows, repeated}

-- items read before others
abbrev pub with_front : {A : Type 0} → List A → Result (List A × List Spot) Fault → Result (List A × List Spot) Fault
with_front front r = r >>= λ x. Ok (front ++ x.0, x.1)

pub no-front : {A : Type 0} (r : Result (List A × List Spot) Fault) → with_front [] r ≡ r
no-front (Ok x) = refl
no-front (Err f) = refl

pub front-more : {A : Type 0} (items : List A) (next : A) (r : Result (List A × List Spot) Fault) → with_front (items ++ next ∷ []) r ≡ with_front items (r >>= λ xs. Ok (next ∷ xs.0, xs.1))
front-more items next (Ok x) = rw append_assoc refl
front-more items next (Err f) = refl

module _ {A : Type 0} (opens : List Spot → Option (List Spot)) (p : Parser A) where
  -- The items so far, and then what more turns give, are what the whole gives. There are turns enough.
  pub record SoFar (start : List Spot) (items : List A) (rest : List Spot) : Type 0 where
    pub turns : ℕ
    pub enough : length rest ≤ turns
    pub same : with_front items (follows opens p turns rest) ≡ repeated opens p start
    pub shorter : length rest ≤ length start

  pub begins : (start : List Spot) → SoFar start [] start
  begins start = record { turns = length start; enough = omega arith; same = no-front (repeated opens p start); shorter = omega arith }

  one-turn : (k : ℕ) (rest more after : List Spot) (next : A) → opens rest ≡ Some more → p more ≡ Ok (next, after) → follows opens p (suc k) rest ≡ (follows opens p k after >>= λ xs. Ok (next ∷ xs.0, xs.1))
  one-turn k rest more after next e h = rw (e, follows, h) refl

  pub goes-on : (start : List Spot) (items : List A) (rest more after : List Spot) (next : A) → SoFar start items rest → opens rest ≡ Some more → p more ≡ Ok (next, after) → length after < length rest
      → SoFar start (items ++ next ∷ []) after
  goes-on start items rest more after next so e h shorter =
      let k = so.turns - 1 in
      let is : so.turns ≡ suc k = (let q = so.enough in omega arith) in
      record {
        turns = k;
        enough = (let q = so.enough in omega arith);
        same = front-more items next (follows opens p k after) ∙ sym (ap (with_front items) (one-turn k rest more after next e h)) ∙ (rw (← is) so.same);
        shorter = (let q = so.shorter in omega arith);
      }

  stopped : (k : ℕ) (rest : List Spot) → opens rest ≡ None → follows opens p k rest ≡ Ok ([], rest)
  stopped zero rest e = refl
  stopped (suc k) rest e = rw (e, follows) refl

  pub ended : (start : List Spot) (items : List A) (rest : List Spot) → SoFar start items rest → opens rest ≡ None → repeated opens p start ≡ Ok (items, rest)
  ended start items rest so e = sym so.same ∙ rw (stopped so.turns rest e, append-nil) refl

  failed : (start : List Spot) (items : List A) (rest more : List Spot) (f : Fault) → SoFar start items rest → opens rest ≡ Some more → 0 < length rest → p more ≡ Err f → repeated opens p start ≡ Err f
  failed start items rest more f so e some h =
      let k = so.turns - 1 in
      let is : so.turns ≡ suc k = (let q = so.enough in omega arith) in
      let one : follows opens p (suc k) rest ≡ Err f = rw (e, follows, h) refl in
      sym so.same ∙ rw (is, one) refl

  pub fails : (start : List Spot) (items : List A) (rest more : List Spot) (e : Stop) → SoFar start items rest → opens rest ≡ Some more → 0 < length rest → Fails e (p more) → Fails e (repeated opens p start)
  fails start items rest more stop.Memory so is some f = tt
  fails start items rest more (stop.At f) so is some h = failed start items rest more f so is some h

  -- where an item begins at the list itself
  none-left : opens [] ≡ None → (us vs : List Spot) → opens us ≡ Some vs → 0 < length us
  none-left empty [] vs e = absurd (cc)
  none-left empty (s ∷ us) vs e = omega arith

  pub fails-at : opens [] ≡ None → (start : List Spot) (items : List A) (rest more : List Spot) (e : Stop) → SoFar start items rest → opens rest ≡ Some more → Fails e (p more) → Fails e (repeated opens p start)
  fails-at empty start items rest more e so is f = fails start items rest more e so is (none-left empty rest more is) f
