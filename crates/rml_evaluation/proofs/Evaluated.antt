-- A val at a depth, how large its expression is, and the values of expressions one after another.
use Rattle.std.proofs.Common.{◌≡◌, ℕ, zero, suc, ◌+◌, ◌-◌, ◌<◌, ◌≤◌, List, [], ◌∷◌, ◌++◌, map, drop, length, get_or, Option, Some, None, append_assoc, sym, ◌∙◌, add-one, drop-cons, refl, ap, inl, inr, arith}
use Rattle.std.specs.Prelude.{slice_get, sum_by, option_map, option_and_then}
use Rattle.std.proofs.lemmas.Option.{slice_get_cases, get_or_from_slice_get}
use Rattle.std.proofs.lemmas.List.Sums.{get_or-le-sum_by}
use Rattle.rml_value.specs.declared.value.Value.{Value}
use Rattle.rml_terms.specs.Env.{Env}
use Rattle.rml_terms.specs.Evaluating.{Evaluation, Meanings, with_first, all_of, vals_to}

pub vals_to-some : {E : Type 0} (meaning : Meanings E) (vals : List E) (depth k : ℕ) → 0 < depth
    → vals_to meaning vals depth k ≡ option_and_then (λ e. meaning (vals_to meaning vals (depth - 1)) e []) (slice_get vals k)
vals_to-some meaning vals zero k h = absurd (omega arith)
vals_to-some meaning vals (suc depth) k h = let e : suc depth - 1 ≡ depth = omega arith in rw e refl

pub part-le : {X : Type 0} (f : X → ℕ) (xs : List X) (i : ℕ) (x : X) → slice_get xs i ≡ Some x → f x ≤ sum_by f xs
part-le f xs i x e =
    elim (slice_get_cases xs i).1 [ inl h ↦ (let q : f (get_or xs i x) ≡ f x = ap f (get_or_from_slice_get xs i x x e) in omega (arith, get_or-le-sum_by f xs i x h.1, q)) | inr h ↦ absurd (let k = h.1 in cc) ]

regroup : (done : List Value) (v : Value) (o : Option (List Value)) → option_map (λ rest. done ++ rest) (option_map (λ rest. v ∷ rest) o) ≡ option_map (λ rest. (done ++ v ∷ []) ++ rest) o
regroup done v None = refl
regroup done v (Some rest) = ap Some (sym (append_assoc done (v ∷ []) rest))

-- one expression more
pub all-more : {E : Type 0} (f : E → Evaluation) (es : List E) (i : ℕ) (e : E) (env : Env) (v : Value) (done next : List Value) → i < length es → e ≡ get_or es i e → Some v ≡ f e env → next ≡ done ++ v ∷ []
    → option_map (λ rest. done ++ rest) (all_of (map f (drop i es)) env) ≡ option_map (λ rest. next ++ rest) (all_of (map f (drop (i + 1) es)) env)
all-more {E = E} f es i e env v done next inside is held more =
    let here : drop i es ≡ e ∷ drop (suc i) es = rw (drop-cons es i e, ← is) refl in
    rw (add-one, more)
    (ap (λ (ds : List E). option_map (λ rest. done ++ rest) (all_of (map f ds) env)) here
    ∙ ap (λ (o : Option Value). option_map (λ rest. done ++ rest) (with_first o (all_of (map f (drop (suc i) es)) env))) (sym held)
    ∙ regroup done v (all_of (map f (drop (suc i) es)) env))
