-- Variables and values that differ in number.
use Rattle.std.proofs.Common.{◌≡◌, ℕ, suc, List, [], ◌∷◌, length, None, refl, ap}
use Rattle.rml_value.specs.declared.value.Value.{Value}
use Rattle.rml_terms.specs.Env.{Env, bind}
use Rattle.rml_fol.specs.Statements.{bind_all}

pub bind_none : (xs : List ℕ) (vs : List Value) (env : Env) → (length xs ≡ length vs → ⊥) → bind_all xs vs env ≡ None
bind_none [] [] env differ = absurd (differ refl)
bind_none [] (v ∷ vs) env differ = refl
bind_none (x ∷ xs) [] env differ = refl
bind_none (x ∷ xs) (v ∷ vs) env differ = bind_none xs vs (bind x v env) (λ e. differ (ap suc e))
