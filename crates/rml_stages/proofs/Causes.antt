-- From the cause of an answer to which answer comes: what else would come is ruled out.
use Rattle.std.proofs.Common.{◌≡◌, refl, sym, subst, ◌∙◌, Result, Ok, Err, inl, inr}
use Rattle.rml_base.specs.Answers.{Explains, Gives, Refuses}
use Rattle.rml_stages.specs.declared.refusal.Refusal.{Refusal}
use Rattle.rml_stages.specs.declared.refusal.Refusal.TheVariants as refusal

module _ {X : Type 0} (given : X → Type 0) (refused : Refusal → Type 0) where
  pub gives : (P : X → Type 0) (answer : Result X Refusal) → Explains refusal.Memory answer given refused → ((x : X) → given x → P x) → ((r : Refusal) → refused r → ⊥) → Gives refusal.Memory answer P
  gives P (Ok x) cause is none = is x cause
  gives P (Err refusal.Memory) cause is none = refl
  gives P (Err (refusal.Limit p w)) cause is none = absurd (none (refusal.Limit p w) (cause (λ e. cc)))
  gives P (Err (refusal.Syntax p k)) cause is none = absurd (none (refusal.Syntax p k) (cause (λ e. cc)))

  pub refuses : (q : Refusal) (answer : Result X Refusal) → Explains refusal.Memory answer given refused → ((x : X) → given x → ⊥) → ((r : Refusal) → refused r → r ≡ q) → Refuses refusal.Memory answer (λ e. e ≡ q)
  refuses q (Ok x) cause none same = none x cause
  refuses q (Err refusal.Memory) cause none same = inr refl
  refuses q (Err (refusal.Limit p w)) cause none same = inl (same (refusal.Limit p w) (cause (λ e. cc)))
  refuses q (Err (refusal.Syntax p k)) cause none same = inl (same (refusal.Syntax p k) (cause (λ e. cc)))

-- what is so of an error is so of the same one
pub moved : (P : Refusal → Type 0) (r e : Refusal) → r ≡ e → ((e ≡ refusal.Memory → ⊥) → P e) → (r ≡ refusal.Memory → ⊥) → P r
moved P r e is h some = subst P (sym is) (h (λ m. some (is ∙ m)))
