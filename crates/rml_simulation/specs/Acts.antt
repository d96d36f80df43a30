-- Calls that are told what follows an answer and what follows a failure, to a depth as in Calls.antt. The lemmas are in
-- ActsLaws.antt.
use Rattle.std.specs.Prelude.{◌≡◌, ℕ, zero, suc, ◌<◌}
use Rattle.rml_base.specs.Run.{Cut, Rest, bare}
use Rattle.rml_base.specs.Monotone.{Longer}

-- what follows an answer, what follows a failure, what it is called with
abbrev pub Act : Type 0 → Type 0 → Type 0
Act S A = (A → Rest) → Rest → S → Rest

abbrev pub Acts : Type 0 → Type 0 → Type 0
Acts S A = ℕ → Act S A

abbrev pub acts_to : {S A : Type 0} → (Acts S A → Acts S A) → ℕ → Acts S A
acts_to body zero r k h s n = bare Cut
acts_to body (suc depth) r k h s n = body (acts_to body depth) r k h s n

abbrev pub acts_by_steps : {S A : Type 0} → (Acts S A → Acts S A) → Acts S A
acts_by_steps body r k h s n = acts_to body (suc n) r k h s n

pub record AlikeRest (i : ℕ) (f g : Rest) : Type 0 where
  pub at : (m : ℕ) → m < i → f m ≡ g m

-- alike below i steps where what follows is
pub record AlikeAct {S A : Type 0} (i : ℕ) (f g : Act S A) : Type 0 where
  pub at : (k k' : A → Rest) (h h' : Rest) → ((a : A) → AlikeRest i (k a) (k' a)) → AlikeRest i h h' → (s : S) → AlikeRest i (f k h s) (g k' h' s)

-- with n steps it looks at its calls, and at what follows, with fewer steps alone
pub record StepsToAct {S A : Type 0} (body : Acts S A → Acts S A) : Type 0 where
  pub at : (n : ℕ) (f g : Acts S A) → ((r : ℕ) → AlikeAct n (f r) (g r)) → (r : ℕ) (k k' : A → Rest) (h h' : Rest) → ((a : A) → AlikeRest n (k a) (k' a)) → AlikeRest n h h' → (s : S) → body f r k h s n ≡ body g r k' h' s n

-- the body of a relation is longer with the steps where its calls and what follows are
pub record LongerWithActs {S A : Type 0} (body : Acts S A → Acts S A) : Type 0 where
  pub at : (j : ℕ) (f g : Acts S A) → ((r : ℕ) (k k' : A → Rest) (h h' : Rest) → ((a : A) → Longer j (k a) (k' a)) → Longer j h h' → (s : S) → Longer j (f r k h s) (g r k' h' s)) → (r : ℕ) (k k' : A → Rest) (h h' : Rest) → ((a : A) → Longer j (k a) (k' a)) → Longer j h h' → (s : S) → Longer j (body f r k h s) (body g r k' h' s)
