-- What it tells of an instruction that it is right.
use Rattle.std.specs.Prelude.{ℕ, ◌≡◌, ◌+◌, Bool, true, false, ◌&&◌, if◌then◌else◌, Option, Some, None}
use Rattle.std.proofs.Common.{inl, inr, refl, ap}
use Rattle.std.proofs.lemmas.Bool.{le-leb}
use Rattle.std.proofs.lemmas.Bool.Decides.{leb_tells}
use Rattle.rml_heap.specs.HeapState.{cells_used, HasRoom}
use Rattle.rml_code.specs.declared.state.State.{State}
use Rattle.rml_code.specs.Stretch.{Stretch, Full, Stop, goes, wrong, with_known}
use Rattle.rml_code.specs.Effects.{if_room}
use Rattle.rml_acts.specs.Did.{IsRight}

pub some-is : {A : Type 0} (x y : A) → Some x ≡ Some y → x ≡ y
some-is x y e = cc

-- what it goes on with is there
pub known-right : {A : Type 0} (o : Option A) (go : A → Stretch) (s : State) → IsRight (with_known o go s) → (x : A) × (o ≡ Some x)
known-right None go s right = absurd (right refl)
known-right (Some x) go s right = (x, refl)

pub known-is : {A : Type 0} (o : Option A) (go : A → Stretch) (s : State) (x : A) → o ≡ Some x → with_known o go s ≡ go x
known-is o go s x is = ap (λ o. with_known o go s) is

-- a test that was passed
pub test-right : (b : Bool) (a : Stretch) (s : State) → IsRight (if b then a else wrong s) → (if b then a else wrong s) ≡ a
test-right true a s right = refl
test-right false a s right = absurd (right refl)

-- cells fit, or not
pub room-fits : (n : ℕ) (s : State) (a : Stretch) → HasRoom s.heap n → if_room n s a ≡ a
room-fits n s a fits = ap (λ b. if b then a else goes (Stop (Full (cells_used s.heap) n)) s) (le-leb (cells_used s.heap + n) s.heap.limit fits)

pub room-full : (n : ℕ) (s : State) (a : Stretch) → (HasRoom s.heap n → ⊥) → if_room n s a ≡ goes (Stop (Full (cells_used s.heap) n)) s
room-full n s a over =
    elim (leb_tells (cells_used s.heap + n) s.heap.limit) [
      | inl t ↦ absurd (over t.1)
      | inr t ↦ ap (λ b. if b then a else goes (Stop (Full (cells_used s.heap) n)) s) t.0
    ]

pub both-some : {A : Type 0} (a b : Bool) (x y : A) → (if a && b then Some x else None) ≡ Some y → (a ≡ true) × (b ≡ true) × (x ≡ y)
both-some true true x y h = (refl, refl, cc)
both-some true false x y h = absurd (cc)
both-some false b x y h = absurd (cc)

pub if-some : {A : Type 0} (b : Bool) (o : Option A) (y : A) → (if b then o else None) ≡ Some y → (b ≡ true) × (o ≡ Some y)
if-some true o y h = (refl, h)
if-some false o y h = absurd (cc)

pub both-true : (a b : Bool) → (a && b) ≡ true → (a ≡ true) × (b ≡ true)
both-true true b h = (refl, h)
both-true false b h = absurd (cc)
