use Rattle.std.proofs.Common.{◌≡◌, ℕ, zero, suc, ◌<◌, ◌≤◌, List, length, refl, sym, ap, ◌∙◌, arith}
use Rattle.std.specs.Prelude.{slice_index, if◌then◌else◌, ◌==◌, Bool, true, false}
use Rattle.std.proofs.lemmas.Bool.Decides.{nat_tests}
use Rattle.std.proofs.Math.ListN.{set}
use Rattle.std.proofs.lemmas.List.{get_or-set_other, get_or-set_same}
use Rattle.std.proofs.Common.{◌⊎◌, inl, inr}
use Rattle.rml_types.specs.UnionFind.{Falls, up, root_of, moved}

pub by-test : {X : Type 0} (b : Bool) (x y z w : X) → (b ≡ true → x ≡ z) → (b ≡ false → y ≡ w) → (if b then x else y) ≡ (if b then z else w)
by-test true x y z w h g = h refl
by-test false x y z w h g = g refl

-- steps enough are all alike
pub enough : (parents : List ℕ) (k j n : ℕ) → Falls parents → n < length parents → n ≤ k → n ≤ j → up parents k n ≡ up parents j n
enough parents zero zero n falls lt hk hj = refl
enough parents zero (suc j) n falls lt hk hj = let f = falls n lt in let e : (slice_index parents n == n) ≡ true = grind (arith, nat_tests) in rw e refl
enough parents (suc k) zero n falls lt hk hj = let f = falls n lt in let e : (slice_index parents n == n) ≡ true = grind (arith, nat_tests) in rw e refl
enough parents (suc k) (suc j) n falls lt hk hj =
    let f = falls n lt in
    by-test (slice_index parents n == n) n (up parents k (slice_index parents n)) n (up parents j (slice_index parents n)) (λ t. refl)
    (λ t. (let less : slice_index parents n < n = grind (arith, nat_tests) in enough parents k j (slice_index parents n) falls (omega arith) (omega arith) (omega arith)))

one-up : (parents : List ℕ) (k n : ℕ) → (slice_index parents n ≡ n → ⊥) → up parents (suc k) n ≡ up parents k (slice_index parents n)
one-up parents k n ne = let e : (slice_index parents n == n) ≡ false = grind (arith, nat_tests) in rw e refl

pub step-up : (parents : List ℕ) (n : ℕ) → Falls parents → n < length parents → (slice_index parents n ≡ n → ⊥) → root_of parents (slice_index parents n) ≡ root_of parents n
step-up parents n falls lt ne =
    let f = falls n lt in
    let p = slice_index parents n in
    enough parents p n p falls (omega arith) (omega arith) (omega arith) ∙ sym (one-up parents n n ne) ∙ enough parents (suc n) n n falls lt (omega arith) (omega arith)

pub at-end : (n b : ℕ) → (n ≡ b) ⊎ (n ≡ b → ⊥)
at-end n b = elim (n == b) as (λ v. (n == b) ≡ v → (n ≡ b) ⊎ (n ≡ b → ⊥)) [ true ↦ λ h. inl (grind (arith, nat_tests)) | false ↦ λ h. inr (λ e. grind (arith, nat_tests)) ] refl

pick : (a b : ℕ) (t : Bool) (x y z : ℕ) → (if x == b then a else x) ≡ x → (t ≡ false → y ≡ moved a b z) → (if t then x else y) ≡ moved a b (if t then x else z)
pick a b true x y z h g = sym h
pick a b false x y z h g = g refl

pub stays : (parents : List ℕ) (k n : ℕ) → slice_index parents n ≡ n → up parents k n ≡ n
stays parents zero n e = refl
stays parents (suc k) n e = let t : (slice_index parents n == n) ≡ true = grind (arith, nat_tests) in rw t refl

module _ (parents : List ℕ) (a b : ℕ) (falls : Falls parents) (less : a < b) (b_in : b < length parents) (a_root : slice_index parents a ≡ a) (b_root : slice_index parents b ≡ b) where
  other-parent : (n : ℕ) → (n ≡ b → ⊥) → slice_index (set parents b a) n ≡ slice_index parents n
  other-parent n ne = get_or-set_other parents b n a 0 ne

  new-parent : slice_index (set parents b a) b ≡ a
  new-parent = get_or-set_same parents b a 0 b_in

  at-b : (k : ℕ) → b ≤ suc k → up (set parents b a) (suc k) b ≡ moved a b (up parents (suc k) b)
  at-b k le =
      let ne : slice_index (set parents b a) b ≡ b → ⊥ = λ h. (let q : a ≡ b = sym new-parent ∙ h in omega arith) in
      let a_stays : slice_index (set parents b a) a ≡ a = other-parent a (λ h. omega arith) ∙ a_root in
      let t : (b == b) ≡ true = grind (arith, nat_tests) in
      one-up (set parents b a) k b ne ∙ ap (up (set parents b a) k) new-parent ∙ stays (set parents b a) k a a_stays ∙ sym (rw (stays parents (suc k) b b_root, t) refl)

  pub linked-up : (k n : ℕ) → n < length parents → n ≤ k → up (set parents b a) k n ≡ moved a b (up parents k n)
  linked-up zero n lt le = let t : (n == b) ≡ false = grind (arith, nat_tests) in rw t refl
  linked-up (suc k) n lt le = elim (at-end n b) [
    | inl e ↦ rw e (at-b k (omega arith))
    | inr ne ↦ (
        let f = falls n lt in
        let t : (n == b) ≡ false = grind (arith, nat_tests, ne) in
        rw (other-parent n ne) (pick a b (slice_index parents n == n) n (up (set parents b a) k (slice_index parents n)) (up parents k (slice_index parents n)) (rw t refl)
        (λ h. (let p : slice_index parents n < n = grind (arith, nat_tests) in linked-up k (slice_index parents n) (omega arith) (omega arith)))))
  ]
