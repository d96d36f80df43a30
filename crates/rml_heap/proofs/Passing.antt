-- Passing over the first cells of a task that are the same on both sides.
use Rattle.std.proofs.Common.{◌≡◌, ℕ, zero, suc, ◌+◌, ◌-◌, ◌*◌, ◌<◌, ◌≤◌, ◌↔◌, List, [], ◌∷◌, ◌++◌, length, refl, sym, ap, subst, ◌∙◌, arith, inl, inr}
use Rattle.std.proofs.Math.Nat.{mul-le-mul}
use Rattle.std.proofs.lemmas.Bool.Decides.{leb_tells}
use Rattle.rml_value.specs.declared.value.Value.{Value}
use Rattle.rml_heap.specs.declared.cell.Cell.{Cell}
use Rattle.rml_heap.specs.declared.equality.Task.{Task}
use Rattle.rml_heap.specs.Reading.{cell_at, look}
use Rattle.rml_heap.specs.Compared.{RunStands, IsReadable, IsSame, IsBelow, rest_of, AreNested, AreReadable, AreSame, cost, total}
use Rattle.rml_heap.proofs.Tasks.{First, Run, end_of, first-of, nested-join, nested-split, readable-join, readable-split, run-split, same-join, same-split, stands-inside, total-append}
use Rattle.rml_heap.proofs.Told.{told-same}

-- what is left of a task after so many cells
abbrev pub passed : ℕ → Task → Task
passed n t = record { left = t.left + n; right = t.right + n; count = t.count - n }

same-task : (t u : Task) → t.left ≡ u.left → t.right ≡ u.right → t.count ≡ u.count → t ≡ u
same-task t u left right count =
    ap (λ n. record { left = n; right = t.right; count = t.count }) left ∙ ap (λ n. record { left = u.left; right = n; count = t.count }) right ∙ ap (λ n. record { left = u.left; right = u.right; count = n }) count

-- it stands for values, and it is the same where the task is
record Keeps (cells : List Cell) (names : List ℕ) (t u : Task) : Type 0 where
  readable : IsReadable cells names u
  same : IsSame cells names t ↔ IsSame cells names u

-- the first of several cells is passed over
one-passed : (cells : List Cell) (names : List ℕ) (t : Task) → 1 < t.count → cell_at cells t.left ≡ cell_at cells t.right → IsReadable cells names t → Keeps cells names t (record { left = t.left + 1; right = t.right + 1; count = t.count - 1 })
one-passed cells names t several cells_are h =
    let some : 0 < t.count = omega (arith, several) in
    let f : First cells names t = first-of cells names t some h in
    let l = stands-inside cells names (t.left - 1) t.left f.v f.stands in
    let r = stands-inside cells names (t.right - 1) t.right f.w f.stands' in
    let equal : f.v ≡ f.w = told-same cells names (t.left - 1) (t.right - 1) (look cells t.left) (look cells t.right) f.v f.w (l.0 ∙ cells_are ∙ sym r.0) f.stands f.stands' in
    let next : Task = record { left = t.left + 1; right = t.right + 1; count = t.count - 1 } in
    elim (leb_tells 2 t.count) [
      | inl more ↦
          let left : rest_of t ≡ next ∷ [] = rw more.0 refl in
          let R : List Task → Type 0 = AreReadable cells names in
          let S : List Task → Type 0 = AreSame cells names in
          record { readable = (subst R left f.rest).0; same = (λ same. (subst S left (f.same.0 same).1).0, λ same. f.same.1 (equal, subst S (sym left) (same, tt))) }
      | inr last ↦ let few = last.1 in absurd (omega (arith, few, several))
    ]

keeps-passed : (cells : List Cell) (names : List ℕ) (n : ℕ) (t : Task) → n < t.count → ((i : ℕ) → i < n → cell_at cells (t.left + i) ≡ cell_at cells (t.right + i)) → IsReadable cells names t → Keeps cells names t (passed n t)
keeps-passed cells names zero t few each h =
    let is : t ≡ passed 0 t = same-task t (passed 0 t) (omega arith) (omega arith) (omega arith) in
    let P : Task → Type 0 = Keeps cells names t in
    subst P is (record { readable = h; same = (λ same. same, λ same. same) })
keeps-passed cells names (suc n) t few each h =
    let several : 1 < t.count = omega (arith, few) in
    let none : 0 < suc n = omega arith in
    let left : t.left ≡ t.left + 0 = omega arith in
    let right : t.right + 0 ≡ t.right = omega arith in
    let first : cell_at cells t.left ≡ cell_at cells t.right = ap (cell_at cells) left ∙ each 0 none ∙ ap (cell_at cells) right in
    let next : Task = record { left = t.left + 1; right = t.right + 1; count = t.count - 1 } in
    let one : Keeps cells names t next = one-passed cells names t several first h in
    let less : n < t.count - 1 = omega (arith, few) in
    let rest : Keeps cells names next (passed n next) =
    keeps-passed cells names n next less
    (λ i inside.
    let low : suc i < suc n = omega (arith, inside) in
    let l : t.left + 1 + i ≡ t.left + suc i = omega arith in
    let r : t.right + suc i ≡ t.right + 1 + i = omega arith in
    ap (cell_at cells) l ∙ each (suc i) low ∙ ap (cell_at cells) r)
    one.readable
    in
    let is : passed n next ≡ passed (suc n) t = same-task (passed n next) (passed (suc n) t) (omega arith) (omega arith) (omega arith) in
    let P : Task → Type 0 = Keeps cells names t in
    subst P is (record { readable = rest.readable; same = (λ same. rest.same.0 (one.same.0 same), λ same. one.same.1 (rest.same.1 same)) })

-- cells that stand for values are there
run-inside : (cells : List Cell) (names : List ℕ) (at n : ℕ) (vs : List Value) → RunStands cells names at (suc n) vs → at + suc n ≤ length cells
run-inside cells names at zero vs h =
    let r : Run cells names at 0 vs = run-split cells names at 0 vs h in
    let inside = (stands-inside cells names (at - 1) at r.first r.stands).1 in
    omega (arith, inside)
run-inside cells names at (suc n) vs h =
    let r : Run cells names at (suc n) vs = run-split cells names at (suc n) vs h in
    let rest = run-inside cells names (at + 1) n r.rest r.left in
    omega (arith, rest)

pub task-inside : (cells : List Cell) (names : List ℕ) (t : Task) → 0 < t.count → IsReadable cells names t → (t.left + t.count ≤ length cells) × (t.right + t.count ≤ length cells)
task-inside cells names t some h =
    let size : t.count ≡ suc (t.count - 1) = omega (arith, some) in
    let L : ℕ → Type 0 = λ n. RunStands cells names t.left n h.left in
    let R : ℕ → Type 0 = λ n. RunStands cells names t.right n h.right in
    let l = run-inside cells names t.left (t.count - 1) h.left (subst L size h.left_stands) in
    let r = run-inside cells names t.right (t.count - 1) h.right (subst R size h.right_stands) in
    (omega (arith, l, size), omega (arith, r, size))

-- ---- on the list of tasks, with the one that is passed over last

pub pass-leaves : (cells : List Cell) (names : List ℕ) (front : List Task) (t : Task) (n : ℕ) → n < t.count → ((i : ℕ) → i < n → cell_at cells (t.left + i) ≡ cell_at cells (t.right + i)) → AreReadable cells names (front ++ t ∷ [])
    → AreReadable cells names (front ++ passed n t ∷ []) × (AreSame cells names (front ++ t ∷ []) ↔ AreSame cells names (front ++ passed n t ∷ []))
pass-leaves cells names front t n few each readable =
    let parts = readable-split cells names front (t ∷ []) readable in
    let k : Keeps cells names t (passed n t) = keeps-passed cells names n t few each parts.1.0 in (
      readable-join cells names front (passed n t ∷ []) parts.0 (k.readable, tt),
      (
        λ same. let both = same-split cells names front (t ∷ []) same in same-join cells names front (passed n t ∷ []) both.0 (k.same.0 both.1.0, tt),
        λ same. let both = same-split cells names front (passed n t ∷ []) same in same-join cells names front (t ∷ []) both.0 (k.same.1 both.1.0, tt),
      ),
    )

pub pass-nested : (top : ℕ) (front : List Task) (t : Task) (n : ℕ) → n < t.count → AreNested top (front ++ t ∷ []) → AreNested top (front ++ passed n t ∷ [])
pass-nested top front t n few nested =
    let parts = nested-split top front (t ∷ []) nested in
    let below : IsBelow (end_of top front) t = parts.1.0 in
    let left = below.left in
    let right = below.right in
    let within = below.within in
    nested-join top front (passed n t ∷ []) parts.0 (record { left = omega (arith, left); right = omega (arith, right); count = omega (arith, few); within = omega (arith, within, few) }, tt)

pub pass-total : (front : List Task) (t : Task) (n : ℕ) → n < t.count → total (front ++ passed n t ∷ []) ≤ total (front ++ t ∷ [])
pass-total front t n few =
    let before = total-append front (t ∷ []) in
    let after = total-append front (passed n t ∷ []) in
    let end : t.left + n + (t.count - n) ≡ t.left + t.count = omega (arith, few) in
    let same : cost (t.left + n + (t.count - n)) ≤ cost (t.left + t.count) = let e = ap cost end in omega (arith, e) in
    let fewer : t.count - n ≤ t.count = omega arith in
    let less : (t.count - n) * cost (t.left + n + (t.count - n)) ≤ t.count * cost (t.left + t.count) = mul-le-mul fewer same in
    omega (arith, before, after, less)
