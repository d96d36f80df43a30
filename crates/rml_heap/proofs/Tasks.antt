-- A list of tasks: how it is nested, what its tasks stand for, and that it falls.
use Rattle.std.proofs.Common.{◌≡◌, ◌≢◌, ℕ, zero, suc, ◌+◌, ◌-◌, ◌*◌, ◌<◌, ◌≤◌, ◌↔◌, Bool, List, [], ◌∷◌, ◌++◌, None, length, get_or, refl, sym, ap, subst, ◌∙◌, arith, inl, inr}
use Rattle.std.specs.Prelude.{if◌then◌else◌}
use Rattle.std.proofs.Math.Nat.{mul-le-mul}
use Rattle.std.proofs.lemmas.List.{get_or_past, get_or_default}
use Rattle.std.proofs.lemmas.Bool.{cases_lt}
use Rattle.std.proofs.lemmas.Bool.Decides.{leb_tells}
use Rattle.rml_value.specs.declared.value.Value.{Value}
use Rattle.rml_heap.specs.declared.cell.Cell.{Cell}
use Rattle.rml_heap.specs.declared.equality.Task.{Task}
use Rattle.rml_heap.specs.declared.equality.Compared.{Compared}
use Rattle.rml_heap.specs.declared.equality.Compared.TheVariants.{Same, Different, Parts}
use Rattle.rml_heap.specs.HeapState.{unset_cell}
use Rattle.rml_heap.specs.Reading.{cell_at, look, looks, value_below, Stands, AllStand}
use Rattle.rml_heap.specs.Compared.{AreValues, RunStands, IsReadable, IsSame, IsBelow, ByParts, Tells, rest_of, AreNested, AreReadable, AreSame, cost, total}
use Rattle.rml_heap.proofs.Readings.{below-none, below-higher}
use Rattle.rml_heap.proofs.Told.{one-list, look-is, none-stands}

-- ---- nesting

-- the top below which what follows a list of tasks lies
abbrev pub end_of : ℕ → List Task → ℕ
end_of top [] = top
end_of top (task ∷ tasks) = end_of (task.left - 1) tasks

pub nested-split : (top : ℕ) (ts us : List Task) → AreNested top (ts ++ us) → AreNested top ts × AreNested (end_of top ts) us
nested-split top [] us h = (tt, h)
nested-split top (t ∷ ts) us h = let rest = nested-split (t.left - 1) ts us h.1 in ((h.0, rest.0), rest.1)

pub nested-join : (top : ℕ) (ts us : List Task) → AreNested top ts → AreNested (end_of top ts) us → AreNested top (ts ++ us)
nested-join top [] us h k = k
nested-join top (t ∷ ts) us h k = (h.0, nested-join (t.left - 1) ts us h.1 k)

-- a task takes two cells of room at least
pub nested-room : (top : ℕ) (ts : List Task) → AreNested top ts → 2 * length ts ≤ top
nested-room top [] h = omega arith
nested-room top (t ∷ ts) h =
    let rest = nested-room (t.left - 1) ts h.1 in
    let left = h.0.left in
    let count = h.0.count in
    let within = h.0.within in
    omega (arith, rest, left, count, within)

below-weaker : (low top : ℕ) (t : Task) → low ≤ top → IsBelow low t → IsBelow top t
below-weaker low top t le h = record { left = h.left; right = h.right; count = h.count; within = let within = h.within in omega (arith, le, within) }

-- what is left of a task, and parts of its first cell, lie where the task lay
pub rest-nested : (top : ℕ) (t : Task) → IsBelow top t → AreNested top (rest_of t)
rest-nested top t h = elim (leb_tells 2 t.count) [
  | inl more ↦
      let count : 1 < t.count = more.1 in
      let within = h.within in
      rw more.0 (record { left = omega arith; right = omega arith; count = omega (arith, count); within = omega (arith, within, count) }, tt)
  | inr last ↦ rw last.0 tt
]

pub parts-nested : (top : ℕ) (t p : Task) → IsBelow top t → IsBelow (t.left - 1) p → AreNested top (rest_of t ++ p ∷ [])
parts-nested top t p h k =
    let within = h.within in
    let count = h.count in
    elim (leb_tells 2 t.count) [
      | inl more ↦
          let several : 1 < t.count = more.1 in
          let low : t.left - 1 ≤ t.left + 1 - 1 = omega arith in
          rw more.0 (record { left = omega arith; right = omega arith; count = omega (arith, several); within = omega (arith, within, several) }, (below-weaker (t.left - 1) (t.left + 1 - 1) p low k, tt))
      | inr last ↦ rw last.0 (below-weaker (t.left - 1) top p (omega (arith, within)) k, tt)
    ]

-- ---- the measure

cost-more : (n : ℕ) → cost n ≤ cost (suc n)
unfolding cost
cost-more n = let one : 1 * cost n ≤ suc n * cost n = mul-le-mul (omega arith) (omega arith) in omega (arith, one)

cost-grows : (m n : ℕ) → cost m ≤ cost (n + m)
cost-grows m zero = let e : zero + m ≡ m = omega arith in rw e (omega arith)
cost-grows m (suc n) =
    let e : suc n + m ≡ suc (n + m) = omega arith in
    let rest = cost-grows m n in
    let step = cost-more (n + m) in
    rw e (omega (arith, rest, step))

cost-monotone : (m n : ℕ) → m ≤ n → cost m ≤ cost n
cost-monotone m n le =
    let e : n - m + m ≡ n = omega (arith, le) in
    let P : ℕ → Type 0 = λ k. cost m ≤ cost k in
    subst P e (cost-grows m (n - m))

cost-some : (n : ℕ) → 0 < cost n
unfolding cost
cost-some zero = omega arith
cost-some (suc n) = omega arith

-- the parts of a block that ends below n cost less than a cell below n
cost-parts : (count end n : ℕ) → count ≤ end → end < n → count * cost end < cost n
unfolding cost
cost-parts count end zero few below = absurd (omega (arith, below))
cost-parts count end (suc n) few below =
    let low : end ≤ n = omega (arith, below) in
    let wide : count ≤ suc n = omega (arith, few, low) in
    let most : count * cost end ≤ suc n * cost n = mul-le-mul wide (cost-monotone end n low) in
    omega (arith, most)

pub total-append : (ts us : List Task) → total (ts ++ us) ≡ total ts + total us
total-append [] us = omega arith
total-append (t ∷ ts) us = let rest = total-append ts us in omega (arith, rest)

rest-total : (t : Task) → 0 < t.count → total (rest_of t) + cost (t.left + t.count) ≤ t.count * cost (t.left + t.count)
rest-total t count = elim (leb_tells 2 t.count) [
  | inl more ↦
      let several : 1 < t.count = more.1 in
      let end : t.left + 1 + (t.count - 1) ≡ t.left + t.count = omega (arith, several) in
      let split : t.count ≡ t.count - 1 + 1 = omega (arith, several) in
      rw more.0 (rw end (all_but (t.count - 1) t.count (cost (t.left + t.count)) split))
  | inr last ↦
      let one : t.count ≡ 1 = let few = last.1 in omega (arith, few, count) in
      rw last.0 (single t.count (cost (t.left + t.count)) one)
]
  where
    all_but : (n m c : ℕ) → m ≡ n + 1 → n * c + 0 + c ≤ m * c
    all_but n m c is = let e : m * c ≡ (n + 1) * c = ap (λ k. k * c) is in omega (arith, e)

    single : (m c : ℕ) → m ≡ 1 → 0 + c ≤ m * c
    single m c is = let e : m * c ≡ 1 * c = ap (λ k. k * c) is in omega (arith, e)

pub rest-falls : (front : List Task) (t : Task) → 0 < t.count → total (front ++ rest_of t) < total (front ++ t ∷ [])
rest-falls front t count =
    let some = cost-some (t.left + t.count) in
    let less = rest-total t count in
    let before = total-append front (t ∷ []) in
    let after = total-append front (rest_of t) in
    omega (arith, some, less, before, after)

pub parts-fall : (front : List Task) (t p : Task) → 0 < t.count → IsBelow (t.left - 1) p → total (front ++ (rest_of t ++ p ∷ [])) < total (front ++ t ∷ [])
parts-fall front t p count below =
    let within = below.within in
    let few : p.count ≤ p.left + p.count = omega arith in
    let low : p.left + p.count < t.left + t.count = omega (arith, within, count) in
    let part : p.count * cost (p.left + p.count) < cost (t.left + t.count) = cost-parts p.count (p.left + p.count) (t.left + t.count) few low in
    let less = rest-total t count in
    let before = total-append front (t ∷ []) in
    let after = total-append front (rest_of t ++ p ∷ []) in
    let inner = total-append (rest_of t) (p ∷ []) in
    omega (arith, part, less, before, after, inner)

-- ---- what tasks stand for

pub readable-split : (cells : List Cell) (names : List ℕ) (ts us : List Task) → AreReadable cells names (ts ++ us) → AreReadable cells names ts × AreReadable cells names us
readable-split cells names [] us h = (tt, h)
readable-split cells names (t ∷ ts) us h = let rest = readable-split cells names ts us h.1 in ((h.0, rest.0), rest.1)

pub readable-join : (cells : List Cell) (names : List ℕ) (ts us : List Task) → AreReadable cells names ts → AreReadable cells names us → AreReadable cells names (ts ++ us)
readable-join cells names [] us h k = k
readable-join cells names (t ∷ ts) us h k = (h.0, readable-join cells names ts us h.1 k)

pub same-split : (cells : List Cell) (names : List ℕ) (ts us : List Task) → AreSame cells names (ts ++ us) → AreSame cells names ts × AreSame cells names us
same-split cells names [] us h = (tt, h)
same-split cells names (t ∷ ts) us h = let rest = same-split cells names ts us h.1 in ((h.0, rest.0), rest.1)

pub same-join : (cells : List Cell) (names : List ℕ) (ts us : List Task) → AreSame cells names ts → AreSame cells names us → AreSame cells names (ts ++ us)
same-join cells names [] us h k = k
same-join cells names (t ∷ ts) us h k = (h.0, same-join cells names ts us h.1 k)

pub all-higher : (cells : List Cell) (names : List ℕ) (low top : ℕ) (cs : List Cell) (vs : List Value) → low ≤ top → AllStand cells names low cs vs → AllStand cells names top cs vs
all-higher cells names low top [] [] le h = tt
all-higher cells names low top [] (v ∷ vs) le h = h
all-higher cells names low top (c ∷ cs) [] le h = h
all-higher cells names low top (c ∷ cs) (v ∷ vs) le h = ((h.0.0, below-higher h.0.0 cells names low top c v le h.0.1), all-higher cells names low top cs vs le h.1)

-- a cell that stands for a value is there
pub stands-inside : (cells : List Cell) (names : List ℕ) (top at : ℕ) (v : Value) → Stands cells names top (look cells at) v → (look cells at ≡ cell_at cells at) × (at < length cells)
stands-inside cells names top at v h =
    let hidden : look cells at ≢ unset_cell = λ e. let is : value_below h.0 cells names top (look cells at) ≡ None = ap (value_below h.0 cells names top) e ∙ below-none h.0 cells names top in cc in
    elim (look-is cells at) [
      | inl unset ↦ absurd (hidden unset)
      | inr seen ↦ (
        seen,
        elim (cases_lt at (length cells)) [
          | inl inside ↦ inside
          | inr past ↦ absurd (hidden (seen ∙ get_or_past cells at unset_cell past))
        ],
      )
    ]

-- the first of a run, and the rest
pub record Run (cells : List Cell) (names : List ℕ) (at m : ℕ) (vs : List Value) : Type 0 where
  pub first : Value
  pub rest : List Value
  pub is : vs ≡ first ∷ rest
  pub stands : Stands cells names (at - 1) (look cells at) first
  pub left : RunStands cells names (at + 1) m rest

pub run-split : (cells : List Cell) (names : List ℕ) (at m : ℕ) (vs : List Value) → RunStands cells names at (suc m) vs → Run cells names at m vs
run-split cells names at m [] h = absurd h
run-split cells names at m (v ∷ vs) h =
    let low : at - 1 ≤ at + 1 - 1 = omega arith in
    let next : suc at ≡ at + 1 = omega arith in
    let P : ℕ → Type 0 = λ n. AllStand cells names (at - 1) (looks cells n m) vs in
    record { first = v; rest = vs; is = refl; stands = h.0; left = all-higher cells names (at - 1) (at + 1 - 1) (looks cells (at + 1) m) vs low (subst P next h.1) }

-- a task that is not done: its first cells, and what is left
pub record First (cells : List Cell) (names : List ℕ) (t : Task) : Type 0 where
  pub v : Value
  pub w : Value
  pub stands : Stands cells names (t.left - 1) (look cells t.left) v
  pub stands' : Stands cells names (t.right - 1) (look cells t.right) w
  pub rest : AreReadable cells names (rest_of t)
  pub same : IsSame cells names t ↔ ((v ≡ w) × AreSame cells names (rest_of t))

-- the rest of two runs, as a task
rest-readable : (cells : List Cell) (names : List ℕ) (t : Task) (vs ws : List Value) → RunStands cells names (t.left + 1) (t.count - 1) vs → RunStands cells names (t.right + 1) (t.count - 1) ws → AreReadable cells names (rest_of t)
rest-readable cells names t vs ws h k = elim (leb_tells 2 t.count) [
  | inl more ↦ rw more.0 (record { left = vs; right = ws; left_stands = h; right_stands = k }, tt)
  | inr last ↦ rw last.0 tt
]

rest-same : (cells : List Cell) (names : List ℕ) (t : Task) (vs ws : List Value) → RunStands cells names (t.left + 1) (t.count - 1) vs → RunStands cells names (t.right + 1) (t.count - 1) ws → vs ≡ ws → AreSame cells names (rest_of t)
rest-same cells names t vs ws h k same = elim (leb_tells 2 t.count) [
  | inl more ↦
      let each : IsSame cells names (record { left = t.left + 1; right = t.right + 1; count = t.count - 1 }) =
      λ vs' ws' h' k'.
      one-list cells names (t.left + 1 - 1) (looks cells (t.left + 1) (t.count - 1)) vs' vs h' h ∙ same ∙ one-list cells names (t.right + 1 - 1) (looks cells (t.right + 1) (t.count - 1)) ws ws' k k'
      in
      rw more.0 (each, tt)
  | inr last ↦ rw last.0 tt
]

no-run : (cells : List Cell) (names : List ℕ) (at n : ℕ) (vs : List Value) → n ≡ 0 → RunStands cells names at n vs → vs ≡ []
no-run cells names at n vs none h = let P : ℕ → Type 0 = λ k. RunStands cells names at k vs in none-stands cells names (at - 1) vs (subst P none h)

same-rest : (cells : List Cell) (names : List ℕ) (t : Task) (vs ws : List Value) → RunStands cells names (t.left + 1) (t.count - 1) vs → RunStands cells names (t.right + 1) (t.count - 1) ws → AreSame cells names (rest_of t) → vs ≡ ws
same-rest cells names t vs ws h k same = elim (leb_tells 2 t.count) [
  | inl more ↦
      let tasks : List Task = record { left = t.left + 1; right = t.right + 1; count = t.count - 1 } ∷ [] in
      let P : Bool → Type 0 = λ b. AreSame cells names (if b then tasks else []) in
      let each : AreSame cells names tasks = subst P more.0 same in
      each.0 vs ws h k
  | inr last ↦
      let none : t.count - 1 ≡ 0 = let few = last.1 in omega (arith, few) in
      no-run cells names (t.left + 1) (t.count - 1) vs none h ∙ sym (no-run cells names (t.right + 1) (t.count - 1) ws none k)
]

heads-equal : (v w : Value) (vs ws : List Value) → v ∷ vs ≡ w ∷ ws → (v ≡ w) × (vs ≡ ws)
heads-equal v w vs ws h = (cc, cc)

pub first-of : (cells : List Cell) (names : List ℕ) (t : Task) → 0 < t.count → IsReadable cells names t → First cells names t
first-of cells names t some h =
    let size : t.count ≡ suc (t.count - 1) = omega (arith, some) in
    let L : ℕ → Type 0 = λ n. RunStands cells names t.left n h.left in
    let R : ℕ → Type 0 = λ n. RunStands cells names t.right n h.right in
    let l : Run cells names t.left (t.count - 1) h.left = run-split cells names t.left (t.count - 1) h.left (subst L size h.left_stands) in
    let r : Run cells names t.right (t.count - 1) h.right = run-split cells names t.right (t.count - 1) h.right (subst R size h.right_stands) in
    record {
      v = l.first;
      w = r.first;
      stands = l.stands;
      stands' = r.stands;
      rest = rest-readable cells names t l.rest r.rest l.left r.left;
      same = (
        λ each.
            let both = heads-equal l.first r.first l.rest r.rest (sym l.is ∙ each h.left h.right h.left_stands h.right_stands ∙ r.is) in
            (both.0, rest-same cells names t l.rest r.rest l.left r.left both.1),
        λ both vs ws h' k'.
            one-list cells names (t.left - 1) (looks cells t.left t.count) vs h.left h' h.left_stands
            ∙ l.is
            ∙ ap (λ u. u ∷ l.rest) both.0
            ∙ ap (λ us. r.first ∷ us) (same-rest cells names t l.rest r.rest l.left r.left both.1)
            ∙ sym r.is
            ∙ one-list cells names (t.right - 1) (looks cells t.right t.count) h.right ws h.right_stands k',
      );
    }

-- ---- one step, on the list of tasks with the one that is taken last

module _ (cells : List Cell) (front : List Task) (t : Task) (d : Cell) where
  abbrev pub Before : List Task
  Before = front ++ t ∷ []

  abbrev pub Left : Cell
  Left = get_or cells t.left d

  abbrev pub Right : Cell
  Right = get_or cells t.right d

  last-below : AreNested (length cells) Before → IsBelow (end_of (length cells) front) t
  last-below nested = (nested-split (length cells) front (t ∷ []) nested).1.0

  pub last-some : AreNested (length cells) Before → 0 < t.count
  last-some nested = (last-below nested).count

  last-first : (names : List ℕ) → AreNested (length cells) Before → AreReadable cells names Before → First cells names t
  last-first names nested readable = first-of cells names t (last-some nested) (readable-split cells names front (t ∷ []) readable).1.0

  -- what the code reads are the first cells
  pub record Reads (names : List ℕ) : Type 0 where
    pub first : First cells names t
    pub inside : t.left < length cells
    pub inside' : t.right < length cells
    pub stands : Stands cells names (t.left - 1) Left first.v
    pub stands' : Stands cells names (t.right - 1) Right first.w

  pub last-reads : (names : List ℕ) → AreNested (length cells) Before → AreReadable cells names Before → Reads names
  last-reads names nested readable =
      let f = last-first names nested readable in
      let l = stands-inside cells names (t.left - 1) t.left f.v f.stands in
      let r = stands-inside cells names (t.right - 1) t.right f.w f.stands' in
      let P : Cell → Type 0 = λ c. Stands cells names (t.left - 1) c f.v in
      let Q : Cell → Type 0 = λ c. Stands cells names (t.right - 1) c f.w in
      record {
        first = f;
        inside = l.1;
        inside' = r.1;
        stands = subst P (l.0 ∙ get_or_default cells t.left unset_cell d l.1) f.stands;
        stands' = subst Q (r.0 ∙ get_or_default cells t.right unset_cell d r.1) f.stands';
      }

  pub last-values : (names : List ℕ) → AreNested (length cells) Before → AreReadable cells names Before → AreValues cells Left Right
  last-values names nested readable =
      let r = last-reads names nested readable in
      record {
        names = names;
        top = t.left - 1;
        below = t.right - 1;
        left = r.first.v;
        right = r.first.w;
        left_stands = r.stands;
        right_stands = r.stands';
        within = let inside = r.inside in omega (arith, inside);
      }

  -- what was told of the first cells, under any names
  abbrev pub Told : Compared → Type 0
  Told result = (names : List ℕ) (top below : ℕ) (v w : Value) → Stands cells names top Left v → Stands cells names below Right w → Tells cells names top v w result

  front-of : (names : List ℕ) → AreReadable cells names Before → AreReadable cells names front
  front-of names readable = (readable-split cells names front (t ∷ []) readable).0

  pub step-same : (names : List ℕ) → AreNested (length cells) Before → AreReadable cells names Before → Told Same
      → AreReadable cells names (front ++ rest_of t) × (AreSame cells names Before ↔ AreSame cells names (front ++ rest_of t))
  step-same names nested readable told =
      let r = last-reads names nested readable in
      let f = r.first in
      let equal : f.v ≡ f.w = told names (t.left - 1) (t.right - 1) f.v f.w r.stands r.stands' in (
        readable-join cells names front (rest_of t) (front-of names readable) f.rest,
        (
          λ same.
              let parts = same-split cells names front (t ∷ []) same in
              same-join cells names front (rest_of t) parts.0 (f.same.0 parts.1.0).1,
          λ same.
              let parts = same-split cells names front (rest_of t) same in
              same-join cells names front (t ∷ []) parts.0 (f.same.1 (equal, parts.1), tt),
        ),
      )

  pub step-different : (names : List ℕ) → AreNested (length cells) Before → AreReadable cells names Before → Told Different → AreSame cells names Before → ⊥
  step-different names nested readable told same =
      let r = last-reads names nested readable in
      let f = r.first in
      let parts = same-split cells names front (t ∷ []) same in
      told names (t.left - 1) (t.right - 1) f.v f.w r.stands r.stands' (f.same.0 parts.1.0).0

  pub step-parts : (names : List ℕ) (p : Task) → AreNested (length cells) Before → AreReadable cells names Before → Told (Parts p)
      → AreReadable cells names (front ++ (rest_of t ++ p ∷ [])) × (AreSame cells names Before ↔ AreSame cells names (front ++ (rest_of t ++ p ∷ [])))
  step-parts names p nested readable told =
      let r = last-reads names nested readable in
      let f = r.first in
      let by : ByParts cells names (t.left - 1) f.v f.w p = told names (t.left - 1) (t.right - 1) f.v f.w r.stands r.stands' in (
        readable-join cells names front (rest_of t ++ p ∷ []) (front-of names readable) (readable-join cells names (rest_of t) (p ∷ []) f.rest (by.readable, tt)),
        (
          λ same.
              let parts = same-split cells names front (t ∷ []) same in
              let both = f.same.0 parts.1.0 in
              same-join cells names front (rest_of t ++ p ∷ []) parts.0 (same-join cells names (rest_of t) (p ∷ []) both.1 (by.same.0 both.0, tt)),
          λ same.
              let parts = same-split cells names front (rest_of t ++ p ∷ []) same in
              let rest = same-split cells names (rest_of t) (p ∷ []) parts.1 in
              same-join cells names front (t ∷ []) parts.0 (f.same.1 (by.same.1 rest.1.0, rest.0), tt),
        ),
      )

  pub step-below : (names : List ℕ) (p : Task) → AreNested (length cells) Before → AreReadable cells names Before → Told (Parts p) → IsBelow (t.left - 1) p
  step-below names p nested readable told =
      let r = last-reads names nested readable in
      (told names (t.left - 1) (t.right - 1) r.first.v r.first.w r.stands r.stands').below

  pub step-rest : AreNested (length cells) Before → AreNested (length cells) (front ++ rest_of t)
  step-rest nested =
      let parts = nested-split (length cells) front (t ∷ []) nested in
      nested-join (length cells) front (rest_of t) parts.0 (rest-nested (end_of (length cells) front) t parts.1.0)

  pub step-nested : (p : Task) → AreNested (length cells) Before → IsBelow (t.left - 1) p → AreNested (length cells) (front ++ (rest_of t ++ p ∷ []))
  step-nested p nested below =
      let parts = nested-split (length cells) front (t ∷ []) nested in
      nested-join (length cells) front (rest_of t ++ p ∷ []) parts.0 (parts-nested (end_of (length cells) front) t p parts.1.0 below)
