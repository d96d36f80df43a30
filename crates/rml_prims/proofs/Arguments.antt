-- Arguments by their kinds: what they are where a row has a meaning of them.
use Rattle.std.proofs.Common.{◌≡◌, ◌≢◌, ℕ, List, [], ◌∷◌, Option, Some, None, refl, ap, ◌∙◌}
use Rattle.rml_value.specs.declared.value.Value.{Value}
use Rattle.rml_builtin.specs.declared.applied.Applied.{Applied}
use Rattle.rml_builtin.specs.declared.applied.Applied.TheVariants.{Wrong}
use Rattle.rml_builtin.specs.Applied.{or_wrong}
use Rattle.rml_builtin.specs.Arguments.{one, two, pair_of}
use Rattle.rml_heap.specs.declared.cell.Cell.{Cell}
use Rattle.rml_heap.specs.Reading.{Stands, AllStand}

-- one argument, of this kind
pub record One {A : Type 0} (f : Value → Option A) (vs : List Value) : Type 0 where
  pub v : Value
  pub x : A
  pub is : vs ≡ v ∷ []
  pub first : f v ≡ Some x

-- two arguments, of these kinds
pub record Two {A B : Type 0} (f : Value → Option A) (g : Value → Option B) (vs : List Value) : Type 0 where
  pub v : Value
  pub w : Value
  pub x : A
  pub y : B
  pub is : vs ≡ v ∷ w ∷ []
  pub first : f v ≡ Some x
  pub second : g w ≡ Some y

some-told : {A : Type 0} (o : Option A) (go : A → Applied) → or_wrong o go ≢ Wrong → (x : A) × (o ≡ Some x)
some-told None go h = absurd (h refl)
some-told (Some x) go h = (x, refl)

pair-told : {A B : Type 0} (o : Option A) (p : Option B) (go : A × B → Applied) → or_wrong (pair_of o p) go ≢ Wrong → (x : A) × (y : B) × (o ≡ Some x) × (p ≡ Some y)
pair-told None p go h = absurd (h refl)
pair-told (Some x) None go h = absurd (h refl)
pair-told (Some x) (Some y) go h = (x, y, refl, refl)

pub one-told : {A : Type 0} (f : Value → Option A) (vs : List Value) (go : A → Applied) → or_wrong (one f vs) go ≢ Wrong → One f vs
one-told f [] go h = absurd (h refl)
one-told f (v ∷ []) go h = let told = some-told (f v) go h in record { v = v; x = told.0; is = refl; first = told.1 }
one-told f (v ∷ w ∷ vs) go h = absurd (h refl)

pub two-told : {A B : Type 0} (f : Value → Option A) (g : Value → Option B) (vs : List Value) (go : A × B → Applied) → or_wrong (two f g vs) go ≢ Wrong → Two f g vs
two-told f g [] go h = absurd (h refl)
two-told f g (v ∷ []) go h = absurd (h refl)
two-told f g (v ∷ w ∷ []) go h =
    let told = pair-told (f v) (g w) go h in
    record { v = v; w = w; x = told.0; y = told.1; is = refl; first = told.2; second = told.3 }
two-told f g (v ∷ w ∷ u ∷ vs) go h = absurd (h refl)

-- what is gone on with may be said in another way
pub wrong-same : {A : Type 0} (o : Option A) (go on : A → Applied) → ((x : A) → go x ≡ on x) → or_wrong o go ≡ or_wrong o on
wrong-same None go on same = refl
wrong-same (Some x) go on same = same x

pub one-given : {A : Type 0} (f : Value → Option A) (go : A → Applied) (v : Value) (x : A) → f v ≡ Some x → or_wrong (one f (v ∷ [])) go ≡ go x
one-given f go v x is = ap (λ o. or_wrong o go) is

pub two-given : {A B : Type 0} (f : Value → Option A) (g : Value → Option B) (go : A × B → Applied) (v w : Value) (x : A) (y : B) → f v ≡ Some x → g w ≡ Some y → or_wrong (two f g (v ∷ w ∷ [])) go ≡ go (x, y)
two-given f g go v w x y is is' = ap (λ o. or_wrong (pair_of o (g w)) go) is ∙ ap (λ o. or_wrong (pair_of (Some x) o) go) is'

-- ---- cells, one for one

pub one-cells : (cells : List Cell) (names : List ℕ) (top : ℕ) (cs : List Cell) (v : Value) → AllStand cells names top cs (v ∷ []) → (c : Cell) × (cs ≡ c ∷ []) × Stands cells names top c v
one-cells cells names top [] v h = absurd h
one-cells cells names top (c ∷ []) v h = (c, refl, h.0)
one-cells cells names top (c ∷ d ∷ cs) v h = absurd h.1

pub two-cells : (cells : List Cell) (names : List ℕ) (top : ℕ) (cs : List Cell) (v w : Value) → AllStand cells names top cs (v ∷ w ∷ []) → (c d : Cell) × (cs ≡ c ∷ d ∷ []) × Stands cells names top c v × Stands cells names top d w
two-cells cells names top [] v w h = absurd h
two-cells cells names top (c ∷ []) v w h = absurd h.1
two-cells cells names top (c ∷ d ∷ []) v w h = (c, d, refl, h.0, h.1.0)
two-cells cells names top (c ∷ d ∷ e ∷ cs) v w h = absurd h.1.1

pub one-values : (cells : List Cell) (names : List ℕ) (top : ℕ) (c : Cell) (vs : List Value) → AllStand cells names top (c ∷ []) vs → (v : Value) × (vs ≡ v ∷ []) × Stands cells names top c v
one-values cells names top c [] h = absurd h
one-values cells names top c (v ∷ []) h = (v, refl, h.0)
one-values cells names top c (v ∷ w ∷ vs) h = absurd h.1

pub two-values : (cells : List Cell) (names : List ℕ) (top : ℕ) (c d : Cell) (vs : List Value) → AllStand cells names top (c ∷ d ∷ []) vs → (v w : Value) × (vs ≡ v ∷ w ∷ []) × Stands cells names top c v × Stands cells names top d w
two-values cells names top c d [] h = absurd h
two-values cells names top c d (v ∷ []) h = absurd h.1
two-values cells names top c d (v ∷ w ∷ []) h = (v, w, refl, h.0, h.1.0)
two-values cells names top c d (v ∷ w ∷ u ∷ vs) h = absurd h.1.1
