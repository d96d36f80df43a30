-- What is told of two cells whose values are compared, and what it is that is left to compare.
use Rattle.std.specs.Prelude.{ℕ, zero, suc, ◌≡◌, ◌≢◌, ◌+◌, ◌-◌, ◌*◌, ◌<◌, ◌≤◌, ◌↔◌, Bool, true, false, nat_lt, if◌then◌else◌, List, [], ◌∷◌, length}
use Rattle.rml_value.specs.declared.value.Value.{Value}
use Rattle.rml_heap.specs.declared.cell.Cell.{Cell}
use Rattle.rml_heap.specs.declared.equality.Task.{Task}
use Rattle.rml_heap.specs.declared.equality.Compared.{Compared}
use Rattle.rml_heap.specs.declared.equality.Compared.TheVariants.{Same, Different, Parts}
use Rattle.rml_heap.specs.Reading.{looks, Stands, AllStand}

-- two cells stand for values, under the same names
pub record AreValues (cells : List Cell) (a b : Cell) : Type 0 where
  pub names : List ℕ
  pub top : ℕ
  pub below : ℕ
  pub left : Value
  pub right : Value
  pub left_stands : Stands cells names top a left
  pub right_stands : Stands cells names below b right
  pub within : top ≤ length cells

-- so many cells from an address on, which are parts of a block whose head is below them
abbrev pub RunStands : List Cell → List ℕ → ℕ → ℕ → List Value → Type 0
RunStands cells names at count vs = AllStand cells names (at - 1) (looks cells at count) vs

-- what a task compares stands for values
pub record IsReadable (cells : List Cell) (names : List ℕ) (task : Task) : Type 0 where
  pub left : List Value
  pub right : List Value
  pub left_stands : RunStands cells names task.left task.count left
  pub right_stands : RunStands cells names task.right task.count right

-- and for the same
abbrev pub IsSame : List Cell → List ℕ → Task → Type 0
IsSame cells names task = (vs ws : List Value) → RunStands cells names task.left task.count vs → RunStands cells names task.right task.count ws → vs ≡ ws

-- parts that lie below a top
pub record IsBelow (top : ℕ) (task : Task) : Type 0 where
  pub left : 0 < task.left
  pub right : 0 < task.right
  pub count : 0 < task.count
  pub within : task.left + task.count ≤ top

-- the values of two cells, the first of which stands below a top, are the same, or different, or the same where these parts are
pub record ByParts (cells : List Cell) (names : List ℕ) (top : ℕ) (v w : Value) (task : Task) : Type 0 where
  pub below : IsBelow top task
  pub readable : IsReadable cells names task
  pub same : (v ≡ w) ↔ IsSame cells names task

abbrev pub Tells : List Cell → List ℕ → ℕ → Value → Value → Compared → Type 0
Tells cells names top v w Same = v ≡ w
Tells cells names top v w Different = v ≢ w
Tells cells names top v w (Parts task) = ByParts cells names top v w task

-- ---- a list of tasks, the last of which is done first

-- what is left of a task once its first cells are compared
abbrev pub rest_of : Task → List Task
rest_of task = if nat_lt 1 task.count then record { left = task.left + 1; right = task.right + 1; count = task.count - 1 } ∷ [] else []

-- each lies below the block of the one before it
abbrev pub AreNested : ℕ → List Task → Type 0
AreNested top [] = Unit {0}
AreNested top (task ∷ tasks) = IsBelow top task × AreNested (task.left - 1) tasks

abbrev pub AreReadable : List Cell → List ℕ → List Task → Type 0
AreReadable cells names [] = Unit {0}
AreReadable cells names (task ∷ tasks) = IsReadable cells names task × AreReadable cells names tasks

abbrev pub AreSame : List Cell → List ℕ → List Task → Type 0
AreSame cells names [] = Unit {0}
AreSame cells names (task ∷ tasks) = IsSame cells names task × AreSame cells names tasks

-- after a step there is as much to compare as before, or something was different
abbrev pub Leaves : List Cell → List ℕ → List Task → List Task → Bool → Type 0
Leaves cells names before after true = AreReadable cells names after × (AreSame cells names before ↔ AreSame cells names after)
Leaves cells names before after false = AreSame cells names before → ⊥

-- at most so many comparisons are made for one cell that lies below this address, and for a list of tasks
unfoldable pub cost : ℕ → ℕ
cost zero = 1
cost (suc n) = suc (suc n * cost n)

abbrev pub total : List Task → ℕ
total [] = 0
total (task ∷ tasks) = task.count * cost (task.left + task.count) + total tasks
