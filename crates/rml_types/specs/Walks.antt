-- The search for a circle of classes, each an argument of the one before, by a way through the classes.
use Rattle.std.specs.Prelude.{◌≡◌, ℕ, zero, suc, ◌+◌, ◌*◌, ◌<◌, ◌≤◌, ◌⊎◌, List, [], ◌∷◌, length, slice_index, get_or, Option, Some}
use Rattle.rml_types.specs.declared.form.Form.{Form}
use Rattle.rml_types.specs.declared.graph.Mark.{Mark}
use Rattle.rml_types.specs.declared.graph.Mark.TheVariants as mark

abbrev pub mark_of : List Mark → ℕ → Mark
mark_of marks c = get_or marks c mark.New

-- the types below a class end within so many levels
abbrev pub Ends : (ℕ → ℕ) → (ℕ → Option Form) → ℕ → ℕ → Type 0
Ends root known zero c = ⊥
Ends root known (suc k) c = (f : Form) → known c ≡ Some f → (i : ℕ) → i < length f.args → Ends root known k (root (slice_index f.args i))

-- a size of classes, by their roots, that falls with each step down
abbrev pub Sizes : (ℕ → ℕ) → (ℕ → Option Form) → (ℕ → ℕ) → Type 0
Sizes root known size = (c : ℕ) (f : Form) → root c ≡ c → known c ≡ Some f → (i : ℕ) → i < length f.args → size (root (slice_index f.args i)) < size c

abbrev pub OnPath : ℕ → List (ℕ × ℕ) → Type 0
OnPath c [] = ⊥
OnPath c (p ∷ ps) = (p.0 ≡ c) ⊎ OnPath c ps

-- each class of a way has a lesser size than a number
abbrev pub Under : (ℕ → ℕ) → ℕ → List (ℕ × ℕ) → Type 0
Under size n [] = Unit {0}
Under size n (p ∷ ps) = (size p.0 < n) × Under size n ps

-- sizes fall along a way
abbrev pub Descends : (ℕ → ℕ) → List (ℕ × ℕ) → Type 0
Descends size [] = Unit {0}
Descends size (p ∷ ps) = Under size (size p.0) ps × Descends size ps

-- from one on and below another, the classes of some nodes are done with
abbrev pub DoneFrom : (ℕ → ℕ) → List Mark → List ℕ → ℕ → ℕ → Type 0
DoneFrom root marks args low high = (i : ℕ) → low ≤ i → i < high → i < length args → mark_of marks (root (slice_index args i)) ≡ mark.Done

-- each class of a way is a root, and its arguments are done with as far as the way says
abbrev pub Gone : (ℕ → ℕ) → (ℕ → Option Form) → List Mark → List (ℕ × ℕ) → Type 0
Gone root known marks [] = Unit {0}
Gone root known marks (p ∷ ps) = (p.0 < length marks) × (root p.0 ≡ p.0) × ((f : Form) → known p.0 ≡ Some f → DoneFrom root marks f.args 0 p.1) × Gone root known marks ps

-- the classes that are still new
abbrev pub new_marks : List Mark → ℕ
new_marks [] = 0
new_marks (mark.New ∷ ms) = suc (new_marks ms)
new_marks (m ∷ ms) = new_marks ms

-- What holds on the way: an open class is on it, it goes down, and what is done with ends.
pub record Walks (root : ℕ → ℕ) (known : ℕ → Option Form) (marks : List Mark) (path : List (ℕ × ℕ)) : Type 0 where
  pub opened : (c : ℕ) → mark_of marks c ≡ mark.Open → OnPath c path
  pub gone : Gone root known marks path
  pub descends : (size : ℕ → ℕ) → Sizes root known size → Descends size path
  pub levels : ℕ
  pub done : (c : ℕ) → mark_of marks c ≡ mark.Done → Ends root known levels c
  pub room : new_marks marks + length path ≤ length marks

-- a step of the search: what is done with stays so, what is new was new, and a class opened counts for two on the way
pub record Advance (root : ℕ → ℕ) (known : ℕ → Option Form) (marks : List Mark) (path : List (ℕ × ℕ)) (later : List Mark) (way : List (ℕ × ℕ)) : Type 0 where
  pub walks : Walks root known later way
  pub stays : (c : ℕ) → mark_of marks c ≡ mark.Done → mark_of later c ≡ mark.Done
  pub older : (c : ℕ) → mark_of later c ≡ mark.New → mark_of marks c ≡ mark.New
  pub falls : 2 * new_marks later + length way < 2 * new_marks marks + length path

-- an argument of a class, the first from one on that is not done with, and its class
pub record NextBelow (root : ℕ → ℕ) (known : ℕ → Option Form) (marks : List Mark) (class from i child : ℕ) : Type 0 where
  pub form : Form
  pub is : known class ≡ Some form
  pub within : i < length form.args
  pub after : from ≤ i
  pub child_is : child ≡ root (slice_index form.args i)
  pub child_in : child < length marks
  pub child_root : root child ≡ child
  pub unfinished : mark_of marks child ≡ mark.Done → ⊥
  pub before : DoneFrom root marks form.args from i

-- the search below a class came to its end
pub record Visited (root : ℕ → ℕ) (known : ℕ → Option Form) (marks later : List Mark) (class : ℕ) : Type 0 where
  pub walks : Walks root known later []
  pub stays : (c : ℕ) → mark_of marks c ≡ mark.Done → mark_of later c ≡ mark.Done
  pub done : mark_of later class ≡ mark.Done
