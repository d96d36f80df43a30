-- What a type graph keeps at every moment.
use Rattle.std.specs.Prelude.{◌≡◌, ℕ, ◌<◌, ◌≤◌, List, length, slice_index, get_or, Option, Some, None, option_and_then}
use Rattle.rml_types.specs.declared.form.Form.{Form}
use Rattle.rml_types.specs.declared.form.UnifyErr.TheVariants.{Memory}
use Rattle.rml_types.specs.Nodes.{Nodes, Fits, form_in, form_of, class_of}
use Rattle.rml_types.specs.Waiting.{Closed}

-- a form that a further node may have
pub record MayHave (g : Nodes) (f : Form) : Type 0 where
  pub fits : Fits f.con (length f.args)
  pub within : (i : ℕ) → i < length f.args → slice_index f.args i < length g.forms

-- of a root, the form of the node that its class is known by, if it is known
abbrev pub known_by : List (Option Form) → List (Option ℕ) → ℕ → Option Form
known_by forms shapes c = option_and_then (form_in forms) (get_or shapes c None)

-- the forms of nodes: whole, over nodes, and of a class one is known
pub record IsGraph (g : Nodes) (shapes : List (Option ℕ)) : Type 0 where
  pub count : length g.roots ≡ length g.forms
  pub shape_count : length shapes ≡ length g.forms
  pub fits : (n : ℕ) (f : Form) → form_of g n ≡ Some f → Fits f.con (length f.args)
  pub arguments : (n : ℕ) (f : Form) → form_of g n ≡ Some f → (i : ℕ) → i < length f.args → slice_index f.args i < length g.forms
  pub rooted : (n : ℕ) → n < length g.forms → class_of g n < length g.forms
  pub own : (n : ℕ) → class_of g (class_of g n) ≡ class_of g n
  pub shaped : (c s : ℕ) → class_of g c ≡ c → get_or shapes c None ≡ Some s → (class_of g s ≡ c) × ((f : Form) × (form_of g s ≡ Some f))
  pub closed : g.failed ≡ None → Closed (form_of g) (class_of g) (known_by g.forms shapes)

-- a graph with room for a mark of each node, and for a path through all of them
pub record HasRoom (g : Nodes) (marks room : ℕ) : Type 0 where
  pub marked : marks ≡ length g.forms
  pub walked : length g.forms ≤ room

-- what is kept whether an equation was refused or not
abbrev pub IsOpen : List (Option Form) → List ℕ → List (Option ℕ) → Type 0
IsOpen forms roots shapes = IsGraph (record { forms = forms; roots = roots; failed = Some Memory }) shapes
