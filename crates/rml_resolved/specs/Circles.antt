-- Circles in a graph, which has for each number the list of the numbers that it needs.
use Rattle.std.specs.Prelude.{ℕ, zero, suc, Bool, false, List, [], ◌∷◌, ◌++◌, ◌<◌, map, length, slice_get, unwrap_or}
use Rattle.std.specs.List.{list_all, concat, Contains}
use Rattle.rml_types.specs.Schemes.{every}
use Rattle.rml_types.specs.declared.tree.SchemeTree.{SchemeTree, fold-SchemeTree}
use Rattle.rml_types.specs.declared.tree.SchemeTree.TheOpen.{SchemeTree-F}
use Rattle.std.specs.Option.{option_map_or}
use Rattle.rml_resolved.specs.declared.tables.TypeDef.{TypeDef}
use Rattle.rml_resolved.specs.declared.tables.ValDef.{ValDef}
use Rattle.rml_resolved.specs.declared.trees.RExp.{RExp, fold-RExp}
use Rattle.rml_resolved.specs.declared.trees.RExp.TheOpen.{RExp-F}

abbrev pub Graph : Type 0
Graph = List (List ℕ)

abbrev pub are_finished : List Bool → List ℕ → Bool
are_finished done needs = list_all (λ k. unwrap_or (slice_get done k) false) needs

-- which numbers are finished after some rounds: each is so a round after all that it needs
abbrev pub rounds : Graph → ℕ → List Bool
rounds graph zero = map (λ needs. false) graph
rounds graph (suc n) = map (are_finished (rounds graph n)) graph

-- all are finished after as many rounds as there are numbers
abbrev pub has_no_circle : Graph → Bool
has_no_circle graph = every (rounds graph (length graph))

-- ---- the same in words of the graph, which the laws tie to it

-- the first number needs the second
abbrev pub Needs : Graph → ℕ → ℕ → Type 0
Needs graph k j = Contains (unwrap_or (slice_get graph k) []) j

-- the first number needs the second, or needs one that reaches it
pub data Reaches (graph : Graph) : ℕ → ℕ → Type 0 where
  at_once : {k j : ℕ} → Needs graph k j → Reaches graph k j
  by_way : {k i j : ℕ} → Needs graph k i → Reaches graph i j → Reaches graph k j

-- each number that is needed is one of the graph
abbrev pub IsClosed : Graph → Type 0
IsClosed graph = (k j : ℕ) → Needs graph k j → j < length graph

-- no number reaches itself
abbrev pub IsAcyclic : Graph → Type 0
IsAcyclic graph = (k : ℕ) → Reaches graph k k → ⊥

-- ---- types, which need the types that their definition names

abbrev pub names_at : SchemeTree-F (List ℕ) → List ℕ
names_at (SchemeTree-F.Var k) = []
names_at (SchemeTree-F.Named c ts) = c ∷ concat ts
names_at (SchemeTree-F.Tuple ts) = concat ts
names_at (SchemeTree-F.Rel ins outs) = concat ins ++ concat outs

abbrev pub types_in : SchemeTree → List ℕ
types_in = fold-SchemeTree (List ℕ) names_at

abbrev pub type_needs : TypeDef → List ℕ
type_needs d = option_map_or (λ s. types_in s.body) d.means []

-- ---- vals, which need the vals that their expression names

abbrev pub vals_at : RExp-F (List ℕ) → List ℕ
vals_at (RExp-F.Val v) = v ∷ []
vals_at (RExp-F.Con c es) = concat es
vals_at (RExp-F.Tuple es) = concat es
vals_at (RExp-F.List es) = concat es
vals_at (RExp-F.Cons es) = concat es
vals_at _ = []

abbrev pub vals_in : RExp → List ℕ
vals_in = fold-RExp (List ℕ) vals_at

abbrev pub val_needs : ValDef → List ℕ
val_needs v = vals_in v.value
