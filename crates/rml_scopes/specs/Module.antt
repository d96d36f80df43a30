-- The module faults of a set of texts.
use Rattle.std.specs.Prelude.{ℕ, suc, Bool, nat_eq, List, [], ◌∷◌, ◌++◌, ◌-◌, length, map, Option, None, Some, if◌then◌else◌, slice_get}
use Rattle.std.specs.List.{flat_map}
use Rattle.rml_base.specs.declared.place.Place.{Place}
use Rattle.rml_syntax.specs.declared.texts.Decl.{Decl}
use Rattle.rml_syntax.specs.declared.texts.Decl.TheVariants as decl
use Rattle.rml_syntax.specs.declared.texts.Text.{Text}
use Rattle.rml_syntax.specs.declared.types.Sig.{Sig}
use Rattle.rml_outlines.specs.declared.outline.Entries.{Entries}
use Rattle.rml_outlines.specs.Outlines.{known_of}
use Rattle.rml_scopes.specs.declared.fault.Found.{Found}
use Rattle.rml_scopes.specs.declared.fault.ModFault.TheVariants as fault
use Rattle.rml_scopes.specs.declared.world.TypeFacts.{TypeFacts}
use Rattle.rml_scopes.specs.declared.world.World.{World}
use Rattle.rml_scopes.specs.Machine.{Visit, visits}
use Rattle.rml_scopes.specs.Sentences.{step_faults}

-- what is known of some texts, and of their types
unfoldable pub world_of : List (List ℕ) → List (List ℕ) → Text → Entries → List TypeFacts → List Text → World
world_of names files prelude built facts texts = record { known = known_of names files prelude built texts; facts = facts }

abbrev pub visit_faults : World → Visit → List Found
visit_faults w v = step_faults w v.scope v.step

-- the faults at the names of the text of this number
unfoldable pub text_faults : World → ℕ → Text → List Found
text_faults w text t = flat_map (visit_faults w) (visits w text t)

abbrev pub texts_faults : World → ℕ → List Text → List Found
texts_faults w text [] = []
texts_faults w text (t ∷ ts) = text_faults w text t ++ texts_faults w (suc text) ts

-- 11, NoMain: no interface exports a relation `main` of a type that a program may have, at the end of the last text; or a second one
-- does, at its name. `fits` tells of the text of a number whether a signature in its interface is such a type.

abbrev pub main_by : ℕ → (Sig → Bool) → ℕ → Place → Option Sig → List Place
main_by main fits name place None = []
main_by main fits name place (Some sig) = if nat_eq name main then (if fits sig then place ∷ [] else []) else []

abbrev pub main_of : ℕ → (Sig → Bool) → Decl → List Place
main_of main fits (decl.Relation name place sig rules) = main_by main fits name place sig
main_of main fits (decl.Datatype binds) = []
main_of main fits (decl.Abbrev head t) = []
main_of main fits (decl.Abstype head) = []
main_of main fits (decl.Val name place t e) = []

-- where such a `main` is exported, in order
abbrev pub mains_from : (ℕ → Sig → Bool) → ℕ → ℕ → List Text → List Place
mains_from fits main text [] = []
mains_from fits main text (t ∷ ts) = flat_map (main_of main (fits text)) t.specs ++ mains_from fits main (suc text) ts

abbrev pub no_main : Place → Found
no_main place = record { place = place; fault = fault.NoMain }

abbrev pub at_end : Option Text → List Found
at_end None = []
at_end (Some t) = no_main t.end ∷ []

abbrev pub main_faults : List Text → List Place → List Found
main_faults texts [] = at_end (slice_get texts (length texts - 1))
main_faults texts (first ∷ further) = map no_main further

-- All module faults. `mains` are the places at which interfaces export a `main` of a fitting type, in order.
unfoldable pub module_faults : World → List Text → List Place → List Found
module_faults w texts mains = texts_faults w 0 texts ++ main_faults texts mains

-- All module faults of some texts by their trees alone, with the names of their files, the bytes of all names, the prelude, what is built
-- in, what is known of types (`facts`, `fits`) and the name of the relation `main`.
unfoldable pub set_faults : List (List ℕ) → List (List ℕ) → Text → Entries → List TypeFacts → (ℕ → Sig → Bool) → ℕ → List Text → List Found
set_faults names files prelude built facts fits main texts = module_faults (world_of names files prelude built facts texts) texts (mains_from fits main 0 texts)
