-- The module faults of a set of texts, by their trees, the names of their files and the bytes of all names alone.
use Rattle.std.specs.Prelude.{◌≡◌, ◌↔◌, ℕ, List, [], Option, IfSome, IsNone, codes}
use Rattle.rml_base.specs.Numbering.{number_in}
use Rattle.rml_syntax.specs.declared.texts.Text.{Text}
use Rattle.rml_outlines.specs.Outlines.{known_of}
use Rattle.rml_outlines.specs.declared.known.Known.{Known}
use Rattle.rml_given.specs.Built.{built_of}
use Rattle.rml_prelude.specs.Text.{PreludeTree}
use Rattle.rml_scopes.specs.Faults.{IsLeast}
use Rattle.rml_scopes.specs.Module.{mains_from, set_faults, world_of}
use Rattle.rml_scopes.specs.declared.fault.Found.{Found}
use Rattle.rml_type_facts.specs.Facts.{fits, type_facts}
use Rattle.rml_signatures.specs.Types.{AreTypes}
use Rattle.rml_faults.specs.declared.set.Set.{Set}

module _ (names files : List (List ℕ)) (texts : List Text) where
  -- what is known of the texts
  unfoldable pub known : Known
  known = known_of names files (PreludeTree names) (built_of names) texts

  -- the number of the name `main`
  abbrev pub main : ℕ
  main = number_in names (codes "main")

  -- all faults
  unfoldable pub faults : List Found
  faults = set_faults names files (PreludeTree names) (built_of names) (type_facts known texts) (fits known texts) main texts

  -- the answer about the set: none exactly where it has no fault, and otherwise the least by place and then by number
  pub record ModuleFaults (answer : Option Found) : Type 0 where
    pub none : IsNone answer ↔ (faults ≡ [])
    pub least : IfSome answer (λ found. IsLeast found faults)

  -- what is known of the set, and of its types
  pub record IsSet (set : Set) : Type 0 where
    pub prelude : set.prelude ≡ PreludeTree names
    pub main_name : set.main ≡ main
    pub world : set.world ≡ world_of names files (PreludeTree names) (built_of names) (type_facts known texts) texts
    pub types : AreTypes known texts set.types
    pub mains : set.mains.items ≡ mains_from (fits known texts) main 0 texts
