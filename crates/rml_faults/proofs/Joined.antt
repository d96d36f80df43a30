-- The faults that the walk looks for are those of the set.
use Rattle.std.proofs.Common.{◌≡◌, ℕ, List, [], ◌∙◌, refl, subst}
use Rattle.std.specs.Prelude.{◌↔◌, Option, IfSome, IsNone}
use Rattle.rml_base.specs.declared.place.Place.{Place}
use Rattle.rml_syntax.specs.declared.texts.Text.{Text}
use Rattle.rml_given.specs.Built.{built_of}
use Rattle.rml_prelude.specs.Text.{PreludeTree}
use Rattle.rml_scopes.specs.Faults.{IsLeast}
use Rattle.rml_scopes.specs.Module.{mains_from, module_faults, set_faults, world_of}
use Rattle.rml_scopes.specs.declared.fault.Found.{Found}
use Rattle.rml_scopes.specs.declared.world.World.{World}
use Rattle.rml_type_facts.specs.Facts.{fits, type_facts}
use Rattle.rml_faults.specs.Faults.{IsSet, ModuleFaults, faults, known, main}
use Rattle.rml_faults.specs.declared.set.Set.{Set}

walked : (names files : List (List ℕ)) (texts : List Text) (w : World) (places : List Place)
    → w ≡ world_of names files (PreludeTree names) (built_of names) (type_facts (known names files texts) texts) texts
    → places ≡ mains_from (fits (known names files texts) texts) (main names files texts) 0 texts
    → module_faults w texts places ≡ faults names files texts
unfolding faults set_faults
walked names files texts w places e p = rw (e, p) refl

pub joined : (names files : List (List ℕ)) (texts : List Text) (set : Set) (places : List Place) (answer : Option Found) → IsSet names files texts set
    → places ≡ set.mains.items
    → (IsNone answer ↔ (module_faults set.world texts places ≡ [])) → IfSome answer (λ found. IsLeast found (module_faults set.world texts places))
    → ModuleFaults names files texts answer
joined names files texts set places answer is at none least =
    let e = walked names files texts set.world places is.world (at ∙ is.mains) in
    record {
      none = subst (λ (fs : List Found). IsNone answer ↔ (fs ≡ [])) e none;
      least = subst (λ (fs : List Found). IfSome answer (λ found. IsLeast found fs)) e least;
    }
