-- What the definitions of a text say of type names, each by itself.
use Rattle.std.specs.Prelude.{ℕ, Option, Some, option_map}
use Rattle.rml_types.specs.declared.scheme.Scheme.{Scheme}
use Rattle.rml_types.specs.declared.tree.SchemeTree.{SchemeTree}
use Rattle.rml_resolved.specs.declared.tables.TypeDef.{TypeDef}
use Rattle.rml_typed.specs.Own.{definition_in}

-- the definition of an abstype, where it is one of the text of a module
abbrev pub body_in : ℕ → TypeDef → Option SchemeTree
body_in text d = option_map (λ (s : Scheme). s.body) (definition_in text (Some d))
