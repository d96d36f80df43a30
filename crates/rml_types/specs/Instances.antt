-- The instances of a type whose variables stand for all types, as those of a scheme's body do.
use Rattle.std.specs.Prelude.{◌≡◌, List}
use Rattle.rml_types.specs.declared.tree.SchemeTree.{SchemeTree}
use Rattle.rml_types.specs.Schemes.{inst}

-- a type is an instance of another where some substitution gives it
abbrev pub IsInstance : SchemeTree → SchemeTree → Type 0
IsInstance body t = (ts : List SchemeTree) × (t ≡ inst ts body)
