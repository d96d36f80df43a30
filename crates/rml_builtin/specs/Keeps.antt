-- What a built-in leaves as it was.
use Rattle.std.specs.Prelude.{◌≡◌, []}
use Rattle.rml_builtin.specs.declared.applied.Applied.{Applied}
use Rattle.rml_builtin.specs.declared.applied.Applied.TheVariants.{Yes, No, Wrong}
use Rattle.rml_builtin.specs.Applied.{Store}

-- where there is an answer, the store is this one
abbrev pub KeepsStore : Store → Applied → Type 0
KeepsStore store (Yes a t) = a.store ≡ store
KeepsStore store No = Unit {0}
KeepsStore store Wrong = Unit {0}

-- nothing is printed
abbrev pub IsSilent : Applied → Type 0
IsSilent (Yes a t) = t ≡ []
IsSilent No = Unit {0}
IsSilent Wrong = Unit {0}
