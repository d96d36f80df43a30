-- The least fault of joined lists, and of the steps of a walk.
use Rattle.std.proofs.Common.{◌≡◌, List, [], ◌∷◌, ◌++◌, refl}
use Rattle.std.specs.Prelude.{Option}
use Rattle.rml_scopes.specs.declared.fault.Found.{Found}
use Rattle.rml_scopes.specs.Faults.{lesser, lesser_of}

pub lesser_over : (xs ys : List Found) (a : Option Found) → lesser_of a (xs ++ ys) ≡ lesser_of (lesser_of a xs) ys
lesser_over [] ys a = refl
lesser_over (x ∷ xs) ys a = lesser_over xs ys (lesser a x)
