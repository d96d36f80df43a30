-- Which writes are faults.
use Rattle.std.specs.Prelude.{ℕ, zero, suc, Bool, true, false, List, [], ◌∷◌, Result, Ok, Err}

-- the write failed, or took nothing of a piece that is not empty
abbrev pub is_fault : {E : Type 0} → List ℕ → Result ℕ E → Bool
is_fault piece (Err e) = true
is_fault [] (Ok count) = false
is_fault (byte ∷ bytes) (Ok zero) = true
is_fault (byte ∷ bytes) (Ok (suc count)) = false
