-- What files hold, and which names were read, each told or not told.
use Rattle.std.specs.Prelude.{ℕ, Bool, true, false, List, [], ◌∷◌, ◌++◌, Result, Ok, Err}
use Rattle.std.specs.Option.{option_map}
use Rattle.std.specs.Ordering.{nat_cmp}
use Rattle.std.specs.Cmp.Lexicographic.{slice_cmp}
use Rattle.std.specs.FinMap.{FinMap}
use Rattle.std.specs.declared.option.Option.{Option}
use Rattle.rml_io.specs.declared.errors.FileErr.{FileErr}
use Rattle.rml_io.specs.declared.errors.FileErr.TheVariants.{Failed, TooLong, Memory}

-- from names to the bytes that are held under them
abbrev pub Held : Type 0
Held = FinMap (slice_cmp nat_cmp) (List ℕ)

-- What is seen of files from outside.
pub record FilesSeen : Type 0 where
  -- the bytes that are held under each name, where that is told
  pub held : Option Held
  -- the names of the reads so far but those for which there was no memory, the first read first, where they are told
  pub asked : Option (List (List ℕ))
  -- how many reads failed; this and the next two numbers never fall, and stop at 2^64 - 1
  pub faults : ℕ
  -- how many reads there were
  pub calls : ℕ
  -- how many bytes the reads took, also those of reads without an answer
  pub taken : ℕ

-- the names read so far, where they are told, and then this one
abbrev pub and_name : Option (List (List ℕ)) → List ℕ → Option (List (List ℕ))
and_name told name = option_map (λ names. names ++ name ∷ []) told

-- the answer is for want of memory
abbrev pub is_memory : {T : Type 0} → Result T FileErr → Bool
is_memory (Ok value) = false
is_memory (Err Failed) = false
is_memory (Err TooLong) = false
is_memory (Err Memory) = true

-- the answer is a fault
abbrev pub is_failed : {T : Type 0} → Result T FileErr → Bool
is_failed (Ok value) = false
is_failed (Err Failed) = true
is_failed (Err TooLong) = false
is_failed (Err Memory) = false
