-- What a read that keeps to a limit takes off a reader.
use Rattle.std.specs.Prelude.{◌≡◌, ℕ, ◌≤◌, List, length}
use Rattle.std.specs.declared.option.Option.{Option}
use Rattle.std.specs.Io.KnownBytes.{Consumes}
use Rattle.rml_io.specs.Counts.{raised}

-- at most so many bytes were taken, each of them counted
pub record TookAtMost (before after : Option (List ℕ)) (most counted now : ℕ) : Type 0 where
  pub bytes : List ℕ
  pub consumed : Consumes before after bytes
  pub within : length bytes ≤ most
  pub count : now ≡ raised counted (length bytes)
