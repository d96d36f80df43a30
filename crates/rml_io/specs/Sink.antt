-- What a sink has taken, told or not told.
use Rattle.std.specs.Prelude.{◌≡◌, ℕ, ◌≤◌, List, ◌++◌, length, take}
use Rattle.std.specs.Option.{option_map}
use Rattle.std.specs.declared.option.Option.{Option}

-- What is seen of a sink from outside.
pub record SinkSeen : Type 0 where
  -- all bytes that were written, where they are told
  pub text : Option (List ℕ)
  -- how often a write failed or took nothing; it never falls, and stops at 2^64 - 1
  pub faults : ℕ

-- what was written, where it is told, and then these bytes
abbrev pub and_bytes : Option (List ℕ) → List ℕ → Option (List ℕ)
and_bytes told bytes = option_map (λ text. text ++ bytes) told

-- what is told grew by so many bytes of the front of the piece
pub record TookFront (before after : Option (List ℕ)) (piece : List ℕ) : Type 0 where
  pub count : ℕ
  pub within : count ≤ length piece
  pub taken : after ≡ and_bytes before (take count piece)
