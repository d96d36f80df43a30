-- What is told of reads of the host's files: three numbers, and neither bytes nor names.
use Rattle.std.specs.Prelude.{ℕ}

pub record HostCounts : Type 0 where
  pub faults : ℕ
  pub calls : ℕ
  pub taken : ℕ

-- no read so far
abbrev pub no_counts : HostCounts
no_counts = record { faults = 0; calls = 0; taken = 0 }
