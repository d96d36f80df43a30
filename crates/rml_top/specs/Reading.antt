-- One file read, behind others.
use Rattle.std.specs.Prelude.{◌≡◌, ℕ, ◌+◌, ◌<◌, ◌≤◌, ◌⊎◌, List, length}
use Rattle.rml_base.specs.declared.limits.TheConstants.{BYTES, TOTAL}
use Rattle.rml_io.specs.Counts.{raised, Rose}
use Rattle.rml_io.specs.Files.{FilesSeen, and_name}
use Rattle.rml_io.specs.declared.errors.FileErr.{FileErr}
use Rattle.rml_io.specs.declared.errors.FileErr.TheVariants as file_err
use Rattle.rml_stages.specs.declared.source.Source.{Source}
use Rattle.rml_top.specs.declared.sources.NotRead.{NotRead}
use Rattle.rml_top.specs.declared.sources.NotRead.TheVariants.{Fault, Bytes, Total, Memory}
use Rattle.rml_top.specs.Sources.{IsHeld, IsTooLong, RoseBy}

-- why the text of the file of this number is not read, by why the file gave no bytes
abbrev pub why_not_read : ℕ → FileErr → NotRead
why_not_read number file_err.Failed = Fault number
why_not_read number file_err.TooLong = Bytes number
why_not_read number file_err.Memory = Memory

-- the name was read, once
pub record HasRead (name : List ℕ) (before after : FilesSeen) : Type 0 where
  pub asked : after.asked ≡ and_name before.asked name
  pub calls : after.calls ≡ raised before.calls 1

-- the source is the text of the name, within the limits behind others with so many bytes
pub record Next (name : List ℕ) (bytes : ℕ) (before after : FilesSeen) (source : Source) : Type 0 where
  pub name_is : source.name ≡ name
  pub held : IsHeld before.held name source.bytes
  pub within : length source.bytes ≤ BYTES
  pub together : bytes + length source.bytes ≤ TOTAL
  pub taken : RoseBy (length source.bytes) before.taken after.taken
  pub read : HasRead name before after

-- the name was read, or there was no memory to keep it
pub record MayHaveRead (name : List ℕ) (before after : FilesSeen) : Type 0 where
  pub asked : (after.asked ≡ and_name before.asked name) ⊎ (after.asked ≡ before.asked)
  pub calls : after.calls ≡ raised before.calls 1

-- the file of this number could not be read so
abbrev pub NextStopped : List ℕ → ℕ → ℕ → FilesSeen → FilesSeen → NotRead → Type 0
NextStopped name number bytes before after (Fault k) = (k ≡ number) × Rose before.faults after.faults × HasRead name before after
NextStopped name number bytes before after (Bytes k) = (k ≡ number) × IsTooLong before.held name × RoseBy (BYTES + 1) before.taken after.taken × HasRead name before after
NextStopped name number bytes before after (Total k) = (k ≡ number) × (text : List ℕ) × IsHeld before.held name text × (length text ≤ BYTES) × (TOTAL < bytes + length text)
    × RoseBy (length text) before.taken after.taken × HasRead name before after
NextStopped name number bytes before after Memory = MayHaveRead name before after
