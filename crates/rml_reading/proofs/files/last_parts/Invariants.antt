use Rattle.std.proofs.Common.{◌≡◌, ◌++◌, map, drop}
use Rattle.rml_outlines.specs.Files.{last_part}
use Rattle.rml_reading.proofs.files.last_parts.Given as goal

abbrev pub invariant-loop-file : goal.invariant-loop-file
invariant-loop-file l = map last_part l.files ≡ l.parts ++ map last_part (drop l.file-index l.files)
