-- What a reader gave, read by read.
use Rattle.std.proofs.Common.{◌≡◌, ℕ, ◌+◌, ◌-◌, ◌^◌, ◌≤◌, min, List, ◌++◌, length, take, arith, length-append, length-take-le}
use Rattle.std.specs.declared.option.Option.{Option}
use Rattle.std.specs.Io.KnownBytes.{Consumes}
use Rattle.std.proofs.KnownBytes.{Consumes-trans}
use Rattle.rml_io.specs.Counts.{raised}
use Rattle.rml_io.specs.Limited.{TookAtMost}

-- what was taken before, and the front of a piece that a read gave
pub took_more : (before mid after : Option (List ℕ)) (kept piece : List ℕ) (count most counted old now : ℕ)
    → Consumes before mid kept → old ≡ raised counted (length kept)
    → Consumes mid after (take count piece) → count ≤ length piece → length kept + count ≤ most → now ≡ min (old + count) (2 ^ 64 - 1)
    → TookAtMost before after most counted now
took_more before mid after kept piece count most counted old now first was second fits within is =
    let long : length (kept ++ take count piece) ≡ length kept + count =
    omega (arith, length-append kept (take count piece), length-take-le count piece fits) in
    record {
      bytes = kept ++ take count piece;
      consumed = Consumes-trans before mid after kept (take count piece) first second;
      within = omega (arith, long, within);
      count = omega (arith, long, was, is);
    }
