-- What a fake of a sink keeps, as contracts see it, and what its writes take.
use Rattle.std.specs.Prelude.{ℕ, ◌-◌, min, Bool, ◌&&◌, List, [], length, nat_lt, nat_eq, refl}
use Rattle.std.specs.Ordering.{nat_cmp}
use Rattle.std.specs.FinSet as fin_set
use Rattle.std.specs.Coded.{Coded, code_by, coded×, coded_ℕ, coded_list}
use Rattle.rml_io.specs.Counts.{raised}

pub record SinkInMemory : Type 0 where
  -- the bytes that were written
  pub written : List ℕ
  -- how many bytes it takes in all
  pub room : ℕ
  -- the numbers of the writes that fail, counted from 1
  pub failing : fin_set.FinSet nat_cmp
  pub faults : ℕ
  pub calls : ℕ

abbrev pub sink_code : Coded SinkInMemory
sink_code =
    code_by (List ℕ × (ℕ × (fin_set.FinSet nat_cmp × (ℕ × ℕ))))
    (coded× (coded_list coded_ℕ) (coded× coded_ℕ (coded× (fin_set.code coded_ℕ) (coded× coded_ℕ coded_ℕ))))
    (λ k. (k.written, (k.room, (k.failing, (k.faults, k.calls)))))
    (λ p. record { written = p.0; room = p.1.0; failing = p.1.1.0; faults = p.1.1.1.0; calls = p.1.1.1.1 })
    (λ _. refl)

-- nothing written, in so much room
abbrev pub empty_sink : ℕ → SinkInMemory
empty_sink room = record { written = []; room = room; failing = fin_set.empty; faults = 0; calls = 0 }

-- whether the next write fails: its number is listed
abbrev pub is_listed : SinkInMemory → Bool
is_listed sink = fin_set.contains sink.failing (raised sink.calls 1)

-- how much of the piece fits the room that is left
abbrev pub fitting : SinkInMemory → List ℕ → ℕ
fitting sink piece = min (length piece) (sink.room - length sink.written)

-- whether there is no room at all for the piece
abbrev pub is_full_for : SinkInMemory → List ℕ → Bool
is_full_for sink piece = nat_lt 0 (length piece) && nat_eq (fitting sink piece) 0
