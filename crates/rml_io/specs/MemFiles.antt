-- What a fake of files keeps, as contracts see it, and which of its reads fail.
use Rattle.std.specs.Prelude.{ℕ, Bool, ◌||◌, List, [], is_none, vec_len, Result, Ok, Err, ◌+◌, refl}
use Rattle.std.specs.Ordering.{nat_cmp}
use Rattle.std.specs.FinMap as fin_map
use Rattle.std.specs.FinSet as fin_set
use Rattle.std.specs.Coded.{Coded, code_by, coded×, coded_ℕ, coded_list}
use Rattle.std.specs.declared.vec.Vec.{Vec}
use Rattle.rml_io.specs.Counts.{raised}
use Rattle.rml_io.specs.Files.{Held}
use Rattle.rml_io.specs.declared.errors.FileErr.{FileErr}
use Rattle.rml_io.specs.declared.errors.FileErr.TheVariants.{Failed, TooLong, Memory}

pub record FilesInMemory : Type 0 where
  -- the bytes under each name
  pub held : Held
  -- the names read so far, the first read first
  pub asked : List (List ℕ)
  -- the numbers of the reads that fail, counted from 1
  pub failing : fin_set.FinSet nat_cmp
  pub faults : ℕ
  pub calls : ℕ
  pub taken : ℕ

abbrev pub files_code : Coded FilesInMemory
files_code =
    code_by (Held × (List (List ℕ) × (fin_set.FinSet nat_cmp × (ℕ × (ℕ × ℕ)))))
    (coded× (fin_map.code (coded_list coded_ℕ) (coded_list coded_ℕ))
    (coded× (coded_list (coded_list coded_ℕ)) (coded× (fin_set.code coded_ℕ) (coded× coded_ℕ (coded× coded_ℕ coded_ℕ)))))
    (λ k. (k.held, (k.asked, (k.failing, (k.faults, (k.calls, k.taken))))))
    (λ p. record { held = p.0; asked = p.1.0; failing = p.1.1.0; faults = p.1.1.1.0; calls = p.1.1.1.1.0; taken = p.1.1.1.1.1 })
    (λ _. refl)

-- no file, and no read so far
abbrev pub no_files : FilesInMemory
no_files = record { held = fin_map.empty; asked = []; failing = fin_set.empty; faults = 0; calls = 0; taken = 0 }

-- whether the read of this number fails: it is listed, or nothing is held under the name
abbrev pub fails_at : FilesInMemory → ℕ → List ℕ → Bool
fails_at files call name = fin_set.contains files.failing call || is_none (fin_map.get files.held name)

-- whether the next read fails
abbrev pub fails : FilesInMemory → List ℕ → Bool
fails files name = fails_at files (raised files.calls 1) name

-- how many bytes a read with this answer took: one more than the limit of a file that is too long
abbrev pub bytes_taken : {Z : Type 0} → Result (Vec ℕ Z) FileErr → ℕ → ℕ
bytes_taken (Ok bytes) limit = vec_len bytes
bytes_taken (Err TooLong) limit = limit + 1
bytes_taken (Err Failed) limit = 0
bytes_taken (Err Memory) limit = 0
