-- Places in a text: lines and columns from 1; a column counts bytes, and a line ends at a byte 10.
use Rattle.std.specs.Prelude.{◌≡◌, ℕ, ◌+◌, ◌==◌, List, fold, if◌then◌else◌, not, IsTrue}
use Rattle.std.specs.List.{list_all}
use Rattle.rml_base.specs.declared.place.Place.{Place}

-- the place of the next byte
abbrev pub place_step : Place → ℕ → Place
place_step p b = if b == 10 then record { text = p.text; line = p.line + 1; column = 1 } else record { text = p.text; line = p.line; column = p.column + 1 }

-- the place behind some bytes
abbrev pub place_after : Place → List ℕ → Place
place_after p bytes = fold place_step p bytes

abbrev pub start : ℕ → Place
start text = record { text = text; line = 1; column = 1 }

-- none of the bytes ends a line
abbrev pub IsWithinLine : List ℕ → Type 0
IsWithinLine bytes = IsTrue (list_all (λ b. not (b == 10)) bytes)

pub record IsPlace (p : Place) (text line column : ℕ) : Type 0 where
  pub text_is : p.text ≡ text
  pub line_is : p.line ≡ line
  pub column_is : p.column ≡ column
