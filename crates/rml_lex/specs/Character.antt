-- The characters of literals, read a byte at a time, and the bytes that they stand for.
use Rattle.std.specs.Prelude.{◌≡◌, ℕ, ◌+◌, ◌-◌, ◌*◌, ◌≤◌, ◌<◌, ◌==◌, ◌&&◌, nat_le, List, [], ◌∷◌, drop, Option, Some, None, if◌then◌else◌}
use Rattle.rml_lex.specs.declared.character.Read.{Read}
use Rattle.rml_lex.specs.declared.character.Read.TheVariants.{Part, Whole, Quote, Stray, Cut}
use Rattle.rml_lex.specs.declared.character.Inside.{Inside}
use Rattle.rml_lex.specs.declared.character.Inside.TheVariants.{Between, Escape, OneDigit, TwoDigits}
use Rattle.rml_lex.specs.Bytes.{is_digit, is_plain}

-- what the letter of an escape stands for: n, t, r, \ and "
abbrev pub escape_value : ℕ → Option ℕ
escape_value b = if b == 110 then Some 10 else if b == 116 then Some 9 else if b == 114 then Some 13 else if b == 92 then Some 92 else if b == 34 then Some 34 else None

abbrev pub escape_step : Option ℕ → ℕ → Read
escape_step (Some v) b = Whole v
escape_step None b = if is_digit b then Part (OneDigit (b - 48)) else Cut

abbrev pub character_step : Inside → ℕ → Read
character_step Between b = if b == 34 then Quote else if b == 92 then Part Escape else if is_plain b then Whole b else if b == 10 then Cut else Stray
character_step Escape b = escape_step (escape_value b) b
character_step (OneDigit v) b = if is_digit b then Part (TwoDigits (10 * v + (b - 48))) else Cut
character_step (TwoDigits v) b = if is_digit b && nat_le (10 * v + (b - 48)) 255 then Whole (10 * v + (b - 48)) else Cut

-- how many bytes of a character have been read
abbrev pub read_of : Inside → ℕ
read_of Between = 0
read_of Escape = 1
read_of (OneDigit v) = 2
read_of (TwoDigits v) = 3

-- the digits so far are digits
abbrev pub HasDigits : Inside → Type 0
HasDigits (OneDigit v) = v ≤ 9
HasDigits (TwoDigits v) = v ≤ 99
HasDigits Between = Unit {0}
HasDigits Escape = Unit {0}

-- where a byte leads: one byte further into a character, or to the end of one
abbrev pub LeadsOn : Inside → Read → Type 0
LeadsOn inside (Part next) = (read_of next ≡ read_of inside + 1) × HasDigits next
LeadsOn inside (Whole v) = v < 256
LeadsOn inside Quote = Unit {0}
LeadsOn inside Stray = Unit {0}
LeadsOn inside Cut = Unit {0}

-- the bytes that the characters stand for, up to the closing quote
abbrev pub values_from : Inside → List ℕ → List ℕ
values_from inside [] = []
values_from inside (b ∷ bs) = elim (character_step inside b) [
  | Part next ↦ values_from next bs
  | Whole v ↦ v ∷ values_from Between bs
  | Quote ↦ []
  | Stray ↦ []
  | Cut ↦ []
]

-- the bytes that a text literal stands for
abbrev pub unescaped : List ℕ → List ℕ
unescaped spelling = values_from Between (drop 1 spelling)
