-- How the bytes of a char and of a text are written.
use Rattle.std.specs.Prelude.{ℕ, ◌+◌, ◌/◌, ◌%◌, ◌==◌, ◌&&◌, nat_le, List, [], ◌∷◌, ◌++◌, if◌then◌else◌}
use Rattle.std.specs.List.{flat_map}

-- \ and three digits
abbrev pub numbered : ℕ → List ℕ
numbered b = 92 ∷ (48 + b / 100) ∷ (48 + b / 10 % 10) ∷ (48 + b % 10) ∷ []

-- A byte of a char or a text: \n, \t, \r, \\ and \" are used, 32 to 126 stand for themselves, and any other has its number.
abbrev pub escaped : ℕ → List ℕ
escaped b =
    if b == 10 then 92 ∷ 110 ∷ []
    else if b == 9 then 92 ∷ 116 ∷ []
    else if b == 13 then 92 ∷ 114 ∷ []
    else if b == 92 then 92 ∷ 92 ∷ []
    else if b == 34 then 92 ∷ 34 ∷ []
    else if nat_le 32 b && nat_le b 126 then b ∷ []
    else numbered b

-- in quotes
abbrev pub quoted : List ℕ → List ℕ
quoted bytes = 34 ∷ flat_map escaped bytes ++ 34 ∷ []

-- a char
abbrev pub character_text : ℕ → List ℕ
character_text b = 35 ∷ quoted (b ∷ [])
