-- How one token is spelled.
use Rattle.std.specs.Prelude.{ℕ, ◌+◌, ◌/◌, ◌%◌, ◌==◌, ◌&&◌, nat_le, List, [], ◌∷◌, ◌++◌, replicate, slice_index_or, if◌then◌else◌}
use Rattle.std.specs.List.{flat_map}
use Rattle.std.specs.Fmt.{signed_decimal}
use Rattle.rml_syntax.specs.declared.token.Lit.{Lit}
use Rattle.rml_syntax.specs.declared.token.Lit.TheVariants as lit
use Rattle.rml_syntax.specs.declared.token.Token.{Token}
use Rattle.rml_syntax.specs.declared.token.Token.TheVariants as token
use Rattle.rml_lex.specs.Words.{word_spelling, sign_spelling}

-- \ and three digits
abbrev pub numbered : ℕ → List ℕ
numbered b = 92 ∷ (48 + b / 100) ∷ (48 + b / 10 % 10) ∷ (48 + b % 10) ∷ []

-- A byte of a char or a text: \n, \t, \r, \\ and \" are used, 32 to 126 stand for themselves, and any other has its number.
abbrev pub escaped : ℕ → List ℕ
escaped b =
    if b == 10 then 92 ∷ 110 ∷ []
    else if b == 9 then 92 ∷ 116 ∷ []
    else if b == 13 then 92 ∷ 114 ∷ []
    else if b == 92 then 92 ∷ 92 ∷ []
    else if b == 34 then 92 ∷ 34 ∷ []
    else if nat_le 32 b && nat_le b 126 then b ∷ []
    else numbered b

-- in quotes
abbrev pub quoted : List ℕ → List ℕ
quoted bytes = 34 ∷ flat_map escaped bytes ++ 34 ∷ []

-- the bytes of a number, of which there are none where the number was never given
abbrev pub name_bytes : List (List ℕ) → ℕ → List ℕ
name_bytes names n = slice_index_or names n []

abbrev pub literal_spelling : List (List ℕ) → Lit → List ℕ
literal_spelling names (lit.Int i) = signed_decimal i
literal_spelling names (lit.Char b) = 35 ∷ quoted (b ∷ [])
literal_spelling names (lit.Text n) = quoted (name_bytes names n)

abbrev pub spelling : List (List ℕ) → Token → List ℕ
spelling names (token.Word k) = word_spelling k
spelling names (token.Name n) = name_bytes names n
spelling names (token.TyVar n) = name_bytes names n
spelling names (token.Lit l) = literal_spelling names l
spelling names (token.Sign m) = sign_spelling m
spelling names (token.Dashes n) = replicate n 45
