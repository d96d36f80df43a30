-- A text cut into pieces: its tokens with their places, and its first fault.
use Rattle.std.specs.Prelude.{◌≡◌, ℕ, ◌+◌, ◌<◌, ◌≤◌, List, [], ◌∷◌, ◌++◌, length, take, map, slice_index_or, Option, Some, None, ◌⊎◌, All, ℤ}
use Rattle.rml_base.specs.declared.place.Place.{Place}
use Rattle.rml_syntax.specs.declared.token.Key.{Key}
use Rattle.rml_syntax.specs.declared.token.Lit.TheVariants as lit
use Rattle.rml_syntax.specs.declared.token.Mark.{Mark}
use Rattle.rml_syntax.specs.declared.token.Spot.{Spot}
use Rattle.rml_syntax.specs.declared.token.Token.{Token}
use Rattle.rml_syntax.specs.declared.token.Token.TheVariants as token
use Rattle.rml_lex.specs.declared.piece.LexKind.{LexKind}
use Rattle.rml_lex.specs.declared.piece.LexKind.TheVariants.{BadByte}
use Rattle.rml_lex.specs.declared.piece.Piece.{Piece}
use Rattle.rml_lex.specs.declared.piece.Piece.TheVariants as piece
use Rattle.rml_lex.specs.declared.tokens.LexErr.{LexErr}
use Rattle.rml_lex.specs.declared.tokens.LexErr.TheVariants as error
use Rattle.rml_lex.specs.Character.{unescaped}
use Rattle.rml_lex.specs.Places.{place_after, start}
use Rattle.rml_lex.specs.Spells.{BeginsNothing, IsLongest}

-- a token with bytes in place of numbers
pub data Shown : Type 0 where
  Word : Key → Shown
  Name : List ℕ → Shown
  TyVar : List ℕ → Shown
  Int : ℤ → Shown
  Char : ℕ → Shown
  Text : List ℕ → Shown
  Sign : Mark → Shown
  Dashes : ℕ → Shown

-- a piece with its bytes
abbrev pub Part : Type 0
Part = List ℕ × Piece

-- the token of a piece, if it is one
abbrev pub tokens_of : Part → List Shown
tokens_of (s, piece.Blank) = []
tokens_of (s, piece.Comment) = []
tokens_of (s, piece.Word k) = Word k ∷ []
tokens_of (s, piece.Name) = Name s ∷ []
tokens_of (s, piece.TyVar) = TyVar s ∷ []
tokens_of (s, piece.Int i) = Int i ∷ []
tokens_of (s, piece.Char v) = Char v ∷ []
tokens_of (s, piece.Text) = Text (unescaped s) ∷ []
tokens_of (s, piece.Dashes) = Dashes (length s) ∷ []
tokens_of (s, piece.Sign m) = Sign m ∷ []
tokens_of (s, piece.Faulty k at) = []

abbrev pub IsSound : Piece → Type 0
IsSound (piece.Faulty k at) = ⊥
IsSound _ = Unit {0}

-- Pieces lead from the bytes to the rest: each is the longest that stands at its place, and none is a fault.
abbrev pub Reaches : List ℕ → List Part → List ℕ → Type 0
Reaches bytes [] rest = bytes ≡ rest
Reaches bytes (part ∷ parts) rest = (more : List ℕ) × (bytes ≡ part.0 ++ more) × (0 < length part.0) × IsLongest bytes (length part.0) part.1 × IsSound part.1 × Reaches more parts rest

-- the tokens among the pieces, with their places
abbrev pub marks : Place → List Part → List (Place × Shown)
marks at [] = []
marks at (part ∷ parts) = map (λ t. (at, t)) (tokens_of part) ++ marks (place_after at part.0) parts

-- the place behind the pieces
abbrev pub behind : Place → List Part → Place
behind at [] = at
behind at (part ∷ parts) = behind (place_after at part.0) parts

-- the bytes spell these tokens
abbrev pub Spelled : ℕ → List ℕ → List (Place × Shown) → Type 0
Spelled text bytes spots = (parts : List Part) × Reaches bytes parts [] × (spots ≡ marks (start text) parts)

-- a fault at the front of the rest: no piece stands there, or the longest one is a fault, at its offset
abbrev pub Faults : Place → List ℕ → Place → LexKind → Type 0
Faults at rest place kind =
    ((0 < length rest) × BeginsNothing rest × (place ≡ at) × (kind ≡ BadByte))
    ⊎ ((n : ℕ) × (offset : ℕ) × IsLongest rest n (piece.Faulty kind offset) × (place ≡ place_after at (take offset (take n rest))))

-- pieces without a fault reach one
abbrev pub FirstFault : ℕ → List ℕ → Place → LexKind → Type 0
FirstFault text bytes place kind = (parts : List Part) × (rest : List ℕ) × Reaches bytes parts rest × Faults (behind (start text) parts) rest place kind

-- a token with the bytes of its name
abbrev pub shown_token : List (List ℕ) → Token → Shown
shown_token names (token.Word k) = Word k
shown_token names (token.Name k) = Name (slice_index_or names k [])
shown_token names (token.TyVar k) = TyVar (slice_index_or names k [])
shown_token names (token.Lit (lit.Int i)) = Int i
shown_token names (token.Lit (lit.Char v)) = Char v
shown_token names (token.Lit (lit.Text k)) = Text (slice_index_or names k [])
shown_token names (token.Sign m) = Sign m
shown_token names (token.Dashes n) = Dashes n

abbrev pub shown : List (List ℕ) → List Spot → List (Place × Shown)
shown names spots = map (λ s. (s.place, shown_token names s.token)) spots

-- the number of a token, if it has one, is among so many
abbrev pub IsGiven : ℕ → Token → Type 0
IsGiven n (token.Name k) = k < n
IsGiven n (token.TyVar k) = k < n
IsGiven n (token.Lit (lit.Text k)) = k < n
IsGiven n (token.Lit (lit.Int i)) = Unit {0}
IsGiven n (token.Lit (lit.Char v)) = Unit {0}
IsGiven n (token.Word k) = Unit {0}
IsGiven n (token.Sign m) = Unit {0}
IsGiven n (token.Dashes v) = Unit {0}

abbrev pub AllGiven : ℕ → List Spot → Type 0
AllGiven n spots = All (λ s. IsGiven n s.token) spots

abbrev pub IsTokenOf : List (List ℕ) → Part → Option Token → Type 0
IsTokenOf names part None = tokens_of part ≡ []
IsTokenOf names part (Some t) = (tokens_of part ≡ shown_token names t ∷ []) × IsGiven (length names) t

-- the error names the first fault
abbrev pub IsFault : ℕ → List ℕ → LexErr → Type 0
IsFault text bytes (error.At place kind) = FirstFault text bytes place kind
IsFault text bytes error.Memory = ⊥

-- What has been read of the bytes: the rest, its place, the tokens so far and the names.
pub record Reads (text : ℕ) (bytes : List ℕ) (old : List (List ℕ)) (rest : List ℕ) (at : Place) (spots : List Spot) (now : List (List ℕ)) : Type 0 where
  pub parts : List Part
  pub reaches : Reaches bytes parts rest
  pub place : at ≡ behind (start text) parts
  pub tokens : shown now spots ≡ marks (start text) parts
  pub given : AllGiven (length now) spots
  pub names : (more : List (List ℕ)) × (now ≡ old ++ more) × (length more + length rest ≤ length bytes)

-- the bytes spell some tokens, or have a first fault
abbrev pub HasReading : ℕ → List ℕ → Type 0
HasReading text bytes = ((spots : List (Place × Shown)) × Spelled text bytes spots) ⊎ ((place : Place) × (kind : LexKind) × FirstFault text bytes place kind)
