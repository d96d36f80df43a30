-- The first form of a text, by the spellings of its tokens: its one relation is main, whose one rule prints.
use Rattle.std.specs.Prelude.{◌≡◌, ℕ, ◌==◌, Bool, true, false, ◌&&◌, not, if◌then◌else◌, is_none, List, [], ◌∷◌, ◌++◌, map, codes}
use Rattle.std.specs.List.{AllByRecursion}
use Rattle.std.specs.Str.{bytes_eq}
use Rattle.std.specs.Borrow.{Bor}
use Rattle.rml_lex.specs.Bytes.{is_letter}
use Rattle.rml_lex.specs.Words.{word_of}

-- Among tokens, names and reserved words begin with a letter, text literals with a quote, and dashes with a dash before a dash.
abbrev pub begins : (ℕ → Bool) → List ℕ → Bool
begins test [] = false
begins test (b ∷ bs) = test b

-- a name of a module, other than that of the prelude
abbrev pub is_module_name : List ℕ → Bool
is_module_name token = begins is_letter token && is_none (word_of token) && not (bytes_eq token (codes "rml"))

abbrev pub is_literal : List ℕ → Bool
is_literal token = begins (λ b. b == 34) token

abbrev pub is_dashes : List ℕ → Bool
is_dashes [] = false
is_dashes (a ∷ bs) = (a == 45) && begins (λ b. b == 45) bs

-- `string list => ()`
abbrev pub signature : List (List ℕ)
signature = codes "string" ∷ codes "list" ∷ codes "=>" ∷ codes "(" ∷ codes ")" ∷ []

-- `: relation main: string list => () end`, after the name of the module
abbrev pub interface : List (List ℕ)
interface = codes ":" ∷ codes "relation" ∷ codes "main" ∷ codes ":" ∷ signature ++ codes "end" ∷ []

-- `print` and a literal, or `print`, `(`, a literal and `)`
pub record Premise : Type 0 where
  pub literal : List ℕ
  pub bracketed : Bool

abbrev pub premise : Premise → List (List ℕ)
premise p = codes "print" ∷ (if p.bracketed then codes "(" ∷ p.literal ∷ codes ")" ∷ [] else p.literal ∷ [])

-- the premises after the first, each behind an `&`
abbrev pub further : List Premise → List (List ℕ)
further [] = []
further (p ∷ ps) = codes "&" ∷ premise p ++ further ps

-- `main(_) end`, after the dashes
abbrev pub conclusion : List (List ℕ)
conclusion = codes "main" ∷ codes "(" ∷ codes "_" ∷ codes ")" ∷ codes "end" ∷ []

-- What may vary in a text of the first form.
pub record Parts : Type 0 where
  pub name : List ℕ
  -- whether the body gives main's type again
  pub typed : Bool
  pub first : Premise
  pub others : List Premise
  pub dashes : List ℕ

-- `relation main`, with or without its type, and `= rule`
abbrev pub opening : Bool → List (List ℕ)
opening typed = codes "relation" ∷ codes "main" ∷ (if typed then codes ":" ∷ signature else []) ++ codes "=" ∷ codes "rule" ∷ []

abbrev pub tokens_of : Parts → List (List ℕ)
tokens_of p = codes "module" ∷ p.name ∷ interface ++ (opening p.typed ++ (premise p.first ++ (further p.others ++ p.dashes ∷ conclusion)))

abbrev pub literals_of : Parts → List (List ℕ)
literals_of p = p.first.literal ∷ map (λ q. q.literal) p.others

-- The tokens are those of a text of the first form, which prints these literals.
pub record IsFirstForm (tokens literals : List (List ℕ)) : Type 0 where
  pub parts : Parts
  pub tokens_are : tokens ≡ tokens_of parts
  pub literals_are : literals ≡ literals_of parts
  pub name_fits : is_module_name parts.name ≡ true
  pub dashes_fit : is_dashes parts.dashes ≡ true
  pub literals_fit : AllByRecursion (λ l. is_literal l ≡ true) literals

-- tokens, as lists of bytes
abbrev pub spelled : List (Bor (List ℕ)) → List (List ℕ)
spelled tokens = map (λ t. t.now) tokens

-- a token and the tokens after it
abbrev pub shown : Bor (List ℕ) × Bor (List (Bor (List ℕ))) → List ℕ × List (List ℕ)
shown found = (found.0.now, spelled found.1.now)
