-- The first form read from the left.
use Rattle.std.specs.Prelude.{ℕ, zero, suc, Bool, true, false, if◌then◌else◌, List, [], ◌∷◌, length, codes, Option, Some, None}
use Rattle.std.specs.Str.{bytes_eq}
use Rattle.rml_top.specs.FirstForm.{is_module_name, is_literal, is_dashes, signature, interface, conclusion}

infixl 10 ◌>>=◌
abbrev pub ◌>>=◌ : {A B : Type 0} → Option A → (A → Option B) → Option B
(Some x) >>= f = f x
None >>= f = None

-- the tokens after these
abbrev pub after : List (List ℕ) → List (List ℕ) → Option (List (List ℕ))
after [] tokens = Some tokens
after (e ∷ es) [] = None
after (e ∷ es) (t ∷ ts) = if bytes_eq t e then after es ts else None

-- the tokens after one that passes the test
abbrev pub after_one : (List ℕ → Bool) → List (List ℕ) → Option (List (List ℕ))
after_one test [] = None
after_one test (t ∷ ts) = if test t then Some ts else None

abbrev pub next_is : List ℕ → List (List ℕ) → Bool
next_is e [] = false
next_is e (t ∷ ts) = bytes_eq t e

-- the tokens after a signature behind a colon, where there is one
abbrev pub after_type : List (List ℕ) → Option (List (List ℕ))
after_type tokens = if next_is (codes ":") tokens then after (codes ":" ∷ signature) tokens else Some tokens

-- the tokens of the premises and the conclusion
unfoldable pub after_rule : List (List ℕ) → Option (List (List ℕ))
after_rule tokens = do
  a ← after (codes "module" ∷ []) tokens
  b ← after_one is_module_name a
  c ← after interface b
  d ← after (codes "relation" ∷ codes "main" ∷ []) c
  e ← after_type d
  after (codes "=" ∷ codes "rule" ∷ []) e

-- the literal at the front, and the tokens after it
abbrev pub literal_at : List (List ℕ) → Option (List ℕ × List (List ℕ))
literal_at [] = None
literal_at (t ∷ ts) = if is_literal t then Some (t, ts) else None

abbrev pub bracketed_at : List (List ℕ) → Option (List ℕ × List (List ℕ))
bracketed_at tokens = do
  a ← after (codes "(" ∷ []) tokens
  l ← literal_at a
  b ← after (codes ")" ∷ []) l.1
  Some (l.0, b)

-- what a premise prints
unfoldable pub premise_at : List (List ℕ) → Option (List ℕ × List (List ℕ))
premise_at tokens = do
  a ← after (codes "print" ∷ []) tokens
  if next_is (codes "(") a then bracketed_at a else literal_at a

abbrev pub with_literal : List ℕ → Option (List (List ℕ) × List (List ℕ)) → Option (List (List ℕ) × List (List ℕ))
with_literal l None = None
with_literal l (Some found) = Some (l ∷ found.0, found.1)

-- the literals of at most so many premises
unfoldable pub premises_at : ℕ → List (List ℕ) → Option (List (List ℕ) × List (List ℕ))
premises_at zero tokens = None
premises_at (suc n) tokens = premise_at tokens >>= λ p. if next_is (codes "&") p.1 then (after (codes "&" ∷ []) p.1 >>= λ a. with_literal p.0 (premises_at n a)) else Some (p.0 ∷ [], p.1)

-- nothing is left after the conclusion
unfoldable pub ends : List (List ℕ) → Bool
ends tokens = elim (after_one is_dashes tokens >>= after conclusion) [ None ↦ false | Some rest ↦ (elim rest [ [] ↦ true | t ∷ ts ↦ false ]) ]

-- the literals of a text of the first form
unfoldable pub literals_in : List (List ℕ) → Option (List (List ℕ))
literals_in tokens = after_rule tokens >>= λ rest. premises_at (length rest) rest >>= λ ps. if ends ps.1 then Some ps.0 else None
