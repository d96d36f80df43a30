-- What the laws of the grammar speak of: a reading that gives a tree or meets a limit, and a reading that is refused at a
-- token.
use Rattle.std.specs.Prelude.{◌≡◌, ℕ, suc, List, ◌∷◌, ◌++◌, length, Result, Ok, Err}
use Rattle.rml_base.specs.declared.place.Place.{Place}
use Rattle.rml_syntax.specs.declared.token.Spot.{Spot}
use Rattle.rml_syntax.specs.declared.texts.Text.{Text}
use Rattle.rml_grammar.specs.declared.fault.Fault.{Fault}
use Rattle.rml_grammar.specs.declared.fault.ParseKind.{ParseKind}
use Rattle.rml_grammar.specs.declared.fault.ParseKind.TheVariants as kind
use Rattle.rml_grammar.specs.Texts.{whole_text}
use Rattle.rml_grammar.specs.SpelledTexts.{Derives}

abbrev pub IsLimit : ParseKind → Type 0
IsLimit kind.Unexpected = ⊥
IsLimit kind.TooDeep = Unit {0}
IsLimit kind.TooManyRules = Unit {0}

-- it gives x, or meets a limit
abbrev pub Agrees : {X : Type 0} → Result X Fault → X → Type 0
Agrees (Ok y) x = y ≡ x
Agrees (Err f) x = IsLimit f.kind

-- it is refused, where so many tokens are left
abbrev pub IsUnexpected : {X : Type 0} → ℕ → Result X Fault → Type 0
IsUnexpected left read = read ≡ Err (record { kind = kind.Unexpected; left = left })

-- what is read derives from the tokens
abbrev pub Sound : Type 0
Sound = (end : Place) (levels further : ℕ) (us : List Spot) (t : Text) → whole_text end levels further us ≡ Ok t → Derives end us t

-- each tree of the tokens is read, unless a limit is met; so no tokens that are read have two trees
abbrev pub Complete : Type 0
Complete = (end : Place) (levels further : ℕ) (us : List Spot) (t : Text) → Derives end us t → Agrees (whole_text end levels further us) t

-- where a list is refused at a token, no list that begins with the tokens up to there has a tree, wherever its text ends
abbrev pub Placed : Type 0
Placed = (end at : Place) (levels further : ℕ) (c tail other : List Spot) (x : Spot) (t : Text) → IsUnexpected (suc (length tail)) (whole_text end levels further (c ++ x ∷ tail)) → Derives at (c ++ x ∷ other) t → ⊥
