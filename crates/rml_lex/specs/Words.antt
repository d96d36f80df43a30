-- How the reserved words and the signs are spelled.
use Rattle.std.specs.Prelude.{ℕ, List, [], ◌∷◌, codes, find, Option}
use Rattle.rml_base.specs.Numbering.{same}
use Rattle.rml_syntax.specs.declared.token.Key.{Key}
use Rattle.rml_syntax.specs.declared.token.Key.TheVariants.{KAbstype, KAnd, KAs, KAxiom, KDatatype, KDefault, KEnd, KEqtype, KLet, KModule, KNot, KOf, KRelation, KRule, KType, KVal, KWith, KWithtype}
use Rattle.rml_syntax.specs.declared.token.Mark.{Mark}
use Rattle.rml_syntax.specs.declared.token.Mark.TheVariants.{OpenRound, CloseRound, OpenSquare, CloseSquare, Comma, Colon, TwoColons, Arrow, Equals, Amp, Bar, Star, Dot, Wild}

abbrev pub word_spelling : Key → List ℕ
word_spelling KAbstype = codes "abstype"
word_spelling KAnd = codes "and"
word_spelling KAs = codes "as"
word_spelling KAxiom = codes "axiom"
word_spelling KDatatype = codes "datatype"
word_spelling KDefault = codes "default"
word_spelling KEnd = codes "end"
word_spelling KEqtype = codes "eqtype"
word_spelling KLet = codes "let"
word_spelling KModule = codes "module"
word_spelling KNot = codes "not"
word_spelling KOf = codes "of"
word_spelling KRelation = codes "relation"
word_spelling KRule = codes "rule"
word_spelling KType = codes "type"
word_spelling KVal = codes "val"
word_spelling KWith = codes "with"
word_spelling KWithtype = codes "withtype"

abbrev pub keys : List Key
keys = KAbstype ∷ KAnd ∷ KAs ∷ KAxiom ∷ KDatatype ∷ KDefault ∷ KEnd ∷ KEqtype ∷ KLet ∷ KModule ∷ KNot ∷ KOf ∷ KRelation ∷ KRule ∷ KType ∷ KVal ∷ KWith ∷ KWithtype ∷ []

-- the word with this spelling, if there is one
abbrev pub word_of : List ℕ → Option Key
word_of spelling = find (λ k. same (word_spelling k) spelling) keys

abbrev pub sign_spelling : Mark → List ℕ
sign_spelling OpenRound = codes "("
sign_spelling CloseRound = codes ")"
sign_spelling OpenSquare = codes "["
sign_spelling CloseSquare = codes "]"
sign_spelling Comma = codes ","
sign_spelling Colon = codes ":"
sign_spelling TwoColons = codes "::"
sign_spelling Arrow = codes "=>"
sign_spelling Equals = codes "="
sign_spelling Amp = codes "&"
sign_spelling Bar = codes "|"
sign_spelling Star = codes "*"
sign_spelling Dot = codes "."
sign_spelling Wild = codes "_"
