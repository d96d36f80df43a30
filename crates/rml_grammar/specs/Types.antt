-- How types and signatures are read. Inside a round bracket a signature, one type and more types begin alike, so one
-- reading serves all, and answers what it found.
use Rattle.std.specs.Prelude.{ℕ, zero, suc, List, [], ◌∷◌, Option, Some, None, Result, Ok}
use Rattle.rml_syntax.specs.declared.token.Spot.{Spot}
use Rattle.rml_syntax.specs.declared.token.Mark.TheVariants as mark
use Rattle.rml_syntax.specs.declared.rules.Long.{Long}
use Rattle.rml_syntax.specs.declared.types.TypeExp.{TypeExp}
use Rattle.rml_syntax.specs.declared.types.TypeExp.TheVariants as type
use Rattle.rml_syntax.specs.declared.types.Sig.{Sig}
use Rattle.rml_grammar.specs.declared.front.Front.{Front}
use Rattle.rml_grammar.specs.declared.front.Front.TheVariants as front
use Rattle.rml_grammar.specs.declared.types.Bracket.{Bracket}
use Rattle.rml_grammar.specs.declared.types.Bracket.TheVariants as bracket
use Rattle.rml_grammar.specs.declared.types.Types.{Types}
use Rattle.rml_grammar.specs.declared.types.Types.TheVariants as types
use Rattle.rml_grammar.specs.declared.fault.Fault.{Fault}
use Rattle.rml_grammar.specs.Tokens.{after, front_of, rest_of}
use Rattle.rml_grammar.specs.Reading.{◌>>=◌, Parser, unexpected, repeated, separated, before, inside, long_at}
use Rattle.rml_grammar.specs.Trees.{named_type, product_type}

-- Each takes the reading of what stands in a round bracket, or nothing where no bracket may open.
abbrev pub Inner : Type 0
Inner = Option (Parser Bracket)

-- where a name stands, the list itself
abbrev pub name_by : List Spot → Front → Option (List Spot)
name_by us front.Named = Some us
name_by us f = None

abbrev pub name_next : List Spot → Option (List Spot)
name_next us = name_by us (front_of us)

-- {long}
abbrev pub longs_at : Parser (List Long)
longs_at = repeated name_next long_at

-- the type that a bracket and the names behind it make; more types than one want a name, which us lacks
abbrev pub bracket_type : List Spot → Bracket → List Long → Result (TypeExp × List Spot) Fault
bracket_type us (bracket.Sig s) ls = Ok (named_type (type.Rel s) ls, us)
bracket_type us (bracket.Types (x ∷ [])) ls = Ok (named_type x ls, us)
bracket_type us (bracket.Types xs) [] = unexpected us
bracket_type us (bracket.Types xs) (l ∷ ls) = Ok (type.App xs (l ∷ ls), us)

-- tatom
abbrev pub tatom_by : Inner → List Spot → Front → Result (TypeExp × List Spot) Fault
tatom_by inner us (front.TyVar v p) = longs_at (rest_of us) >>= λ ls. Ok (named_type (type.Var v p) ls.0, ls.1)
tatom_by inner us front.Named = long_at us >>= λ l. longs_at l.1 >>= λ ls. Ok (type.App [] (l.0 ∷ ls.0), ls.1)
tatom_by inner us front.Round = inside inner (λ p. p) us (rest_of us) >>= λ b. longs_at b.1 >>= λ ls. bracket_type ls.1 b.0 ls.0
tatom_by inner us _ = unexpected us

abbrev pub tatom : Inner → Parser TypeExp
tatom inner us = tatom_by inner us (front_of us)

-- type
abbrev pub product : Inner → Parser TypeExp
product inner us = separated (after mark.Star) (tatom inner) us >>= λ xs. Ok (product_type xs.0, xs.1)

-- one type that begins with x
abbrev pub one_from : Inner → TypeExp × List Spot → Result (Types × List Spot) Fault
one_from inner x = repeated (after mark.Star) (tatom inner) x.1 >>= λ xs. Ok (types.One (product_type (x.0 ∷ xs.0)), xs.1)

-- more types than one with no name behind them are a list, and all else is a type
abbrev pub tseq_from : Inner → List Spot → Bracket → List Long → Result (Types × List Spot) Fault
tseq_from inner us (bracket.Types (x ∷ y ∷ xs)) [] = Ok (types.Bare (x ∷ y ∷ xs), us)
tseq_from inner us b ls = bracket_type us b ls >>= one_from inner

-- tseq behind a round bracket, with p what reads the bracket
abbrev pub tseq_inside : Inner → Parser Bracket → Parser Types
tseq_inside inner p us = elim (after mark.CloseRound us) [
  | None ↦ p us >>= λ b. longs_at b.1 >>= λ ls. tseq_from inner ls.1 b.0 ls.0
  | Some vs ↦ Ok (types.Bare [], vs)
]

-- tseq
abbrev pub tseq_by : Inner → List Spot → Front → Result (Types × List Spot) Fault
tseq_by inner us front.Round = inside inner (tseq_inside inner) us (rest_of us)
tseq_by inner us f = product inner us >>= λ t. Ok (types.One t.0, t.1)

abbrev pub tseq : Inner → Parser Types
tseq inner us = tseq_by inner us (front_of us)

abbrev pub types_of : Types → List TypeExp
types_of (types.Bare ts) = ts
types_of (types.One t) = t ∷ []

-- behind an arrow
abbrev pub outputs : Inner → Types → Parser Sig
outputs inner ins us = tseq inner us >>= λ outs. Ok (record { inputs = types_of ins; outputs = types_of outs.0 }, outs.1)

-- sig
abbrev pub signature : Inner → Parser Sig
signature inner us = tseq inner us >>= before (after mark.Arrow) >>= λ ins. outputs inner ins.0 ins.1

-- types that begin with x, and the closing bracket
abbrev pub bracket_from : Inner → Types → Parser Bracket
bracket_from inner (types.Bare ts) us = unexpected us
bracket_from inner (types.One t) us = repeated (after mark.Comma) (product inner) us >>= before (after mark.CloseRound) >>= λ ts. Ok (bracket.Types (t ∷ ts.0), ts.1)

-- what stands in a round bracket, and the closing bracket
abbrev pub bracket_by : Inner → Types → List Spot → Option (List Spot) → Result (Bracket × List Spot) Fault
bracket_by inner ins us (Some vs) = outputs inner ins vs >>= before (after mark.CloseRound) >>= λ s. Ok (bracket.Sig s.0, s.1)
bracket_by inner ins us None = bracket_from inner ins us

abbrev pub in_bracket : Inner → Parser Bracket
in_bracket inner us = tseq inner us >>= λ ins. bracket_by inner ins.0 ins.1 (after mark.Arrow ins.1)

-- what stands in a round bracket, with at most so many brackets open at once in it
unfoldable pub bracket_at : ℕ → Parser Bracket
bracket_at zero us = in_bracket None us
bracket_at (suc n) us = in_bracket (Some (bracket_at n)) us

-- brackets one further in
abbrev pub inner_bracket : ℕ → Inner
inner_bracket zero = None
inner_bracket (suc n) = Some (bracket_at n)

abbrev pub tatom_at : ℕ → Parser TypeExp
tatom_at n = tatom (inner_bracket n)

abbrev pub type_at : ℕ → Parser TypeExp
type_at n = product (inner_bracket n)

abbrev pub tseq_at : ℕ → Parser Types
tseq_at n = tseq (inner_bracket n)

abbrev pub sig_at : ℕ → Parser Sig
sig_at n = signature (inner_bracket n)
