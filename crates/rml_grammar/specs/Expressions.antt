-- How expressions are read.
use Rattle.std.specs.Prelude.{ℕ, zero, suc, List, [], ◌∷◌, Option, Some, None, Result, Ok}
use Rattle.rml_syntax.specs.declared.token.Spot.{Spot}
use Rattle.rml_syntax.specs.declared.token.Mark.TheVariants as mark
use Rattle.rml_syntax.specs.declared.rules.Exp.{Exp}
use Rattle.rml_syntax.specs.declared.rules.Exp.TheVariants as exp
use Rattle.rml_grammar.specs.declared.front.Front.{Front}
use Rattle.rml_grammar.specs.declared.front.Front.TheVariants as front
use Rattle.rml_grammar.specs.declared.fault.Fault.{Fault}
use Rattle.rml_grammar.specs.Tokens.{after, front_of, rest_of}
use Rattle.rml_grammar.specs.Reading.{◌>>=◌, Parser, unexpected, repeated, separated, enclosed, enclosed_or_none, inside, long_at}
use Rattle.rml_grammar.specs.Trees.{applied_exp, tuple_exp, chain_exp, results_exp, listed}

-- Each takes the reading of an expression one bracket further in, or nothing where no bracket may open.
abbrev pub Inner : Type 0
Inner = Option (Parser Exp)

-- eatom
abbrev pub eatom_by : Inner → List Spot → Front → Result (Exp × List Spot) Fault
eatom_by inner us (front.Literal l) = Ok (exp.Lit l, rest_of us)
eatom_by inner us front.Square = inside inner (enclosed_or_none mark.CloseSquare) us (rest_of us) >>= λ xs. Ok (exp.List xs.0, xs.1)
eatom_by inner us front.Round = inside inner (enclosed mark.CloseRound) us (rest_of us) >>= λ xs. Ok (tuple_exp xs.0, xs.1)
eatom_by inner us _ = unexpected us

-- [eargs1]
abbrev pub eargument_by : Inner → List Spot → Front → Result (Option (List Exp) × List Spot) Fault
eargument_by inner us (front.Literal l) = Ok (Some (exp.Lit l ∷ []), rest_of us)
eargument_by inner us front.Named = long_at us >>= λ l. Ok (Some (exp.Name l.0 ∷ []), l.1)
eargument_by inner us front.Square = inside inner (enclosed_or_none mark.CloseSquare) us (rest_of us) >>= λ xs. Ok (Some (exp.List xs.0 ∷ []), xs.1)
eargument_by inner us front.Round = inside inner (enclosed mark.CloseRound) us (rest_of us) >>= λ xs. Ok (Some xs.0, xs.1)
eargument_by inner us _ = Ok (None, us)

abbrev pub eargument : Inner → Parser (Option (List Exp))
eargument inner us = eargument_by inner us (front_of us)

-- eapp
abbrev pub eapp_by : Inner → List Spot → Front → Result (Exp × List Spot) Fault
eapp_by inner us front.Named = long_at us >>= λ l. eargument inner l.1 >>= λ a. Ok (applied_exp l.0 a.0, a.1)
eapp_by inner us f = eatom_by inner us f

abbrev pub eapp : Inner → Parser Exp
eapp inner us = eapp_by inner us (front_of us)

-- exp
abbrev pub chained_exp : Inner → Parser Exp
chained_exp inner us = separated (after mark.TwoColons) (eapp inner) us >>= λ xs. Ok (chain_exp xs.0, xs.1)

-- an expression with at most so many brackets open at once
unfoldable pub exp_at : ℕ → Parser Exp
exp_at zero us = chained_exp None us
exp_at (suc n) us = chained_exp (Some (exp_at n)) us

-- expressions one bracket further in
abbrev pub inner_exp : ℕ → Inner
inner_exp zero = None
inner_exp (suc n) = Some (exp_at n)

abbrev pub eapp_at : ℕ → Parser Exp
eapp_at n = eapp (inner_exp n)

abbrev pub eatom_at : ℕ → Parser Exp
eatom_at n us = eatom_by (inner_exp n) us (front_of us)

-- {`::` eapp}
abbrev pub eapps_at : ℕ → Parser (List Exp)
eapps_at n = repeated (after mark.TwoColons) (eapp_at n)

abbrev pub eargument_at : ℕ → Parser (Option (List Exp))
eargument_at n = eargument (inner_exp n)

-- [eargs], where an absent one is the empty list
abbrev pub eargs_by : Inner → List Spot → Front → Result (List Exp × List Spot) Fault
eargs_by inner us front.Round = inside inner (enclosed_or_none mark.CloseRound) us (rest_of us)
eargs_by inner us f = eargument_by inner us f >>= λ a. Ok (listed a.0, a.1)

abbrev pub eargs_at : ℕ → Parser (List Exp)
eargs_at n us = eargs_by (inner_exp n) us (front_of us)

-- eseq behind a round bracket, with p what reads the expressions in it
abbrev pub eseq_inside : ℕ → Parser Exp → Parser (List Exp)
eseq_inside n p us = elim (after mark.CloseRound us) [
  | None ↦ enclosed mark.CloseRound p us >>= λ xs. eapps_at n xs.1 >>= λ ys. Ok (results_exp xs.0 ys.0, ys.1)
  | Some vs ↦ Ok ([], vs)
]

abbrev pub eseq_by : ℕ → List Spot → Front → Result (List Exp × List Spot) Fault
eseq_by n us front.Round = inside (inner_exp n) (eseq_inside n) us (rest_of us)
eseq_by n us f = exp_at n us >>= λ t. Ok (t.0 ∷ [], t.1)

-- eseq
abbrev pub eseq_at : ℕ → Parser (List Exp)
eseq_at n us = eseq_by n us (front_of us)
