-- How patterns are read.
use Rattle.std.specs.Prelude.{ℕ, zero, suc, List, [], ◌∷◌, Option, Some, None, Result, Ok}
use Rattle.rml_syntax.specs.declared.token.Spot.{Spot}
use Rattle.rml_base.specs.declared.place.Place.{Place}
use Rattle.rml_syntax.specs.declared.token.Token.{Token}
use Rattle.rml_syntax.specs.declared.token.Token.TheVariants as token
use Rattle.rml_syntax.specs.declared.token.Key.TheVariants as key
use Rattle.rml_syntax.specs.declared.token.Mark.TheVariants as mark
use Rattle.rml_syntax.specs.declared.rules.Pattern.{Pattern}
use Rattle.rml_syntax.specs.declared.rules.Pattern.TheVariants as pat
use Rattle.rml_grammar.specs.declared.front.Front.{Front}
use Rattle.rml_grammar.specs.declared.front.Front.TheVariants as front
use Rattle.rml_grammar.specs.declared.fault.Fault.{Fault}
use Rattle.rml_grammar.specs.Tokens.{after, after_word, front_of, rest_of}
use Rattle.rml_grammar.specs.Reading.{◌>>=◌, Parser, unexpected, repeated, separated, enclosed, enclosed_or_none, inside, long_at}
use Rattle.rml_grammar.specs.Trees.{applied_pat, tuple_pat, chain_pat, results_pat, listed}

-- Each takes the reading of a pattern one bracket further in, or nothing where no bracket may open.
abbrev pub Inner : Type 0
Inner = Option (Parser Pattern)

-- patom
abbrev pub patom_by : Inner → List Spot → Front → Result (Pattern × List Spot) Fault
patom_by inner us (front.Literal l) = Ok (pat.Lit l, rest_of us)
patom_by inner us front.Wild = Ok (pat.Any, rest_of us)
patom_by inner us front.Square = inside inner (enclosed_or_none mark.CloseSquare) us (rest_of us) >>= λ xs. Ok (pat.List xs.0, xs.1)
patom_by inner us front.Round = inside inner (enclosed mark.CloseRound) us (rest_of us) >>= λ xs. Ok (tuple_pat xs.0, xs.1)
patom_by inner us _ = unexpected us

-- [pargs1]
abbrev pub pargument_by : Inner → List Spot → Front → Result (Option (List Pattern) × List Spot) Fault
pargument_by inner us (front.Literal l) = Ok (Some (pat.Lit l ∷ []), rest_of us)
pargument_by inner us front.Wild = Ok (Some (pat.Any ∷ []), rest_of us)
pargument_by inner us front.Named = long_at us >>= λ l. Ok (Some (pat.Name l.0 ∷ []), l.1)
pargument_by inner us front.Square = inside inner (enclosed_or_none mark.CloseSquare) us (rest_of us) >>= λ xs. Ok (Some (pat.List xs.0 ∷ []), xs.1)
pargument_by inner us front.Round = inside inner (enclosed mark.CloseRound) us (rest_of us) >>= λ xs. Ok (Some xs.0, xs.1)
pargument_by inner us _ = Ok (None, us)

abbrev pub pargument : Inner → Parser (Option (List Pattern))
pargument inner us = pargument_by inner us (front_of us)

-- papp
abbrev pub papp_by : Inner → List Spot → Front → Result (Pattern × List Spot) Fault
papp_by inner us front.Named = long_at us >>= λ l. pargument inner l.1 >>= λ a. Ok (applied_pat l.0 a.0, a.1)
papp_by inner us f = patom_by inner us f

abbrev pub papp : Inner → Parser Pattern
papp inner us = papp_by inner us (front_of us)

-- pcons
abbrev pub pcons : Inner → Parser Pattern
pcons inner us = separated (after mark.TwoColons) (papp inner) us >>= λ xs. Ok (chain_pat xs.0, xs.1)

-- a name and an `as`, if they stand first, and what follows them
abbrev pub binder_by : ℕ × Place → Option (List Spot) → Option ((ℕ × Place) × List Spot)
binder_by n None = None
binder_by n (Some us) = Some (n, us)

abbrev pub binder_in : Token → Place → List Spot → Option ((ℕ × Place) × List Spot)
binder_in (token.Name n) p us = binder_by (n, p) (after_word key.KAs us)
binder_in _ p us = None

abbrev pub binder_at : List Spot → Option ((ℕ × Place) × List Spot)
binder_at [] = None
binder_at (s ∷ us) = binder_in s.token s.place us

-- pat
abbrev pub bound_pat : Inner → Parser Pattern
bound_pat inner us = elim (binder_at us) [
  | None ↦ pcons inner us
  | Some x ↦ pcons inner x.1 >>= λ t. Ok (pat.Bind x.0.0 x.0.1 t.0, t.1)
]

-- a pattern with at most so many brackets open at once
unfoldable pub pat_at : ℕ → Parser Pattern
pat_at zero us = bound_pat None us
pat_at (suc n) us = bound_pat (Some (pat_at n)) us

-- patterns one bracket further in
abbrev pub inner_pat : ℕ → Inner
inner_pat zero = None
inner_pat (suc n) = Some (pat_at n)

abbrev pub papp_at : ℕ → Parser Pattern
papp_at n = papp (inner_pat n)

abbrev pub patom_at : ℕ → Parser Pattern
patom_at n us = patom_by (inner_pat n) us (front_of us)

abbrev pub pcons_at : ℕ → Parser Pattern
pcons_at n = pcons (inner_pat n)

-- {`::` papp}
abbrev pub papps_at : ℕ → Parser (List Pattern)
papps_at n = repeated (after mark.TwoColons) (papp_at n)

abbrev pub pargument_at : ℕ → Parser (Option (List Pattern))
pargument_at n = pargument (inner_pat n)

-- [pargs], where an absent one is the empty list
abbrev pub pargs_by : Inner → List Spot → Front → Result (List Pattern × List Spot) Fault
pargs_by inner us front.Round = inside inner (enclosed_or_none mark.CloseRound) us (rest_of us)
pargs_by inner us f = pargument_by inner us f >>= λ a. Ok (listed a.0, a.1)

abbrev pub pargs_at : ℕ → Parser (List Pattern)
pargs_at n us = pargs_by (inner_pat n) us (front_of us)

-- pseq behind a round bracket, with p what reads the patterns in it
abbrev pub pseq_inside : ℕ → Parser Pattern → Parser (List Pattern)
pseq_inside n p us = elim (after mark.CloseRound us) [
  | None ↦ enclosed mark.CloseRound p us >>= λ xs. papps_at n xs.1 >>= λ ys. Ok (results_pat xs.0 ys.0, ys.1)
  | Some vs ↦ Ok ([], vs)
]

abbrev pub pseq_by : ℕ → List Spot → Front → Result (List Pattern × List Spot) Fault
pseq_by n us front.Round = inside (inner_pat n) (pseq_inside n) us (rest_of us)
pseq_by n us f = pat_at n us >>= λ t. Ok (t.0 ∷ [], t.1)

-- pseq
abbrev pub pseq_at : ℕ → Parser (List Pattern)
pseq_at n us = pseq_by n us (front_of us)
