-- What is a pattern: a case for each production, between the front of a list of tokens, the tree and the tokens
-- that follow. What may be repeated or left out goes as far as it can.
use Rattle.std.specs.Prelude.{◌≡◌, ℕ, Bool, true, false, List, [], ◌∷◌}
use Rattle.rml_base.specs.declared.place.Place.{Place}
use Rattle.rml_syntax.specs.declared.token.Spot.{Spot}
use Rattle.rml_syntax.specs.declared.token.Lit.{Lit}
use Rattle.rml_syntax.specs.declared.token.Key.TheVariants as key
use Rattle.rml_syntax.specs.declared.token.Mark.TheVariants as mark
use Rattle.rml_syntax.specs.declared.rules.Long.{Long}
use Rattle.rml_syntax.specs.declared.rules.Pattern.{Pattern}
use Rattle.rml_syntax.specs.declared.rules.Pattern.TheVariants as pat
use Rattle.rml_grammar.specs.declared.front.Front.{Front}
use Rattle.rml_grammar.specs.declared.front.Front.TheVariants as front
use Rattle.rml_grammar.specs.Tokens.{named, word, literal, sign, Lacks, front_of}
use Rattle.rml_grammar.specs.Lacks.{LacksBinder}
use Rattle.rml_grammar.specs.SpelledNames.{IsLong}
use Rattle.rml_grammar.specs.Trees.{chain_pat}

-- whether an argument of a pattern can begin here
abbrev pub pargs_begin : Front → Bool
pargs_begin (front.Literal l) = true
pargs_begin front.Named = true
pargs_begin front.Round = true
pargs_begin front.Square = true
pargs_begin front.Wild = true
pargs_begin f = false

mutual
  -- pat = [name `as`] pcons
  pub data IsPat : List Spot → Pattern → List Spot → Type 0 where
    bound : {us rest : List Spot} {n : ℕ} {p q : Place} {t : Pattern} → IsPcons us t rest → IsPat (named n p ∷ word key.KAs q ∷ us) (pat.Bind n p t) rest
    unbound : {us rest : List Spot} {t : Pattern} → LacksBinder us → IsPcons us t rest → IsPat us t rest

  -- pcons = papp {`::` papp}
  pub data IsPcons : List Spot → Pattern → List Spot → Type 0 where
    chain : {us vs rest : List Spot} {t : Pattern} {ts : List Pattern} → IsPapp us t vs → IsPapps vs ts rest → IsPcons us (chain_pat (t ∷ ts)) rest

  -- {`::` papp}
  pub data IsPapps : List Spot → List Pattern → List Spot → Type 0 where
    no_papp : {us : List Spot} → Lacks mark.TwoColons us → IsPapps us [] us
    more_papps : {us vs rest : List Spot} {p : Place} {t : Pattern} {ts : List Pattern} → IsPapp us t vs → IsPapps vs ts rest → IsPapps (sign mark.TwoColons p ∷ us) (t ∷ ts) rest

  -- papp = long [pargs1] | patom
  pub data IsPapp : List Spot → Pattern → List Spot → Type 0 where
    name : {us rest : List Spot} {l : Long} → IsLong us l rest → pargs_begin (front_of rest) ≡ false → IsPapp us (pat.Name l) rest
    applied : {us vs rest : List Spot} {l : Long} {ts : List Pattern} → IsLong us l vs → IsPargs1 vs ts rest → IsPapp us (pat.App l ts) rest
    atom : {us rest : List Spot} {t : Pattern} → IsPatom us t rest → IsPapp us t rest

  -- pargs1 = `(` pat {`,` pat} `)` | patom1 | long
  pub data IsPargs1 : List Spot → List Pattern → List Spot → Type 0 where
    bracketed : {us rest : List Spot} {p q : Place} {ts : List Pattern} → IsPats us ts (sign mark.CloseRound q ∷ rest) → IsPargs1 (sign mark.OpenRound p ∷ us) ts rest
    an_atom : {us rest : List Spot} {t : Pattern} → IsPatom1 us t rest → IsPargs1 us (t ∷ []) rest
    a_long : {us rest : List Spot} {l : Long} → IsLong us l rest → IsPargs1 us (pat.Name l ∷ []) rest

  -- patom = patom1 | `(` pat `)` | `(` pat `,` pat {`,` pat} `)`
  pub data IsPatom : List Spot → Pattern → List Spot → Type 0 where
    simple : {us rest : List Spot} {t : Pattern} → IsPatom1 us t rest → IsPatom us t rest
    bracket : {us rest : List Spot} {p q : Place} {t : Pattern} → IsPat us t (sign mark.CloseRound q ∷ rest) → IsPatom (sign mark.OpenRound p ∷ us) t rest
    tuple : {us rest : List Spot} {ts : List Pattern} → IsPatTuple us ts rest → IsPatom us (pat.Tuple ts) rest

  -- `(` pat `,` pat {`,` pat} `)`
  pub data IsPatTuple : List Spot → List Pattern → List Spot → Type 0 where
    two_pats : {us vs ws rest : List Spot} {p q r : Place} {t u : Pattern} {ts : List Pattern} → IsPat us t (sign mark.Comma q ∷ vs) → IsPat vs u ws → IsMorePats ws ts (sign mark.CloseRound r ∷ rest)
        → IsPatTuple (sign mark.OpenRound p ∷ us) (t ∷ u ∷ ts) rest

  -- patom1 = `_` | int | char | text-literal | `[` [pat {`,` pat}] `]`
  pub data IsPatom1 : List Spot → Pattern → List Spot → Type 0 where
    any : {p : Place} {rest : List Spot} → IsPatom1 (sign mark.Wild p ∷ rest) pat.Any rest
    lit : {l : Lit} {p : Place} {rest : List Spot} → IsPatom1 (literal l p ∷ rest) (pat.Lit l) rest
    no_list : {p q : Place} {rest : List Spot} → IsPatom1 (sign mark.OpenSquare p ∷ sign mark.CloseSquare q ∷ rest) (pat.List []) rest
    list : {us rest : List Spot} {p q : Place} {ts : List Pattern} → IsPats us ts (sign mark.CloseSquare q ∷ rest) → IsPatom1 (sign mark.OpenSquare p ∷ us) (pat.List ts) rest

  -- pat {`,` pat}
  pub data IsPats : List Spot → List Pattern → List Spot → Type 0 where
    some_pats : {us vs rest : List Spot} {t : Pattern} {ts : List Pattern} → IsPat us t vs → IsMorePats vs ts rest → IsPats us (t ∷ ts) rest

  -- {`,` pat}
  pub data IsMorePats : List Spot → List Pattern → List Spot → Type 0 where
    no_more_pats : {us : List Spot} → Lacks mark.Comma us → IsMorePats us [] us
    more_pats : {us vs rest : List Spot} {p : Place} {t : Pattern} {ts : List Pattern} → IsPat us t vs → IsMorePats vs ts rest → IsMorePats (sign mark.Comma p ∷ us) (t ∷ ts) rest

-- [pargs], with pargs = `(` `)` | pargs1
pub data IsPargs : List Spot → List Pattern → List Spot → Type 0 where
  no_pargs : {us : List Spot} → pargs_begin (front_of us) ≡ false → IsPargs us [] us
  empty_pargs : {p q : Place} {rest : List Spot} → IsPargs (sign mark.OpenRound p ∷ sign mark.CloseRound q ∷ rest) [] rest
  pargs1 : {us rest : List Spot} {ts : List Pattern} → IsPargs1 us ts rest → IsPargs us ts rest

-- pseq = `(` `)` | `(` pat `,` pat {`,` pat} `)` | pat that is no bare tuple
pub data IsPseq : List Spot → List Pattern → List Spot → Type 0 where
  no_pats : {p q : Place} {rest : List Spot} → IsPseq (sign mark.OpenRound p ∷ sign mark.CloseRound q ∷ rest) [] rest
  pats : {us rest : List Spot} {ts : List Pattern} → IsPatTuple us ts rest → Lacks mark.TwoColons rest → IsPseq us ts rest
  one_pat : {us rest : List Spot} {t : Pattern} → IsPat us t rest → ((ts : List Pattern) → IsPatTuple us ts rest → ⊥) → IsPseq us (t ∷ []) rest
