-- What is an expression: a case for each production, between the front of a list of tokens, the tree and the tokens
-- that follow. What may be repeated or left out goes as far as it can.
use Rattle.std.specs.Prelude.{◌≡◌, Bool, true, false, List, [], ◌∷◌}
use Rattle.rml_base.specs.declared.place.Place.{Place}
use Rattle.rml_syntax.specs.declared.token.Spot.{Spot}
use Rattle.rml_syntax.specs.declared.token.Lit.{Lit}
use Rattle.rml_syntax.specs.declared.token.Mark.TheVariants as mark
use Rattle.rml_syntax.specs.declared.rules.Long.{Long}
use Rattle.rml_syntax.specs.declared.rules.Exp.{Exp}
use Rattle.rml_syntax.specs.declared.rules.Exp.TheVariants as exp
use Rattle.rml_grammar.specs.declared.front.Front.{Front}
use Rattle.rml_grammar.specs.declared.front.Front.TheVariants as front
use Rattle.rml_grammar.specs.Tokens.{literal, sign, Lacks, front_of}
use Rattle.rml_grammar.specs.SpelledNames.{IsLong}
use Rattle.rml_grammar.specs.Trees.{chain_exp}

-- whether an argument of an expression can begin here
abbrev pub eargs_begin : Front → Bool
eargs_begin (front.Literal l) = true
eargs_begin front.Named = true
eargs_begin front.Round = true
eargs_begin front.Square = true
eargs_begin f = false

mutual
  -- exp = eapp {`::` eapp}
  pub data IsExp : List Spot → Exp → List Spot → Type 0 where
    chain : {us vs rest : List Spot} {t : Exp} {ts : List Exp} → IsEapp us t vs → IsEapps vs ts rest → IsExp us (chain_exp (t ∷ ts)) rest

  -- {`::` eapp}
  pub data IsEapps : List Spot → List Exp → List Spot → Type 0 where
    no_eapp : {us : List Spot} → Lacks mark.TwoColons us → IsEapps us [] us
    more_eapps : {us vs rest : List Spot} {p : Place} {t : Exp} {ts : List Exp} → IsEapp us t vs → IsEapps vs ts rest → IsEapps (sign mark.TwoColons p ∷ us) (t ∷ ts) rest

  -- eapp = long [eargs1] | eatom
  pub data IsEapp : List Spot → Exp → List Spot → Type 0 where
    name : {us rest : List Spot} {l : Long} → IsLong us l rest → eargs_begin (front_of rest) ≡ false → IsEapp us (exp.Name l) rest
    applied : {us vs rest : List Spot} {l : Long} {ts : List Exp} → IsLong us l vs → IsEargs1 vs ts rest → IsEapp us (exp.App l ts) rest
    atom : {us rest : List Spot} {t : Exp} → IsEatom us t rest → IsEapp us t rest

  -- eargs1 = `(` exp {`,` exp} `)` | eatom1 | long
  pub data IsEargs1 : List Spot → List Exp → List Spot → Type 0 where
    bracketed : {us rest : List Spot} {p q : Place} {ts : List Exp} → IsExps us ts (sign mark.CloseRound q ∷ rest) → IsEargs1 (sign mark.OpenRound p ∷ us) ts rest
    an_atom : {us rest : List Spot} {t : Exp} → IsEatom1 us t rest → IsEargs1 us (t ∷ []) rest
    a_long : {us rest : List Spot} {l : Long} → IsLong us l rest → IsEargs1 us (exp.Name l ∷ []) rest

  -- eatom = eatom1 | `(` exp `)` | `(` exp `,` exp {`,` exp} `)`
  pub data IsEatom : List Spot → Exp → List Spot → Type 0 where
    simple : {us rest : List Spot} {t : Exp} → IsEatom1 us t rest → IsEatom us t rest
    bracket : {us rest : List Spot} {p q : Place} {t : Exp} → IsExp us t (sign mark.CloseRound q ∷ rest) → IsEatom (sign mark.OpenRound p ∷ us) t rest
    tuple : {us rest : List Spot} {ts : List Exp} → IsExpTuple us ts rest → IsEatom us (exp.Tuple ts) rest

  -- `(` exp `,` exp {`,` exp} `)`
  pub data IsExpTuple : List Spot → List Exp → List Spot → Type 0 where
    two_exps : {us vs ws rest : List Spot} {p q r : Place} {t u : Exp} {ts : List Exp} → IsExp us t (sign mark.Comma q ∷ vs) → IsExp vs u ws → IsMoreExps ws ts (sign mark.CloseRound r ∷ rest)
        → IsExpTuple (sign mark.OpenRound p ∷ us) (t ∷ u ∷ ts) rest

  -- eatom1 = int | char | text-literal | `[` [exp {`,` exp}] `]`
  pub data IsEatom1 : List Spot → Exp → List Spot → Type 0 where
    lit : {l : Lit} {p : Place} {rest : List Spot} → IsEatom1 (literal l p ∷ rest) (exp.Lit l) rest
    no_list : {p q : Place} {rest : List Spot} → IsEatom1 (sign mark.OpenSquare p ∷ sign mark.CloseSquare q ∷ rest) (exp.List []) rest
    list : {us rest : List Spot} {p q : Place} {ts : List Exp} → IsExps us ts (sign mark.CloseSquare q ∷ rest) → IsEatom1 (sign mark.OpenSquare p ∷ us) (exp.List ts) rest

  -- exp {`,` exp}
  pub data IsExps : List Spot → List Exp → List Spot → Type 0 where
    some_exps : {us vs rest : List Spot} {t : Exp} {ts : List Exp} → IsExp us t vs → IsMoreExps vs ts rest → IsExps us (t ∷ ts) rest

  -- {`,` exp}
  pub data IsMoreExps : List Spot → List Exp → List Spot → Type 0 where
    no_more_exps : {us : List Spot} → Lacks mark.Comma us → IsMoreExps us [] us
    more_exps : {us vs rest : List Spot} {p : Place} {t : Exp} {ts : List Exp} → IsExp us t vs → IsMoreExps vs ts rest → IsMoreExps (sign mark.Comma p ∷ us) (t ∷ ts) rest

-- [eargs], with eargs = `(` `)` | eargs1
pub data IsEargs : List Spot → List Exp → List Spot → Type 0 where
  no_eargs : {us : List Spot} → eargs_begin (front_of us) ≡ false → IsEargs us [] us
  empty_eargs : {p q : Place} {rest : List Spot} → IsEargs (sign mark.OpenRound p ∷ sign mark.CloseRound q ∷ rest) [] rest
  eargs1 : {us rest : List Spot} {ts : List Exp} → IsEargs1 us ts rest → IsEargs us ts rest

-- eseq = `(` `)` | `(` exp `,` exp {`,` exp} `)` | exp that is no bare tuple
pub data IsEseq : List Spot → List Exp → List Spot → Type 0 where
  no_exps : {p q : Place} {rest : List Spot} → IsEseq (sign mark.OpenRound p ∷ sign mark.CloseRound q ∷ rest) [] rest
  exps : {us rest : List Spot} {ts : List Exp} → IsExpTuple us ts rest → Lacks mark.TwoColons rest → IsEseq us ts rest
  one_exp : {us rest : List Spot} {t : Exp} → IsExp us t rest → ((ts : List Exp) → IsExpTuple us ts rest → ⊥) → IsEseq us (t ∷ []) rest
