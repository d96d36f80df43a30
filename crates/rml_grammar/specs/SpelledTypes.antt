-- What is a type and a signature: a case for each production, between the front of a list of tokens, the tree and the
-- tokens that follow. What may be repeated or left out goes as far as it can.
use Rattle.std.specs.Prelude.{ℕ, List, [], ◌∷◌}
use Rattle.rml_base.specs.declared.place.Place.{Place}
use Rattle.rml_syntax.specs.declared.token.Spot.{Spot}
use Rattle.rml_syntax.specs.declared.token.Mark.TheVariants as mark
use Rattle.rml_syntax.specs.declared.rules.Long.{Long}
use Rattle.rml_syntax.specs.declared.types.TypeExp.{TypeExp}
use Rattle.rml_syntax.specs.declared.types.TypeExp.TheVariants as type
use Rattle.rml_syntax.specs.declared.types.Sig.{Sig}
use Rattle.rml_grammar.specs.Tokens.{tyvar, sign, Lacks}
use Rattle.rml_grammar.specs.Lacks.{LacksName}
use Rattle.rml_grammar.specs.Trees.{named_type, product_type}
use Rattle.rml_grammar.specs.SpelledNames.{IsLong}

-- {long}
pub data IsLongs : List Spot → List Long → List Spot → Type 0 where
  no_long : {us : List Spot} → LacksName us → IsLongs us [] us
  more_longs : {us vs rest : List Spot} {l : Long} {ls : List Long} → IsLong us l vs → IsLongs vs ls rest → IsLongs us (l ∷ ls) rest

mutual
  -- sig = tseq `=>` tseq
  pub data IsSig : List Spot → Sig → List Spot → Type 0 where
    arrow : {us vs rest : List Spot} {p : Place} {ins outs : List TypeExp} → IsTseq us ins (sign mark.Arrow p ∷ vs) → IsTseq vs outs rest → IsSig us (record { inputs = ins; outputs = outs }) rest

  -- tseq = `(` `)` | `(` type `,` type {`,` type} `)` | type
  pub data IsTseq : List Spot → List TypeExp → List Spot → Type 0 where
    no_types : {p q : Place} {rest : List Spot} → IsTseq (sign mark.OpenRound p ∷ sign mark.CloseRound q ∷ rest) [] rest
    types : {us rest : List Spot} {ts : List TypeExp} → IsTypeTuple us ts rest → LacksName rest → IsTseq us ts rest
    one_type : {us rest : List Spot} {t : TypeExp} → IsType us t rest → IsTseq us (t ∷ []) rest

  -- `(` type `,` type {`,` type} `)`
  pub data IsTypeTuple : List Spot → List TypeExp → List Spot → Type 0 where
    two_types : {us vs ws rest : List Spot} {p q r : Place} {t u : TypeExp} {ts : List TypeExp} → IsType us t (sign mark.Comma q ∷ vs) → IsType vs u ws → IsMoreTypes ws ts (sign mark.CloseRound r ∷ rest)
        → IsTypeTuple (sign mark.OpenRound p ∷ us) (t ∷ u ∷ ts) rest

  -- {`,` type}
  pub data IsMoreTypes : List Spot → List TypeExp → List Spot → Type 0 where
    no_more_types : {us : List Spot} → Lacks mark.Comma us → IsMoreTypes us [] us
    more_types : {us vs rest : List Spot} {p : Place} {t : TypeExp} {ts : List TypeExp} → IsType us t vs → IsMoreTypes vs ts rest → IsMoreTypes (sign mark.Comma p ∷ us) (t ∷ ts) rest

  -- type = tatom {`*` tatom}
  pub data IsType : List Spot → TypeExp → List Spot → Type 0 where
    product : {us vs rest : List Spot} {t : TypeExp} {ts : List TypeExp} → IsTatom us t vs → IsFactors vs ts rest → IsType us (product_type (t ∷ ts)) rest

  -- {`*` tatom}
  pub data IsFactors : List Spot → List TypeExp → List Spot → Type 0 where
    no_factor : {us : List Spot} → Lacks mark.Star us → IsFactors us [] us
    more_factors : {us vs rest : List Spot} {p : Place} {t : TypeExp} {ts : List TypeExp} → IsTatom us t vs → IsFactors vs ts rest → IsFactors (sign mark.Star p ∷ us) (t ∷ ts) rest

  -- tatom = tbase {long} | `(` type `,` type {`,` type} `)` long {long}, where a tbase that is a long is an application
  pub data IsTatom : List Spot → TypeExp → List Spot → Type 0 where
    based : {us vs rest : List Spot} {t : TypeExp} {ls : List Long} → IsTbase us t vs → IsLongs vs ls rest → IsTatom us (named_type t ls) rest
    name : {us vs rest : List Spot} {l : Long} {ls : List Long} → IsLong us l vs → IsLongs vs ls rest → IsTatom us (type.App [] (l ∷ ls)) rest
    arguments : {us vs ws rest : List Spot} {ts : List TypeExp} {l : Long} {ls : List Long} → IsTypeTuple us ts vs → IsLong vs l ws → IsLongs ws ls rest → IsTatom us (type.App ts (l ∷ ls)) rest

  -- tbase = tyvar | long | `(` type `)` | `(` sig `)`, but for the long
  pub data IsTbase : List Spot → TypeExp → List Spot → Type 0 where
    var : {v : ℕ} {p : Place} {rest : List Spot} → IsTbase (tyvar v p ∷ rest) (type.Var v p) rest
    bracket : {us rest : List Spot} {p q : Place} {t : TypeExp} → IsType us t (sign mark.CloseRound q ∷ rest) → IsTbase (sign mark.OpenRound p ∷ us) t rest
    relation : {us rest : List Spot} {p q : Place} {s : Sig} → IsSig us s (sign mark.CloseRound q ∷ rest) → IsTbase (sign mark.OpenRound p ∷ us) (type.Rel s) rest
