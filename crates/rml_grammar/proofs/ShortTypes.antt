-- What a type takes from the front leaves no more than there was.
use Rattle.std.proofs.Common.{◌≤◌, ◌<◌, List, length, arith}
use Rattle.rml_syntax.specs.declared.token.Spot.{Spot}
use Rattle.rml_syntax.specs.declared.rules.Long.{Long}
use Rattle.rml_syntax.specs.declared.types.TypeExp.{TypeExp}
use Rattle.rml_syntax.specs.declared.types.Sig.{Sig}
use Rattle.rml_grammar.specs.SpelledNames.{IsLong, alone, dotted}
use Rattle.rml_grammar.specs.SpelledTypes as s
use Rattle.rml_grammar.specs.SpelledTypes.{IsLongs, IsSig, IsTseq, IsTypeTuple, IsMoreTypes, IsType, IsFactors, IsTatom, IsTbase}

pub shorter-long : {us rest : List Spot} {l : Long} → IsLong us l rest → length rest < length us
shorter-long (alone e) = omega arith
shorter-long dotted = omega arith

pub short-longs : {us rest : List Spot} {ls : List Long} → IsLongs us ls rest → length rest ≤ length us
short-longs (s.no_long e) = omega arith
short-longs (s.more_longs a b) = let x = shorter-long a in let y = short-longs b in omega arith

mutual
  pub short-sig : {us rest : List Spot} {t : Sig} → IsSig us t rest → length rest ≤ length us
  short-sig (s.arrow a b) = let x = short-tseq a in let y = short-tseq b in omega arith

  pub short-tseq : {us rest : List Spot} {ts : List TypeExp} → IsTseq us ts rest → length rest ≤ length us
  short-tseq s.no_types = omega arith
  short-tseq (s.types a e) = short-type_tuple a
  short-tseq (s.one_type a) = short-type a

  pub short-type_tuple : {us rest : List Spot} {ts : List TypeExp} → IsTypeTuple us ts rest → length rest ≤ length us
  short-type_tuple (s.two_types a b c) = let x = short-type a in let y = short-type b in let z = short-more_types c in omega arith

  pub short-more_types : {us rest : List Spot} {ts : List TypeExp} → IsMoreTypes us ts rest → length rest ≤ length us
  short-more_types (s.no_more_types e) = omega arith
  short-more_types (s.more_types a b) = let x = short-type a in let y = short-more_types b in omega arith

  pub short-type : {us rest : List Spot} {t : TypeExp} → IsType us t rest → length rest ≤ length us
  short-type (s.product a b) = let x = short-tatom a in let y = short-factors b in omega arith

  pub short-factors : {us rest : List Spot} {ts : List TypeExp} → IsFactors us ts rest → length rest ≤ length us
  short-factors (s.no_factor e) = omega arith
  short-factors (s.more_factors a b) = let x = short-tatom a in let y = short-factors b in omega arith

  pub short-tatom : {us rest : List Spot} {t : TypeExp} → IsTatom us t rest → length rest ≤ length us
  short-tatom (s.based a b) = let x = short-tbase a in let y = short-longs b in omega arith
  short-tatom (s.name a b) = let x = shorter-long a in let y = short-longs b in omega arith
  short-tatom (s.arguments a b c) = let x = short-type_tuple a in let y = shorter-long b in let z = short-longs c in omega arith

  pub short-tbase : {us rest : List Spot} {t : TypeExp} → IsTbase us t rest → length rest ≤ length us
  short-tbase s.var = omega arith
  short-tbase (s.bracket a) = let x = short-type a in omega arith
  short-tbase (s.relation a) = let x = short-sig a in omega arith
