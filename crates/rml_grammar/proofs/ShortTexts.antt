-- What a declaration or a rule takes from the front leaves less than there was.
use Rattle.std.proofs.Common.{ℕ, ◌≤◌, ◌<◌, List, Option, length, arith}
use Rattle.rml_syntax.specs.declared.token.Spot.{Spot}
use Rattle.rml_syntax.specs.declared.rules.Exp.{Exp}
use Rattle.rml_syntax.specs.declared.rules.Rule.{Rule}
use Rattle.rml_syntax.specs.declared.types.TypeExp.{TypeExp}
use Rattle.rml_syntax.specs.declared.types.Sig.{Sig}
use Rattle.rml_syntax.specs.declared.types.TypeHead.{TypeHead}
use Rattle.rml_syntax.specs.declared.types.DataBind.{DataBind}
use Rattle.rml_syntax.specs.declared.types.ConBind.{ConBind}
use Rattle.rml_syntax.specs.declared.texts.Decl.{Decl}
use Rattle.rml_grammar.specs.SpelledTexts as s
use Rattle.rml_grammar.specs.SpelledTexts.{IsMoreTyvars, IsThead, IsCon, IsMoreCons, IsData, IsMoreDatas, IsDatas, IsAbbrev, IsSpec, IsRuleResults, IsHead, IsClause, IsMoreClauses, IsOptionalType, IsOptionalSig, IsDecl}
use Rattle.rml_grammar.specs.Trees.{Head}
use Rattle.rml_grammar.proofs.ShortTypes.{short-type, short-tatom, short-factors, short-sig}
use Rattle.rml_grammar.proofs.ShortExpressions.{short-exp}
use Rattle.rml_grammar.proofs.ShortGoals.{short-pargs, short-eseq, short-goals}

pub short-more_tyvars : {us rest : List Spot} {vs : List ℕ} → IsMoreTyvars us vs rest → length rest ≤ length us
short-more_tyvars (s.no_more_tyvars e) = omega arith
short-more_tyvars (s.more_tyvars a) = let x = short-more_tyvars a in omega arith

pub shorter-thead : {us rest : List Spot} {h : TypeHead} → IsThead us h rest → length rest < length us
shorter-thead s.bare = omega arith
shorter-thead s.one_var = omega arith
shorter-thead (s.two_vars a) = let x = short-more_tyvars a in omega arith

pub shorter-con : {us rest : List Spot} {c : ConBind} → IsCon us c rest → length rest < length us
shorter-con (s.constant e) = omega arith
shorter-con (s.of_parts a b) = let x = short-tatom a in let y = short-factors b in omega arith

pub short-more_cons : {us rest : List Spot} {cs : List ConBind} → IsMoreCons us cs rest → length rest ≤ length us
short-more_cons (s.no_more_cons e) = omega arith
short-more_cons (s.more_cons a b) = let x = shorter-con a in let y = short-more_cons b in omega arith

pub shorter-data : {us rest : List Spot} {d : DataBind} → IsData us d rest → length rest < length us
shorter-data (s.of_cons a b c) = let x = shorter-thead a in let y = shorter-con b in let z = short-more_cons c in omega arith

pub short-more_datas : {us rest : List Spot} {ds : List DataBind} → IsMoreDatas us ds rest → length rest ≤ length us
short-more_datas (s.no_more_datas e) = omega arith
short-more_datas (s.more_datas a b) = let x = shorter-data a in let y = short-more_datas b in omega arith

shorter-datas : {us rest : List Spot} {d : Decl} → IsDatas us d rest → length rest < length us
shorter-datas (s.some_datas a b) = let x = shorter-data a in let y = short-more_datas b in omega arith

shorter-abbrev : {us rest : List Spot} {d : Decl} → IsAbbrev us d rest → length rest < length us
shorter-abbrev (s.abbreviation a b) = let x = shorter-thead a in let y = short-type b in omega arith

pub shorter-spec : {us rest : List Spot} {d : Decl} → IsSpec us d rest → length rest < length us
shorter-spec (s.datas a) = shorter-datas a
shorter-spec (s.an_abbrev a) = shorter-abbrev a
shorter-spec (s.abstract a) = let x = shorter-thead a in omega arith
shorter-spec (s.val a) = let x = short-type a in omega arith
shorter-spec (s.relation a) = let x = short-sig a in omega arith

short-rule_results : {us rest : List Spot} {ts : List Exp} → IsRuleResults us ts rest → length rest ≤ length us
short-rule_results (s.no_results h) = omega arith
short-rule_results (s.results a) = let x = short-eseq a in omega arith

pub shorter-head : {us rest : List Spot} {h : Head} → IsHead us h rest → length rest < length us
shorter-head (s.conclusion a b) = let x = short-pargs a in let y = short-rule_results b in omega arith

pub shorter-clause : {us rest : List Spot} {r : Rule} → IsClause us r rest → length rest < length us
shorter-clause (s.axiom_head a) = let x = shorter-head a in omega arith
shorter-clause (s.rule_head a) = let x = shorter-head a in omega arith
shorter-clause (s.rule_goals a b) = let x = short-goals a in let y = shorter-head b in omega arith

pub short-more_clauses : {us rest : List Spot} {rs : List Rule} → IsMoreClauses us rs rest → length rest ≤ length us
short-more_clauses (s.no_more_clauses e) = omega arith
short-more_clauses (s.more_clauses a b) = let x = shorter-clause a in let y = short-more_clauses b in omega arith

pub short-optional_type : {us rest : List Spot} {t : Option TypeExp} → IsOptionalType us t rest → length rest ≤ length us
short-optional_type (s.no_type e) = omega arith
short-optional_type (s.a_type a) = let x = short-type a in omega arith

pub short-optional_sig : {us rest : List Spot} {t : Option Sig} → IsOptionalSig us t rest → length rest ≤ length us
short-optional_sig (s.no_sig e) = omega arith
short-optional_sig (s.a_sig a) = let x = short-sig a in omega arith

pub shorter-decl : {us rest : List Spot} {d : Decl} → IsDecl us d rest → length rest < length us
shorter-decl (s.d_datas a) = shorter-datas a
shorter-decl (s.d_abbrev a) = shorter-abbrev a
shorter-decl (s.d_val a b) = let x = short-optional_type a in let y = short-exp b in omega arith
shorter-decl (s.d_relation a b c) = let x = short-optional_sig a in let y = shorter-clause b in let z = short-more_clauses c in omega arith
