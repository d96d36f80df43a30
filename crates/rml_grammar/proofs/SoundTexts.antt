-- What is read as a rule, a declaration or a text is one.
use Rattle.std.proofs.Common.{◌≡◌, ℕ, zero, suc, ◌<◌, ◌-◌, List, [], ◌∷◌, length, refl, ap, subst, arith, Option, Some, None, Result}
use Rattle.rml_base.specs.declared.place.Place.{Place}
use Rattle.rml_syntax.specs.declared.token.Spot.{Spot}
use Rattle.rml_syntax.specs.declared.token.Token.{Token}
use Rattle.rml_syntax.specs.declared.token.Token.TheVariants as token
use Rattle.rml_syntax.specs.declared.token.Lit.TheVariants as lit
use Rattle.rml_syntax.specs.declared.token.Key.{Key}
use Rattle.rml_syntax.specs.declared.token.Key.TheVariants as key
use Rattle.rml_syntax.specs.declared.token.Mark.{Mark}
use Rattle.rml_syntax.specs.declared.token.Mark.TheVariants as mark
use Rattle.rml_syntax.specs.declared.rules.Goal.{Goal}
use Rattle.rml_syntax.specs.declared.rules.Rule.{Rule}
use Rattle.rml_syntax.specs.declared.types.TypeExp.{TypeExp}
use Rattle.rml_syntax.specs.declared.types.Sig.{Sig}
use Rattle.rml_syntax.specs.declared.types.TypeHead.{TypeHead}
use Rattle.rml_syntax.specs.declared.types.DataBind.{DataBind}
use Rattle.rml_syntax.specs.declared.types.ConBind.{ConBind}
use Rattle.rml_syntax.specs.declared.texts.Uses.{Uses}
use Rattle.rml_syntax.specs.declared.texts.Decl.{Decl}
use Rattle.rml_syntax.specs.declared.texts.Decl.TheVariants as decl
use Rattle.rml_syntax.specs.declared.texts.Text.{Text}
use Rattle.rml_grammar.proofs.Lacks.{clause-lacks, decl-lacks, spec-lacks, uses-lacks}
use Rattle.rml_grammar.specs.declared.front.Front.{Front}
use Rattle.rml_grammar.specs.declared.front.Front.TheVariants as front
use Rattle.rml_grammar.specs.declared.front.Opening.{Opening}
use Rattle.rml_grammar.specs.declared.front.Opening.TheVariants as opening
use Rattle.rml_grammar.specs.declared.fault.Fault.{Fault}
use Rattle.rml_grammar.specs.Tokens.{named, word, tyvar, literal, sign, dashes, after, after_word, front_of, opening_of}
use Rattle.rml_grammar.specs.Reading.{◌>>=◌, repeated, separated, before, name_at}
use Rattle.rml_grammar.specs.Types.{tatom_at, type_at, sig_at, inner_bracket}
use Rattle.rml_grammar.specs.Patterns.{pargs_at}
use Rattle.rml_grammar.specs.Expressions.{exp_at, eseq_at}
use Rattle.rml_grammar.specs.Goals.{goals_at}
use Rattle.rml_grammar.specs.Texts as g
use Rattle.rml_grammar.specs.Trees.{Head, rule_of}
use Rattle.rml_grammar.specs.SpelledTypes as y
use Rattle.rml_grammar.specs.SpelledTypes.{IsTatom, IsFactors, IsType, IsSig}
use Rattle.rml_grammar.specs.SpelledPatterns.{IsPargs}
use Rattle.rml_grammar.specs.SpelledExpressions.{IsExp, IsEseq}
use Rattle.rml_grammar.specs.SpelledGoals.{IsGoals}
use Rattle.rml_grammar.specs.SpelledTexts as s
use Rattle.rml_grammar.specs.SpelledTexts.{IsMoreTyvars, IsThead, IsCon, IsMoreCons, IsData, IsMoreDatas, IsDatas, IsAbbrev, IsSpec, IsRuleResults, IsHead, IsClause, IsMoreClauses, IsOptionalType, IsOptionalSig, IsDecl, IsUses, IsSpecs, IsDecls, Derives}
use Rattle.rml_grammar.proofs.Views as v
use Rattle.rml_grammar.proofs.Views.{Begins, begins, Opens, opens, Has, has, HasWord, has-word}
use Rattle.rml_grammar.proofs.Holds.{Holds, Reads, and-holds, holds-map, sign-holds, word-holds, told, name-sound, separated-sound, repeated-sound}
use Rattle.rml_grammar.proofs.ShortTexts.{shorter-con, shorter-data, shorter-spec, shorter-decl}
use Rattle.rml_grammar.proofs.ShortTypes.{short-tatom}
use Rattle.rml_grammar.proofs.SoundTypes as t
use Rattle.rml_grammar.proofs.SoundExpressions.{exp-sound}
use Rattle.rml_grammar.proofs.SoundGoals.{goals-sound}
use Rattle.rml_grammar.proofs.ResultsExpressions.{eseq-sound}
use Rattle.rml_grammar.proofs.ResultsPatterns.{pargs-sound}

-- and then a sign, or a word
and-sign : {A : Type 0} (m : Mark) (R : A → List Spot → Type 0) (r : Result (A × List Spot) Fault) → Holds (λ x. R x.0 x.1) r → Holds (λ y. (q : Place) × R y.0 (sign m q ∷ y.1)) (r >>= before (after m))
and-sign m R r h = and-holds (λ x. R x.0 x.1) (λ y. (q : Place) × R y.0 (sign m q ∷ y.1)) r (before (after m)) h
    (λ x a. sign-holds m (λ y. (q : Place) × R y.0 (sign m q ∷ y.1)) x.0 x.1 (λ q ws e. (q, subst (λ (zs : List Spot). R x.0 zs) e a)))

and-word : {A : Type 0} (k : Key) (R : A → List Spot → Type 0) (r : Result (A × List Spot) Fault) → Holds (λ x. R x.0 x.1) r → Holds (λ y. (q : Place) × R y.0 (word k q ∷ y.1)) (r >>= before (after_word k))
and-word k R r h = and-holds (λ x. R x.0 x.1) (λ y. (q : Place) × R y.0 (word k q ∷ y.1)) r (before (after_word k)) h
    (λ x a. word-holds k (λ y. (q : Place) × R y.0 (word k q ∷ y.1)) x.0 x.1 (λ q ws e. (q, subst (λ (zs : List Spot). R x.0 zs) e a)))

-- type variables
abbrev IsTyvar : List Spot → ℕ → List Spot → Type 0
IsTyvar us n rest = (p : Place) × (us ≡ tyvar n p ∷ rest)

tyvar-by : (us : List Spot) → Begins us → Reads IsTyvar us (g.tyvar_at us)
tyvar-by us (v.a_tyvar {p}) = (p, refl)
tyvar-by us v.a_literal = tt
tyvar-by us v.a_name = tt
tyvar-by us v.a_round = tt
tyvar-by us v.a_square = tt
tyvar-by us v.a_wild = tt
tyvar-by us v.a_let = tt
tyvar-by us v.a_not = tt
tyvar-by us v.a_line = tt
tyvar-by us (v.another e) = rw e tt

tyvar-sound : (us : List Spot) → Reads IsTyvar us (g.tyvar_at us)
tyvar-sound us = tyvar-by us (begins us)

data IsVars : List Spot → List ℕ → List Spot → Type 0 where
  last_vars : {n : ℕ} {p : Place} {us rest : List Spot} {vs : List ℕ} → IsMoreTyvars us vs rest → IsVars (tyvar n p ∷ us) (n ∷ vs) rest

join-vars : (us vs rest : List Spot) (n : ℕ) (ns : List ℕ) → IsTyvar us n vs → IsMoreTyvars vs ns rest → IsVars us (n ∷ ns) rest
join-vars us vs rest n ns a b = rw a.1 (last_vars b)

vars-sound : (us : List Spot) → Reads IsVars us (separated (after mark.Comma) g.tyvar_at us)
vars-sound = separated-sound mark.Comma g.tyvar_at IsTyvar IsMoreTyvars (λ us e. s.no_more_tyvars e) (λ q us vs rest n ns a b. rw a.1 (s.more_tyvars b)) (λ us rest n a. (let l = ap length a.1 in omega arith)) tyvar-sound IsVars join-vars

data IsTwoVars : List Spot → List ℕ → List Spot → Type 0 where
  two : {n m : ℕ} {p q r u : Place} {us rest : List Spot} {vs : List ℕ} → IsMoreTyvars us vs (sign mark.CloseRound u ∷ rest) → IsTwoVars (tyvar n p ∷ sign mark.Comma q ∷ tyvar m r ∷ us) (n ∷ m ∷ vs) rest

two-from : (n : ℕ) (p q u : Place) (us rest : List Spot) (vs : List ℕ) → IsVars us vs (sign mark.CloseRound u ∷ rest) → IsTwoVars (tyvar n p ∷ sign mark.Comma q ∷ us) (n ∷ vs) rest
two-from n p q u _ rest _ (last_vars a) = two a

tyvars-sound : (us : List Spot) → Reads IsTwoVars us (g.tyvars_at us)
tyvars-sound us = and-holds (λ x. (q : Place) × IsTyvar us x.0 (sign mark.Comma q ∷ x.1)) (λ y. IsTwoVars us y.0 y.1) (g.tyvar_at us >>= before (after mark.Comma)) _ (and-sign mark.Comma (IsTyvar us) (g.tyvar_at us) (tyvar-sound us))
    (λ x h. and-holds (λ y. (q : Place) × IsVars x.1 y.0 (sign mark.CloseRound q ∷ y.1)) (λ z. IsTwoVars us z.0 z.1) (separated (after mark.Comma) g.tyvar_at x.1 >>= before (after mark.CloseRound)) _ (and-sign mark.CloseRound (IsVars x.1) (separated (after mark.Comma) g.tyvar_at x.1) (vars-sound x.1))
    (λ y k. rw h.1.1 (two-from x.0 h.1.0 h.0 k.0 x.1 y.1 y.0 k.1)))

bare-sound : (us : List Spot) → Reads IsThead us (g.thead_from [] us)
bare-sound us = and-holds (λ x. us ≡ named x.0.0 x.0.1 ∷ x.1) (λ y. IsThead us y.0 y.1) (name_at us) _ (name-sound us) (λ x e. rw e s.bare)

vars-head : (p : Place) (us vs : List Spot) (ns : List ℕ) → IsTwoVars us ns vs → Reads IsThead (sign mark.OpenRound p ∷ us) (g.thead_from ns vs)
vars-head p _ vs _ (two {n} {m} {u = o} {us} {vs = ns} a) = and-holds (λ x. vs ≡ named x.0.0 x.0.1 ∷ x.1) (λ y. IsThead _ y.0 y.1) (name_at vs) _ (name-sound vs) (λ x e. s.two_vars (subst (λ (zs : List Spot). IsMoreTyvars us ns (sign mark.CloseRound o ∷ zs)) e a))

thead-by : (us : List Spot) → Begins us → Reads IsThead us (g.thead_at us)
thead-by us (v.a_tyvar {n} {p} {us = vs}) = and-holds (λ x. vs ≡ named x.0.0 x.0.1 ∷ x.1) (λ y. IsThead us y.0 y.1) (name_at vs) _ (name-sound vs) (λ x e. rw e s.one_var)
thead-by us (v.a_round {p} {us = vs}) = and-holds (λ x. IsTwoVars vs x.0 x.1) (λ y. IsThead us y.0 y.1) (g.tyvars_at vs) _ (tyvars-sound vs) (λ x h. vars-head p vs x.1 x.0 h)
thead-by us v.a_literal = tt
thead-by us v.a_name = bare-sound us
thead-by us v.a_square = tt
thead-by us v.a_wild = tt
thead-by us v.a_let = tt
thead-by us v.a_not = tt
thead-by us v.a_line = tt
thead-by us (v.another e) = rw e (bare-sound us)

pub thead-sound : (us : List Spot) → Reads IsThead us (g.thead_at us)
thead-sound us = thead-by us (begins us)

-- datatypes
abbrev Con : ℕ → Place → List TypeExp → ConBind
Con n p ts = record { name = n; place = p; parts = ts }

data IsParts : List Spot → List TypeExp → List Spot → Type 0 where
  joined : {us vs rest : List Spot} {x : TypeExp} {xs : List TypeExp} → IsTatom us x vs → IsFactors vs xs rest → IsParts us (x ∷ xs) rest

parts-con : (n : ℕ) (p q : Place) (us rest : List Spot) (xs : List TypeExp) → IsParts us xs rest → IsCon (named n p ∷ word key.KOf q ∷ us) (Con n p xs) rest
parts-con n p q us rest _ (joined a b) = s.of_parts a b

parts-by : (i n : ℕ) (p : Place) (us : List Spot) → HasWord key.KOf us → Holds (λ x. IsCon (named n p ∷ us) (Con n p x.0) x.1) (g.parts_by i us (after_word key.KOf us))
parts-by i n p _ (v.said {p = q} {us}) = holds-map (λ x. IsParts us x.0 x.1) (λ x. IsCon (named n p ∷ word key.KOf q ∷ us) (Con n p x.0) x.1) (separated (after mark.Star) (tatom_at i) us)
    (separated-sound mark.Star (tatom_at i) IsTatom IsFactors (λ us e. y.no_factor e) (λ q us vs rest x xs a b. y.more_factors a b) (λ us rest x a. short-tatom a) (λ us. t.tatom-sound (inner_bracket i) (t.inner-sound i) us (begins us)) IsParts (λ us vs rest x xs a b. joined a b) us)
    (λ x h. parts-con n p q us x.1 x.0 h)
parts-by i n p us (v.unsaid e) = rw e (s.constant e)

con-sound : (i : ℕ) (us : List Spot) → Reads IsCon us (g.con_at i us)
con-sound i us = and-holds (λ x. us ≡ named x.0.0 x.0.1 ∷ x.1) (λ y. IsCon us y.0 y.1) (name_at us) _ (name-sound us)
    (λ x e. and-holds (λ y. IsCon (named x.0.0 x.0.1 ∷ x.1) (Con x.0.0 x.0.1 y.0) y.1) (λ z. IsCon us z.0 z.1) (g.parts_by i x.1 (after_word key.KOf x.1)) _ (parts-by i x.0.0 x.0.1 x.1 (has-word key.KOf x.1)) (λ y h. rw e h))

data IsConList : List Spot → List ConBind → List Spot → Type 0 where
  cons : {us vs rest : List Spot} {c : ConBind} {cs : List ConBind} → IsCon us c vs → IsMoreCons vs cs rest → IsConList us (c ∷ cs) rest

cons-sound : (i : ℕ) (us : List Spot) → Reads IsConList us (separated (after mark.Bar) (g.con_at i) us)
cons-sound i = separated-sound mark.Bar (g.con_at i) IsCon IsMoreCons (λ us e. s.no_more_cons e) (λ q us vs rest c cs a b. s.more_cons a b) (λ us rest c a. (let h = shorter-con a in omega arith)) (con-sound i) IsConList (λ us vs rest c cs a b. cons a b)

cons-data : (us vs rest : List Spot) (q : Place) (h : TypeHead) (cs : List ConBind) → IsThead us h (sign mark.Equals q ∷ vs) → IsConList vs cs rest → IsData us (record { head = h; cons = cs }) rest
cons-data us vs rest q h _ a (cons b c) = s.of_cons a b c

data-sound : (i : ℕ) (us : List Spot) → Reads IsData us (g.data_at i us)
data-sound i us = and-holds (λ x. (q : Place) × IsThead us x.0 (sign mark.Equals q ∷ x.1)) (λ y. IsData us y.0 y.1) (g.thead_at us >>= before (after mark.Equals)) _ (and-sign mark.Equals (IsThead us) (g.thead_at us) (thead-sound us))
    (λ x h. and-holds (λ y. IsConList x.1 y.0 y.1) (λ z. IsData us z.0 z.1) (separated (after mark.Bar) (g.con_at i) x.1) _ (cons-sound i x.1) (λ y k. cons-data us x.1 y.1 h.0 x.0 y.0 h.1 k))

data-turn : (i : ℕ) (us vs : List Spot) → after_word key.KAnd us ≡ Some vs → Holds (λ x. (length x.1 < length us) × ((ds : List DataBind) (rest : List Spot) → IsMoreDatas x.1 ds rest → IsMoreDatas us (x.0 ∷ ds) rest)) (g.data_at i vs)
data-turn i us vs e =
    let o = told key.KAnd us vs (has-word key.KAnd us) e in
    holds-map (λ x. IsData vs x.0 x.1) (λ x. (length x.1 < length us) × ((ds : List DataBind) (rest : List Spot) → IsMoreDatas x.1 ds rest → IsMoreDatas us (x.0 ∷ ds) rest)) (g.data_at i vs) (data-sound i vs)
    (λ x a. (let h = shorter-data a in let l = ap length o.1 in omega arith, λ ds rest k. rw o.1 (s.more_datas a k)))

more-datas-sound : (i : ℕ) (us : List Spot) → Reads IsMoreDatas us (repeated (after_word key.KAnd) (g.data_at i) us)
more-datas-sound i = repeated-sound (after_word key.KAnd) (g.data_at i) IsMoreDatas refl (λ us e. s.no_more_datas e) (data-turn i)

data IsDataList : List Spot → List DataBind → List Spot → Type 0 where
  some : {us vs rest : List Spot} {d : DataBind} {ds : List DataBind} → IsData us d vs → IsMoreDatas vs ds rest → IsDataList us (d ∷ ds) rest

some-decl : (p : Place) (us rest : List Spot) (ds : List DataBind) → IsDataList us ds rest → IsDatas (word key.KDatatype p ∷ us) (decl.Datatype ds) rest
some-decl p us rest _ (some a b) = s.some_datas a b

datas-sound : (i : ℕ) (p : Place) (us : List Spot) → Reads IsDatas (word key.KDatatype p ∷ us) (g.datas_at i us)
datas-sound i p us = and-holds (λ x. IsDataList us x.0 x.1) (λ y. IsDatas (word key.KDatatype p ∷ us) y.0 y.1) (separated (after_word key.KAnd) (g.data_at i) us) _
    (and-holds (λ x. IsData us x.0 x.1) (λ y. IsDataList us y.0 y.1) (g.data_at i us) _ (data-sound i us)
    (λ x a. and-holds (λ y. IsMoreDatas x.1 y.0 y.1) (λ z. IsDataList us z.0 z.1) (repeated (after_word key.KAnd) (g.data_at i) x.1) _ (more-datas-sound i x.1) (λ y b. some a b)))
    (λ x h. some-decl p us x.1 x.0 h)

abbrev-sound : (i : ℕ) (p : Place) (us : List Spot) → Reads IsAbbrev (word key.KType p ∷ us) (g.abbrev_at i us)
abbrev-sound i p us = and-holds (λ x. (q : Place) × IsThead us x.0 (sign mark.Equals q ∷ x.1)) (λ y. IsAbbrev (word key.KType p ∷ us) y.0 y.1) (g.thead_at us >>= before (after mark.Equals)) _ (and-sign mark.Equals (IsThead us) (g.thead_at us) (thead-sound us))
    (λ x h. and-holds (λ y. IsType x.1 y.0 y.1) (λ z. IsAbbrev (word key.KType p ∷ us) z.0 z.1) (type_at i x.1) _ (t.product-sound (inner_bracket i) (t.inner-sound i) x.1) (λ y k. s.abbreviation h.1 k))

-- a name and a colon
abbrev NamedThen : Mark → List Spot → ℕ × Place → List Spot → Type 0
NamedThen m us n rest = (q : Place) × (us ≡ named n.0 n.1 ∷ sign m q ∷ rest)

named-then : (m : Mark) (us : List Spot) → Reads (NamedThen m) us (name_at us >>= before (after m))
named-then m us = and-sign m (λ n rest. us ≡ named n.0 n.1 ∷ rest) (name_at us) (name-sound us)

val-spec-sound : (i : ℕ) (p : Place) (us : List Spot) → Reads IsSpec (word key.KVal p ∷ us) (g.val_spec_at i us)
val-spec-sound i p us = and-holds (λ x. NamedThen mark.Colon us x.0 x.1) (λ y. IsSpec (word key.KVal p ∷ us) y.0 y.1) (name_at us >>= before (after mark.Colon)) _ (named-then mark.Colon us)
    (λ x h. and-holds (λ y. IsType x.1 y.0 y.1) (λ z. IsSpec (word key.KVal p ∷ us) z.0 z.1) (type_at i x.1) _ (t.product-sound (inner_bracket i) (t.inner-sound i) x.1) (λ y k. rw h.1 (s.val k)))

relation-spec-sound : (i : ℕ) (p : Place) (us : List Spot) → Reads IsSpec (word key.KRelation p ∷ us) (g.relation_spec_at i us)
relation-spec-sound i p us = and-holds (λ x. NamedThen mark.Colon us x.0 x.1) (λ y. IsSpec (word key.KRelation p ∷ us) y.0 y.1) (name_at us >>= before (after mark.Colon)) _ (named-then mark.Colon us)
    (λ x h. and-holds (λ y. IsSig x.1 y.0 y.1) (λ z. IsSpec (word key.KRelation p ∷ us) z.0 z.1) (sig_at i x.1) _ (t.sig-sound (inner_bracket i) (t.inner-sound i) x.1) (λ y k. rw h.1 (s.relation k)))

pub spec-sound : (i : ℕ) (us : List Spot) → Opens us → Reads IsSpec us (g.spec_at i us)
spec-sound i us (v.a_datatype {p} {us = vs}) = holds-map (λ x. IsDatas us x.0 x.1) (λ x. IsSpec us x.0 x.1) (g.datas_at i vs) (datas-sound i p vs) (λ x h. s.datas h)
spec-sound i us (v.a_type {p} {us = vs}) = holds-map (λ x. IsAbbrev us x.0 x.1) (λ x. IsSpec us x.0 x.1) (g.abbrev_at i vs) (abbrev-sound i p vs) (λ x h. s.an_abbrev h)
spec-sound i us (v.an_abstype {p} {us = vs}) = and-holds (λ x. IsThead vs x.0 x.1) (λ y. IsSpec us y.0 y.1) (g.thead_at vs) _ (thead-sound vs) (λ x h. s.abstract h)
spec-sound i us (v.a_val {p} {us = vs}) = val-spec-sound i p vs
spec-sound i us (v.a_relation {p} {us = vs}) = relation-spec-sound i p vs
spec-sound i us v.a_with = tt
spec-sound i us v.a_rule = tt
spec-sound i us v.an_axiom = tt
spec-sound i us (v.nothing e) = rw e tt

-- rules
results-by : (i : ℕ) (us : List Spot) → Has mark.Arrow us → Reads IsRuleResults us (g.rule_results_at i us)
results-by i _ (v.there {p} {us}) = holds-map (λ x. IsEseq us x.0 x.1) (λ x. IsRuleResults (sign mark.Arrow p ∷ us) x.0 x.1) (eseq_at i us) (eseq-sound i us) (λ x h. s.results h)
results-by i us (v.lacking e) = rw e (s.no_results {us = us} e)

head-sound : (i : ℕ) (us : List Spot) → Reads IsHead us (g.head_at i us)
head-sound i us = and-holds (λ x. us ≡ named x.0.0 x.0.1 ∷ x.1) (λ y. IsHead us y.0 y.1) (name_at us) _ (name-sound us)
    (λ x e. and-holds (λ y. IsPargs x.1 y.0 y.1) (λ z. IsHead us z.0 z.1) (pargs_at i x.1) _ (pargs-sound i x.1)
    (λ y a. and-holds (λ z. IsRuleResults y.1 z.0 z.1) (λ w. IsHead us w.0 w.1) (g.rule_results_at i y.1) _ (results-by i y.1 (has mark.Arrow y.1)) (λ z b. rw e (s.conclusion a b))))

-- goals, if any, and dashes
data IsPremises : List Spot → List Goal → List Spot → Type 0 where
  no_premises : {d : ℕ} {p : Place} {rest : List Spot} → IsPremises (dashes d p ∷ rest) [] rest
  premises : {d : ℕ} {p : Place} {us rest : List Spot} {gs : List Goal} → IsGoals us gs (dashes d p ∷ rest) → IsPremises us gs rest

then-by : (us vs : List Spot) (gs : List Goal) → IsGoals us gs vs → Begins vs → Reads IsPremises us (g.then_dashes gs vs (front_of vs))
then-by us vs gs a v.a_line = premises a
then-by us vs gs a v.a_literal = tt
then-by us vs gs a v.a_name = tt
then-by us vs gs a v.a_tyvar = tt
then-by us vs gs a v.a_round = tt
then-by us vs gs a v.a_square = tt
then-by us vs gs a v.a_wild = tt
then-by us vs gs a v.a_let = tt
then-by us vs gs a v.a_not = tt
then-by us vs gs a (v.another e) = rw e tt

some-premises : (i : ℕ) (us : List Spot) → Reads IsPremises us (goals_at i us >>= λ gs. g.then_dashes gs.0 gs.1 (front_of gs.1))
some-premises i us = and-holds (λ x. IsGoals us x.0 x.1) (λ y. IsPremises us y.0 y.1) (goals_at i us) _ (goals-sound i us) (λ x a. then-by us x.1 x.0 a (begins x.1))

pub premises-is : (i : ℕ) (us : List Spot) (f : Front) → (f ≡ front.Dashes → ⊥) → g.premises_by i us f ≡ (goals_at i us >>= λ gs. g.then_dashes gs.0 gs.1 (front_of gs.1))
premises-is i us front.Dashes differs = absurd (differs refl)
premises-is i us f differs = refl

premises-sound : (i : ℕ) (us : List Spot) → Begins us → Reads IsPremises us (g.premises_at i us)
premises-sound i us v.a_line = no_premises
premises-sound i us v.a_literal = some-premises i us
premises-sound i us v.a_name = some-premises i us
premises-sound i us v.a_tyvar = some-premises i us
premises-sound i us v.a_round = some-premises i us
premises-sound i us v.a_square = some-premises i us
premises-sound i us v.a_wild = some-premises i us
premises-sound i us v.a_let = some-premises i us
premises-sound i us v.a_not = some-premises i us
premises-sound i us (v.another e) = rw (premises-is i us (front_of us) (λ h. cc)) (some-premises i us)

rule-from : (p : Place) (us vs rest : List Spot) (gs : List Goal) (h : Head) → IsPremises us gs vs → IsHead vs h rest → IsClause (word key.KRule p ∷ us) (rule_of p gs h (length (word key.KRule p ∷ us) - length rest)) rest
rule-from p us vs rest _ h no_premises a = s.rule_head a
rule-from p us vs rest gs h (premises b) a = s.rule_goals b a

pub clause-sound : (i : ℕ) (us : List Spot) → Opens us → Reads IsClause us (g.clause_at i us)
clause-sound i us (v.an_axiom {p} {us = vs}) = and-holds (λ x. IsHead vs x.0 x.1) (λ y. IsClause us y.0 y.1) (g.head_at i vs) _ (head-sound i vs) (λ x h. s.axiom_head h)
clause-sound i us (v.a_rule {p} {us = vs}) = and-holds (λ x. IsPremises vs x.0 x.1) (λ y. IsClause us y.0 y.1) (g.premises_at i vs) _ (premises-sound i vs (begins vs))
    (λ x a. and-holds (λ y. IsHead x.1 y.0 y.1) (λ z. IsClause us z.0 z.1) (g.head_at i x.1) _ (head-sound i x.1) (λ y b. rule-from p vs x.1 y.1 x.0 y.0 a b))
clause-sound i us v.a_with = tt
clause-sound i us v.a_datatype = tt
clause-sound i us v.a_type = tt
clause-sound i us v.an_abstype = tt
clause-sound i us v.a_val = tt
clause-sound i us v.a_relation = tt
clause-sound i us (v.nothing e) = rw e tt

same-clause-by : (us vs : List Spot) (f : Opening) → g.clause_next_by us f ≡ Some vs → us ≡ vs
same-clause-by us vs (opening.Axiom p) e = cc
same-clause-by us vs (opening.Rule p) e = cc
same-clause-by us vs f e = absurd (cc e)

pub same-clause : (us vs : List Spot) → g.clause_next us ≡ Some vs → us ≡ vs
same-clause us vs e = same-clause-by us vs (opening_of us) e

clauses-by : (i k : ℕ) (us : List Spot) (o : Option (List Spot)) → g.clause_next us ≡ o → ((vs : List Spot) → Reads IsMoreClauses vs (g.clauses_at i k vs)) → Reads IsMoreClauses us (g.clauses_at i (suc k) us)
unfolding g.clauses_at
clauses-by i k us None e again = rw (e, g.clauses_at) (s.no_more_clauses (clause-lacks us e))
clauses-by i k us (Some vs) e again = rw (e, g.clauses_at, same-clause us vs e) (and-holds (λ x. IsClause vs x.0 x.1) (λ y. IsMoreClauses vs y.0 y.1) (g.clause_at i vs) _ (clause-sound i vs (opens vs))
    (λ x a. and-holds (λ y. IsMoreClauses x.1 y.0 y.1) (λ z. IsMoreClauses vs z.0 z.1) (g.clauses_at i k x.1) _ (again x.1) (λ y b. s.more_clauses a b)))

clauses-none : (i : ℕ) (us : List Spot) (o : Option (List Spot)) → g.clause_next us ≡ o → Reads IsMoreClauses us (g.clauses_at i zero us)
unfolding g.clauses_at
clauses-none i us None e = rw (e, g.clauses_at) (s.no_more_clauses (clause-lacks us e))
clauses-none i us (Some vs) e = rw (e, g.clauses_at) tt

pub clauses-sound : (i k : ℕ) (us : List Spot) → Reads IsMoreClauses us (g.clauses_at i k us)
clauses-sound i zero us = clauses-none i us (g.clause_next us) refl
clauses-sound i (suc k) us = clauses-by i k us (g.clause_next us) refl (clauses-sound i k)

-- clauses, and the end
data IsRules : List Spot → List Rule → List Spot → Type 0 where
  rules : {us vs rest : List Spot} {q : Place} {r : Rule} {rs : List Rule} → IsClause us r vs → IsMoreClauses vs rs (word key.KEnd q ∷ rest) → IsRules us (r ∷ rs) rest

rules-sound : (i k : ℕ) (us : List Spot) → Reads IsRules us (g.rules_at i k us)
rules-sound i k us = and-holds (λ x. IsClause us x.0 x.1) (λ y. IsRules us y.0 y.1) (g.clause_at i us) _ (clause-sound i us (opens us))
    (λ x a. and-holds (λ y. (q : Place) × IsMoreClauses x.1 y.0 (word key.KEnd q ∷ y.1)) (λ z. IsRules us z.0 z.1) (g.clauses_at i k x.1 >>= before (after_word key.KEnd)) _ (and-word key.KEnd (IsMoreClauses x.1) (g.clauses_at i k x.1) (clauses-sound i k x.1)) (λ y b. rules a b.1))

-- declarations of a body
type-by : (i : ℕ) (us : List Spot) → Has mark.Colon us → Reads IsOptionalType us (g.optional_by (type_at i) us (after mark.Colon us))
type-by i _ (v.there {p} {us}) = and-holds (λ x. IsType us x.0 x.1) (λ y. IsOptionalType (sign mark.Colon p ∷ us) y.0 y.1) (type_at i us) _ (t.product-sound (inner_bracket i) (t.inner-sound i) us) (λ x a. s.a_type a)
type-by i us (v.lacking e) = rw e (s.no_type {us = us} e)

sig-by : (i : ℕ) (us : List Spot) → Has mark.Colon us → Reads IsOptionalSig us (g.optional_by (sig_at i) us (after mark.Colon us))
sig-by i _ (v.there {p} {us}) = and-holds (λ x. IsSig us x.0 x.1) (λ y. IsOptionalSig (sign mark.Colon p ∷ us) y.0 y.1) (sig_at i us) _ (t.sig-sound (inner_bracket i) (t.inner-sound i) us) (λ x a. s.a_sig a)
sig-by i us (v.lacking e) = rw e (s.no_sig {us = us} e)

val-sound : (i : ℕ) (p : Place) (us : List Spot) → Reads IsDecl (word key.KVal p ∷ us) (g.val_at i us)
val-sound i p us = and-holds (λ x. us ≡ named x.0.0 x.0.1 ∷ x.1) (λ y. IsDecl (word key.KVal p ∷ us) y.0 y.1) (name_at us) _ (name-sound us)
    (λ x e. and-holds (λ y. (q : Place) × IsOptionalType x.1 y.0 (sign mark.Equals q ∷ y.1)) (λ z. IsDecl (word key.KVal p ∷ us) z.0 z.1) (g.optional_by (type_at i) x.1 (after mark.Colon x.1) >>= before (after mark.Equals)) _
    (and-sign mark.Equals (IsOptionalType x.1) (g.optional_by (type_at i) x.1 (after mark.Colon x.1)) (type-by i x.1 (has mark.Colon x.1)))
    (λ y a. and-holds (λ z. IsExp y.1 z.0 z.1) (λ w. IsDecl (word key.KVal p ∷ us) w.0 w.1) (exp_at i y.1) _ (exp-sound i y.1) (λ z b. rw e (s.d_val a.1 b))))

rules-decl : (p o q : Place) (n : ℕ) (us vs rest : List Spot) (t : Option Sig) (rs : List Rule) → IsOptionalSig us t (sign mark.Equals q ∷ vs) → IsRules vs rs rest → IsDecl (word key.KRelation p ∷ named n o ∷ us) (decl.Relation n o t rs) rest
rules-decl p o q n us vs rest t _ a (rules b c) = s.d_relation a b c

relation-sound : (i k : ℕ) (p : Place) (us : List Spot) → Reads IsDecl (word key.KRelation p ∷ us) (g.relation_at i k us)
relation-sound i k p us = and-holds (λ x. us ≡ named x.0.0 x.0.1 ∷ x.1) (λ y. IsDecl (word key.KRelation p ∷ us) y.0 y.1) (name_at us) _ (name-sound us)
    (λ x e. and-holds (λ y. (q : Place) × IsOptionalSig x.1 y.0 (sign mark.Equals q ∷ y.1)) (λ z. IsDecl (word key.KRelation p ∷ us) z.0 z.1) (g.optional_by (sig_at i) x.1 (after mark.Colon x.1) >>= before (after mark.Equals)) _
    (and-sign mark.Equals (IsOptionalSig x.1) (g.optional_by (sig_at i) x.1 (after mark.Colon x.1)) (sig-by i x.1 (has mark.Colon x.1)))
    (λ y a. and-holds (λ z. IsRules y.1 z.0 z.1) (λ w. IsDecl (word key.KRelation p ∷ us) w.0 w.1) (g.rules_at i k y.1) _ (rules-sound i k y.1) (λ z b. rw e (rules-decl p x.0.1 a.0 x.0.0 x.1 y.1 z.1 y.0 z.0 a.1 b))))

pub decl-sound : (i k : ℕ) (us : List Spot) → Opens us → Reads IsDecl us (g.decl_at i k us)
decl-sound i k us (v.a_datatype {p} {us = vs}) = holds-map (λ x. IsDatas us x.0 x.1) (λ x. IsDecl us x.0 x.1) (g.datas_at i vs) (datas-sound i p vs) (λ x h. s.d_datas h)
decl-sound i k us (v.a_type {p} {us = vs}) = holds-map (λ x. IsAbbrev us x.0 x.1) (λ x. IsDecl us x.0 x.1) (g.abbrev_at i vs) (abbrev-sound i p vs) (λ x h. s.d_abbrev h)
decl-sound i k us (v.a_val {p} {us = vs}) = val-sound i p vs
decl-sound i k us (v.a_relation {p} {us = vs}) = relation-sound i k p vs
decl-sound i k us v.an_abstype = tt
decl-sound i k us v.a_with = tt
decl-sound i k us v.a_rule = tt
decl-sound i k us v.an_axiom = tt
decl-sound i k us (v.nothing e) = rw e tt

-- repeated declarations
same-spec-by : (us vs : List Spot) (f : Opening) → g.spec_next_by us f ≡ Some vs → us ≡ vs
same-spec-by us vs opening.Datatype e = cc
same-spec-by us vs opening.Type e = cc
same-spec-by us vs opening.Abstype e = cc
same-spec-by us vs opening.Val e = cc
same-spec-by us vs opening.Relation e = cc
same-spec-by us vs f e = absurd (cc e)

same-decl-by : (us vs : List Spot) (f : Opening) → g.decl_next_by us f ≡ Some vs → us ≡ vs
same-decl-by us vs opening.Datatype e = cc
same-decl-by us vs opening.Type e = cc
same-decl-by us vs opening.Val e = cc
same-decl-by us vs opening.Relation e = cc
same-decl-by us vs f e = absurd (cc e)

same-uses-by : (us vs : List Spot) (f : Opening) → g.uses_next_by us f ≡ Some vs → us ≡ vs
same-uses-by us vs (opening.With p) e = cc
same-uses-by us vs f e = absurd (cc e)

pub specs-sound : (i : ℕ) (us : List Spot) → Reads IsSpecs us (repeated g.spec_next (g.spec_at i) us)
specs-sound i = repeated-sound g.spec_next (g.spec_at i) IsSpecs refl (λ us e. s.no_spec (spec-lacks us e))
    (λ us vs e. rw (same-spec-by us vs (opening_of us) e) (holds-map (λ x. IsSpec vs x.0 x.1) (λ x. (length x.1 < length vs) × ((ds : List Decl) (rest : List Spot) → IsSpecs x.1 ds rest → IsSpecs vs (x.0 ∷ ds) rest)) (g.spec_at i vs) (spec-sound i vs (opens vs))
    (λ x a. (shorter-spec a, λ ds rest b. s.more_specs a b))))

pub decls-sound : (i k : ℕ) (us : List Spot) → Reads IsDecls us (repeated g.decl_next (g.decl_at i k) us)
decls-sound i k = repeated-sound g.decl_next (g.decl_at i k) IsDecls refl (λ us e. s.no_decl (decl-lacks us e))
    (λ us vs e. rw (same-decl-by us vs (opening_of us) e) (holds-map (λ x. IsDecl vs x.0 x.1) (λ x. (length x.1 < length vs) × ((ds : List Decl) (rest : List Spot) → IsDecls x.1 ds rest → IsDecls vs (x.0 ∷ ds) rest)) (g.decl_at i k vs) (decl-sound i k vs (opens vs))
    (λ x a. (shorter-decl a, λ ds rest b. s.more_decls a b))))

-- a `with` and its text literal
pub data IsUse : List Spot → Uses → List Spot → Type 0 where
  a_use : {f : ℕ} {p q : Place} {rest : List Spot} → IsUse (word key.KWith p ∷ literal (lit.Text f) q ∷ rest) (record { file = f; place = p }) rest

file-in : (k : Token) (q : Place) (us : List Spot) → Holds (λ x. (o : Place) × (record { token = k; place = q } ∷ us ≡ literal (lit.Text x.0) o ∷ x.1)) (g.file_in (record { token = k; place = q } ∷ us) k us)
file-in (token.Lit (lit.Text f)) q us = (q, refl)
file-in (token.Lit (lit.Int f)) q us = tt
file-in (token.Lit (lit.Char f)) q us = tt
file-in (token.Word k) q us = tt
file-in (token.Name n) q us = tt
file-in (token.TyVar n) q us = tt
file-in (token.Sign m) q us = tt
file-in (token.Dashes n) q us = tt

file-sound : (us : List Spot) → Holds (λ x. (o : Place) × (us ≡ literal (lit.Text x.0) o ∷ x.1)) (g.file_at us)
file-sound [] = tt
file-sound (s ∷ us) = file-in s.token s.place us

pub use-sound : (us : List Spot) → Opens us → Reads IsUse us (g.uses_at us)
use-sound us (v.a_with {p} {us = vs}) = and-holds (λ x. (o : Place) × (vs ≡ literal (lit.Text x.0) o ∷ x.1)) (λ y. IsUse us y.0 y.1) (g.file_at vs) _ (file-sound vs) (λ x h. rw h.1 a_use)
use-sound us v.a_datatype = tt
use-sound us v.a_type = tt
use-sound us v.an_abstype = tt
use-sound us v.a_val = tt
use-sound us v.a_relation = tt
use-sound us v.a_rule = tt
use-sound us v.an_axiom = tt
use-sound us (v.nothing e) = rw e tt

pub use-turn : (vs rest : List Spot) (f : Uses) → IsUse vs f rest → (length rest < length vs) × ((fs : List Uses) (ws : List Spot) → IsUses rest fs ws → IsUses vs (f ∷ fs) ws)
use-turn vs rest _ a_use = (omega arith, λ fs ws b. s.more_uses b)

pub uses-sound : (us : List Spot) → Reads IsUses us (repeated g.uses_next g.uses_at us)
uses-sound = repeated-sound g.uses_next g.uses_at IsUses refl (λ us e. s.no_uses (uses-lacks us e))
    (λ us vs e. rw (same-uses-by us vs (opening_of us) e) (holds-map (λ x. IsUse vs x.0 x.1) (λ x. (length x.1 < length vs) × ((fs : List Uses) (rest : List Spot) → IsUses x.1 fs rest → IsUses vs (x.0 ∷ fs) rest)) (g.uses_at vs) (use-sound vs (opens vs))
    (λ x a. use-turn vs x.1 x.0 a)))

-- texts
data IsHeading : List Spot → ℕ × Place → List Spot → Type 0 where
  heading : {m : ℕ} {p q r : Place} {rest : List Spot} → IsHeading (word key.KModule q ∷ named m p ∷ sign mark.Colon r ∷ rest) (m, p) rest

heading-from : (q : Place) (us vs : List Spot) (x : ℕ × Place) → NamedThen mark.Colon us x vs → IsHeading (word key.KModule q ∷ us) x vs
heading-from q us vs x h = rw h.1 heading

module-by : (us : List Spot) → HasWord key.KModule us → Reads IsHeading us (g.module_by us (after_word key.KModule us))
module-by _ (v.said {p = q} {us}) = holds-map (λ x. NamedThen mark.Colon us x.0 x.1) (λ x. IsHeading (word key.KModule q ∷ us) x.0 x.1) (name_at us >>= before (after mark.Colon)) (named-then mark.Colon us) (λ x h. heading-from q us x.1 x.0 h)
module-by us (v.unsaid e) = rw e tt

data IsInterface : List Spot → List Uses × List Decl → List Spot → Type 0 where
  interface : {us vs rest : List Spot} {q : Place} {fs : List Uses} {ds : List Decl} → IsUses us fs vs → IsSpecs vs ds (word key.KEnd q ∷ rest) → IsInterface us (fs, ds) rest

interface-sound : (i : ℕ) (us : List Spot) → Reads IsInterface us (g.interface_at i us)
interface-sound i us = and-holds (λ x. IsUses us x.0 x.1) (λ y. IsInterface us y.0 y.1) (repeated g.uses_next g.uses_at us) _ (uses-sound us)
    (λ x a. and-holds (λ y. (q : Place) × IsSpecs x.1 y.0 (word key.KEnd q ∷ y.1)) (λ z. IsInterface us z.0 z.1) (repeated g.spec_next (g.spec_at i) x.1 >>= before (after_word key.KEnd)) _ (and-word key.KEnd (IsSpecs x.1) (repeated g.spec_next (g.spec_at i) x.1) (specs-sound i x.1)) (λ y b. interface a b.1))

data IsBody : List Spot → List Uses × List Decl → List Spot → Type 0 where
  body : {us vs rest : List Spot} {fs : List Uses} {ds : List Decl} → IsUses us fs vs → IsDecls vs ds rest → IsBody us (fs, ds) rest

body-sound : (i k : ℕ) (us : List Spot) → Reads IsBody us (g.body_at i k us)
body-sound i k us = and-holds (λ x. IsUses us x.0 x.1) (λ y. IsBody us y.0 y.1) (repeated g.uses_next g.uses_at us) _ (uses-sound us)
    (λ x a. and-holds (λ y. IsDecls x.1 y.0 y.1) (λ z. IsBody us z.0 z.1) (repeated g.decl_next (g.decl_at i k) x.1) _ (decls-sound i k x.1) (λ y b. body a b))

-- all of a text but for what follows it
data Fronts (end : Place) : List Spot → Text → List Spot → Type 0 where
  fronts : {us vs ws rest : List Spot} {m : ℕ × Place} {a b : List Uses × List Decl} → IsHeading us m vs → IsInterface vs a ws → IsBody ws b rest
      → Fronts end us (record { «module» = m.0; place = m.1; end = end; uses = a.0; specs = a.1; body_uses = b.0; decls = b.1 }) rest

fronts-derive : (end : Place) (us : List Spot) (x : Text) → Fronts end us x [] → Derives end us x
fronts-derive end _ _ (fronts heading (interface a b) (body c d)) = s.a_text a b c d

text-sound : (end : Place) (i k : ℕ) (us : List Spot) → Reads (Fronts end) us (g.text_at end i k us)
unfolding g.text_at
text-sound end i k us = and-holds (λ x. IsHeading us x.0 x.1) (λ y. Fronts end us y.0 y.1) (g.module_at us) _ (module-by us (has-word key.KModule us))
    (λ x a. and-holds (λ y. IsInterface x.1 y.0 y.1) (λ z. Fronts end us z.0 z.1) (g.interface_at i x.1) _ (interface-sound i x.1)
    (λ y b. and-holds (λ z. IsBody y.1 z.0 z.1) (λ w. Fronts end us w.0 w.1) (g.body_at i k y.1) _ (body-sound i k y.1) (λ z c. fronts a b c)))

whole-by : (end : Place) (us : List Spot) (x : Text) (rest : List Spot) → Fronts end us x rest → Holds (λ y. Derives end us y) (g.whole_by x rest)
whole-by end us x [] h = fronts-derive end us x h
whole-by end us x (s ∷ rest) h = tt

pub whole-sound : (end : Place) (i k : ℕ) (us : List Spot) → Holds (λ x. Derives end us x) (g.whole_text end i k us)
unfolding g.whole_text
whole-sound end i k us = and-holds (λ x. Fronts end us x.0 x.1) (λ y. Derives end us y) (g.text_at end i k us) _ (text-sound end i k us) (λ x h. whole-by end us x.0 x.1 h)
