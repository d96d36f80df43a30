-- A rule, a declaration and a text are read, unless a limit is met.
use Rattle.std.proofs.Common.{◌≡◌, ℕ, zero, suc, ◌≤◌, ◌-◌, List, [], ◌∷◌, length, refl, arith, Option, Some, None, Ok}
use Rattle.rml_base.specs.declared.place.Place.{Place}
use Rattle.rml_syntax.specs.declared.token.Spot.{Spot}
use Rattle.rml_syntax.specs.declared.token.Lit.TheVariants as lit
use Rattle.rml_syntax.specs.declared.token.Key.TheVariants as key
use Rattle.rml_syntax.specs.declared.token.Mark.TheVariants as mark
use Rattle.rml_syntax.specs.declared.rules.Exp.{Exp}
use Rattle.rml_syntax.specs.declared.rules.Goal.{Goal}
use Rattle.rml_syntax.specs.declared.rules.Rule.{Rule}
use Rattle.rml_syntax.specs.declared.types.TypeExp.{TypeExp}
use Rattle.rml_syntax.specs.declared.types.Sig.{Sig}
use Rattle.rml_syntax.specs.declared.types.TypeHead.{TypeHead}
use Rattle.rml_syntax.specs.declared.types.DataBind.{DataBind}
use Rattle.rml_syntax.specs.declared.types.ConBind.{ConBind}
use Rattle.rml_syntax.specs.declared.texts.Uses.{Uses}
use Rattle.rml_syntax.specs.declared.texts.Decl.{Decl}
use Rattle.rml_syntax.specs.declared.texts.Decl.TheVariants as decl
use Rattle.rml_syntax.specs.declared.texts.Text.{Text}
use Rattle.rml_grammar.proofs.Lacks.{clause-none, decl-none, spec-none, uses-none}
use Rattle.rml_grammar.specs.declared.front.Front.TheVariants as front
use Rattle.rml_grammar.specs.Tokens.{named, word, tyvar, literal, sign, dashes, after, after_word, front_of}
use Rattle.rml_grammar.specs.Reading.{◌>>=◌, follows, repeated, separated, before}
use Rattle.rml_grammar.specs.Types.{tatom_at, type_at, sig_at}
use Rattle.rml_grammar.specs.Patterns.{pargs_at}
use Rattle.rml_grammar.specs.Expressions.{exp_at}
use Rattle.rml_grammar.specs.Goals.{goals_at}
use Rattle.rml_grammar.specs.Texts as g
use Rattle.rml_grammar.specs.Trees.{Head, rule_of}
use Rattle.rml_grammar.specs.SpelledTypes.{IsType}
use Rattle.rml_grammar.specs.SpelledGoals.{IsGoals}
use Rattle.rml_grammar.specs.SpelledTexts as s
use Rattle.rml_grammar.specs.SpelledTexts.{IsMoreTyvars, IsThead, IsCon, IsMoreCons, IsData, IsMoreDatas, IsDatas, IsAbbrev, IsSpec, IsRuleResults, IsHead, IsClause, IsMoreClauses, IsOptionalType, IsOptionalSig, IsDecl, IsUses, IsSpecs, IsDecls, Derives}
use Rattle.rml_grammar.proofs.Levels.{clauses_none, clauses_one, clauses_full, text_is, whole_is}
use Rattle.rml_grammar.specs.Laws.{Agrees}
use Rattle.rml_grammar.proofs.Agree.{and-agrees, agrees-is, before-agrees, before-word, long-front, tail-none, tail-more, separated-agrees}
use Rattle.rml_grammar.proofs.ShortTexts.{shorter-con, shorter-data, shorter-spec, shorter-decl}
use Rattle.rml_grammar.proofs.SoundTexts.{premises-is}
use Rattle.rml_grammar.specs.SpelledGoals as o
use Rattle.rml_grammar.specs.SpelledGoals.{IsGoal, IsGatom}
use Rattle.rml_grammar.proofs.CompleteTypes.{sig-complete, type-complete, tatom-complete, factors-complete}
use Rattle.rml_grammar.proofs.CompleteExpressions.{exp-complete}
use Rattle.rml_grammar.proofs.CompleteGoals.{goals-complete}
use Rattle.rml_grammar.proofs.ResultsExpressions.{eseq-complete}
use Rattle.rml_grammar.proofs.ResultsPatterns.{pargs-complete}

-- type variables and heads
vars-turns : {us rest : List Spot} {vs : List ℕ} → IsMoreTyvars us vs rest → (k : ℕ) → length us ≤ k → Agrees (follows (after mark.Comma) g.tyvar_at k us) (vs, rest)
vars-turns (s.no_more_tyvars {us} e) k le = tail-none (after mark.Comma) g.tyvar_at k us e
vars-turns (s.more_tyvars {us} {rest} {v} {p} {q} {vs} a) k le = tail-more (after mark.Comma) g.tyvar_at k (sign mark.Comma p ∷ tyvar v q ∷ us) (tyvar v q ∷ us) us rest v vs refl le (omega arith) refl (λ j e. vars-turns a j (omega arith))

pub thead-complete : {us rest : List Spot} {h : TypeHead} → IsThead us h rest → Agrees (g.thead_at us) (h, rest)
thead-complete s.bare = refl
thead-complete s.one_var = refl
thead-complete (s.two_vars {v} {w} {n} {p} {q} {r} {s = i} {t} {u} {us} {rest} {vs} a) =
    and-agrees (g.tyvars_at (tyvar v r ∷ sign mark.Comma i ∷ tyvar w t ∷ us)) _ (v ∷ w ∷ vs, named n p ∷ rest) (record { vars = v ∷ w ∷ vs; name = n; place = p }, rest)
    (and-agrees (separated (after mark.Comma) g.tyvar_at (tyvar w t ∷ us) >>= before (after mark.CloseRound)) _ (w ∷ vs, named n p ∷ rest) (v ∷ w ∷ vs, named n p ∷ rest)
    (before-agrees mark.CloseRound u (separated (after mark.Comma) g.tyvar_at (tyvar w t ∷ us)) (w ∷ vs) (named n p ∷ rest)
    (separated-agrees (after mark.Comma) g.tyvar_at (tyvar w t ∷ us) us (sign mark.CloseRound u ∷ named n p ∷ rest) w vs refl (vars-turns a (length us) (omega arith)))) refl) refl

-- datatypes
pub con-complete : {us rest : List Spot} {c : ConBind} → IsCon us c rest → (i : ℕ) → Agrees (g.con_at i us) (c, rest)
con-complete (s.constant {n} {p} {rest} e) i = rw e refl
con-complete (s.of_parts {n} {p} {q} {us} {vs} {rest} {t} {ts} a b) i = and-agrees (separated (after mark.Star) (tatom_at i) us) _ (t ∷ ts, rest) (record { name = n; place = p; parts = t ∷ ts }, rest)
    (separated-agrees (after mark.Star) (tatom_at i) us vs rest t ts (tatom-complete a i) (factors-complete b i (length vs) (omega arith))) refl

cons-turns : {us rest : List Spot} {cs : List ConBind} → IsMoreCons us cs rest → (i k : ℕ) → length us ≤ k → Agrees (follows (after mark.Bar) (g.con_at i) k us) (cs, rest)
cons-turns (s.no_more_cons {us} e) i k le = tail-none (after mark.Bar) (g.con_at i) k us e
cons-turns (s.more_cons {us} {vs} {rest} {p} {c} {cs} a b) i k le = tail-more (after mark.Bar) (g.con_at i) k (sign mark.Bar p ∷ us) us vs rest c cs refl le (omega arith) (con-complete a i)
    (λ j e. cons-turns b i j (let h = shorter-con a in omega arith))

pub data-complete : {us rest : List Spot} {d : DataBind} → IsData us d rest → (i : ℕ) → Agrees (g.data_at i us) (d, rest)
data-complete (s.of_cons {us} {vs} {ws} {rest} {p} {h} {c} {cs} a b e) i = and-agrees (g.thead_at us >>= before (after mark.Equals)) _ (h, vs) (record { head = h; cons = c ∷ cs }, rest)
    (before-agrees mark.Equals p (g.thead_at us) h vs (thead-complete a))
    (and-agrees (separated (after mark.Bar) (g.con_at i) vs) _ (c ∷ cs, rest) (record { head = h; cons = c ∷ cs }, rest) (separated-agrees (after mark.Bar) (g.con_at i) vs ws rest c cs (con-complete b i) (cons-turns e i (length ws) (omega arith))) refl)

datas-turns : {us rest : List Spot} {ds : List DataBind} → IsMoreDatas us ds rest → (i k : ℕ) → length us ≤ k → Agrees (follows (after_word key.KAnd) (g.data_at i) k us) (ds, rest)
datas-turns (s.no_more_datas {us} e) i k le = tail-none (after_word key.KAnd) (g.data_at i) k us e
datas-turns (s.more_datas {us} {vs} {rest} {p} {d} {ds} a b) i k le = tail-more (after_word key.KAnd) (g.data_at i) k (word key.KAnd p ∷ us) us vs rest d ds refl le (omega arith) (data-complete a i)
    (λ j e. datas-turns b i j (let h = shorter-data a in omega arith))

datas-complete : (i : ℕ) (us vs rest : List Spot) (d : DataBind) (ds : List DataBind) → IsData us d vs → IsMoreDatas vs ds rest → Agrees (g.datas_at i us) (decl.Datatype (d ∷ ds), rest)
datas-complete i us vs rest d ds a b = and-agrees (separated (after_word key.KAnd) (g.data_at i) us) _ (d ∷ ds, rest) (decl.Datatype (d ∷ ds), rest)
    (separated-agrees (after_word key.KAnd) (g.data_at i) us vs rest d ds (data-complete a i) (datas-turns b i (length vs) (omega arith))) refl

abbrev-complete : (i : ℕ) (q : Place) (us vs rest : List Spot) (h : TypeHead) (t : TypeExp) → IsThead us h (sign mark.Equals q ∷ vs) → IsType vs t rest → Agrees (g.abbrev_at i us) (decl.Abbrev h t, rest)
abbrev-complete i q us vs rest h t a b = and-agrees (g.thead_at us >>= before (after mark.Equals)) _ (h, vs) (decl.Abbrev h t, rest) (before-agrees mark.Equals q (g.thead_at us) h vs (thead-complete a))
    (and-agrees (type_at i vs) _ (t, rest) (decl.Abbrev h t, rest) (type-complete b i) refl)

pub spec-complete : {us rest : List Spot} {d : Decl} → IsSpec us d rest → (i : ℕ) → Agrees (g.spec_at i us) (d, rest)
spec-complete (s.datas (s.some_datas {us} {vs} {rest} {p} {d} {ds} a b)) i = datas-complete i us vs rest d ds a b
spec-complete (s.an_abbrev (s.abbreviation {us} {vs} {rest} {p} {q} {h} {t} a b)) i = abbrev-complete i q us vs rest h t a b
spec-complete (s.abstract {us} {rest} {p} {h} a) i = and-agrees (g.thead_at us) _ (h, rest) (decl.Abstype h, rest) (thead-complete a) refl
spec-complete (s.val {us} {rest} {n} {p} {q} {r} {t} a) i = and-agrees (type_at i us) _ (t, rest) (decl.Val n p (Some t) None, rest) (type-complete a i) refl
spec-complete (s.relation {us} {rest} {n} {p} {q} {r} {s = t} a) i = and-agrees (sig_at i us) _ (t, rest) (decl.Relation n p (Some t) [], rest) (sig-complete a i) refl

-- rules
results-complete : {us rest : List Spot} {es : List Exp} → IsRuleResults us es rest → (i : ℕ) → Agrees (g.rule_results_at i us) (es, rest)
results-complete (s.no_results e) i = rw e refl
results-complete (s.results a) i = eseq-complete a i

head-complete : {us rest : List Spot} {h : Head} → IsHead us h rest → (i : ℕ) → Agrees (g.head_at i us) (h, rest)
head-complete (s.conclusion {us} {vs} {rest} {n} {p} {ps} {es} a b) i = and-agrees (pargs_at i us) _ (ps, vs) (((n, p), ps, es), rest) (pargs-complete a i)
    (and-agrees (g.rule_results_at i vs) _ (es, rest) (((n, p), ps, es), rest) (results-complete b i) refl)

no-dashes-atom : {us rest : List Spot} {x : Goal} → IsGatom us x rest → front_of us ≡ front.Dashes → ⊥
no-dashes-atom (o.matching a b) e = cc
no-dashes-atom (o.equation a b) e = let f = long-front a in cc
no-dashes-atom (o.call a h b c) e = let f = long-front a in cc
no-dashes-atom (o.bracket a) e = cc

no-dashes-goal : {us rest : List Spot} {x : Goal} → IsGoal us x rest → front_of us ≡ front.Dashes → ⊥
no-dashes-goal (o.negated a) e = cc
no-dashes-goal (o.plain a) e = no-dashes-atom a e

no-dashes : {us rest : List Spot} {xs : List Goal} → IsGoals us xs rest → front_of us ≡ front.Dashes → ⊥
no-dashes (o.some_goals a b) e = no-dashes-goal a e

premises-complete : {us vs : List Spot} {d : ℕ} {q : Place} {xs : List Goal} → IsGoals us xs (dashes d q ∷ vs) → (i : ℕ) → Agrees (g.premises_at i us) (xs, vs)
premises-complete {us} {vs} {d} {q} {xs} a i = rw (premises-is i us (front_of us) (no-dashes a)) (and-agrees (goals_at i us) _ (xs, dashes d q ∷ vs) (xs, vs) (goals-complete a i) refl)

pub clause-complete : {us rest : List Spot} {r : Rule} → IsClause us r rest → (i : ℕ) → Agrees (g.clause_at i us) (r, rest)
clause-complete (s.axiom_head {us} {rest} {p} {h} a) i = and-agrees (g.head_at i us) _ (h, rest) (rule_of p [] h (length (word key.KAxiom p ∷ us) - length rest), rest) (head-complete a i) refl
clause-complete (s.rule_head {us} {rest} {d} {p} {q} {h} a) i = and-agrees (g.head_at i us) _ (h, rest) (rule_of p [] h (length (word key.KRule p ∷ dashes d q ∷ us) - length rest), rest) (head-complete a i) refl
clause-complete (s.rule_goals {us} {vs} {rest} {d} {p} {q} {gs = xs} {h} a b) i = and-agrees (g.premises_at i us) _ (xs, vs) (rule_of p xs h (length (word key.KRule p ∷ us) - length rest), rest) (premises-complete a i)
    (and-agrees (g.head_at i vs) _ (h, rest) (rule_of p xs h (length (word key.KRule p ∷ us) - length rest), rest) (head-complete b i) refl)

next-clause : {us rest : List Spot} {r : Rule} → IsClause us r rest → g.clause_next us ≡ Some us
next-clause (s.axiom_head a) = refl
next-clause (s.rule_head a) = refl
next-clause (s.rule_goals a b) = refl

pub clauses-complete : {us rest : List Spot} {rs : List Rule} → IsMoreClauses us rs rest → (i k : ℕ) → Agrees (g.clauses_at i k us) (rs, rest)
clauses-complete (s.no_more_clauses {us} e) i k = agrees-is _ ([], us) (clauses_none i k us (clause-none us e))
clauses-complete (s.more_clauses {us} a b) i zero = rw (clauses_full i us us (next-clause a)) tt
clauses-complete (s.more_clauses {us} {vs} {rest} {r} {rs} a b) i (suc k) = rw (clauses_one i k us us (next-clause a))
    (and-agrees (g.clause_at i us) _ (r, vs) (r ∷ rs, rest) (clause-complete a i) (and-agrees (g.clauses_at i k vs) _ (rs, rest) (r ∷ rs, rest) (clauses-complete b i k) refl))

-- declarations of a body
type-optional : {us rest : List Spot} {t : Option TypeExp} → IsOptionalType us t rest → (i : ℕ) → Agrees (g.optional_by (type_at i) us (after mark.Colon us)) (t, rest)
type-optional (s.no_type e) i = rw e refl
type-optional (s.a_type {us} {rest} {p} {t} a) i = and-agrees (type_at i us) _ (t, rest) (Some t, rest) (type-complete a i) refl

sig-optional : {us rest : List Spot} {t : Option Sig} → IsOptionalSig us t rest → (i : ℕ) → Agrees (g.optional_by (sig_at i) us (after mark.Colon us)) (t, rest)
sig-optional (s.no_sig e) i = rw e refl
sig-optional (s.a_sig {us} {rest} {p} {s = t} a) i = and-agrees (sig_at i us) _ (t, rest) (Some t, rest) (sig-complete a i) refl

rules-complete : (i k : ℕ) (x : Place) (us vs rest : List Spot) (c : Rule) (cs : List Rule) → IsClause us c vs → IsMoreClauses vs cs (word key.KEnd x ∷ rest) → Agrees (g.rules_at i k us) (c ∷ cs, rest)
rules-complete i k x us vs rest c cs a b = and-agrees (g.clause_at i us) _ (c, vs) (c ∷ cs, rest) (clause-complete a i)
    (and-agrees (g.clauses_at i k vs >>= before (after_word key.KEnd)) _ (cs, rest) (c ∷ cs, rest) (before-word key.KEnd x (g.clauses_at i k vs) cs rest (clauses-complete b i k)) refl)

pub decl-complete : {us rest : List Spot} {d : Decl} → IsDecl us d rest → (i k : ℕ) → Agrees (g.decl_at i k us) (d, rest)
decl-complete (s.d_datas (s.some_datas {us} {vs} {rest} {p} {d} {ds} a b)) i k = datas-complete i us vs rest d ds a b
decl-complete (s.d_abbrev (s.abbreviation {us} {vs} {rest} {p} {q} {h} {t} a b)) i k = abbrev-complete i q us vs rest h t a b
decl-complete (s.d_val {us} {vs} {rest} {n} {p} {q} {r} {t} {e} a b) i k = and-agrees (g.optional_by (type_at i) us (after mark.Colon us) >>= before (after mark.Equals)) _ (t, vs) (decl.Val n p t (Some e), rest)
    (before-agrees mark.Equals r (g.optional_by (type_at i) us (after mark.Colon us)) t vs (type-optional a i)) (and-agrees (exp_at i vs) _ (e, rest) (decl.Val n p t (Some e), rest) (exp-complete b i) refl)
decl-complete (s.d_relation {us} {vs} {ws} {rest} {n} {p} {q} {r} {x} {s = t} {c} {cs} a b e) i k = and-agrees (g.optional_by (sig_at i) us (after mark.Colon us) >>= before (after mark.Equals)) _ (t, vs) (decl.Relation n p t (c ∷ cs), rest)
    (before-agrees mark.Equals r (g.optional_by (sig_at i) us (after mark.Colon us)) t vs (sig-optional a i)) (and-agrees (g.rules_at i k vs) _ (c ∷ cs, rest) (decl.Relation n p t (c ∷ cs), rest) (rules-complete i k x vs ws rest c cs b e) refl)

next-spec : {us rest : List Spot} {d : Decl} → IsSpec us d rest → g.spec_next us ≡ Some us
next-spec (s.datas (s.some_datas a b)) = refl
next-spec (s.an_abbrev (s.abbreviation a b)) = refl
next-spec (s.abstract a) = refl
next-spec (s.val a) = refl
next-spec (s.relation a) = refl

next-decl : {us rest : List Spot} {d : Decl} → IsDecl us d rest → g.decl_next us ≡ Some us
next-decl (s.d_datas (s.some_datas a b)) = refl
next-decl (s.d_abbrev (s.abbreviation a b)) = refl
next-decl (s.d_val a b) = refl
next-decl (s.d_relation a b c) = refl

specs-turns : {us rest : List Spot} {ds : List Decl} → IsSpecs us ds rest → (i k : ℕ) → length us ≤ k → Agrees (follows g.spec_next (g.spec_at i) k us) (ds, rest)
specs-turns (s.no_spec {us} e) i k le = tail-none g.spec_next (g.spec_at i) k us (spec-none us e)
specs-turns (s.more_specs {us} {vs} {rest} {d} {ds} a b) i k le = tail-more g.spec_next (g.spec_at i) k us us vs rest d ds (next-spec a) le (let h = shorter-spec a in omega arith) (spec-complete a i)
    (λ j e. specs-turns b i j (let h = shorter-spec a in omega arith))

decls-turns : {us rest : List Spot} {ds : List Decl} → IsDecls us ds rest → (i m k : ℕ) → length us ≤ k → Agrees (follows g.decl_next (g.decl_at i m) k us) (ds, rest)
decls-turns (s.no_decl {us} e) i m k le = tail-none g.decl_next (g.decl_at i m) k us (decl-none us e)
decls-turns (s.more_decls {us} {vs} {rest} {d} {ds} a b) i m k le = tail-more g.decl_next (g.decl_at i m) k us us vs rest d ds (next-decl a) le (let h = shorter-decl a in omega arith) (decl-complete a i m)
    (λ j e. decls-turns b i m j (let h = shorter-decl a in omega arith))

uses-turns : {us rest : List Spot} {fs : List Uses} → IsUses us fs rest → (k : ℕ) → length us ≤ k → Agrees (follows g.uses_next g.uses_at k us) (fs, rest)
uses-turns (s.no_uses {us} e) k le = tail-none g.uses_next g.uses_at k us (uses-none us e)
uses-turns (s.more_uses {us} {rest} {f} {p} {q} {fs} a) k le = tail-more g.uses_next g.uses_at k (word key.KWith p ∷ literal (lit.Text f) q ∷ us) (word key.KWith p ∷ literal (lit.Text f) q ∷ us) us rest (record { file = f; place = p }) fs refl le (omega arith) refl
    (λ j e. uses-turns a j (omega arith))

-- texts
interface-complete : (i : ℕ) (q : Place) (us vs rest : List Spot) (fs : List Uses) (ds : List Decl) → IsUses us fs vs → IsSpecs vs ds (word key.KEnd q ∷ rest) → Agrees (g.interface_at i us) ((fs, ds), rest)
interface-complete i q us vs rest fs ds a b = and-agrees (repeated g.uses_next g.uses_at us) _ (fs, vs) ((fs, ds), rest) (uses-turns a (length us) (omega arith))
    (and-agrees (repeated g.spec_next (g.spec_at i) vs >>= before (after_word key.KEnd)) _ (ds, rest) ((fs, ds), rest) (before-word key.KEnd q (repeated g.spec_next (g.spec_at i) vs) ds rest (specs-turns b i (length vs) (omega arith))) refl)

body-complete : (i k : ℕ) (us vs rest : List Spot) (fs : List Uses) (ds : List Decl) → IsUses us fs vs → IsDecls vs ds rest → Agrees (g.body_at i k us) ((fs, ds), rest)
body-complete i k us vs rest fs ds a b = and-agrees (repeated g.uses_next g.uses_at us) _ (fs, vs) ((fs, ds), rest) (uses-turns a (length us) (omega arith))
    (and-agrees (repeated g.decl_next (g.decl_at i k) vs) _ (ds, rest) ((fs, ds), rest) (decls-turns b i k (length vs) (omega arith)) refl)

pub whole-complete : {end : Place} {us : List Spot} {x : Text} → Derives end us x → (i k : ℕ) → Agrees (g.whole_text end i k us) x
whole-complete {end} (s.a_text {us} {vs} {ws} {xs} {m} {p} {q} {r} {s = y} {fs} {bs} {ss} {ds} a b c d) i k =
    rw (whole_is end i k (word key.KModule q ∷ named m p ∷ sign mark.Colon r ∷ us), text_is end i k (word key.KModule q ∷ named m p ∷ sign mark.Colon r ∷ us))
    (and-agrees (g.interface_at i us >>= λ z. g.body_at i k z.1 >>= λ w. Ok (record { «module» = m; place = p; end = end; uses = z.0.0; specs = z.0.1; body_uses = w.0.0; decls = w.0.1 }, w.1)) _
    (record { «module» = m; place = p; end = end; uses = fs; specs = ss; body_uses = bs; decls = ds }, [])
    (record { «module» = m; place = p; end = end; uses = fs; specs = ss; body_uses = bs; decls = ds })
    (and-agrees (g.interface_at i us) _ ((fs, ss), ws) (record { «module» = m; place = p; end = end; uses = fs; specs = ss; body_uses = bs; decls = ds }, []) (interface-complete i y us vs ws fs ss a b)
    (and-agrees (g.body_at i k ws) _ ((bs, ds), []) (record { «module» = m; place = p; end = end; uses = fs; specs = ss; body_uses = bs; decls = ds }, []) (body-complete i k ws xs [] bs ds c d) refl)) refl)
