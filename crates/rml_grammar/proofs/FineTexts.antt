-- A rule, a declaration and a text are refused at a token whatever follows that token.
use Rattle.std.proofs.Common.{◌≡◌, ℕ, zero, suc, ◌<◌, ◌-◌, ◌++◌, List, [], ◌∷◌, length, refl, arith, inl, inr, Some, None, Result, Ok, Err}
use Rattle.std.proofs.Math.ListN.{length-append}
use Rattle.rml_base.specs.declared.place.Place.{Place}
use Rattle.rml_syntax.specs.declared.token.Spot.{Spot}
use Rattle.rml_syntax.specs.declared.token.Token.{Token}
use Rattle.rml_syntax.specs.declared.token.Token.TheVariants as token
use Rattle.rml_syntax.specs.declared.token.Lit.TheVariants as lit
use Rattle.rml_syntax.specs.declared.token.Key.TheVariants as key
use Rattle.rml_syntax.specs.declared.token.Mark.TheVariants as mark
use Rattle.rml_syntax.specs.declared.rules.Goal.{Goal}
use Rattle.rml_syntax.specs.declared.rules.Rule.{Rule}
use Rattle.rml_syntax.specs.declared.texts.Decl.TheVariants as decl
use Rattle.rml_grammar.specs.declared.front.Front.{Front}
use Rattle.rml_grammar.specs.declared.front.Front.TheVariants as front
use Rattle.rml_grammar.specs.declared.front.Opening.{Opening}
use Rattle.rml_grammar.specs.declared.front.Opening.TheVariants as opening
use Rattle.rml_grammar.specs.declared.fault.Fault.{Fault}
use Rattle.rml_grammar.specs.declared.fault.ParseKind.TheVariants as kind
use Rattle.rml_grammar.specs.Tokens.{after, after_word, front_of, opening_of, rest_of}
use Rattle.rml_grammar.specs.Reading.{◌>>=◌, Parser, refused, repeated, separated, before, name_at}
use Rattle.rml_grammar.specs.Types.{tatom_at, type_at, sig_at, inner_bracket}
use Rattle.rml_grammar.specs.Patterns.{pargs_at}
use Rattle.rml_grammar.specs.Expressions.{exp_at, eseq_at}
use Rattle.rml_grammar.specs.Goals.{goals_at}
use Rattle.rml_grammar.specs.Texts as g
use Rattle.rml_grammar.specs.Trees.{Head, rule_of}
use Rattle.rml_grammar.specs.SpelledTexts.{IsSpec, IsDecl}
use Rattle.rml_grammar.proofs.Views.{opens}
use Rattle.rml_grammar.proofs.Holds.{holds-map}
use Rattle.rml_grammar.proofs.ShortTexts.{shorter-spec, shorter-decl}
use Rattle.rml_grammar.proofs.SoundTexts.{spec-sound, decl-sound, use-sound, use-turn}
use Rattle.rml_grammar.proofs.Levels.{text_is}
use Rattle.rml_grammar.proofs.Fine.{Fine, Choice, shut, here, Within, Keeps, fine-give, fine-refused, fine-then, fine-map, fine-skip, fine-front, fine-opening, fine-by, fine-words, fine-separated, fine-before, fine-name, fine-repeated-here, sign-decides, word-decides, fine-is}
use Rattle.rml_grammar.proofs.FineTypes as t
use Rattle.rml_grammar.proofs.FineExpressions.{exp-fine, eseq-at-fine}
use Rattle.rml_grammar.proofs.FinePatterns.{pargs-at-fine}
use Rattle.rml_grammar.proofs.FineGoals.{goals-fine}

type-fine : (n : ℕ) → Fine (type_at n)
type-fine n = t.product-fine (inner_bracket n) (t.inner-fine n)

tatom-fine : (n : ℕ) → Fine (tatom_at n)
tatom-fine n = t.tatom-fine (inner_bracket n) (t.inner-fine n)

sig-fine : (n : ℕ) → Fine (sig_at n)
sig-fine n = t.sig-fine (inner_bracket n) (t.inner-fine n)

-- heads of types
tyvar-by-fine : (f : Front) → Fine (λ us. g.tyvar_by us f)
tyvar-by-fine (front.TyVar v p) = fine-skip (λ us. Ok (v, us)) (fine-give v)
tyvar-by-fine f = fine-refused _

pub tyvar-fine : Fine g.tyvar_at
tyvar-fine = fine-front g.tyvar_by tyvar-by-fine

tyvars-fine : Fine g.tyvars_at
tyvars-fine = fine-then (λ us. g.tyvar_at us >>= before (after mark.Comma)) (λ v us. separated (after mark.Comma) g.tyvar_at us >>= before (after mark.CloseRound) >>= λ vs. Ok (v ∷ vs.0, vs.1))
    (fine-before (after mark.Comma) g.tyvar_at (sign-decides mark.Comma) tyvar-fine)
    (λ v. fine-map (λ us. separated (after mark.Comma) g.tyvar_at us >>= before (after mark.CloseRound)) (λ vs. v ∷ vs) (fine-before (after mark.CloseRound) (separated (after mark.Comma) g.tyvar_at) (sign-decides mark.CloseRound) (fine-separated mark.Comma g.tyvar_at tyvar-fine)))

from-fine : (vs : List ℕ) → Fine (g.thead_from vs)
from-fine vs = fine-map name_at (λ n. record { vars = vs; name = n.0; place = n.1 }) fine-name

thead-by-fine : (f : Front) → Fine (λ us. g.thead_by us f)
thead-by-fine (front.TyVar v p) = fine-skip (g.thead_from (v ∷ [])) (from-fine (v ∷ []))
thead-by-fine front.Round = fine-skip (λ us. g.tyvars_at us >>= λ vs. g.thead_from vs.0 vs.1) (fine-then g.tyvars_at g.thead_from tyvars-fine from-fine)
thead-by-fine f = from-fine []

pub thead-fine : Fine g.thead_at
thead-fine = fine-front g.thead_by thead-by-fine

thead-equals : Fine (λ us. g.thead_at us >>= before (after mark.Equals))
thead-equals = fine-before (after mark.Equals) g.thead_at (sign-decides mark.Equals) thead-fine

-- datatypes
parts-fine : (n : ℕ) → Fine (λ us. g.parts_by n us (after_word key.KOf us))
parts-fine n = fine-by (after_word key.KOf) (g.parts_by n) (separated (after mark.Star) (tatom_at n)) (word-decides key.KOf) (λ us vs. refl) (fine-give []) (fine-separated mark.Star (tatom_at n) (tatom-fine n))

con-fine : (n : ℕ) → Fine (g.con_at n)
con-fine n = fine-then name_at (λ c us. g.parts_by n us (after_word key.KOf us) >>= λ ts. Ok (record { name = c.0; place = c.1; parts = ts.0 }, ts.1)) fine-name
    (λ c. fine-map (λ us. g.parts_by n us (after_word key.KOf us)) (λ ts. record { name = c.0; place = c.1; parts = ts }) (parts-fine n))

data-fine : (n : ℕ) → Fine (g.data_at n)
data-fine n = fine-then (λ us. g.thead_at us >>= before (after mark.Equals)) (λ h us. separated (after mark.Bar) (g.con_at n) us >>= λ cs. Ok (record { head = h; cons = cs.0 }, cs.1)) thead-equals
    (λ h. fine-map (separated (after mark.Bar) (g.con_at n)) (λ cs. record { head = h; cons = cs }) (fine-separated mark.Bar (g.con_at n) (con-fine n)))

datas-fine : (n : ℕ) → Fine (g.datas_at n)
datas-fine n = fine-map (separated (after_word key.KAnd) (g.data_at n)) (λ ds. decl.Datatype ds)
    (fine-then (g.data_at n) (λ d us. repeated (after_word key.KAnd) (g.data_at n) us >>= λ ds. Ok (d ∷ ds.0, ds.1)) (data-fine n) (λ d. fine-map (repeated (after_word key.KAnd) (g.data_at n)) (λ ds. d ∷ ds) (fine-words key.KAnd (g.data_at n) (data-fine n))))

abbrev-fine : (n : ℕ) → Fine (g.abbrev_at n)
abbrev-fine n = fine-then (λ us. g.thead_at us >>= before (after mark.Equals)) (λ h us. type_at n us >>= λ x. Ok (decl.Abbrev h x.0, x.1)) thead-equals (λ h. fine-map (type_at n) (λ x. decl.Abbrev h x) (type-fine n))

name-colon : Fine (λ us. name_at us >>= before (after mark.Colon))
name-colon = fine-before (after mark.Colon) name_at (sign-decides mark.Colon) fine-name

spec-by-fine : (n : ℕ) (f : Opening) → Fine (λ us. g.spec_by n us f)
spec-by-fine n opening.Datatype = fine-skip (g.datas_at n) (datas-fine n)
spec-by-fine n opening.Type = fine-skip (g.abbrev_at n) (abbrev-fine n)
spec-by-fine n opening.Abstype = fine-skip g.abstype_at (fine-map g.thead_at (λ h. decl.Abstype h) thead-fine)
spec-by-fine n opening.Val = fine-skip (g.val_spec_at n) (fine-then (λ us. name_at us >>= before (after mark.Colon)) (λ x us. type_at n us >>= λ y. Ok (decl.Val x.0 x.1 (Some y.0) None, y.1)) name-colon (λ x. fine-map (type_at n) (λ y. decl.Val x.0 x.1 (Some y) None) (type-fine n)))
spec-by-fine n opening.Relation = fine-skip (g.relation_spec_at n) (fine-then (λ us. name_at us >>= before (after mark.Colon)) (λ x us. sig_at n us >>= λ y. Ok (decl.Relation x.0 x.1 (Some y.0) [], y.1)) name-colon (λ x. fine-map (sig_at n) (λ y. decl.Relation x.0 x.1 (Some y) []) (sig-fine n)))
spec-by-fine n f = fine-refused _

pub spec-fine : (n : ℕ) → Fine (g.spec_at n)
spec-fine n = fine-opening (g.spec_by n) (spec-by-fine n)

-- rules
results-fine : (n : ℕ) → Fine (g.rule_results_at n)
results-fine n = fine-by (after mark.Arrow) (g.rule_results_by n) (eseq_at n) (sign-decides mark.Arrow) (λ us vs. refl) (fine-give []) (eseq-at-fine n)

head-fine : (n : ℕ) → Fine (g.head_at n)
head-fine n = fine-then name_at (λ h us. pargs_at n us >>= λ ps. g.rule_results_at n ps.1 >>= λ es. Ok ((h, ps.0, es.0), es.1)) fine-name
    (λ h. fine-then (pargs_at n) (λ ps us. g.rule_results_at n us >>= λ es. Ok ((h, ps, es.0), es.1)) (pargs-at-fine n) (λ ps. fine-map (g.rule_results_at n) (λ es. (h, ps, es)) (results-fine n)))

pub dashes-by-fine : (gs : List Goal) (f : Front) → Fine (λ us. g.then_dashes gs us f)
dashes-by-fine gs front.Dashes = fine-skip (λ us. Ok (gs, us)) (fine-give gs)
dashes-by-fine gs f = fine-refused _

some-premises : (n : ℕ) → Fine (λ us. goals_at n us >>= λ gs. g.then_dashes gs.0 gs.1 (front_of gs.1))
some-premises n = fine-then (goals_at n) (λ gs us. g.then_dashes gs us (front_of us)) (goals-fine n) (λ gs. fine-front (g.then_dashes gs) (dashes-by-fine gs))

premises-by-fine : (n : ℕ) (f : Front) → Fine (λ us. g.premises_by n us f)
premises-by-fine n front.Dashes = fine-skip (λ us. Ok ([], us)) (fine-give [])
premises-by-fine n f = some-premises n

pub premises-fine : (n : ℕ) → Fine (g.premises_at n)
premises-fine n = fine-front (g.premises_by n) (premises-by-fine n)

-- a reading that counts the tokens it took
same-count : (x : Spot) (tail other c d : List Spot) → length (c ++ x ∷ other) - length (d ++ x ∷ other) ≡ length (c ++ x ∷ tail) - length (d ++ x ∷ tail)
same-count x tail other c d = omega (arith, length-append c (x ∷ tail), length-append d (x ∷ tail), length-append c (x ∷ other), length-append d (x ∷ other))

counted : {A B : Type 0} → (A → ℕ → B) → List Spot → Result (A × List Spot) Fault → Result (B × List Spot) Fault
counted f us (Ok y) = Ok (f y.0 (length us - length y.1), y.1)
counted f us (Err e) = Err e

counted-within : {A B : Type 0} (f : A → ℕ → B) (n : ℕ) (us : List Spot) (r : Result (A × List Spot) Fault) → Within n r → Within n (counted f us r)
unfolding counted
counted-within f n us (Ok y) h = h
counted-within f n us (Err e) h = h

counted-keeps : {A B : Type 0} (f : A → ℕ → B) (x : Spot) (tail other c : List Spot) (r s : Result (A × List Spot) Fault) → Keeps x tail other r s → Keeps x tail other (counted f (c ++ x ∷ tail) r) (counted f (c ++ x ∷ other) s)
unfolding counted
counted-keeps f x tail other c (Ok y) s (inl k) = rw k.2 (inl (k.0, k.1, (rw (same-count x tail other c k.0, k.1) refl)))
counted-keeps f x tail other c (Ok y) s (inr k) = inr k
counted-keeps f x tail other c (Err e) s (inl k) = rw k.2 (inl (k.0, k.1, refl))
counted-keeps f x tail other c (Err e) s (inr k) = inr k

counted-fine : {A B : Type 0} (f : A → ℕ → B) (p : Parser A) → Fine p → Fine (λ us. counted f us (p us))
counted-fine f p h = record {
  within = λ us. counted-within f (length us) us (p us) (h.within us);
  keeps = λ x tail other c. counted-keeps f x tail other c (p (c ++ x ∷ tail)) (p (c ++ x ∷ other)) (h.keeps x tail other c);
}

-- an axiom, and a rule, as what was read and a count
axiom-is : (p : Place) (us : List Spot) (r : Result (Head × List Spot) Fault) → (r >>= λ h. Ok (rule_of p [] h.0 (length us - length h.1), h.1)) ≡ counted (rule_of p []) us r
unfolding counted
axiom-is p us (Ok h) = refl
axiom-is p us (Err e) = refl

axiom-fine : (n : ℕ) (p : Place) → Fine (λ us. g.clause_by n us (opening.Axiom p))
axiom-fine n p = fine-is (λ us. g.clause_by n us (opening.Axiom p)) (λ us. counted (rule_of p []) us (g.head_at n (rest_of us))) (λ us. axiom-is p us (g.head_at n (rest_of us)))
    (counted-fine (rule_of p []) (λ us. g.head_at n (rest_of us)) (fine-skip (g.head_at n) (head-fine n)))

abbrev Parts : Type 0
Parts = List Goal × Head

parts_at : ℕ → Parser Parts
parts_at n us = g.premises_at n us >>= λ gs. g.head_at n gs.1 >>= λ h. Ok ((gs.0, h.0), h.1)

parts-read : (n : ℕ) → Fine (parts_at n)
unfolding parts_at
parts-read n = fine-then (g.premises_at n) (λ gs us. g.head_at n us >>= λ h. Ok ((gs, h.0), h.1)) (premises-fine n) (λ gs. fine-map (g.head_at n) (λ h. (gs, h)) (head-fine n))

abbrev rule_parts : Place → Parts → ℕ → Rule
rule_parts p x n = rule_of p x.0 x.1 n

goals-is : (p : Place) (us : List Spot) (gs : List Goal) (r : Result (Head × List Spot) Fault) → (r >>= λ h. Ok (rule_of p gs h.0 (length us - length h.1), h.1)) ≡ counted (rule_parts p) us (r >>= λ h. Ok ((gs, h.0), h.1))
unfolding counted
goals-is p us gs (Ok h) = refl
goals-is p us gs (Err e) = refl

rule-is : (n : ℕ) (p : Place) (us : List Spot) (r : Result (List Goal × List Spot) Fault) → (r >>= λ gs. g.head_at n gs.1 >>= λ h. Ok (rule_of p gs.0 h.0 (length us - length h.1), h.1)) ≡ counted (rule_parts p) us (r >>= λ gs. g.head_at n gs.1 >>= λ h. Ok ((gs.0, h.0), h.1))
unfolding counted
rule-is n p us (Ok gs) = goals-is p us gs.0 (g.head_at n gs.1)
rule-is n p us (Err e) = refl

rule-fine : (n : ℕ) (p : Place) → Fine (λ us. g.clause_by n us (opening.Rule p))
unfolding parts_at
rule-fine n p = fine-is (λ us. g.clause_by n us (opening.Rule p)) (λ us. counted (rule_parts p) us (parts_at n (rest_of us))) (λ us. rule-is n p us (g.premises_at n (rest_of us)))
    (counted-fine (rule_parts p) (λ us. parts_at n (rest_of us)) (fine-skip (parts_at n) (parts-read n)))

clause-by-fine : (n : ℕ) (f : Opening) → Fine (λ us. g.clause_by n us f)
clause-by-fine n (opening.Axiom p) = axiom-fine n p
clause-by-fine n (opening.Rule p) = rule-fine n p
clause-by-fine n f = fine-refused _

pub clause-fine : (n : ℕ) → Fine (g.clause_at n)
clause-fine n = fine-opening (g.clause_by n) (clause-by-fine n)

full-by : List Spot → Opening → Result (List Rule × List Spot) Fault
full-by us f = elim (g.clause_next_by us f) [ None ↦ Ok ([], us) | Some vs ↦ refused kind.TooManyRules us ]

full-fine : (f : Opening) → Fine (λ us. full-by us f)
unfolding full-by
full-fine (opening.Axiom p) = fine-refused _
full-fine (opening.Rule p) = fine-refused _
full-fine f = fine-give []

next-by : ℕ → ℕ → List Spot → Opening → Result (List Rule × List Spot) Fault
next-by n k us f = elim (g.clause_next_by us f) [ None ↦ Ok ([], us) | Some vs ↦ g.clause_at n vs >>= λ r. g.clauses_at n k r.1 >>= λ rs. Ok (r.0 ∷ rs.0, rs.1) ]

some-clauses : (n k : ℕ) → Fine (g.clauses_at n k) → Fine (λ us. g.clause_at n us >>= λ r. g.clauses_at n k r.1 >>= λ rs. Ok (r.0 ∷ rs.0, rs.1))
some-clauses n k h = fine-then (g.clause_at n) (λ r us. g.clauses_at n k us >>= λ rs. Ok (r ∷ rs.0, rs.1)) (clause-fine n) (λ r. fine-map (g.clauses_at n k) (λ rs. r ∷ rs) h)

next-fine : (n k : ℕ) → Fine (g.clauses_at n k) → (f : Opening) → Fine (λ us. next-by n k us f)
unfolding next-by
next-fine n k h (opening.Axiom p) = some-clauses n k h
next-fine n k h (opening.Rule p) = some-clauses n k h
next-fine n k h f = fine-give []

full-is : (n : ℕ) (us : List Spot) → g.clauses_at n zero us ≡ full-by us (opening_of us)
unfolding full-by g.clauses_at
full-is n us = refl

next-is : (n k : ℕ) (us : List Spot) → g.clauses_at n (suc k) us ≡ next-by n k us (opening_of us)
unfolding next-by g.clauses_at
next-is n k us = refl

pub clauses-fine : (n k : ℕ) → Fine (g.clauses_at n k)
clauses-fine n zero = fine-is (g.clauses_at n zero) (λ us. full-by us (opening_of us)) (full-is n) (fine-opening full-by full-fine)
clauses-fine n (suc k) = fine-is (g.clauses_at n (suc k)) (λ us. next-by n k us (opening_of us)) (next-is n k) (fine-opening (next-by n k) (next-fine n k (clauses-fine n k)))

rules-fine : (n k : ℕ) → Fine (g.rules_at n k)
rules-fine n k = fine-then (g.clause_at n) (λ r us. g.clauses_at n k us >>= before (after_word key.KEnd) >>= λ rs. Ok (r ∷ rs.0, rs.1)) (clause-fine n)
    (λ r. fine-map (λ us. g.clauses_at n k us >>= before (after_word key.KEnd)) (λ rs. r ∷ rs) (fine-before (after_word key.KEnd) (g.clauses_at n k) (word-decides key.KEnd) (clauses-fine n k)))

-- declarations of a body
optional-fine : {A : Type 0} (p : Parser A) → Fine p → Fine (λ us. g.optional_by p us (after mark.Colon us))
optional-fine p h = fine-by (after mark.Colon) (g.optional_by p) (λ us. p us >>= λ t. Ok (Some t.0, t.1)) (sign-decides mark.Colon) (λ us vs. refl) (fine-give None) (fine-map p (λ t. Some t) h)

optional-equals : {A : Type 0} (p : Parser A) → Fine p → Fine (λ us. g.optional_by p us (after mark.Colon us) >>= before (after mark.Equals))
optional-equals p h = fine-before (after mark.Equals) (λ us. g.optional_by p us (after mark.Colon us)) (sign-decides mark.Equals) (optional-fine p h)

val-fine : (n : ℕ) → Fine (g.val_at n)
val-fine n = fine-then name_at (λ x us. g.optional_by (type_at n) us (after mark.Colon us) >>= before (after mark.Equals) >>= λ y. exp_at n y.1 >>= λ e. Ok (decl.Val x.0 x.1 y.0 (Some e.0), e.1)) fine-name
    (λ x. fine-then (λ us. g.optional_by (type_at n) us (after mark.Colon us) >>= before (after mark.Equals)) (λ y us. exp_at n us >>= λ e. Ok (decl.Val x.0 x.1 y (Some e.0), e.1)) (optional-equals (type_at n) (type-fine n))
    (λ y. fine-map (exp_at n) (λ e. decl.Val x.0 x.1 y (Some e)) (exp-fine n)))

relation-fine : (n k : ℕ) → Fine (g.relation_at n k)
relation-fine n k = fine-then name_at (λ x us. g.optional_by (sig_at n) us (after mark.Colon us) >>= before (after mark.Equals) >>= λ y. g.rules_at n k y.1 >>= λ rs. Ok (decl.Relation x.0 x.1 y.0 rs.0, rs.1)) fine-name
    (λ x. fine-then (λ us. g.optional_by (sig_at n) us (after mark.Colon us) >>= before (after mark.Equals)) (λ y us. g.rules_at n k us >>= λ rs. Ok (decl.Relation x.0 x.1 y rs.0, rs.1)) (optional-equals (sig_at n) (sig-fine n))
    (λ y. fine-map (g.rules_at n k) (λ rs. decl.Relation x.0 x.1 y rs) (rules-fine n k)))

decl-by-fine : (n k : ℕ) (f : Opening) → Fine (λ us. g.decl_by n k us f)
decl-by-fine n k opening.Datatype = fine-skip (g.datas_at n) (datas-fine n)
decl-by-fine n k opening.Type = fine-skip (g.abbrev_at n) (abbrev-fine n)
decl-by-fine n k opening.Val = fine-skip (g.val_at n) (val-fine n)
decl-by-fine n k opening.Relation = fine-skip (g.relation_at n k) (relation-fine n k)
decl-by-fine n k f = fine-refused _

pub decl-fine : (n k : ℕ) → Fine (g.decl_at n k)
decl-fine n k = fine-opening (g.decl_by n k) (decl-by-fine n k)

-- repeated declarations
pub spec-choice : (s : Spot) (f : Opening) → opening_of (s ∷ []) ≡ f → Choice g.spec_next s
spec-choice s opening.Datatype e = here (λ us. rw e refl)
spec-choice s opening.Type e = here (λ us. rw e refl)
spec-choice s opening.Abstype e = here (λ us. rw e refl)
spec-choice s opening.Val e = here (λ us. rw e refl)
spec-choice s opening.Relation e = here (λ us. rw e refl)
spec-choice s f e = shut (λ us. rw e refl)

pub decl-choice : (s : Spot) (f : Opening) → opening_of (s ∷ []) ≡ f → Choice g.decl_next s
decl-choice s opening.Datatype e = here (λ us. rw e refl)
decl-choice s opening.Type e = here (λ us. rw e refl)
decl-choice s opening.Val e = here (λ us. rw e refl)
decl-choice s opening.Relation e = here (λ us. rw e refl)
decl-choice s f e = shut (λ us. rw e refl)

pub uses-choice : (s : Spot) (f : Opening) → opening_of (s ∷ []) ≡ f → Choice g.uses_next s
uses-choice s (opening.With p) e = here (λ us. rw e refl)
uses-choice s f e = shut (λ us. rw e refl)

specs-fine : (n : ℕ) → Fine (repeated g.spec_next (g.spec_at n))
specs-fine n = fine-repeated-here g.spec_next (g.spec_at n) (record { nil = refl; first = λ y. spec-choice y (opening_of (y ∷ [])) refl }) (spec-fine n)
    (λ y us e. holds-map (λ x. IsSpec (y ∷ us) x.0 x.1) (λ z. length z.1 < suc (length us)) (g.spec_at n (y ∷ us)) (spec-sound n (y ∷ us) (opens (y ∷ us))) (λ z h. shorter-spec h))

decls-fine : (n k : ℕ) → Fine (repeated g.decl_next (g.decl_at n k))
decls-fine n k = fine-repeated-here g.decl_next (g.decl_at n k) (record { nil = refl; first = λ y. decl-choice y (opening_of (y ∷ [])) refl }) (decl-fine n k)
    (λ y us e. holds-map (λ x. IsDecl (y ∷ us) x.0 x.1) (λ z. length z.1 < suc (length us)) (g.decl_at n k (y ∷ us)) (decl-sound n k (y ∷ us) (opens (y ∷ us))) (λ z h. shorter-decl h))

file-in-within : (t : Token) (p : Place) (us : List Spot) → Within (suc (length us)) (g.file_in (record { token = t; place = p } ∷ us) t us)
file-in-within (token.Lit (lit.Text f)) p us = omega arith
file-in-within (token.Lit (lit.Int f)) p us = omega arith
file-in-within (token.Lit (lit.Char f)) p us = omega arith
file-in-within (token.Name n) p us = omega arith
file-in-within (token.Word k) p us = omega arith
file-in-within (token.TyVar n) p us = omega arith
file-in-within (token.Sign m) p us = omega arith
file-in-within (token.Dashes n) p us = omega arith

file-in-keeps : (t : Token) (p : Place) (x : Spot) (tail other c : List Spot) → Keeps x tail other (g.file_in (record { token = t; place = p } ∷ c ++ x ∷ tail) t (c ++ x ∷ tail)) (g.file_in (record { token = t; place = p } ∷ c ++ x ∷ other) t (c ++ x ∷ other))
file-in-keeps (token.Lit (lit.Text f)) p x tail other c = inl (c, refl, refl)
file-in-keeps (token.Lit (lit.Int f)) p x tail other c = inl (record { token = token.Lit (lit.Int f); place = p } ∷ c, refl, refl)
file-in-keeps (token.Lit (lit.Char f)) p x tail other c = inl (record { token = token.Lit (lit.Char f); place = p } ∷ c, refl, refl)
file-in-keeps (token.Name n) p x tail other c = inl (record { token = token.Name n; place = p } ∷ c, refl, refl)
file-in-keeps (token.Word k) p x tail other c = inl (record { token = token.Word k; place = p } ∷ c, refl, refl)
file-in-keeps (token.TyVar n) p x tail other c = inl (record { token = token.TyVar n; place = p } ∷ c, refl, refl)
file-in-keeps (token.Sign m) p x tail other c = inl (record { token = token.Sign m; place = p } ∷ c, refl, refl)
file-in-keeps (token.Dashes n) p x tail other c = inl (record { token = token.Dashes n; place = p } ∷ c, refl, refl)

file-in-first : (t : Token) (p : Place) (tail other : List Spot) → Keeps (record { token = t; place = p }) tail other (g.file_in (record { token = t; place = p } ∷ tail) t tail) (g.file_in (record { token = t; place = p } ∷ other) t other)
file-in-first (token.Lit (lit.Text f)) p tail other = inr (omega arith)
file-in-first (token.Lit (lit.Int f)) p tail other = inl ([], refl, refl)
file-in-first (token.Lit (lit.Char f)) p tail other = inl ([], refl, refl)
file-in-first (token.Name n) p tail other = inl ([], refl, refl)
file-in-first (token.Word k) p tail other = inl ([], refl, refl)
file-in-first (token.TyVar n) p tail other = inl ([], refl, refl)
file-in-first (token.Sign m) p tail other = inl ([], refl, refl)
file-in-first (token.Dashes n) p tail other = inl ([], refl, refl)

file-within : (us : List Spot) → Within (length us) (g.file_at us)
file-within [] = omega arith
file-within (s ∷ us) = file-in-within s.token s.place us

file-keeps : (x : Spot) (tail other c : List Spot) → Keeps x tail other (g.file_at (c ++ x ∷ tail)) (g.file_at (c ++ x ∷ other))
file-keeps x tail other [] = file-in-first x.token x.place tail other
file-keeps x tail other (y ∷ c) = file-in-keeps y.token y.place x tail other c

pub file-fine : Fine g.file_at
file-fine = record { within = file-within; keeps = file-keeps }

pub uses-by-fine : (f : Opening) → Fine (λ us. g.uses_by us f)
uses-by-fine (opening.With p) = fine-skip (λ us. g.file_at us >>= λ f. Ok (record { file = f.0; place = p }, f.1)) (fine-map g.file_at (λ f. record { file = f; place = p }) file-fine)
uses-by-fine f = fine-refused _

uses-fine : Fine (repeated g.uses_next g.uses_at)
uses-fine = fine-repeated-here g.uses_next g.uses_at (record { nil = refl; first = λ y. uses-choice y (opening_of (y ∷ [])) refl }) (fine-opening g.uses_by uses-by-fine)
    (λ y us e. holds-map _ (λ z. length z.1 < suc (length us)) (g.uses_at (y ∷ us)) (use-sound (y ∷ us) (opens (y ∷ us))) (λ z h. (use-turn (y ∷ us) z.1 z.0 h).0))

-- texts
module-fine : Fine g.module_at
module-fine = fine-by (after_word key.KModule) g.module_by (λ us. name_at us >>= before (after mark.Colon)) (word-decides key.KModule) (λ us vs. refl) (fine-refused _) name-colon

interface-fine : (n : ℕ) → Fine (g.interface_at n)
interface-fine n = fine-then (repeated g.uses_next g.uses_at) (λ fs us. repeated g.spec_next (g.spec_at n) us >>= before (after_word key.KEnd) >>= λ ds. Ok ((fs, ds.0), ds.1)) uses-fine
    (λ fs. fine-map (λ us. repeated g.spec_next (g.spec_at n) us >>= before (after_word key.KEnd)) (λ ds. (fs, ds)) (fine-before (after_word key.KEnd) (repeated g.spec_next (g.spec_at n)) (word-decides key.KEnd) (specs-fine n)))

body-fine : (n k : ℕ) → Fine (g.body_at n k)
body-fine n k = fine-then (repeated g.uses_next g.uses_at) (λ fs us. repeated g.decl_next (g.decl_at n k) us >>= λ ds. Ok ((fs, ds.0), ds.1)) uses-fine
    (λ fs. fine-map (repeated g.decl_next (g.decl_at n k)) (λ ds. (fs, ds)) (decls-fine n k))

pub text-fine : (end : Place) (n k : ℕ) → Fine (g.text_at end n k)
text-fine end n k = fine-is (g.text_at end n k) (λ us. g.module_at us >>= λ m. g.interface_at n m.1 >>= λ i. g.body_at n k i.1 >>= λ b.
    Ok (record { «module» = m.0.0; place = m.0.1; end = end; uses = i.0.0; specs = i.0.1; body_uses = b.0.0; decls = b.0.1 }, b.1)) (text_is end n k)
    (fine-then g.module_at (λ m us. g.interface_at n us >>= λ i. g.body_at n k i.1 >>= λ b. Ok (record { «module» = m.0; place = m.1; end = end; uses = i.0.0; specs = i.0.1; body_uses = b.0.0; decls = b.0.1 }, b.1)) module-fine
    (λ m. fine-then (g.interface_at n) (λ i us. g.body_at n k us >>= λ b. Ok (record { «module» = m.0; place = m.1; end = end; uses = i.0; specs = i.1; body_uses = b.0.0; decls = b.0.1 }, b.1)) (interface-fine n)
    (λ i. fine-map (g.body_at n k) (λ b. record { «module» = m.0; place = m.1; end = end; uses = i.0; specs = i.1; body_uses = b.0; decls = b.1 }) (body-fine n k))))
