-- Rules, declarations and texts read with larger limits.
use Rattle.std.proofs.Common.{◌≡◌, ℕ, zero, suc, ◌<◌, List, [], ◌∷◌, length, refl, sym, ap, subst, arith, Result, Ok, Err}
use Rattle.rml_base.specs.declared.place.Place.{Place}
use Rattle.rml_syntax.specs.declared.token.Spot.{Spot}
use Rattle.rml_syntax.specs.declared.token.Token.{Token}
use Rattle.rml_syntax.specs.declared.token.Token.TheVariants as token
use Rattle.rml_syntax.specs.declared.token.Lit.TheVariants as lit
use Rattle.rml_syntax.specs.declared.token.Key.TheVariants as key
use Rattle.rml_syntax.specs.declared.token.Mark.TheVariants as mark
use Rattle.rml_syntax.specs.declared.texts.Text.{Text}
use Rattle.rml_grammar.specs.declared.front.Front.{Front}
use Rattle.rml_grammar.specs.declared.front.Front.TheVariants as front
use Rattle.rml_grammar.specs.declared.fault.Fault.{Fault}
use Rattle.rml_grammar.specs.declared.fault.ParseKind.TheVariants as kind
use Rattle.rml_grammar.specs.Laws.{IsLimit}
use Rattle.rml_grammar.specs.Tokens.{word, after, after_word, front_of}
use Rattle.rml_grammar.specs.Reading.{◌>>=◌, Parser, repeated}
use Rattle.rml_grammar.specs.Types.{tatom_at, type_at, sig_at}
use Rattle.rml_grammar.specs.Texts as g
use Rattle.rml_grammar.specs.Texts.{whole_text}
use Rattle.rml_grammar.proofs.Fine.{Within, bind-within, within-more}
use Rattle.rml_grammar.proofs.Views as v
use Rattle.rml_grammar.proofs.Views.{Begins, begins, Opens, opens, Has, has, HasWord, has-word}
use Rattle.rml_grammar.proofs.LimitsTexts.{spec-stays, decl-stays, uses-stays, none-begins, no-more, one-more}
use Rattle.rml_grammar.proofs.LimitsLarger.{Steps, same, alike, passed, within-past, steps-within, and-steps, end-steps, unexpected-steps, skip, Climbs, sign-steps, word-steps, word-shorter, repeated-climbs, separated-climbs, signs-climb, name-climbs}
use Rattle.rml_grammar.proofs.LimitsLargerTypes.{tatom-at-climbs, type-climbs, sig-climbs}
use Rattle.rml_grammar.proofs.LimitsLargerPatterns.{pargs-climbs}
use Rattle.rml_grammar.proofs.LimitsLargerExpressions.{exp-climbs, eseq-climbs}
use Rattle.rml_grammar.proofs.LimitsLargerGoals.{goals-climb}

-- readings that no limit touches
tyvar-by : (us : List Spot) → Begins us → Steps (length us) (g.tyvar_at us) (g.tyvar_at us)
tyvar-by us (v.another o) = rw o unexpected-steps
tyvar-by us v.a_tyvar = skip end-steps
tyvar-by us _ = unexpected-steps

tyvar-climbs : Climbs g.tyvar_at g.tyvar_at
tyvar-climbs us = tyvar-by us (begins us)

tyvars-climb : Climbs g.tyvars_at g.tyvars_at
tyvars-climb us = and-steps (and-steps (tyvar-climbs us) (λ x. sign-steps mark.Comma x))
    (λ x. and-steps (and-steps (signs-climb mark.Comma g.tyvar_at g.tyvar_at tyvar-climbs x.1) (λ y. sign-steps mark.CloseRound y)) (λ y. end-steps))

from-climbs : (vs : List ℕ) → Climbs (g.thead_from vs) (g.thead_from vs)
from-climbs vs us = and-steps (name-climbs us) (λ x. end-steps)

thead-by : (us : List Spot) → Begins us → Steps (length us) (g.thead_at us) (g.thead_at us)
thead-by us (v.another o) = rw o (from-climbs [] us)
thead-by us (v.a_tyvar {n = x} {us = vs}) = skip (from-climbs (x ∷ []) vs)
thead-by us (v.a_round {us = vs}) = skip (and-steps (tyvars-climb vs) (λ x. from-climbs x.0 x.1))
thead-by us _ = from-climbs [] us

thead-climbs : Climbs g.thead_at g.thead_at
thead-climbs us = thead-by us (begins us)

file-in : (t : Token) (p : Place) (us : List Spot) → Steps (length (record { token = t; place = p } ∷ us)) (g.file_in (record { token = t; place = p } ∷ us) t us) (g.file_in (record { token = t; place = p } ∷ us) t us)
file-in (token.Lit (lit.Text f)) p us = skip end-steps
file-in (token.Lit (lit.Int i)) p us = unexpected-steps
file-in (token.Lit (lit.Char c)) p us = unexpected-steps
file-in (token.Name n) p us = unexpected-steps
file-in (token.Word k) p us = unexpected-steps
file-in (token.TyVar x) p us = unexpected-steps
file-in (token.Sign m) p us = unexpected-steps
file-in (token.Dashes n) p us = unexpected-steps

file-climbs : Climbs g.file_at g.file_at
file-climbs [] = unexpected-steps
file-climbs (s ∷ us) = file-in s.token s.place us

uses-by : (us : List Spot) → Opens us → Steps (length us) (g.uses_at us) (g.uses_at us)
uses-by us (v.nothing o) = rw o unexpected-steps
uses-by us (v.a_with {us = vs}) = skip (and-steps (file-climbs vs) (λ x. end-steps))
uses-by us _ = unexpected-steps

all-uses : Climbs (repeated g.uses_next g.uses_at) (repeated g.uses_next g.uses_at)
all-uses us = repeated-climbs g.uses_next g.uses_at g.uses_at (λ us vs e. let h = ap length (uses-stays us vs (opens us) e) in omega arith) (λ vs. uses-by vs (opens vs)) us

module-by : (us : List Spot) → HasWord key.KModule us → Steps (length us) (g.module_at us) (g.module_at us)
module-by us (v.said {us = vs}) = skip (and-steps (name-climbs vs) (λ x. sign-steps mark.Colon x))
module-by us (v.unsaid o) = rw o unexpected-steps

optional-by : {A : Type 0} (p q : Parser A) → Climbs p q → (us : List Spot) → Has mark.Colon us → Steps (length us) (g.optional_by p us (after mark.Colon us)) (g.optional_by q us (after mark.Colon us))
optional-by p q h us (v.there {us = vs}) = skip (and-steps (h vs) (λ x. end-steps))
optional-by p q h us (v.lacking o) = rw o end-steps

dashes-by : {A : Type 0} (x : A) (us : List Spot) → Begins us → Steps (length us) (g.then_dashes x us (front_of us)) (g.then_dashes x us (front_of us))
dashes-by x us (v.another o) = rw o unexpected-steps
dashes-by x us v.a_line = skip end-steps
dashes-by x us _ = unexpected-steps

module _ (n m : ℕ) (l : n < m) where
  parts-by : (us : List Spot) → HasWord key.KOf us → Steps (length us) (g.parts_by n us (after_word key.KOf us)) (g.parts_by m us (after_word key.KOf us))
  parts-by us (v.said {us = vs}) = skip (signs-climb mark.Star (tatom_at n) (tatom_at m) (tatom-at-climbs n m l) vs)
  parts-by us (v.unsaid o) = rw o end-steps

  con-climbs : Climbs (g.con_at n) (g.con_at m)
  con-climbs us = and-steps (name-climbs us) (λ x. and-steps (parts-by x.1 (has-word key.KOf x.1)) (λ y. end-steps))

  data-climbs : Climbs (g.data_at n) (g.data_at m)
  data-climbs us = and-steps (and-steps (thead-climbs us) (λ x. sign-steps mark.Equals x)) (λ x. and-steps (signs-climb mark.Bar (g.con_at n) (g.con_at m) con-climbs x.1) (λ y. end-steps))

  datas-climb : Climbs (g.datas_at n) (g.datas_at m)
  datas-climb us = and-steps (separated-climbs (after_word key.KAnd) (g.data_at n) (g.data_at m) (word-shorter key.KAnd) data-climbs us) (λ x. end-steps)

  abbrev-climbs : Climbs (g.abbrev_at n) (g.abbrev_at m)
  abbrev-climbs us = and-steps (and-steps (thead-climbs us) (λ x. sign-steps mark.Equals x)) (λ x. and-steps (type-climbs n m l x.1) (λ y. end-steps))

  val-spec-climbs : Climbs (g.val_spec_at n) (g.val_spec_at m)
  val-spec-climbs us = and-steps (and-steps (name-climbs us) (λ x. sign-steps mark.Colon x)) (λ x. and-steps (type-climbs n m l x.1) (λ y. end-steps))

  relation-spec-climbs : Climbs (g.relation_spec_at n) (g.relation_spec_at m)
  relation-spec-climbs us = and-steps (and-steps (name-climbs us) (λ x. sign-steps mark.Colon x)) (λ x. and-steps (sig-climbs n m l x.1) (λ y. end-steps))

  spec-by : (us : List Spot) → Opens us → Steps (length us) (g.spec_at n us) (g.spec_at m us)
  spec-by us (v.nothing o) = rw o unexpected-steps
  spec-by us (v.a_datatype {us = vs}) = skip (datas-climb vs)
  spec-by us (v.a_type {us = vs}) = skip (abbrev-climbs vs)
  spec-by us (v.an_abstype {us = vs}) = skip (and-steps (thead-climbs vs) (λ x. end-steps))
  spec-by us (v.a_val {us = vs}) = skip (val-spec-climbs vs)
  spec-by us (v.a_relation {us = vs}) = skip (relation-spec-climbs vs)
  spec-by us _ = unexpected-steps

  results-by : (us : List Spot) → Has mark.Arrow us → Steps (length us) (g.rule_results_by n us (after mark.Arrow us)) (g.rule_results_by m us (after mark.Arrow us))
  results-by us (v.there {us = vs}) = skip (eseq-climbs n m l vs)
  results-by us (v.lacking o) = rw o end-steps

  head-climbs : Climbs (g.head_at n) (g.head_at m)
  head-climbs us = and-steps (name-climbs us) (λ x. and-steps (pargs-climbs n m l x.1) (λ y. and-steps (results-by y.1 (has mark.Arrow y.1)) (λ z. end-steps)))

  other-premises : (us : List Spot) (f : Front) → (f ≡ front.Dashes → ⊥) → Steps (length us) (g.premises_by n us f) (g.premises_by m us f)
  other-premises us front.Dashes h = absurd (h refl)
  other-premises us _ h = and-steps (goals-climb n m l us) (λ x. dashes-by x.0 x.1 (begins x.1))

  premises-by : (us : List Spot) → Begins us → Steps (length us) (g.premises_at n us) (g.premises_at m us)
  premises-by us (v.another o) = other-premises us (front_of us) (λ h. cc)
  premises-by us v.a_line = skip end-steps
  premises-by us _ = other-premises us (front_of us) (λ h. cc)

  axiom-steps : (p : Place) (us : List Spot) → Steps (length us) (g.clause_at n (word key.KAxiom p ∷ us)) (g.clause_at m (word key.KAxiom p ∷ us))
  axiom-steps p us = and-steps (head-climbs us) (λ x. end-steps)

  rule-steps : (p : Place) (us : List Spot) → Steps (length us) (g.clause_at n (word key.KRule p ∷ us)) (g.clause_at m (word key.KRule p ∷ us))
  rule-steps p us = and-steps (premises-by us (begins us)) (λ x. and-steps (head-climbs x.1) (λ y. end-steps))

  clause-by : (us : List Spot) → Opens us → Steps (length us) (g.clause_at n us) (g.clause_at m us)
  clause-by us (v.nothing o) = rw o unexpected-steps
  clause-by us (v.an_axiom {p} {us = vs}) = skip (axiom-steps p vs)
  clause-by us (v.a_rule {p} {us = vs}) = skip (rule-steps p vs)
  clause-by us _ = unexpected-steps

  -- a clause, and more behind it
  more-within : (j k : ℕ) (us : List Spot) → ((vs : List Spot) → Within (length vs) (g.clauses_at m j vs)) → Within k (g.clause_at m us) → Within k (g.clause_at m us >>= λ r. g.clauses_at m j r.1 >>= λ rs. Ok (r.0 ∷ rs.0, rs.1))
  more-within j k us again h = bind-within k (g.clause_at m us) _ h (λ x le. within-more (length x.1) k _ le (bind-within (length x.1) (g.clauses_at m j x.1) _ (again x.1) (λ y le. le)))

  clauses-within : (j : ℕ) (us : List Spot) → Opens us → Within (length us) (g.clauses_at m j us)
  clauses-within j us (v.nothing o) = rw (none-begins m j us (rw o refl)) (omega arith)
  clauses-within zero us v.a_rule = rw (no-more m us us refl) (omega arith)
  clauses-within zero us v.an_axiom = rw (no-more m us us refl) (omega arith)
  clauses-within (suc j) us v.a_rule = rw (one-more m j us us refl) (more-within j (length us) us (λ vs. clauses-within j vs (opens vs)) (steps-within (clause-by us v.a_rule)))
  clauses-within (suc j) us v.an_axiom = rw (one-more m j us us refl) (more-within j (length us) us (λ vs. clauses-within j vs (opens vs)) (steps-within (clause-by us v.an_axiom)))
  clauses-within j us _ = rw (none-begins m j us refl) (omega arith)

  clauses-climb : (k j : ℕ) → k < j → (us : List Spot) → Opens us → Steps (length us) (g.clauses_at n k us) (g.clauses_at m j us)
  clauses-climb k j b us (v.nothing o) = rw (none-begins n k us (rw o refl), none-begins m j us (rw o refl)) end-steps
  clauses-climb zero zero b us v.a_rule = absurd (omega arith)
  clauses-climb zero zero b us v.an_axiom = absurd (omega arith)
  clauses-climb (suc k) zero b us v.a_rule = absurd (omega arith)
  clauses-climb (suc k) zero b us v.an_axiom = absurd (omega arith)
  clauses-climb zero (suc j) b us (v.a_rule {p} {us = vs}) = rw (no-more n us us refl, one-more m j us us refl)
      (passed tt (within-past (length vs) (length us) _ (more-within j (length vs) us (λ ws. clauses-within j ws (opens ws)) (steps-within (rule-steps p vs))) (omega arith)) (omega arith))
  clauses-climb zero (suc j) b us (v.an_axiom {p} {us = vs}) = rw (no-more n us us refl, one-more m j us us refl)
      (passed tt (within-past (length vs) (length us) _ (more-within j (length vs) us (λ ws. clauses-within j ws (opens ws)) (steps-within (axiom-steps p vs))) (omega arith)) (omega arith))
  clauses-climb (suc k) (suc j) b us v.a_rule = rw (one-more n k us us refl, one-more m j us us refl) (and-steps (clause-by us v.a_rule) (λ x. and-steps (clauses-climb k j (omega arith) x.1 (opens x.1)) (λ y. end-steps)))
  clauses-climb (suc k) (suc j) b us v.an_axiom = rw (one-more n k us us refl, one-more m j us us refl) (and-steps (clause-by us v.an_axiom) (λ x. and-steps (clauses-climb k j (omega arith) x.1 (opens x.1)) (λ y. end-steps)))
  clauses-climb k j b us _ = rw (none-begins n k us refl, none-begins m j us refl) end-steps

  module _ (k j : ℕ) (b : k < j) where
    rules-climb : Climbs (g.rules_at n k) (g.rules_at m j)
    rules-climb us = and-steps (clause-by us (opens us)) (λ x. and-steps (and-steps (clauses-climb k j b x.1 (opens x.1)) (λ y. word-steps key.KEnd y)) (λ y. end-steps))

    val-climbs : Climbs (g.val_at n) (g.val_at m)
    val-climbs us = and-steps (name-climbs us)
        (λ x. and-steps (and-steps (optional-by (type_at n) (type_at m) (type-climbs n m l) x.1 (has mark.Colon x.1)) (λ y. sign-steps mark.Equals y)) (λ y. and-steps (exp-climbs n m l y.1) (λ z. end-steps)))

    relation-climbs : Climbs (g.relation_at n k) (g.relation_at m j)
    relation-climbs us = and-steps (name-climbs us)
        (λ x. and-steps (and-steps (optional-by (sig_at n) (sig_at m) (sig-climbs n m l) x.1 (has mark.Colon x.1)) (λ y. sign-steps mark.Equals y)) (λ y. and-steps (rules-climb y.1) (λ z. end-steps)))

    decl-by : (us : List Spot) → Opens us → Steps (length us) (g.decl_at n k us) (g.decl_at m j us)
    decl-by us (v.nothing o) = rw o unexpected-steps
    decl-by us (v.a_datatype {us = vs}) = skip (datas-climb vs)
    decl-by us (v.a_type {us = vs}) = skip (abbrev-climbs vs)
    decl-by us (v.a_val {us = vs}) = skip (val-climbs vs)
    decl-by us (v.a_relation {us = vs}) = skip (relation-climbs vs)
    decl-by us _ = unexpected-steps

    all-specs : Climbs (repeated g.spec_next (g.spec_at n)) (repeated g.spec_next (g.spec_at m))
    all-specs us = repeated-climbs g.spec_next (g.spec_at n) (g.spec_at m) (λ us vs e. let h = ap length (spec-stays us vs (opens us) e) in omega arith) (λ vs. spec-by vs (opens vs)) us

    all-decls : Climbs (repeated g.decl_next (g.decl_at n k)) (repeated g.decl_next (g.decl_at m j))
    all-decls us = repeated-climbs g.decl_next (g.decl_at n k) (g.decl_at m j) (λ us vs e. let h = ap length (decl-stays us vs (opens us) e) in omega arith) (λ vs. decl-by vs (opens vs)) us

    interface-climbs : Climbs (g.interface_at n) (g.interface_at m)
    interface-climbs us = and-steps (all-uses us) (λ x. and-steps (and-steps (all-specs x.1) (λ y. word-steps key.KEnd y)) (λ y. end-steps))

    body-climbs : Climbs (g.body_at n k) (g.body_at m j)
    body-climbs us = and-steps (all-uses us) (λ x. and-steps (all-decls x.1) (λ y. end-steps))

    text-climbs : (end : Place) → Climbs (g.text_at end n k) (g.text_at end m j)
    unfolding g.text_at
    text-climbs end us = and-steps (module-by us (has-word key.KModule us)) (λ x. and-steps (interface-climbs x.1) (λ y. and-steps (body-climbs y.1) (λ z. end-steps)))

-- what is behind a text is unexpected
fault-is : (e f : Fault) → ◌≡◌ {A = Result Text Fault} (Err e) (Err f) → e ≡ f
fault-is e f h = cc

no-limit-is : (e f : Fault) → e.kind ≡ kind.Unexpected → ◌≡◌ {A = Result Text Fault} (Err e) (Err f) → IsLimit f.kind → ⊥
no-limit-is e f u h i = let same : e ≡ f = fault-is e f h in let j : IsLimit e.kind = subst (λ (x : Fault). IsLimit x.kind) (sym same) i in subst IsLimit u j

behind-text : (t : Text) (us : List Spot) (f : Fault) → g.whole_by t us ≡ Err f → IsLimit f.kind → ⊥
behind-text t [] f e i = absurd (cc e)
behind-text t (s ∷ us) f e i = no-limit-is (record { kind = kind.Unexpected; left = length (s ∷ us) }) f refl e i

behind-left : (t : Text) (us : List Spot) (f : Fault) → g.whole_by t us ≡ Err f → length us ≡ f.left
behind-left t [] f e = absurd (cc e)
behind-left t (s ∷ us) f e = ap (λ (x : Fault). x.left) (fault-is (record { kind = kind.Unexpected; left = length (s ∷ us) }) f e)

module _ {n : ℕ} where
  same-by : {r s : Result (Text × List Spot) Fault} (f : Fault) → Steps n r s → (r >>= λ y. g.whole_by y.0 y.1) ≡ Err f → f.kind ≡ kind.Unexpected → (s >>= λ y. g.whole_by y.0 y.1) ≡ Err f
  same-by f (same l) e u = e
  same-by f (alike l) e u = e
  same-by f (passed {f = x} i p l) e u = let h : x ≡ f = fault-is x f e in absurd (subst IsLimit u (subst (λ (y : Fault). IsLimit y.kind) h i))

  later-by : {r s : Result (Text × List Spot) Fault} (f o : Fault) → Steps n r s → (r >>= λ y. g.whole_by y.0 y.1) ≡ Err f → IsLimit f.kind → (s >>= λ y. g.whole_by y.0 y.1) ≡ Err o → o.left < f.left
  later-by f o (same {y} l) e i h = absurd (behind-text y.0 y.1 f e i)
  later-by f o (alike {left} l) e i h = absurd (no-limit-is (record { kind = kind.Unexpected; left = left }) f refl e i)
  later-by f o (passed {f = x} {s = Ok y} j p l) e i h = let a : x.left ≡ f.left = ap (λ (z : Fault). z.left) (fault-is x f e) in let b = behind-left y.0 y.1 o h in omega arith
  later-by f o (passed {f = x} {s = Err z} j p l) e i h = let a : x.left ≡ f.left = ap (λ (z : Fault). z.left) (fault-is x f e) in let b : z.left ≡ o.left = ap (λ (z : Fault). z.left) (fault-is z o h) in omega arith

pub same-fault : (end : Place) (n m k j : ℕ) (us : List Spot) (f : Fault) → n < m → k < j → whole_text end n k us ≡ Err f → f.kind ≡ kind.Unexpected → whole_text end m j us ≡ Err f
unfolding whole_text
same-fault end n m k j us f l b e u = same-by f (text-climbs n m l k j b end us) e u

pub later-fault : (end : Place) (n m k j : ℕ) (us : List Spot) (f o : Fault) → n < m → k < j → whole_text end n k us ≡ Err f → IsLimit f.kind → whole_text end m j us ≡ Err o → o.left < f.left
unfolding whole_text
later-fault end n m k j us f o l b e i h = later-by f o (text-climbs n m l k j b end us) e i h
