-- Readings of rules, declarations and texts keep the limits.
use Rattle.std.proofs.Common.{◌≡◌, ℕ, zero, suc, ◌+◌, ◌<◌, List, [], ◌∷◌, refl, sym, ◌∙◌, subst, arith, Some, None, Result, Ok, Err}
use Rattle.std.proofs.lemmas.List.{append-nil}
use Rattle.rml_base.specs.declared.place.Place.{Place}
use Rattle.rml_syntax.specs.declared.token.Spot.{Spot}
use Rattle.rml_syntax.specs.declared.token.Token.{Token}
use Rattle.rml_syntax.specs.declared.token.Token.TheVariants as token
use Rattle.rml_syntax.specs.declared.token.Lit.TheVariants as lit
use Rattle.rml_syntax.specs.declared.token.Key.TheVariants as key
use Rattle.rml_syntax.specs.declared.token.Mark.TheVariants as mark
use Rattle.rml_syntax.specs.declared.texts.Text.{Text}
use Rattle.rml_grammar.specs.declared.front.Front.{Front}
use Rattle.rml_grammar.specs.declared.front.Front.TheVariants as front
use Rattle.rml_grammar.specs.declared.fault.Fault.{Fault}
use Rattle.rml_grammar.specs.declared.fault.ParseKind.TheVariants as kind
use Rattle.rml_grammar.specs.Tokens.{word, after, after_word, front_of}
use Rattle.rml_grammar.specs.Reading.{◌>>=◌, Parser, refused, repeated}
use Rattle.rml_grammar.specs.Types.{tatom_at, type_at, sig_at}
use Rattle.rml_grammar.specs.Limits.{WithinLimits, StandsAt}
use Rattle.rml_grammar.specs.Texts as g
use Rattle.rml_grammar.specs.Texts.{whole_text}
use Rattle.rml_grammar.proofs.Views as v
use Rattle.rml_grammar.proofs.Views.{Begins, begins, Opens, opens, Has, has, HasWord, has-word}
use Rattle.rml_grammar.proofs.LimitsReading.{Whole, At, at-start, pass, Ends, went, stopped, and-ends, unexpected-ends, too-many, Keeps, over, enter, and-sign, and-close, and-word, word-opens, repeated-end, separated-end, separated-keeps, name-keeps}
use Rattle.rml_grammar.proofs.LimitsTypes.{tatom-at-keeps, type-keeps, sig-keeps}
use Rattle.rml_grammar.proofs.LimitsPatterns.{pargs-keeps}
use Rattle.rml_grammar.proofs.LimitsExpressions.{exp-keeps, eseq-keeps}
use Rattle.rml_grammar.proofs.LimitsGoals.{goals-keeps}

-- outside of all brackets, behind some rules
pub record Outside (w : Whole) (us : List Spot) : Type 0 where
  pub count : ℕ
  pub at : At w 0 count us

outside : {w : Whole} {r : ℕ} {A : Type 0} {x : Result (A × List Spot) Fault} → Ends w (λ y. At w 0 r y.1) x → Ends w (λ y. Outside w y.1) x
outside {r} (went a) = went (record { count = r; at = a })
outside (stopped b) = stopped b

-- behind `relation`, `rule` and `axiom`
behind-relation : {w : Whole} {d r : ℕ} {p : Place} {us : List Spot} → At w d r (word key.KRelation p ∷ us) → At w d 0 us
behind-relation a = pass a (λ i. absurd i) (λ i. absurd i)

behind-rule : {w : Whole} {d r : ℕ} {p : Place} {us : List Spot} → r < w.most → At w d r (word key.KRule p ∷ us) → At w d (suc r) us
behind-rule {w} {d} {r} {p} {us} l a = let e : r + 1 ≡ suc r = omega arith in subst (λ (q : ℕ). At w d q us) e (pass a (λ i. absurd i) (λ i. l))

behind-axiom : {w : Whole} {d r : ℕ} {p : Place} {us : List Spot} → r < w.most → At w d r (word key.KAxiom p ∷ us) → At w d (suc r) us
behind-axiom {w} {d} {r} {p} {us} l a = let e : r + 1 ≡ suc r = omega arith in subst (λ (q : ℕ). At w d q us) e (pass a (λ i. absurd i) (λ i. l))

-- heads of types
tyvar-by : {w : Whole} {d r : ℕ} (us : List Spot) → Begins us → At w d r us → Ends w (λ x. At w d r x.1) (g.tyvar_at us)
tyvar-by us (v.another o) a = rw o (unexpected-ends a)
tyvar-by us v.a_tyvar a = went (over tt a)
tyvar-by us _ a = unexpected-ends a

tyvar-keeps : {w : Whole} {d r : ℕ} → Keeps w d r g.tyvar_at
tyvar-keeps us a = tyvar-by us (begins us) a

tyvars-close : {w : Whole} {d r : ℕ} (us : List Spot) → At w (suc d) r us → Ends w (λ x. At w d r x.1) (g.tyvars_at us)
tyvars-close us a = and-ends (and-ends (tyvar-keeps us a) (λ x b. and-sign mark.Comma tt x b))
    (λ x b. and-ends (and-ends (separated-keeps mark.Comma tt g.tyvar_at tyvar-keeps x.1 b) (λ y c. and-close mark.CloseRound tt y c)) (λ y c. went c))

from-keeps : {w : Whole} {d r : ℕ} (vs : List ℕ) → Keeps w d r (g.thead_from vs)
from-keeps vs us a = and-ends (name-keeps us a) (λ x b. went b)

-- a file, and the name of a module
file-in : {w : Whole} {d r : ℕ} (t : Token) (p : Place) (us : List Spot) → At w d r (record { token = t; place = p } ∷ us) → Ends w (λ x. At w d r x.1) (g.file_in (record { token = t; place = p } ∷ us) t us)
file-in (token.Lit (lit.Text f)) p us a = went (over tt a)
file-in (token.Lit (lit.Int i)) p us a = unexpected-ends a
file-in (token.Lit (lit.Char c)) p us a = unexpected-ends a
file-in (token.Name n) p us a = unexpected-ends a
file-in (token.Word k) p us a = unexpected-ends a
file-in (token.TyVar x) p us a = unexpected-ends a
file-in (token.Sign m) p us a = unexpected-ends a
file-in (token.Dashes n) p us a = unexpected-ends a

file-keeps : {w : Whole} {d r : ℕ} → Keeps w d r g.file_at
file-keeps [] a = unexpected-ends a
file-keeps (s ∷ us) a = file-in s.token s.place us a

uses-by : {w : Whole} {d r : ℕ} (us : List Spot) → Opens us → At w d r us → Ends w (λ x. At w d r x.1) (g.uses_at us)
uses-by us (v.nothing o) a = rw o (unexpected-ends a)
uses-by us (v.a_with {us = vs}) a = and-ends (file-keeps vs (over tt a)) (λ x b. went b)
uses-by us _ a = unexpected-ends a

module-by : {w : Whole} {d r : ℕ} (us : List Spot) → HasWord key.KModule us → At w d r us → Ends w (λ x. At w d r x.1) (g.module_at us)
module-by us (v.said {us = vs}) a = and-ends (name-keeps vs (over tt a)) (λ x b. and-sign mark.Colon tt x b)
module-by us (v.unsaid o) a = rw o (unexpected-ends a)

optional-by : {w : Whole} {d r : ℕ} {A : Type 0} (p : Parser A) → Keeps w d r p → (us : List Spot) → Has mark.Colon us → At w d r us → Ends w (λ x. At w d r x.1) (g.optional_by p us (after mark.Colon us))
optional-by p h us (v.there {us = vs}) a = and-ends (h vs (over tt a)) (λ x b. went b)
optional-by p h us (v.lacking o) a = rw o (went a)

-- what stands first where another part begins is not passed
pub spec-stays : (us vs : List Spot) → Opens us → g.spec_next us ≡ Some vs → us ≡ vs
spec-stays us vs (v.nothing o) e = absurd (cc (rw o at e))
spec-stays us vs _ e = cc

pub decl-stays : (us vs : List Spot) → Opens us → g.decl_next us ≡ Some vs → us ≡ vs
decl-stays us vs (v.nothing o) e = absurd (cc (rw o at e))
decl-stays us vs _ e = cc

pub uses-stays : (us vs : List Spot) → Opens us → g.uses_next us ≡ Some vs → us ≡ vs
uses-stays us vs (v.nothing o) e = absurd (cc (rw o at e))
uses-stays us vs _ e = cc

all-uses : {w : Whole} {d r : ℕ} → Keeps w d r (repeated g.uses_next g.uses_at)
all-uses {w} {d} {r} us a = repeated-end (At w d r) g.uses_next g.uses_at (λ us vs e b. subst (λ (zs : List Spot). At w d r zs) (uses-stays us vs (opens us) e) b) (λ vs b. uses-by vs (opens vs) b) us a

-- where no rule begins, or one that is one too many, or one more
module _ (n : ℕ) where
  pub none-begins : (k : ℕ) (us : List Spot) → g.clause_next us ≡ None → g.clauses_at n k us ≡ Ok ([], us)
  unfolding g.clauses_at
  none-begins zero us o = rw (o, g.clauses_at) refl
  none-begins (suc k) us o = rw (o, g.clauses_at) refl

  pub no-more : (us vs : List Spot) → g.clause_next us ≡ Some vs → g.clauses_at n zero us ≡ refused kind.TooManyRules us
  unfolding g.clauses_at
  no-more us vs o = rw (o, g.clauses_at) refl

  pub one-more : (k : ℕ) (us vs : List Spot) → g.clause_next us ≡ Some vs → g.clauses_at n (suc k) us ≡ (g.clause_at n vs >>= λ r. g.clauses_at n k r.1 >>= λ rs. Ok (r.0 ∷ rs.0, rs.1))
  unfolding g.clauses_at
  one-more k us vs o = rw (o, g.clauses_at) refl

module _ {w : Whole} (n : ℕ) (e : 0 + n ≡ w.depth) (some : 0 < w.depth) where
  -- datatypes and abbreviations
  thead-by : {r : ℕ} (us : List Spot) → Begins us → At w 0 r us → Ends w (λ x. At w 0 r x.1) (g.thead_at us)
  thead-by us (v.another o) a = rw o (from-keeps [] us a)
  thead-by us (v.a_tyvar {n = x} {us = vs}) a = from-keeps (x ∷ []) vs (over tt a)
  thead-by us (v.a_round {us = vs}) a = and-ends (tyvars-close vs (enter tt some a)) (λ x b. from-keeps x.0 x.1 b)
  thead-by us _ a = from-keeps [] us a

  thead-keeps : {r : ℕ} → Keeps w 0 r g.thead_at
  thead-keeps us a = thead-by us (begins us) a

  parts-by : {r : ℕ} (us : List Spot) → HasWord key.KOf us → At w 0 r us → Ends w (λ x. At w 0 r x.1) (g.parts_by n us (after_word key.KOf us))
  parts-by us (v.said {us = vs}) a = separated-keeps mark.Star tt (tatom_at n) (tatom-at-keeps n e) vs (over tt a)
  parts-by us (v.unsaid o) a = rw o (went a)

  con-keeps : {r : ℕ} → Keeps w 0 r (g.con_at n)
  con-keeps us a = and-ends (name-keeps us a) (λ x b. and-ends (parts-by x.1 (has-word key.KOf x.1) b) (λ y c. went c))

  data-keeps : {r : ℕ} → Keeps w 0 r (g.data_at n)
  data-keeps us a = and-ends (and-ends (thead-keeps us a) (λ x b. and-sign mark.Equals tt x b)) (λ x b. and-ends (separated-keeps mark.Bar tt (g.con_at n) con-keeps x.1 b) (λ y c. went c))

  datas-keeps : {r : ℕ} → Keeps w 0 r (g.datas_at n)
  datas-keeps {r} us a = and-ends (separated-end (At w 0 r) (after_word key.KAnd) (g.data_at n) (word-opens key.KAnd tt) data-keeps us a) (λ x b. went b)

  abbrev-keeps : {r : ℕ} → Keeps w 0 r (g.abbrev_at n)
  abbrev-keeps us a = and-ends (and-ends (thead-keeps us a) (λ x b. and-sign mark.Equals tt x b)) (λ x b. and-ends (type-keeps n e x.1 b) (λ y c. went c))

  abstype-keeps : {r : ℕ} → Keeps w 0 r g.abstype_at
  abstype-keeps us a = and-ends (thead-keeps us a) (λ x b. went b)

  -- specifications
  val-spec-keeps : {r : ℕ} → Keeps w 0 r (g.val_spec_at n)
  val-spec-keeps us a = and-ends (and-ends (name-keeps us a) (λ x b. and-sign mark.Colon tt x b)) (λ x b. and-ends (type-keeps n e x.1 b) (λ y c. went c))

  relation-spec-keeps : {r : ℕ} → Keeps w 0 r (g.relation_spec_at n)
  relation-spec-keeps us a = and-ends (and-ends (name-keeps us a) (λ x b. and-sign mark.Colon tt x b)) (λ x b. and-ends (sig-keeps n e x.1 b) (λ y c. went c))

  spec-by : {r : ℕ} (us : List Spot) → Opens us → At w 0 r us → Ends w (λ x. Outside w x.1) (g.spec_at n us)
  spec-by us (v.nothing o) a = rw o (unexpected-ends a)
  spec-by us (v.a_datatype {us = vs}) a = outside (datas-keeps vs (over tt a))
  spec-by us (v.a_type {us = vs}) a = outside (abbrev-keeps vs (over tt a))
  spec-by us (v.an_abstype {us = vs}) a = outside (abstype-keeps vs (over tt a))
  spec-by us (v.a_val {us = vs}) a = outside (val-spec-keeps vs (over tt a))
  spec-by us (v.a_relation {us = vs}) a = outside (relation-spec-keeps vs (behind-relation a))
  spec-by us _ a = unexpected-ends a

  -- rules
  results-by : {r : ℕ} (us : List Spot) → Has mark.Arrow us → At w 0 r us → Ends w (λ x. At w 0 r x.1) (g.rule_results_by n us (after mark.Arrow us))
  results-by us (v.there {us = vs}) a = eseq-keeps n e vs (over tt a)
  results-by us (v.lacking o) a = rw o (went a)

  head-keeps : {r : ℕ} → Keeps w 0 r (g.head_at n)
  head-keeps us a = and-ends (name-keeps us a) (λ x b. and-ends (pargs-keeps n e x.1 b) (λ y c. and-ends (results-by y.1 (has mark.Arrow y.1) c) (λ z f. went f)))

  dashes-by : {r : ℕ} {A : Type 0} (x : A) (us : List Spot) → Begins us → At w 0 r us → Ends w (λ y. At w 0 r y.1) (g.then_dashes x us (front_of us))
  dashes-by x us (v.another o) a = rw o (unexpected-ends a)
  dashes-by x us v.a_line a = went (over tt a)
  dashes-by x us _ a = unexpected-ends a

  other-premises : {r : ℕ} (us : List Spot) (f : Front) → (f ≡ front.Dashes → ⊥) → At w 0 r us → Ends w (λ x. At w 0 r x.1) (g.premises_by n us f)
  other-premises us front.Dashes h a = absurd (h refl)
  other-premises us _ h a = and-ends (goals-keeps n e us a) (λ x b. dashes-by x.0 x.1 (begins x.1) b)

  premises-by : {r : ℕ} (us : List Spot) → Begins us → At w 0 r us → Ends w (λ x. At w 0 r x.1) (g.premises_at n us)
  premises-by us (v.another o) a = other-premises us (front_of us) (λ h. cc) a
  premises-by us v.a_line a = went (over tt a)
  premises-by us _ a = other-premises us (front_of us) (λ h. cc) a

  clause-by : {r : ℕ} → r < w.most → (us : List Spot) → Opens us → At w 0 r us → Ends w (λ x. At w 0 (suc r) x.1) (g.clause_at n us)
  clause-by l us (v.nothing o) a = rw o (unexpected-ends a)
  clause-by l us (v.an_axiom {us = vs}) a = and-ends (head-keeps vs (behind-axiom l a)) (λ x b. went b)
  clause-by l us (v.a_rule {us = vs}) a = and-ends (premises-by vs (begins vs) (behind-rule l a)) (λ x b. and-ends (head-keeps x.1 b) (λ y c. went c))
  clause-by l us _ a = unexpected-ends a

  clauses-end : (k : ℕ) {r : ℕ} → r + k ≡ w.most → (us : List Spot) → Opens us → At w 0 r us → Ends w (λ x. Outside w x.1) (g.clauses_at n k us)
  clauses-end k l us (v.nothing o) a = rw (none-begins n k us (rw o refl)) (outside (went a))
  clauses-end zero l us v.a_rule a = rw (no-more n us us refl) (too-many a tt (omega arith))
  clauses-end zero l us v.an_axiom a = rw (no-more n us us refl) (too-many a tt (omega arith))
  clauses-end (suc k) l us v.a_rule a = rw (one-more n k us us refl) (and-ends (clause-by (omega arith) us v.a_rule a) (λ x b. and-ends (clauses-end k (omega arith) x.1 (opens x.1) b) (λ y c. went c)))
  clauses-end (suc k) l us v.an_axiom a = rw (one-more n k us us refl) (and-ends (clause-by (omega arith) us v.an_axiom a) (λ x b. and-ends (clauses-end k (omega arith) x.1 (opens x.1) b) (λ y c. went c)))
  clauses-end k l us _ a = rw (none-begins n k us refl) (outside (went a))

  rules-end : (k : ℕ) → suc k ≡ w.most → (us : List Spot) → At w 0 0 us → Ends w (λ x. Outside w x.1) (g.rules_at n k us)
  rules-end k l us a = and-ends (clause-by (omega arith) us (opens us) a)
      (λ x b. and-ends (and-ends (clauses-end k (omega arith) x.1 (opens x.1) b) (λ y c. outside (and-word key.KEnd tt y c.at))) (λ y c. went c))

  -- declarations
  val-keeps : {r : ℕ} → Keeps w 0 r (g.val_at n)
  val-keeps us a = and-ends (name-keeps us a)
      (λ x b. and-ends (and-ends (optional-by (type_at n) (type-keeps n e) x.1 (has mark.Colon x.1) b) (λ y c. and-sign mark.Equals tt y c)) (λ y c. and-ends (exp-keeps n e y.1 c) (λ z f. went f)))

  relation-end : (k : ℕ) → suc k ≡ w.most → (us : List Spot) → At w 0 0 us → Ends w (λ x. Outside w x.1) (g.relation_at n k us)
  relation-end k l us a = and-ends (name-keeps us a)
      (λ x b. and-ends (and-ends (optional-by (sig_at n) (sig-keeps n e) x.1 (has mark.Colon x.1) b) (λ y c. and-sign mark.Equals tt y c)) (λ y c. and-ends (rules-end k l y.1 c) (λ z f. went f)))

  decl-by : (k : ℕ) → suc k ≡ w.most → {r : ℕ} (us : List Spot) → Opens us → At w 0 r us → Ends w (λ x. Outside w x.1) (g.decl_at n k us)
  decl-by k l us (v.nothing o) a = rw o (unexpected-ends a)
  decl-by k l us (v.a_datatype {us = vs}) a = outside (datas-keeps vs (over tt a))
  decl-by k l us (v.a_type {us = vs}) a = outside (abbrev-keeps vs (over tt a))
  decl-by k l us (v.a_val {us = vs}) a = outside (val-keeps vs (over tt a))
  decl-by k l us (v.a_relation {us = vs}) a = relation-end k l vs (behind-relation a)
  decl-by k l us _ a = unexpected-ends a

  -- texts
  all-specs : (us : List Spot) → Outside w us → Ends w (λ x. Outside w x.1) (repeated g.spec_next (g.spec_at n) us)
  all-specs = repeated-end (Outside w) g.spec_next (g.spec_at n) (λ us vs o a. subst (λ (zs : List Spot). Outside w zs) (spec-stays us vs (opens us) o) a) (λ vs a. spec-by vs (opens vs) a.at)

  all-decls : (k : ℕ) → suc k ≡ w.most → (us : List Spot) → Outside w us → Ends w (λ x. Outside w x.1) (repeated g.decl_next (g.decl_at n k) us)
  all-decls k l = repeated-end (Outside w) g.decl_next (g.decl_at n k) (λ us vs o a. subst (λ (zs : List Spot). Outside w zs) (decl-stays us vs (opens us) o) a) (λ vs a. decl-by k l vs (opens vs) a.at)

  interface-end : {r : ℕ} (us : List Spot) → At w 0 r us → Ends w (λ x. Outside w x.1) (g.interface_at n us)
  interface-end us a = and-ends (outside (all-uses us a)) (λ x b. and-ends (and-ends (all-specs x.1 b) (λ y c. outside (and-word key.KEnd tt y c.at))) (λ y c. went c))

  body-end : (k : ℕ) → suc k ≡ w.most → {r : ℕ} (us : List Spot) → At w 0 r us → Ends w (λ x. Outside w x.1) (g.body_at n k us)
  body-end k l us a = and-ends (outside (all-uses us a)) (λ x b. and-ends (all-decls k l x.1 b) (λ y c. went c))

  text-end : (end : Place) (k : ℕ) → suc k ≡ w.most → {r : ℕ} (us : List Spot) → At w 0 r us → Ends w (λ x. Outside w x.1) (g.text_at end n k us)
  unfolding g.text_at
  text-end end k l us a = and-ends (module-by us (has-word key.KModule us) a) (λ x b. and-ends (interface-end x.1 b) (λ y c. and-ends (body-end k l y.1 c.at) (λ z f. went f)))

  whole-by : (t : Text) (us : List Spot) → Outside w us → Ends w (λ x. Outside w []) (g.whole_by t us)
  whole-by t [] a = went a
  whole-by t (s ∷ us) a = unexpected-ends a.at

  whole-end : (end : Place) (k : ℕ) → suc k ≡ w.most → {r : ℕ} (us : List Spot) → At w 0 r us → Ends w (λ x. Outside w []) (whole_text end n k us)
  unfolding whole_text
  whole-end end k l us a = and-ends (text-end end k l us a) (λ x b. whole-by x.0 x.1 b)

-- what the ends mean
ok-within : {w : Whole} {t : Text} → Ends w (λ (x : Text). Outside w []) (Ok t) → WithinLimits w.depth w.most w.tokens
ok-within {w} (went a) = subst (λ (us : List Spot). WithinLimits w.depth w.most us) (sym (a.at.all ∙ append-nil a.at.front)) a.at.within

fault-stands : {w : Whole} {f : Fault} → Ends w (λ (x : Text). Outside w []) (Err f) → StandsAt w.depth w.most w.tokens f
fault-stands (stopped b) = b

-- a text from its beginning, with these limits
abbrev whole-of : ℕ → ℕ → List Spot → Whole
whole-of n k us = record { tokens = us; depth = n; most = suc k }

text-ends : (end : Place) (n k : ℕ) (us : List Spot) → 0 < n → Ends (whole-of n k us) (λ (x : Text). Outside (whole-of n k us) []) (whole_text end n k us)
text-ends end n k us l = whole-end n (omega arith) l end k refl us (at-start (whole-of n k us))

pub text-within : (end : Place) (n k : ℕ) (us : List Spot) (t : Text) → 0 < n → whole_text end n k us ≡ Ok t → WithinLimits n (suc k) us
text-within end n k us t l e = ok-within (subst (λ (r : Result Text Fault). Ends (whole-of n k us) (λ (x : Text). Outside (whole-of n k us) []) r) e (text-ends end n k us l))

pub fault-at : (end : Place) (n k : ℕ) (us : List Spot) (f : Fault) → 0 < n → whole_text end n k us ≡ Err f → StandsAt n (suc k) us f
fault-at end n k us f l e = fault-stands (subst (λ (r : Result Text Fault). Ends (whole-of n k us) (λ (x : Text). Outside (whole-of n k us) []) r) e (text-ends end n k us l))
