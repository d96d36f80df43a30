-- What stands in a declaration is at most four deep for each bracket that may open in it, and six.
use Rattle.std.proofs.Common.{◌≡◌, ℕ, zero, suc, ◌+◌, ◌*◌, ◌-◌, ◌<◌, ◌≤◌, List, [], ◌∷◌, length, refl, arith, Option, Some, None, Ok}
use Rattle.std.specs.Prelude.{All}
use Rattle.std.specs.List.{flat_map}
use Rattle.std.proofs.Math.Nat.{max-le}
use Rattle.std.proofs.lemmas.List.Concat.{flat_map-cons}
use Rattle.std.proofs.lemmas.List.Elements.{All-append, All-cons, All-head, All-nil, All-tail}
use Rattle.rml_base.specs.declared.place.Place.{Place}
use Rattle.rml_syntax.specs.declared.token.Spot.{Spot}
use Rattle.rml_syntax.specs.declared.token.Key.TheVariants as key
use Rattle.rml_syntax.specs.declared.token.Mark.TheVariants as mark
use Rattle.rml_syntax.specs.declared.rules.Goal.{Goal}
use Rattle.rml_syntax.specs.declared.rules.Rule.{Rule}
use Rattle.rml_syntax.specs.declared.types.ConBind.{ConBind}
use Rattle.rml_syntax.specs.declared.types.DataBind.{DataBind}
use Rattle.rml_syntax.specs.declared.types.Sig.{Sig}
use Rattle.rml_syntax.specs.declared.types.TypeExp.{TypeExp}
use Rattle.rml_syntax.specs.declared.texts.Decl.{Decl}
use Rattle.rml_syntax.specs.declared.texts.Text.{Text}
use Rattle.rml_syntax.specs.declared.texts.Uses.{Uses}
use Rattle.rml_grammar.specs.declared.front.Front.{Front}
use Rattle.rml_grammar.specs.declared.front.Front.TheVariants as front
use Rattle.rml_grammar.specs.declared.front.Opening.{Opening}
use Rattle.rml_grammar.specs.declared.front.Opening.TheVariants as opening
use Rattle.rml_grammar.specs.Tokens.{after, after_word, front_of, opening_of, rest_of}
use Rattle.rml_grammar.specs.Reading.{◌>>=◌, Parser, before, name_at, repeated, separated}
use Rattle.rml_grammar.specs.Patterns.{pargs_at}
use Rattle.rml_grammar.specs.Expressions.{exp_at}
use Rattle.rml_grammar.specs.Goals.{goals_at}
use Rattle.rml_grammar.specs.Types.{sig_at, tatom_at, type_at}
use Rattle.rml_grammar.specs.Texts.{abbrev_at, abstype_at, body_at, clause_at, clause_by, clause_next, clauses_at, con_at, data_at, datas_at, decl_at, decl_by, decl_next, head_at, interface_at, module_at, optional_by, parts_by, premises_at, premises_by, relation_at, relation_spec_at, rule_results_at, rule_results_by, rules_at, spec_at, spec_by, spec_next, text_at, thead_at, then_dashes, uses_at, uses_next, val_at, val_spec_at, whole_by, whole_text}
use Rattle.rml_grammar.specs.Depths.{constructor_depth, decl_depth, depth_or_none, goal_depth, rule_depth, sig_depth, type_depth}
use Rattle.rml_grammar.specs.Limits.{WithinLimits}
use Rattle.rml_grammar.specs.Sizes.{declarations}
use Rattle.rml_grammar.specs.SpelledTexts.{Derives}
use Rattle.rml_grammar.specs.Trees.{Head, rule_of}
use Rattle.rml_grammar.proofs.Holds.{Holds, and-holds}
use Rattle.rml_grammar.proofs.Levels.{clauses_full, clauses_none, clauses_one, text_is, whole_is}
use Rattle.rml_grammar.proofs.Depths.{Always, Gives, Whatever, and-gives, anything, before-gives, deepest-at-most, repeated-gives, separated-gives}
use Rattle.rml_grammar.proofs.DepthsExpressions as e
use Rattle.rml_grammar.proofs.DepthsExpressions.{eseq-at-deep, exp-deep, exps-at-most}
use Rattle.rml_grammar.proofs.DepthsPatterns as p
use Rattle.rml_grammar.proofs.DepthsPatterns.{pargs-at-deep, patterns-at-most}
use Rattle.rml_grammar.proofs.DepthsGoals as g
use Rattle.rml_grammar.proofs.DepthsGoals.{goals-deep}
use Rattle.rml_grammar.proofs.DepthsTypes as t
use Rattle.rml_grammar.proofs.DepthsTypes.{sig-deep, tatom-at-deep, type-deep}
use Rattle.rml_grammar.proofs.LimitsLaws.{large, within-read}

-- no deeper than that
abbrev pub AtMost : ℕ → Decl → Type 0
AtMost k d = decl_depth d ≤ k

abbrev RuleAtMost : ℕ → Rule → Type 0
RuleAtMost k r = rule_depth r ≤ k

abbrev ConAtMost : ℕ → ConBind → Type 0
ConAtMost k c = constructor_depth c ≤ k

record HeadAtMost (k : ℕ) (h : Head) : Type 0 where
  inputs : All (p.AtMost k) h.1
  results : All (e.AtMost k) h.2

rule-at-most : (k n : ℕ) (at : Place) (gs : List Goal) (h : Head) → All (g.AtMost k) gs → HeadAtMost k h → RuleAtMost k (rule_of at gs h n)
rule-at-most k n at gs h x y = max-le (patterns-at-most k h.1 y.inputs) (max-le (deepest-at-most k goal_depth gs x) (exps-at-most k h.2 y.results))

abbrev cons_of : DataBind → List ConBind
cons_of d = d.cons

abbrev DataAtMost : ℕ → DataBind → Type 0
DataAtMost k d = All (ConAtMost k) d.cons

all-cons : (k : ℕ) (ds : List DataBind) → All (DataAtMost k) ds → All (ConAtMost k) (flat_map cons_of ds)
all-cons k [] h = All-nil (ConAtMost k)
all-cons k (d ∷ ds) h = rw (flat_map-cons cons_of d ds) (All-append (ConAtMost k) d.cons (flat_map cons_of ds) (All-head (DataAtMost k) d ds h) (all-cons k ds (All-tail (DataAtMost k) d ds h)))

-- what is read of a declaration where n brackets may open
module _ (n : ℕ) where
  abbrev most : ℕ
  most = 4 * n + 6

  results-by : (us : List Spot) (o : Option (List Spot)) → Gives (All (e.AtMost (3 * n + 3))) (rule_results_by n us o)
  results-by us None = All-nil (e.AtMost (3 * n + 3))
  results-by us (Some vs) = eseq-at-deep n vs

  head-deep : Always (HeadAtMost most) (head_at n)
  head-deep us = and-gives Whatever (HeadAtMost most) (name_at us) _ (anything (name_at us))
      (λ x u. and-gives (All (p.AtMost (1 + 4 * n))) (HeadAtMost most) (pargs_at n x.1) _ (pargs-at-deep n x.1)
      (λ y h. and-gives (All (e.AtMost (3 * n + 3))) (HeadAtMost most) (rule_results_at n y.1) _ (results-by y.1 (after mark.Arrow y.1))
      (λ z i. record { inputs = p.deeper (1 + 4 * n) most y.0 (omega arith) h; results = e.deeper (3 * n + 3) most z.0 (omega arith) i })))

  dashes-deep : (gs : List Goal) (us : List Spot) (f : Front) → All (g.AtMost most) gs → Gives (All (g.AtMost most)) (then_dashes gs us f)
  dashes-deep gs us front.Dashes h = h
  dashes-deep gs us f h = tt

  some-premises : (us : List Spot) → Gives (All (g.AtMost most)) (goals_at n us >>= λ gs. then_dashes gs.0 gs.1 (front_of gs.1))
  some-premises us = and-gives (All (g.AtMost most)) (All (g.AtMost most)) (goals_at n us) _ (goals-deep n us) (λ x h. dashes-deep x.0 x.1 (front_of x.1) h)

  premises-by : (us : List Spot) (f : Front) → Gives (All (g.AtMost most)) (premises_by n us f)
  premises-by us front.Dashes = All-nil (g.AtMost most)
  premises-by us f = some-premises us

  clause-by : (us : List Spot) (o : Opening) → Gives (RuleAtMost most) (clause_by n us o)
  clause-by us (opening.Axiom at) = and-gives (HeadAtMost most) (RuleAtMost most) (head_at n (rest_of us)) _ (head-deep (rest_of us)) (λ x h. rule-at-most most (length us - length x.1) at [] x.0 (All-nil (g.AtMost most)) h)
  clause-by us (opening.Rule at) = and-gives (All (g.AtMost most)) (RuleAtMost most) (premises_at n (rest_of us)) _ (premises-by (rest_of us) (front_of (rest_of us)))
      (λ x h. and-gives (HeadAtMost most) (RuleAtMost most) (head_at n x.1) _ (head-deep x.1) (λ y i. rule-at-most most (length us - length y.1) at x.0 y.0 h i))
  clause-by us o = tt

  clause-deep : Always (RuleAtMost most) (clause_at n)
  clause-deep us = clause-by us (opening_of us)

  clauses-by : (k : ℕ) (us : List Spot) (o : Option (List Spot)) → clause_next us ≡ o → ((vs : List Spot) → Gives (All (RuleAtMost most)) (clauses_at n k vs)) → Gives (All (RuleAtMost most)) (clauses_at n (suc k) us)
  clauses-by k us None e again = rw (clauses_none n (suc k) us e) (All-nil (RuleAtMost most))
  clauses-by k us (Some vs) e again = rw (clauses_one n k us vs e) (and-gives (RuleAtMost most) (All (RuleAtMost most)) (clause_at n vs) _ (clause-deep vs)
      (λ x h. and-gives (All (RuleAtMost most)) (All (RuleAtMost most)) (clauses_at n k x.1) _ (again x.1) (λ y i. All-cons (RuleAtMost most) x.0 y.0 h i)))

  no-clauses : (us : List Spot) (o : Option (List Spot)) → clause_next us ≡ o → Gives (All (RuleAtMost most)) (clauses_at n 0 us)
  no-clauses us None e = rw (clauses_none n 0 us e) (All-nil (RuleAtMost most))
  no-clauses us (Some vs) e = rw (clauses_full n us vs e) tt

  clauses-deep : (k : ℕ) → Always (All (RuleAtMost most)) (clauses_at n k)
  clauses-deep zero us = no-clauses us (clause_next us) refl
  clauses-deep (suc k) us = clauses-by k us (clause_next us) refl (λ vs. clauses-deep k vs)

  rules-deep : (k : ℕ) → Always (All (RuleAtMost most)) (rules_at n k)
  rules-deep k us = and-gives (RuleAtMost most) (All (RuleAtMost most)) (clause_at n us) _ (clause-deep us)
      (λ x h. and-gives (All (RuleAtMost most)) (All (RuleAtMost most)) (clauses_at n k x.1 >>= before (after_word key.KEnd)) _
      (before-gives (All (RuleAtMost most)) (after_word key.KEnd) (clauses_at n k x.1) (clauses-deep k x.1)) (λ y i. All-cons (RuleAtMost most) x.0 y.0 h i))

  -- datatypes
  parts-by : (us : List Spot) (o : Option (List Spot)) → Gives (All (t.AtMost (2 + 3 * n))) (parts_by n us o)
  parts-by us None = All-nil (t.AtMost (2 + 3 * n))
  parts-by us (Some vs) = separated-gives (t.AtMost (2 + 3 * n)) (tatom_at n) (tatom-at-deep n) (after mark.Star) vs

  con-deep : Always (ConAtMost most) (con_at n)
  con-deep us = and-gives Whatever (ConAtMost most) (name_at us) _ (anything (name_at us))
      (λ x u. and-gives (All (t.AtMost (2 + 3 * n))) (ConAtMost most) (parts_by n x.1 (after_word key.KOf x.1)) _ (parts-by x.1 (after_word key.KOf x.1))
      (λ y h. (let d = t.types-at-most (2 + 3 * n) y.0 h in omega arith)))

  data-deep : Always (DataAtMost most) (data_at n)
  data-deep us = and-gives Whatever (DataAtMost most) (thead_at us >>= before (after mark.Equals)) _ (anything (thead_at us >>= before (after mark.Equals)))
      (λ x u. and-gives (All (ConAtMost most)) (DataAtMost most) (separated (after mark.Bar) (con_at n) x.1) _ (separated-gives (ConAtMost most) (con_at n) con-deep (after mark.Bar) x.1) (λ y h. h))

  datas-deep : Always (AtMost most) (datas_at n)
  datas-deep us = and-gives (All (DataAtMost most)) (AtMost most) (separated (after_word key.KAnd) (data_at n) us) _ (separated-gives (DataAtMost most) (data_at n) data-deep (after_word key.KAnd) us)
      (λ x h. deepest-at-most most constructor_depth (flat_map cons_of x.0) (all-cons most x.0 h))

  abbrev-deep : Always (AtMost most) (abbrev_at n)
  abbrev-deep us = and-gives Whatever (AtMost most) (thead_at us >>= before (after mark.Equals)) _ (anything (thead_at us >>= before (after mark.Equals)))
      (λ x u. and-gives (t.AtMost (3 + 3 * n)) (AtMost most) (type_at n x.1) _ (type-deep n x.1) (λ y h. omega arith))

  -- the parts of an interface
  abstype-deep : Always (AtMost most) abstype_at
  abstype-deep us = and-gives Whatever (AtMost most) (thead_at us) _ (anything (thead_at us)) (λ x u. omega arith)

  val-spec-deep : Always (AtMost most) (val_spec_at n)
  val-spec-deep us = and-gives Whatever (AtMost most) (name_at us >>= before (after mark.Colon)) _ (anything (name_at us >>= before (after mark.Colon)))
      (λ x u. and-gives (t.AtMost (3 + 3 * n)) (AtMost most) (type_at n x.1) _ (type-deep n x.1) (λ y h. max-le (omega arith) (omega arith)))

  relation-spec-deep : Always (AtMost most) (relation_spec_at n)
  relation-spec-deep us = and-gives Whatever (AtMost most) (name_at us >>= before (after mark.Colon)) _ (anything (name_at us >>= before (after mark.Colon)))
      (λ x u. and-gives (t.SigAtMost (3 + 3 * n)) (AtMost most) (sig_at n x.1) _ (sig-deep n x.1) (λ y h. max-le (omega arith) (omega arith)))

  spec-by : (us : List Spot) (o : Opening) → Gives (AtMost most) (spec_by n us o)
  spec-by us opening.Datatype = datas-deep (rest_of us)
  spec-by us opening.Type = abbrev-deep (rest_of us)
  spec-by us opening.Abstype = abstype-deep (rest_of us)
  spec-by us opening.Val = val-spec-deep (rest_of us)
  spec-by us opening.Relation = relation-spec-deep (rest_of us)
  spec-by us o = tt

  -- the parts of a body
  optional-deep : {A : Type 0} (k : ℕ) (depth : A → ℕ) (q : Parser A) (us : List Spot) (o : Option (List Spot)) → Always (λ x. depth x ≤ k) q → Gives (λ x. depth_or_none depth x ≤ k) (optional_by q us o)
  optional-deep k depth q us None h = omega arith
  optional-deep k depth q us (Some vs) h = and-gives (λ x. depth x ≤ k) (λ x. depth_or_none depth x ≤ k) (q vs) _ (h vs) (λ x i. i)

  abbrev TypeThere : Option TypeExp → Type 0
  TypeThere x = depth_or_none type_depth x ≤ 3 + 3 * n

  abbrev SigThere : Option Sig → Type 0
  SigThere x = depth_or_none sig_depth x ≤ 3 + 3 * n

  val-deep : Always (AtMost most) (val_at n)
  val-deep us = and-gives Whatever (AtMost most) (name_at us) _ (anything (name_at us))
      (λ x u. and-gives TypeThere (AtMost most) (optional_by (type_at n) x.1 (after mark.Colon x.1) >>= before (after mark.Equals)) _
      (before-gives TypeThere (after mark.Equals) (optional_by (type_at n) x.1 (after mark.Colon x.1)) (optional-deep (3 + 3 * n) type_depth (type_at n) x.1 (after mark.Colon x.1) (type-deep n)))
      (λ y h. and-gives (e.AtMost (3 * n + 3)) (AtMost most) (exp_at n y.1) _ (exp-deep n y.1) (λ z i. max-le (omega arith) (omega arith))))

  relation-deep : (k : ℕ) → Always (AtMost most) (relation_at n k)
  relation-deep k us = and-gives Whatever (AtMost most) (name_at us) _ (anything (name_at us))
      (λ x u. and-gives SigThere (AtMost most) (optional_by (sig_at n) x.1 (after mark.Colon x.1) >>= before (after mark.Equals)) _
      (before-gives SigThere (after mark.Equals) (optional_by (sig_at n) x.1 (after mark.Colon x.1)) (optional-deep (3 + 3 * n) sig_depth (sig_at n) x.1 (after mark.Colon x.1) (sig-deep n)))
      (λ y h. and-gives (All (RuleAtMost most)) (AtMost most) (rules_at n k y.1) _ (rules-deep k y.1) (λ z i. max-le (omega arith) (deepest-at-most most rule_depth z.0 i))))

  decl-by : (k : ℕ) (us : List Spot) (o : Opening) → Gives (AtMost most) (decl_by n k us o)
  decl-by k us opening.Datatype = datas-deep (rest_of us)
  decl-by k us opening.Type = abbrev-deep (rest_of us)
  decl-by k us opening.Val = val-deep (rest_of us)
  decl-by k us opening.Relation = relation-deep k (rest_of us)
  decl-by k us o = tt

  -- both halves of a text
  HalfAtMost : List Uses × List Decl → Type 0
  HalfAtMost x = All (AtMost most) x.1

  interface-deep : Always HalfAtMost (interface_at n)
  unfolding HalfAtMost
  interface-deep us = and-gives Whatever HalfAtMost (repeated uses_next uses_at us) _ (anything (repeated uses_next uses_at us))
      (λ x u. and-gives (All (AtMost most)) HalfAtMost (repeated spec_next (spec_at n) x.1 >>= before (after_word key.KEnd)) _
      (before-gives (All (AtMost most)) (after_word key.KEnd) (repeated spec_next (spec_at n) x.1) (repeated-gives (AtMost most) (spec_at n) (λ vs. spec-by vs (opening_of vs)) spec_next x.1)) (λ y h. h))

  body-deep : (k : ℕ) → Always HalfAtMost (body_at n k)
  unfolding HalfAtMost
  body-deep k us = and-gives Whatever HalfAtMost (repeated uses_next uses_at us) _ (anything (repeated uses_next uses_at us))
      (λ x u. and-gives (All (AtMost most)) HalfAtMost (repeated decl_next (decl_at n k) x.1) _ (repeated-gives (AtMost most) (decl_at n k) (λ vs. decl-by k vs (opening_of vs)) decl_next x.1) (λ y h. h))

  TextAtMost : Text → Type 0
  TextAtMost x = All (AtMost most) (declarations x)

  text-deep : (end : Place) (k : ℕ) → Always TextAtMost (text_at end n k)
  unfolding HalfAtMost TextAtMost
  text-deep end k us = rw (text_is end n k us) (and-gives Whatever TextAtMost (module_at us) _ (anything (module_at us))
      (λ m u. and-gives HalfAtMost TextAtMost (interface_at n m.1) _ (interface-deep m.1)
      (λ i h. and-gives HalfAtMost TextAtMost (body_at n k i.1) _ (body-deep k i.1) (λ b j. All-append (AtMost most) i.0.1 b.0.1 h j))))

  whole-by : (x : Text) (us : List Spot) → TextAtMost x → Holds TextAtMost (whole_by x us)
  whole-by x [] h = h
  whole-by x (s ∷ us) h = tt

  whole-deep : (end : Place) (k : ℕ) (us : List Spot) → Holds TextAtMost (whole_text end n k us)
  whole-deep end k us = rw (whole_is end n k us) (and-holds (λ x. TextAtMost x.0) TextAtMost (text_at end n k us) _ (text-deep end k us) (λ x h. whole-by x.0 x.1 h))

  read-deep : (end : Place) (k : ℕ) (us : List Spot) (x : Text) → whole_text end n k us ≡ Ok x → TextAtMost x
  read-deep end k us x e = rw e at (whole-deep end k us)

-- rules are no limit here
pub derived-deep : (end : Place) (n m : ℕ) (us : List Spot) (x : Text) → 0 < n → WithinLimits n m us → Derives end us x → All (λ d. decl_depth d ≤ 4 * n + 6) (declarations x)
unfolding TextAtMost
derived-deep end n m us x lt w d =
    let k = length us in
    let within : WithinLimits n (suc k) us = record { brackets = w.brackets; rules = (large k (suc k) us (omega arith) (omega arith)).rules } in
    read-deep n end k us x (within-read end n k us x lt within d)
