-- Tables in clause form that were made of a program: their vals are worth what the program's are, its rules are short, and so each relation
-- carries the one of its number.
use Rattle.std.proofs.Common.{◌≡◌, ℕ, zero, suc, ◌+◌, ◌*◌, ◌≤◌, Bool, true, false, List, [], ◌∷◌, map, length, Option, Some, None, refl, sym, subst, ◌∙◌, inl, inr, arith, IsTrue}
use Rattle.std.specs.Prelude.{◌⊎◌, ◌||◌, fold, max, nat_lt, nat_le, slice_get, option_map, option_and_then}
use Rattle.std.specs.List.{list_all, concat}
use Rattle.std.proofs.lemmas.Bool.{leb-true, ltb-true}
use Rattle.std.proofs.lemmas.List.{length-map}
use Rattle.std.proofs.lemmas.List.Sums.{fold-append}
use Rattle.std.proofs.lemmas.Option.{same_Some, slice_get-map}
use Rattle.rml_base.specs.Light.{Light, NoWrong}
use Rattle.rml_value.specs.declared.value.Value.{Value}
use Rattle.rml_terms.specs.Evaluating.{vals_to, vals_of}
use Rattle.rml_terms.proofs.Callers.{Worth, worth_at}
use Rattle.rml_resolved.specs.declared.limits.TheConstants.{FEW_PARTS, PRELUDE_TOKENS}
use Rattle.rml_resolved.specs.declared.program.Program.{Program}
use Rattle.rml_resolved.specs.declared.tables.ValDef.{ValDef}
use Rattle.rml_resolved.specs.declared.tables.RelDef.{RelDef}
use Rattle.rml_resolved.specs.declared.tables.RRule.{RRule}
use Rattle.rml_resolved.specs.Fits.{counts_of, rule_fits, relation_fits}
use Rattle.rml_resolved.specs.Size.{rule_size, rule_is_small, relation_is_small, tokens_of, longest}
use Rattle.rml_resolved.specs.Typing.{is_main}
use Rattle.rml_resolved.proofs.Callers.{both}
use Rattle.rml_search.specs.Values.{meaning, meaning_of_val, val_of}
use Rattle.rml_search.specs.Whole.{context_of}
use Rattle.rml_search.specs.Runs as searched
use Rattle.rml_fol.specs.declared.parts.Parts.{Parts}
use Rattle.rml_fol.specs.declared.parts.Relation.{Relation}
use Rattle.rml_fol.specs.declared.parts.Val.{Val}
use Rattle.rml_fol.specs.declared.statements.Alternative.{Alternative}
use Rattle.rml_fol.specs.declared.terms.Expression.{Expression}
use Rattle.rml_fol.specs.Expressions.{Vals, value_of, values_of_vals}
use Rattle.rml_fol.specs.Runs.{runs_of}
use Rattle.rml_clause.specs.Plain.{expression_of, AreRules}
use Rattle.rml_clause.specs.Narrow.{rule_has_few, relation_has_few, EachShort}
use Rattle.rml_clause.specs.Made.{IsMadeOf, IsClausesOf, ClausesAt, AreClausesOf}
use Rattle.rml_clause.specs.Carries.{EachCarries, FirstCarries, AreCarried}
use Rattle.rml_clause.proofs.Environments.{Stands}
use Rattle.rml_clause.proofs.Terms.{expression_worth}
use Rattle.rml_clause.proofs.Premises.{counts_matched}
use Rattle.rml_clause.proofs.Rules.{counts_from, made_earns, made_keeps}
use Rattle.rml_clause.proofs.Narrowness.{short_is_narrow}
use Rattle.rml_clause.proofs.Carried.{carried_light}

-- ---- vals

nothing_stands : Stands 0 0 [] [] []
nothing_stands = record { same = λ x. tt; free = λ x within none. refl; awaited = tt }

module _ (names : List (List ℕ)) (vals : List ValDef) where
  abbrev made_value : ValDef → Expression
  made_value d = expression_of names 0 d.value

  val_worth : (old new : Vals) → ((k : ℕ) → Worth (old k) (new k)) → (o : Option ValDef)
      → Worth (option_and_then (λ (d : ValDef). meaning names old d.value []) o) (option_and_then (λ (e : Expression). value_of new e []) (option_map made_value o))
  val_worth old new agree None = tt
  val_worth old new agree (Some d) = expression_worth 0 0 names old new agree d.value [] [] [] nothing_stands

  vals_worth : (depth k : ℕ) → Worth (vals_to (meaning_of_val names) vals depth k) (vals_to value_of (map made_value vals) depth k)
  vals_worth zero k = tt
  vals_worth (suc depth) k =
      subst (λ (o : Option Expression). Worth (vals_to (meaning_of_val names) vals (suc depth) k) (option_and_then (λ (e : Expression). value_of (vals_to value_of (map made_value vals) depth) e []) o))
      (sym (slice_get-map made_value vals k))
      (val_worth (vals_to (meaning_of_val names) vals depth) (vals_to value_of (map made_value vals) depth) (vals_worth depth) (slice_get vals k))

  vals_same : (made : List Val) → map (λ (v : Val). v.value) made ≡ map made_value vals → (k : ℕ) (v : Value) → val_of names vals k ≡ Some v → values_of_vals made k ≡ Some v
  vals_same made e k v is =
      let count : length (map made_value vals) ≡ length vals = length-map vals made_value in
      let worth : Worth (val_of names vals k) (vals_to value_of (map made_value vals) (length (map made_value vals)) k) =
      subst (λ (n : ℕ). Worth (val_of names vals k) (vals_to value_of (map made_value vals) n k)) (sym count) (vals_worth (length vals) k) in
      subst (λ (es : List Expression). vals_of value_of es k ≡ Some v) (sym e) (worth_at (val_of names vals k) (vals_of value_of (map made_value vals) k) v worth is)

-- ---- the longest rule

max_from : (a : ℕ) (xs : List ℕ) → a ≤ fold max a xs
max_from a [] = omega arith
max_from a (x ∷ xs) = let more : max a x ≤ fold max (max a x) xs = max_from (max a x) xs in omega arith

-- no rule has more tokens
abbrev pub EachUpTo : ℕ → List RRule → Type 0
EachUpTo most [] = Unit {0}
EachUpTo most (r ∷ rules) = (r.tokens ≤ most) × EachUpTo most rules

up_to_more : (a b : ℕ) (rules : List RRule) → a ≤ b → EachUpTo a rules → EachUpTo b rules
up_to_more a b [] le h = tt
up_to_more a b (r ∷ rules) le h = (let less : r.tokens ≤ a = h.0 in omega arith, up_to_more a b rules le h.1)

up_to_max : (a : ℕ) (rules : List RRule) → EachUpTo (fold max a (map (λ (r : RRule). r.tokens) rules)) rules
up_to_max a [] = tt
up_to_max a (r ∷ rules) = (let more : max a r.tokens ≤ fold max (max a r.tokens) (map (λ (r : RRule). r.tokens) rules) = max_from (max a r.tokens) (map (λ (r : RRule). r.tokens) rules) in omega arith, up_to_max (max a r.tokens) rules)

up_to_longest : (a : ℕ) (rels : List RelDef) (k : ℕ) (r : RelDef) → slice_get rels k ≡ Some r → EachUpTo (fold max a (concat (map tokens_of rels))) r.rules
up_to_longest a [] k r is = absurd (cc)
up_to_longest a (x ∷ rels) zero r is =
    let here : x ≡ r = same_Some x r is in
    let rest = concat (map tokens_of rels) in
    subst (λ (n : ℕ). EachUpTo n r.rules) (sym (fold-append max a (tokens_of x) rest))
    (subst (λ (y : RelDef). EachUpTo (fold max (fold max a (tokens_of x)) rest) y.rules) here
    (up_to_more (fold max a (tokens_of x)) (fold max (fold max a (tokens_of x)) rest) x.rules (max_from (fold max a (tokens_of x)) rest) (up_to_max a x.rules)))
up_to_longest a (x ∷ rels) (suc k) r is =
    subst (λ (n : ℕ). EachUpTo n r.rules) (sym (fold-append max a (tokens_of x) (concat (map tokens_of rels)))) (up_to_longest (fold max a (tokens_of x)) rels k r is)

pub up_to : (rels : List RelDef) (k : ℕ) (r : RelDef) → slice_get rels k ≡ Some r → EachUpTo (longest rels) r.rules
unfolding longest
up_to rels k r is = up_to_longest 0 rels k r is

-- ---- short rules

either_holds : (a b : Bool) → IsTrue (a || b) → IsTrue a ⊎ IsTrue b
either_holds true b h = inl refl
either_holds false b h = inr h

small_rule : (r : RRule) (most : ℕ) → IsTrue (rule_is_small r) → r.tokens ≤ most → 40 ≤ most → 16 * rule_size r + 64 ≤ 16 * most + 64
small_rule r most small le long =
    let two = both (nat_lt 0 r.tokens) (nat_le (rule_size r) r.tokens || nat_le (rule_size r) FEW_PARTS) small in
    elim (either_holds (nat_le (rule_size r) r.tokens) (nat_le (rule_size r) FEW_PARTS) two.second) [
      | inl h ↦ (let less : rule_size r ≤ r.tokens = leb-true (rule_size r) r.tokens h in omega arith)
      | inr h ↦ (let less : rule_size r ≤ 8 = leb-true (rule_size r) 8 h in omega arith)
    ]

shorts : {names : List (List ℕ)} {params : ℕ} {rules : List RRule} {alternatives : List Alternative} → AreRules names params rules alternatives → (most : ℕ) → 40 ≤ most → IsTrue (list_all rule_is_small rules) → IsTrue (list_all rule_has_few rules) → EachUpTo most rules
    → EachShort params (16 * most + 64) rules
shorts AreRules.none most long small few le = tt
shorts {names} {params} (AreRules.more r rules a alternatives plain others) most long small few le =
    let smalls = both (rule_is_small r) (list_all rule_is_small rules) small in
    let fews = both (rule_has_few r) (list_all rule_has_few rules) few in
    (record { inputs = counts_matched plain.matched ∙ counts_from 0 params; few = fews.first; small = small_rule r most smalls.first le.0 long }, shorts others most long smalls.second fews.second le.1)

-- ---- relations

pub passes_at : {X : Type 0} (test : X → Bool) (xs : List X) (k : ℕ) (x : X) → IsTrue (list_all test xs) → slice_get xs k ≡ Some x → IsTrue (test x)
passes_at test [] k x h is = absurd (cc)
passes_at test (y ∷ ys) zero x h is = subst (λ (z : _). IsTrue (test z)) (same_Some y x is) (both (test y) (list_all test ys) h).first
passes_at test (y ∷ ys) (suc k) x h is = passes_at test ys k x (both (test y) (list_all test ys) h).second is

module _ (p : Program) (q : Parts) (few : IsTrue (list_all relation_has_few p.rels)) (made : AreClausesOf p q) where
  abbrev vals : Vals
  vals = values_of_vals q.vals

  pub is_made : (k : ℕ) (old : RelDef) (new : Relation) → slice_get p.rels k ≡ Some old → IsClausesOf p.names old.rules new → IsMadeOf (context_of p) vals (counts_of p.names p.vals p.rels) p.cons old.rules new
  is_made k old new is clauses =
      let counts = counts_of p.names p.vals p.rels in
      let fits = both _ (list_all (rule_fits counts p.cons) old.rules) (passes_at (relation_fits counts p.types p.cons) p.rels k old p.relations_fit is) in
      let some = both _ (nat_lt 0 (length old.rules)) fits.first in
      let long : 40 ≤ longest p.rels = leb-true PRELUDE_TOKENS (longest p.rels) p.long_rule in
      record {
        some = ltb-true 0 (length old.rules) some.second;
        fit = fits.second;
        plain = clauses.plain;
        fresh = clauses.fresh;
        vals_agree = vals_same p.names p.vals q.vals made.vals;
        narrow = short_is_narrow p.names new.params (16 * longest p.rels + 64) old.rules
            (shorts clauses.plain.each (longest p.rels) long (passes_at relation_is_small p.rels k old p.rules_small is) (passes_at relation_has_few p.rels k old few is) (up_to p.rels k old is));
      }

  each_carries : (k : ℕ) (o : Option RelDef) (w : Option Relation) → slice_get p.rels k ≡ o → ClausesAt p.names o w → EachCarries (context_of p) vals o w
  each_carries k None None e h = tt
  each_carries k (Some old) (Some new) e h = made_keeps (context_of p) vals (counts_of p.names p.vals p.rels) p.cons old.rules new (is_made k old new e h)
  each_carries k None (Some new) e h = absurd h
  each_carries k (Some old) None e h = absurd h

  first_carries : (k : ℕ) (o : Option RelDef) (w : Option Relation) → slice_get p.rels k ≡ o → IsTrue (is_main p.gives o) → ClausesAt p.names o w → FirstCarries (context_of p) vals o w
  first_carries k (Some old) (Some new) e there h = made_earns (context_of p) vals (counts_of p.names p.vals p.rels) p.cons old.rules new (is_made k old new e h)
  first_carries k None w e there h = absurd (cc)
  first_carries k (Some old) None e there h = absurd h

  all_carried : AreCarried p q
  all_carried = record {
    main = made.main;
    each = λ r. each_carries r (slice_get p.rels r) (slice_get q.rels r) refl (made.each r);
    first = first_carries p.main (slice_get p.rels p.main) (slice_get q.rels p.main) refl p.main_fits (made.each p.main);
  }

pub made_light : (p : Program) (q : Parts) → NoWrong (searched.runs_of p) → IsTrue (list_all relation_has_few p.rels) → AreClausesOf p q → Light (searched.runs_of p) (runs_of q)
made_light p q right few made = carried_light p q right (all_carried p q few made)
