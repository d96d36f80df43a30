-- The entries of a program whose counts agree are ready to be put into clause form: rules are so small that numbers are left.
use Rattle.std.proofs.Common.{◌≡◌, ℕ, ◌-◌, ◌*◌, ◌^◌, ◌<◌, ◌≤◌, Bool, true, false, List, [], ◌∷◌, length, refl, inl, inr, arith}
use Rattle.std.specs.Prelude.{◌&&◌, ◌||◌, ◌==◌, ◌⊎◌, All, nat_lt, nat_le, sum_by, slice_get, slice_index_or}
use Rattle.std.specs.List.{list_all}
use Rattle.std.proofs.lemmas.Bool.{ltb-true, leb-true, eqb-true}
use Rattle.std.proofs.lemmas.List.Sums.{AllPass-from_list_all, list_all-from_AllPass, sum_by-cons}
use Rattle.rml_resolved.specs.declared.limits.TheConstants.{FEW_PARTS, WEIGHT}
use Rattle.rml_resolved.specs.declared.parts.Counts.{Counts}
use Rattle.rml_resolved.specs.declared.tables.ConDef.{ConDef}
use Rattle.rml_resolved.specs.declared.tables.ValDef.{ValDef}
use Rattle.rml_resolved.specs.declared.tables.RelDef.{RelDef}
use Rattle.rml_resolved.specs.declared.tables.RRule.{RRule}
use Rattle.rml_resolved.specs.declared.trees.RExp.{RExp}
use Rattle.rml_resolved.specs.declared.program.Program.{Program}
use Rattle.rml_resolved.specs.Binding.{rule_binds, is_distinct, binds_once, relation_binds_once, uses_bound, relation_uses_bound}
use Rattle.rml_resolved.specs.Fits.{counts_of, exp_fits, rule_fits, relation_fits, val_fits}
use Rattle.rml_resolved.specs.Size.{exp_size, rule_size, rule_is_small, relation_is_small, relation_tokens, weight}
use Rattle.rml_resolved.proofs.Callers.{both, rule_below}
use Rattle.rml_fol.specs.Fits.{Signature, main_fits}
use Rattle.rml_clause.specs.Within.{rule_within}
use Rattle.rml_clause.proofs.Callers.{sum-at, expression-counts, patterns-count}
use Rattle.rml_clauses.specs.Agrees.{shape_of, shape, shapes_of, goal_agrees, rule_agrees, relation_agrees, counts_agree}
use Rattle.rml_clauses.specs.Ready.{IsReady, HasValue}
use Rattle.rml_clauses.proofs.Binding.{IsBinding}
use Rattle.rml_clauses.proofs.Within.{exp-is-within, rule-is-within, vars-few}

pub expressions-count : (es : List RExp) → length es ≤ sum_by exp_size es
expressions-count [] = omega arith
expressions-count (e ∷ es) =
    let one = expression-counts e in
    let r = expressions-count es in
    let s = sum_by-cons exp_size e es in
    omega (arith, one, r, s)

-- ---- rules

either : (a b : Bool) → (a || b) ≡ true → (a ≡ true) ⊎ (b ≡ true)
either true b h = inl refl
either false b h = inr h

-- a rule has at most eight parts for each of its tokens, of which there is one
pub small-rule : (r : RRule) → rule_is_small r ≡ true → (rule_size r ≤ 8 * r.tokens) × (1 ≤ r.tokens)
small-rule r small =
    let two = both (nat_lt 0 r.tokens) (nat_le (rule_size r) r.tokens || nat_le (rule_size r) FEW_PARTS) small in
    let some : 0 < r.tokens = ltb-true 0 r.tokens two.first in
    elim (either (nat_le (rule_size r) r.tokens) (nat_le (rule_size r) FEW_PARTS) two.second) [
      | inl h ↦ (let less : rule_size r ≤ r.tokens = leb-true (rule_size r) r.tokens h in (omega arith, omega arith))
      | inr h ↦ (let less : rule_size r ≤ 8 = leb-true (rule_size r) 8 h in (omega arith, omega arith))
    ]

pub shape-few : (rules : List RRule) (most : ℕ) → ((k : ℕ) (d : RRule) → k < length rules → rule_size (slice_index_or rules k d) ≤ most) → ((shape_of rules).params ≤ most) × ((shape_of rules).results ≤ most)
shape-few [] most h = (omega arith, omega arith)
shape-few (r ∷ rules) most h =
    let one : rule_size r ≤ most = h 0 r (omega arith) in
    (let ins = patterns-count r.inputs in omega (arith, one, ins), let outs = expressions-count r.results in omega (arith, one, outs))

-- what is known of a relation
pub record IsKnown (n : Counts) (cons : List ConDef) (shapes : List Signature) (d : RelDef) : Type 0 where
  pub some : 0 < length d.rules
  pub fit : list_all (rule_fits n cons) d.rules ≡ true
  pub small : relation_is_small d ≡ true
  pub once : relation_binds_once d ≡ true
  pub used : relation_uses_bound d ≡ true
  pub agrees : relation_agrees shapes d ≡ true
  pub light : relation_tokens d < 2 ^ 27

-- and of a rule of it
pub record IsKnownRule (n : Counts) (cons : List ConDef) (shapes : List Signature) (d : RelDef) (r : RRule) : Type 0 where
  pub fit : rule_fits n cons r ≡ true
  pub goals : list_all (goal_agrees shapes) r.goals ≡ true
  pub params : length r.inputs ≡ (shape d).params
  pub results : length r.results ≡ (shape d).results
  pub size : rule_size r ≤ 8 * r.tokens
  pub tokens : 1 ≤ r.tokens
  pub few : r.tokens ≤ relation_tokens d
  pub vars : r.vars ≤ rule_size r

module _ (n : Counts) (cons : List ConDef) (shapes : List Signature) (d : RelDef) (known : IsKnown n cons shapes d) where
  pub known-rule : (k : ℕ) (r : RRule) → k < length d.rules → IsKnownRule n cons shapes d (slice_index_or d.rules k r)
  known-rule k r less =
      let it : RRule = slice_index_or d.rules k r in
      let small = small-rule it (AllPass-from_list_all rule_is_small d.rules known.small k r less) in
      let agrees = both ((length it.inputs == (shape d).params) && (length it.results == (shape d).results)) (list_all (goal_agrees shapes) it.goals) (AllPass-from_list_all (rule_agrees shapes (shape d)) d.rules known.agrees k r less) in
      let counts = both (length it.inputs == (shape d).params) (length it.results == (shape d).results) agrees.first in
      let part = sum-at (λ (x : RRule). x.tokens) d.rules k it r less refl in
      record {
        fit = AllPass-from_list_all (rule_fits n cons) d.rules known.fit k r less;
        goals = agrees.second;
        params = eqb-true (length it.inputs) (shape d).params counts.first;
        results = eqb-true (length it.results) (shape d).results counts.second;
        size = small.0;
        tokens = small.1;
        few = omega (arith, part);
        vars = vars-few it (AllPass-from_list_all binds_once d.rules known.once k r less);
      }

  -- its variables are bound, at one place alone, and used only after it
  pub binding-rule : (k : ℕ) (r : RRule) → k < length d.rules → IsBinding (slice_index_or d.rules k r)
  binding-rule k r less =
      let it : RRule = slice_index_or d.rules k r in
      let fit = AllPass-from_list_all (rule_fits n cons) d.rules known.fit k r less in
      let once = AllPass-from_list_all binds_once d.rules known.once k r less in
      record {
        below = rule_below n cons it fit;
        apart = (both (is_distinct (rule_binds it)) (length (rule_binds it) == it.vars) once).first;
        used = AllPass-from_list_all uses_bound d.rules known.used k r less;
      }

  shape-small : ((shape d).params ≤ 1073741824) × ((shape d).results ≤ 1073741824)
  shape-small = shape-few d.rules 1073741824 (λ k r less. let it = known-rule k r less in omega (arith, it.size, it.few, known.light))

  pub is-ready : IsReady d
  is-ready = record {
    within =
        list_all-from_AllPass (rule_within (2 ^ 32 - (shape d).params)) d.rules
        (λ k r less.
        let it = known-rule k r less in
        rule-is-within n cons (2 ^ 32 - (shape d).params) (slice_index_or d.rules k r) (omega (arith, it.size, it.few, it.vars, known.light, shape-small.0)) it.fit);
    counted = λ k r less. (known-rule k r less).params;
    room = λ k r less. let it = known-rule k r less in omega (arith, it.size, it.few, it.vars, known.light, shape-small.0);
    few_params = omega (arith, shape-small.0);
    few_results = omega (arith, shape-small.1);
    few_tokens = omega (arith, known.light);
  }

-- ---- programs

module _ (p : Program) (agree : counts_agree p ≡ true) where
  abbrev pub counts : Counts
  counts = counts_of p.names p.vals p.rels

  abbrev pub shapes : List Signature
  shapes = shapes_of p.rels

  agreeing : list_all (relation_agrees shapes) p.rels ≡ true
  agreeing = (both (list_all (relation_agrees shapes) p.rels) (main_fits p.gives (slice_get shapes p.main)) agree).first

  pub weight-small : weight p.vals p.rels < 2 ^ 27
  weight-small = ltb-true (weight p.vals p.rels) WEIGHT p.light

  pub is-known : (k : ℕ) (d : RelDef) → k < length p.rels → IsKnown counts p.cons shapes (slice_index_or p.rels k d)
  is-known k d less =
      let it : RelDef = slice_index_or p.rels k d in
      let fits = both _ (list_all (rule_fits counts p.cons) it.rules) (AllPass-from_list_all (relation_fits counts p.types p.cons) p.rels p.relations_fit k d less) in
      let some = both _ (nat_lt 0 (length it.rules)) fits.first in
      let part = sum-at relation_tokens p.rels k it d less refl in
      record {
        some = ltb-true 0 (length it.rules) some.second;
        fit = fits.second;
        small = AllPass-from_list_all relation_is_small p.rels p.rules_small k d less;
        once = AllPass-from_list_all relation_binds_once p.rels p.bound_once k d less;
        used = AllPass-from_list_all relation_uses_bound p.rels p.used_after k d less;
        agrees = AllPass-from_list_all (relation_agrees shapes) p.rels agreeing k d less;
        light = omega (arith, part, weight-small);
      }

  pub all-ready : All IsReady p.rels
  all-ready k d less = is-ready counts p.cons shapes (slice_index_or p.rels k d) (is-known k d less)

pub val-fits : (p : Program) (k : ℕ) (d : ValDef) → k < length p.vals → exp_fits (counts_of p.names p.vals p.rels) p.cons 0 (slice_index_or p.vals k d).value ≡ true
val-fits p k d less =
    let it : ValDef = slice_index_or p.vals k d in
    (both _ (exp_fits (counts_of p.names p.vals p.rels) p.cons 0 it.value) (AllPass-from_list_all (val_fits (counts_of p.names p.vals p.rels) p.types p.cons) p.vals p.vals_fit k d less)).second

pub all-valued : (p : Program) → All HasValue p.vals
all-valued p k d less =
    record { within = exp-is-within (counts_of p.names p.vals p.rels) p.cons 0 (2 ^ 32 - 0) (omega arith) (slice_index_or p.vals k d).value (val-fits p k d less) }
