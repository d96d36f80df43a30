-- The rules of a typed program's relations have the relations' types, and a relation type fixes how many values are taken and given.
use Rattle.std.proofs.Common.{◌≡◌, ℕ, suc, ◌<◌, Bool, true, false, List, [], ◌∷◌, map, length, Option, Some, refl, sym, ap, subst, ◌∙◌, arith, eq-eqb}
use Rattle.std.specs.Prelude.{◌&&◌, ◌==◌, if◌then◌else◌, nat_lt, option_map, slice_get}
use Rattle.std.specs.List.{Contains, list_all}
use Rattle.std.proofs.lemmas.Bool.{ltb-true}
use Rattle.std.proofs.lemmas.List.{length-map}
use Rattle.std.proofs.lemmas.List.Elements.{Contains-append_right}
use Rattle.std.proofs.lemmas.Option.{slice_get-get_or, slice_get-map}
use Rattle.rml_types.specs.declared.tree.SchemeTree.{SchemeTree}
use Rattle.rml_types.specs.declared.tree.SchemeTree.TheVariants as tree
use Rattle.rml_types.specs.Schemes.{inst}
use Rattle.rml_types.proofs.Callers.{inst-Rel}
use Rattle.rml_builtin.specs.declared.row.Row.{Row}
use Rattle.rml_builtin.specs.declared.row.TheConstants.{ROWS}
use Rattle.rml_builtin.specs.Table.{inputs_of, outputs_of, type_of}
use Rattle.rml_builtin.specs.Types.{list, string}
use Rattle.rml_resolved.specs.declared.parts.Parts.{Parts}
use Rattle.rml_resolved.specs.declared.program.Program.{Program}
use Rattle.rml_resolved.specs.declared.tables.RelDef.{RelDef}
use Rattle.rml_resolved.specs.declared.tables.RRule.{RRule}
use Rattle.rml_resolved.specs.declared.trees.RExp.{RExp}
use Rattle.rml_resolved.specs.declared.trees.RPat.{RPat}
use Rattle.rml_resolved.specs.declared.trees.Callee.{Callee}
use Rattle.rml_resolved.specs.declared.trees.Callee.TheVariants as callee
use Rattle.rml_resolved.specs.declared.trees.RGoal.{RGoal, fold-roll-RGoal}
use Rattle.rml_resolved.specs.declared.trees.RGoal.TheOpen.{RGoal-F}
use Rattle.rml_resolved.specs.declared.trees.RGoal.TheVariants as goal
use Rattle.rml_resolved.specs.Facts.{tables_of}
use Rattle.rml_resolved.specs.Fits.{counts_of, rule_fits}
use Rattle.rml_resolved.specs.Typing.{scheme_fits}
use Rattle.rml_resolved.proofs.Callers.{both}
use Rattle.rml_typed.specs.Typed.{Assigned, CalleeOf, Declared, ExpsOf, GoalOf, GoalsOf, PatternsOf, Uses}
use Rattle.rml_typed.specs.Units.{declared}
use Rattle.rml_typed.specs.Checked.{IsTyped}
use Rattle.rml_fol.specs.Fits.{Signature, main_fits, row_takes_and_gives, takes_and_gives}
use Rattle.rml_clauses.specs.Agrees.{callee_agrees, goal_agrees, goal_agrees_at, relation_agrees, rule_agrees, shape, shape_of, shapes_of}
use Rattle.rml_clauses.specs.Meaning.{HasMeaning}
use Rattle.rml_sound.specs.Full.{Reads}
use Rattle.rml_sound.specs.Values.{RelationHas}
use Rattle.rml_sound.proofs.Callers.{by-rules, given, has-relation, main-relation-has, never-wrong, relation-fits, relation-has, rule-has, same-inputs, same-outputs, scheme-at, UsesHave}

-- ---- as many

patterns-many : (d : Declared) (G : Assigned) (ps : List RPat) (ts : List SchemeTree) → PatternsOf d G ps ts → length ps ≡ length ts
patterns-many d G ps ts PatternsOf.none = refl
patterns-many d G ps ts (PatternsOf.more q t qs us h k) = ap suc (patterns-many d G qs us k)

expressions-many : (d : Declared) (uses : Uses) (G : Assigned) (es : List RExp) (ts : List SchemeTree) → ExpsOf d uses G es ts → length es ≡ length ts
expressions-many d uses G es ts ExpsOf.none = refl
expressions-many d uses G es ts (ExpsOf.more e t fs us h k) = ap suc (expressions-many d uses G fs us k)

all-pass : {X : Type 0} (test : X → Bool) (xs : List X) → ((x : X) → Contains xs x → test x ≡ true) → list_all test xs ≡ true
all-pass test [] each = refl
all-pass test (x ∷ xs) each =
    let first : test x ≡ true = each x (0, omega arith, refl) in
    let rest : list_all test xs ≡ true = all-pass test xs (λ y among. each y (Contains-append_right (x ∷ []) xs y among)) in
    rw (first, rest) refl

two-pass : (a b : Bool) → a ≡ true → b ≡ true → (a && b) ≡ true
two-pass a b e f = rw (e, f) refl

module _ (p : Program) (typed : IsTyped (tables_of p)) where
  abbrev P : Parts
  P = tables_of p

  abbrev shapes : List Signature
  shapes = shapes_of p.rels

  -- each rule takes and gives so many
  abbrev Counted : ℕ → ℕ → RelDef → Type 0
  Counted taken given rel = (rule : RRule) → Contains rel.rules rule → (length rule.inputs ≡ taken) × (length rule.results ≡ given)

  -- the rules of a relation that has types are as many of each
  rules-counted : (r : ℕ) (ins outs : List SchemeTree) → RelationHas P r ins outs → (rel : RelDef) × (slice_get p.rels r ≡ Some rel) × Counted (length ins) (length outs) rel
  rules-counted r ins outs has =
      by-rules p typed (Counted (length ins) (length outs)) r ins outs has
      (λ text reads rd uses used k rel there each takes gives rule among.
      let t = rule-has (declared P text) uses k rule (each rule among) in (
        patterns-many (declared P text) t.G rule.inputs k.inputs t.inputs ∙ sym (length-map k.inputs reads) ∙ ap (λ (ts : List SchemeTree). length ts) takes,
        expressions-many (declared P text) uses t.G rule.results k.outputs t.outputs ∙ sym (length-map k.outputs reads) ∙ ap (λ (ts : List SchemeTree). length ts) gives,
      ))

  shape-of : (taken given : ℕ) (rules : List RRule) → 0 < length rules → ((rule : RRule) → Contains rules rule → (length rule.inputs ≡ taken) × (length rule.results ≡ given))
      → shape_of rules ≡ record { params = taken; results = given }
  shape-of taken given [] some each = absurd (omega arith)
  shape-of taken given (rule ∷ rules) some each = let e = each rule (0, omega arith, refl) in rw (e.0, e.1) refl

  has-rules : (r : ℕ) (rel : RelDef) → slice_get p.rels r ≡ Some rel → 0 < length rel.rules
  has-rules r rel there =
      let fits = relation-fits p r rel there in
      let rules = list_all (rule_fits (counts_of p.names p.vals p.rels) p.cons) rel.rules in
      let named = nat_lt rel.«module» (length p.names) && nat_lt rel.name (length p.names) in
      let four = both (named && scheme_fits p.types rel.scheme && nat_lt 0 (length rel.rules)) rules fits in
      ltb-true 0 (length rel.rules) (both (named && scheme_fits p.types rel.scheme) (nat_lt 0 (length rel.rules)) four.first).second

  -- so its shape is that
  shape-is : (r : ℕ) (ins outs : List SchemeTree) → RelationHas P r ins outs → slice_get shapes r ≡ Some (record { params = length ins; results = length outs })
  shape-is r ins outs has =
      let c = rules-counted r ins outs has in
      slice_get-map shape p.rels r ∙ ap (option_map shape) c.1 ∙ ap (λ (s : Signature). Some s) (shape-of (length ins) (length outs) c.0.rules (has-rules r c.0 c.1) c.2)

  taken-and-given : (taken given : ℕ) (o : Option Signature) → o ≡ Some (record { params = taken; results = given }) → takes_and_gives taken given o ≡ true
  taken-and-given taken given o is = ap (takes_and_gives taken given) is ∙ two-pass (taken == taken) (given == given) (eq-eqb taken taken refl) (eq-eqb given given refl)

  -- ---- calls

  module _ (text : ℕ) (reads : SchemeTree → SchemeTree) (rd : Reads p.types text reads) (uses : Uses) (used : UsesHave p reads uses) (G : Assigned) where
    row-agrees : (taken given : ℕ) (o : Option Row) (row : Row) → o ≡ Some row → length (inputs_of row) ≡ taken → length (outputs_of row) ≡ given → row_takes_and_gives taken given o ≡ true
    row-agrees taken given o row is e f =
        ap (row_takes_and_gives taken given) is ∙ two-pass (length (inputs_of row) == taken) (length (outputs_of row) == given) (eq-eqb (length (inputs_of row)) taken e) (eq-eqb (length (outputs_of row)) given f)

    callee-agrees : (f : Callee) (us ws : List SchemeTree) → CalleeOf (declared P text) uses G f (tree.Rel us ws) → callee_agrees shapes (length us) (length ws) f ≡ true
    callee-agrees (callee.Rel r) us ws h =
        taken-and-given (length us) (length ws) (slice_get shapes r)
        (shape-is r (map reads us) (map reads ws) (relation-has p text reads rd uses used r us ws h)
        ∙ ap (λ (n : ℕ). Some (record { params = n; results = length (map reads ws) })) (length-map us reads) ∙ ap (λ (n : ℕ). Some (record { params = length us; results = n })) (length-map ws reads))
    callee-agrees (callee.Built k) us ws h =
        let s = scheme-at type_of (slice_get ROWS k) (tree.Rel us ws) h in
        let row : Row = s.0 in
        let whole : tree.Rel us ws ≡ tree.Rel (map (inst s.2) (inputs_of row)) (map (inst s.2) (outputs_of row)) = s.3 ∙ inst-Rel s.2 (inputs_of row) (outputs_of row) in
        row-agrees (length us) (length ws) (slice_get ROWS k) row s.1
        (sym (ap (λ (ts : List SchemeTree). length ts) (same-inputs _ _ _ _ whole) ∙ length-map (inputs_of row) (inst s.2)))
        (sym (ap (λ (ts : List SchemeTree). length ts) (same-outputs _ _ _ _ whole) ∙ length-map (outputs_of row) (inst s.2)))
    callee-agrees (callee.Var x) us ws h = refl
    callee-agrees (callee.Val k) us ws h = refl

    mutual
      goal-agrees : (g : RGoal) → GoalOf (declared P text) uses G g → goal_agrees shapes g ≡ true
      goal-agrees g (GoalOf.call f es ps us ws fh eh ph) =
          ap (goal_agrees shapes) (sym (goal.rolls-Call f es ps)) ∙ fold-roll-RGoal Bool (goal_agrees_at shapes) (RGoal-F.Call f es ps)
          ∙ ap (λ (n : ℕ). callee_agrees shapes n (length ps) f) (expressions-many (declared P text) uses G es us eh) ∙ ap (λ (n : ℕ). callee_agrees shapes (length us) n f) (patterns-many (declared P text) G ps ws ph)
          ∙ callee-agrees f us ws fh
      goal-agrees g (GoalOf.equal a b t ah bh) = ap (goal_agrees shapes) (sym (goal.rolls-Equal a b)) ∙ fold-roll-RGoal Bool (goal_agrees_at shapes) (RGoal-F.Equal a b)
      goal-agrees g (GoalOf.define q e t qh eh) = ap (goal_agrees shapes) (sym (goal.rolls-Let q e)) ∙ fold-roll-RGoal Bool (goal_agrees_at shapes) (RGoal-F.Let q e)
      goal-agrees g (GoalOf.negate x h) = ap (goal_agrees shapes) (sym (goal.rolls-Not x)) ∙ fold-roll-RGoal Bool (goal_agrees_at shapes) (RGoal-F.Not x) ∙ goal-agrees x h
      goal-agrees g (GoalOf.all gs h) =
          ap (goal_agrees shapes) (sym (goal.rolls-All gs)) ∙ fold-roll-RGoal Bool (goal_agrees_at shapes) (RGoal-F.All gs) ∙ goals-agree gs h

      goals-agree : (gs : List RGoal) → GoalsOf (declared P text) uses G gs → list_all (λ (b : Bool). b) (map (goal_agrees shapes) gs) ≡ true
      goals-agree gs GoalsOf.none = refl
      goals-agree gs (GoalsOf.more g hs h k) = two-pass (goal_agrees shapes g) (list_all (λ (b : Bool). b) (map (goal_agrees shapes) hs)) (goal-agrees g h) (goals-agree hs k)

  every-is : (test : RGoal → Bool) (gs : List RGoal) → list_all (λ (b : Bool). b) (map test gs) ≡ list_all test gs
  every-is test [] = refl
  every-is test (g ∷ gs) = ap (λ (b : Bool). test g && b) (every-is test gs)

  -- ---- rules, and all of it

  -- what is in a list stands at a number
  has-number : (rels : List RelDef) (rel : RelDef) → Contains rels rel → (r : ℕ) × (slice_get rels r ≡ Some rel)
  has-number rels rel among = (among.0, slice_get-get_or rels among.0 rel among.1 ∙ ap (λ (x : RelDef). Some x) among.2)

  relation-agrees : (rel : RelDef) → Contains p.rels rel → relation_agrees shapes rel ≡ true
  relation-agrees rel among =
      let at = has-number p.rels rel among in
      let has = has-relation p typed at.0 rel at.1 in
      let ins = has.0 in
      let outs = has.1 in
      let counted = rules-counted at.0 ins outs has.2 in
      let b = by-rules p typed (λ other. (rule : RRule) → Contains other.rules rule → rule_agrees shapes (record { params = length ins; results = length outs }) rule ≡ true) at.0 ins outs has.2
      (λ text reads rd uses used k other there each takes gives rule in_rules.
      let t = rule-has (declared P text) uses k rule (each rule in_rules) in
      let n : length rule.inputs ≡ length ins = patterns-many (declared P text) t.G rule.inputs k.inputs t.inputs ∙ sym (length-map k.inputs reads) ∙ ap (λ (ts : List SchemeTree). length ts) takes in
      let m : length rule.results ≡ length outs = expressions-many (declared P text) uses t.G rule.results k.outputs t.outputs ∙ sym (length-map k.outputs reads) ∙ ap (λ (ts : List SchemeTree). length ts) gives in
      two-pass ((length rule.inputs == length ins) && (length rule.results == length outs)) (list_all (goal_agrees shapes) rule.goals)
      (two-pass (length rule.inputs == length ins) (length rule.results == length outs) (eq-eqb (length rule.inputs) (length ins) n) (eq-eqb (length rule.results) (length outs) m))
      (sym (every-is (goal_agrees shapes) rule.goals) ∙ goals-agree text reads rd uses used t.G rule.goals t.goals)) in
      let same : b.0 ≡ rel = (let e = b.1 in let f = at.1 in cc) in
      let here : counted.0 ≡ rel = (let e = counted.1 in let f = at.1 in cc) in
      let shape-here : shape rel ≡ record { params = length ins; results = length outs } =
      shape-of (length ins) (length outs) rel.rules (has-rules at.0 rel at.1) (subst (Counted (length ins) (length outs)) here counted.2) in
      subst (λ (s : Signature). list_all (rule_agrees shapes s) rel.rules ≡ true) (sym shape-here)
      (all-pass (rule_agrees shapes (record { params = length ins; results = length outs })) rel.rules
      (subst (λ (other : RelDef). (rule : RRule) → Contains other.rules rule → rule_agrees shapes (record { params = length ins; results = length outs }) rule ≡ true) same b.2))

  given-many : (gives : Bool) → length (given gives) ≡ (if gives then 1 else 0)
  given-many true = refl
  given-many false = refl

  main-agrees : main_fits p.gives (slice_get shapes p.main) ≡ true
  main-agrees =
      taken-and-given 1 (if p.gives then 1 else 0) (slice_get shapes p.main)
      (shape-is p.main (list string ∷ []) (given p.gives) (main-relation-has p) ∙ ap (λ (n : ℕ). Some (record { params = 1; results = n })) (given-many p.gives))

pub has-meaning : (p : Program) → IsTyped (tables_of p) → HasMeaning p
has-meaning p typed = record {
  never_wrong = never-wrong p typed;
  agrees = two-pass (list_all (relation_agrees (shapes p typed)) p.rels) (main_fits p.gives (slice_get (shapes p typed) p.main)) (all-pass (relation_agrees (shapes p typed)) p.rels (relation-agrees p typed)) (main-agrees p typed);
}
