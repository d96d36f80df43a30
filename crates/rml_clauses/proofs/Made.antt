-- Tables that were made of a program whose counts agree are made of its rules, and call built-ins for at most one result.
use Rattle.std.proofs.Common.{◌≡◌, ℕ, zero, suc, ◌+◌, ◌<◌, ◌≤◌, Bool, true, List, [], ◌∷◌, ◌++◌, map, length, get_or, take, Option, Some, None, refl, sym, ap, subst, ◌∙◌, arith, IsTrue}
use Rattle.std.specs.Prelude.{◌&&◌, ◌==◌, slice_get}
use Rattle.std.specs.List.{list_all}
use Rattle.std.proofs.lemmas.Bool.{eqb-true, le-leb}
use Rattle.std.proofs.lemmas.List.{take_more}
use Rattle.rml_base.specs.Light.{Light, NoWrong}
use Rattle.rml_builtin.specs.declared.row.TheConstants.{ROWS}
use Rattle.rml_resolved.specs.declared.program.Program.{Program}
use Rattle.rml_resolved.specs.declared.tables.ValDef.{ValDef}
use Rattle.rml_resolved.specs.declared.tables.RelDef.{RelDef}
use Rattle.rml_resolved.specs.declared.tables.RRule.{RRule}
use Rattle.rml_resolved.specs.declared.trees.Callee.TheVariants as called
use Rattle.rml_resolved.specs.declared.trees.RGoal.{RGoal, map-RGoal, roll-RGoal, fold-roll-RGoal, ind-RGoal}
use Rattle.rml_resolved.specs.declared.trees.RGoal.TheOpen.{RGoal-F}
use Rattle.rml_resolved.proofs.Callers.{both}
use Rattle.rml_search.specs.Runs as searched
use Rattle.rml_fol.specs.declared.parts.Parts.{Parts}
use Rattle.rml_fol.specs.declared.parts.Relation.{Relation}
use Rattle.rml_fol.specs.declared.parts.Val.{Val}
use Rattle.rml_fol.specs.declared.terms.Expression.{Expression}
use Rattle.rml_fol.specs.Fits.{Signature, main_fits}
use Rattle.rml_fol.specs.Runs.{runs_of}
use Rattle.rml_fol.proofs.Callers.{row-few}
use Rattle.rml_clause.specs.Plain.{expression_of}
use Rattle.rml_clause.specs.Narrow.{few_results_at, few_results, rule_has_few, relation_has_few}
use Rattle.rml_clause.specs.Made.{ClausesAt, AreClausesOf}
use Rattle.rml_clause.proofs.Callers.{is_made, made, made_light}
use Rattle.rml_clauses.specs.Agrees.{shape, shapes_of, goal_agrees_at, goal_agrees, rule_agrees, relation_agrees, counts_agree}
use Rattle.rml_clauses.specs.Paths.{AreNarrow}
use Rattle.rml_clauses.specs.Tables.{val_of, IsRelationOf, AreRelationsOf, AreTablesOf}
use Rattle.rml_clauses.proofs.Rows.{every-more, row-more}

-- ---- entry by entry

clauses-at : (names : List (List ℕ)) (ds : List RelDef) (rs : List Relation) → AreRelationsOf names ds rs → (k : ℕ) → ClausesAt names (slice_get ds k) (slice_get rs k)
clauses-at names [] [] h k = tt
clauses-at names [] (r ∷ rs) h k = absurd h
clauses-at names (d ∷ ds) [] h k = absurd h
clauses-at names (d ∷ ds) (r ∷ rs) h zero = made names d.rules r r.vars h.0.clauses
clauses-at names (d ∷ ds) (r ∷ rs) h (suc k) = clauses-at names ds rs h.1 k

values-made : (names : List (List ℕ)) (ds : List ValDef) → map (λ (v : Val). v.value) (map (val_of names) ds) ≡ map (λ (v : ValDef). expression_of names 0 v.value) ds
values-made names [] = refl
values-made names (d ∷ ds) = ap (λ (es : List Expression). expression_of names 0 d.value ∷ es) (values-made names ds)

are-clauses : (p : Program) (q : Parts) → AreTablesOf p q → AreClausesOf p q
are-clauses p q h = record {
  main = h.main;
  vals = ap (λ (vs : List Val). map (λ (v : Val). v.value) vs) h.vals ∙ values-made p.names p.vals;
  each = clauses-at p.names p.rels q.rels h.rels;
}

-- a turn of the loop over relations
relations-last : (names : List (List ℕ)) (ds : List RelDef) (rs : List Relation) (d : RelDef) (r : Relation) → AreRelationsOf names ds rs → IsRelationOf names d r → AreRelationsOf names (ds ++ d ∷ []) (rs ++ r ∷ [])
relations-last names [] [] d r h i = (i, tt)
relations-last names [] (x ∷ rs) d r h i = absurd h
relations-last names (e ∷ ds) [] d r h i = absurd h
relations-last names (e ∷ ds) (x ∷ rs) d r h i = (h.0, relations-last names ds rs d r h.1 i)

pub relations-more : (names : List (List ℕ)) (defs : List RelDef) (i : ℕ) (d x : RelDef) (r : Relation) (so_far later : List Relation) → i < length defs → d ≡ get_or defs i x → IsRelationOf names d r
    → AreRelationsOf names (take i defs) so_far → later ≡ so_far ++ r ∷ [] → AreRelationsOf names (take (i + 1) defs) later
relations-more names defs i d x r so_far later less is one h pushed =
    subst (λ (ds : List RelDef). AreRelationsOf names ds later) (sym (take_more defs i x less ∙ ap (λ (z : RelDef). take i defs ++ z ∷ []) (sym is)))
    (subst (λ (rs : List Relation). AreRelationsOf names (take i defs ++ d ∷ []) rs) (sym pushed) (relations-last names (take i defs) so_far d r h one))

-- ---- no built-in has more than one result

module _ (shapes : List Signature) where
  abbrev HasFew : RGoal → Type 0
  HasFew g = goal_agrees shapes g ≡ true → few_results g ≡ true

  few-rolled : (y : RGoal-F RGoal) → (goal_agrees_at shapes (map-RGoal RGoal Bool (goal_agrees shapes) y) ≡ true → few_results_at (map-RGoal RGoal Bool few_results y) ≡ true) → HasFew (roll-RGoal y)
  few-rolled y f h = fold-roll-RGoal Bool few_results_at y ∙ f (sym (fold-roll-RGoal Bool (goal_agrees_at shapes) y) ∙ h)

  few-layer : (y : RGoal-F ((x : RGoal) × HasFew x)) → HasFew (roll-RGoal (map-RGoal ((x : RGoal) × HasFew x) RGoal (λ e. e.0) y))
  few-layer (RGoal-F.Call (called.Rel r) es ps) = few-rolled (RGoal-F.Call (called.Rel r) es ps) (λ h. refl)
  few-layer (RGoal-F.Call (called.Built k) es ps) =
      few-rolled (RGoal-F.Call (called.Built k) es ps) (λ h. le-leb (length ps) 1 (row-few (slice_get ROWS k) (length es) (length ps) h))
  few-layer (RGoal-F.Call (called.Var x) es ps) = few-rolled (RGoal-F.Call (called.Var x) es ps) (λ h. refl)
  few-layer (RGoal-F.Call (called.Val k) es ps) = few-rolled (RGoal-F.Call (called.Val k) es ps) (λ h. refl)
  few-layer (RGoal-F.Equal a b) = few-rolled (RGoal-F.Equal a b) (λ h. refl)
  few-layer (RGoal-F.Let p e) = few-rolled (RGoal-F.Let p e) (λ h. refl)
  few-layer (RGoal-F.Not e) = few-rolled (RGoal-F.Not e.0) e.1
  few-layer (RGoal-F.All gs) = few-rolled (RGoal-F.All (map (λ e. e.0) gs)) (every-more (goal_agrees shapes) few_results gs)

  goal-few : (g : RGoal) → HasFew g
  goal-few = ind-RGoal HasFew (λ x y is. subst (λ z. HasFew (roll-RGoal z)) is (few-layer y))

  rule-few : (s : Signature) (r : RRule) → rule_agrees shapes s r ≡ true → rule_has_few r ≡ true
  rule-few s r h =
      let two = both ((length r.inputs == s.params) && (length r.results == s.results)) (list_all (goal_agrees shapes) r.goals) h in
      row-more (goal_agrees shapes) few_results goal-few r.goals two.second

  relation-few : (d : RelDef) → relation_agrees shapes d ≡ true → relation_has_few d ≡ true
  relation-few d = row-more (rule_agrees shapes (shape d)) rule_has_few (rule-few (shape d)) d.rules

relations-few : (p : Program) → counts_agree p ≡ true → list_all relation_has_few p.rels ≡ true
relations-few p agree =
    let two = both (list_all (relation_agrees (shapes_of p.rels)) p.rels) (main_fits p.gives (slice_get (shapes_of p.rels) p.main)) agree in
    row-more (relation_agrees (shapes_of p.rels)) relation_has_few (relation-few (shapes_of p.rels)) p.rels two.first

-- ---- what the tables mean

pub tables-light : (p : Program) (q : Parts) → NoWrong (searched.runs_of p) → IsTrue (counts_agree p) → AreTablesOf p q → Light (searched.runs_of p) (runs_of q)
tables-light p q right agree h = made_light p q right (relations-few p agree) (are-clauses p q h)

-- a path weighs no more than a step of the search
pub tables-narrow : (p : Program) (q : Parts) → IsTrue (counts_agree p) → AreTablesOf p q → AreNarrow p q
tables-narrow p q agree h =
    let clauses = are-clauses p q h in
    record {
      at = λ r old new is there.
          (is_made p q (relations-few p agree) clauses r old new is
          (subst (λ (w : Option Relation). ClausesAt p.names (Some old) w) there (subst (λ (o : Option RelDef). ClausesAt p.names o (slice_get q.rels r)) is (clauses.each r)))).narrow;
    }
