-- The relation of a built-in that is named as a value has the built-in's type.
use Rattle.std.proofs.Common.{◌≡◌, ℕ, suc, List, [], ◌∷◌, ◌++◌, length, map, get_or, Option, Some, refl, sym, subst, ap, ◌∙◌, append_assoc, arith}
use Rattle.std.specs.Prelude.{IsTrue, option_map, slice_get}
use Rattle.std.proofs.lemmas.List.{append-nil, get_or_at, length-append}
use Rattle.rml_types.specs.declared.scheme.Scheme.{Scheme}
use Rattle.rml_types.specs.declared.tree.SchemeTree.{SchemeTree, out-SchemeTree, out-roll-SchemeTree}
use Rattle.rml_types.specs.declared.tree.SchemeTree.TheOpen.{SchemeTree-F}
use Rattle.rml_types.specs.declared.tree.SchemeTree.TheVariants as tree
use Rattle.rml_types.specs.declared.tree.SchemeTree.TheVariants.{rolls-Rel}
use Rattle.rml_types.specs.Schemes.{unit}
use Rattle.rml_types.proofs.Callers.{body-instance}
use Rattle.rml_builtin.specs.declared.row.Row.{Row}
use Rattle.rml_builtin.specs.declared.row.TheConstants.{ROWS}
use Rattle.rml_builtin.specs.Table.{inputs_of, outputs_of, type_of}
use Rattle.rml_resolved.specs.declared.parts.Parts.{Parts}
use Rattle.rml_resolved.specs.declared.tables.RelDef.{RelDef}
use Rattle.rml_resolved.specs.declared.tables.RRule.{RRule}
use Rattle.rml_resolved.specs.declared.trees.RPat.TheVariants as pattern
use Rattle.rml_resolved.specs.declared.trees.RExp.TheVariants as exp
use Rattle.rml_resolved.specs.declared.trees.Callee.TheVariants as callee
use Rattle.rml_resolved.specs.declared.trees.RGoal.TheVariants as goal
use Rattle.rml_resolved.specs.Beginning.{types_begin}
use Rattle.rml_typed.specs.Own.{own}
use Rattle.rml_typed.specs.Typed.{Assigned, Declared, Uses, HasInstance, PatternOf, PatternsOf, ExpOf, ExpsOf, GoalOf, GoalsOf}
use Rattle.rml_typed.specs.Parts.{RelType, RuleTyped, sides}
use Rattle.rml_typed.specs.Units.{alone, declared, declared_type, DeclaredTyped}
use Rattle.rml_typed.specs.BuiltIns.{CallsBuiltIn, numbers}
use Rattle.rml_typed.proofs.BuiltInTypes.{own-row}
use Rattle.rml_typed.proofs.Wholes.{rule-typed}

-- each variable has the type of its number
abbrev by_number : List SchemeTree → Assigned
by_number all x = get_or all x unit

-- one more type has been passed
next-all : (all pre : List SchemeTree) (t : SchemeTree) (ts post : List SchemeTree) → all ≡ pre ++ (t ∷ ts ++ post) → all ≡ (pre ++ t ∷ []) ++ (ts ++ post)
next-all all pre t ts post e = e ∙ sym (append_assoc pre (t ∷ []) (ts ++ post))

next-length : (pre : List SchemeTree) (t : SchemeTree) (n : ℕ) → length pre ≡ n → length (pre ++ t ∷ []) ≡ suc n
next-length pre t n e = omega (arith, length-append pre (t ∷ []))

here : (all pre : List SchemeTree) (t : SchemeTree) (ts post : List SchemeTree) (n : ℕ) → length pre ≡ n → all ≡ pre ++ (t ∷ ts ++ post) → get_or all n unit ≡ t
here all pre t ts post n e f = ap (λ l. get_or l n unit) f ∙ get_or_at pre t (ts ++ post) unit n e

patterns-by-number : (d : Declared) (n : ℕ) (all pre ts post : List SchemeTree) → length pre ≡ n → all ≡ pre ++ (ts ++ post) → PatternsOf d (by_number all) (map pattern.Var (numbers n (length ts))) ts
patterns-by-number d n all pre [] post e f = PatternsOf.none
patterns-by-number d n all pre (t ∷ ts) post e f =
    PatternsOf.more (pattern.Var n) t (map pattern.Var (numbers (suc n) (length ts))) ts
    (subst (PatternOf d (by_number all) (pattern.Var n)) (here all pre t ts post n e f) (PatternOf.var n))
    (patterns-by-number d (suc n) all (pre ++ t ∷ []) ts post (next-length pre t n e) (next-all all pre t ts post f))

exps-by-number : (d : Declared) (uses : Uses) (n : ℕ) (all pre ts post : List SchemeTree) → length pre ≡ n → all ≡ pre ++ (ts ++ post) → ExpsOf d uses (by_number all) (map exp.Var (numbers n (length ts))) ts
exps-by-number d uses n all pre [] post e f = ExpsOf.none
exps-by-number d uses n all pre (t ∷ ts) post e f =
    ExpsOf.more (exp.Var n) t (map exp.Var (numbers (suc n) (length ts))) ts
    (subst (ExpOf d uses (by_number all) (exp.Var n)) (here all pre t ts post n e f) (ExpOf.var n))
    (exps-by-number d uses (suc n) all (pre ++ t ∷ []) ts post (next-length pre t n e) (next-all all pre t ts post f))

module _ (d : Declared) (uses : Uses) (number : ℕ) (row : Row) (rule : RRule) (at : slice_get ROWS number ≡ Some row) (calls : CallsBuiltIn number row rule) where
  abbrev G : Assigned
  G = by_number (inputs_of row ++ outputs_of row)

  call : GoalsOf d uses G (goal.Call (callee.Built number) (map exp.Var (numbers 0 (length (inputs_of row)))) (map pattern.Var (numbers (length (inputs_of row)) (length (outputs_of row)))) ∷ [])
  call =
      GoalsOf.more (goal.Call (callee.Built number) (map exp.Var (numbers 0 (length (inputs_of row)))) (map pattern.Var (numbers (length (inputs_of row)) (length (outputs_of row))))) []
      (GoalOf.call (callee.Built number) (map exp.Var (numbers 0 (length (inputs_of row)))) (map pattern.Var (numbers (length (inputs_of row)) (length (outputs_of row)))) (inputs_of row) (outputs_of row)
      (subst (λ (o : Option Row). HasInstance (option_map type_of o) (tree.Rel (inputs_of row) (outputs_of row))) (sym at) (body-instance (type_of row)))
      (exps-by-number d uses 0 (inputs_of row ++ outputs_of row) [] (inputs_of row) (outputs_of row) refl refl)
      (patterns-by-number d (length (inputs_of row)) (inputs_of row ++ outputs_of row) (inputs_of row) (outputs_of row) [] refl (ap (λ x. inputs_of row ++ x) (sym (append-nil (outputs_of row))))))
      GoalsOf.none

  pub built-in-typed : RuleTyped d uses (record { inputs = inputs_of row; outputs = outputs_of row }) rule
  built-in-typed =
      rule-typed d uses (record { inputs = inputs_of row; outputs = outputs_of row }) G rule
      (subst (λ ps. PatternsOf d G ps (inputs_of row)) (sym calls.inputs) (patterns-by-number d 0 (inputs_of row ++ outputs_of row) [] (inputs_of row) (outputs_of row) refl refl))
      (subst (λ gs. GoalsOf d uses G gs) (sym calls.goals) call)
      (subst (λ es. ExpsOf d uses G es (outputs_of row)) (sym calls.results)
      (exps-by-number d uses (length (inputs_of row)) (inputs_of row ++ outputs_of row) (inputs_of row) (outputs_of row) [] refl (ap (λ x. inputs_of row ++ x) (sym (append-nil (outputs_of row))))))

sides-of : (us ws : List SchemeTree) → sides (out-SchemeTree (tree.Rel us ws)) ≡ record { inputs = us; outputs = ws }
sides-of us ws = ap sides (ap out-SchemeTree (sym (rolls-Rel us ws)) ∙ out-roll-SchemeTree (SchemeTree-F.Rel us ws))

pub built-in-declared : (p : Parts) (rel : RelDef) (s : Scheme) (rule : RRule) (number : ℕ) (row : Row)
    → IsTrue (types_begin p.names p.types) → slice_get ROWS number ≡ Some row → s.body ≡ type_of row → CallsBuiltIn number row rule → DeclaredTyped p rel s rule
built-in-declared p rel s rule number row begins at is calls =
    let reads : own p.types rel.«module» s.body ≡ type_of row = ap (own p.types rel.«module») is ∙ own-row p.names p.types rel.«module» row begins in
    let held : declared_type p rel s ≡ record { inputs = inputs_of row; outputs = outputs_of row } = ap (λ t. sides (out-SchemeTree t)) reads ∙ sides-of (inputs_of row) (outputs_of row) in
    subst (λ (k : RelType). RuleTyped (declared p rel.«module») (alone p rel.place.text rel.«module») k rule) (sym held)
    (built-in-typed (declared p rel.«module») (alone p rel.place.text rel.«module») number row rule at calls)
