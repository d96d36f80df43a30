-- Tables that are typed: `same x => x` of type `'a => 'a`; `there x => x` where `back x => y`, and `back x => x`, which declare no
-- types; and in another text `make n => n` of type `int => t`, where `type t = int`.
use Rattle.std.proofs.Common.{◌≡◌, ℕ, zero, suc, ◌+◌, ◌<◌, ◌≤◌, Bool, true, false, List, [], ◌∷◌, length, get_or, Option, Some, None, refl, sym, ap, subst, ◌∙◌, arith, IsTrue}
use Rattle.std.specs.Prelude.{slice_get, slice_index_or}
use Rattle.std.specs.List.{Contains}
use Rattle.rml_base.specs.declared.limits.TheConstants.{TYPES}
use Rattle.rml_base.specs.declared.place.Place.{Place}
use Rattle.rml_types.specs.declared.scheme.Scheme.{Scheme}
use Rattle.rml_types.specs.declared.tree.SchemeTree.{SchemeTree, out-SchemeTree}
use Rattle.rml_types.specs.declared.tree.SchemeTree.TheVariants as tree
use Rattle.rml_types.specs.Finite.{nodes, nodes_at, sum_of}
use Rattle.rml_types.specs.Instances.{IsInstance}
use Rattle.rml_types.specs.Schemes.{below_at, inst, unit, vars_below}
use Rattle.rml_types.proofs.Callers.{fold-Named, fold-Rel, fold-Var, inst-Named, inst-Rel, inst-Var}
use Rattle.rml_builtin.specs.Types.{a, int}
use Rattle.rml_resolved.specs.declared.parts.Parts.{Parts}
use Rattle.rml_resolved.specs.declared.tables.RelDef.{RelDef}
use Rattle.rml_resolved.specs.declared.tables.RRule.{RRule}
use Rattle.rml_resolved.specs.declared.tables.TypeDef.{TypeDef}
use Rattle.rml_resolved.specs.declared.trees.RPat.{RPat, out-RPat, out-roll-RPat}
use Rattle.rml_resolved.specs.declared.trees.RPat.TheOpen.{RPat-F}
use Rattle.rml_resolved.specs.declared.trees.RPat.TheVariants as pattern
use Rattle.rml_resolved.specs.declared.trees.RExp.{RExp, out-RExp, out-roll-RExp}
use Rattle.rml_resolved.specs.declared.trees.RExp.TheOpen.{RExp-F}
use Rattle.rml_resolved.specs.declared.trees.RExp.TheVariants as exp
use Rattle.rml_resolved.specs.declared.trees.Callee.TheVariants as callee
use Rattle.rml_resolved.specs.declared.trees.RGoal.{RGoal}
use Rattle.rml_resolved.specs.declared.trees.RGoal.TheVariants as goal
use Rattle.rml_typed.specs.Own.{meanings_to, own, own_meanings}
use Rattle.rml_typed.specs.Typed.{Assigned, Declared, ExpOf, ExpsOf, GoalOf, GoalsOf, PatternOf, PatternsOf, Uses}
use Rattle.rml_typed.specs.Parts.{RelType, RuleTyped, as_type, sides}
use Rattle.rml_typed.specs.Units.{DeclaredTyped, GroupTypes, GroupTyped, InGroup, IsGeneralType, Used, alone, declared, declared_type, inside}
use Rattle.rml_typed.specs.Checked.{IsTyped}
use Rattle.rml_typed.proofs.Callers.{rule-typed}
use Rattle.rml_sound.specs.Sample.{HasAbstype, HasGroup, HasIdentity}
use Rattle.rml_sound.proofs.Canonical.{out-Rel}
use Rattle.rml_sound.proofs.Used.{rule-has}
use Rattle.rml_sound.proofs.Written.{written-Named, written-Rel, written-Var}

-- ---- the tables

abbrev place : ℕ → Place
place text = record { text = text; line = 1; column = 1 }

abbrev to-itself : SchemeTree
to-itself = tree.Rel (a ∷ []) (a ∷ [])

to-itself-below : IsTrue (vars_below 1 to-itself)
to-itself-below = fold-Rel Bool (below_at 1) (a ∷ []) (a ∷ []) ∙ (let e : vars_below 1 a ≡ true = fold-Var Bool (below_at 1) 0 in rw (e) refl)

abbrev identity : Scheme
identity = record { vars = 1; body = to-itself; vars_named = to-itself-below }

int-below : IsTrue (vars_below 0 int)
int-below = fold-Named Bool (below_at 0) 0 []

abbrev integers : Scheme
integers = record { vars = 0; body = int; vars_named = int-below }

abbrev made : SchemeTree
made = tree.Rel (int ∷ []) (tree.Named 1 [] ∷ [])

made-below : IsTrue (vars_below 0 made)
made-below =
    fold-Rel Bool (below_at 0) (int ∷ []) (tree.Named 1 [] ∷ [])
    ∙ (let e : vars_below 0 int ≡ true = int-below in let f : vars_below 0 (tree.Named 1 []) ≡ true = fold-Named Bool (below_at 0) 1 [] in rw (e, f) refl)

abbrev making : Scheme
making = record { vars = 0; body = made; vars_named = made-below }

abbrev types : List TypeDef
types = record { «module» = 0; name = 0; params = 0; means = None } ∷ record { «module» = 1; name = 0; params = 0; means = Some integers } ∷ []

abbrev rule-of : ℕ → List RGoal → RRule
rule-of text gs = record { place = place text; inputs = pattern.Var 0 ∷ []; goals = gs; results = exp.Var 0 ∷ []; vars = 1; tokens = 1 }

abbrev call-back : RGoal
call-back = goal.Call (callee.Rel 2) (exp.Var 0 ∷ []) (pattern.Var 1 ∷ [])

abbrev relation : ℕ → Option Scheme → List RGoal → RelDef
relation text s gs = record { «module» = text; name = 0; place = place text; scheme = s; rules = rule-of text gs ∷ [] }

abbrev same : RelDef
same = relation 0 (Some identity) []

abbrev there : RelDef
there = relation 0 None (call-back ∷ [])

abbrev back : RelDef
back = relation 0 None []

abbrev make : RelDef
make = relation 1 (Some making) []

abbrev p : Parts
p = record { names = []; types = types; cons = []; vals = []; rels = same ∷ there ∷ back ∷ make ∷ []; main = 0; gives = false }

-- ---- what a rule `x => x` is typed by

one-rule : (x rule : RRule) → Contains (x ∷ []) rule → x ≡ rule
one-rule x rule among = at among.0 among.1 among.2
  where
    at : (k : ℕ) → k < length (x ∷ []) → slice_index_or (x ∷ []) k rule ≡ rule → x ≡ rule
    at zero lt e = e
    at (suc k) lt e = absurd (omega arith)

rule-itself : (d : Declared) (uses : Uses) (G : Assigned) (text : ℕ) (gs : List RGoal) → GoalsOf d uses G gs → RuleTyped d uses (record { inputs = G 0 ∷ []; outputs = G 0 ∷ [] }) (rule-of text gs)
rule-itself d uses G text gs h =
    rule-typed d uses (record { inputs = G 0 ∷ []; outputs = G 0 ∷ [] }) G (rule-of text gs) (PatternsOf.more (pattern.Var 0) (G 0) [] [] (PatternOf.var 0) PatternsOf.none) h
    (ExpsOf.more (exp.Var 0) (G 0) [] [] (ExpOf.var 0) ExpsOf.none)

-- ---- the group

abbrev at-type : SchemeTree → GroupTypes
at-type t r = record { inputs = t ∷ []; outputs = t ∷ [] }

module _ (t : SchemeTree) where
  group-rule : (text r : ℕ) (g : InGroup p text r) (rel : RelDef) → rel ≡ g.rel → rel.scheme ≡ None → (gs : List RGoal) → rel ≡ relation 0 None gs
      → ((uses : Uses) → uses 2 (as_type (at-type t 2)) → GoalsOf (declared p 0) uses (λ x. t) gs) → InGroup p text 2 → (rule : RRule) → Contains g.rel.rules rule
      → RuleTyped (declared p g.rel.«module») (Used p text g.rel.«module» (inside (at-type t))) (at-type t r) rule
  group-rule text r g rel same-rel none gs is goals two rule among =
      let whole : relation 0 None gs ≡ g.rel = sym is ∙ same-rel in
      let here : Contains (rule-of 0 gs ∷ []) rule = subst (λ (x : RelDef). Contains x.rules rule) (sym whole) among in
      subst (λ (x : RelDef). RuleTyped (declared p x.«module») (Used p text x.«module» (inside (at-type t))) (at-type t r) rule) whole
      (subst (λ (x : RRule). RuleTyped (declared p 0) (Used p text 0 (inside (at-type t))) (at-type t r) x) (one-rule (rule-of 0 gs) rule here)
      (rule-itself (declared p 0) (Used p text 0 (inside (at-type t))) (λ x. t) 0 gs (goals (Used p text 0 (inside (at-type t))) (Used.by_group two refl))))

  call-typed : (uses : Uses) → uses 2 (as_type (at-type t 2)) → GoalsOf (declared p 0) uses (λ x. t) (call-back ∷ [])
  call-typed uses h =
      GoalsOf.more call-back []
      (GoalOf.call (callee.Rel 2) (exp.Var 0 ∷ []) (pattern.Var 1 ∷ []) (t ∷ []) (t ∷ []) h (ExpsOf.more (exp.Var 0) t [] [] (ExpOf.var 0) ExpsOf.none) (PatternsOf.more (pattern.Var 1) t [] [] (PatternOf.var 1) PatternsOf.none))
      GoalsOf.none

  -- a text with a relation of the group is the first
  back-in : (text r : ℕ) (g : InGroup p text r) (gs : List RGoal) → relation 0 None gs ≡ g.rel → InGroup p text 2
  back-in text r g gs is = record { rel = back; there = refl; undeclared = refl; here = ap (λ (x : RelDef). x.place.text) is ∙ g.here }

  group-typed : (text : ℕ) → GroupTyped p text (at-type t)
  group-typed text zero g rule among = absurd (let at : Some same ≡ Some g.rel = g.there in let is : same ≡ g.rel = cc in let some : Some identity ≡ g.rel.scheme = ap (λ (x : RelDef). x.scheme) is in let none = g.undeclared in cc)
  group-typed text (suc zero) g rule among =
      let at : Some there ≡ Some g.rel = g.there in
      let is : there ≡ g.rel = cc in
      group-rule text 1 g there is refl (call-back ∷ []) refl call-typed (back-in text 1 g (call-back ∷ []) is) rule among
  group-typed text (suc (suc zero)) g rule among =
      let at : Some back ≡ Some g.rel = g.there in
      let is : back ≡ g.rel = cc in
      group-rule text 2 g back is refl [] refl (λ uses h. GoalsOf.none) (back-in text 2 g [] is) rule among
  group-typed text (suc (suc (suc zero))) g rule among = absurd (let at : Some make ≡ Some g.rel = g.there in let is : make ≡ g.rel = cc in let some : Some making ≡ g.rel.scheme = ap (λ (x : RelDef). x.scheme) is in let none = g.undeclared in cc)
  group-typed text (suc (suc (suc (suc r)))) g rule among = absurd (let at : None ≡ Some g.rel = g.there in cc)

-- ---- its general types

-- what a variable is typed by
pattern-var : (d : Declared) (G : Assigned) (x : ℕ) (q : RPat) (t : SchemeTree) → PatternOf d G q t → out-RPat q ≡ RPat-F.Var x → t ≡ G x
pattern-var d G x q t (PatternOf.var y) e = (let f : RPat-F.Var y ≡ RPat-F.Var x = sym (ap out-RPat (sym (pattern.rolls-Var y)) ∙ out-roll-RPat (RPat-F.Var y)) ∙ e in let same : y ≡ x = cc in ap G same)
pattern-var d G x q t (PatternOf.any u) e = absurd (let f = sym (ap out-RPat (sym pattern.rolls-Any) ∙ out-roll-RPat RPat-F.Any) ∙ e in cc)
pattern-var d G x q t (PatternOf.lit l) e = absurd (let f = sym (ap out-RPat (sym (pattern.rolls-Lit l)) ∙ out-roll-RPat (RPat-F.Lit l)) ∙ e in cc)
pattern-var d G x q t (PatternOf.con c ps ts u i hs) e = absurd (let f = sym (ap out-RPat (sym (pattern.rolls-Con c ps)) ∙ out-roll-RPat (RPat-F.Con c ps)) ∙ e in cc)
pattern-var d G x q t (PatternOf.tuple ps ts hs) e = absurd (let f = sym (ap out-RPat (sym (pattern.rolls-Tuple ps)) ∙ out-roll-RPat (RPat-F.Tuple ps)) ∙ e in cc)
pattern-var d G x q t (PatternOf.items ps ts u are hs) e = absurd (let f = sym (ap out-RPat (sym (pattern.rolls-List ps)) ∙ out-roll-RPat (RPat-F.List ps)) ∙ e in cc)
pattern-var d G x q t (PatternOf.chain ps ts u are hs) e = absurd (let f = sym (ap out-RPat (sym (pattern.rolls-Cons ps)) ∙ out-roll-RPat (RPat-F.Cons ps)) ∙ e in cc)
pattern-var d G x q t (PatternOf.bind y w h) e = absurd (let f = sym (ap out-RPat (sym (pattern.rolls-Bind y w)) ∙ out-roll-RPat (RPat-F.Bind y w)) ∙ e in cc)

exp-var : (d : Declared) (uses : Uses) (G : Assigned) (x : ℕ) (q : RExp) (t : SchemeTree) → ExpOf d uses G q t → out-RExp q ≡ RExp-F.Var x → t ≡ G x
exp-var d uses G x q t (ExpOf.var y) e = (let f : RExp-F.Var y ≡ RExp-F.Var x = sym (ap out-RExp (sym (exp.rolls-Var y)) ∙ out-roll-RExp (RExp-F.Var y)) ∙ e in let same : y ≡ x = cc in ap G same)
exp-var d uses G x q t (ExpOf.lit l) e = absurd (let f = sym (ap out-RExp (sym (exp.rolls-Lit l)) ∙ out-roll-RExp (RExp-F.Lit l)) ∙ e in cc)
exp-var d uses G x q t (ExpOf.val v u i) e = absurd (let f = sym (ap out-RExp (sym (exp.rolls-Val v)) ∙ out-roll-RExp (RExp-F.Val v)) ∙ e in cc)
exp-var d uses G x q t (ExpOf.rel r u i) e = absurd (let f = sym (ap out-RExp (sym (exp.rolls-Rel r)) ∙ out-roll-RExp (RExp-F.Rel r)) ∙ e in cc)
exp-var d uses G x q t (ExpOf.con c es ts u i hs) e = absurd (let f = sym (ap out-RExp (sym (exp.rolls-Con c es)) ∙ out-roll-RExp (RExp-F.Con c es)) ∙ e in cc)
exp-var d uses G x q t (ExpOf.tuple es ts hs) e = absurd (let f = sym (ap out-RExp (sym (exp.rolls-Tuple es)) ∙ out-roll-RExp (RExp-F.Tuple es)) ∙ e in cc)
exp-var d uses G x q t (ExpOf.items es ts u are hs) e = absurd (let f = sym (ap out-RExp (sym (exp.rolls-List es)) ∙ out-roll-RExp (RExp-F.List es)) ∙ e in cc)
exp-var d uses G x q t (ExpOf.chain es ts u are hs) e = absurd (let f = sym (ap out-RExp (sym (exp.rolls-Cons es)) ∙ out-roll-RExp (RExp-F.Cons es)) ∙ e in cc)

one-pattern : (d : Declared) (G : Assigned) (q : RPat) (ts : List SchemeTree) (x : ℕ) → out-RPat q ≡ RPat-F.Var x → PatternsOf d G (q ∷ []) ts → ts ≡ G x ∷ []
one-pattern d G q ts x e (PatternsOf.more r t qs us h PatternsOf.none) = ap (λ u. u ∷ []) (pattern-var d G x r t h e)

one-exp : (d : Declared) (uses : Uses) (G : Assigned) (q : RExp) (ts : List SchemeTree) (x : ℕ) → out-RExp q ≡ RExp-F.Var x → ExpsOf d uses G (q ∷ []) ts → ts ≡ G x ∷ []
one-exp d uses G q ts x e (ExpsOf.more r t qs us h ExpsOf.none) = ap (λ u. u ∷ []) (exp-var d uses G x r t h e)

inst-itself : (ts : List SchemeTree) → inst ts to-itself ≡ tree.Rel (get_or ts 0 unit ∷ []) (get_or ts 0 unit ∷ [])
inst-itself ts = inst-Rel ts (a ∷ []) (a ∷ []) ∙ ap (λ x. tree.Rel (x ∷ []) (inst ts a ∷ [])) (inst-Var ts 0) ∙ ap (λ x. tree.Rel (get_or ts 0 unit ∷ []) (x ∷ [])) (inst-Var ts 0)

-- whatever types the rule `x => x`, it leads from a type to itself
leads-to-itself : (d : Declared) (uses : Uses) (k : RelType) (text : ℕ) (gs : List RGoal) → RuleTyped d uses k (rule-of text gs) → IsInstance to-itself (as_type k)
leads-to-itself d uses k text gs h =
    let r = rule-has d uses k (rule-of text gs) h in
    let ins : k.inputs ≡ r.G 0 ∷ [] = one-pattern d r.G (pattern.Var 0) k.inputs 0 (ap out-RPat (sym (pattern.rolls-Var 0)) ∙ out-roll-RPat (RPat-F.Var 0)) r.inputs in
    let outs : k.outputs ≡ r.G 0 ∷ [] = one-exp d uses r.G (exp.Var 0) k.outputs 0 (ap out-RExp (sym (exp.rolls-Var 0)) ∙ out-roll-RExp (RExp-F.Var 0)) r.outputs in (
      r.G 0 ∷ [],
      ap (λ x. tree.Rel x k.outputs) ins ∙ ap (tree.Rel (r.G 0 ∷ [])) outs ∙ sym (inst-itself (r.G 0 ∷ [])),
    )

rule-leads : (text r : ℕ) → InGroup p text r → (types : GroupTypes) → GroupTyped p text types → IsInstance to-itself (as_type (types r))
rule-leads text zero g types typed = absurd (let at : Some same ≡ Some g.rel = g.there in let is : same ≡ g.rel = cc in let some : Some identity ≡ g.rel.scheme = ap (λ (x : RelDef). x.scheme) is in let none = g.undeclared in cc)
rule-leads text (suc zero) g types typed =
    let own : InGroup p text 1 = record { rel = there; there = refl; undeclared = refl; here = (let at : Some there ≡ Some g.rel = g.there in let is : there ≡ g.rel = cc in ap (λ (x : RelDef). x.place.text) is ∙ g.here) } in
    leads-to-itself (declared p 0) (Used p text 0 (inside types)) (types 1) 0 (call-back ∷ []) (typed 1 own (rule-of 0 (call-back ∷ [])) (0, omega arith, refl))
rule-leads text (suc (suc zero)) g types typed =
    let own : InGroup p text 2 = record { rel = back; there = refl; undeclared = refl; here = (let at : Some back ≡ Some g.rel = g.there in let is : back ≡ g.rel = cc in ap (λ (x : RelDef). x.place.text) is ∙ g.here) } in
    leads-to-itself (declared p 0) (Used p text 0 (inside types)) (types 2) 0 [] (typed 2 own (rule-of 0 []) (0, omega arith, refl))
rule-leads text (suc (suc (suc zero))) g types typed = absurd (let at : Some make ≡ Some g.rel = g.there in let is : make ≡ g.rel = cc in let some : Some making ≡ g.rel.scheme = ap (λ (x : RelDef). x.scheme) is in let none = g.undeclared in cc)
rule-leads text (suc (suc (suc (suc r)))) g types typed = absurd (let at : None ≡ Some g.rel = g.there in cc)

group-general : (text r : ℕ) → InGroup p text r → IsGeneralType p text r to-itself
group-general text r g t = (
  (λ i. (at-type (get_or i.0 0 unit), group-typed (get_or i.0 0 unit) text, i.1 ∙ inst-itself i.0)),
  (λ o. subst (IsInstance to-itself) (sym o.2) (rule-leads text r g o.0 o.1)),
)

-- ---- declared relations

itself-stands : (text : ℕ) → own types text to-itself ≡ to-itself
itself-stands text =
    let m = own_meanings types text in
    written-Rel m (a ∷ []) (a ∷ []) ∙ ap (λ x. tree.Rel (x ∷ []) (own types text a ∷ [])) (written-Var m 0) ∙ ap (λ x. tree.Rel (a ∷ []) (x ∷ [])) (written-Var m 0)

int-stands : own types 1 int ≡ int
int-stands = written-Named (own_meanings types 1) 0 []

made-reads : own types 1 made ≡ tree.Rel (int ∷ []) (int ∷ [])
made-reads =
    let m = own_meanings types 1 in
    written-Rel m (int ∷ []) (tree.Named 1 [] ∷ []) ∙ ap (λ x. tree.Rel (x ∷ []) (own types 1 (tree.Named 1 []) ∷ [])) int-stands
    ∙ ap (λ x. tree.Rel (int ∷ []) (x ∷ [])) (written-Named m 1 [] ∙ ap (inst []) (written-Named (meanings_to types 1 1) 0 []) ∙ inst-Named [] 0 [])

sides-of : (k : RelType) → sides (out-SchemeTree (as_type k)) ≡ k
sides-of k = ap sides (out-Rel k.inputs k.outputs)

-- a declared relation with the rule `x => x`, whose type is read as one from a type to itself
declared-rule : (text : ℕ) (s : Scheme) (u : SchemeTree) → own types text s.body ≡ tree.Rel (u ∷ []) (u ∷ []) → (rule : RRule) → Contains (rule-of text [] ∷ []) rule → DeclaredTyped p (relation text (Some s) []) s rule
declared-rule text s u reads rule among =
    let k : RelType = record { inputs = u ∷ []; outputs = u ∷ [] } in
    let type : declared_type p (relation text (Some s) []) s ≡ k = ap (λ t. sides (out-SchemeTree t)) reads ∙ sides-of k in
    subst (λ (x : RRule). RuleTyped (declared p text) (alone p text text) (declared_type p (relation text (Some s) []) s) x) (one-rule (rule-of text []) rule among)
    (subst (λ (x : RelType). RuleTyped (declared p text) (alone p text text) x (rule-of text [])) (sym type) (rule-itself (declared p text) (alone p text text) (λ x. u) text [] GoalsOf.none))

-- the same of a relation that is this one, and its scheme
declared-as : (known : RelDef) (has s : Scheme) (rel : RelDef) (rule : RRule) → known ≡ rel → known.scheme ≡ Some has → rel.scheme ≡ Some s → Contains rel.rules rule → (Contains known.rules rule → DeclaredTyped p known has rule) → DeclaredTyped p rel s rule
declared-as known has s rel rule is at there among each =
    let of : known.scheme ≡ rel.scheme = ap (λ (x : RelDef). x.scheme) is in
    let one : has ≡ s = cc in
    subst (λ (x : Scheme). DeclaredTyped p rel x rule) one (subst (λ (x : RelDef). DeclaredTyped p x has rule) is (each (subst (λ (x : RelDef). Contains x.rules rule) (sym is) among)))

rules-typed : (r : ℕ) (rel : RelDef) (s : Scheme) (rule : RRule) → slice_get p.rels r ≡ Some rel → rel.scheme ≡ Some s → Contains rel.rules rule → DeclaredTyped p rel s rule
rules-typed zero rel s rule at is among = declared-as same identity s rel rule (let e : Some same ≡ Some rel = at in cc) refl is among (declared-rule 0 identity a (itself-stands 0) rule)
rules-typed (suc zero) rel s rule at is among = absurd (let e : Some there ≡ Some rel = at in let f : there ≡ rel = cc in let none : None ≡ rel.scheme = ap (λ (x : RelDef). x.scheme) f in cc)
rules-typed (suc (suc zero)) rel s rule at is among = absurd (let e : Some back ≡ Some rel = at in let f : back ≡ rel = cc in let none : None ≡ rel.scheme = ap (λ (x : RelDef). x.scheme) f in cc)
rules-typed (suc (suc (suc zero))) rel s rule at is among = declared-as make making s rel rule (let e : Some make ≡ Some rel = at in cc) refl is among (declared-rule 1 making int made-reads rule)
rules-typed (suc (suc (suc (suc r)))) rel s rule at is among = absurd (let e : None ≡ Some rel = at in cc)

-- ---- all of it

few : nodes to-itself ≤ TYPES
few =
    let e : nodes to-itself ≡ 3 = fold-Rel ℕ nodes_at (a ∷ []) (a ∷ []) ∙ ap (λ (n : ℕ). suc (sum_of (n ∷ []) + sum_of (n ∷ []))) (fold-Var ℕ nodes_at 0) in
    omega arith

typed : IsTyped p
typed = record {
  groups = λ text. (at-type int, group-typed int text);
  narrow = λ text r g. record { body = to-itself; general = group-general text r g; narrow = few };
  rules = rules-typed;
  vals = λ v val there. absurd (let e : None ≡ Some val = there in cc);
}

pub sample : (p : Parts) × IsTyped p × HasIdentity p × HasGroup p × HasAbstype p
sample = (
  p,
  typed,
  record { r = 0; rel = same; there = refl; scheme = identity; declared = refl; type = refl },
  record { text = 0; r = 1; group = record { rel = there; there = refl; undeclared = refl; here = refl } },
  record { c = 1; means = integers; stands_for = refl; integers = refl; r = 3; rel = make; there = refl; scheme = making; declared = refl; type = refl },
)
