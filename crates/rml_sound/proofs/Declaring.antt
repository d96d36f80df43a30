-- A program that is typed stays so where the types that were inferred are declared; and then it has no group.
use Rattle.std.proofs.Common.{◌≡◌, ℕ, List, [], ◌∷◌, length, Some, None, refl, sym, ap, subst, ◌∙◌}
use Rattle.std.specs.Prelude.{slice_get}
use Rattle.std.specs.List.{Contains}
use Rattle.rml_types.specs.declared.scheme.Scheme.{Scheme}
use Rattle.rml_types.specs.declared.tree.SchemeTree.{SchemeTree, out-SchemeTree}
use Rattle.rml_types.specs.Instances.{IsInstance}
use Rattle.rml_types.proofs.Callers.{body-instance}
use Rattle.rml_resolved.specs.declared.parts.Parts.{Parts}
use Rattle.rml_resolved.specs.declared.tables.RelDef.{RelDef}
use Rattle.rml_resolved.specs.declared.tables.RRule.{RRule}
use Rattle.rml_resolved.specs.declared.tables.ValDef.{ValDef}
use Rattle.rml_typed.specs.Own.{own}
use Rattle.rml_typed.specs.Typed.{Declared, ExpOf, ExpsOf, GoalsOf, PatternsOf, Uses}
use Rattle.rml_typed.specs.Parts.{RelType, RuleTyped, as_type, pieces, sides}
use Rattle.rml_typed.specs.Units.{DeclaredTyped, InGroup, Used, ValTyped, alone, declared, declared_type, outside}
use Rattle.rml_typed.specs.Checked.{IsTyped, SchemeOf}
use Rattle.rml_typed.proofs.Callers.{group-alone, rule-more, rule-typed}
use Rattle.rml_sound.specs.Declaring.{AreDeclared, IsOf, with_rels, with_scheme}
use Rattle.rml_sound.proofs.Canonical.{out-Rel}
use Rattle.rml_sound.proofs.Used.{rule-has}

-- two relations of one number are one
one-relation : (p : Parts) (r : ℕ) (a b : RelDef) → slice_get p.rels r ≡ Some a → slice_get p.rels r ≡ Some b → a ≡ b
one-relation p r a b e f = cc

-- the group of a relation is that of its text
one-text : (p : Parts) (text other r : ℕ) → InGroup p text r → InGroup p other r → text ≡ other
one-text p text other r g h = sym g.here ∙ ap (λ (rel : RelDef). rel.place.text) (one-relation p r g.rel h.rel g.there h.there) ∙ h.here

sides-of : (k : RelType) → sides (out-SchemeTree (as_type k)) ≡ k
sides-of k = ap sides (out-Rel k.inputs k.outputs)

module _ (p : Parts) (rels : List RelDef) (declares : AreDeclared p rels) where
  abbrev q : Parts
  q = with_rels p rels

  no-group : (text r : ℕ) → InGroup q text r → ⊥
  no-group text r g =
      let d = declares.each r g.rel g.there in
      let some : g.rel.scheme ≡ Some d.scheme = ap (λ (rel : RelDef). rel.scheme) d.is in
      let none = g.undeclared in
      absurd (cc)

  -- ---- relations are used at no fewer types

  type-more : (text m r : ℕ) (t : SchemeTree) (rel new : RelDef) (s n : Scheme) → slice_get p.rels r ≡ Some rel → rel.scheme ≡ Some s → IsInstance (own p.types m s.body) t
      → slice_get rels r ≡ Some new → new.scheme ≡ Some n → SchemeOf p r n → alone q text m r t
  type-more text m r t rel new s n there is i at some (SchemeOf.declared other there2 is2) =
      let same : rel ≡ other = one-relation p r rel other there there2 in
      let of : rel.scheme ≡ other.scheme = ap (λ (x : RelDef). x.scheme) same in
      let one : s ≡ n = cc in
      Used.by_type new n at some (subst (λ (x : Scheme). IsInstance (own p.types m x.body) t) one i)
  type-more text m r t rel new s n there is i at some (SchemeOf.inferred other g general numbered) =
      let of : rel.scheme ≡ g.rel.scheme = ap (λ (x : RelDef). x.scheme) (one-relation p r rel g.rel there g.there) in
      let none = g.undeclared in
      absurd (cc)

  group-more : (text m r : ℕ) (t : SchemeTree) (g : InGroup p text r) (new : RelDef) (n : Scheme) → outside p text r t → slice_get rels r ≡ Some new → new.scheme ≡ Some n → SchemeOf p r n
      → own p.types m n.body ≡ n.body → alone q text m r t
  group-more text m r t g new n e at some (SchemeOf.declared other there is) stands =
      let of : g.rel.scheme ≡ other.scheme = ap (λ (x : RelDef). x.scheme) (one-relation p r g.rel other g.there there) in
      let none = g.undeclared in
      absurd (cc)
  group-more text m r t g new n e at some (SchemeOf.inferred other h general numbered) stands =
      let here : outside p other r t = subst (λ (x : ℕ). outside p x r t) (one-text p text other r g h) e in
      Used.by_type new n at some (subst (λ (b : SchemeTree). IsInstance b t) (sym stands) ((general t).1 here))

  more : (text m : ℕ) → IsOf p text m → (r : ℕ) (t : SchemeTree) → alone p text m r t → alone q text m r t
  more text m of r t (Used.by_type rel s there is i) =
      let a = declares.all r rel there in
      let d = declares.each r a.0 a.1 in
      type-more text m r t rel a.0 s d.scheme there is i a.1 (ap (λ (x : RelDef). x.scheme) d.is) d.right
  more text m of r t (Used.by_group g e) =
      let a = declares.all r g.rel g.there in
      let d = declares.each r a.0 a.1 in
      let same : g.rel ≡ d.old = one-relation p r g.rel d.old g.there d.there in
      let none : d.old.scheme ≡ None = ap (λ (x : RelDef). x.scheme) (sym same) ∙ g.undeclared in
      let here : text ≡ d.old.place.text = sym g.here ∙ ap (λ (x : RelDef). x.place.text) same in
      group-more text m r t g a.0 d.scheme e a.1 (ap (λ (x : RelDef). x.scheme) d.is) d.right (d.stands none m (subst (λ (x : ℕ). IsOf p x m) here of))

  rule-stays : (text m : ℕ) → IsOf p text m → (k : RelType) (rule : RRule) → RuleTyped (declared p m) (alone p text m) k rule → RuleTyped (declared q m) (alone q text m) k rule
  rule-stays text m of k rule h = rule-more (declared p m) (alone p text m) (alone q text m) (more text m of) k rule (length (pieces rule)) h

  -- ---- what is typed

  -- the relation of a number, with its scheme
  rule-declared : IsTyped p → (r : ℕ) (old : RelDef) (s : Scheme) (rule : RRule) → slice_get p.rels r ≡ Some old → SchemeOf p r s → (old.scheme ≡ None → (m : ℕ) → IsOf p old.place.text m → own p.types m s.body ≡ s.body)
      → Contains old.rules rule → DeclaredTyped q (with_scheme old s) s rule
  rule-declared typed r old s rule there (SchemeOf.declared other there2 is) stands among =
      let same : other ≡ old = one-relation p r other old there2 there in
      let of : old.scheme ≡ Some s = ap (λ (x : RelDef). x.scheme) (sym same) ∙ is in
      rule-stays old.place.text old.«module» (IsOf.relation r old there refl refl) (declared_type p old s) rule (typed.rules r old s rule there of among)
  rule-declared typed r old s rule there (SchemeOf.inferred text g general numbered) stands among =
      let same : g.rel ≡ old = one-relation p r g.rel old g.there there in
      let none : old.scheme ≡ None = ap (λ (x : RelDef). x.scheme) (sym same) ∙ g.undeclared in
      let own-group : InGroup p old.place.text r = record { rel = old; there = there; undeclared = none; here = refl } in
      let text-is : text ≡ old.place.text = one-text p text old.place.text r g own-group in
      let e : outside p old.place.text r s.body = subst (λ (x : ℕ). outside p x r s.body) text-is ((general s.body).0 (body-instance s.body)) in
      let reads : own p.types old.«module» s.body ≡ as_type (e.0 r) = stands none old.«module» (IsOf.relation r old there refl refl) ∙ e.2 in
      let type : declared_type p old s ≡ e.0 r = ap (λ t. sides (out-SchemeTree t)) reads ∙ sides-of (e.0 r) in
      rule-stays old.place.text old.«module» (IsOf.relation r old there refl refl) (declared_type p old s) rule
      (subst (λ (k : RelType). RuleTyped (declared p old.«module») (alone p old.place.text old.«module») k rule) (sym type) (group-alone p old.place.text r e.0 own-group rule e.1 among))

  rule-there : IsTyped p → (r : ℕ) (rel : RelDef) (s : Scheme) (rule : RRule) → slice_get rels r ≡ Some rel → rel.scheme ≡ Some s → Contains rel.rules rule → DeclaredTyped q rel s rule
  rule-there typed r rel s rule there is among =
      let d = declares.each r rel there in
      let some : rel.scheme ≡ Some d.scheme = ap (λ (x : RelDef). x.scheme) d.is in
      let one : d.scheme ≡ s = cc in
      let inside : Contains d.old.rules rule = subst (λ (x : RelDef). Contains x.rules rule) d.is among in
      subst (λ (x : Scheme). DeclaredTyped q rel x rule) one
      (subst (λ (x : RelDef). DeclaredTyped q x d.scheme rule) (sym d.is) (rule-declared typed r d.old d.scheme rule d.there d.right d.stands inside))

  -- a val's expression, as the results of a rule
  val-there : IsTyped p → (v : ℕ) (def : ValDef) → slice_get p.vals v ≡ Some def → ValTyped q def
  val-there typed v def there =
      let m = def.«module» in
      let text = def.place.text in
      let t = own p.types m def.scheme.body in
      let k : RelType = record { inputs = []; outputs = t ∷ [] } in
      let rule : RRule = record { place = def.place; inputs = []; goals = []; results = def.value ∷ []; vars = 0; tokens = 0 } in
      let h = typed.vals v def there in
      let whole = rule-typed (declared p m) (alone p text m) k h.0 rule PatternsOf.none GoalsOf.none (ExpsOf.more def.value t [] [] h.1 ExpsOf.none) in
      let after = rule-has (declared q m) (alone q text m) k rule (rule-stays text m (IsOf.val v def there refl refl) k rule whole) in
      (after.G, first after.G (declared q m) (alone q text m) def.value t after.outputs)
    where
      first : (G : ℕ → SchemeTree) (d : Declared) (uses : Uses) (e : _) (t : SchemeTree) → ExpsOf d uses G (e ∷ []) (t ∷ []) → ExpOf d uses G e t
      first G d uses e t (ExpsOf.more f u fs us h k) = h

  pub declared-typed : IsTyped p → IsTyped (with_rels p rels)
  declared-typed typed = record {
    groups = λ text. ((λ r. record { inputs = []; outputs = [] }), λ r g. absurd (no-group text r g));
    narrow = λ text r g. absurd (no-group text r g);
    rules = rule-there typed;
    vals = val-there typed;
  }

  pub ungrouped : (text r : ℕ) → InGroup (with_rels p rels) text r → ⊥
  ungrouped = no-group
