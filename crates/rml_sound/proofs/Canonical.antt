-- What a value of a type is, opened: of each form of type there are values of few kinds alone.
use Rattle.std.proofs.Common.{◌≡◌, ℕ, ℤ, List, [], ◌∷◌, map, Some, refl, sym, ap, subst, ◌∙◌}
use Rattle.std.specs.Prelude.{slice_get}
use Rattle.rml_types.specs.declared.tree.SchemeTree.{SchemeTree, out-SchemeTree, out-roll-SchemeTree}
use Rattle.rml_types.specs.declared.tree.SchemeTree.TheOpen.{SchemeTree-F}
use Rattle.rml_types.specs.declared.tree.SchemeTree.TheVariants as tree
use Rattle.rml_types.specs.Schemes.{inst}
use Rattle.rml_value.specs.declared.value.Value.{Value, out-Value, out-roll-Value}
use Rattle.rml_value.specs.declared.value.Value.TheOpen.{Value-F}
use Rattle.rml_value.specs.declared.value.Value.TheVariants as value
use Rattle.rml_builtin.specs.declared.types.TheConstants.{INT, CHAR, STRING, LVAR, VECTOR}
use Rattle.rml_resolved.specs.declared.parts.Parts.{Parts}
use Rattle.rml_resolved.specs.declared.tables.ConDef.{ConDef}
use Rattle.rml_typed.specs.Parts.{sides}
use Rattle.rml_typed.specs.Typed.{AreItems}
use Rattle.rml_sound.specs.Values.{arguments_of, RelationHas, StoreTypes, ValueHas, ValuesHave}

-- ---- what opens to what

pub out-Named : (c : ℕ) (ts : List SchemeTree) → out-SchemeTree (tree.Named c ts) ≡ SchemeTree-F.Named c ts
out-Named c ts = ap out-SchemeTree (sym (tree.rolls-Named c ts)) ∙ out-roll-SchemeTree (SchemeTree-F.Named c ts)

pub out-Tuple : (ts : List SchemeTree) → out-SchemeTree (tree.Tuple ts) ≡ SchemeTree-F.Tuple ts
out-Tuple ts = ap out-SchemeTree (sym (tree.rolls-Tuple ts)) ∙ out-roll-SchemeTree (SchemeTree-F.Tuple ts)

pub out-Rel : (ins outs : List SchemeTree) → out-SchemeTree (tree.Rel ins outs) ≡ SchemeTree-F.Rel ins outs
out-Rel ins outs = ap out-SchemeTree (sym (tree.rolls-Rel ins outs)) ∙ out-roll-SchemeTree (SchemeTree-F.Rel ins outs)

-- what relation types that are one take and give
pub same-inputs : (us ws xs ys : List SchemeTree) → tree.Rel us ws ≡ tree.Rel xs ys → us ≡ xs
same-inputs us ws xs ys e = ap (λ z. (sides z).inputs) (sym (out-Rel us ws) ∙ ap out-SchemeTree e ∙ out-Rel xs ys)

pub same-outputs : (us ws xs ys : List SchemeTree) → tree.Rel us ws ≡ tree.Rel xs ys → ws ≡ ys
same-outputs us ws xs ys e = ap (λ z. (sides z).outputs) (sym (out-Rel us ws) ∙ ap out-SchemeTree e ∙ out-Rel xs ys)

pub out-int : (n : ℤ) → out-Value (value.Int n) ≡ Value-F.Int n
out-int n = ap out-Value (sym (value.rolls-Int n)) ∙ out-roll-Value (Value-F.Int n)

pub out-char : (c : ℕ) → out-Value (value.Char c) ≡ Value-F.Char c
out-char c = ap out-Value (sym (value.rolls-Char c)) ∙ out-roll-Value (Value-F.Char c)

pub out-text : (t : List ℕ) → out-Value (value.Text t) ≡ Value-F.Text t
out-text t = ap out-Value (sym (value.rolls-Text t)) ∙ out-roll-Value (Value-F.Text t)

pub out-con : (c : ℕ) (vs : List Value) → out-Value (value.Con c vs) ≡ Value-F.Con c vs
out-con c vs = ap out-Value (sym (value.rolls-Con c vs)) ∙ out-roll-Value (Value-F.Con c vs)

pub out-tuple : (vs : List Value) → out-Value (value.Tuple vs) ≡ Value-F.Tuple vs
out-tuple vs = ap out-Value (sym (value.rolls-Tuple vs)) ∙ out-roll-Value (Value-F.Tuple vs)

pub out-rel : (r : ℕ) → out-Value (value.Rel r) ≡ Value-F.Rel r
out-rel r = ap out-Value (sym (value.rolls-Rel r)) ∙ out-roll-Value (Value-F.Rel r)

pub out-cell : (k : ℕ) → out-Value (value.Cell k) ≡ Value-F.Cell k
out-cell k = ap out-Value (sym (value.rolls-Cell k)) ∙ out-roll-Value (Value-F.Cell k)

pub out-vector : (vs : List Value) → out-Value (value.Vector vs) ≡ Value-F.Vector vs
out-vector vs = ap out-Value (sym (value.rolls-Vector vs)) ∙ out-roll-Value (Value-F.Vector vs)

-- ---- a value with a type

module _ (p : Parts) (S : StoreTypes) where
  -- by the roots of the two
  abbrev pub Opened : SchemeTree-F SchemeTree → Value-F Value → Type 0
  Opened (SchemeTree-F.Named d us) (Value-F.Int n) = d ≡ INT
  Opened (SchemeTree-F.Named d us) (Value-F.Char c) = d ≡ CHAR
  Opened (SchemeTree-F.Named d us) (Value-F.Text t) = d ≡ STRING
  Opened (SchemeTree-F.Named d us) (Value-F.Con c vs) = (k : ConDef) × (slice_get p.cons c ≡ Some k) × (d ≡ k.of) × ValuesHave p S vs (map (inst us) (arguments_of p k))
  Opened (SchemeTree-F.Named d us) (Value-F.Cell k) = (d ≡ LVAR) × (t : SchemeTree) × (us ≡ t ∷ []) × (slice_get S k ≡ Some t)
  Opened (SchemeTree-F.Named d us) (Value-F.Vector vs) = (d ≡ VECTOR) × (t : SchemeTree) × (us ≡ t ∷ []) × (ts : List SchemeTree) × AreItems t ts × ValuesHave p S vs ts
  Opened (SchemeTree-F.Tuple us) (Value-F.Tuple vs) = ValuesHave p S vs us
  Opened (SchemeTree-F.Rel ins outs) (Value-F.Rel r) = RelationHas p r ins outs
  Opened _ _ = ⊥

  open-at : (t : SchemeTree) (z : SchemeTree-F SchemeTree) (v : Value) (o : Value-F Value) → out-SchemeTree t ≡ z → out-Value v ≡ o → Opened z o → Opened (out-SchemeTree t) (out-Value v)
  open-at t z v o e f h = subst (λ (x : SchemeTree-F SchemeTree). Opened x (out-Value v)) (sym e) (subst (Opened z) (sym f) h)

  opened : (v : Value) (t : SchemeTree) → ValueHas p S v t → Opened (out-SchemeTree t) (out-Value v)
  opened v t (ValueHas.integer n) = open-at _ _ _ _ (out-Named INT []) (out-int n) refl
  opened v t (ValueHas.character c) = open-at _ _ _ _ (out-Named CHAR []) (out-char c) refl
  opened v t (ValueHas.text s) = open-at _ _ _ _ (out-Named STRING []) (out-text s) refl
  opened v t (ValueHas.con c d vs ts at h) = open-at _ _ _ _ (out-Named d.of ts) (out-con c vs) (d, at, refl, h)
  opened v t (ValueHas.tuple vs ts h) = open-at _ _ _ _ (out-Tuple ts) (out-tuple vs) h
  opened v t (ValueHas.rel r ins outs h) = open-at _ _ _ _ (out-Rel ins outs) (out-rel r) h
  opened v t (ValueHas.cell k u at) = open-at _ _ _ _ (out-Named LVAR (u ∷ [])) (out-cell k) (refl, u, refl, at)
  opened v t (ValueHas.items vs ts u are h) = open-at _ _ _ _ (out-Named VECTOR (u ∷ [])) (out-vector vs) (refl, u, refl, ts, are, h)

  pub of-named : (d : ℕ) (us : List SchemeTree) (v : Value) → ValueHas p S v (tree.Named d us) → Opened (SchemeTree-F.Named d us) (out-Value v)
  of-named d us v h = subst (λ (x : SchemeTree-F SchemeTree). Opened x (out-Value v)) (out-Named d us) (opened v (tree.Named d us) h)

  pub of-tuple : (us : List SchemeTree) (v : Value) → ValueHas p S v (tree.Tuple us) → Opened (SchemeTree-F.Tuple us) (out-Value v)
  of-tuple us v h = subst (λ (x : SchemeTree-F SchemeTree). Opened x (out-Value v)) (out-Tuple us) (opened v (tree.Tuple us) h)

  pub of-relation : (ins outs : List SchemeTree) (v : Value) → ValueHas p S v (tree.Rel ins outs) → Opened (SchemeTree-F.Rel ins outs) (out-Value v)
  of-relation ins outs v h = subst (λ (x : SchemeTree-F SchemeTree). Opened x (out-Value v)) (out-Rel ins outs) (opened v (tree.Rel ins outs) h)
