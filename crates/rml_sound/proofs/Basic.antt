-- Values of the built-in types: integers, characters, texts, logical variables and vectors, and no others.
use Rattle.std.proofs.Common.{◌≡◌, ℕ, ℤ, ◌<◌, inl, inr, List, [], ◌∷◌, Some, refl, subst, arith}
use Rattle.std.specs.Prelude.{slice_get}
use Rattle.rml_types.specs.declared.tree.SchemeTree.{SchemeTree}
use Rattle.rml_types.specs.declared.tree.SchemeTree.TheOpen.{SchemeTree-F}
use Rattle.rml_value.specs.declared.value.Value.{Value, out-Value}
use Rattle.rml_value.specs.declared.value.Value.TheOpen.{Value-F}
use Rattle.rml_builtin.specs.declared.types.TheConstants.{INT, CHAR, STRING, LVAR, VECTOR}
use Rattle.rml_builtin.specs.Types.{int, char, string, lvar, vector}
use Rattle.rml_resolved.specs.declared.program.Program.{Program}
use Rattle.rml_resolved.specs.declared.tables.ConDef.{ConDef}
use Rattle.rml_resolved.specs.Facts.{tables_of}
use Rattle.rml_typed.specs.Typed.{AreItems}
use Rattle.rml_sound.specs.Values.{StoreTypes, ValueHas, ValuesHave}
use Rattle.rml_sound.proofs.Begun.{of-what}
use Rattle.rml_sound.proofs.Canonical.{Opened, of-named}

module _ (p : Program) (S : StoreTypes) where
  abbrev Is : ℕ → List SchemeTree → Value-F Value → Type 0
  Is d us o = Opened (tables_of p) S (SchemeTree-F.Named d us) o

  -- no constructor belongs to a type of these numbers
  pub no-con : (c : ℕ) (k : ConDef) → slice_get p.cons c ≡ Some k → k.of < 6 → (k.of ≡ 3 → ⊥) → ⊥
  no-con c k at less other = elim (of-what p c k at) [ inl w ↦ other w.1 | inr far ↦ omega arith ]

  int-opened : (o : Value-F Value) → Is INT [] o → (n : ℤ) × (o ≡ Value-F.Int n)
  int-opened (Value-F.Int n) h = (n, refl)
  int-opened (Value-F.Char c) h = absurd (omega arith)
  int-opened (Value-F.Text t) h = absurd (omega arith)
  int-opened (Value-F.Con c vs) h = absurd (let e = h.2 in no-con c h.0 h.1 (omega arith) (λ f. omega arith))
  int-opened (Value-F.Tuple vs) h = absurd h
  int-opened (Value-F.Rel r) h = absurd h
  int-opened (Value-F.Cell k) h = absurd (let e = h.0 in omega arith)
  int-opened (Value-F.Vector vs) h = absurd (let e = h.0 in omega arith)

  pub int-value : (v : Value) → ValueHas (tables_of p) S v int → (n : ℤ) × (out-Value v ≡ Value-F.Int n)
  int-value v h = int-opened (out-Value v) (of-named (tables_of p) S INT [] v h)

  char-opened : (o : Value-F Value) → Is CHAR [] o → (n : ℕ) × (o ≡ Value-F.Char n)
  char-opened (Value-F.Char n) h = (n, refl)
  char-opened (Value-F.Int n) h = absurd (omega arith)
  char-opened (Value-F.Text t) h = absurd (omega arith)
  char-opened (Value-F.Con c vs) h = absurd (let e = h.2 in no-con c h.0 h.1 (omega arith) (λ f. omega arith))
  char-opened (Value-F.Tuple vs) h = absurd h
  char-opened (Value-F.Rel r) h = absurd h
  char-opened (Value-F.Cell k) h = absurd (let e = h.0 in omega arith)
  char-opened (Value-F.Vector vs) h = absurd (let e = h.0 in omega arith)

  pub char-value : (v : Value) → ValueHas (tables_of p) S v char → (n : ℕ) × (out-Value v ≡ Value-F.Char n)
  char-value v h = char-opened (out-Value v) (of-named (tables_of p) S CHAR [] v h)

  text-opened : (o : Value-F Value) → Is STRING [] o → (n : List ℕ) × (o ≡ Value-F.Text n)
  text-opened (Value-F.Text n) h = (n, refl)
  text-opened (Value-F.Int n) h = absurd (omega arith)
  text-opened (Value-F.Char c) h = absurd (omega arith)
  text-opened (Value-F.Con c vs) h = absurd (let e = h.2 in no-con c h.0 h.1 (omega arith) (λ f. omega arith))
  text-opened (Value-F.Tuple vs) h = absurd h
  text-opened (Value-F.Rel r) h = absurd h
  text-opened (Value-F.Cell k) h = absurd (let e = h.0 in omega arith)
  text-opened (Value-F.Vector vs) h = absurd (let e = h.0 in omega arith)

  pub text-value : (v : Value) → ValueHas (tables_of p) S v string → (n : List ℕ) × (out-Value v ≡ Value-F.Text n)
  text-value v h = text-opened (out-Value v) (of-named (tables_of p) S STRING [] v h)

  cell-opened : (t : SchemeTree) (o : Value-F Value) → Is LVAR (t ∷ []) o → (k : ℕ) × (o ≡ Value-F.Cell k) × (slice_get S k ≡ Some t)
  cell-opened t (Value-F.Cell k) h = (k, refl, (let u = h.1 in let is : t ∷ [] ≡ u ∷ [] = h.2 in let same : u ≡ t = cc in subst (λ (x : SchemeTree). slice_get S k ≡ Some x) same h.3))
  cell-opened t (Value-F.Int n) h = absurd (omega arith)
  cell-opened t (Value-F.Char c) h = absurd (omega arith)
  cell-opened t (Value-F.Text s) h = absurd (omega arith)
  cell-opened t (Value-F.Con c vs) h = absurd (let e = h.2 in no-con c h.0 h.1 (omega arith) (λ f. omega arith))
  cell-opened t (Value-F.Tuple vs) h = absurd h
  cell-opened t (Value-F.Rel r) h = absurd h
  cell-opened t (Value-F.Vector vs) h = absurd (let e = h.0 in omega arith)

  pub cell-value : (t : SchemeTree) (v : Value) → ValueHas (tables_of p) S v (lvar t) → (k : ℕ) × (out-Value v ≡ Value-F.Cell k) × (slice_get S k ≡ Some t)
  cell-value t v h = cell-opened t (out-Value v) (of-named (tables_of p) S LVAR (t ∷ []) v h)

  vector-opened : (t : SchemeTree) (o : Value-F Value) → Is VECTOR (t ∷ []) o → (vs : List Value) × (o ≡ Value-F.Vector vs) × (ts : List SchemeTree) × AreItems t ts × ValuesHave (tables_of p) S vs ts
  vector-opened t (Value-F.Vector vs) h = (vs, refl, h.3, (let u = h.1 in let is : t ∷ [] ≡ u ∷ [] = h.2 in let same : u ≡ t = cc in subst (λ (x : SchemeTree). AreItems x h.3) same h.4), h.5)
  vector-opened t (Value-F.Int n) h = absurd (omega arith)
  vector-opened t (Value-F.Char c) h = absurd (omega arith)
  vector-opened t (Value-F.Text s) h = absurd (omega arith)
  vector-opened t (Value-F.Con c vs) h = absurd (let e = h.2 in no-con c h.0 h.1 (omega arith) (λ f. omega arith))
  vector-opened t (Value-F.Tuple vs) h = absurd h
  vector-opened t (Value-F.Rel r) h = absurd h
  vector-opened t (Value-F.Cell k) h = absurd (let e = h.0 in omega arith)

  pub vector-value : (t : SchemeTree) (v : Value) → ValueHas (tables_of p) S v (vector t) → (vs : List Value) × (out-Value v ≡ Value-F.Vector vs) × (ts : List SchemeTree) × AreItems t ts × ValuesHave (tables_of p) S vs ts
  vector-value t v h = vector-opened t (out-Value v) (of-named (tables_of p) S VECTOR (t ∷ []) v h)
