-- Values in rows, and lists of values of one type: how they are typed, and that a value of a list type is such a list.
use Rattle.std.proofs.Common.{◌≡◌, ℕ, zero, suc, inl, inr, List, [], ◌∷◌, map, length, Option, Some, None, refl, sym, ap, subst, ◌∙◌, arith}
use Rattle.std.specs.Prelude.{option_map, slice_get}
use Rattle.rml_types.specs.declared.tree.SchemeTree.{SchemeTree}
use Rattle.rml_types.specs.declared.tree.SchemeTree.TheOpen.{SchemeTree-F}
use Rattle.rml_types.specs.declared.tree.SchemeTree.TheVariants as tree
use Rattle.rml_types.specs.Schemes.{inst}
use Rattle.rml_types.proofs.Callers.{inst-Named, inst-Var}
use Rattle.rml_value.specs.declared.value.Value.{Value, ind-Value, map-Value, out-roll-Value, roll-Value}
use Rattle.rml_value.specs.declared.value.Value.TheOpen.{Value-F}
use Rattle.rml_value.specs.declared.value.Value.TheVariants as value
use Rattle.rml_value.specs.declared.value.TheConstants.{NIL, CONS}
use Rattle.rml_value.specs.Lists.{list_of, items_of}
use Rattle.rml_value.proofs.Callers.{items_of-cons, items_of-nil}
use Rattle.rml_builtin.specs.declared.types.TheConstants.{LIST}
use Rattle.rml_builtin.specs.Types.{a, list}
use Rattle.rml_resolved.specs.declared.parts.Parts.{Parts}
use Rattle.rml_resolved.specs.declared.program.Program.{Program}
use Rattle.rml_resolved.specs.declared.tables.ConDef.{ConDef}
use Rattle.rml_resolved.specs.Facts.{tables_of}
use Rattle.rml_typed.specs.Typed.{AreItems, AreChain}
use Rattle.rml_terms.specs.Evaluating.{chain_of}
use Rattle.rml_sound.specs.Values.{arguments_of, StoreTypes, ValueHas, ValuesHave}
use Rattle.rml_sound.proofs.Begun.{Begun, cons, nil, of-what}
use Rattle.rml_sound.proofs.Canonical.{Opened, of-named}

-- ---- values in a row

pub values-length : (p : Parts) (S : StoreTypes) (vs : List Value) (ts : List SchemeTree) → ValuesHave p S vs ts → length vs ≡ length ts
values-length p S vs ts ValuesHave.none = refl
values-length p S vs ts (ValuesHave.more v t ws us h k) = ap suc (values-length p S ws us k)

-- one value, and two
pub just : (p : Parts) (S : StoreTypes) (v : Value) (t : SchemeTree) → ValueHas p S v t → ValuesHave p S (v ∷ []) (t ∷ [])
just p S v t h = ValuesHave.more v t [] [] h ValuesHave.none

pub both-have : (p : Parts) (S : StoreTypes) (v w : Value) (t u : SchemeTree) → ValueHas p S v t → ValueHas p S w u → ValuesHave p S (v ∷ w ∷ []) (t ∷ u ∷ [])
both-have p S v w t u h k = ValuesHave.more v t (w ∷ []) (u ∷ []) h (just p S w u k)

pub first-has : (p : Parts) (S : StoreTypes) (v : Value) (t : SchemeTree) (vs : List Value) (ts : List SchemeTree) → ValuesHave p S (v ∷ vs) (t ∷ ts) → ValueHas p S v t
first-has p S v t vs ts (ValuesHave.more w u ws us h k) = h

pub rest-have : (p : Parts) (S : StoreTypes) (v : Value) (t : SchemeTree) (vs : List Value) (ts : List SchemeTree) → ValuesHave p S (v ∷ vs) (t ∷ ts) → ValuesHave p S vs ts
rest-have p S v t vs ts (ValuesHave.more w u ws us h k) = k

-- what a map of something there gives
pub mapped : {A B : Type 0} (f : A → B) (o : Option A) (y : B) → option_map f o ≡ Some y → (x : A) × (o ≡ Some x) × (f x ≡ y)
mapped f None y h = absurd (cc)
mapped f (Some x) y h = (x, refl, cc)

-- items of one type are so however they are read
pub items-read : (reads : SchemeTree → SchemeTree) (t : SchemeTree) (ts : List SchemeTree) → AreItems t ts → AreItems (reads t) (map reads ts)
items-read reads t [] are = tt
items-read reads t (u ∷ us) are = (ap reads are.0, items-read reads t us are.1)

pub chain-read : (reads : SchemeTree → SchemeTree) (t : SchemeTree) (ts : List SchemeTree) → reads (list t) ≡ list (reads t) → AreChain t ts → AreChain (reads t) (map reads ts)
chain-read reads t [] l are = are
chain-read reads t (u ∷ []) l are = ap reads are ∙ l
chain-read reads t (u ∷ w ∷ us) l are = (ap reads are.0, chain-read reads t (w ∷ us) l are.1)

-- ---- the types of `::`

inst-a : (t : SchemeTree) → inst (t ∷ []) a ≡ t
inst-a t = inst-Var (t ∷ []) 0

pub inst-cell : (t : SchemeTree) → map (inst (t ∷ [])) (a ∷ list a ∷ []) ≡ t ∷ list t ∷ []
inst-cell t = ap (λ x. x ∷ inst (t ∷ []) (list a) ∷ []) (inst-a t) ∙ ap (λ x. t ∷ x ∷ []) (inst-Named (t ∷ []) LIST (a ∷ []) ∙ ap (λ x. tree.Named LIST (x ∷ [])) (inst-a t))

module _ (p : Program) (S : StoreTypes) where
  abbrev P : Parts
  P = tables_of p

  -- ---- lists that are made

  -- a constructor of a known number on its arguments
  pub begun-has : (c of : ℕ) (takes us : List SchemeTree) (vs : List Value) → Begun p c of takes → ValuesHave P S vs (map (inst us) takes) → ValueHas P S (value.Con c vs) (tree.Named of us)
  begun-has c of takes us vs b h =
      subst (λ (d : ℕ). ValueHas P S (value.Con c vs) (tree.Named d us)) b.datatype
      (ValueHas.con c b.con vs us b.there (subst (λ (ts : List SchemeTree). ValuesHave P S vs (map (inst us) ts)) (sym b.arguments) h))

  pub nil-has : (t : SchemeTree) → ValueHas P S (value.Con NIL []) (list t)
  nil-has t = begun-has NIL LIST [] (t ∷ []) [] (nil p) ValuesHave.none

  pub cons-has : (t : SchemeTree) (v w : Value) → ValueHas P S v t → ValueHas P S w (list t) → ValueHas P S (value.Con CONS (v ∷ w ∷ [])) (list t)
  cons-has t v w h k =
      begun-has CONS LIST (a ∷ list a ∷ []) (t ∷ []) (v ∷ w ∷ []) (cons p) (subst (λ (us : List SchemeTree). ValuesHave P S (v ∷ w ∷ []) us) (sym (inst-cell t)) (both-have P S v w t (list t) h k))

  pub list-has : (t : SchemeTree) (vs : List Value) (ts : List SchemeTree) → AreItems t ts → ValuesHave P S vs ts → ValueHas P S (list_of vs) (list t)
  list-has t vs ts are ValuesHave.none = nil-has t
  list-has t vs ts are (ValuesHave.more v u ws us h k) = cons-has t v (list_of ws) (subst (ValueHas P S v) are.0 h) (list-has t ws us are.1 k)

  pub chain-has : (t : SchemeTree) (vs : List Value) (ts : List SchemeTree) → AreChain t ts → ValuesHave P S vs ts → (v : Value) → chain_of vs ≡ Some v → ValueHas P S v (list t)
  chain-has t vs ts are ValuesHave.none v is = absurd are
  chain-has t vs ts are (ValuesHave.more w u ws us h ValuesHave.none) v is =
      let same : w ≡ v = cc in
      subst (λ (x : Value). ValueHas P S x (list t)) same (subst (ValueHas P S w) are h)
  chain-has t vs ts are (ValuesHave.more w u ws us h (ValuesHave.more x y xs ys i j)) v is =
      let tail = mapped (λ rest. value.Con CONS (w ∷ rest ∷ [])) (chain_of (x ∷ xs)) v is in
      subst (λ (z : Value). ValueHas P S z (list t)) tail.2 (cons-has t w tail.0 (subst (ValueHas P S w) are.0 h) (chain-has t (x ∷ xs) (y ∷ ys) are.1 (ValuesHave.more x y xs ys i j) tail.0 tail.1))

  -- ---- a value of a list type is a list of values of one type

  pub record Listed (v : Value) (t : SchemeTree) : Type 0 where
    pub items : List Value
    pub is : items_of v ≡ Some items
    pub types : List SchemeTree
    pub are : AreItems t types
    pub have : ValuesHave P S items types

  abbrev IsListed : Value → Type 0
  IsListed v = (t : SchemeTree) → ValueHas P S v (list t) → Listed v t

  rolled : (x : Value-F Value) → ((t : SchemeTree) → Opened P S (SchemeTree-F.Named LIST (t ∷ [])) x → Listed (roll-Value x) t) → IsListed (roll-Value x)
  rolled x each t h = each t (subst (Opened P S (SchemeTree-F.Named LIST (t ∷ []))) (out-roll-Value x) (of-named P S LIST (t ∷ []) (roll-Value x) h))

  -- the arguments of a constructor, which is the one of this number
  arguments-have : (c of : ℕ) (takes : List SchemeTree) (d : ConDef) (vs : List Value) (us : List SchemeTree) → Begun p c of takes → slice_get p.cons c ≡ Some d
      → ValuesHave P S vs (map (inst us) (arguments_of P d)) → ValuesHave P S vs (map (inst us) takes)
  arguments-have c of takes d vs us b at h =
      let there = b.there in
      let same : d ≡ b.con = cc in
      subst (λ (ts : List SchemeTree). ValuesHave P S vs (map (inst us) ts)) (ap (arguments_of P) same ∙ b.arguments) h

  abbrev Part : Type 0
  Part = (v : Value) × IsListed v

  nil-listed : (t : SchemeTree) (ps : List Part) → ValuesHave P S (map (λ e. e.0) ps) [] → Listed (roll-Value (Value-F.Con NIL (map (λ e. e.0) ps))) t
  nil-listed t [] h = record { items = []; is = ap items_of (value.rolls-Con NIL []) ∙ items_of-nil; types = []; are = tt; have = ValuesHave.none }
  nil-listed t (e ∷ ps) h = absurd (let count = values-length P S _ [] h in omega arith)

  cons-listed : (t : SchemeTree) (ps : List Part) → ValuesHave P S (map (λ e. e.0) ps) (t ∷ list t ∷ []) → Listed (roll-Value (Value-F.Con CONS (map (λ e. e.0) ps))) t
  cons-listed t [] h = absurd (let count = values-length P S _ (t ∷ list t ∷ []) h in omega arith)
  cons-listed t (e ∷ []) h = absurd (let count = values-length P S _ (t ∷ list t ∷ []) h in omega arith)
  cons-listed t (e ∷ f ∷ []) h =
      let first = first-has P S e.0 t (f.0 ∷ []) (list t ∷ []) h in
      let more = f.1 t (first-has P S f.0 (list t) [] [] (rest-have P S e.0 t (f.0 ∷ []) (list t ∷ []) h)) in
      record {
        items = e.0 ∷ more.items;
        is = ap items_of (value.rolls-Con CONS (e.0 ∷ f.0 ∷ [])) ∙ items_of-cons e.0 f.0 ∙ ap (option_map (λ rest. e.0 ∷ rest)) more.is;
        types = t ∷ more.types;
        are = (refl, more.are);
        have = ValuesHave.more e.0 t more.items more.types first more.have;
      }
  cons-listed t (e ∷ f ∷ g ∷ ps) h = absurd (let count = values-length P S _ (t ∷ list t ∷ []) h in omega arith)

  con-listed : (c : ℕ) (ps : List Part) (t : SchemeTree) → Opened P S (SchemeTree-F.Named LIST (t ∷ [])) (Value-F.Con c (map (λ e. e.0) ps)) → Listed (roll-Value (Value-F.Con c (map (λ e. e.0) ps))) t
  con-listed zero ps t h = nil-listed t ps (arguments-have NIL LIST [] h.0 (map (λ e. e.0) ps) (t ∷ []) (nil p) h.1 h.3)
  con-listed (suc zero) ps t h =
      cons-listed t ps (subst (λ (us : List SchemeTree). ValuesHave P S (map (λ e. e.0) ps) us) (inst-cell t) (arguments-have CONS LIST (a ∷ list a ∷ []) h.0 (map (λ e. e.0) ps) (t ∷ []) (cons p) h.1 h.3))
  con-listed (suc (suc c)) ps t h =
      let e : LIST ≡ h.0.of = h.2 in
      absurd (elim (of-what p (suc (suc c)) h.0 h.1) [ inl w ↦ (let less = w.0 in omega arith) | inr far ↦ omega arith ])

  layer : (y : Value-F Part) → IsListed (roll-Value (map-Value Part Value (λ e. e.0) y))
  layer (Value-F.Int n) = rolled (Value-F.Int n) (λ t h. absurd (omega arith))
  layer (Value-F.Char c) = rolled (Value-F.Char c) (λ t h. absurd (omega arith))
  layer (Value-F.Text s) = rolled (Value-F.Text s) (λ t h. absurd (omega arith))
  layer (Value-F.Con c ps) = rolled (Value-F.Con c (map (λ e. e.0) ps)) (con-listed c ps)
  layer (Value-F.Tuple ps) = rolled (Value-F.Tuple (map (λ e. e.0) ps)) (λ t h. absurd h)
  layer (Value-F.Rel r) = rolled (Value-F.Rel r) (λ t h. absurd h)
  layer (Value-F.Cell k) = rolled (Value-F.Cell k) (λ t h. absurd (let e = h.0 in omega arith))
  layer (Value-F.Vector ps) = rolled (Value-F.Vector (map (λ e. e.0) ps)) (λ t h. absurd (let e = h.0 in omega arith))

  pub listed : (v : Value) → IsListed v
  listed = ind-Value IsListed (λ x y is. subst (λ z. IsListed (roll-Value z)) is (layer y))
