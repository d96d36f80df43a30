-- Built-ins are not Wrong on values of their types, and give values of their types: a line a row, by the kinds of its arguments.
use Rattle.std.proofs.Common.{◌≡◌, ℕ, ℤ, zero, suc, Bool, true, false, List, [], ◌∷◌, ◌++◌, map, length, get_or, Option, Some, None, refl, sym, ap, subst, ◌∙◌, arith}
use Rattle.std.specs.Prelude.{if◌then◌else◌, nat_le, not, option_and_then, slice_get, pos, negsuc, ◌+ℤ◌, ◌-ℤ◌, ◌*ℤ◌, neg_ℤ, int_div, int_le, int_lt}
use Rattle.std.specs.Int.{int_max, int_min}
use Rattle.std.specs.Ordering.{int_eq}
use Rattle.std.proofs.lemmas.Option.{slice_get_within, slice_get-get_or}
use Rattle.rml_types.specs.declared.tree.SchemeTree.{SchemeTree}
use Rattle.rml_types.specs.Schemes.{inst}
use Rattle.rml_types.proofs.Callers.{inst-Named, inst-Var}
use Rattle.rml_value.specs.declared.value.Value.{Value}
use Rattle.rml_value.specs.declared.value.Value.TheVariants as value
use Rattle.rml_value.specs.declared.value.TheConstants.{FALSE, TRUE, NONE, SOME}
use Rattle.rml_value.specs.Lists.{items_of, list_of}
use Rattle.rml_value.specs.Range.{is_integer}
use Rattle.rml_builtin.specs.declared.applied.Applied.{Applied}
use Rattle.rml_builtin.specs.declared.applied.Applied.TheVariants as applied
use Rattle.rml_builtin.specs.declared.applied.Answer.{Answer}
use Rattle.rml_builtin.specs.declared.row.Row.{Row}
use Rattle.rml_builtin.specs.declared.row.Row.TheVariants.{IntAdd, IntSub, IntMul, IntDiv, IntMod, IntNeg, IntAbs, IntMax, IntMin, IntLt, IntLe, IntGt, IntGe, IntEq, IntNe, IntString, StringInt, IntChar, CharInt, StringLength, StringNth, StringAppend, StringList, ListString, LvarNew, LvarGet, LvarSet, Print, ListVector, VectorList, VectorLength, VectorNth}
use Rattle.rml_builtin.specs.declared.types.TheConstants.{INT, CHAR, STRING, LIST, LVAR, VECTOR, BOOL, OPTION}
use Rattle.rml_builtin.specs.Applied.{Store, gives_one, ranged, truth, bool_value, or_no, or_wrong}
use Rattle.rml_builtin.specs.Arguments.{int_at, char_at, text_at, cell_at, vector_at, int_of, char_of, text_of, cell_of, vector_of, with_char, chars_in, chars_of, pair_of}
use Rattle.rml_builtin.specs.BuiltIns.{Effect, over_one, over_two, apply}
use Rattle.rml_builtin.specs.Decimal.{decimal_of, read}
use Rattle.rml_builtin.specs.Integers.{divided, remaining, absolute}
use Rattle.rml_builtin.specs.Lvars.{get_lvar, option_value, set_entry, set_lvar}
use Rattle.rml_builtin.specs.Table.{inputs_of, outputs_of}
use Rattle.rml_builtin.specs.Texts.{int_from, char_from, nth_char, printed}
use Rattle.rml_builtin.specs.Types.{a, int, char, string, bool, list, lvar, vector, option}
use Rattle.rml_builtin.specs.Vectors.{nth_item}
use Rattle.rml_resolved.specs.declared.program.Program.{Program}
use Rattle.rml_resolved.specs.declared.parts.Parts.{Parts}
use Rattle.rml_resolved.specs.Facts.{tables_of}
use Rattle.rml_typed.specs.Typed.{AreItems}
use Rattle.rml_sound.specs.Values.{StoreTypes, ValueHas, ValuesHave, StoreHas}
use Rattle.rml_sound.specs.Safe.{AnswerHas, SafeApplied}
use Rattle.rml_sound.proofs.Basic.{cell-value, char-value, int-value, text-value, vector-value}
use Rattle.rml_sound.proofs.Begun.{falsehood, none-option, some-option, truth as true-con}
use Rattle.rml_sound.proofs.Listed.{begun-has, just, list-has, listed, Listed}
use Rattle.rml_sound.proofs.Stores.{grows-self, slice_get-last, store-new, store-set}

-- ---- going on with arguments that are there

given : {A : Type 0} (Q : Answer → Type 0) (o : Option A) (x : A) (go : A → Applied) → o ≡ Some x → SafeApplied Q (go x) → SafeApplied Q (or_wrong o go)
given {A} Q o x go is h = subst (λ (y : Option A). SafeApplied Q (or_wrong y go)) (sym is) h

pairs : {A B : Type 0} (o : Option A) (q : Option B) (x : A) (y : B) → o ≡ Some x → q ≡ Some y → pair_of o q ≡ Some (x, y)
pairs {A} {B} o q x y e f = ap (λ (z : Option A). pair_of z q) e ∙ ap (λ (z : Option B). pair_of (Some x) z) f

if-given : {A : Type 0} (Q : Answer → Type 0) (o : Option A) (go : A → Applied) → ((x : A) → o ≡ Some x → SafeApplied Q (go x)) → SafeApplied Q (or_no o go)
if-given Q None go each = tt
if-given Q (Some x) go each = each x refl

where-true : (Q : Answer → Type 0) (b : Bool) (w : Applied) → SafeApplied Q w → SafeApplied Q (if b then w else applied.No)
where-true Q true w h = h
where-true Q false w h = tt

where-false : (Q : Answer → Type 0) (b : Bool) (w : Applied) → SafeApplied Q w → SafeApplied Q (if b then applied.No else w)
where-false Q true w h = tt
where-false Q false w h = h

-- ---- characters, as values

pub all-chars : (p : Program) (S : StoreTypes) (cs : List ℕ) → ValuesHave (tables_of p) S (map value.Char cs) (map (λ (c : ℕ). char) cs)
all-chars p S [] = ValuesHave.none
all-chars p S (c ∷ cs) = ValuesHave.more (value.Char c) char (map value.Char cs) (map (λ (c : ℕ). char) cs) (ValueHas.character c) (all-chars p S cs)

are-chars : (cs : List ℕ) → AreItems char (map (λ (c : ℕ). char) cs)
are-chars [] = tt
are-chars (c ∷ cs) = (refl, are-chars cs)

chars-given : (p : Program) (S : StoreTypes) (vs : List Value) (ts : List SchemeTree) → AreItems char ts → ValuesHave (tables_of p) S vs ts → (cs : List ℕ) × (chars_in vs ≡ Some cs)
chars-given p S vs ts are ValuesHave.none = ([], refl)
chars-given p S vs ts are (ValuesHave.more v t ws us h k) =
    let c = char-value p S v (subst (ValueHas (tables_of p) S v) are.0 h) in
    let rest = chars-given p S ws us are.1 k in
    (c.0 ∷ rest.0, ap (λ (o : Option ℕ). with_char o (chars_in ws)) (ap char_at c.1) ∙ ap (with_char (Some c.0)) rest.1)

item-at : (p : Program) (S : StoreTypes) (t : SchemeTree) (vs : List Value) (ts : List SchemeTree) (k : ℕ) (v : Value) → AreItems t ts → ValuesHave (tables_of p) S vs ts → slice_get vs k ≡ Some v → ValueHas (tables_of p) S v t
item-at p S t vs ts k v are ValuesHave.none is = absurd (cc)
item-at p S t vs ts zero v are (ValuesHave.more w u ws us h hs) is = (let same : w ≡ v = cc in subst (λ (x : Value). ValueHas (tables_of p) S x t) same (subst (ValueHas (tables_of p) S w) are.0 h))
item-at p S t vs ts (suc k) v are (ValuesHave.more w u ws us h hs) is = item-at p S t ws us k v are.1 hs is

module _ (p : Program) (S : StoreTypes) (ts : List SchemeTree) (store : Store) (stored : StoreHas (tables_of p) S store) where
  abbrev P : Parts
  P = tables_of p

  abbrev Q : List SchemeTree → Answer → Type 0
  Q outs = AnswerHas P S (map (inst ts) outs)

  abbrev Has : Value → SchemeTree → Type 0
  Has v t = ValueHas P S v (inst ts t)

  -- ---- what arguments are

  an-int : (v : Value) → Has v int → (n : ℤ) × (int_of v ≡ Some n)
  an-int v h = let k = int-value p S v (subst (ValueHas P S v) (inst-Named ts INT []) h) in (k.0, ap int_at k.1)

  a-char : (v : Value) → Has v char → (c : ℕ) × (char_of v ≡ Some c)
  a-char v h = let k = char-value p S v (subst (ValueHas P S v) (inst-Named ts CHAR []) h) in (k.0, ap char_at k.1)

  a-text : (v : Value) → Has v string → (t : List ℕ) × (text_of v ≡ Some t)
  a-text v h = let k = text-value p S v (subst (ValueHas P S v) (inst-Named ts STRING []) h) in (k.0, ap text_at k.1)

  a-cell : (v : Value) → Has v (lvar a) → (k : ℕ) × (cell_of v ≡ Some k) × (slice_get S k ≡ Some (inst ts a))
  a-cell v h = let k = cell-value p S (inst ts a) v (subst (ValueHas P S v) (inst-Named ts LVAR (a ∷ [])) h) in (k.0, ap cell_at k.1, k.2)

  a-vector : (v : Value) → Has v (vector a) → (vs : List Value) × (vector_of v ≡ Some vs) × (us : List SchemeTree) × AreItems (inst ts a) us × ValuesHave P S vs us
  a-vector v h = let k = vector-value p S (inst ts a) v (subst (ValueHas P S v) (inst-Named ts VECTOR (a ∷ [])) h) in (k.0, ap vector_at k.1, k.2, k.3, k.4)

  a-list : (t : SchemeTree) (v : Value) → Has v (list t) → Listed p S v (inst ts t)
  a-list t v h = listed p S v (inst ts t) (subst (ValueHas P S v) (inst-Named ts LIST (t ∷ [])) h)

  -- ---- what results are

  one-result : (v : Value) (t : SchemeTree) → Has v t → SafeApplied (Q (t ∷ [])) (gives_one v store)
  one-result v t h = record { T = S; grows = grows-self S; store = stored; values = just P S v (inst ts t) h }

  no-result : Q [] (record { values = []; store = store })
  no-result = record { T = S; grows = grows-self S; store = stored; values = ValuesHave.none }

  int-result : (n : ℤ) → SafeApplied (Q (int ∷ [])) (gives_one (value.Int n) store)
  int-result n = one-result (value.Int n) int (subst (ValueHas P S (value.Int n)) (sym (inst-Named ts INT [])) (ValueHas.integer n))

  char-result : (c : ℕ) → SafeApplied (Q (char ∷ [])) (gives_one (value.Char c) store)
  char-result c = one-result (value.Char c) char (subst (ValueHas P S (value.Char c)) (sym (inst-Named ts CHAR [])) (ValueHas.character c))

  text-result : (t : List ℕ) → SafeApplied (Q (string ∷ [])) (gives_one (value.Text t) store)
  text-result t = one-result (value.Text t) string (subst (ValueHas P S (value.Text t)) (sym (inst-Named ts STRING [])) (ValueHas.text t))

  ranged-result : (n : ℤ) → SafeApplied (Q (int ∷ [])) (ranged n store)
  ranged-result n = where-true (Q (int ∷ [])) (is_integer n) (gives_one (value.Int n) store) (int-result n)

  bool-has : (b : Bool) → ValueHas P S (bool_value b) bool
  bool-has true = begun-has p S TRUE BOOL [] [] [] (true-con p) ValuesHave.none
  bool-has false = begun-has p S FALSE BOOL [] [] [] (falsehood p) ValuesHave.none

  truth-result : (b : Bool) → SafeApplied (Q (bool ∷ [])) (truth b store)
  truth-result b = one-result (bool_value b) bool (subst (ValueHas P S (bool_value b)) (sym (inst-Named ts BOOL [])) (bool-has b))

  list-result : (t : SchemeTree) (vs : List Value) (us : List SchemeTree) → AreItems (inst ts t) us → ValuesHave P S vs us → SafeApplied (Q (list t ∷ [])) (gives_one (list_of vs) store)
  list-result t vs us are h = one-result (list_of vs) (list t) (subst (ValueHas P S (list_of vs)) (sym (inst-Named ts LIST (t ∷ []))) (list-has p S (inst ts t) vs us are h))

  vector-result : (vs : List Value) (us : List SchemeTree) → AreItems (inst ts a) us → ValuesHave P S vs us → SafeApplied (Q (vector a ∷ [])) (gives_one (value.Vector vs) store)
  vector-result vs us are h = one-result (value.Vector vs) (vector a) (subst (ValueHas P S (value.Vector vs)) (sym (inst-Named ts VECTOR (a ∷ []))) (ValueHas.items vs us (inst ts a) are h))

  -- ---- rows by their arguments

  int-row : (outs : List SchemeTree) (go : ℤ → Effect) (vs : List Value) → ValuesHave P S vs (map (inst ts) (int ∷ [])) → ((n : ℤ) → SafeApplied (Q outs) (go n store)) → SafeApplied (Q outs) (over_one int_of go vs store)
  int-row outs go vs (ValuesHave.more v t ws us h ValuesHave.none) each = let k = an-int v h in given (Q outs) (int_of v) k.0 (λ n. go n store) k.1 (each k.0)

  char-row : (outs : List SchemeTree) (go : ℕ → Effect) (vs : List Value) → ValuesHave P S vs (map (inst ts) (char ∷ [])) → ((c : ℕ) → SafeApplied (Q outs) (go c store)) → SafeApplied (Q outs) (over_one char_of go vs store)
  char-row outs go vs (ValuesHave.more v t ws us h ValuesHave.none) each = let k = a-char v h in given (Q outs) (char_of v) k.0 (λ c. go c store) k.1 (each k.0)

  text-row : (outs : List SchemeTree) (go : List ℕ → Effect) (vs : List Value) → ValuesHave P S vs (map (inst ts) (string ∷ [])) → ((t : List ℕ) → SafeApplied (Q outs) (go t store)) → SafeApplied (Q outs) (over_one text_of go vs store)
  text-row outs go vs (ValuesHave.more v t ws us h ValuesHave.none) each = let k = a-text v h in given (Q outs) (text_of v) k.0 (λ t. go t store) k.1 (each k.0)

  ints-row : (outs : List SchemeTree) (go : ℤ → ℤ → Effect) (vs : List Value) → ValuesHave P S vs (map (inst ts) (int ∷ int ∷ [])) → ((m n : ℤ) → SafeApplied (Q outs) (go m n store)) → SafeApplied (Q outs) (over_two int_of int_of go vs store)
  ints-row outs go vs (ValuesHave.more v t ws us h (ValuesHave.more w u xs rs i ValuesHave.none)) each =
      let k = an-int v h in
      let l = an-int w i in
      given (Q outs) (pair_of (int_of v) (int_of w)) (k.0, l.0) (λ q. go q.0 q.1 store) (pairs _ _ k.0 l.0 k.1 l.1) (each k.0 l.0)

  text-int-row : (outs : List SchemeTree) (go : List ℕ → ℤ → Effect) (vs : List Value) → ValuesHave P S vs (map (inst ts) (string ∷ int ∷ [])) → ((t : List ℕ) (n : ℤ) → SafeApplied (Q outs) (go t n store)) → SafeApplied (Q outs) (over_two text_of int_of go vs store)
  text-int-row outs go vs (ValuesHave.more v t ws us h (ValuesHave.more w u xs rs i ValuesHave.none)) each =
      let k = a-text v h in
      let l = an-int w i in
      given (Q outs) (pair_of (text_of v) (int_of w)) (k.0, l.0) (λ q. go q.0 q.1 store) (pairs _ _ k.0 l.0 k.1 l.1) (each k.0 l.0)

  texts-row : (outs : List SchemeTree) (go : List ℕ → List ℕ → Effect) (vs : List Value) → ValuesHave P S vs (map (inst ts) (string ∷ string ∷ [])) → ((t u : List ℕ) → SafeApplied (Q outs) (go t u store)) → SafeApplied (Q outs) (over_two text_of text_of go vs store)
  texts-row outs go vs (ValuesHave.more v t ws us h (ValuesHave.more w u xs rs i ValuesHave.none)) each =
      let k = a-text v h in
      let l = a-text w i in
      given (Q outs) (pair_of (text_of v) (text_of w)) (k.0, l.0) (λ q. go q.0 q.1 store) (pairs _ _ k.0 l.0 k.1 l.1) (each k.0 l.0)

  -- ---- where a line is too short

  divided-result : (m n : ℤ) → SafeApplied (Q (int ∷ [])) (divided m n store)
  divided-result m n = where-false (Q (int ∷ [])) (int_eq n (pos 0)) (ranged (int_div m n) store) (ranged-result (int_div m n))

  remaining-result : (m n : ℤ) → SafeApplied (Q (int ∷ [])) (remaining m n store)
  remaining-result m n = where-false (Q (int ∷ [])) (int_eq n (pos 0)) (gives_one (value.Int (m -ℤ (n *ℤ int_div m n))) store) (int-result (m -ℤ (n *ℤ int_div m n)))

  char-from-result : (n : ℤ) → SafeApplied (Q (char ∷ [])) (char_from n store)
  char-from-result (pos n) = where-true (Q (char ∷ [])) (nat_le n 255) (gives_one (value.Char n) store) (char-result n)
  char-from-result (negsuc n) = tt

  nth-char-result : (t : List ℕ) (n : ℤ) → SafeApplied (Q (char ∷ [])) (nth_char t n store)
  nth-char-result t (pos n) = if-given (Q (char ∷ [])) (slice_get t n) (λ c. gives_one (value.Char c) store) (λ c is. char-result c)
  nth-char-result t (negsuc n) = tt

  chars-result : (t : List ℕ) → SafeApplied (Q (list char ∷ [])) (gives_one (list_of (map value.Char t)) store)
  chars-result t =
      list-result char (map value.Char t) (map (λ (c : ℕ). char) t)
      (subst (λ (u : SchemeTree). AreItems u (map (λ (c : ℕ). char) t)) (sym (inst-Named ts CHAR [])) (are-chars t)) (all-chars p S t)

  from-chars : (vs : List Value) → ValuesHave P S vs (map (inst ts) (list char ∷ [])) → SafeApplied (Q (string ∷ [])) (apply ListString vs store)
  from-chars vs (ValuesHave.more v t ws us h ValuesHave.none) =
      let l = a-list char v h in
      let c = chars-given p S l.items l.types (subst (λ (u : SchemeTree). AreItems u l.types) (inst-Named ts CHAR []) l.are) l.have in
      given (Q (string ∷ [])) (chars_of v) c.0 (λ cs. gives_one (value.Text cs) store) (ap (option_and_then chars_in) l.is ∙ c.1) (text-result c.0)

  -- ---- logical variables

  new-row : (vs : List Value) → ValuesHave P S vs [] → SafeApplied (Q (lvar a ∷ [])) (apply LvarNew vs store)
  new-row vs ValuesHave.none =
      let u = inst ts a in
      let T = S ++ u ∷ [] in
      let at : slice_get T (length store) ≡ Some u = subst (λ (k : ℕ). slice_get T k ≡ Some u) stored.long (slice_get-last S u) in
      record {
        T = T;
        grows = record { news = u ∷ []; is = refl };
        store = store-new P S u store stored;
        values = just P T (value.Cell (length store)) (inst ts (lvar a)) (subst (ValueHas P T (value.Cell (length store))) (sym (inst-Named ts LVAR (a ∷ []))) (ValueHas.cell (length store) u at));
      }

  held : (k : ℕ) (t : SchemeTree) → slice_get S k ≡ Some t → (h : Option Value) × (slice_get store k ≡ Some h)
  held k t at = (get_or store k None, slice_get-get_or store k None (let l = slice_get_within S k t at in let e = stored.long in omega arith))

  option-has : (k : ℕ) (o : Option Value) → slice_get S k ≡ Some (inst ts a) → slice_get store k ≡ Some o → ValueHas P S (option_value o) (option (inst ts a))
  option-has k None at is = begun-has p S NONE OPTION [] (inst ts a ∷ []) [] (none-option p) ValuesHave.none
  option-has k (Some v) at is =
      begun-has p S SOME OPTION (a ∷ []) (inst ts a ∷ []) (v ∷ []) (some-option p)
      (just P S v (inst (inst ts a ∷ []) a) (subst (ValueHas P S v) (sym (inst-Var (inst ts a ∷ []) 0)) (stored.typed k (inst ts a) v at is)))

  get-row : (vs : List Value) → ValuesHave P S vs (map (inst ts) (lvar a ∷ [])) → SafeApplied (Q (option a ∷ [])) (apply LvarGet vs store)
  get-row vs (ValuesHave.more v t ws us h ValuesHave.none) =
      let k = a-cell v h in
      let o = held k.0 (inst ts a) k.2 in
      given (Q (option a ∷ [])) (cell_of v) k.0 (λ j. get_lvar j store) k.1
      (given (Q (option a ∷ [])) (slice_get store k.0) o.0 (λ x. gives_one (option_value x) store) o.1
      (one-result (option_value o.0) (option a) (subst (ValueHas P S (option_value o.0)) (sym (inst-Named ts OPTION (a ∷ []))) (option-has k.0 o.0 k.2 o.1))))

  set-at : (k : ℕ) (v : Value) (o : Option Value) → slice_get S k ≡ Some (inst ts a) → Has v a → SafeApplied (Q []) (set_entry o k v store)
  set-at k v (Some old) at h = tt
  set-at k v None at h = record { T = S; grows = grows-self S; store = store-set P S k (inst ts a) v store at h stored; values = ValuesHave.none }

  set-row : (vs : List Value) → ValuesHave P S vs (map (inst ts) (lvar a ∷ a ∷ [])) → SafeApplied (Q []) (apply LvarSet vs store)
  set-row vs (ValuesHave.more v t ws us h (ValuesHave.more w u xs rs i ValuesHave.none)) =
      let k = a-cell v h in
      let o = held k.0 (inst ts a) k.2 in
      given (Q []) (pair_of (cell_of v) (Some w)) (k.0, w) (λ q. set_lvar q.0 q.1 store) (pairs _ _ k.0 w k.1 refl)
      (given (Q []) (slice_get store k.0) o.0 (λ x. set_entry x k.0 w store) o.1 (set-at k.0 w o.0 k.2 i))

  -- ---- vectors

  to-vector : (vs : List Value) → ValuesHave P S vs (map (inst ts) (list a ∷ [])) → SafeApplied (Q (vector a ∷ [])) (apply ListVector vs store)
  to-vector vs (ValuesHave.more v t ws us h ValuesHave.none) =
      let l = a-list a v h in
      given (Q (vector a ∷ [])) (items_of v) l.items (λ items. gives_one (value.Vector items) store) l.is (vector-result l.items l.types l.are l.have)

  to-list : (vs : List Value) → ValuesHave P S vs (map (inst ts) (vector a ∷ [])) → SafeApplied (Q (list a ∷ [])) (apply VectorList vs store)
  to-list vs (ValuesHave.more v t ws us h ValuesHave.none) =
      let k = a-vector v h in
      given (Q (list a ∷ [])) (vector_of v) k.0 (λ items. gives_one (list_of items) store) k.1 (list-result a k.0 k.2 k.3 k.4)

  vector-length : (vs : List Value) → ValuesHave P S vs (map (inst ts) (vector a ∷ [])) → SafeApplied (Q (int ∷ [])) (apply VectorLength vs store)
  vector-length vs (ValuesHave.more v t ws us h ValuesHave.none) =
      let k = a-vector v h in
      given (Q (int ∷ [])) (vector_of v) k.0 (λ items. ranged (pos (length items)) store) k.1 (ranged-result (pos (length k.0)))

  nth-result : (vs : List Value) (us : List SchemeTree) (n : ℤ) → AreItems (inst ts a) us → ValuesHave P S vs us → SafeApplied (Q (a ∷ [])) (nth_item vs n store)
  nth-result vs us (pos n) are h = if-given (Q (a ∷ [])) (slice_get vs n) (λ v. gives_one v store) (λ v is. one-result v a (item-at p S (inst ts a) vs us n v are h is))
  nth-result vs us (negsuc n) are h = tt

  nth-row : (vs : List Value) → ValuesHave P S vs (map (inst ts) (vector a ∷ int ∷ [])) → SafeApplied (Q (a ∷ [])) (apply VectorNth vs store)
  nth-row vs (ValuesHave.more v t ws us h (ValuesHave.more w u xs rs i ValuesHave.none)) =
      let k = a-vector v h in
      let l = an-int w i in
      given (Q (a ∷ [])) (pair_of (vector_of v) (int_of w)) (k.0, l.0) (λ q. nth_item q.0 q.1 store) (pairs _ _ k.0 l.0 k.1 l.1) (nth-result k.0 k.2 l.0 k.3 k.4)

  -- ---- the table

  pub row-safe : (row : Row) (vs : List Value) → ValuesHave P S vs (map (inst ts) (inputs_of row)) → SafeApplied (Q (outputs_of row)) (apply row vs store)
  row-safe IntAdd vs h = ints-row (int ∷ []) (λ m n. ranged (m +ℤ n)) vs h (λ m n. ranged-result (m +ℤ n))
  row-safe IntSub vs h = ints-row (int ∷ []) (λ m n. ranged (m -ℤ n)) vs h (λ m n. ranged-result (m -ℤ n))
  row-safe IntMul vs h = ints-row (int ∷ []) (λ m n. ranged (m *ℤ n)) vs h (λ m n. ranged-result (m *ℤ n))
  row-safe IntDiv vs h = ints-row (int ∷ []) divided vs h divided-result
  row-safe IntMod vs h = ints-row (int ∷ []) remaining vs h remaining-result
  row-safe IntNeg vs h = int-row (int ∷ []) (λ n. ranged (neg_ℤ n)) vs h (λ n. ranged-result (neg_ℤ n))
  row-safe IntAbs vs h = int-row (int ∷ []) (λ n. ranged (absolute n)) vs h (λ n. ranged-result (absolute n))
  row-safe IntMax vs h = ints-row (int ∷ []) (λ m n. gives_one (value.Int (int_max m n))) vs h (λ m n. int-result (int_max m n))
  row-safe IntMin vs h = ints-row (int ∷ []) (λ m n. gives_one (value.Int (int_min m n))) vs h (λ m n. int-result (int_min m n))
  row-safe IntLt vs h = ints-row (bool ∷ []) (λ m n. truth (int_lt m n)) vs h (λ m n. truth-result (int_lt m n))
  row-safe IntLe vs h = ints-row (bool ∷ []) (λ m n. truth (int_le m n)) vs h (λ m n. truth-result (int_le m n))
  row-safe IntGt vs h = ints-row (bool ∷ []) (λ m n. truth (int_lt n m)) vs h (λ m n. truth-result (int_lt n m))
  row-safe IntGe vs h = ints-row (bool ∷ []) (λ m n. truth (int_le n m)) vs h (λ m n. truth-result (int_le n m))
  row-safe IntEq vs h = ints-row (bool ∷ []) (λ m n. truth (int_eq m n)) vs h (λ m n. truth-result (int_eq m n))
  row-safe IntNe vs h = ints-row (bool ∷ []) (λ m n. truth (not (int_eq m n))) vs h (λ m n. truth-result (not (int_eq m n)))
  row-safe IntString vs h = int-row (string ∷ []) (λ n. gives_one (value.Text (decimal_of n))) vs h (λ n. text-result (decimal_of n))
  row-safe StringInt vs h = text-row (int ∷ []) int_from vs h (λ t. if-given (Q (int ∷ [])) (read t) (λ n. gives_one (value.Int n) store) (λ n is. int-result n))
  row-safe IntChar vs h = int-row (char ∷ []) char_from vs h char-from-result
  row-safe CharInt vs h = char-row (int ∷ []) (λ c. gives_one (value.Int (pos c))) vs h (λ c. int-result (pos c))
  row-safe StringLength vs h = text-row (int ∷ []) (λ t. ranged (pos (length t))) vs h (λ t. ranged-result (pos (length t)))
  row-safe StringNth vs h = text-int-row (char ∷ []) nth_char vs h nth-char-result
  row-safe StringAppend vs h = texts-row (string ∷ []) (λ t u. gives_one (value.Text (t ++ u))) vs h (λ t u. text-result (t ++ u))
  row-safe StringList vs h = text-row (list char ∷ []) (λ t. gives_one (list_of (map value.Char t))) vs h chars-result
  row-safe ListString vs h = from-chars vs h
  row-safe LvarNew vs h = new-row vs h
  row-safe LvarGet vs h = get-row vs h
  row-safe LvarSet vs h = set-row vs h
  row-safe Print vs h = text-row [] printed vs h (λ t. no-result)
  row-safe ListVector vs h = to-vector vs h
  row-safe VectorList vs h = to-list vs h
  row-safe VectorLength vs h = vector-length vs h
  row-safe VectorNth vs h = nth-row vs h
