-- What two cells and the heads of their blocks tell of their values.
use Rattle.std.proofs.Common.{◌≡◌, ◌≢◌, ◌&&◌, eqb, eq-eqb, ℕ, zero, suc, ◌+◌, ◌-◌, ◌/◌, ◌%◌, ◌^◌, ◌<◌, ◌≤◌, List, [], ◌∷◌, Option, Some, length, get_or, refl, sym, ap, subst, ◌∙◌, arith, ◌⊎◌, inl, inr}
use Rattle.std.specs.Prelude.{ℤ, pos, negsuc, nat_lt, if◌then◌else◌, Bool, true, false}
use Rattle.std.proofs.lemmas.List.{get_or_past, get_or_default}
use Rattle.std.proofs.lemmas.Bool.{cases_lt}
use Rattle.std.specs.Ordering.{int_eq}
use Rattle.std.proofs.lemmas.Bool.{eqb-true}
use Rattle.std.proofs.lemmas.Bool.Decides.{eqb_tells, Decides-int_eq}
use Rattle.rml_value.specs.declared.value.Value.{Value, out-Value}
use Rattle.rml_value.specs.declared.value.Value.TheOpen.{Value-F}
use Rattle.rml_value.specs.declared.value.Value.TheVariants as value
use Rattle.rml_value.specs.declared.value.Value.TheVariants.{outs-Cell}
use Rattle.rml_heap.specs.declared.cell.Cell.{Cell}
use Rattle.rml_heap.specs.HeapState.{unset_cell}
use Rattle.rml_heap.specs.Form as form
use Rattle.rml_heap.specs.Form.{Form, form_of, natural, bare, char_form, rel_form, con_form, applied_form, address, or_zero}
use Rattle.rml_heap.specs.Reading.{cell_at, behind, form_before, look, looks, place_of, parts_of, block_value, read_form, value_below, Stands, AllStand}
use Rattle.rml_heap.specs.Compared.{RunStands, ByParts}
use Rattle.rml_heap.proofs.Readings.{unset-form}
use Rattle.rml_heap.proofs.Forms.{cell_of, has-form, same-form}
use Rattle.rml_heap.proofs.Outlines.{root, map-some, and-both}
use Rattle.rml_heap.proofs.Comparisons.{BlockStands, block-stands, same-root, same-value, lvar-stands, blocks-same}

-- ---- words and heads

abbrev pub IsPlain : Form → Type 0
IsPlain (form.Int i) = Unit {0}
IsPlain (form.Char c) = Unit {0}
IsPlain (form.Rel r) = Unit {0}
IsPlain (form.Con c) = Unit {0}
IsPlain _ = ⊥

abbrev pub IsHead : Form → Type 0
IsHead (form.Text n) = Unit {0}
IsHead (form.ConBlock c n) = Unit {0}
IsHead (form.Tuple n) = Unit {0}
IsHead form.ConsBlock = Unit {0}
IsHead form.Lvar = Unit {0}
IsHead (form.Vector n) = Unit {0}
IsHead _ = ⊥

plain-no_head : (f : Form) → IsPlain f → IsHead f → ⊥
plain-no_head (form.Int i) p h = absurd h
plain-no_head (form.Char c) p h = absurd h
plain-no_head (form.Rel r) p h = absurd h
plain-no_head (form.Con c) p h = absurd h
plain-no_head _ p h = absurd p

plain-root : (cells : List Cell) (f : Form) → IsPlain f → root cells f ≡ f
plain-root cells (form.Block at) p = absurd p
plain-root cells _ p = refl

pub plain-some : (f : Form) → IsPlain f → f ≢ form.Other
plain-some f p e = let P : Form → Type 0 = IsPlain in subst P e p

pub head-some : (f : Form) → IsHead f → f ≢ form.Other
head-some f p e = let P : Form → Type 0 = IsHead in subst P e p

made-head : (read : Cell → Option Value) (names : List ℕ) (at : ℕ) (f : Form) (parts : List Cell) (v : Value) → block_value read names at f parts ≡ Some v → IsHead f
made-head read names at (form.Text n) parts v h = tt
made-head read names at (form.ConBlock c n) parts v h = tt
made-head read names at (form.Tuple n) parts v h = tt
made-head read names at form.ConsBlock parts v h = tt
made-head read names at form.Lvar parts v h = tt
made-head read names at (form.Vector n) parts v h = tt
made-head read names at _ parts v h = absurd (cc)

-- a cell that stands for a value is a word or a block's address
pub record IsBlock (cells : List Cell) (names : List ℕ) (top : ℕ) (c : Cell) (v : Value) : Type 0 where
  pub at : ℕ
  pub form_is : form_of c ≡ form.Block at
  pub stands : BlockStands cells names top at v
  pub head : IsHead (form_of (look cells at))

read-plain : (read : ℕ → Cell → Option Value) (cells : List Cell) (names : List ℕ) (top : ℕ) (f : Form) (v : Value) → read_form read cells names top f ≡ Some v → IsPlain f ⊎ ((at : ℕ) × (f ≡ form.Block at))
read-plain read cells names top (form.Int i) v h = inl tt
read-plain read cells names top (form.Char c) v h = inl tt
read-plain read cells names top (form.Rel r) v h = inl tt
read-plain read cells names top (form.Con c) v h = inl tt
read-plain read cells names top (form.Block at) v h = inr (at, refl)
read-plain read cells names top _ v h = absurd (cc)

pub standing : (cells : List Cell) (names : List ℕ) (top : ℕ) (c : Cell) (v : Value) → Stands cells names top c v → IsPlain (form_of c) ⊎ IsBlock cells names top c v
unfolding value_below
standing cells names top c v (zero, h) = absurd (cc)
standing cells names top c v (suc depth, h) =
    elim (read-plain (value_below depth cells names) cells names top (form_of c) v h) [
      | inl plain ↦ inl plain
      | inr block ↦
          let stands : BlockStands cells names top block.0 v = block-stands cells names top block.0 c v block.1 (suc depth, h) in
          inr (record { at = block.0; form_is = block.1; stands = stands; head = made-head (value_below stands.depth cells names block.0) names block.0 (form_of (look cells block.0)) _ v stands.value })
    ]

-- ---- the cells that are read are there

behind-is : (f : Form) (c : Cell) → (behind f c ≡ unset_cell) ⊎ (behind f c ≡ c)
behind-is form.Lvar c = inl refl
behind-is _ c = inr refl

pub look-is : (cells : List Cell) (at : ℕ) → (look cells at ≡ unset_cell) ⊎ (look cells at ≡ cell_at cells at)
unfolding look
look-is cells at = behind-is (form_before cells at) (cell_at cells at)

unset-no_head : IsHead (form_of unset_cell) → ⊥
unset-no_head h = let P : Form → Type 0 = IsHead in let g : IsHead form.Unset = subst P unset-form h in absurd g

pub head-is : (cells : List Cell) (at : ℕ) → IsHead (form_of (look cells at)) → look cells at ≡ cell_at cells at
head-is cells at head =
    elim (look-is cells at) [
      | inl hidden ↦ let P : Cell → Type 0 = λ c. IsHead (form_of c) in absurd (unset-no_head (subst P hidden head))
      | inr seen ↦ seen
    ]

pub head-inside : (cells : List Cell) (at : ℕ) → IsHead (form_of (look cells at)) → at < length cells
head-inside cells at head =
    elim (cases_lt at (length cells)) [
      | inl inside ↦ inside
      | inr past ↦
          let P : Cell → Type 0 = λ c. IsHead (form_of c) in
          absurd (unset-no_head (subst P (head-is cells at head ∙ get_or_past cells at unset_cell past) head))
    ]

-- ---- what is told

pub told-same : (cells : List Cell) (names : List ℕ) (top below : ℕ) (a b : Cell) (v w : Value) → a ≡ b → Stands cells names top a v → Stands cells names below b w → v ≡ w
told-same cells names top below a b v w same h k =
    let P : Cell → Type 0 = λ c. Stands cells names below c w in
    same-value cells names top below a v w h (subst P (sym same) k)

pub block-kind : (c : Cell) (at : ℕ) → form_of c ≡ form.Block at → c ≡ record { kind = 3; number = pos at }
block-kind c at is =
    let some : form_of c ≢ form.Other = λ e. let f : form.Block at ≡ form.Other = sym is ∙ e in cc in
    (has-form c.kind c.number).cell some ∙ ap cell_of is

-- different cells that are not both blocks
pub told-words : (cells : List Cell) (names : List ℕ) (top below : ℕ) (a b : Cell) (v w : Value) → a ≢ b → (a.kind ≢ 3) ⊎ (b.kind ≢ 3) → Stands cells names top a v → Stands cells names below b w → v ≢ w
told-words cells names top below a b v w differ words h k same =
    let P : Value → Type 0 = λ u. Stands cells names below b u in
    let roots : root cells (form_of a) ≡ root cells (form_of b) = same-root cells names top below a b v h (subst P (sym same) k) in
    elim (standing cells names top a v h) [
      | inl plain ↦
          elim (standing cells names below b w k) [
            | inl plain' ↦ differ (same-form a b (sym (plain-root cells (form_of a) plain) ∙ roots ∙ plain-root cells (form_of b) plain') (plain-some (form_of a) plain))
            | inr block ↦
                let is : form_of a ≡ form_of (look cells block.at) = sym (plain-root cells (form_of a) plain) ∙ roots ∙ ap (root cells) block.form_is in
                let Q : Form → Type 0 = IsPlain in
                plain-no_head (form_of (look cells block.at)) (subst Q is plain) block.head
          ]
      | inr block ↦
          elim (standing cells names below b w k) [
            | inl plain ↦
                let is : form_of b ≡ form_of (look cells block.at) = sym (plain-root cells (form_of b) plain) ∙ sym roots ∙ ap (root cells) block.form_is in
                let Q : Form → Type 0 = IsPlain in
                plain-no_head (form_of (look cells block.at)) (subst Q is plain) block.head
            | inr block' ↦
                elim words [
                  | inl left ↦ left (ap (λ (c : Cell). c.kind) (block-kind a block.at block.form_is))
                  | inr right ↦ right (ap (λ (c : Cell). c.kind) (block-kind b block'.at block'.form_is))
                ]
          ]
    ]

-- cells of the kind of a block are blocks
pub is-block : (cells : List Cell) (names : List ℕ) (top : ℕ) (c : Cell) (v : Value) → c.kind ≡ 3 → Stands cells names top c v → IsBlock cells names top c v
unfolding form.form
is-block cells names top c v kind h =
    elim (standing cells names top c v h) [
      | inl plain ↦
          let P : ℕ → Type 0 = λ k. IsPlain (form.form k c.number) in
          absurd (no_plain c.number (subst P kind plain))
      | inr block ↦ block
    ]
  where
    no_plain : (i : ℤ) → IsPlain (natural form.Block i) → ⊥
    no_plain (pos n) h = absurd h
    no_plain (negsuc n) h = absurd h

-- blocks with different heads
pub told-heads : (cells : List Cell) (names : List ℕ) (top below : ℕ) (a b : Cell) (v w : Value) (p : IsBlock cells names top a v) (q : IsBlock cells names below b w)
    → cell_at cells p.at ≢ cell_at cells q.at → Stands cells names top a v → Stands cells names below b w → v ≢ w
told-heads cells names top below a b v w p q differ h k same =
    let P : Value → Type 0 = λ u. Stands cells names below b u in
    let roots : root cells (form_of a) ≡ root cells (form_of b) = same-root cells names top below a b v h (subst P (sym same) k) in
    let heads : form_of (look cells p.at) ≡ form_of (look cells q.at) = sym (ap (root cells) p.form_is) ∙ roots ∙ ap (root cells) q.form_is in
    differ (sym (head-is cells p.at p.head) ∙ same-form (look cells p.at) (look cells q.at) heads (head-some (form_of (look cells p.at)) p.head) ∙ head-is cells q.at q.head)

place-one : (at at' : ℕ) (names : List ℕ) (k : ℕ) → place_of at names ≡ Some k → place_of at' names ≡ Some k → at ≡ at'
place-one at at' [] k h i = absurd (cc)
place-one at at' (name ∷ names) k h i =
    elim (eqb_tells name at) [
      | inl here ↦
          elim (eqb_tells name at') [
            | inl there ↦ sym here.1 ∙ there.1
            | inr there ↦
                let e : Some 0 ≡ Some k = rw here.0 at h in
                let f = rw there.0 at i in
                let g = map-some suc (place_of at' names) k f in
                let z : 0 ≡ k = cc in
                let s : k ≡ suc g.0 = g.2 in
                absurd (omega (arith, z, s))
          ]
      | inr here ↦
          elim (eqb_tells name at') [
            | inl there ↦
                let e : Some 0 ≡ Some k = rw there.0 at i in
                let f = rw here.0 at h in
                let g = map-some suc (place_of at names) k f in
                let z : 0 ≡ k = cc in
                let s : k ≡ suc g.0 = g.2 in
                absurd (omega (arith, z, s))
            | inr there ↦
                let f = rw here.0 at h in
                let f' = rw there.0 at i in
                let g = map-some suc (place_of at names) k f in
                let g' = map-some suc (place_of at' names) k f' in
                let s : k ≡ suc g.0 = g.2 in
                let s' : k ≡ suc g'.0 = g'.2 in
                let same : g.0 ≡ g'.0 = omega (arith, s, s') in
                place-one at at' names g.0 g.1 (g'.1 ∙ ap Some (sym same))
          ]
    ]

lvar-form : (i : ℤ) → bare form.Lvar i ≢ form.Other → bare form.Lvar i ≡ form.Lvar
lvar-form (pos zero) some = refl
lvar-form (pos (suc n)) some = absurd (some refl)
lvar-form (negsuc n) some = absurd (some refl)

pub head-lvar : (cells : List Cell) (at : ℕ) → IsHead (form_of (look cells at)) → (cell_at cells at).kind ≡ 9 → form_of (look cells at) ≡ form.Lvar
unfolding form.form
head-lvar cells at head kind =
    let c : Cell = look cells at in
    let k : c.kind ≡ 9 = ap (λ (d : Cell). d.kind) (head-is cells at head) ∙ kind in
    let some : form_of c ≢ form.Other = head-some (form_of c) head in
    let P : ℕ → Type 0 = λ n. form.form n c.number ≢ form.Other in
    ap (λ n. form.form n c.number) k ∙ lvar-form c.number (subst P k some)

-- different logical variables
pub told-lvars : (cells : List Cell) (names : List ℕ) (top below : ℕ) (a b : Cell) (v w : Value) (p : IsBlock cells names top a v) (q : IsBlock cells names below b w)
    → a ≢ b → form_of (look cells p.at) ≡ form.Lvar → form_of (look cells q.at) ≡ form.Lvar → v ≢ w
told-lvars cells names top below a b v w p q differ head head' same =
    let l = lvar-stands cells names top p.at v head p.stands in
    let r = lvar-stands cells names below q.at w head' q.stands in
    let cell : value.Cell l.0 ≡ value.Cell r.0 = sym l.2 ∙ same ∙ r.2 in
    let outs : Value-F.Cell l.0 ≡ Value-F.Cell r.0 = sym (outs-Cell l.0) ∙ ap out-Value cell ∙ outs-Cell r.0 in
    let number : l.0 ≡ r.0 = cc in
    let at : p.at ≡ q.at = place-one p.at q.at names l.0 l.1 (r.1 ∙ ap Some (sym number)) in
    differ (block-kind a p.at p.form_is ∙ ap (λ n. record { kind = 3; number = pos n }) at ∙ sym (block-kind b q.at q.form_is))

pub none-stands : (cells : List Cell) (names : List ℕ) (top : ℕ) (vs : List Value) → AllStand cells names top [] vs → vs ≡ []
none-stands cells names top [] h = refl
none-stands cells names top (v ∷ vs) h = absurd h

-- one list of values for cells
pub one-list : (cells : List Cell) (names : List ℕ) (top : ℕ) (cs : List Cell) (vs ws : List Value) → AllStand cells names top cs vs → AllStand cells names top cs ws → vs ≡ ws
one-list cells names top [] [] [] h k = refl
one-list cells names top [] [] (w ∷ ws) h k = absurd k
one-list cells names top [] (v ∷ vs) ws h k = absurd h
one-list cells names top (c ∷ cs) [] ws h k = absurd h
one-list cells names top (c ∷ cs) (v ∷ vs) [] h k = absurd k
one-list cells names top (c ∷ cs) (v ∷ vs) (w ∷ ws) h k =
    ap (λ u. u ∷ vs) (same-value cells names top top c v w h.0 k.0) ∙ ap (λ us. w ∷ us) (one-list cells names top cs vs ws h.1 k.1)

-- blocks with one head, with no parts, and with parts
pub told-empty : (cells : List Cell) (names : List ℕ) (top below : ℕ) (a b : Cell) (v w : Value) (p : IsBlock cells names top a v) (q : IsBlock cells names below b w)
    → form_of (look cells p.at) ≡ form_of (look cells q.at) → form_of (look cells p.at) ≢ form.Lvar → parts_of (form_of (look cells p.at)) ≡ 0 → v ≡ w
told-empty cells names top below a b v w p q same other empty =
    let parts = blocks-same cells names top below p.at q.at v w same other p.stands q.stands in
    let P : ℕ → Type 0 = λ n. AllStand cells names p.at (looks cells (suc p.at) n) parts.0 in
    let Q : ℕ → Type 0 = λ n. AllStand cells names q.at (looks cells (suc q.at) n) parts.1 in
    let left : parts.0 ≡ [] = none-stands cells names p.at parts.0 (subst P empty parts.2) in
    let right : parts.1 ≡ [] = none-stands cells names q.at parts.1 (subst Q empty parts.3) in
    parts.4.1 (left ∙ sym right)

run-from : (cells : List Cell) (names : List ℕ) (left count at n : ℕ) (vs : List Value) → left ≡ at → count ≡ n → AllStand cells names at (looks cells (suc at) n) vs → RunStands cells names (left + 1) count vs
run-from cells names left count at n vs l c h =
    let before : left + 1 - 1 ≡ at = omega (arith, l) in
    let first : left + 1 ≡ suc at = omega (arith, l) in
    let P : ℕ → Type 0 = λ k. AllStand cells names at (looks cells (suc at) k) vs in
    let Q : ℕ → Type 0 = λ k. AllStand cells names at (looks cells k count) vs in
    let R : ℕ → Type 0 = λ k. AllStand cells names k (looks cells (left + 1) count) vs in
    subst R (sym before) (subst Q (sym first) (subst P (sym c) h))

run-to : (cells : List Cell) (names : List ℕ) (left count at n : ℕ) (vs : List Value) → left ≡ at → count ≡ n → RunStands cells names (left + 1) count vs → AllStand cells names at (looks cells (suc at) n) vs
run-to cells names left count at n vs l c h =
    let before : left + 1 - 1 ≡ at = omega (arith, l) in
    let first : left + 1 ≡ suc at = omega (arith, l) in
    let P : ℕ → Type 0 = λ k. AllStand cells names at (looks cells (suc at) k) vs in
    let Q : ℕ → Type 0 = λ k. AllStand cells names at (looks cells k count) vs in
    let R : ℕ → Type 0 = λ k. AllStand cells names k (looks cells (left + 1) count) vs in
    subst P c (subst Q first (subst R before h))

pub told-parts : (cells : List Cell) (names : List ℕ) (top below : ℕ) (a b : Cell) (v w : Value) (p : IsBlock cells names top a v) (q : IsBlock cells names below b w) (left right count : ℕ)
    → left ≡ p.at → right ≡ q.at → count ≡ parts_of (form_of (look cells p.at)) → 0 < count
    → form_of (look cells p.at) ≡ form_of (look cells q.at) → form_of (look cells p.at) ≢ form.Lvar → ByParts cells names top v w (record { left = left + 1; right = right + 1; count = count })
told-parts cells names top below a b v w p q left right count l r n some same other =
    let parts = blocks-same cells names top below p.at q.at v w same other p.stands q.stands in
    let size : ℕ = parts_of (form_of (look cells p.at)) in
    let fits : suc (p.at + size) ≤ top = p.stands.fits in
    record {
      below = record { left = omega arith; right = omega arith; count = some; within = omega (arith, fits, l, n) };
      readable = record {
        left = parts.0;
        right = parts.1;
        left_stands = run-from cells names left count p.at size parts.0 l n parts.2;
        right_stands = run-from cells names right count q.at size parts.1 r n parts.3;
      };
      same = (
        λ equal vs ws h k.
            one-list cells names p.at (looks cells (suc p.at) size) vs parts.0 (run-to cells names left count p.at size vs l n h) parts.2
            ∙ parts.4.0 equal
            ∙ one-list cells names q.at (looks cells (suc q.at) size) parts.1 ws parts.3 (run-to cells names right count q.at size ws r n k),
        λ each. parts.4.1 (each parts.0 parts.1 (run-from cells names left count p.at size parts.0 l n parts.2) (run-from cells names right count q.at size parts.1 r n parts.3)),
      );
    }

-- ---- how many parts a head has

count-text : (i : ℤ) → natural form.Text i ≢ form.Other → (or_zero i + 7) / 8 ≡ parts_of (natural form.Text i)
count-text (pos n) some = refl
count-text (negsuc n) some = absurd (some refl)

count-applied : (constructor n : ℕ) → applied_form constructor n ≢ form.Other → n ≡ parts_of (applied_form constructor n)
count-applied constructor zero some = absurd (some refl)
count-applied constructor (suc n) some = pick _ some
  where
    pick : (b : Bool) → (if b then form.Other else form.ConBlock constructor (suc n)) ≢ form.Other → suc n ≡ parts_of (if b then form.Other else form.ConBlock constructor (suc n))
    pick true some = absurd (some refl)
    pick false some = refl

count-con : (i : ℤ) → natural con_form i ≢ form.Other → or_zero i % 1048576 ≡ parts_of (natural con_form i)
count-con (pos n) some = count-applied (n / 2 ^ 20) (n % 2 ^ 20) some
count-con (negsuc n) some = absurd (some refl)

count-tuple : (i : ℤ) → natural form.Tuple i ≢ form.Other → or_zero i ≡ parts_of (natural form.Tuple i)
count-tuple (pos n) some = refl
count-tuple (negsuc n) some = absurd (some refl)

count-vector : (i : ℤ) → natural form.Vector i ≢ form.Other → or_zero i ≡ parts_of (natural form.Vector i)
count-vector (pos n) some = refl
count-vector (negsuc n) some = absurd (some refl)

count-cons : (i : ℤ) → bare form.ConsBlock i ≢ form.Other → 2 ≡ parts_of (bare form.ConsBlock i)
count-cons (pos zero) some = refl
count-cons (pos (suc n)) some = absurd (some refl)
count-cons (negsuc n) some = absurd (some refl)

count-lvar : (i : ℤ) → bare form.Lvar i ≢ form.Other → 1 ≡ parts_of (bare form.Lvar i)
count-lvar (pos zero) some = refl
count-lvar (pos (suc n)) some = absurd (some refl)
count-lvar (negsuc n) some = absurd (some refl)

none-natural : (f : ℕ → Form) → ((n : ℕ) → 0 ≡ parts_of (f n)) → (i : ℤ) → 0 ≡ parts_of (natural f i)
none-natural f each (pos n) = each n
none-natural f each (negsuc n) = refl

none-char : (n : ℕ) → 0 ≡ parts_of (char_form n)
none-char n = pick (nat_lt n 256)
  where
    pick : (b : Bool) → 0 ≡ parts_of (if b then form.Char n else form.Other)
    pick true = refl
    pick false = refl

none-rel : (n : ℕ) → 0 ≡ parts_of (rel_form n)
none-rel zero = refl
none-rel (suc zero) = refl
none-rel (suc (suc n)) = refl

none-unset : (i : ℤ) → 0 ≡ parts_of (bare form.Unset i)
none-unset (pos zero) = refl
none-unset (pos (suc n)) = refl
none-unset (negsuc n) = refl

pub count-none : (k : ℕ) (i : ℤ) → k ≢ 5 → k ≢ 6 → k ≢ 7 → k ≢ 8 → k ≢ 9 → k ≢ 11 → 0 ≡ parts_of (form.form k i)
unfolding form.form
count-none zero i e5 e6 e7 e8 e9 e11 = refl
count-none (suc zero) i e5 e6 e7 e8 e9 e11 = none-natural char_form none-char i
count-none (suc (suc zero)) i e5 e6 e7 e8 e9 e11 = none-natural rel_form none-rel i
count-none (suc (suc (suc zero))) i e5 e6 e7 e8 e9 e11 = none-natural form.Block (λ n. refl) i
count-none (suc (suc (suc (suc zero)))) i e5 e6 e7 e8 e9 e11 = none-natural form.Con (λ n. refl) i
count-none (suc (suc (suc (suc (suc zero))))) i e5 e6 e7 e8 e9 e11 = absurd (e5 refl)
count-none (suc (suc (suc (suc (suc (suc zero)))))) i e5 e6 e7 e8 e9 e11 = absurd (e6 refl)
count-none (suc (suc (suc (suc (suc (suc (suc zero))))))) i e5 e6 e7 e8 e9 e11 = absurd (e7 refl)
count-none (suc (suc (suc (suc (suc (suc (suc (suc zero)))))))) i e5 e6 e7 e8 e9 e11 = absurd (e8 refl)
count-none (suc (suc (suc (suc (suc (suc (suc (suc (suc zero))))))))) i e5 e6 e7 e8 e9 e11 = absurd (e9 refl)
count-none (suc (suc (suc (suc (suc (suc (suc (suc (suc (suc zero)))))))))) i e5 e6 e7 e8 e9 e11 = none-unset i
count-none (suc (suc (suc (suc (suc (suc (suc (suc (suc (suc (suc zero))))))))))) i e5 e6 e7 e8 e9 e11 = absurd (e11 refl)
count-none (suc (suc (suc (suc (suc (suc (suc (suc (suc (suc (suc (suc k)))))))))))) i e5 e6 e7 e8 e9 e11 = refl

pub count-5 : (c : Cell) → c.kind ≡ 5 → form_of c ≢ form.Other → (or_zero c.number + 7) / 8 ≡ parts_of (form_of c)
unfolding form.form
count-5 c is some = let P : ℕ → Type 0 = λ k. form.form k c.number ≢ form.Other in count-text c.number (subst P is some) ∙ ap (λ k. parts_of (form.form k c.number)) (sym is)

pub count-6 : (c : Cell) → c.kind ≡ 6 → form_of c ≢ form.Other → or_zero c.number % 1048576 ≡ parts_of (form_of c)
unfolding form.form
count-6 c is some = let P : ℕ → Type 0 = λ k. form.form k c.number ≢ form.Other in count-con c.number (subst P is some) ∙ ap (λ k. parts_of (form.form k c.number)) (sym is)

pub count-7 : (c : Cell) → c.kind ≡ 7 → form_of c ≢ form.Other → or_zero c.number ≡ parts_of (form_of c)
unfolding form.form
count-7 c is some = let P : ℕ → Type 0 = λ k. form.form k c.number ≢ form.Other in count-tuple c.number (subst P is some) ∙ ap (λ k. parts_of (form.form k c.number)) (sym is)

pub count-8 : (c : Cell) → c.kind ≡ 8 → form_of c ≢ form.Other → 2 ≡ parts_of (form_of c)
unfolding form.form
count-8 c is some = let P : ℕ → Type 0 = λ k. form.form k c.number ≢ form.Other in count-cons c.number (subst P is some) ∙ ap (λ k. parts_of (form.form k c.number)) (sym is)

pub count-9 : (c : Cell) → c.kind ≡ 9 → form_of c ≢ form.Other → 1 ≡ parts_of (form_of c)
unfolding form.form
count-9 c is some = let P : ℕ → Type 0 = λ k. form.form k c.number ≢ form.Other in count-lvar c.number (subst P is some) ∙ ap (λ k. parts_of (form.form k c.number)) (sym is)

pub count-11 : (c : Cell) → c.kind ≡ 11 → form_of c ≢ form.Other → or_zero c.number ≡ parts_of (form_of c)
unfolding form.form
count-11 c is some = let P : ℕ → Type 0 = λ k. form.form k c.number ≢ form.Other in count-vector c.number (subst P is some) ∙ ap (λ k. parts_of (form.form k c.number)) (sym is)

pub block-address : (c : Cell) (at : ℕ) → form_of c ≡ form.Block at → at < 2 ^ 32 → address c.number ≡ at
block-address c at is small =
    let number : c.number ≡ pos at = ap (λ (d : Cell). d.number) (block-kind c at is) in
    ap address number ∙ pick (nat_lt at (2 ^ 32)) refl
  where
    pick : (b : Bool) → nat_lt at (2 ^ 32) ≡ b → (if b then at else 4_294_967_295) ≡ at
    pick true below = refl
    pick false above = absurd (grind (arith, above, small))

-- ---- cells by the test of the code

pub equal-cells : (a b : Cell) → (eqb a.kind b.kind && int_eq a.number b.number) ≡ true → a ≡ b
equal-cells a b h =
    let both = and-both (eqb a.kind b.kind) (int_eq a.number b.number) h in
    let kinds : a.kind ≡ b.kind = eqb-true a.kind b.kind both.0 in
    let numbers : a.number ≡ b.number = (Decides-int_eq a.number b.number).0 both.1 in
    ap (λ (k : ℕ). record { kind = k; number = a.number }) kinds ∙ ap (λ (i : ℤ). record { kind = b.kind; number = i }) numbers

pub other-cells : (a b : Cell) → (eqb a.kind b.kind && int_eq a.number b.number) ≡ false → a ≢ b
other-cells a b h same =
    let test : Cell → Bool = λ c. eqb a.kind c.kind && int_eq a.number c.number in
    let kinds : eqb a.kind a.kind ≡ true = eq-eqb a.kind a.kind refl in
    let numbers : int_eq a.number a.number ≡ true = (Decides-int_eq a.number a.number).1 refl in
    let self : test a ≡ true = both-true (eqb a.kind a.kind) (int_eq a.number a.number) kinds numbers in
    let e : true ≡ false = sym self ∙ ap test same ∙ h in
    cc
  where
    both-true : (p q : Bool) → p ≡ true → q ≡ true → (p && q) ≡ true
    both-true p q h k = rw (h, k) refl

-- ---- two blocks, by what the code reads of them

module _ (cells : List Cell) (names : List ℕ) (top below : ℕ) (a b : Cell) (v w : Value) (left right : ℕ) (d : Cell) where
  -- both cells are blocks, at these addresses
  pub record AreBlocks : Type 0 where
    pub small : length cells < 2 ^ 32
    pub kind : a.kind ≡ 3
    pub kind' : b.kind ≡ 3
    pub left_is : left ≡ address a.number
    pub right_is : right ≡ address b.number
    pub stands : Stands cells names top a v
    pub stands' : Stands cells names below b w

  -- and what is read there
  pub record Read : Type 0 where
    pub p : IsBlock cells names top a v
    pub q : IsBlock cells names below b w
    pub at : left ≡ p.at
    pub at' : right ≡ q.at
    pub inside : p.at < length cells
    pub inside' : q.at < length cells
    pub head : get_or cells left d ≡ look cells p.at
    pub head' : get_or cells right d ≡ look cells q.at

  pub read-blocks : AreBlocks → Read
  read-blocks h =
      let p = is-block cells names top a v h.kind h.stands in
      let q = is-block cells names below b w h.kind' h.stands' in
      let small = h.small in
      let inside : p.at < length cells = head-inside cells p.at p.head in
      let inside' : q.at < length cells = head-inside cells q.at q.head in
      let at : left ≡ p.at = h.left_is ∙ block-address a p.at p.form_is (omega (arith, inside, small)) in
      let at' : right ≡ q.at = h.right_is ∙ block-address b q.at q.form_is (omega (arith, inside', small)) in
      record {
        p = p;
        q = q;
        at = at;
        at' = at';
        inside = inside;
        inside' = inside';
        head = ap (λ n. get_or cells n d) at ∙ get_or_default cells p.at d unset_cell inside ∙ sym (head-is cells p.at p.head);
        head' = ap (λ n. get_or cells n d) at' ∙ get_or_default cells q.at d unset_cell inside' ∙ sym (head-is cells q.at q.head);
      }

  pub read-ne : AreBlocks → get_or cells left d ≢ get_or cells right d → v ≢ w
  read-ne h differ =
      let r = read-blocks h in
      let far : cell_at cells r.p.at ≢ cell_at cells r.q.at = λ e. differ (r.head ∙ head-is cells r.p.at r.p.head ∙ e ∙ sym (head-is cells r.q.at r.q.head) ∙ sym r.head') in
      told-heads cells names top below a b v w r.p r.q far h.stands h.stands'

  pub read-lvars : AreBlocks → a ≢ b → get_or cells left d ≡ get_or cells right d → (get_or cells left d).kind ≡ 9 → v ≢ w
  read-lvars h differ same kind =
      let r = read-blocks h in
      let heads : look cells r.p.at ≡ look cells r.q.at = sym r.head ∙ same ∙ r.head' in
      let seen : (cell_at cells r.p.at).kind ≡ 9 = ap (λ (c : Cell). c.kind) (sym (head-is cells r.p.at r.p.head) ∙ sym r.head) ∙ kind in
      let lvar : form_of (look cells r.p.at) ≡ form.Lvar = head-lvar cells r.p.at r.p.head seen in
      told-lvars cells names top below a b v w r.p r.q differ lvar (ap form_of (sym heads) ∙ lvar)

  -- the head is no logical variable's, on both sides
  pub record IsOneHead (count : ℕ) : Type 0 where
    pub same : get_or cells left d ≡ get_or cells right d
    pub other : (get_or cells left d).kind ≢ 9
    pub count_is : form_of (get_or cells left d) ≢ form.Other → count ≡ parts_of (form_of (get_or cells left d))

  head-other : (c : Cell) → c.kind ≢ 9 → form_of c ≢ form.Lvar
  head-other c other is =
      let some : form_of c ≢ form.Other = λ e. let f : form.Lvar ≡ form.Other = sym is ∙ e in cc in
      other (ap (λ (x : Cell). x.kind) ((has-form c.kind c.number).cell some ∙ ap cell_of is))

  parts-read : (h : AreBlocks) (count : ℕ) → IsOneHead count → count ≡ parts_of (form_of (look cells (read-blocks h).p.at))
  parts-read h count o =
      let r = read-blocks h in
      let some : form_of (get_or cells left d) ≢ form.Other = λ e. head-some (form_of (look cells r.p.at)) r.p.head (ap form_of (sym r.head) ∙ e) in
      o.count_is some ∙ ap (λ c. parts_of (form_of c)) r.head

  pub read-none : AreBlocks → (count : ℕ) → IsOneHead count → count ≡ 0 → v ≡ w
  read-none h count o none =
      let r = read-blocks h in
      let heads : form_of (look cells r.p.at) ≡ form_of (look cells r.q.at) = ap form_of (sym r.head ∙ o.same ∙ r.head') in
      let other : form_of (look cells r.p.at) ≢ form.Lvar = λ e. head-other (get_or cells left d) o.other (ap form_of r.head ∙ e) in
      told-empty cells names top below a b v w r.p r.q heads other (sym (parts-read h count o) ∙ none)

  pub read-parts : AreBlocks → (count : ℕ) → IsOneHead count → 0 < count → ByParts cells names top v w (record { left = left + 1; right = right + 1; count = count })
  read-parts h count o some =
      let r = read-blocks h in
      let heads : form_of (look cells r.p.at) ≡ form_of (look cells r.q.at) = ap form_of (sym r.head ∙ o.same ∙ r.head') in
      let other : form_of (look cells r.p.at) ≢ form.Lvar = λ e. head-other (get_or cells left d) o.other (ap form_of r.head ∙ e) in
      told-parts cells names top below a b v w r.p r.q left right count r.at r.at' (parts-read h count o) some heads other

  -- counts and addresses are small
  pub read-small : AreBlocks → (count : ℕ) → IsOneHead count → top ≤ length cells → left + count < length cells
  read-small h count o within =
      let r = read-blocks h in
      let fits = r.p.stands.fits in
      let is = parts-read h count o in
      let at = r.at in
      omega (arith, fits, is, at, within)
