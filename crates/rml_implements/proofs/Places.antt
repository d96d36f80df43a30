-- Where variables are found afterwards.
use Rattle.std.proofs.Common.{◌≡◌, ◌≢◌, ℕ, ◌+◌, ◌<◌, ◌⊎◌, Bool, true, false, List, [], ◌∷◌, ◌++◌, length, map, Option, Some, None, refl, sym, ap, ◌∙◌, subst, arith, inl, inr, get_or-set_other, get_or-set_same, length-set}
use Rattle.std.specs.Prelude.{if◌then◌else◌, ◌==◌, slice_index_or, slice_set}
use Rattle.std.proofs.lemmas.Bool.Decides.{eqb_tells}
use Rattle.rml_value.specs.declared.value.Value.{Value}
use Rattle.rml_terms.specs.Env.{Env, bind, look}
use Rattle.rml_terms.proofs.Callers.{or_else, look-bind, look_new}
use Rattle.rml_heap.specs.declared.cell.Cell.{Cell}
use Rattle.rml_heap.specs.HeapState.{free_cell}
use Rattle.rml_heap.specs.Form as form
use Rattle.rml_heap.specs.Form.{Form, form_of}
use Rattle.rml_heap.specs.Reading.{look as look_at}
use Rattle.rml_code.specs.declared.state.State.{State}
use Rattle.rml_code.specs.Frames.{loaded}
use Rattle.rml_implements.specs.Layout.{Place, Places, Has, without, bound_at, lost, moved, taken, at_path, saved_as, from_frame, AllOther, AllApart, Moved}
use Rattle.rml_implements.specs.World.{Leads}

pub some-same : {A : Type 0} {x y : A} → Some x ≡ Some y → x ≡ y
some-same {A = A} {x = x} e = ap (λ o. got o) e
  where
    got : Option A → A
    got None = x
    got (Some a) = a

pub none-some : {A : Type 0} (C : Type 0) {x : A} → None ≡ Some x → C
none-some C e = absurd (cc)

-- ---- registers

pub cell-in : List Cell → ℕ → Cell
cell-in cells r = slice_index_or cells r free_cell

pub put-there : (cells : List Cell) (a : ℕ) (c : Cell) → a < length cells → slice_index_or (slice_set cells a c) a free_cell ≡ c
put-there cells a c lt = get_or-set_same cells a c free_cell lt

pub put-other : (cells : List Cell) (a r : ℕ) (c : Cell) → r ≢ a → slice_index_or (slice_set cells a c) r free_cell ≡ slice_index_or cells r free_cell
put-other cells a r c ne = get_or-set_other cells a r c free_cell ne

-- registers that are loaded: those that are not, and those that are
pub loaded-other : (rs : List ℕ) (cells registers : List Cell) (r : ℕ) → AllOther r rs → slice_index_or (loaded rs cells registers) r free_cell ≡ slice_index_or registers r free_cell
loaded-other [] cells registers r o = refl
loaded-other (x ∷ rs) [] registers r o = refl
loaded-other (x ∷ rs) (c ∷ cells) registers r o = loaded-other rs cells (slice_set registers x c) r o.1 ∙ put-other registers x r c o.0

pub loaded-length : (rs : List ℕ) (cells registers : List Cell) → length (loaded rs cells registers) ≡ length registers
loaded-length [] cells registers = refl
loaded-length (x ∷ rs) [] registers = refl
loaded-length (x ∷ rs) (c ∷ cells) registers = loaded-length rs cells (slice_set registers x c) ∙ length-set registers x c

-- a register is loaded only if it is there
pub loaded-some : (from : ℕ → Cell) (rs ss : List ℕ) (rest registers : List Cell) (r s : ℕ) → AllApart rs → r < length registers → saved_as rs ss r ≡ Some s → slice_index_or (loaded rs (map from ss ++ rest) registers) r free_cell ≡ from s
loaded-some from [] ss rest registers r s apart lt e = none-some _ e
loaded-some from (x ∷ rs) [] rest registers r s apart lt e = none-some _ e
loaded-some from (x ∷ rs) (y ∷ ss) rest registers r s apart lt e =
    elim (eqb_tells x r) [
      | inl same ↦
          let first : Some y ≡ Some s = ap (λ (b : Bool). if b then Some y else saved_as rs ss r) (sym same.0) ∙ e in
          let is : y ≡ s = some-same first in
          let others : AllOther r rs = subst (λ z. AllOther z rs) same.1 apart.0 in
          let at : slice_index_or (slice_set registers x (from y)) r free_cell ≡ from y = ap (λ z. slice_index_or (slice_set registers z (from y)) r free_cell) same.1 ∙ put-there registers r (from y) lt in
          loaded-other rs (map from ss ++ rest) (slice_set registers x (from y)) r others ∙ at ∙ ap from is
      | inr other ↦
          let later : saved_as rs ss r ≡ Some s = ap (λ (b : Bool). if b then Some y else saved_as rs ss r) (sym other.0) ∙ e in
          let size : length (slice_set registers x (from y)) ≡ length registers = length-set registers x (from y) in
          loaded-some from rs ss rest (slice_set registers x (from y)) r s apart.1 (omega (arith, lt, size)) later
    ]

pub loaded-none : (from : ℕ → Cell) (rs ss : List ℕ) (rest registers : List Cell) (r : ℕ) → length rs ≡ length ss → saved_as rs ss r ≡ None → slice_index_or (loaded rs (map from ss ++ rest) registers) r free_cell ≡ slice_index_or registers r free_cell
loaded-none from [] ss rest registers r l e = refl
loaded-none from (x ∷ rs) [] rest registers r l e = absurd (omega (arith, l))
loaded-none from (x ∷ rs) (y ∷ ss) rest registers r l e =
    elim (eqb_tells x r) [
      | inl same ↦ none-some _ (sym (ap (λ (b : Bool). if b then Some y else saved_as rs ss r) (sym same.0) ∙ e))
      | inr other ↦
          let later : saved_as rs ss r ≡ None = ap (λ (b : Bool). if b then Some y else saved_as rs ss r) (sym other.0) ∙ e in
          loaded-none from rs ss rest (slice_set registers x (from y)) r (omega (arith, l)) later ∙ put-other registers x r (from y) (λ d. other.1 (sym d))
    ]

-- ---- places

has-without : (x : ℕ) (ps : Places) (y : ℕ) (q : Place) → Has (without x ps) y q → Has ps y q × (y ≢ x)
has-without x [] y q h = absurd h
has-without x (k ∷ ks) y q h = pick (k.variable == x) (eqb_tells k.variable x) h (has-without x ks y q)
  where
    pick : (b : Bool) → ((b ≡ true) × (k.variable ≡ x)) ⊎ ((b ≡ false) × (k.variable ≢ x)) → Has (if b then without x ks else k ∷ without x ks) y q → (Has (without x ks) y q → Has ks y q × (y ≢ x)) → Has (k ∷ ks) y q × (y ≢ x)
    pick true t d go = let o = go d in (inr o.0, o.1)
    pick false (inl t) d go = absurd (let u = t.0 in cc)
    pick false (inr t) (inl e) go = (inl e, λ w. t.1 (e.0 ∙ w))
    pick false (inr t) (inr e) go = let o = go e in (inr o.0, o.1)

look-others : (x y : ℕ) (v w : Value) (env : Env) → y ≢ x → look y (bind x v env) ≡ Some w → look y env ≡ Some w
look-others x y v w env ne e = pick (look y env) (y == x) (eqb_tells y x) (sym (look-bind y x v env) ∙ e)
  where
    pick : (o : Option Value) (b : Bool) → ((b ≡ true) × (y ≡ x)) ⊎ ((b ≡ false) × (y ≢ x)) → or_else o (if b then Some v else None) ≡ Some w → o ≡ Some w
    pick o b (inl t) d = absurd (ne t.1)
    pick (Some u) b (inr t) d = d
    pick None true (inr t) d = absurd (let u = t.0 in cc)
    pick None false (inr t) d = d

module _ (rels : ℕ) (t : State) where
  abbrev pub At : (ℕ → Cell) → Value → Place → Type 0
  At regs v p = Leads rels t v p.path (regs p.register)

  abbrev pub AllAt : (ℕ → Cell) → Env → Places → Type 0
  AllAt regs env ps = (x : ℕ) (p : Place) (v : Value) → Has ps x p → look x env ≡ Some v → At regs v p

  along-place : (regs : ℕ → Cell) (v : Value) (p q : Place) → p ≡ q → At regs v q → At regs v p
  along-place regs v p q e h = subst (λ (z : Place). At regs v z) (sym e) h

  pub at-moved : (source : Place → Option Place) (old new : Places) (env : Env) (regs regs' : ℕ → Cell) → ((v : Value) (p q : Place) → source p ≡ Some q → At regs v q → At regs' v p) → Moved source old new → AllAt regs env old → AllAt regs' env new
  at-moved source old new env regs regs' go m all x p v e d = let o = m.from x p e in go v p o.0 o.1 (all x o.0 v o.2 d)

  module _ (registers : List Cell) (a : ℕ) (c : Cell) where
    abbrev was : ℕ → Cell
    was r = slice_index_or registers r free_cell

    abbrev is : ℕ → Cell
    is r = slice_index_or (slice_set registers a c) r free_cell

    kept : (v : Value) (p q : Place) → Some p ≡ Some q → p.register ≢ a → At was v q → At is v p
    kept v p q e ne h = subst (λ z. Leads rels t v p.path z) (sym (put-other registers a p.register c ne)) (along-place was v p q (some-same e) h)

    pub at-lost : (v : Value) (p q : Place) → lost a p ≡ Some q → At was v q → At is v p
    at-lost v p q e h =
        elim (eqb_tells p.register a) [
          | inl same ↦ none-some _ (ap (λ (b : Bool). if b then None else Some p) (sym same.0) ∙ e)
          | inr other ↦ kept v p q (ap (λ (b : Bool). if b then None else Some p) (sym other.0) ∙ e) other.1 h
        ]

    -- register a gets what stands at another place, by this path
    pub at-copied : (to : Option Place) (v : Value) (p q : Place) → (if p.register == a then to else Some p) ≡ Some q → a < length registers → (to ≡ Some q → At was v q → Leads rels t v p.path c) → At was v q → At is v p
    at-copied to v p q e lt go h =
        elim (eqb_tells p.register a) [
          | inl same ↦
              let there : is p.register ≡ c = ap is same.1 ∙ put-there registers a c lt in
              subst (λ z. Leads rels t v p.path z) (sym there) (go (ap (λ (b : Bool). if b then to else Some p) (sym same.0) ∙ e) h)
          | inr other ↦ kept v p q (ap (λ (b : Bool). if b then to else Some p) (sym other.0) ∙ e) other.1 h
        ]

  pub at-move : (registers : List Cell) (a b : ℕ) (v : Value) (p q : Place) → a < length registers → moved a b p ≡ Some q → At (λ r. slice_index_or registers r free_cell) v q → At (λ r. slice_index_or (slice_set registers a (slice_index_or registers b free_cell)) r free_cell) v p
  at-move registers a b v p q lt e h =
      at-copied registers a (slice_index_or registers b free_cell) (Some (record { register = b; path = p.path })) v p q e lt
      (λ d k. along-place (λ r. slice_index_or registers r free_cell) v (record { register = b; path = p.path }) q (some-same d) k) h

  -- a part of the block at an address
  pub at-taken : (registers : List Cell) (a b i at : ℕ) → form_of (slice_index_or registers b free_cell) ≡ form.Block at → (v : Value) (p q : Place) → a < length registers → taken a b i p ≡ Some q → At (λ r. slice_index_or registers r free_cell) v q → At (λ r. slice_index_or (slice_set registers a (look_at t.heap.values (at + i))) r free_cell) v p
  at-taken registers a b i at block v p q lt e h =
      at-copied registers a (look_at t.heap.values (at + i)) (Some (record { register = b; path = i ∷ p.path })) v p q e lt
      (λ d k.
      let o = along-place (λ r. slice_index_or registers r free_cell) v (record { register = b; path = i ∷ p.path }) q (some-same d) k in
      let both : form.Block o.0 ≡ form.Block at = sym o.1 ∙ block in
      let same : o.0 ≡ at = cc in
      subst (λ n. Leads rels t v p.path (look_at t.heap.values (n + i))) same o.3) h

  pub at-frame : (from : ℕ → Cell) (rs ss : List ℕ) (rest registers : List Cell) (v : Value) (p q : Place) → AllApart rs → ((r : ℕ) → saved_as rs ss r ≢ None → r < length registers) → from_frame rs ss p ≡ Some q → At from v q → At (λ r. slice_index_or (loaded rs (map from ss ++ rest) registers) r free_cell) v p
  at-frame from rs ss rest registers v p q apart there e h = pick (saved_as rs ss p.register) refl e
    where
      pick : (o : Option ℕ) → saved_as rs ss p.register ≡ o → at_path o p.path ≡ Some q → Leads rels t v p.path (slice_index_or (loaded rs (map from ss ++ rest) registers) p.register free_cell)
      pick None w d = none-some _ d
      pick (Some y) w d =
          let k : Leads rels t v p.path (from y) = along-place from v (record { register = y; path = p.path }) q (some-same d) h in
          let some : saved_as rs ss p.register ≢ None = λ z. none-some _ (sym z ∙ w) in
          subst (λ c. Leads rels t v p.path c) (sym (loaded-some from rs ss rest registers p.register y apart (there p.register some) w)) k

  -- one variable more
  pub at-bound : (regs : ℕ → Cell) (ps : Places) (env : Env) (x : ℕ) (p : Place) (v : Value) → look x env ≡ None → At regs v p → AllAt regs env ps → AllAt regs (bind x v env) (bound_at x p ps)
  at-bound regs ps env x p v new st all y q w (inl e) d =
      let one : look x (bind x v env) ≡ Some v = look_new x v env new in
      let two : look x (bind x v env) ≡ Some w = ap (λ z. look z (bind x v env)) e.0 ∙ d in
      let same : v ≡ w = some-same (sym one ∙ two) in
      subst (λ (z : Place). At regs w z) e.1 (subst (λ z. At regs z p) same st)
  at-bound regs ps env x p v new st all y q w (inr h) d =
      let o = has-without x ps y q h in
      all y q w o.0 (look-others x y v w env o.1 d)
