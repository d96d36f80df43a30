-- An argument of a value is found in the cells of its block.
use Rattle.std.proofs.Common.{◌≡◌, ◌≢◌, ℕ, zero, suc, ◌+◌, ◌<◌, ◌≤◌, List, [], ◌∷◌, ◌++◌, length, Option, Some, None, refl, sym, ap, ◌∙◌, subst, arith, inl, inr}
use Rattle.std.specs.Prelude.{slice_get}
use Rattle.rml_value.specs.declared.value.Value.{Value, out-Value}
use Rattle.rml_value.specs.declared.value.Value.TheOpen.{Value-F}
use Rattle.rml_value.specs.declared.value.Value.TheVariants.{outs-Int, outs-Char, outs-Rel, outs-Text, outs-Con, outs-Tuple, outs-Cell, outs-Vector}
use Rattle.rml_value.specs.declared.value.TheConstants.{CONS}
use Rattle.rml_cps.specs.Statements.{nth_argument, argument_at, argument_of}
use Rattle.rml_heap.specs.declared.cell.Cell.{Cell}
use Rattle.rml_heap.specs.Form as form
use Rattle.rml_heap.specs.Form.{Form, form_of}
use Rattle.rml_heap.specs.Reading.{cell_at, look, looks, parts_of, value_below, read_form, Stands, AllStand}
use Rattle.rml_heap.proofs.Callers.{below-higher, block-made, block-stands, lvar-stands, BlockStands, IsMade, unset-form, look-is}
use Rattle.rml_code.specs.declared.state.State.{State}
use Rattle.rml_code.specs.Effects.{parts_in}
use Rattle.rml_implements.specs.World.{names_at, IsThere, StandsFor, Leads}
use Rattle.rml_implements.proofs.Places.{some-same, none-some}

nth-stands : (cells : List Cell) (names : List ℕ) (top n at i : ℕ) (vs : List Value) (v : Value) → AllStand cells names top (looks cells at n) vs → slice_get vs i ≡ Some v → (i < n) × Stands cells names top (look cells (at + i)) v
nth-stands cells names top zero at i [] v all e = none-some _ e
nth-stands cells names top zero at i (w ∷ vs) v all e = absurd all
nth-stands cells names top (suc n) at i [] v all e = absurd all
nth-stands cells names top (suc n) at zero (w ∷ vs) v all e =
    let same : w ≡ v = some-same e in
    let here : at ≡ at + 0 = omega arith in
    (omega arith, subst (λ k. Stands cells names top (look cells k) v) here (subst (λ z. Stands cells names top (look cells at) z) same all.0))
nth-stands cells names top (suc n) at (suc i) (w ∷ vs) v all e =
    let o = nth-stands cells names top n (suc at) i vs v all.1 e in
    let next : suc at + i ≡ at + suc i = omega arith in
    let lt = o.0 in
    (omega (arith, lt), subst (λ k. Stands cells names top (look cells k) v) next o.1)

argument-none : (i : ℕ) (w v : Value) (x : Value-F Value) (C : Type 0) → out-Value w ≡ x → argument_at i x ≡ None → argument_of i w ≡ Some v → C
argument-none i w v x C out none e = none-some C (sym none ∙ ap (argument_at i) (sym out) ∙ e)

nth-empty : (i : ℕ) → nth_argument i [] ≡ None
nth-empty zero = refl
nth-empty (suc i) = refl

-- a value of one cell has no argument
plain-none : (read : ℕ → Cell → Option Value) (cells : List Cell) (names : List ℕ) (top i : ℕ) (w v : Value) (f : Form) (C : Type 0) → ((at : ℕ) → f ≢ form.Block at) → read_form read cells names top f ≡ Some w → argument_of i w ≡ Some v → C
plain-none read cells names top i w v (form.Int n) C ne h e = argument-none i w v (Value-F.Int n) C (ap out-Value (sym (some-same h)) ∙ outs-Int n) refl e
plain-none read cells names top i w v (form.Char n) C ne h e = argument-none i w v (Value-F.Char n) C (ap out-Value (sym (some-same h)) ∙ outs-Char n) refl e
plain-none read cells names top i w v (form.Rel n) C ne h e = argument-none i w v (Value-F.Rel n) C (ap out-Value (sym (some-same h)) ∙ outs-Rel n) refl e
plain-none read cells names top i w v (form.Con n) C ne h e = argument-none i w v (Value-F.Con n []) C (ap out-Value (sym (some-same h)) ∙ outs-Con n []) (nth-empty i) e
plain-none read cells names top i w v (form.Block at) C ne h e = absurd (ne at refl)
plain-none read cells names top i w v _ C ne h e = none-some C h

module _ (rels : ℕ) (t : State) (there : (at : ℕ) → IsThere rels (cell_at t.heap.values at)) where
  look-known : (at : ℕ) → IsThere rels (look t.heap.values at)
  look-known at r e =
      elim (look-is t.heap.values at) [
        | inl hidden ↦ let both : form.Unset ≡ form.Rel r = sym unset-form ∙ ap form_of (sym hidden) ∙ e in absurd (cc)
        | inr shown ↦ there at r (ap form_of (sym shown) ∙ e)
      ]

  -- by the parts of a block with this head
  by-parts : (c : Cell) (at i n : ℕ) (vs : List Value) (v : Value) → form_of c ≡ form.Block at → suc (at + n) ≤ length t.heap.values → n ≤ parts_in (form_of (look t.heap.values at))
      → AllStand t.heap.values (names_at t) at (looks t.heap.values (suc at) n) vs → nth_argument i vs ≡ Some v → Leads rels t v (i ∷ []) c
  by-parts c at zero n vs v block fits parts all e = none-some _ e
  by-parts c at (suc i) n vs v block fits parts all e =
      let o = nth-stands t.heap.values (names_at t) at n (suc at) i vs v all e in
      let lt = o.0 in
      let next : suc at + i ≡ at + suc i = omega arith in
      let s : Stands t.heap.values (names_at t) at (look t.heap.values (at + suc i)) v = subst (λ k. Stands t.heap.values (names_at t) at (look t.heap.values k) v) next o.1 in (
        at,
        block,
        record { first = omega arith; last = omega (arith, lt, parts); inside = omega (arith, lt, fits) },
        record { stands = (s.0, below-higher s.0 t.heap.values (names_at t) at (length t.heap.values) (look t.heap.values (at + suc i)) v (omega (arith, fits)) s.1); there = look-known (at + suc i) },
      )

  by-head : (c : Cell) (at i : ℕ) (w v : Value) → form_of c ≡ form.Block at → (head : Form) → form_of (look t.heap.values at) ≡ head → suc (at + parts_of head) ≤ length t.heap.values
      → (vs : List Value) → AllStand t.heap.values (names_at t) at (looks t.heap.values (suc at) (parts_of head)) vs → IsMade head vs w → argument_of i w ≡ Some v → Leads rels t v (i ∷ []) c
  by-head c at i w v block (form.Text n) is fits vs all made e = argument-none i w v (Value-F.Text made.1) _ (ap out-Value made.4 ∙ outs-Text made.1) refl e
  by-head c at i w v block (form.ConBlock k n) is fits vs all made e =
      by-parts c at i n vs v block fits (subst (λ f. n ≤ parts_in f) (sym is) (omega arith)) all (sym (ap (argument_at i) (ap out-Value made ∙ outs-Con k vs)) ∙ e)
  by-head c at i w v block (form.Tuple n) is fits vs all made e =
      by-parts c at i n vs v block fits (subst (λ f. n ≤ parts_in f) (sym is) (omega arith)) all (sym (ap (argument_at i) (ap out-Value made ∙ outs-Tuple vs)) ∙ e)
  by-head c at i w v block form.ConsBlock is fits vs all made e =
      by-parts c at i 2 vs v block fits (subst (λ f. 2 ≤ parts_in f) (sym is) (omega arith)) all (sym (ap (argument_at i) (ap out-Value made ∙ outs-Con CONS vs)) ∙ e)
  by-head c at i w v block (form.Vector n) is fits vs all made e = argument-none i w v (Value-F.Vector vs) _ (ap out-Value made ∙ outs-Vector vs) refl e
  by-head c at i w v block _ is fits vs all made e = absurd made

  by-block : (c : Cell) (at i : ℕ) (w v : Value) → form_of c ≡ form.Block at → Stands t.heap.values (names_at t) (length t.heap.values) c w → argument_of i w ≡ Some v → Leads rels t v (i ∷ []) c
  by-block c at i w v block s e = pick (form_of (look t.heap.values at)) refl
    where
      bs : BlockStands t.heap.values (names_at t) (length t.heap.values) at w
      bs = block-stands t.heap.values (names_at t) (length t.heap.values) at c w block s

      lvar : form_of (look t.heap.values at) ≡ form.Lvar → Leads rels t v (i ∷ []) c
      lvar is = let k = lvar-stands t.heap.values (names_at t) (length t.heap.values) at w is bs in argument-none i w v (Value-F.Cell k.0) _ (ap out-Value k.2 ∙ outs-Cell k.0) refl e

      other : form_of (look t.heap.values at) ≢ form.Lvar → Leads rels t v (i ∷ []) c
      other ne =
          let made = block-made bs.depth t.heap.values (names_at t) at (form_of (look t.heap.values at)) w ne bs.value in
          by-head c at i w v block (form_of (look t.heap.values at)) refl bs.fits made.0 made.1 made.2 e

      pick : (f : Form) → form_of (look t.heap.values at) ≡ f → Leads rels t v (i ∷ []) c
      pick form.Lvar is = lvar is
      pick (form.Int n) is = other (λ z. let y : form.Int n ≡ form.Lvar = sym is ∙ z in cc)
      pick (form.Char n) is = other (λ z. let y : form.Char n ≡ form.Lvar = sym is ∙ z in cc)
      pick (form.Rel n) is = other (λ z. let y : form.Rel n ≡ form.Lvar = sym is ∙ z in cc)
      pick (form.Block n) is = other (λ z. let y : form.Block n ≡ form.Lvar = sym is ∙ z in cc)
      pick (form.Con n) is = other (λ z. let y : form.Con n ≡ form.Lvar = sym is ∙ z in cc)
      pick (form.Text n) is = other (λ z. let y : form.Text n ≡ form.Lvar = sym is ∙ z in cc)
      pick (form.ConBlock k n) is = other (λ z. let y : form.ConBlock k n ≡ form.Lvar = sym is ∙ z in cc)
      pick (form.Tuple n) is = other (λ z. let y : form.Tuple n ≡ form.Lvar = sym is ∙ z in cc)
      pick form.ConsBlock is = other (λ z. let y : form.ConsBlock ≡ form.Lvar = sym is ∙ z in cc)
      pick form.Unset is = other (λ z. let y : form.Unset ≡ form.Lvar = sym is ∙ z in cc)
      pick (form.Vector n) is = other (λ z. let y : form.Vector n ≡ form.Lvar = sym is ∙ z in cc)
      pick form.Other is = other (λ z. let y : form.Other ≡ form.Lvar = sym is ∙ z in cc)

  -- an argument of a value is a part of its cell's block
  pub argument-there : (c : Cell) (i : ℕ) (w v : Value) → StandsFor rels t c w → argument_of i w ≡ Some v → Leads rels t v (i ∷ []) c
  unfolding value_below
  argument-there c i w v s e = go s.stands
    where
      by-form : (depth : ℕ) (f : Form) → form_of c ≡ f → read_form (value_below depth t.heap.values (names_at t)) t.heap.values (names_at t) (length t.heap.values) f ≡ Some w → Leads rels t v (i ∷ []) c
      by-form depth (form.Block at) is h = by-block c at i w v is s.stands e
      by-form depth (form.Int n) is h = plain-none (value_below depth t.heap.values (names_at t)) t.heap.values (names_at t) (length t.heap.values) i w v (form.Int n) _ (λ at z. cc) h e
      by-form depth (form.Char n) is h = plain-none (value_below depth t.heap.values (names_at t)) t.heap.values (names_at t) (length t.heap.values) i w v (form.Char n) _ (λ at z. cc) h e
      by-form depth (form.Rel n) is h = plain-none (value_below depth t.heap.values (names_at t)) t.heap.values (names_at t) (length t.heap.values) i w v (form.Rel n) _ (λ at z. cc) h e
      by-form depth (form.Con n) is h = plain-none (value_below depth t.heap.values (names_at t)) t.heap.values (names_at t) (length t.heap.values) i w v (form.Con n) _ (λ at z. cc) h e
      by-form depth _ is h = none-some _ h

      go : Stands t.heap.values (names_at t) (length t.heap.values) c w → Leads rels t v (i ∷ []) c
      go (zero, h) = none-some _ h
      go (suc depth, h) = by-form depth (form_of c) refl h

  -- the same where the value is found along a path
  pub field-there : (path : List ℕ) (c : Cell) (i : ℕ) (w v : Value) → Leads rels t w path c → argument_of i w ≡ Some v → Leads rels t v (path ++ (i ∷ [])) c
  field-there [] c i w v h e = argument-there c i w v h e
  field-there (p ∷ path) c i w v h e = (h.0, h.1, h.2, field-there path (look t.heap.values (h.0 + p)) i w v h.3 e)
