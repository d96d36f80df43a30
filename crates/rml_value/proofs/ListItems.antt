-- A list that is one item longer, and the items of a list.
use Rattle.std.proofs.Common.{◌≡◌, Bool, true, false, List, [], ◌∷◌, ◌++◌, Option, Some, None, option_map, map, eqb, refl, ap, ◌∙◌, sym, subst}
use Rattle.std.specs.Prelude.{if◌then◌else◌, unwrap_or}
use Rattle.std.proofs.lemmas.Bool.{eqb-true}
use Rattle.rml_value.specs.declared.value.Value.{Value, out-Value, map-Value, roll-Value, fold-roll-Value, ind-Value}
use Rattle.rml_value.specs.declared.value.Value.TheViews.{out-roll-Value}
use Rattle.rml_value.specs.declared.value.Value.TheOpen.{Value-F}
use Rattle.rml_value.specs.declared.value.Value.TheVariants as value
use Rattle.rml_value.specs.declared.value.Value.TheVariants.{rolls-Con}
use Rattle.rml_value.specs.declared.value.TheConstants.{NIL, CONS}
use Rattle.rml_value.specs.Lists.{onto, list_of, Reading, items_at, reading, items_of}

pub onto-append : (vs : List Value) (last list : Value) → onto (vs ++ last ∷ []) list ≡ onto vs (value.Con CONS (last ∷ list ∷ []))
onto-append [] last list = refl
onto-append (v ∷ vs) last list = ap (λ (rest : Value). value.Con CONS (v ∷ rest ∷ [])) (onto-append vs last list)

items_of-roll : (x : Value-F Value) → items_of (roll-Value x) ≡ items_at (map-Value Value Reading reading x) x
items_of-roll x =
    ap (λ (f : Reading). f (roll-Value x)) (fold-roll-Value Reading (λ y v. items_at y (out-Value v)) x)
    ∙ ap (λ (y : Value-F Value). items_at (map-Value Value Reading reading x) y) (out-roll-Value x)

pub items_of-nil : items_of (value.Con NIL []) ≡ Some []
items_of-nil = ap items_of (sym (rolls-Con NIL [])) ∙ items_of-roll (Value-F.Con NIL [])

pub items_of-cons : (x xs : Value) → items_of (value.Con CONS (x ∷ xs ∷ [])) ≡ option_map (λ rest. x ∷ rest) (items_of xs)
items_of-cons x xs = ap items_of (sym (rolls-Con CONS (x ∷ xs ∷ []))) ∙ items_of-roll (Value-F.Con CONS (x ∷ xs ∷ []))

pub items_of-list_of : (vs : List Value) → items_of (list_of vs) ≡ Some vs
items_of-list_of [] = items_of-nil
items_of-list_of (v ∷ vs) = items_of-cons v (list_of vs) ∙ ap (λ (o : Option (List Value)). option_map (λ rest. v ∷ rest) o) (items_of-list_of vs)

-- ---- a value that has items is the list of them

abbrev IsRead : Value → Type 0
IsRead v = (vs : List Value) → items_of v ≡ Some vs → v ≡ list_of vs

chosen : {A : Type 0} (b : Bool) (o : Option A) (x : A) → (if b then o else None) ≡ Some x → (b ≡ true) × (o ≡ Some x)
chosen true o x h = (refl, h)
chosen false o x h = absurd (cc)

tail_items : (x : Value) (o : Option (List Value)) (vs : List Value) → option_map (λ rest. x ∷ rest) o ≡ Some vs → (rest : List Value) × ((o ≡ Some rest) × (x ∷ rest ≡ vs))
tail_items x None vs h = absurd (cc)
tail_items x (Some rest) vs h = (rest, (refl, ap (λ o. unwrap_or o []) h))

rolled : (x : Value-F Value) → ((vs : List Value) → items_at (map-Value Value Reading reading x) x ≡ Some vs → roll-Value x ≡ list_of vs) → IsRead (roll-Value x)
rolled x f vs h = f vs (sym (items_of-roll x) ∙ h)

abbrev Part : Type 0
Part = (v : Value) × IsRead v

layer : (y : Value-F Part) → IsRead (roll-Value (map-Value Part Value (λ e. e.0) y))
layer (Value-F.Int n) = rolled (Value-F.Int n) (λ vs h. absurd (cc))
layer (Value-F.Char c) = rolled (Value-F.Char c) (λ vs h. absurd (cc))
layer (Value-F.Text t) = rolled (Value-F.Text t) (λ vs h. absurd (cc))
layer (Value-F.Con c []) =
    rolled (Value-F.Con c [])
    (λ vs h.
    let nil = chosen (eqb c NIL) (Some []) vs h in
    rolls-Con c [] ∙ ap (λ k. value.Con k []) (eqb-true c NIL nil.0) ∙ ap (λ o. list_of (unwrap_or o [])) nil.1)
layer (Value-F.Con c (a ∷ [])) = rolled (Value-F.Con c (a.0 ∷ [])) (λ vs h. absurd (cc))
layer (Value-F.Con c (a ∷ b ∷ [])) =
    rolled (Value-F.Con c (a.0 ∷ b.0 ∷ []))
    (λ vs h.
    let cons = chosen (eqb c CONS) (option_map (λ rest. a.0 ∷ rest) (items_of b.0)) vs h in
    let tail = tail_items a.0 (items_of b.0) vs cons.1 in
    rolls-Con c (a.0 ∷ b.0 ∷ []) ∙ ap (λ k. value.Con k (a.0 ∷ b.0 ∷ [])) (eqb-true c CONS cons.0)
    ∙ ap (λ (t : Value). value.Con CONS (a.0 ∷ t ∷ [])) (b.1 tail.0 tail.1.0)
    ∙ ap list_of tail.1.1)
layer (Value-F.Con c (a ∷ b ∷ d ∷ more)) = rolled (Value-F.Con c (a.0 ∷ b.0 ∷ d.0 ∷ map (λ e. e.0) more)) (λ vs h. absurd (cc))
layer (Value-F.Tuple xs) = rolled (Value-F.Tuple (map (λ e. e.0) xs)) (λ vs h. absurd (cc))
layer (Value-F.Rel r) = rolled (Value-F.Rel r) (λ vs h. absurd (cc))
layer (Value-F.Cell k) = rolled (Value-F.Cell k) (λ vs h. absurd (cc))
layer (Value-F.Vector xs) = rolled (Value-F.Vector (map (λ e. e.0) xs)) (λ vs h. absurd (cc))

pub list_of-items : (v : Value) (vs : List Value) → items_of v ≡ Some vs → v ≡ list_of vs
list_of-items = ind-Value IsRead (λ x y is. subst (λ z. IsRead (roll-Value z)) is (layer y))
