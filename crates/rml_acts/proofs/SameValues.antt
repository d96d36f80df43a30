-- The test of values tells whether they are equal.
use Rattle.std.specs.Prelude.{◌≡◌, Bool, true, ◌&&◌, ◌==◌, List, [], ◌∷◌, map}
use Rattle.std.proofs.Common.{refl, ap, sym, ◌∙◌, subst, eq-eqb}
use Rattle.std.proofs.lemmas.Bool.{eqb-true}
use Rattle.std.proofs.lemmas.Bool.Decides.{Decides-int_eq}
use Rattle.std.proofs.lemmas.Slice.Eq.{bytes_eq-Decides}
use Rattle.rml_value.specs.declared.value.Value.{Value, out-Value, map-Value, roll-Value, fold-roll-Value, ind-Value}
use Rattle.rml_value.specs.declared.value.Value.TheViews.{out-roll-Value}
use Rattle.rml_value.specs.declared.value.Value.TheOpen.{Value-F}
use Rattle.rml_value.specs.Same.{all_same, same_as, same}
use Rattle.rml_acts.proofs.Effects.{both-true}

same-roll : (x : Value-F Value) (w : Value) → same (roll-Value x) w ≡ same_as (map-Value Value (Value → Bool) same x) (out-Value w)
same-roll x w = ap (λ (f : Value → Bool). f w) (fold-roll-Value (Value → Bool) (λ y v. same_as y (out-Value v)) x)

same-rolls : (x z : Value-F Value) → same (roll-Value x) (roll-Value z) ≡ same_as (map-Value Value (Value → Bool) same x) z
same-rolls x z = same-roll x (roll-Value z) ∙ ap (same_as (map-Value Value (Value → Bool) same x)) (out-roll-Value z)

rolled-by : (w : Value) → (z : Value-F Value) × (w ≡ roll-Value z)
rolled-by = ind-Value (λ w. (z : Value-F Value) × (w ≡ roll-Value z)) (λ x y is. (x, refl))

-- ---- what is the same is equal

abbrev IsTold : Value → Type 0
IsTold v = (w : Value) → same v w ≡ true → v ≡ w

abbrev Told : Type 0
Told = (v : Value) × IsTold v

lists-told : (es : List Told) (ys : List Value) → all_same (map same (map (λ e. e.0) es)) ys ≡ true → map (λ e. e.0) es ≡ ys
lists-told [] [] h = refl
lists-told [] (y ∷ ys) h = absurd (cc)
lists-told (e ∷ es) [] h = absurd (cc)
lists-told (e ∷ es) (y ∷ ys) h =
    let both = both-true (same e.0 y) (all_same (map same (map (λ e. e.0) es)) ys) h in
    ap (λ (x : Value). x ∷ map (λ e. e.0) es) (e.1 y both.0) ∙ ap (λ (xs : List Value). y ∷ xs) (lists-told es ys both.1)

layer-told : (x : Value-F Told) (z : Value-F Value) → same_as (map-Value Value (Value → Bool) same (map-Value Told Value (λ e. e.0) x)) z ≡ true → map-Value Told Value (λ e. e.0) x ≡ z
layer-told (Value-F.Int a) (Value-F.Int b) h = ap Value-F.Int ((Decides-int_eq a b).0 h)
layer-told (Value-F.Char a) (Value-F.Char b) h = ap Value-F.Char (eqb-true a b h)
layer-told (Value-F.Text a) (Value-F.Text b) h = ap Value-F.Text ((bytes_eq-Decides a b).0 h)
layer-told (Value-F.Con a xs) (Value-F.Con b ys) h =
    let both = both-true (a == b) (all_same (map same (map (λ e. e.0) xs)) ys) h in
    ap (λ c. Value-F.Con c (map (λ e. e.0) xs)) (eqb-true a b both.0) ∙ ap (Value-F.Con b) (lists-told xs ys both.1)
layer-told (Value-F.Tuple xs) (Value-F.Tuple ys) h = ap Value-F.Tuple (lists-told xs ys h)
layer-told (Value-F.Rel a) (Value-F.Rel b) h = ap Value-F.Rel (eqb-true a b h)
layer-told (Value-F.Cell a) (Value-F.Cell b) h = ap Value-F.Cell (eqb-true a b h)
layer-told (Value-F.Vector xs) (Value-F.Vector ys) h = ap Value-F.Vector (lists-told xs ys h)
layer-told _ _ h = absurd (cc)

pub same-tells : (v w : Value) → same v w ≡ true → v ≡ w
same-tells =
    ind-Value IsTold
    (λ x y is w h.
    let z = rolled-by w in
    let told : same_as (map-Value Value (Value → Bool) same x) z.0 ≡ true = sym (same-rolls x z.0) ∙ ap (same (roll-Value x)) (sym z.1) ∙ h in
    let P : Value-F Value → Type 0 = λ u. same_as (map-Value Value (Value → Bool) same u) z.0 ≡ true in
    ap roll-Value (sym is ∙ layer-told y z.0 (subst P (sym is) told)) ∙ sym z.1)

-- ---- and what is equal is the same

abbrev Itself : Type 0
Itself = (v : Value) × (same v v ≡ true)

both-are : (a b : Bool) → a ≡ true → b ≡ true → (a && b) ≡ true
both-are a b h i = ap (λ c. c && b) h ∙ i

lists-same : (es : List Itself) → all_same (map same (map (λ e. e.0) es)) (map (λ e. e.0) es) ≡ true
lists-same [] = refl
lists-same (e ∷ es) = both-are (same e.0 e.0) (all_same (map same (map (λ e. e.0) es)) (map (λ e. e.0) es)) e.1 (lists-same es)

layer-same : (x : Value-F Itself) → same_as (map-Value Value (Value → Bool) same (map-Value Itself Value (λ e. e.0) x)) (map-Value Itself Value (λ e. e.0) x) ≡ true
layer-same (Value-F.Int a) = (Decides-int_eq a a).1 refl
layer-same (Value-F.Char a) = eq-eqb a a refl
layer-same (Value-F.Text a) = (bytes_eq-Decides a a).1 refl
layer-same (Value-F.Con a xs) = both-are (a == a) (all_same (map same (map (λ e. e.0) xs)) (map (λ e. e.0) xs)) (eq-eqb a a refl) (lists-same xs)
layer-same (Value-F.Tuple xs) = lists-same xs
layer-same (Value-F.Rel a) = eq-eqb a a refl
layer-same (Value-F.Cell a) = eq-eqb a a refl
layer-same (Value-F.Vector xs) = lists-same xs

pub same-itself : (v : Value) → same v v ≡ true
same-itself =
    ind-Value (λ v. same v v ≡ true)
    (λ x y is.
    let P : Value-F Value → Type 0 = λ u. same (roll-Value u) (roll-Value u) ≡ true in
    subst P is (same-rolls (map-Value Itself Value (λ e. e.0) y) (map-Value Itself Value (λ e. e.0) y) ∙ layer-same y))
