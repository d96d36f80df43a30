-- The rules of a group are gone through relation by relation; and the order of places.
use Rattle.std.proofs.Common.{◌≡◌, ◌⊎◌, inl, inr, ℕ, ◌+◌, ◌<◌, ◌≤◌, Bool, true, false, ◌&&◌, ◌||◌, List, [], ◌++◌, map, length, get_or, Some, refl, sym, ap, subst, ◌∙◌, arith, ltb-true}
use Rattle.std.specs.Prelude.{All, nat_lt, not, slice_get}
use Rattle.std.specs.List.{Contains}
use Rattle.std.proofs.lemmas.Bool.Decides.{nat_tests}
use Rattle.std.proofs.lemmas.List.{get_or-map, length-map}
use Rattle.std.proofs.lemmas.Option.{slice_get_within}
use Rattle.std.proofs.lemmas.List.Elements.{All-append, All-map, All-nil, Contains-append_left, Contains-append_right, Contains-get_or}
use Rattle.rml_base.specs.declared.place.Place.{Place}
use Rattle.rml_base.specs.Order.{is_before}
use Rattle.rml_base.proofs.Callers.{before-follows}
use Rattle.rml_resolved.specs.declared.tables.RelDef.{RelDef}
use Rattle.rml_groups.specs.declared.spots.Spot.{Spot}
use Rattle.rml_groups.specs.Groups.{is_member}
use Rattle.rml_groups.specs.Spots.{HasAllSpots, IsSpotOf, comes_after, spot_of}
use Rattle.rml_groups.proofs.Beginning.{some-of}

-- ---- the rules of a group

-- those of the first i relations
pub record HasSpotsTo (rels : List RelDef) (text i : ℕ) (spots : List Spot) : Type 0 where
  pub sound : All (IsSpotOf rels text) spots
  pub every : (s : Spot) (o : IsSpotOf rels text s) → o.r < i → Contains spots s

pub spots-none : (rels : List RelDef) (text : ℕ) (spots : List Spot) → spots ≡ [] → HasSpotsTo rels text 0 spots
spots-none rels text spots is = subst (HasSpotsTo rels text 0) (sym is) (record { sound = All-nil (IsSpotOf rels text); every = λ s o lt. absurd (omega arith) })

pub spots-same : (rels : List RelDef) (text i : ℕ) (spots later : List Spot) → later ≡ spots → HasSpotsTo rels text i spots → HasSpotsTo rels text i later
spots-same rels text i spots later is has = subst (HasSpotsTo rels text i) (sym is) has

contains-map : {X Y : Type 0} (f : X → Y) (xs : List X) (x : X) → Contains xs x → Contains (map f xs) (f x)
contains-map f xs x c = (c.0, (let l = length-map xs f in let lt = c.1 in omega arith), get_or-map f xs c.0 x (f x) c.1 ∙ ap f c.2)

less-or : (r i : ℕ) → r < i + 1 → (r < i) ⊎ (r ≡ i)
less-or r i lt = on (nat_lt r i) refl where
  on : (b : Bool) → nat_lt r i ≡ b → (r < i) ⊎ (r ≡ i)
  on true e = inl (ltb-true r i e)
  on false e = inr (grind (arith, nat_tests))

module _ (rels : List RelDef) (text i : ℕ) (rel : RelDef) (at : slice_get rels i ≡ Some rel) (spots : List Spot) (has : HasSpotsTo rels text i spots) where
  same-rel : (s : Spot) (o : IsSpotOf rels text s) → o.r ≡ i → o.rel ≡ rel
  same-rel s o e = some-of o.rel rel (sym o.there ∙ ap (slice_get rels) e ∙ at)

  different : {X : Type 0} (b : Bool) → b ≡ true → b ≡ false → X
  different b e f = absurd (cc)

  pub spots-other : is_member text rel ≡ false → HasSpotsTo rels text (i + 1) spots
  spots-other other = record {
    sound = has.sound;
    every = λ s o lt. elim (less-or o.r i lt) [
      | inl less ↦ has.every s o less
      | inr same ↦ different (is_member text rel) (subst (λ (q : RelDef). is_member text q ≡ true) (same-rel s o same) o.member) other
    ];
  }

  pub spots-member : is_member text rel ≡ true → (later : List Spot) → later ≡ spots ++ map spot_of rel.rules → HasSpotsTo rels text (i + 1) later
  spots-member member later is = subst (HasSpotsTo rels text (i + 1)) (sym is) (record {
    sound = All-append (IsSpotOf rels text) spots (map spot_of rel.rules) has.sound
        (All-map (IsSpotOf rels text) spot_of rel.rules (λ k d lt. record { r = i; rel = rel; there = at; member = member; rule = get_or rel.rules k d; among = Contains-get_or rel.rules k d lt; is = refl }));
    every = λ s o lt. elim (less-or o.r i lt) [
      | inl less ↦ Contains-append_left spots (map spot_of rel.rules) s (has.every s o less)
      | inr same ↦ Contains-append_right spots (map spot_of rel.rules) s (of-rel s o (same-rel s o same))
    ];
  })
    where
      of-rel : (s : Spot) (o : IsSpotOf rels text s) → o.rel ≡ rel → Contains (map spot_of rel.rules) s
      of-rel s o e = subst (Contains (map spot_of rel.rules)) (sym o.is) (contains-map spot_of rel.rules o.rule (subst (λ (q : RelDef). Contains q.rules o.rule) e o.among))

pub spots-all : (rels : List RelDef) (text i : ℕ) (spots : List Spot) → length rels ≤ i → HasSpotsTo rels text i spots → HasAllSpots rels text spots
spots-all rels text i spots le has = record { sound = has.sound; every = λ s o. has.every s o (let l = slice_get_within rels o.r o.rel o.there in omega arith) }

-- ---- the order of places

pub not-itself : (a : Place) → is_before a a ≡ false
not-itself a = grind (arith, nat_tests)

pub not-back : (a b : Place) → is_before a b ≡ true → is_before b a ≡ false
not-back a b e = (before-follows a b a e (not-itself a)).1

-- what stands before what stands before a third, stands before that
pub before-third : (a b q : Place) → is_before a b ≡ true → is_before b q ≡ true → is_before a q ≡ true
before-third a b q e f = (before-follows b q a f (not-back a b e)).0

pub is-either : (x : Bool) → (x ≡ true) ⊎ (x ≡ false)
is-either true = inl refl
is-either false = inr refl

-- ---- rules that come after one

pub after-itself : (s : Spot) → comes_after s s ≡ false
after-itself s = by (is_before s.place s.place) (nat_lt s.parts s.parts) (not-itself s.place) (grind (arith, nat_tests)) where
  by : (x y : Bool) → x ≡ false → y ≡ false → (x || (not x && y)) ≡ false
  by x y e f = grind arith

pub opened : (x y z : Bool) → (x || (not y && z)) ≡ false → (x ≡ false) × ((y ≡ true) ⊎ (z ≡ false))
opened true y z e = absurd (cc)
opened false true z e = (refl, inl refl)
opened false false z e = (refl, inr e)

-- what does not come after one does not come after what does
pub not-after : (f m s : Spot) → comes_after m f ≡ true → comes_after s f ≡ false → comes_after s m ≡ false
not-after f m s mf sf = on (is-either (is_before f.place m.place)) where
  -- neither place is before the other's, and the parts are no more
  out : (x y : Bool) (z : Bool) → x ≡ false → (y ≡ true) ⊎ (z ≡ false) → (x || (not y && z)) ≡ false
  out x true z e h = grind arith
  out x false z e (inl h) = absurd (cc)
  out x false z e (inr h) = grind arith

  after-by : (x y z : Bool) → (x || (not y && z)) ≡ true → x ≡ false → (y ≡ false) × (z ≡ true)
  after-by true y z e f = absurd (cc)
  after-by false true z e f = absurd (cc)
  after-by false false z e f = (refl, e)

  parts-less : (a b c : ℕ) → nat_lt a b ≡ true → nat_lt a c ≡ false → nat_lt b c ≡ false
  parts-less a b c e f = grind (arith, nat_tests)

  different : (x : Bool) → x ≡ true → x ≡ false → ⊥
  different x e f = cc

  sides : (is_before f.place s.place ≡ false) × ((is_before s.place f.place ≡ true) ⊎ (nat_lt f.parts s.parts ≡ false))
  sides = opened (is_before f.place s.place) (is_before s.place f.place) (nat_lt f.parts s.parts) sf

  on : (is_before f.place m.place ≡ true) ⊎ (is_before f.place m.place ≡ false) → comes_after s m ≡ false
  on (inl e) = (let b = before-follows f.place m.place s.place e sides.0 in out (is_before m.place s.place) (is_before s.place m.place) (nat_lt m.parts s.parts) b.1 (inl b.0))
  on (inr e) = second sides.1 where
    same : (is_before m.place f.place ≡ false) × (nat_lt f.parts m.parts ≡ true)
    same = after-by (is_before f.place m.place) (is_before m.place f.place) (nat_lt f.parts m.parts) mf e

    second : (is_before s.place f.place ≡ true) ⊎ (nat_lt f.parts s.parts ≡ false) → comes_after s m ≡ false
    second (inl h) = third (is-either (is_before s.place m.place)) where
      third : (is_before s.place m.place ≡ true) ⊎ (is_before s.place m.place ≡ false) → comes_after s m ≡ false
      third (inl k) = out (is_before m.place s.place) (is_before s.place m.place) (nat_lt m.parts s.parts) (not-back s.place m.place k) (inl k)
      third (inr k) = absurd (different (is_before m.place f.place) (before-follows s.place f.place m.place h k).0 same.0)
    second (inr h) = fourth (is-either (is_before m.place s.place)) where
      fourth : (is_before m.place s.place ≡ true) ⊎ (is_before m.place s.place ≡ false) → comes_after s m ≡ false
      fourth (inl k) = absurd (different (is_before f.place s.place) (before-follows m.place s.place f.place k same.0).0 sides.0)
      fourth (inr k) = out (is_before m.place s.place) (is_before s.place m.place) (nat_lt m.parts s.parts) k (inr (parts-less f.parts m.parts s.parts same.1 h))
