-- The search for the rule at which a group is untyped.
use Rattle.std.proofs.Common.{◌≡◌, ◌⊎◌, inl, inr, ℕ, zero, suc, ◌<◌, ◌≤◌, Bool, true, false, ◌==◌, if◌then◌else◌, List, [], ◌∷◌, ◌++◌, length, get_or, take, drop, Option, Some, None, refl, sym, ap, subst, ◌∙◌, arith, eqb-true}
use Rattle.std.specs.Prelude.{All, nat_lt}
use Rattle.std.specs.List.{Contains, filter, remove}
use Rattle.std.proofs.lemmas.Bool.Decides.{nat_tests}
use Rattle.std.proofs.lemmas.List.Edits.{length-remove}
use Rattle.std.proofs.lemmas.List.Elements.{All-append, All-drop, All-filter, All-nil, All-take, filter_passes}
use Rattle.rml_base.specs.declared.place.Place.{Place}
use Rattle.rml_base.specs.Order.{is_before}
use Rattle.rml_resolved.specs.declared.parts.Parts.{Parts}
use Rattle.rml_resolved.specs.declared.tables.RelDef.{RelDef}
use Rattle.rml_resolved.specs.declared.tables.RRule.{RRule}
use Rattle.rml_types.specs.Schemes.{unit}
use Rattle.rml_typed.specs.Parts.{PieceOf, pieces}
use Rattle.rml_typed.specs.Units.{GroupCanBeTyped, GroupFirstTyped, GroupTypes, InGroup, Used, declared, inside, up_to}
use Rattle.rml_typed.proofs.Callers.{first-fewer}
use Rattle.rml_groups.specs.declared.extent.Extent.TheVariants as extent
use Rattle.rml_groups.specs.declared.spots.Spot.{Spot}
use Rattle.rml_groups.specs.Groups.{parts_in}
use Rattle.rml_groups.specs.Spots.{CanBeTyped, HasAllSpots, IsRuleFound, IsSpotOf, comes_after, spot_of}
use Rattle.rml_groups.proofs.Carried.{member-of}
use Rattle.rml_groups.proofs.Spotted.{after-itself, before-third, is-either, not-after, not-itself, opened}

-- ---- what the rules that are left are between

-- the last rule of which it was found that the parts before it can be typed
abbrev FoundAt : Parts → ℕ → Option Spot → Type 0
FoundAt p text None = Prim.Unit {0}
FoundAt p text (Some f) = IsSpotOf p.rels text f × GroupCanBeTyped p text f.place 0

-- and the first place such that those before it can't
abbrev Never : Parts → ℕ → Option Place → Type 0
Never p text None = CanBeTyped p text extent.All → ⊥
Never p text (Some q) = GroupCanBeTyped p text q 0 → ⊥

abbrev IsAfter : Option Spot → Spot → Type 0
IsAfter None s = Prim.Unit {0}
IsAfter (Some f) s = comes_after s f ≡ true

abbrev IsNotAfter : Option Spot → Spot → Type 0
IsNotAfter None s = ⊥
IsNotAfter (Some f) s = comes_after s f ≡ false

abbrev IsBefore : Option Place → Spot → Type 0
IsBefore None s = Prim.Unit {0}
IsBefore (Some q) s = is_before s.place q ≡ true

abbrev IsNotBefore : Option Place → Spot → Type 0
IsNotBefore None s = ⊥
IsNotBefore (Some q) s = is_before s.place q ≡ false

pub record Searching (p : Parts) (text : ℕ) (left : List Spot) (found : Option Spot) : Type 0 where
  pub bound : Option Place
  pub sound : All (IsSpotOf p.rels text) left
  pub after : All (IsAfter found) left
  pub before : All (IsBefore bound) left
  pub at : FoundAt p text found
  pub never : Never p text bound
  pub cover : (s : Spot) → IsSpotOf p.rels text s → Contains left s ⊎ (IsNotAfter found s ⊎ IsNotBefore bound s)

pub searching-begun : (p : Parts) (text : ℕ) (rels : List RelDef) (number : ℕ) (left : List Spot) → rels ≡ p.rels → number ≡ text → HasAllSpots rels number left → (CanBeTyped p text extent.All → ⊥) → Searching p text left None
searching-begun p text rels number left rels-are number-is has never =
    let h = subst (λ (rs : List RelDef). HasAllSpots rs text left) rels-are (subst (λ (n : ℕ). HasAllSpots rels n left) number-is has) in
    record { bound = None; sound = h.sound; after = λ k d lt. tt; before = λ k d lt. tt; at = tt; never = never; cover = λ s o. inl (h.every s o) }

-- ---- one is taken out

data Taken (rest : List Spot) (m s : Spot) : Type 0 where
  it : s ≡ m → Taken rest m s
  rest_has : Contains rest s → Taken rest m s

-- each of some is the one that is taken out, or is left
taken : (left : List Spot) (i : ℕ) (m s : Spot) → i < length left → m ≡ get_or left i m → Contains left s → Taken (remove left i) m s
taken [] i m s lt is c = absurd (omega arith)
taken (x ∷ left) zero m s lt is (zero, l, e) = Taken.it (sym e ∙ sym is)
taken (x ∷ left) zero m s lt is (suc k, l, e) = Taken.rest_has (k, omega arith, e)
taken (x ∷ left) (suc i) m s lt is (zero, l, e) = Taken.rest_has (0, omega arith, e)
taken (x ∷ left) (suc i) m s lt is (suc k, l, e) = on (taken left i m s (omega arith) is (k, omega arith, e)) where
  on : Taken (remove left i) m s → Taken (x ∷ remove left i) m s
  on (Taken.it h) = Taken.it h
  on (Taken.rest_has h) = (let lt2 = h.1 in Taken.rest_has (suc h.0, omega arith, h.2))

-- and what is left was among them
all-rest : (P : Spot → Type 0) (left : List Spot) (i : ℕ) → All P left → All P (take i left ++ drop (suc i) left)
all-rest P left i a = All-append P (take i left) (drop (suc i) left) (All-take P i left a) (All-drop P (suc i) left a)

filter-more : (test : Spot → Bool) (x : Spot) (xs : List Spot) (s : Spot) (b : Bool) → Contains (filter test xs) s → Contains (if b then x ∷ filter test xs else filter test xs) s
filter-more test x xs s true c = (let lt = c.1 in (suc c.0, omega arith, c.2))
filter-more test x xs s false c = c

contains-filter : (test : Spot → Bool) (xs : List Spot) (s : Spot) → Contains xs s → test s ≡ true → Contains (filter test xs) s
contains-filter test [] s (k, l, e) t = absurd (omega arith)
contains-filter test (x ∷ xs) s (zero, l, e) t = subst (λ (b : Bool). Contains (if b then x ∷ filter test xs else filter test xs) s) (sym (ap test e ∙ t)) (0, omega arith, e)
contains-filter test (x ∷ xs) s (suc k, l, e) t = filter-more test x xs s (test x) (contains-filter test xs s (k, omega arith, e) t)

module _ (p : Parts) (text : ℕ) (left : List Spot) (found : Option Spot) (s : Searching p text left found) (i : ℕ) (m : Spot) (lt : i < length left) (is : m ≡ get_or left i m) where
  at-taken : (P : Spot → Type 0) → All P left → P m
  at-taken P a = subst P (sym is) (a i m lt)

  -- the parts before the one that was taken out can be typed
  pub searching-after : GroupCanBeTyped p text m.place 0 → (later : List Spot) → later ≡ filter (λ x. comes_after x m) (remove left i) → Searching p text later (Some m)
  searching-after typed later later-is = subst (λ (xs : List Spot). Searching p text xs (Some m)) (sym later-is) (record {
    bound = s.bound;
    sound = All-filter (λ x. comes_after x m) (IsSpotOf p.rels text) (remove left i) (all-rest (IsSpotOf p.rels text) left i s.sound);
    after = filter_passes (λ x. comes_after x m) (remove left i);
    before = All-filter (λ x. comes_after x m) (IsBefore s.bound) (remove left i) (all-rest (IsBefore s.bound) left i s.before);
    at = (at-taken (IsSpotOf p.rels text) s.sound, typed);
    never = s.never;
    cover = cover;
  })
    where
      done : (o : Option Spot) (x : Spot) → IsAfter o m → IsNotAfter o x → comes_after x m ≡ false
      done None x a d = absurd d
      done (Some f) x a d = not-after f m x a d

      cover : (x : Spot) → IsSpotOf p.rels text x → Contains (filter (λ y. comes_after y m) (remove left i)) x ⊎ (IsNotAfter (Some m) x ⊎ IsNotBefore s.bound x)
      cover x o = on (s.cover x o) where
        of-rest : Contains (remove left i) x → (comes_after x m ≡ true) ⊎ (comes_after x m ≡ false) → Contains (filter (λ y. comes_after y m) (remove left i)) x ⊎ (IsNotAfter (Some m) x ⊎ IsNotBefore s.bound x)
        of-rest c (inl t) = inl (contains-filter (λ y. comes_after y m) (remove left i) x c t)
        of-rest c (inr t) = inr (inl t)

        of-taken : Taken (remove left i) m x → Contains (filter (λ y. comes_after y m) (remove left i)) x ⊎ (IsNotAfter (Some m) x ⊎ IsNotBefore s.bound x)
        of-taken (Taken.it e) = inr (inl (subst (λ (y : Spot). comes_after y m ≡ false) (sym e) (after-itself m)))
        of-taken (Taken.rest_has c) = of-rest c (is-either (comes_after x m))

        on : Contains left x ⊎ (IsNotAfter found x ⊎ IsNotBefore s.bound x) → Contains (filter (λ y. comes_after y m) (remove left i)) x ⊎ (IsNotAfter (Some m) x ⊎ IsNotBefore s.bound x)
        on (inl c) = of-taken (taken left i m x lt is c)
        on (inr (inl d)) = inr (inl (done found x (at-taken (IsAfter found) s.after) d))
        on (inr (inr q)) = inr (inr q)

  -- they cannot
  pub searching-before : (GroupCanBeTyped p text m.place 0 → ⊥) → (later : List Spot) → later ≡ filter (λ x. is_before x.place m.place) (remove left i) → Searching p text later found
  searching-before untyped later later-is = subst (λ (xs : List Spot). Searching p text xs found) (sym later-is) (record {
    bound = Some m.place;
    sound = All-filter (λ x. is_before x.place m.place) (IsSpotOf p.rels text) (remove left i) (all-rest (IsSpotOf p.rels text) left i s.sound);
    after = All-filter (λ x. is_before x.place m.place) (IsAfter found) (remove left i) (all-rest (IsAfter found) left i s.after);
    before = filter_passes (λ x. is_before x.place m.place) (remove left i);
    at = s.at;
    never = untyped;
    cover = cover;
  })
    where
      different : {X : Type 0} (b : Bool) → b ≡ true → b ≡ false → X
      different b e f = absurd (cc)

      past : (o : Option Place) (x : Spot) → IsBefore o m → IsNotBefore o x → (is_before x.place m.place ≡ true) ⊎ (is_before x.place m.place ≡ false) → is_before x.place m.place ≡ false
      past o x b d (inr t) = t
      past None x b d (inl t) = absurd d
      past (Some q) x b d (inl t) = different (is_before x.place q) (before-third x.place m.place q t b) d

      cover : (x : Spot) → IsSpotOf p.rels text x → Contains (filter (λ y. is_before y.place m.place) (remove left i)) x ⊎ (IsNotAfter found x ⊎ IsNotBefore (Some m.place) x)
      cover x o = on (s.cover x o) where
        of-rest : Contains (remove left i) x → (is_before x.place m.place ≡ true) ⊎ (is_before x.place m.place ≡ false) → Contains (filter (λ y. is_before y.place m.place) (remove left i)) x ⊎ (IsNotAfter found x ⊎ IsNotBefore (Some m.place) x)
        of-rest c (inl t) = inl (contains-filter (λ y. is_before y.place m.place) (remove left i) x c t)
        of-rest c (inr t) = inr (inr t)

        of-taken : Taken (remove left i) m x → Contains (filter (λ y. is_before y.place m.place) (remove left i)) x ⊎ (IsNotAfter found x ⊎ IsNotBefore (Some m.place) x)
        of-taken (Taken.it e) = inr (inr (subst (λ (y : Spot). is_before y.place m.place ≡ false) (sym e) (not-itself m.place)))
        of-taken (Taken.rest_has c) = of-rest c (is-either (is_before x.place m.place))

        on : Contains left x ⊎ (IsNotAfter found x ⊎ IsNotBefore s.bound x) → Contains (filter (λ y. is_before y.place m.place) (remove left i)) x ⊎ (IsNotAfter found x ⊎ IsNotBefore (Some m.place) x)
        on (inl c) = of-taken (taken left i m x lt is c)
        on (inr (inl d)) = inr (inl d)
        on (inr (inr q)) = inr (inr (past s.bound x (at-taken (IsBefore s.bound) s.before) q (is-either (is_before x.place m.place))))

-- ---- none is left

-- of a list each of the first m items is among the first n
abbrev Inside : ℕ → ℕ → ℕ → Type 0
Inside m n count = (k : ℕ) → k < m → k < count → k < n

-- the parts before the first place of which it was found that they can't be typed
abbrev bounded : Option Place → RRule → ℕ
bounded None rule = parts_in extent.All rule
bounded (Some q) rule = up_to q 0 rule

not-before-none : (q : Place) (rule : RRule) (n : ℕ) → is_before rule.place q ≡ false → Inside (up_to q 0 rule) n (length (pieces rule))
not-before-none q rule n e = on (is_before q rule.place) (is_before rule.place q) e where
  on : (a b : Bool) → b ≡ false → Inside (if a then 0 else if b then length (pieces rule) else 0) n (length (pieces rule))
  on true b e k lt l = absurd (omega arith)
  on false true e k lt l = absurd (cc)
  on false false e k lt l = absurd (omega arith)

not-after-all : (f : Spot) (rule : RRule) (m : ℕ) → comes_after (spot_of rule) f ≡ false → Inside m (up_to f.place f.parts rule) (length (pieces rule))
not-after-all f rule m e =
    (let h = opened (is_before f.place rule.place) (is_before rule.place f.place) (nat_lt f.parts (length (pieces rule))) e in on (is_before f.place rule.place) (is_before rule.place f.place) h.0 h.1) where
      on : (a b : Bool) → a ≡ false → (b ≡ true) ⊎ (nat_lt f.parts (length (pieces rule)) ≡ false) → Inside m (if a then 0 else if b then length (pieces rule) else f.parts) (length (pieces rule))
      on true b e h k lt l = absurd (cc)
      on false true e h k lt l = l
      on false false e (inl h) k lt l = absurd (cc)
      on false false e (inr h) k lt l = (let le : length (pieces rule) ≤ f.parts = grind (arith, nat_tests) in omega arith)

module _ (p : Parts) (text : ℕ) where
  a-spot : (r : ℕ) (q : InGroup p text r) (rule : RRule) → Contains q.rel.rules rule → IsSpotOf p.rels text (spot_of rule)
  a-spot r q rule among = record { r = r; rel = q.rel; there = q.there; member = member-of p text r q text refl; rule = rule; among = among; is = refl }

  no-left : (x : Spot) → Contains [] x → ⊥
  no-left x c = (let l = c.1 in omega arith)

  -- what types more parts of each rule of the group types fewer
  fewer : (S : GroupTypes) (few many : RRule → ℕ) → ((r : ℕ) (q : InGroup p text r) (rule : RRule) → Contains q.rel.rules rule → Inside (few rule) (many rule) (length (pieces rule))) → GroupFirstTyped p text S many → GroupFirstTyped p text S few
  fewer S few many inside-of typed r q rule among =
      first-fewer (declared p q.rel.«module») (Used p text q.rel.«module» (inside S)) (S r) rule (few rule) (many rule) (inside-of r q rule among) (typed r q rule among)

  -- of no parts all can be typed
  of-none : (S : GroupTypes) → GroupFirstTyped p text S (λ rule. 0)
  of-none S r q rule among = (λ x. unit, All-nil (PieceOf (declared p q.rel.«module») (Used p text q.rel.«module» (inside S)) (S r) (λ x. unit)))

  refuse : (bound : Option Place) → Never p text bound → ((S : GroupTypes) × GroupFirstTyped p text S (bounded bound)) → ⊥
  refuse None never h = never h
  refuse (Some q) never h = never h

  none-found : (bound : Option Place) → ((x : Spot) → IsSpotOf p.rels text x → IsNotBefore bound x) → (r : ℕ) (q : InGroup p text r) (rule : RRule) → Contains q.rel.rules rule → Inside (bounded bound rule) 0 (length (pieces rule))
  none-found None all r q rule among = absurd (all (spot_of rule) (a-spot r q rule among))
  none-found (Some b) all r q rule among = not-before-none b rule 0 (all (spot_of rule) (a-spot r q rule among))

  one-found : (f : Spot) (bound : Option Place) → ((x : Spot) → IsSpotOf p.rels text x → IsNotAfter (Some f) x ⊎ IsNotBefore bound x) → (r : ℕ) (q : InGroup p text r) (rule : RRule) → Contains q.rel.rules rule
      → Inside (bounded bound rule) (up_to f.place f.parts rule) (length (pieces rule))
  one-found f bound all r q rule among = on bound (all (spot_of rule) (a-spot r q rule among)) where
    on : (o : Option Place) → IsNotAfter (Some f) (spot_of rule) ⊎ IsNotBefore o (spot_of rule) → Inside (bounded o rule) (up_to f.place f.parts rule) (length (pieces rule))
    on o (inl d) = not-after-all f rule (bounded o rule) d
    on None (inr d) = absurd d
    on (Some b) (inr d) = not-before-none b rule (up_to f.place f.parts rule) d

  left-out : {A B : Type 0} (left : List Spot) (x : Spot) → left ≡ [] → Contains left x ⊎ (A ⊎ B) → A ⊎ B
  left-out left x is (inl c) = absurd (no-left x (subst (λ (xs : List Spot). Contains xs x) is c))
  left-out left x is (inr d) = d

  not-first : {B : Type 0} → ⊥ ⊎ B → B
  not-first (inl d) = absurd d
  not-first (inr b) = b

  pub searching-ended : (left : List Spot) (found : Option Spot) → left ≡ [] → Searching p text left found → IsRuleFound p text found
  searching-ended left None is s =
      refuse s.bound s.never (
        λ r. record { inputs = []; outputs = [] },
        fewer (λ r. record { inputs = []; outputs = [] }) (bounded s.bound) (λ rule. 0) (none-found s.bound (λ x o. not-first (left-out left x is (s.cover x o)))) (of-none (λ r. record { inputs = []; outputs = [] })),
      )
  searching-ended left (Some f) is s = record {
    of = s.at.0;
    before = s.at.1;
    never = λ h. refuse s.bound s.never (h.0, fewer h.0 (bounded s.bound) (up_to f.place f.parts) (one-found f s.bound (λ x o. left-out left x is (s.cover x o))) h.1);
  }

-- ---- fewer are left

filter-fewer : (test : Spot → Bool) (xs : List Spot) → length (filter test xs) ≤ length xs
filter-fewer test [] = omega arith
filter-fewer test (x ∷ xs) = on (test x) (filter-fewer test xs) where
  on : (b : Bool) → length (filter test xs) ≤ length xs → length (if b then x ∷ filter test xs else filter test xs) ≤ suc (length xs)
  on true le = omega arith
  on false le = omega arith

pub less-left : (test : Spot → Bool) (left rest later : List Spot) (i : ℕ) → i < length left → rest ≡ remove left i → later ≡ filter test rest → length later < length left
less-left test left rest later i lt rest-is later-is =
    let l = length-remove left i lt in
    let f = filter-fewer test rest in
    let r = ap (λ (xs : List Spot). length xs) rest-is in
    let e = ap (λ (xs : List Spot). length xs) later-is in
    omega arith

pub some-left : (n : ℕ) → false ≡ (n == 0) → 0 < n
some-left zero e = absurd (cc)
some-left (suc n) e = omega arith

pub none-left : (left : List Spot) (n : ℕ) → n ≡ length left → true ≡ (n == 0) → left ≡ []
none-left [] n is e = refl
none-left (x ∷ left) n is e = (let z = eqb-true n 0 (sym e) in absurd (omega arith))
