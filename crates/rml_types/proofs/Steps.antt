-- One step of unification: two roots become one, and the pairs of their arguments wait.
use Rattle.std.proofs.Common.{◌≡◌, ℕ, List, [], ◌∷◌, ◌++◌, length, refl, sym, ap, ◌∙◌, arith, Option, Some, None, inl, inr, subst, ◌↔◌}
use Rattle.std.specs.Prelude.{◌==◌, true, false}
use Rattle.std.proofs.lemmas.Bool.Decides.{nat_tests}
use Rattle.rml_types.specs.declared.form.Form.{Form}
use Rattle.rml_types.specs.Trees.{Tree, Same, Joins, Respects, SolvesBy}
use Rattle.rml_types.specs.UnionFind.{moved}
use Rattle.rml_types.specs.Waiting.{Agree, Alike, CanMeet, Closed, Known, Labels, Pairs, Unifying, Waits, argument_pairs, met_pairs}
use Rattle.rml_types.proofs.Roots.{at-end}
use Rattle.rml_types.proofs.Grown.{none-some}
use Rattle.rml_types.proofs.Pairs.{agree-arguments, agree-join, agree-split, pairs-at, pairs-join, pairs-split, same-sym, same-trans}
use Rattle.rml_types.proofs.Solutions.{arguments-same, clash}

pub finished : (form : ℕ → Option Form) (root : ℕ → ℕ) (known : ℕ → Option Form) → Waits form root known [] → Closed form root known
finished form root known w = w.closed root (λ m n e. e) tt

alike-refl : (h : ℕ → ℕ) (f : Form) → Alike h f f
alike-refl h f = record { con = refl; count = refl; arguments = λ i lt. refl }

alike-trans : (h : ℕ → ℕ) (f g k : Form) → Alike h f g → Alike h g k → Alike h f k
alike-trans h f g k a b = record {
  con = a.con ∙ b.con;
  count = a.count ∙ b.count;
  arguments = λ i lt. a.arguments i lt ∙ b.arguments i (let n = a.count in omega arith);
}

pub moved-lost : (a b : ℕ) → moved a b b ≡ a
moved-lost a b = let t : (b == b) ≡ true = grind (arith, nat_tests) in rw t refl

pub moved-other : (a b x : ℕ) → (x ≡ b → ⊥) → moved a b x ≡ x
moved-other a b x ne = let t : (x == b) ≡ false = grind (arith, nat_tests, ne) in rw t refl

pub some-inj : {X : Type 0} {f g : X} → Some f ≡ Some g → f ≡ g
some-inj e = cc

-- one of two options is known of the class that stays
pub data Step (a b : ℕ) (known later : ℕ → Option Form) : Type 0 where
  Kept : (f : Form) → known a ≡ Some f → later a ≡ Some f → Step a b known later
  Taken : known a ≡ None → later a ≡ known b → Step a b known later

-- which of the two nodes of a pair is in which of two classes
pub data Sides (root : ℕ → ℕ) (a b m n : ℕ) : Type 0 where
  Straight : root m ≡ a → root n ≡ b → Sides root a b m n
  Crossed : root m ≡ b → root n ≡ a → Sides root a b m n

module _ (form : ℕ → Option Form) (root : ℕ → ℕ) (known later : ℕ → Option Form) (a b m n : ℕ) (rest : List (ℕ × ℕ))
    (ne : a ≡ b → ⊥) (on : Sides root a b m n)
    (step : Step a b known later) (others : (c : ℕ) → (c ≡ a → ⊥) → later c ≡ known c) (can : CanMeet (known a) (known b)) where
  abbrev joined : ℕ → ℕ
  joined x = moved a b (root x)

  pub pair : moved a b (root m) ≡ moved a b (root n)
  pair = elim on [
    | Straight em en ↦ ap (moved a b) em ∙ moved-other a b a ne ∙ sym (ap (moved a b) en ∙ moved-lost a b)
    | Crossed em en ↦ ap (moved a b) em ∙ moved-lost a b ∙ sym (ap (moved a b) en ∙ moved-other a b a ne)
  ]

  pub labels-before : (h : ℕ → ℕ) → Labels joined h → Labels root h
  labels-before h l x y e = l x y (ap (moved a b) e)

  -- what was known of a class is known, alike, of the class that it is in
  merged : (h : ℕ → ℕ) → Pairs h (met_pairs (known a) (known b)) → (c : ℕ) (g : Form) → known c ≡ Some g → (k : Form) × (later (moved a b c) ≡ Some k) × Alike h g k
  merged h w c g e = elim (at-end c b) [
    | inl r ↦ (let kb : known b ≡ Some g = ap known (sym r) ∙ e in
        let at : moved a b c ≡ a = ap (moved a b) r ∙ moved-lost a b in
        elim step [
          | Kept f ka la ↦ (
              let can' : (f.con ≡ g.con) × (length f.args ≡ length g.args) = rw (ka, kb) at can in
              let w' : Pairs h (argument_pairs f.args g.args) = rw (ka, kb) at w in
              (f, ap later at ∙ la, record { con = sym can'.0; count = sym can'.1; arguments = λ i lt. (let k = can'.1 in sym (pairs-at h f.args g.args i w' k (omega arith))) }))
          | Taken na la ↦ (g, ap later at ∙ la ∙ kb, alike-refl h g)
        ])
    | inr r ↦ (let at : moved a b c ≡ c = moved-other a b c r in
        elim (at-end c a) [
          | inl s ↦ (let ka' : known a ≡ Some g = ap known (sym s) ∙ e in elim step [
            | Kept f ka la ↦ (f, ap later (at ∙ s) ∙ la, subst (λ k. Alike h g k) (some-inj (sym ka' ∙ ka)) (alike-refl h g))
            | Taken na la ↦ none-some na ka'
          ])
          | inr s ↦ (g, ap later at ∙ others c s ∙ e, alike-refl h g)
        ])
  ]

  pub waits-on : Waits form root known (rest ++ (m, n) ∷ []) → Waits form joined later (rest ++ met_pairs (known a) (known b))
  waits-on w = record {
    closed = λ h l p x f e. (
        let ps = pairs-split h rest (met_pairs (known a) (known b)) p in
        let old = w.closed h (labels-before h l) (pairs-join h rest ((m, n) ∷ []) ps.0 (l m n pair, tt)) x f e in
        let new = merged h ps.1 (root x) old.0 old.1 in
        (new.0, new.1, alike-trans h f old.0 new.0 old.2 new.2));
  }

module _ (root : ℕ → ℕ) (a b m n : ℕ) (a_root : root a ≡ a) (b_root : root b ≡ b) where
  -- the two nodes stand for the two classes
  pub sides : Sides root a b m n → (tree : ℕ → Tree) → Joins root tree → Same (tree m) (tree n) → Same (tree a) (tree b)
  sides on tree j s = elim on [
    | Straight em en ↦ same-trans (tree a) (tree m) (tree b) (j a m (a_root ∙ sym em)) (same-trans (tree m) (tree n) (tree b) s (j n b (en ∙ sym b_root)))
    | Crossed em en ↦ same-trans (tree a) (tree n) (tree b) (j a n (a_root ∙ sym en)) (same-trans (tree n) (tree m) (tree b) (same-sym (tree m) (tree n) s) (j m b (em ∙ sym b_root)))
  ]

  pub joins-on : (tree : ℕ → Tree) → Joins root tree → Same (tree a) (tree b) → Joins (λ x. moved a b (root x)) tree
  joins-on tree j s x y e = elim (at-end (root x) b) [
    | inl xb ↦ elim (at-end (root y) b) [
      | inl yb ↦ j x y (xb ∙ sym yb)
      | inr yo ↦ (let ya : root y ≡ a = sym (moved-other a b (root y) yo) ∙ sym e ∙ ap (moved a b) xb ∙ moved-lost a b in
          same-trans (tree x) (tree b) (tree y) (j x b (xb ∙ sym b_root)) (same-trans (tree b) (tree a) (tree y) (same-sym (tree a) (tree b) s) (j a y (a_root ∙ sym ya))))
    ]
    | inr xo ↦ elim (at-end (root y) b) [
      | inl yb ↦ (let xa : root x ≡ a = sym (moved-other a b (root x) xo) ∙ e ∙ ap (moved a b) yb ∙ moved-lost a b in
          same-trans (tree x) (tree a) (tree y) (j x a (xa ∙ sym a_root)) (same-trans (tree a) (tree b) (tree y) s (j b y (b_root ∙ sym yb))))
      | inr yo ↦ j x y (sym (moved-other a b (root x) xo) ∙ e ∙ moved-other a b (root y) yo)
    ]
  ]

module _ (form : ℕ → Option Form) (root : ℕ → ℕ) (known : ℕ → Option Form) (a b : ℕ) (a_root : root a ≡ a) (b_root : root b ≡ b) (is : Known form root known)
    (tree : ℕ → Tree) (r : Respects form tree) (j : Joins root tree) (s : Same (tree a) (tree b)) where
  at-forms : (f g : Form) → known a ≡ Some f → known b ≡ Some g → (x : ℕ) × ((y : ℕ) × ((form x ≡ Some f) × (form y ≡ Some g) × Same (tree x) (tree y)))
  at-forms f g ka kb =
      let x = is a f a_root ka in
      let y = is b g b_root kb in
      (x.0, (y.0, (x.2, y.2, same-trans (tree x.0) (tree a) (tree y.0) (j x.0 a (x.1 ∙ sym a_root)) (same-trans (tree a) (tree b) (tree y.0) s (j b y.0 (b_root ∙ sym y.1))))))

  meet-for : (o p : Option Form) → known a ≡ o → known b ≡ p → CanMeet o p
  meet-for None p ka kb = tt
  meet-for (Some f) None ka kb = tt
  meet-for (Some f) (Some g) ka kb = let n = at-forms f g ka kb in clash form tree n.0 n.1.0 f g r n.1.1.0 n.1.1.1 n.1.1.2

  -- one tree at two classes lets their forms be one
  pub can-meet : CanMeet (known a) (known b)
  can-meet = meet-for (known a) (known b) refl refl

  agree-for : (o p : Option Form) → known a ≡ o → known b ≡ p → Agree tree (met_pairs o p)
  agree-for None p ka kb = tt
  agree-for (Some f) None ka kb = tt
  agree-for (Some f) (Some g) ka kb =
      let n = at-forms f g ka kb in
      let count = (clash form tree n.0 n.1.0 f g r n.1.1.0 n.1.1.1 n.1.1.2).1 in
      agree-arguments tree f.args g.args count (λ i lt. arguments-same form tree n.0 n.1.0 f g i r n.1.1.0 n.1.1.1 lt (omega arith) n.1.1.2)

  pub agree-on : Agree tree (met_pairs (known a) (known b))
  agree-on = agree-for (known a) (known b) refl refl

module _ (form : ℕ → Option Form) (before : ℕ → ℕ) (x y : ℕ) (root : ℕ → ℕ) (known : ℕ → Option Form) (m n : ℕ) (rest : List (ℕ × ℕ))
    (u : Unifying form before x y root known (rest ++ (m, n) ∷ [])) where
  -- a pair in one class says nothing new
  pub passed : root m ≡ root n → Unifying form before x y root known rest
  passed e = record {
    waits = record { closed = λ h l p. u.waits.closed h l (pairs-join h rest ((m, n) ∷ []) p (l m n e, tt)) };
    coarser = u.coarser;
    asked = λ h l p. u.asked h l (pairs-join h rest ((m, n) ∷ []) p (l m n e, tt));
    forced = λ tree s e. (let f = u.forced tree s e in (f.0, (agree-split tree rest ((m, n) ∷ []) f.1).0));
  }

  module _ (later : ℕ → Option Form) (a b : ℕ) (ne : a ≡ b → ⊥) (a_root : root a ≡ a) (b_root : root b ≡ b) (on : Sides root a b m n) (is : Known form root known) where
    pair-same : (tree : ℕ → Tree) → SolvesBy form before tree → Same (tree x) (tree y) → Same (tree a) (tree b)
    pair-same tree s e = let f = u.forced tree s e in
        sides root a b m n a_root b_root on tree f.0 (agree-split tree rest ((m, n) ∷ []) f.1).1.0

    -- forms that cannot be one leave no solution
    pub refused : (CanMeet (known a) (known b) → ⊥) → (tree : ℕ → Tree) → SolvesBy form before tree → Same (tree x) (tree y) → ⊥
    refused never tree s e = never (can-meet form root known a b a_root b_root is tree s.forms (u.forced tree s e).0 (pair-same tree s e))

    -- forms that can be one: the classes become one, and the pairs of their arguments wait
    pub united : Step a b known later → ((c : ℕ) → (c ≡ a → ⊥) → later c ≡ known c) → CanMeet (known a) (known b)
        → Unifying form before x y (λ z. moved a b (root z)) later (rest ++ met_pairs (known a) (known b))
    united step others can =
        let before-labels = labels-before form root known later a b m n rest ne on step others can in
        let pair-labels = pair form root known later a b m n rest ne on step others can in
        record {
          waits = waits-on form root known later a b m n rest ne on step others can u.waits;
          coarser = λ h l. u.coarser h (before-labels h l);
          asked = λ h l p. u.asked h (before-labels h l) (pairs-join h rest ((m, n) ∷ []) (pairs-split h rest (met_pairs (known a) (known b)) p).0 (l m n pair-labels, tt));
          forced = λ tree s e. (let f = u.forced tree s e in (
            joins-on root a b m n a_root b_root tree f.0 (pair-same tree s e),
            agree-join tree rest (met_pairs (known a) (known b)) (agree-split tree rest ((m, n) ∷ []) f.1).0 (agree-on form root known a b a_root b_root is tree s.forms f.0 (pair-same tree s e)),
          ));
        }

module _ (form : ℕ → Option Form) (root : ℕ → ℕ) (known : ℕ → Option Form) (closed : Closed form root known) where
  pub begun : (x y : ℕ) → Unifying form root x y root known ((x, y) ∷ [])
  begun x y = record {
    waits = record { closed = λ h l p n f e. (let c = closed n f e in (c.0, c.1, record { con = c.2.con; count = c.2.count; arguments = λ i lt. l _ _ (c.2.arguments i lt) })) };
    coarser = λ h l. l;
    asked = λ h l p. p.0;
    forced = λ tree s e. (s.classes, (e, tt));
  }

module _ (form : ℕ → Option Form) (before : ℕ → ℕ) (x y : ℕ) (root : ℕ → ℕ) (known : ℕ → Option Form) (u : Unifying form before x y root known []) where
  pub equates : (tree : ℕ → Tree) → SolvesBy form root tree ↔ (SolvesBy form before tree × Same (tree x) (tree y))
  equates tree = (
    λ s. (record { forms = s.forms; classes = λ m n e. s.classes m n (u.coarser root (λ k l e. e) m n e) }, s.classes x y (u.asked root (λ k l e. e) tt)),
    λ b. record { forms = b.0.forms; classes = (u.forced tree b.0 b.1).0 },
  )
