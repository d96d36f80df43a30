-- A turn of unification.
use Rattle.std.proofs.Common.{◌≡◌, ℕ, zero, suc, ◌+◌, ◌*◌, ◌<◌, ◌≤◌, List, [], ◌∷◌, ◌++◌, length, map, refl, sym, ap, ◌∙◌, arith, get_or, inl, inr, length-append, Option, Some, None, subst, min, max, Result, Ok, Err}
use Rattle.std.specs.Prelude.{slice_index, option_and_then, OnOk}
use Rattle.std.specs.Option.{option_or}
use Rattle.std.proofs.Math.ListN.{set}
use Rattle.std.proofs.Math.Nat.{mul-le-mul_right}
use Rattle.std.proofs.lemmas.List.{get_or-set_other, get_or-set_same, length-set, length-map, get_or-map}
use Rattle.rml_types.specs.declared.form.Form.{Form}
use Rattle.rml_types.specs.declared.form.UnifyErr.TheVariants.{Memory}
use Rattle.rml_types.specs.UnionFind.{moved}
use Rattle.rml_types.specs.Kept.{IsGraph, IsOpen, known_by}
use Rattle.rml_types.specs.Nodes.{Nodes, form_in, root_in, form_of, class_of}
use Rattle.rml_types.specs.Waiting.{CanMeet, Known, PairsBelow, Unifying, met_pairs}
use Rattle.rml_types.specs.Turns.{Stuck, Turn, cells, total}
use Rattle.rml_types.proofs.Roots.{at-end}
use Rattle.rml_types.proofs.Grown.{none-some, order, past, Less, Equal, More}
use Rattle.rml_types.proofs.Pairs.{below-arguments, below-join, pairs-length}
use Rattle.rml_types.proofs.Steps.{Crossed, Kept, Sides, Step, Straight, Taken, moved-lost, moved-other, passed, refused, some-inj, united}

pub fn-ext : {X Y : Type 0} {f g : X → Y} → ((x : X) → f x ≡ g x) → f ≡ g
fn-ext h = λ i x. h x i

-- a form known of a root is a node's
pub known-is : (g : Nodes) (shapes : List (Option ℕ)) → IsGraph g shapes → Known (form_of g) (class_of g) (known_by g.forms shapes)
known-is g shapes is c f own e = go (get_or shapes c None) refl where
  go : (o : Option ℕ) → get_or shapes c None ≡ o → (n : ℕ) × (class_of g n ≡ c) × (form_of g n ≡ Some f)
  go None q = none-some refl (ap (option_and_then (form_of g)) (sym q) ∙ e)
  go (Some s) q = let k = is.shaped c s own q in (s, k.0, ap (option_and_then (form_of g)) (sym q) ∙ e)

-- the known form of a class with a shape
known-some : (g : Nodes) (shapes : List (Option ℕ)) (c s : ℕ) → get_or shapes c None ≡ Some s → known_by g.forms shapes c ≡ form_of g s
known-some g shapes c s q = ap (option_and_then (form_of g)) q

module _ (forms : List (Option Form)) (roots : List ℕ) (shapes : List (Option ℕ)) (a b : ℕ) (less : a < b) (b_in : b < length forms)
    (is : IsOpen forms roots shapes) (a_own : slice_index roots a ≡ a) (b_own : slice_index roots b ≡ b) where
  abbrev old : Nodes
  old = record { forms = forms; roots = roots; failed = Some Memory }

  abbrev later_shapes : List (Option ℕ)
  later_shapes = set shapes a (option_or (get_or shapes a None) (get_or shapes b None))

  root-at : (n : ℕ) → n < length forms → root_in roots n ≡ slice_index roots n
  root-at n lt = default roots n n 0 (let c = is.count in omega arith) where
    default : (xs : List ℕ) (i d e : ℕ) → i < length xs → get_or xs i d ≡ get_or xs i e
    default [] i d e lt = absurd (omega arith)
    default (x ∷ xs) zero d e lt = refl
    default (x ∷ xs) (suc i) d e lt = default xs i d e (omega arith)

  a-root : root_in roots a ≡ a
  a-root = root-at a (omega arith) ∙ a_own

  b-root : root_in roots b ≡ b
  b-root = root-at b b_in ∙ b_own

  differ : a ≡ b → ⊥
  differ e = omega arith

  root-on : (n : ℕ) → root_in (map (moved a b) roots) n ≡ moved a b (root_in roots n)
  root-on n = elim (order n (length roots)) [
    | Less h ↦ get_or-map (moved a b) roots n n n h
    | Equal e ↦ outside (omega arith)
    | More h ↦ outside (omega arith)
  ] where
    outside : length roots ≤ n → root_in (map (moved a b) roots) n ≡ moved a b (root_in roots n)
    outside le = past (map (moved a b) roots) n n (let l = length-map roots (moved a b) in omega arith) ∙ sym (ap (moved a b) (past roots n n le) ∙ moved-other a b n (λ e. (let c = is.count in omega arith)))

  later-a : get_or later_shapes a None ≡ option_or (get_or shapes a None) (get_or shapes b None)
  later-a = get_or-set_same shapes a (option_or (get_or shapes a None) (get_or shapes b None)) None (let c = is.shape_count in omega arith)

  later-other : (c : ℕ) → (c ≡ a → ⊥) → get_or later_shapes c None ≡ get_or shapes c None
  later-other c ne = get_or-set_other shapes a c (option_or (get_or shapes a None) (get_or shapes b None)) None ne

  pub others : (c : ℕ) → (c ≡ a → ⊥) → known_by forms later_shapes c ≡ known_by forms shapes c
  others c ne = ap (option_and_then (form_in forms)) (later-other c ne)

  pub step : Step a b (known_by forms shapes) (known_by forms later_shapes)
  step = go (get_or shapes a None) refl where
    go : (o : Option ℕ) → get_or shapes a None ≡ o → Step a b (known_by forms shapes) (known_by forms later_shapes)
    go None q = Taken (ap (option_and_then (form_in forms)) q) (ap (option_and_then (form_in forms)) (later-a ∙ ap (λ o. option_or o (get_or shapes b None)) q))
    go (Some s) q = let k = is.shaped a s a-root q in
        Kept k.1.0 (ap (option_and_then (form_in forms)) q ∙ k.1.1) (ap (option_and_then (form_in forms)) (later-a ∙ ap (λ o. option_or o (get_or shapes b None)) q) ∙ k.1.1)

  -- a root afterwards was a root before, and is not the one that was lost
  was-root : (c : ℕ) → root_in (map (moved a b) roots) c ≡ c → (root_in roots c ≡ c) × (c ≡ b → ⊥)
  was-root c own = elim (at-end (root_in roots c) b) [
    | inl e ↦ (
        let ca : c ≡ a = sym own ∙ root-on c ∙ ap (moved a b) e ∙ moved-lost a b in
        let contra : b ≡ a = sym e ∙ ap (root_in roots) ca ∙ a-root in absurd (omega arith))
    | inr ne ↦ (
        let same : root_in roots c ≡ c = sym (moved-other a b (root_in roots c) ne) ∙ sym (root-on c) ∙ own in
        (same, λ e. ne (same ∙ e)))
  ]

  shaped-later : (c s : ℕ) → root_in (map (moved a b) roots) c ≡ c → get_or later_shapes c None ≡ Some s → (root_in (map (moved a b) roots) s ≡ c) × ((f : Form) × (form_in forms s ≡ Some f))
  shaped-later c s own q =
      let w = was-root c own in
      elim (at-end c a) [
        | inl ca ↦ at-a ca (get_or shapes a None) refl
        | inr other ↦ (let k = is.shaped c s w.0 (sym (later-other c other) ∙ q) in (root-on s ∙ ap (moved a b) k.0 ∙ moved-other a b c w.1, k.1))
      ] where
        at-a : c ≡ a → (o : Option ℕ) → get_or shapes a None ≡ o → (root_in (map (moved a b) roots) s ≡ c) × ((f : Form) × (form_in forms s ≡ Some f))
        at-a ca None e =
            let k = is.shaped b s b-root (ap (λ o. option_or o (get_or shapes b None)) (sym e) ∙ sym later-a ∙ ap (λ x. get_or later_shapes x None) (sym ca) ∙ q) in
            (root-on s ∙ ap (moved a b) k.0 ∙ moved-lost a b ∙ sym ca, k.1)
        at-a ca (Some t) e =
            let st : Some t ≡ Some s = ap (λ o. option_or o (get_or shapes b None)) (sym e) ∙ sym later-a ∙ ap (λ x. get_or later_shapes x None) (sym ca) ∙ q in
            let k = is.shaped a s a-root (e ∙ st) in
            (root-on s ∙ ap (moved a b) k.0 ∙ moved-other a b a differ ∙ sym ca, k.1)

  pub open-later : IsOpen forms (map (moved a b) roots) later_shapes
  open-later = record {
    count = length-map roots (moved a b) ∙ is.count;
    shape_count = length-set shapes a (option_or (get_or shapes a None) (get_or shapes b None)) ∙ is.shape_count;
    fits = is.fits;
    arguments = is.arguments;
    rooted = λ n lt. rw (root-on n) (elim (at-end (root_in roots n) b) [
      | inl e ↦ rw (e, moved-lost a b) (omega arith)
      | inr ne ↦ rw (moved-other a b (root_in roots n) ne) (is.rooted n lt)
    ]);
    own = λ n. own-later n;
    shaped = shaped-later;
    closed = λ e. none-some refl (sym e);
  } where
    own-later : (n : ℕ) → root_in (map (moved a b) roots) (root_in (map (moved a b) roots) n) ≡ root_in (map (moved a b) roots) n
    own-later n = elim (at-end (root_in roots n) b) [
      | inl e ↦ (let r : root_in (map (moved a b) roots) n ≡ a = root-on n ∙ ap (moved a b) e ∙ moved-lost a b in
          ap (root_in (map (moved a b) roots)) r ∙ root-on a ∙ ap (moved a b) a-root ∙ moved-other a b a differ ∙ sym r)
      | inr ne ↦ (let r : root_in (map (moved a b) roots) n ≡ root_in roots n = root-on n ∙ moved-other a b (root_in roots n) ne in
          ap (root_in (map (moved a b) roots)) r ∙ root-on (root_in roots n) ∙ ap (moved a b) (is.own n) ∙ moved-other a b (root_in roots n) ne ∙ sym r)
    ]

moved-le : (a b x : ℕ) → a < b → moved a b x ≤ x
moved-le a b x lt = elim (at-end x b) [
  | inl e ↦ rw (e, moved-lost a b) (omega arith)
  | inr ne ↦ rw (moved-other a b x ne) (omega arith)
]

total-le : (a b : ℕ) (xs : List ℕ) → a < b → total (map (moved a b) xs) ≤ total xs
total-le a b [] lt = omega arith
total-le a b (x ∷ xs) lt = let h = moved-le a b x lt in let t = total-le a b xs lt in omega arith

total-falls : (a b : ℕ) (xs : List ℕ) (i : ℕ) → a < b → i < length xs → slice_index xs i ≡ b → total (map (moved a b) xs) < total xs
total-falls a b [] i lt li e = absurd (omega arith)
total-falls a b (x ∷ xs) zero lt li e = rw (e, moved-lost a b) (let t = total-le a b xs lt in omega arith)
total-falls a b (x ∷ xs) (suc i) lt li e = let h = moved-le a b x lt in let t = total-falls a b xs i lt (omega arith) e in omega arith

cells-bound : (fs : List (Option Form)) (n : ℕ) (f : Form) → form_in fs n ≡ Some f → length f.args ≤ cells fs
cells-bound [] n f e = none-some refl e
cells-bound (None ∷ fs) zero f e = none-some refl e
cells-bound (Some g ∷ fs) zero f e = let s : g ≡ f = some-inj e in rw s (omega arith)
cells-bound (None ∷ fs) (suc n) f e = cells-bound fs n f e
cells-bound (Some g ∷ fs) (suc n) f e = let t = cells-bound fs n f e in omega arith

-- what lies between the measures of a turn
turn-falls : (old new cells rest met : ℕ) → new < old → met ≤ cells → new * (cells + 1) + (rest + met) < old * (cells + 1) + (rest + 1)
turn-falls old new cells rest met lt le = let p = mul-le-mul_right (cells + 1) (let k : new + 1 ≤ old = omega arith in k) in omega (arith, p)

module _ (forms : List (Option Form)) (roots : List ℕ) (shapes : List (Option ℕ)) (a b : ℕ) (less : a < b) (b_in : b < length forms)
    (is : IsOpen forms roots shapes) (a_own : slice_index roots a ≡ a) (b_own : slice_index roots b ≡ b) (work : List (ℕ × ℕ)) (m n : ℕ) (on : Sides (root_in roots) a b m n) where
  abbrev state : Nodes
  state = record { forms = forms; roots = roots; failed = Some Memory }

  at-node : (c : ℕ) (f : Form) → root_in roots c ≡ c → known_by forms shapes c ≡ Some f → (k : ℕ) × (form_in forms k ≡ Some f)
  at-node c f own e = let k = known-is state shapes is c f own e in (k.0, k.2)

  a-in-root : root_in roots a ≡ a
  a-in-root = a-root forms roots shapes a b less b_in is a_own b_own

  b-in-root : root_in roots b ≡ b
  b-in-root = b-root forms roots shapes a b less b_in is a_own b_own

  met-below : (o p : Option Form) → known_by forms shapes a ≡ o → known_by forms shapes b ≡ p → PairsBelow (length forms) (met_pairs o p)
  met-below None p ka kb = tt
  met-below (Some f) None ka kb = tt
  met-below (Some f) (Some g) ka kb =
      let x = at-node a f a-in-root ka in
      let y = at-node b g b-in-root kb in
      below-arguments (length forms) f.args g.args (is.arguments x.0 f x.1) (is.arguments y.0 g y.1)

  met-short : (o p : Option Form) → known_by forms shapes a ≡ o → known_by forms shapes b ≡ p → length (met_pairs o p) ≤ cells forms
  met-short None p ka kb = omega arith
  met-short (Some f) None ka kb = omega arith
  met-short (Some f) (Some g) ka kb =
      let x = at-node a f a-in-root ka in
      let l = pairs-length f.args g.args in
      let c = cells-bound forms x.0 f x.1 in
      omega (arith, l, c)

  abbrev met : List (ℕ × ℕ)
  met = met_pairs (known_by forms shapes a) (known_by forms shapes b)

  pub turned : CanMeet (known_by forms shapes a) (known_by forms shapes b) → Turn forms roots shapes work m n (map (moved a b) roots)
      (set shapes a (option_or (get_or shapes a None) (get_or shapes b None))) (work ++ met_pairs (known_by forms shapes a) (known_by forms shapes b))
  turned can = record {
    graph = open-later forms roots shapes a b less b_in is a_own b_own;
    goes = λ before x y u. (
        let go : Unifying (form_in forms) before x y (λ z. moved a b (root_in roots z)) (known_by forms (set shapes a (option_or (get_or shapes a None) (get_or shapes b None)))) (work ++ met) =
        united (form_in forms) before x y (root_in roots) (known_by forms shapes) m n work u (known_by forms (set shapes a (option_or (get_or shapes a None) (get_or shapes b None)))) a b
        (differ forms roots shapes a b less b_in is a_own b_own) a-in-root b-in-root on (known-is state shapes is)
        (step forms roots shapes a b less b_in is a_own b_own) (others forms roots shapes a b less b_in is a_own b_own) can in
        subst (λ (r : ℕ → ℕ). Unifying (form_in forms) before x y r (known_by forms (set shapes a (option_or (get_or shapes a None) (get_or shapes b None)))) (work ++ met))
        (fn-ext (λ z. sym (root-on forms roots shapes a b less b_in is a_own b_own z))) go);
    below = λ p. below-join (length forms) work met p (met-below (known_by forms shapes a) (known_by forms shapes b) refl refl);
    falls = (
        let t = total-falls a b roots b less (let c = is.count in omega arith) b_own in
        let s = met-short (known_by forms shapes a) (known_by forms shapes b) refl refl in
        rw (length-append work met, length-append work ((m, n) ∷ [])) (turn-falls (total roots) (total (map (moved a b) roots)) (cells forms) (length work) (length met) t s));
  }

  pub stuck : (CanMeet (known_by forms shapes a) (known_by forms shapes b) → ⊥) → Stuck forms roots shapes work m n
  stuck never before x y u = refused (form_in forms) before x y (root_in roots) (known_by forms shapes) m n work u (known_by forms shapes) a b
      (differ forms roots shapes a b less b_in is a_own b_own) a-in-root b-in-root on (known-is state shapes is) never

pub skipped : (forms : List (Option Form)) (roots : List ℕ) (shapes : List (Option ℕ)) (work : List (ℕ × ℕ)) (m n : ℕ) → IsOpen forms roots shapes → root_in roots m ≡ root_in roots n
    → Turn forms roots shapes work m n roots shapes work
skipped forms roots shapes work m n is e = record {
  graph = is;
  goes = λ before a b u. passed (form_in forms) before a b (root_in roots) (known_by forms shapes) m n work u e;
  below = λ p. p;
  falls = rw (length-append work ((m, n) ∷ [])) (omega arith);
}

pub on-ok : {A E P Q R S T : Type 0} (r : Result A E) → OnOk r P → OnOk r Q → OnOk r R → OnOk r S → (P → Q → R → S → T) → OnOk r T
on-ok (Ok v) p q r s f = f p q r s
on-ok (Err e) p q r s f = tt

-- the classes that a pair's two nodes are in
module _ (forms : List (Option Form)) (roots : List ℕ) (shapes : List (Option ℕ)) (work : List (ℕ × ℕ)) (m n one other kept lost : ℕ) (is : IsOpen forms roots shapes)
    (m_in : m < length forms) (n_in : n < length forms) (is_one : one ≡ slice_index roots m) (is_other : other ≡ slice_index roots n)
    (own_one : slice_index roots one ≡ one) (own_other : slice_index roots other ≡ other) (ne : one ≡ other → ⊥) (is_kept : kept ≡ min one other) (is_lost : lost ≡ max one other) where
  of-node : (k : ℕ) → k < length forms → root_in roots k ≡ slice_index roots k
  of-node k lt = default roots k k 0 (let c = is.count in omega arith) where
    default : (xs : List ℕ) (i d e : ℕ) → i < length xs → get_or xs i d ≡ get_or xs i e
    default [] i d e lt = absurd (omega arith)
    default (x ∷ xs) zero d e lt = refl
    default (x ∷ xs) (suc i) d e lt = default xs i d e (omega arith)

  pub kept-less : kept < lost
  kept-less = omega (arith, ne)

  pub lost-in : lost < length forms
  lost-in =
      let a = is.rooted m m_in in let b = is.rooted n n_in in
      let p = of-node m m_in in let q = of-node n n_in in omega (arith, a, b, p, q)

  pub kept-own : slice_index roots kept ≡ kept
  kept-own = elim (order one other) [
    | Less h ↦ (let e : kept ≡ one = omega arith in ap (slice_index roots) e ∙ own_one ∙ sym e)
    | Equal h ↦ absurd (ne h)
    | More h ↦ (let e : kept ≡ other = omega arith in ap (slice_index roots) e ∙ own_other ∙ sym e)
  ]

  pub lost-own : slice_index roots lost ≡ lost
  lost-own = elim (order one other) [
    | Less h ↦ (let e : lost ≡ other = omega arith in ap (slice_index roots) e ∙ own_other ∙ sym e)
    | Equal h ↦ absurd (ne h)
    | More h ↦ (let e : lost ≡ one = omega arith in ap (slice_index roots) e ∙ own_one ∙ sym e)
  ]

  on-sides : Sides (root_in roots) kept lost m n
  on-sides = elim (order one other) [
    | Less h ↦ (let e : kept ≡ one = omega arith in let f : lost ≡ other = omega arith in Straight (of-node m m_in ∙ sym is_one ∙ sym e) (of-node n n_in ∙ sym is_other ∙ sym f))
    | Equal h ↦ absurd (ne h)
    | More h ↦ (let e : kept ≡ other = omega arith in let f : lost ≡ one = omega arith in Crossed (of-node m m_in ∙ sym is_one ∙ sym f) (of-node n n_in ∙ sym is_other ∙ sym e))
  ]

  pub took : (new_roots : List ℕ) (new_shapes : List (Option ℕ)) (new_work : List (ℕ × ℕ)) → new_roots ≡ map (moved kept lost) roots
      → new_shapes ≡ set shapes kept (option_or (get_or shapes kept None) (get_or shapes lost None)) → CanMeet (known_by forms shapes kept) (known_by forms shapes lost)
      → new_work ≡ work ++ met_pairs (known_by forms shapes kept) (known_by forms shapes lost) → Turn forms roots shapes work m n new_roots new_shapes new_work
  took new_roots new_shapes new_work er es can ew = rw (er, es, ew) (turned forms roots shapes kept lost kept-less lost-in is kept-own lost-own work m n on-sides can)

  pub stuck-at : (CanMeet (known_by forms shapes kept) (known_by forms shapes lost) → ⊥) → Stuck forms roots shapes work m n
  stuck-at = stuck forms roots shapes kept lost kept-less lost-in is kept-own lost-own work m n on-sides

pub skipped-at : (forms : List (Option Form)) (roots : List ℕ) (shapes : List (Option ℕ)) (work : List (ℕ × ℕ)) (m n one other : ℕ) → IsOpen forms roots shapes
    → m < length forms → n < length forms → one ≡ slice_index roots m → other ≡ slice_index roots n → one ≡ other → Turn forms roots shapes work m n roots shapes work
skipped-at forms roots shapes work m n one other is m_in n_in em en e = skipped forms roots shapes work m n is (at m m_in ∙ sym em ∙ e ∙ en ∙ sym (at n n_in)) where
  default : (xs : List ℕ) (i d e : ℕ) → i < length xs → get_or xs i d ≡ get_or xs i e
  default [] i d e lt = absurd (omega arith)
  default (x ∷ xs) zero d e lt = refl
  default (x ∷ xs) (suc i) d e lt = default xs i d e (omega arith)

  at : (k : ℕ) → k < length forms → root_in roots k ≡ slice_index roots k
  at k lt = default roots k k 0 (let c = is.count in omega arith)
