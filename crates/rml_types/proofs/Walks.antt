-- The search for a circle: how each step keeps what holds on the way.
use Rattle.std.proofs.Common.{◌≡◌, ℕ, zero, suc, ◌+◌, ◌<◌, ◌≤◌, List, [], ◌∷◌, ◌++◌, length, refl, sym, ap, ◌∙◌, arith, inl, inr, length-append, Option, Some, subst}
use Rattle.std.specs.Prelude.{slice_index}
use Rattle.std.proofs.Math.ListN.{set}
use Rattle.std.proofs.lemmas.List.{get_or-set_other, get_or-set_same, length-set}
use Rattle.rml_types.specs.declared.form.Form.{Form}
use Rattle.rml_types.specs.declared.graph.Mark.{Mark}
use Rattle.rml_types.specs.declared.graph.Mark.TheVariants as mark
use Rattle.rml_types.specs.Walks.{Advance, Descends, DoneFrom, Ends, Gone, NextBelow, OnPath, Sizes, Under, Walks, mark_of, new_marks}
use Rattle.rml_types.proofs.Roots.{at-end}
use Rattle.rml_types.proofs.Grown.{Equal, Less, More, order}
use Rattle.rml_types.proofs.Steps.{some-inj}

pub ends-more : (root : ℕ → ℕ) (known : ℕ → Option Form) (k c : ℕ) → Ends root known k c → Ends root known (suc k) c
ends-more root known zero c e = absurd e
ends-more root known (suc k) c e = λ f is i lt. ends-more root known k (root (slice_index f.args i)) (e f is i lt)

on-front : (c : ℕ) (ps : List (ℕ × ℕ)) (p : ℕ × ℕ) → OnPath c (ps ++ p ∷ []) → (p.0 ≡ c → ⊥) → OnPath c ps
on-front c [] p (inl e) ne = absurd (ne e)
on-front c [] p (inr e) ne = e
on-front c (q ∷ ps) p (inl e) ne = inl e
on-front c (q ∷ ps) p (inr h) ne = inr (on-front c ps p h ne)

on-more : (c : ℕ) (ps : List (ℕ × ℕ)) (p : ℕ × ℕ) → OnPath c ps → OnPath c (ps ++ p ∷ [])
on-more c [] p h = absurd h
on-more c (q ∷ ps) p (inl e) = inl e
on-more c (q ∷ ps) p (inr h) = inr (on-more c ps p h)

on-last : (c i : ℕ) (ps : List (ℕ × ℕ)) → OnPath c (ps ++ (c, i) ∷ [])
on-last c i [] = inl refl
on-last c i (q ∷ ps) = inr (on-last c i ps)

-- only the class of the last item counts
on-other : (c d i j : ℕ) (ps : List (ℕ × ℕ)) → OnPath c (ps ++ (d, i) ∷ []) → OnPath c (ps ++ (d, j) ∷ [])
on-other c d i j [] (inl e) = inl e
on-other c d i j [] (inr h) = inr h
on-other c d i j (q ∷ ps) (inl e) = inl e
on-other c d i j (q ∷ ps) (inr h) = inr (on-other c d i j ps h)

under-front : (size : ℕ → ℕ) (n : ℕ) (ps : List (ℕ × ℕ)) (p : ℕ × ℕ) → Under size n (ps ++ p ∷ []) → Under size n ps × (size p.0 < n)
under-front size n [] p u = (tt, u.0)
under-front size n (q ∷ ps) p u = let r = under-front size n ps p u.1 in ((u.0, r.0), r.1)

under-more : (size : ℕ → ℕ) (n : ℕ) (ps : List (ℕ × ℕ)) (p : ℕ × ℕ) → Under size n ps → size p.0 < n → Under size n (ps ++ p ∷ [])
under-more size n [] p u h = (h, tt)
under-more size n (q ∷ ps) p u h = (u.0, under-more size n ps p u.1 h)

pub descends-front : (size : ℕ → ℕ) (ps : List (ℕ × ℕ)) (p : ℕ × ℕ) → Descends size (ps ++ p ∷ []) → Descends size ps
descends-front size [] p d = tt
descends-front size (q ∷ ps) p d = ((under-front size (size q.0) ps p d.0).0, descends-front size ps p d.1)

-- a lesser class below the last
descends-more : (size : ℕ → ℕ) (ps : List (ℕ × ℕ)) (p q : ℕ × ℕ) → Descends size (ps ++ p ∷ []) → size q.0 < size p.0 → Descends size ((ps ++ p ∷ []) ++ q ∷ [])
descends-more size [] p q d h = ((h, tt), (tt, tt))
descends-more size (r ∷ ps) p q d h =
    let f = (under-front size (size r.0) ps p d.0).1 in
    (under-more size (size r.0) (ps ++ p ∷ []) q d.0 (omega arith), descends-more size ps p q d.1 h)

descends-other : (size : ℕ → ℕ) (ps : List (ℕ × ℕ)) (c i j : ℕ) → Descends size (ps ++ (c, i) ∷ []) → Descends size (ps ++ (c, j) ∷ [])
descends-other size [] c i j d = d
descends-other size (q ∷ ps) c i j d = let f = under-front size (size q.0) ps (c, i) d.0 in (under-more size (size q.0) ps (c, j) f.0 f.1, descends-other size ps c i j d.1)

-- no class of the way is less than the last
descends-last : (size : ℕ → ℕ) (c : ℕ) (ps : List (ℕ × ℕ)) (p : ℕ × ℕ) → Descends size (ps ++ p ∷ []) → OnPath c (ps ++ p ∷ []) → size p.0 ≤ size c
descends-last size c [] p d (inl e) = let q = ap size e in omega arith
descends-last size c [] p d (inr h) = absurd h
descends-last size c (q ∷ ps) p d (inl e) = let f = (under-front size (size q.0) ps p d.0).1 in let r = ap size e in omega arith
descends-last size c (q ∷ ps) p d (inr h) = descends-last size c ps p d.1 h

module _ (root : ℕ → ℕ) (known : ℕ → Option Form) where
  gone-front : (marks : List Mark) (ps : List (ℕ × ℕ)) (p : ℕ × ℕ) → Gone root known marks (ps ++ p ∷ []) → Gone root known marks ps × Gone root known marks (p ∷ [])
  gone-front marks [] p g = (tt, g)
  gone-front marks (q ∷ ps) p g = let r = gone-front marks ps p g.3 in ((g.0, g.1, g.2, r.0), r.1)

  gone-more : (marks : List Mark) (ps qs : List (ℕ × ℕ)) → Gone root known marks ps → Gone root known marks qs → Gone root known marks (ps ++ qs)
  gone-more marks [] qs a b = b
  gone-more marks (p ∷ ps) qs a b = (a.0, a.1, a.2, gone-more marks ps qs a.3 b)

  gone-stays : (marks later : List Mark) (ps : List (ℕ × ℕ)) → length later ≡ length marks → ((c : ℕ) → mark_of marks c ≡ mark.Done → mark_of later c ≡ mark.Done) → Gone root known marks ps → Gone root known later ps
  gone-stays marks later [] n stays g = tt
  gone-stays marks later (p ∷ ps) n stays g = (omega arith, g.1, λ f e i l h k. stays (root (slice_index f.args i)) (g.2 f e i l h k), gone-stays marks later ps n stays g.3)

mark-same : (marks : List Mark) (c : ℕ) (m : Mark) → c < length marks → mark_of (set marks c m) c ≡ m
mark-same marks c m lt = get_or-set_same marks c m mark.New lt

mark-other : (marks : List Mark) (c d : ℕ) (m : Mark) → (d ≡ c → ⊥) → mark_of (set marks c m) d ≡ mark_of marks d
mark-other marks c d m ne = get_or-set_other marks c d m mark.New ne

new-at : Mark → ℕ
new-at mark.New = 1
new-at m = 0

new-cons : (m : Mark) (ms : List Mark) → new_marks (m ∷ ms) ≡ new-at m + new_marks ms
unfolding new-at
new-cons mark.New ms = omega arith
new-cons mark.Open ms = omega arith
new-cons mark.Done ms = omega arith

-- a class that is opened or done with is new no longer
new-less : (marks : List Mark) (c : ℕ) (m : Mark) → new-at m ≡ 0 → new_marks (set marks c m) ≤ new_marks marks
new-less [] c m e = omega arith
new-less (n ∷ ms) zero m e = rw (new-cons m ms, new-cons n ms) (omega arith)
new-less (n ∷ ms) (suc c) m e = rw (new-cons n (set ms c m), new-cons n ms) (let h = new-less ms c m e in omega arith)

new-falls : (marks : List Mark) (c : ℕ) (m : Mark) → new-at m ≡ 0 → c < length marks → mark_of marks c ≡ mark.New → suc (new_marks (set marks c m)) ≡ new_marks marks
unfolding new-at
new-falls [] c m e lt h = absurd (omega arith)
new-falls (n ∷ ms) zero m e lt h = rw (new-cons m ms, h) (omega arith)
new-falls (n ∷ ms) (suc c) m e lt h = rw (new-cons n (set ms c m), new-cons n ms) (let k = new-falls ms c m e (omega arith) h in omega arith)

new-most : (marks : List Mark) → new_marks marks ≤ length marks
new-most [] = omega arith
new-most (mark.New ∷ ms) = let h = new-most ms in omega arith
new-most (mark.Open ∷ ms) = let h = new-most ms in omega arith
new-most (mark.Done ∷ ms) = let h = new-most ms in omega arith

module _ (root : ℕ → ℕ) (known : ℕ → Option Form) (marks : List Mark) (path : List (ℕ × ℕ)) (class from : ℕ) (w : Walks root known marks (path ++ (class, from) ∷ [])) where
  last : Gone root known marks ((class, from) ∷ [])
  last = (gone-front root known marks path (class, from) w.gone).1

  pub last-within : class < length marks
  last-within = last.0

  pub last-root : root class ≡ class
  last-root = last.1

  longer : length (path ++ (class, from) ∷ []) ≡ suc (length path)
  longer = omega (arith, length-append path ((class, from) ∷ []))

  -- all arguments of the last class are done with: it is too
  module _ (none : (f : Form) → known class ≡ Some f → DoneFrom root marks f.args from (length f.args)) where
    stays-done : (c : ℕ) → mark_of marks c ≡ mark.Done → mark_of (set marks class mark.Done) c ≡ mark.Done
    stays-done c e = elim (at-end c class) [
      | inl q ↦ ap (mark_of (set marks class mark.Done)) q ∙ mark-same marks class mark.Done last-within
      | inr ne ↦ mark-other marks class c mark.Done ne ∙ e
    ]

    pub finished : Advance root known marks (path ++ (class, from) ∷ []) (set marks class mark.Done) path
    unfolding new-at
    finished = record {
      walks = record {
        opened = λ c e. elim (at-end c class) [
          | inl q ↦ absurd (never (sym (mark-same marks class mark.Done last-within) ∙ ap (mark_of (set marks class mark.Done)) (sym q) ∙ e))
          | inr ne ↦ on-front c path (class, from) (w.opened c (sym (mark-other marks class c mark.Done ne) ∙ e)) (λ q. ne (sym q))
        ];
        gone = gone-stays root known marks (set marks class mark.Done) path (length-set marks class mark.Done) stays-done (gone-front root known marks path (class, from) w.gone).0;
        descends = λ size s. descends-front size path (class, from) (w.descends size s);
        levels = suc w.levels;
        done = λ c e. elim (at-end c class) [
          | inl q ↦ subst (Ends root known (suc w.levels)) (sym q) (λ f is i lt. w.done (root (slice_index f.args i)) (elim (order i from) [
            | Less h ↦ last.2 f is i (omega arith) h lt
            | Equal h ↦ none f is i (omega arith) lt lt
            | More h ↦ none f is i (omega arith) lt lt
          ]))
          | inr ne ↦ ends-more root known w.levels c (w.done c (sym (mark-other marks class c mark.Done ne) ∙ e))
        ];
        room = (let n = new-less marks class mark.Done refl in let r = w.room in let l = longer in let k = length-set marks class mark.Done in omega arith);
      };
      stays = stays-done;
      older = λ c e. elim (at-end c class) [
        | inl q ↦ absurd (fresh (sym (mark-same marks class mark.Done last-within) ∙ ap (mark_of (set marks class mark.Done)) (sym q) ∙ e))
        | inr ne ↦ sym (mark-other marks class c mark.Done ne) ∙ e
      ];
      falls = (let n = new-less marks class mark.Done refl in let l = longer in omega arith);
    } where
      never : mark.Done ≡ mark.Open → ⊥
      never e = cc

      fresh : mark.Done ≡ mark.New → ⊥
      fresh e = cc

  -- an argument that is not done with
  module _ (f : Form) (is : known class ≡ Some f) (i child : ℕ) (lt : i < length f.args) (le : from ≤ i) (child_is : child ≡ root (slice_index f.args i)) where
    -- it is on the way: no sizes fall
    pub circle : mark_of marks child ≡ mark.Open → (size : ℕ → ℕ) → Sizes root known size → ⊥
    circle is-open size s =
        let d = descends-last size child path (class, from) (w.descends size s) (w.opened child is-open) in
        let e = ap size child_is in
        let l = s class f last-root is i lt in omega arith

    -- it is new: the way goes on
    module _ (child_in : child < length marks) (child_root : root child ≡ child) (before : DoneFrom root marks f.args from i) (new : mark_of marks child ≡ mark.New) where
      abbrev later : List Mark
      later = set marks child mark.Open

      not-child : (c : ℕ) → mark_of marks c ≡ mark.Done → c ≡ child → ⊥
      not-child c e q = wrong (sym e ∙ ap (mark_of marks) q ∙ new) where
        wrong : mark.Done ≡ mark.New → ⊥
        wrong e = cc

      stays-done-deeper : (c : ℕ) → mark_of marks c ≡ mark.Done → mark_of later c ≡ mark.Done
      stays-done-deeper c e = mark-other marks child c mark.Open (not-child c e) ∙ e

      done-to : (g : Form) → known class ≡ Some g → DoneFrom root marks g.args 0 i
      done-to g e j low high lt = let q : f ≡ g = some-inj (sym is ∙ e) in
          subst (λ (h : Form). j < length h.args → mark_of marks (root (slice_index h.args j)) ≡ mark.Done) q
          (λ lt'. elim (order j from) [ Less h ↦ last.2 f is j low h lt' | Equal h ↦ before j (omega arith) high lt' | More h ↦ before j (omega arith) high lt' ]) lt

      pub deeper : Advance root known marks (path ++ (class, from) ∷ []) (set marks child mark.Open) ((path ++ (class, i) ∷ []) ++ (child, 0) ∷ [])
      unfolding new-at
      deeper = record {
        walks = record {
          opened = λ c e. elim (at-end c child) [
            | inl q ↦ subst (λ d. OnPath d ((path ++ (class, i) ∷ []) ++ (child, 0) ∷ [])) (sym q) (on-last child 0 (path ++ (class, i) ∷ []))
            | inr ne ↦ on-more c (path ++ (class, i) ∷ []) (child, 0) (on-other c class from i path (w.opened c (sym (mark-other marks child c mark.Open ne) ∙ e)))
          ];
          gone = gone-stays root known marks later ((path ++ (class, i) ∷ []) ++ (child, 0) ∷ []) (length-set marks child mark.Open) stays-done-deeper
              (gone-more root known marks (path ++ (class, i) ∷ []) ((child, 0) ∷ [])
              (gone-more root known marks path ((class, i) ∷ []) (gone-front root known marks path (class, from) w.gone).0 (last-within, last-root, done-to, tt))
              (child_in, child_root, λ g e j low high. absurd (omega arith), tt));
          descends = λ size s. descends-more size path (class, i) (child, 0) (descends-other size path class from i (w.descends size s)) (let e = ap size child_is in let l = s class f last-root is i lt in omega arith);
          levels = w.levels;
          done = λ c e. elim (at-end c child) [
            | inl q ↦ absurd (never (sym (mark-same marks child mark.Open child_in) ∙ ap (mark_of later) (sym q) ∙ e))
            | inr ne ↦ w.done c (sym (mark-other marks child c mark.Open ne) ∙ e)
          ];
          room = (let n = new-falls marks child mark.Open refl child_in new in let r = w.room in let l = longer in let k = length-set marks child mark.Open in let a = length-append (path ++ (class, i) ∷ []) ((child, 0) ∷ []) in let b = length-append path ((class, i) ∷ []) in omega arith);
        };
        stays = stays-done-deeper;
        older = λ c e. elim (at-end c child) [
          | inl q ↦ ap (mark_of marks) q ∙ new
          | inr ne ↦ sym (mark-other marks child c mark.Open ne) ∙ e
        ];
        falls = (let n = new-falls marks child mark.Open refl child_in new in let l = longer in let a = length-append (path ++ (class, i) ∷ []) ((child, 0) ∷ []) in let b = length-append path ((class, i) ∷ []) in omega arith);
      } where
        never : mark.Open ≡ mark.Done → ⊥
        never e = cc

module _ (root : ℕ → ℕ) (known : ℕ → Option Form) (marks : List Mark) (path : List (ℕ × ℕ)) (class from i child : ℕ) (w : Walks root known marks (path ++ (class, from) ∷ [])) (n : NextBelow root known marks class from i child) where
  pub next-circle : mark_of marks child ≡ mark.Open → (size : ℕ → ℕ) → Sizes root known size → ⊥
  next-circle = circle root known marks path class from w n.form n.is i child n.within n.after n.child_is

  pub next-deeper : mark_of marks child ≡ mark.New → Advance root known marks (path ++ (class, from) ∷ []) (set marks child mark.Open) ((path ++ (class, i) ∷ []) ++ (child, 0) ∷ [])
  next-deeper new = deeper root known marks path class from w n.form n.is i child n.within n.after n.child_is n.child_in n.child_root n.before new

-- a search begins at a class that is new
module _ (root : ℕ → ℕ) (known : ℕ → Option Form) (marks : List Mark) (class : ℕ) (w : Walks root known marks []) (inside : class < length marks) (own : root class ≡ class) (new : mark_of marks class ≡ mark.New) where
  pub begun-stays : (c : ℕ) → mark_of marks c ≡ mark.Done → mark_of (set marks class mark.Open) c ≡ mark.Done
  begun-stays c e = mark-other marks class c mark.Open (λ q. wrong (sym e ∙ ap (mark_of marks) q ∙ new)) ∙ e where
    wrong : mark.Done ≡ mark.New → ⊥
    wrong e = cc

  pub begun-old : mark_of (set marks class mark.Open) class ≡ mark.New → ⊥
  begun-old e = wrong (sym (mark-same marks class mark.Open inside) ∙ e) where
    wrong : mark.Open ≡ mark.New → ⊥
    wrong e = cc

  pub begun : Walks root known (set marks class mark.Open) ((class, 0) ∷ [])
  unfolding new-at
  begun = record {
    opened = λ c e. elim (at-end c class) [
      | inl q ↦ inl (sym q)
      | inr ne ↦ inr (w.opened c (sym (mark-other marks class c mark.Open ne) ∙ e))
    ];
    gone = ((let k = length-set marks class mark.Open in omega arith), own, λ f e i low high. absurd (omega arith), tt);
    descends = λ size s. (tt, tt);
    levels = w.levels;
    done = λ c e. elim (at-end c class) [
      | inl q ↦ absurd (wrong (sym (mark-same marks class mark.Open inside) ∙ ap (mark_of (set marks class mark.Open)) (sym q) ∙ e))
      | inr ne ↦ w.done c (sym (mark-other marks class c mark.Open ne) ∙ e)
    ];
    room = (let n = new-falls marks class mark.Open refl inside new in let m = new-most marks in let k = length-set marks class mark.Open in omega arith);
  } where
    wrong : mark.Open ≡ mark.Done → ⊥
    wrong e = cc

-- where the way is at its end nothing is open
pub done-by : (root : ℕ → ℕ) (known : ℕ → Option Form) (marks : List Mark) (c : ℕ) → Walks root known marks [] → (mark_of marks c ≡ mark.New → ⊥) → mark_of marks c ≡ mark.Done
done-by root known marks c w old = go (mark_of marks c) refl where
  go : (m : Mark) → mark_of marks c ≡ m → mark_of marks c ≡ mark.Done
  go mark.New e = absurd (old e)
  go mark.Open e = absurd (w.opened c e)
  go mark.Done e = e

pub all-new : (marks : List Mark) → ((c : ℕ) → mark_of marks c ≡ mark.New) → (root : ℕ → ℕ) (known : ℕ → Option Form) → Walks root known marks []
all-new marks new root known = record {
  opened = λ c e. absurd (is-open (sym (new c) ∙ e));
  gone = tt;
  descends = λ size s. tt;
  levels = 0;
  done = λ c e. absurd (is-done (sym (new c) ∙ e));
  room = (let m = new-most marks in omega arith);
} where
  is-open : mark.New ≡ mark.Open → ⊥
  is-open e = cc

  is-done : mark.New ≡ mark.Done → ⊥
  is-done e = cc
