-- The list of roots, and what a step of each call makes of it.
use Rattle.std.proofs.Common.{◌≡◌, ℕ, zero, suc, ◌+◌, ◌<◌, ◌≤◌, List, [], ◌∷◌, ◌++◌, length, map, refl, sym, ap, ◌∙◌, arith, get_or, inl, inr, length-append}
use Rattle.std.specs.Prelude.{slice_index, if◌then◌else◌, ◌==◌, true, false}
use Rattle.std.proofs.lemmas.Bool.Decides.{nat_tests}
use Rattle.std.proofs.Math.ListN.{set}
use Rattle.std.proofs.lemmas.List.{get_or-set_other, get_or-set_same, get_or_append_left, get_or_at, length-set}
use Rattle.rml_types.specs.UnionFind.{Falls, SameRoots, up, root_of, roots, roots_from, moved}
use Rattle.rml_types.proofs.Roots.{at-end, step-up, linked-up, stays, by-test}

plus-zero : (k : ℕ) → k ≡ k + 0
plus-zero k = omega arith

zero-plus : (k : ℕ) → 0 + k ≡ k
zero-plus k = omega arith

suc-plus : (k i : ℕ) → suc k + i ≡ k + suc i
suc-plus k i = omega arith

roots_from-length : (parents : List ℕ) (k n : ℕ) → length (roots_from parents k n) ≡ n
roots_from-length parents k zero = refl
roots_from-length parents k (suc n) = ap suc (roots_from-length parents (suc k) n)

pub roots-length : (parents : List ℕ) → length (roots parents) ≡ length parents
roots-length parents = roots_from-length parents 0 (length parents)

roots_from-at : (parents : List ℕ) (k n i d : ℕ) → i < n → get_or (roots_from parents k n) i d ≡ root_of parents (k + i)
roots_from-at parents k zero i d lt = absurd (omega arith)
roots_from-at parents k (suc n) zero d lt = ap (root_of parents) (plus-zero k)
roots_from-at parents k (suc n) (suc i) d lt = roots_from-at parents (suc k) n i d (omega arith) ∙ ap (root_of parents) (suc-plus k i)

pub roots-at : (parents : List ℕ) (i d : ℕ) → i < length parents → get_or (roots parents) i d ≡ root_of parents i
roots-at parents i d lt = roots_from-at parents 0 (length parents) i d lt ∙ ap (root_of parents) (zero-plus i)

pub is-root : (parents : List ℕ) (n : ℕ) → slice_index parents n ≡ n → root_of parents n ≡ n
is-root parents n e = stays parents n n e

-- a root's own parent
up-own : (parents : List ℕ) (k n : ℕ) → Falls parents → n < length parents → n ≤ k → slice_index parents (up parents k n) ≡ up parents k n
up-own parents zero n falls lt le = let f = falls n lt in omega arith
up-own parents (suc k) n falls lt le = elim (at-end (slice_index parents n) n) [
  | inl e ↦ (let t : (slice_index parents n == n) ≡ true = grind (arith, nat_tests) in rw t e)
  | inr ne ↦ (let f = falls n lt in let t : (slice_index parents n == n) ≡ false = grind (arith, nat_tests, ne) in rw t (up-own parents k (slice_index parents n) falls (omega arith) (omega arith)))
]

pub root-own : (parents : List ℕ) (n : ℕ) → Falls parents → n < length parents → slice_index parents (root_of parents n) ≡ root_of parents n
root-own parents n falls lt = up-own parents n n falls lt (omega arith)

up-le : (parents : List ℕ) (k n : ℕ) → Falls parents → n < length parents → up parents k n ≤ n
up-le parents zero n falls lt = omega arith
up-le parents (suc k) n falls lt = elim (at-end (slice_index parents n) n) [
  | inl e ↦ (let t : (slice_index parents n == n) ≡ true = grind (arith, nat_tests) in rw t (omega arith))
  | inr ne ↦ (let f = falls n lt in let t : (slice_index parents n == n) ≡ false = grind (arith, nat_tests, ne) in rw t (let r = up-le parents k (slice_index parents n) falls (omega arith) in omega arith))
]

pub root-le : (parents : List ℕ) (n : ℕ) → Falls parents → n < length parents → root_of parents n ≤ n
root-le parents n falls lt = up-le parents n n falls lt

-- one more node
up-front : (ps qs : List ℕ) (k n : ℕ) → Falls ps → n < length ps → up (ps ++ qs) k n ≡ up ps k n
up-front ps qs zero n falls lt = refl
up-front ps qs (suc k) n falls lt = let f = falls n lt in
    let e : slice_index (ps ++ qs) n ≡ slice_index ps n = get_or_append_left ps qs 0 n lt in
    ap (λ x. if x == n then n else up (ps ++ qs) k x) e ∙ (by-test (slice_index ps n == n) n (up (ps ++ qs) k (slice_index ps n)) n (up ps k (slice_index ps n)) (λ t. refl) (λ t. up-front ps qs k (slice_index ps n) falls (omega arith)))

front-roots : (ps qs : List ℕ) (k n : ℕ) → Falls ps → k + n ≤ length ps → roots_from (ps ++ qs) k n ≡ roots_from ps k n
front-roots ps qs k zero falls le = refl
front-roots ps qs k (suc n) falls le = rw (up-front ps qs k k falls (omega arith), front-roots ps qs (suc k) n falls (omega arith)) refl

one-more : (ps : List ℕ) (k n : ℕ) → roots_from ps k (suc n) ≡ roots_from ps k n ++ root_of ps (k + n) ∷ []
one-more ps k zero = ap (λ x. root_of ps x ∷ []) (plus-zero k)
one-more ps k (suc n) = ap (λ xs. root_of ps k ∷ xs) (one-more ps (suc k) n ∙ ap (λ x. roots_from ps (suc k) n ++ root_of ps x ∷ []) (suc-plus k n))

pub added : (ps : List ℕ) → Falls ps → roots (ps ++ length ps ∷ []) ≡ roots ps ++ length ps ∷ []
added ps falls =
    let e : length (ps ++ length ps ∷ []) ≡ suc (length ps) = omega (arith, length-append ps (length ps ∷ [])) in
    let own : root_of (ps ++ length ps ∷ []) (length ps) ≡ length ps = is-root (ps ++ length ps ∷ []) (length ps) (get_or_at ps (length ps) [] 0 (length ps) refl) in
    rw e (one-more (ps ++ length ps ∷ []) 0 (length ps) ∙ ap (λ x. roots_from (ps ++ length ps ∷ []) 0 (length ps) ++ root_of (ps ++ length ps ∷ []) x ∷ []) (zero-plus (length ps))
    ∙ rw (own, front-roots ps (length ps ∷ []) 0 (length ps) falls (omega arith)) refl)

pub added-falls : (ps : List ℕ) → Falls ps → Falls (ps ++ length ps ∷ [])
added-falls ps falls n lt = elim (at-end n (length ps)) [
  | inl e ↦ rw e (let g = get_or_at ps (length ps) [] 0 (length ps) refl in omega arith)
  | inr ne ↦ (let l = length-append ps (length ps ∷ []) in let lt' : n < length ps = omega (arith, ne) in let f = falls n lt' in rw (get_or_append_left ps (length ps ∷ []) 0 n lt') f)
]

-- two roots become one
module _ (parents : List ℕ) (a b : ℕ) (falls : Falls parents) (less : a < b) (b_in : b < length parents) (a_root : slice_index parents a ≡ a) (b_root : slice_index parents b ≡ b) where
  joined-from : (k n : ℕ) → k + n ≤ length parents → roots_from (set parents b a) k n ≡ map (moved a b) (roots_from parents k n)
  joined-from k zero le = refl
  joined-from k (suc n) le = rw (linked-up parents a b falls less b_in a_root b_root k k (omega arith) (omega arith), joined-from (suc k) n (omega arith)) refl

  pub joined-roots : roots (set parents b a) ≡ map (moved a b) (roots parents)
  joined-roots = rw (length-set parents b a) (joined-from 0 (length parents) (omega arith))

  pub joined-falls : Falls (set parents b a)
  joined-falls n lt = elim (at-end n b) [
    | inl e ↦ rw (e, get_or-set_same parents b a 0 b_in) (omega arith)
    | inr ne ↦ rw (get_or-set_other parents b n a 0 ne) (falls n (let l = length-set parents b a in omega arith))
  ]

-- a way is made shorter
module _ (parents : List ℕ) (falls : Falls parents) (at : ℕ) (inside : at < length parents) (ne : slice_index parents at ≡ at → ⊥) where
  next : ℕ
  next = slice_index parents (slice_index parents at)

  shorter : List ℕ
  shorter = set parents at next

  next-less : slice_index parents (slice_index parents at) < at
  next-less = let f = falls at inside in let g = falls (slice_index parents at) (omega arith) in omega (arith, ne)

  pub halved-falls : Falls (set parents at (slice_index parents (slice_index parents at)))
  halved-falls n lt = elim (at-end n at) [
    | inl e ↦ rw (e, get_or-set_same parents at (slice_index parents (slice_index parents at)) 0 inside) (let l = next-less in omega arith)
    | inr other ↦ rw (get_or-set_other parents at n (slice_index parents (slice_index parents at)) 0 other) (falls n (let l = length-set parents at (slice_index parents (slice_index parents at)) in omega arith))
  ]

  root-next : root_of parents (slice_index parents (slice_index parents at)) ≡ root_of parents at
  root-next = let f = falls at inside in let p_in : slice_index parents at < length parents = omega arith in elim (at-end (slice_index parents (slice_index parents at)) (slice_index parents at)) [
    | inl e ↦ ap (root_of parents) e ∙ step-up parents at falls inside ne
    | inr other ↦ step-up parents (slice_index parents at) falls p_in other ∙ step-up parents at falls inside ne
  ]

  halved-root : (k n : ℕ) → n ≤ k → n < length parents → root_of (set parents at (slice_index parents (slice_index parents at))) n ≡ root_of parents n
  halved-root zero n le lt = let z : n ≡ 0 = omega arith in rw z refl
  halved-root (suc k) n le lt =
      let new = set parents at (slice_index parents (slice_index parents at)) in
      let l : n < length new = rw (length-set parents at (slice_index parents (slice_index parents at))) lt in
      elim (at-end n at) [
        | inl e ↦ (
            let g : slice_index new n ≡ slice_index parents (slice_index parents at) = rw e (get_or-set_same parents at (slice_index parents (slice_index parents at)) 0 inside) in
            let less = next-less in
            sym (step-up new n halved-falls l (λ q. omega arith)) ∙ ap (root_of new) g ∙ halved-root k (slice_index parents (slice_index parents at)) (omega arith) (omega arith) ∙ root-next ∙ ap (root_of parents) (sym e))
        | inr other ↦ (
            let g : slice_index new n ≡ slice_index parents n = get_or-set_other parents at n (slice_index parents (slice_index parents at)) 0 other in
            elim (at-end (slice_index parents n) n) [
              | inl own ↦ is-root new n (g ∙ own) ∙ sym (is-root parents n own)
              | inr up ↦ (let f = falls n lt in
                  sym (step-up new n halved-falls l (λ q. up (sym g ∙ q))) ∙ ap (root_of new) g ∙ halved-root k (slice_index parents n) (omega (arith, up)) (omega arith) ∙ step-up parents n falls lt up)
            ])
      ]

  pub halved : SameRoots parents (set parents at (slice_index parents (slice_index parents at)))
  halved = record { count = length-set parents at (slice_index parents (slice_index parents at)); same = λ n lt. halved-root n n (omega arith) lt }

pub same-roots : (old new : List ℕ) → SameRoots old new → roots new ≡ roots old
same-roots old new s = rw s.count (go 0 (length old) (omega arith)) where
  go : (k n : ℕ) → k + n ≤ length old → roots_from new k n ≡ roots_from old k n
  go k zero le = refl
  go k (suc n) le = rw (s.same k (omega arith), go (suc k) n (omega arith)) refl

pub same-trans : (a b c : List ℕ) → SameRoots a b → SameRoots b c → SameRoots a c
same-trans a b c s t = record { count = t.count ∙ s.count; same = λ n lt. t.same n (let e = s.count in omega arith) ∙ s.same n lt }

-- what the loop of a search for a root keeps
pub record Found (parents : List ℕ) (node : ℕ) (now : List ℕ) (at : ℕ) : Type 0 where
  pub within : at < length now
  pub falls : Falls now
  pub same : SameRoots parents now
  pub root : root_of now at ≡ root_of parents node

pub found-next : (parents now : List ℕ) (node at : ℕ) → Found parents node now at → (slice_index now at ≡ at → ⊥)
    → Found parents node (set now at (slice_index now (slice_index now at))) (slice_index now (slice_index now at))
found-next parents now node at f ne =
    let fall = f.falls at f.within in
    let fall2 = f.falls (slice_index now at) (let w = f.within in omega arith) in
    let w = f.within in
    let inside : slice_index now (slice_index now at) < length now = omega arith in
    record {
      within = rw (length-set now at (slice_index now (slice_index now at))) inside;
      falls = halved-falls now f.falls at f.within ne;
      same = same-trans parents now (set now at (slice_index now (slice_index now at))) f.same (halved now f.falls at f.within ne);
      root = (halved now f.falls at f.within ne).same (slice_index now (slice_index now at)) inside ∙ root-next now f.falls at f.within ne ∙ f.root;
    }

pub root-root : (parents : List ℕ) (n : ℕ) → Falls parents → n < length parents → root_of parents (root_of parents n) ≡ root_of parents n
root-root parents n falls lt = is-root parents (root_of parents n) (root-own parents n falls lt)

-- a root in the list of roots is its own parent
pub kept-own : (parents : List ℕ) (n : ℕ) → Falls parents → n < length parents → slice_index (roots parents) n ≡ n → slice_index parents n ≡ n
kept-own parents n falls lt e =
    let r : root_of parents n ≡ n = sym (roots-at parents n 0 lt) ∙ e in
    ap (slice_index parents) (sym r) ∙ root-own parents n falls lt ∙ r
