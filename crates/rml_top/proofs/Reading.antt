-- What reading from the left takes.
use Rattle.std.proofs.Common.{◌≡◌, ℕ, zero, suc, ◌+◌, ◌-◌, ◌<◌, ◌≤◌, Bool, true, false, cond, List, [], ◌∷◌, ◌++◌, length, drop, Option, Some, None, refl, sym, ap, ◌∙◌, append_assoc, arith, length-append, length-drop}
use Rattle.std.proofs.lemmas.List.{drop-drop, drop-map, drop_at, drop_all}
use Rattle.std.specs.Str.{bytes_eq}
use Rattle.std.specs.Prelude.{codes}
use Rattle.std.proofs.lemmas.Slice.Eq.{bytes_eq-Decides}
use Rattle.std.specs.Borrow.{Bor}
use Rattle.rml_top.specs.FirstForm.{is_literal, spelled}
use Rattle.rml_top.specs.Matching.{◌>>=◌, after, next_is, literal_at, bracketed_at, premise_at, premises_at, with_literal}

-- the value of a step that did not fail
pub bind_some : {A B : Type 0} (r : Option A) (f : A → Option B) (y : B) → (r >>= f) ≡ Some y → (x : A) × (r ≡ Some x) × (f x ≡ Some y)
bind_some (Some x) f y e = (x, refl, e)
bind_some None f y e = absurd cc

-- a test that did not fail
pub guard_some : {A : Type 0} (b : Bool) (x : Option A) (y : A) → cond b x None ≡ Some y → (b ≡ true) × (x ≡ Some y)
guard_some true x y e = (refl, e)
guard_some false x y e = absurd cc

-- what was read, and what is left
pub after-is : (es ts r : List (List ℕ)) → after es ts ≡ Some r → ts ≡ es ++ r
after-is [] ts r e = cc
after-is (e ∷ es) [] r h = absurd cc
after-is (e ∷ es) (t ∷ ts) r h =
    let g = guard_some (bytes_eq t e) (after es ts) r h in
    let same : t ≡ e = (bytes_eq-Decides t e).0 g.0 in
    let others : ts ≡ es ++ r = after-is es ts r g.1 in
    rw (same, others) refl

pub after-append : (es r : List (List ℕ)) → after es (es ++ r) ≡ Some r
after-append [] r = refl
after-append (e ∷ es) r = let same : bytes_eq e e ≡ true = (bytes_eq-Decides e e).1 refl in rw same (after-append es r)

-- something was taken from the front, and the rest is left
pub record Takes (ts rest : List (List ℕ)) : Type 0 where
  pub front : List (List ℕ)
  pub parts : ts ≡ front ++ rest
  pub some : 0 < length front

literal_at-takes : (ts : List (List ℕ)) (p : List ℕ × List (List ℕ)) → literal_at ts ≡ Some p → Takes ts p.1
literal_at-takes [] p e = absurd cc
literal_at-takes (t ∷ ts) p e =
    let g = guard_some (is_literal t) (Some (t, ts)) p e in
    let same : (t, ts) ≡ p = cc in
    record { front = t ∷ []; parts = ap (λ (q : List ℕ × List (List ℕ)). t ∷ q.1) same; some = omega arith }

pub takes-then : (es ts rest : List (List ℕ)) → 0 < length es → Takes (es ++ ts) ts
takes-then es ts rest pos = record { front = es; parts = refl; some = pos }

-- what takes and then leads to an end takes
more-takes : (ts mid rest front more : List (List ℕ)) → ts ≡ front ++ mid → mid ≡ more ++ rest → 0 < length front → Takes ts rest
more-takes ts mid rest front more e f pos = record { front = front ++ more; parts = e ∙ ap (λ (x : List (List ℕ)). front ++ x) f ∙ sym (append_assoc front more rest); some = omega (arith, length-append front more) }

bracketed_at-takes : (ts : List (List ℕ)) (p : List ℕ × List (List ℕ)) → bracketed_at ts ≡ Some p → Takes ts p.1
bracketed_at-takes ts p e =
    let a = bind_some (after (codes "(" ∷ []) ts) _ p e in
    let l = bind_some (literal_at a.0) _ p a.2 in
    let b = bind_some (after (codes ")" ∷ []) l.0.1) _ p l.2 in
    let inner = literal_at-takes a.0 l.0 l.1 in
    let first = after-is (codes "(" ∷ []) ts a.0 a.1 in
    let last = after-is (codes ")" ∷ []) l.0.1 b.0 b.1 in
    let same : b.0 ≡ p.1 = ap (λ (o : Option (List ℕ × List (List ℕ))). elim o [ None ↦ b.0 | Some q ↦ q.1 ]) b.2 in
    let mid : a.0 ≡ (inner.front ++ codes ")" ∷ []) ++ p.1 = inner.parts ∙ rw last (rw same (sym (append_assoc inner.front (codes ")" ∷ []) p.1))) in
    more-takes ts a.0 p.1 (codes "(" ∷ []) (inner.front ++ codes ")" ∷ []) first mid (omega arith)

pub premise_at-takes : (ts : List (List ℕ)) (p : List ℕ × List (List ℕ)) → premise_at ts ≡ Some p → Takes ts p.1
unfolding premise_at
premise_at-takes ts p e =
    let a = bind_some (after (codes "print" ∷ []) ts) _ p e in
    let first = after-is (codes "print" ∷ []) ts a.0 a.1 in
    let inner : Takes a.0 p.1 = elim (next_is (codes "(") a.0) as (λ v. cond v (bracketed_at a.0) (literal_at a.0) ≡ Some p → Takes a.0 p.1) [
      | true ↦ λ h. bracketed_at-takes a.0 p h
      | false ↦ λ h. literal_at-takes a.0 p h
    ] a.2 in
    more-takes ts a.0 p.1 (codes "print" ∷ []) inner.front first inner.parts (omega arith)

abbrev pub with_front : List (List ℕ) → Option (List (List ℕ) × List (List ℕ)) → Option (List (List ℕ) × List (List ℕ))
with_front front found = found >>= λ r. Some (front ++ r.0, r.1)

-- these literals were read, and what is left at the place is read as the rest of the whole
pub record Goes (ts literals : List (List ℕ)) (at : ℕ) : Type 0 where
  pub fuel : ℕ
  pub enough : length ts ≤ fuel + at
  pub within : at ≤ length ts
  pub same : with_front literals (premises_at fuel (drop at ts)) ≡ premises_at (length ts) ts

with_front-nil : (x : Option (List (List ℕ) × List (List ℕ))) → with_front [] x ≡ x
with_front-nil None = refl
with_front-nil (Some r) = refl

with_front-more : (front : List (List ℕ)) (l : List ℕ) (x : Option (List (List ℕ) × List (List ℕ))) → with_front front (with_literal l x) ≡ with_front (front ++ l ∷ []) x
with_front-more front l None = refl
with_front-more front l (Some r) = ap (λ (ls : List (List ℕ)). Some (ls, r.1)) (sym (append_assoc front (l ∷ []) r.0))

pub goes-nothing : (ts : List (List ℕ)) → Goes ts [] 0
goes-nothing ts = record { fuel = length ts; enough = omega arith; within = omega arith; same = with_front-nil (premises_at (length ts) ts) }

-- one premise more, if the fuel lasts
one-premise : (n : ℕ) (ts : List (List ℕ)) (x : Option (List ℕ × List (List ℕ))) → premise_at ts ≡ x
    → premises_at (suc n) ts ≡ (x >>= λ p. cond (next_is (codes "&") p.1) (after (codes "&" ∷ []) p.1 >>= λ a. with_literal p.0 (premises_at n a)) (Some (p.0 ∷ [], p.1)))
unfolding premises_at
one-premise n ts x e = rw e refl

pub goes-fails : (ts literals : List (List ℕ)) (at : ℕ) → Goes ts literals at → at < length ts → premise_at (drop at ts) ≡ None → premises_at (length ts) ts ≡ None
goes-fails ts literals at g lt e =
    let k = g.fuel - 1 in
    let is : g.fuel ≡ suc k = (let h = g.enough in omega arith) in
    let one = one-premise k (drop at ts) None e in
    sym g.same ∙ rw is (rw one refl)

pub goes-ends : (ts literals : List (List ℕ)) (at : ℕ) (l : List ℕ) (rest : List (List ℕ)) → Goes ts literals at → at < length ts → premise_at (drop at ts) ≡ Some (l, rest)
    → next_is (codes "&") rest ≡ false → premises_at (length ts) ts ≡ Some (literals ++ l ∷ [], rest)
goes-ends ts literals at l rest g lt e last =
    let k = g.fuel - 1 in
    let is : g.fuel ≡ suc k = (let h = g.enough in omega arith) in
    let one = one-premise k (drop at ts) (Some (l, rest)) e in
    sym g.same ∙ rw is (rw one (rw last refl))

after-next : (e : List ℕ) (ts : List (List ℕ)) → next_is e ts ≡ true → after (e ∷ []) ts ≡ Some (drop 1 ts)
after-next e [] h = absurd cc
after-next e (t ∷ ts) h = rw h refl

nonempty-next : (e : List ℕ) (ts : List (List ℕ)) → next_is e ts ≡ true → 0 < length ts
nonempty-next e [] h = absurd cc
nonempty-next e (t ∷ ts) h = omega arith

-- where the rest of what is left stands
pub rest-place : (ts rest : List (List ℕ)) (at : ℕ) → at ≤ length ts → Takes (drop at ts) rest → (at < length ts - length rest) × (length rest ≤ length ts) × (drop (length ts - length rest) ts ≡ rest)
rest-place ts rest at le t =
    let lengths : length (drop at ts) ≡ length t.front + length rest = ap length t.parts ∙ length-append t.front rest in
    let dropped = length-drop at ts in
    let some = t.some in
    let sum : length ts - length rest ≡ at + length t.front = omega arith in
    (omega arith, omega arith, rw sum (rw (← drop-drop (length t.front) at ts) (rw (t.parts) (drop_at t.front rest (length t.front) refl))))

pub goes-on : (ts literals : List (List ℕ)) (at : ℕ) (l : List ℕ) (rest : List (List ℕ)) → Goes ts literals at → at < length ts → premise_at (drop at ts) ≡ Some (l, rest)
    → next_is (codes "&") rest ≡ true → Goes ts (literals ++ l ∷ []) (length ts - length rest + 1)
goes-on ts literals at l rest g lt e more =
    let k = g.fuel - 1 in
    let is : g.fuel ≡ suc k = (let h = g.enough in omega arith) in
    let one = one-premise k (drop at ts) (Some (l, rest)) e in
    let place = rest-place ts rest at (omega arith) (premise_at-takes (drop at ts) (l, rest) e) in
    let some = nonempty-next (codes "&") rest more in
    let next : drop (length ts - length rest + 1) ts ≡ drop 1 rest = sym (drop-drop 1 (length ts - length rest) ts) ∙ ap (λ (x : List (List ℕ)). drop 1 x) place.2 in
    let read : premises_at (suc k) (drop at ts) ≡ with_literal l (premises_at k (drop 1 rest)) = one ∙ rw more (rw (after-next (codes "&") rest more) refl) in
    record {
      fuel = k;
      enough = (let h = g.enough in let a = place.0 in let b = place.1 in omega arith);
      within = (let b = place.1 in omega arith);
      same = rw next (sym (with_front-more literals l (premises_at k (drop 1 rest))) ∙ ap (λ (x : Option (List (List ℕ) × List (List ℕ))). with_front literals x) (sym read) ∙ rw (← is) g.same);
    }

nothing-premised : (n : ℕ) → premises_at n [] ≡ None
unfolding premises_at premise_at
nothing-premised zero = refl
nothing-premised (suc n) = refl

pub goes-past : (ts literals : List (List ℕ)) (at : ℕ) → Goes ts literals at → length ts ≤ at → premises_at (length ts) ts ≡ None
goes-past ts literals at g le =
    let past : drop at ts ≡ [] = drop_all at ts le in
    sym g.same ∙ rw past (rw (nothing-premised g.fuel) refl)

-- a premise read from what is left of the tokens
pub read-at : (xs left : List (Bor (List ℕ))) (at : ℕ) (x : Option (List ℕ × List (List ℕ))) → left ≡ drop at xs → x ≡ premise_at (spelled left) → premise_at (drop at (spelled xs)) ≡ x
read-at xs left at x e h = rw drop-map (rw (← e) (sym h))
