-- What the variables of a rule stand for in the search, and what those of clause form do: the rule's come behind the parameters, and
-- between them stand the variables that are set and received.
use Rattle.std.proofs.Common.{◌≡◌, ◌≢◌, ℕ, zero, suc, ◌+◌, ◌<◌, ◌≤◌, Bool, true, false, List, [], ◌∷◌, ◌++◌, length, Option, Some, None, refl, sym, subst, ◌∙◌, inl, inr, eq-eqb, arith}
use Rattle.std.specs.Prelude.{◌==◌, ◌⊎◌, if◌then◌else◌}
use Rattle.std.proofs.lemmas.Bool.{ne_eqb}
use Rattle.rml_value.specs.declared.value.Value.{Value}
use Rattle.rml_terms.specs.Env.{Env, bind, look}
use Rattle.rml_terms.proofs.Callers.{Worth, worth_same, look_kept, look_new, look_other}
use Rattle.rml_fol.specs.Relations.{bound_from}
use Rattle.rml_clause.specs.Plain.{numbers_from}
use Rattle.rml_clause.specs.Fresh.{IsNoneOf, AreFresh}

-- what stood for something before stands for it behind
pub record Keeps (env next : Env) : Type 0 where
  pub at : (x : ℕ) (v : Value) → look x env ≡ Some v → look x next ≡ Some v

pub keeps_all : (env : Env) → Keeps env env
keeps_all env = record { at = λ x v h. h }

pub keeps_more : (env next last : Env) → Keeps env next → Keeps next last → Keeps env last
keeps_more env next last h k = record { at = λ x v e. k.at x v (h.at x v e) }

pub keeps_bound : (y : ℕ) (v : Value) (env : Env) → Keeps env (bind y v env)
keeps_bound y v env = record { at = λ x w e. look_kept x y v w env e }

-- these variables stand for these values
abbrev pub StandFor : List ℕ → List Value → Env → Type 0
StandFor [] [] env = Unit {0}
StandFor (x ∷ xs) (v ∷ vs) env = (look x env ≡ Some v) × StandFor xs vs env
StandFor [] (v ∷ vs) env = ⊥
StandFor (x ∷ xs) [] env = ⊥

pub stand_kept : (xs : List ℕ) (vs : List Value) (env next : Env) → Keeps env next → StandFor xs vs env → StandFor xs vs next
stand_kept [] [] env next k h = tt
stand_kept (x ∷ xs) (v ∷ vs) env next k h = (k.at x v h.0, stand_kept xs vs env next k h.1)
stand_kept [] (v ∷ vs) env next k h = absurd h
stand_kept (x ∷ xs) [] env next k h = absurd h

-- ---- the variables that are still to be set and received

-- each is `from` or more, stands for nothing, and is not bound again
abbrev pub Awaited : ℕ → List ℕ → Env → Type 0
Awaited from [] env = Unit {0}
Awaited from (x ∷ xs) env = (from ≤ x) × (look x env ≡ None) × IsNoneOf x xs × Awaited from xs env

pub awaited_other : (from y : ℕ) (v : Value) (xs : List ℕ) (env : Env) → IsNoneOf y xs → Awaited from xs env → Awaited from xs (bind y v env)
awaited_other from y v [] env d h = tt
awaited_other from y v (x ∷ xs) env d h = (h.0, look_other x y v env (λ e. d.0 (sym e)) h.1, h.2, awaited_other from y v xs env d.1 h.3)

below_other : (x y : ℕ) → y < x → x ≢ y
below_other x y less e = omega arith

pub awaited_below : (from y : ℕ) (v : Value) (xs : List ℕ) (env : Env) → y < from → Awaited from xs env → Awaited from xs (bind y v env)
awaited_below from y v [] env less h = tt
awaited_below from y v (x ∷ xs) env less h =
    let more : from ≤ x = h.0 in
    (h.0, look_other x y v env (below_other x y (omega arith)) h.1, h.2, awaited_below from y v xs env less h.3)

none_front : (x : ℕ) (xs ys : List ℕ) → IsNoneOf x (xs ++ ys) → IsNoneOf x xs
none_front x [] ys d = tt
none_front x (y ∷ xs) ys d = (d.0, none_front x xs ys d.1)

pub awaited_front : (from : ℕ) (xs ys : List ℕ) (env : Env) → Awaited from (xs ++ ys) env → Awaited from xs env
awaited_front from [] ys env h = tt
awaited_front from (x ∷ xs) ys env h = (h.0, h.1, none_front x xs ys h.2, awaited_front from xs ys env h.3)

pub awaited_back : (from : ℕ) (xs ys : List ℕ) (env : Env) → Awaited from (xs ++ ys) env → Awaited from ys env
awaited_back from [] ys env h = h
awaited_back from (x ∷ xs) ys env h = awaited_back from xs ys env h.3

-- ---- both environments

-- of a rule with so many variables behind so many parameters, where these are still to be set and received
pub record Stands (params vars : ℕ) (more : List ℕ) (env new : Env) : Type 0 where
  pub same : (x : ℕ) → Worth (look x env) (look (params + x) new)
  pub free : (x : ℕ) → x < vars → look x env ≡ None → look (params + x) new ≡ None
  pub awaited : Awaited (params + vars) more new

same_or_not : (x y : ℕ) → (x ≡ y) ⊎ (x ≢ y)
same_or_not x y = grind arith

-- a variable of the rule is bound
worth_bound : (params x y : ℕ) (v : Value) (env new : Env) (o : Option Value) → look x env ≡ o → Worth o (look (params + x) new) → (look y env ≡ None → look (params + y) new ≡ None)
    → Worth (look x (bind y v env)) (look (params + x) (bind (params + y) v new))
worth_bound params x y v env new (Some w) e h free =
    worth_same (look x (bind y v env)) (look (params + x) (bind (params + y) v new)) (look_kept x y v w env e ∙ sym (look_kept (params + x) (params + y) v w new h))
worth_bound params x y v env new None e h free = apart (same_or_not x y)
  where
    apart : ((x ≡ y) ⊎ (x ≢ y)) → Worth (look x (bind y v env)) (look (params + x) (bind (params + y) v new))
    apart (inl same) =
        worth_same (look x (bind y v env)) (look (params + x) (bind (params + y) v new))
        (subst (λ (z : ℕ). look x (bind z v env) ≡ look (params + x) (bind (params + z) v new)) same (look_new x v env e ∙ sym (look_new (params + x) v new (subst (λ (z : ℕ). look z env ≡ None → look (params + z) new ≡ None) (sym same) free e))))
    apart (inr other) = subst (λ (o : Option Value). Worth o (look (params + x) (bind (params + y) v new))) (sym (look_other x y v env other e)) tt

sums_apart : (params x y : ℕ) → x ≢ y → params + x ≢ params + y
sums_apart params x y d e = d (omega arith)

-- a variable that stands for nothing after the other was bound stood for nothing before, and is another
unbound_before : (x y : ℕ) (v : Value) (env : Env) (o : Option Value) → look x env ≡ o → look x (bind y v env) ≡ None → look x env ≡ None
unbound_before x y v env None e h = e
unbound_before x y v env (Some w) e h = absurd (let k = look_kept x y v w env e in cc)

unbound_other : (x y : ℕ) (v : Value) (env : Env) → look x env ≡ None → look x (bind y v env) ≡ None → x ≢ y
unbound_other x y v env e h same =
    let k : look x (bind x v env) ≡ Some v = look_new x v env e in
    let l : look x (bind x v env) ≡ None = subst (λ (z : ℕ). look x (bind z v env) ≡ None) (sym same) h in
    cc

pub stands_bound : (params vars y : ℕ) (v : Value) (more : List ℕ) (env new : Env) → y < vars → Stands params vars more env new → Stands params vars more (bind y v env) (bind (params + y) v new)
stands_bound params vars y v more env new less h = record {
  same = λ x. worth_bound params x y v env new (look x env) refl (h.same x) (h.free y less);
  free = λ x within none.
      let e : look x env ≡ None = unbound_before x y v env (look x env) refl none in
      look_other (params + x) (params + y) v new (sums_apart params x y (unbound_other x y v env e none)) (h.free x within e);
  awaited = awaited_below (params + vars) (params + y) v more new (omega arith) h.awaited;
}

-- a variable that was awaited is bound
pub stands_set : (params vars y : ℕ) (v : Value) (more : List ℕ) (env new : Env) → Stands params vars (y ∷ more) env new → Stands params vars more env (bind y v new)
stands_set params vars y v more env new h = record {
  same = λ x. set_worth (look x env) (look (params + x) new) (look (params + x) (bind y v new)) (h.same x) (λ w e. look_kept (params + x) y v w new e);
  free = λ x within none. look_other (params + x) y v new (let far : params + vars ≤ y = h.awaited.0 in λ e. omega arith) (h.free x within none);
  awaited = awaited_other (params + vars) y v more new h.awaited.2 h.awaited.3;
}
  where
    set_worth : (o p q : Option Value) → Worth o p → ((w : Value) → p ≡ Some w → q ≡ Some w) → Worth o q
    set_worth None p q e k = tt
    set_worth (Some w) p q e k = k w e

-- fewer are awaited
pub stands_front : (params vars : ℕ) (xs ys : List ℕ) (env new : Env) → Stands params vars (xs ++ ys) env new → Stands params vars xs env new
stands_front params vars xs ys env new h = record { same = h.same; free = h.free; awaited = awaited_front (params + vars) xs ys new h.awaited }

pub stands_back : (params vars : ℕ) (xs ys : List ℕ) (env new : Env) → Stands params vars (xs ++ ys) env new → Stands params vars ys env new
stands_back params vars xs ys env new h = record { same = h.same; free = h.free; awaited = awaited_back (params + vars) xs ys new h.awaited }

pub stands_as : (params vars : ℕ) (xs ys : List ℕ) (env new : Env) → xs ≡ ys → Stands params vars xs env new → Stands params vars ys env new
stands_as params vars xs ys env new e h = subst (λ (zs : List ℕ). Stands params vars zs env new) e h

-- ---- where a relation begins: the parameters stand for the values that it is called with

behind_if : (t : Bool) (u : Value) (o p : Option Value) → t ≡ false → o ≡ p → (if t then Some u else o) ≡ p
behind_if true u o p e h = absurd (cc)
behind_if false u o p e h = h

taken_first : (t : Bool) (u : Value) (o : Option Value) → t ≡ true → (if t then Some u else o) ≡ Some u
taken_first true u o e = refl
taken_first false u o e = absurd (cc)

stand_behind : (y z n : ℕ) (u : Value) (vs : List Value) (env : Env) → y < z → StandFor (numbers_from z n) vs env → StandFor (numbers_from z n) vs (record { var = y; value = u } ∷ env)
stand_behind y z zero u [] env less h = tt
stand_behind y z zero u (v ∷ vs) env less h = absurd h
stand_behind y z (suc n) u [] env less h = absurd h
stand_behind y z (suc n) u (v ∷ vs) env less h =
    (behind_if (z == y) u (look z env) (Some v) (ne_eqb z y (below_other z y less)) h.0, stand_behind y (suc z) n u vs env (omega arith) h.1)

pub stand_from : (y : ℕ) (vs : List Value) → StandFor (numbers_from y (length vs)) vs (bound_from y vs)
stand_from y [] = tt
stand_from y (v ∷ vs) = (taken_first (y == y) v (look y (bound_from (suc y) vs)) (eq-eqb y y refl), stand_behind y (suc y) (length vs) v vs (bound_from (suc y) vs) (omega arith) (stand_from (suc y) vs))

look_beyond : (x y : ℕ) (vs : List Value) → y + length vs ≤ x → look x (bound_from y vs) ≡ None
look_beyond x y [] far = refl
look_beyond x y (v ∷ vs) far =
    behind_if (x == y) v (look x (bound_from (suc y) vs)) None (ne_eqb x y (λ e. omega arith)) (look_beyond x (suc y) vs (omega arith))

awaited_first : (from : ℕ) (vs : List Value) (xs : List ℕ) → length vs ≤ from → AreFresh from xs → Awaited from xs (bound_from 0 vs)
awaited_first from vs [] le h = tt
awaited_first from vs (x ∷ xs) le h =
    let far : from ≤ x = h.0 in
    (h.0, look_beyond x 0 vs (omega arith), h.1, awaited_first from vs xs le h.2)

pub stands_first : (params vars : ℕ) (vs : List Value) (more : List ℕ) → length vs ≡ params → AreFresh (params + vars) more → Stands params vars more [] (bound_from 0 vs)
stands_first params vars vs more count fresh = record {
  same = λ x. tt;
  free = λ x within none. look_beyond (params + x) 0 vs (omega arith);
  awaited = awaited_first (params + vars) vs more (omega arith) fresh;
}
