-- A chain of `::`: its value, and a turn of the match of its patterns.
use Rattle.std.proofs.Common.{◌≡◌, ℕ, suc, ◌+◌, ◌<◌, List, [], ◌∷◌, ◌++◌, map, length, get_or, drop, Some, refl, ap, sym, ◌∙◌, add-one, drop-cons, arith}
use Rattle.std.specs.Prelude.{option_map, Bool, true, false, if◌then◌else◌, ◌==◌}
use Rattle.std.proofs.lemmas.Bool.Decides.{nat_tests}
use Rattle.rml_value.specs.declared.value.Value.{Value, out-Value}
use Rattle.rml_value.specs.declared.value.Value.TheVariants as value
use Rattle.rml_value.specs.declared.value.TheConstants.{CONS}
use Rattle.rml_value.specs.Lists.{onto}
use Rattle.rml_value.specs.declared.value.Value.TheOpen.{Value-F}
use Rattle.rml_terms.specs.declared.state.Matched.{Matched}
use Rattle.rml_terms.specs.declared.state.Matched.TheVariants.{Yes, No, Wrong}
use Rattle.rml_evaluation.specs.declared.lists.ListParts.{ListParts}
use Rattle.rml_evaluation.specs.declared.lists.ListParts.TheVariants as parts
use Rattle.rml_evaluation.specs.declared.lists.ListParts.TheVariants.{HeadAndTail, Other}
use Rattle.rml_terms.specs.Env.{Env}
use Rattle.rml_terms.specs.Matching.{Matcher, then_match, match_all, match_con_at, match_con, match_list, match_chain}
use Rattle.rml_terms.specs.Evaluating.{chain_of}
use Rattle.rml_evaluation.specs.Lists.{parts_at, head_at, tail_at, head_of, tail_of}

pub chain_of_append : (vs : List Value) (tail : Value) → chain_of (vs ++ tail ∷ []) ≡ Some (onto vs tail)
chain_of_append [] tail = refl
chain_of_append (v ∷ []) tail = refl
chain_of_append (v ∷ w ∷ vs) tail = ap (option_map (λ rest. value.Con CONS (v ∷ rest ∷ []))) (chain_of_append (w ∷ vs) tail)

-- ---- a head and a tail, part by part

abbrev pub match_parts : Matcher → Matcher → ListParts → Value → Value → Env → Matched
match_parts p q HeadAndTail x xs env = then_match (p x env) (q xs)
match_parts p q Other x xs env = No
match_parts p q parts.Wrong x xs env = Wrong

then_yes : (m : Matched) → then_match m (λ env. Yes env) ≡ m
then_yes (Yes env) = refl
then_yes No = refl
then_yes Wrong = refl

then_alike : (m : Matched) (go next : Env → Matched) → ((env : Env) → go env ≡ next env) → then_match m go ≡ then_match m next
then_alike (Yes env) go next each = each env
then_alike No go next each = refl
then_alike Wrong go next each = refl

module _ (p q : Matcher) (v x xs : Value) (env : Env) where
  two_parts : (b : Bool) → (if b then match_all (p ∷ q ∷ []) (x ∷ xs ∷ []) env else No) ≡ match_parts p q (if b then HeadAndTail else Other) x xs env
  two_parts true = then_alike (p x env) _ (q xs) (λ e. then_yes (q xs e))
  two_parts false = refl

  other_parts : (b same : Bool) (m : Matched) → same ≡ false → (if b then if same then m else Wrong else No) ≡ match_parts p q (if b then parts.Wrong else Other) x xs env
  other_parts true same m e = rw e refl
  other_parts false same m e = refl

cons_at_parts : (p q : Matcher) (v : Value) (env : Env) (w : Value-F Value) → match_con_at CONS (p ∷ q ∷ []) w env ≡ match_parts p q (parts_at w) (head_at v w) (tail_at v w) env
cons_at_parts p q v env (Value-F.Con d (x ∷ xs ∷ [])) = two_parts p q v x xs env (CONS == d)
cons_at_parts p q v env (Value-F.Con d []) = other_parts p q v v v env (CONS == d) false No refl
cons_at_parts p q v env (Value-F.Con d (x ∷ [])) = other_parts p q v v v env (CONS == d) false No refl
cons_at_parts p q v env (Value-F.Con d (x ∷ y ∷ z ∷ zs)) = other_parts p q v v v env (CONS == d) (2 == suc (suc (suc (length zs)))) _ (grind (arith, nat_tests))
cons_at_parts p q v env _ = refl

-- a turn of a match of a list
pub list_turn : {P : Type 0} (f : P → Matcher) (ps : List P) (i : ℕ) (p : P) (v : Value) (env : Env) → p ≡ get_or ps i p → i < length ps
    → match_list (map f (drop i ps)) v env ≡ match_parts (f p) (match_list (map f (drop (i + 1) ps))) (parts_at (out-Value v)) (head_of v) (tail_of v) env
list_turn {P = P} f ps i p v env is inside =
    let here : drop i ps ≡ p ∷ drop (suc i) ps = rw (drop-cons ps i p, ← is) refl in
    rw add-one
    (ap (λ (qs : List P). match_list (map f qs) v env) here
    ∙ cons_at_parts (f p) (match_list (map f (drop (suc i) ps))) v env (out-Value v))

-- a turn of a match of a chain, which is not its last
pub chain_turn : {P : Type 0} (f : P → Matcher) (ps : List P) (i : ℕ) (p : P) (v : Value) (env : Env) → p ≡ get_or ps i p → i + 1 < length ps
    → match_chain (map f (drop i ps)) v env ≡ match_parts (f p) (match_chain (map f (drop (i + 1) ps))) (parts_at (out-Value v)) (head_of v) (tail_of v) env
chain_turn {P = P} f ps i p v env is more =
    let q = get_or ps (suc i) p in
    let here : drop i ps ≡ p ∷ drop (suc i) ps = let inside : i < length ps = omega arith in rw (drop-cons ps i p, ← is) refl in
    let after : drop (suc i) ps ≡ q ∷ drop (suc (suc i)) ps = let inside : suc i < length ps = omega arith in drop-cons ps (suc i) p inside in
    let both : drop i ps ≡ p ∷ q ∷ drop (suc (suc i)) ps = here ∙ ap (λ rest. p ∷ rest) after in
    rw add-one
    (ap (λ (qs : List P). match_chain (map f qs) v env) both
    ∙ ap (λ (qs : List P). match_con CONS (f p ∷ match_chain (map f qs) ∷ []) v env) (sym after)
    ∙ cons_at_parts (f p) (match_chain (map f (drop (suc i) ps))) v env (out-Value v))

-- after a turn in which the head was matched, the tail is left
pub head_matched : (p next : Matcher) (v : Value) (env after : Env) → parts_at (out-Value v) ≡ HeadAndTail → p (head_of v) env ≡ Yes after
    → match_parts p next (parts_at (out-Value v)) (head_of v) (tail_of v) env ≡ next (tail_of v) after
head_matched p next v env after shape gives =
    ap (λ (k : ListParts). match_parts p next k (head_of v) (tail_of v) env) shape ∙ ap (λ (m : Matched). then_match m (next (tail_of v))) gives
