-- A run that keeps of each number of its first argument what a byte holds.
use Rattle.std.proofs.Common.{◌≡◌, ◌≢◌, ℕ, zero, suc, ◌<◌, ◌%◌, Bool, true, false, List, [], ◌∷◌, map, refl, ◌∙◌, ap, arith, None}
use Rattle.std.specs.Prelude.{◌&&◌, nat_lt}
use Rattle.std.specs.List.{list_all}
use Rattle.std.proofs.lemmas.Bool.{ltb-true}
use Rattle.rml_base.specs.declared.outcome.Outcome.TheVariants.{Answer, Cut, Full}
use Rattle.rml_base.specs.Bytes.{are_bytes, IsBytes, AreBytes}
use Rattle.rml_base.specs.Run.{Observed, Answer as Answered, bare, prepend, goes}
use Rattle.rml_base.specs.Same.{SameRun}
use Rattle.rml_base.specs.Light.{Light}
use Rattle.rml_base.specs.Examples.{first_argument, echoed, narrowed}
use Rattle.rml_base.proofs.LightLaws.{light_equal}

first_true : (a b : Bool) → (a && b) ≡ true → a ≡ true
first_true true b e = refl
first_true false b e = e

second_true : (a b : Bool) → (a && b) ≡ true → b ≡ true
second_true true b e = e
second_true false b e = absurd (cc)

small : (c : ℕ) → nat_lt c 256 ≡ true → c % 256 ≡ c
small c h = let below : c < 256 = ltb-true c 256 h in omega (arith, below)

narrow-bytes : (t : List ℕ) → IsBytes t → map (λ c. c % 256) t ≡ t
narrow-bytes [] h = refl
narrow-bytes (c ∷ cs) h =
    ap (λ x. x ∷ map (λ c. c % 256) cs) (small c (first_true (nat_lt c 256) (are_bytes cs) h))
    ∙ ap (λ xs. c ∷ xs) (narrow-bytes cs (second_true (nat_lt c 256) (are_bytes cs) h))

first-bytes : (args : List (List ℕ)) → AreBytes args → IsBytes (first_argument args)
first-bytes [] h = refl
first-bytes (word ∷ words) h = first_true (are_bytes word) (list_all are_bytes words) h

alike : (args : List (List ℕ)) (cells n : ℕ) → AreBytes args → narrowed args cells n ≡ echoed args cells n
alike args cells zero h = refl
alike args cells (suc n) h = ap (λ t. prepend t (bare (Answered None))) (narrow-bytes (first_argument args) (first-bytes args h))

pub narrowed_is_light : Light echoed narrowed
narrowed_is_light = light_equal echoed narrowed alike

head_of : List ℕ → ℕ
head_of [] = 0
head_of (c ∷ cs) = c

three_hundred : (t u : List ℕ) → (300 ∷ t) ≡ (44 ∷ u) → ⊥
unfolding head_of
three_hundred t u e = let heads : 300 ≡ 44 = ap head_of e in omega (arith, heads)

answer_goes_on : Cut ≡ Answer None → ⊥
answer_goes_on e = cc

not_alike : (n : ℕ) → goes echoed ((300 ∷ []) ∷ []) 0 n ≡ goes narrowed ((300 ∷ []) ∷ []) 0 1 → ⊥
not_alike zero e = answer_goes_on (ap (λ (o : Observed). o.outcome) e)
not_alike (suc n) e = three_hundred [] [] (ap (λ (o : Observed). o.text) e)

ended_one : Answer None ≢ Cut
ended_one e = cc

not_full_one : Answer None ≢ Full
not_full_one e = cc

pub narrowed_is_not_same : SameRun (goes echoed ((300 ∷ []) ∷ []) 0) (goes narrowed ((300 ∷ []) ∷ []) 0) → ⊥
narrowed_is_not_same same = let a = same.ended 1 ended_one not_full_one in not_alike a.0 a.1
