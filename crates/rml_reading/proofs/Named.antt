-- The first of some names that is this one.
use Rattle.std.proofs.Common.{◌≡◌, ℕ, ◌<◌, ◌≤◌, Bool, true, false, List, [], length, get_or, sym, ap, ◌∙◌, arith, cond, subst}
use Rattle.std.specs.Prelude.{None, Some, nat_lt}
use Rattle.std.specs.List.{position_or_len}
use Rattle.std.proofs.lemmas.Bool.Decides.{nat_tests}
use Rattle.std.proofs.lemmas.List.{get_or_default}
use Rattle.std.proofs.lemmas.List.Sums.{position_or_len_is}
use Rattle.rml_base.specs.Numbering.{same}
use Rattle.rml_outlines.specs.Files.{last_part, text_named}

off : (n : ℕ) → nat_lt n n ≡ false
off n = grind (arith, nat_tests)

on : (i n : ℕ) → i < n → nat_lt i n ≡ true
on i n lt = grind (arith, nat_tests)

pub named_nowhere : (parts : List (List ℕ)) (name own : List ℕ) (i : ℕ) → own ≡ last_part name → length parts ≤ i → ((k : ℕ) → k < i → same (get_or parts k []) own ≡ false)
    → None ≡ text_named parts name
unfolding text_named
named_nowhere parts name own i e all none =
    let p : List ℕ → Bool = λ part. same part (last_part name) in
    let others : (k : ℕ) → k < length parts → same (get_or parts k []) (last_part name) ≡ false = λ k lt. subst (λ (o : List ℕ). same (get_or parts k []) o ≡ false) e (none k (omega arith)) in
    let at : position_or_len p parts ≡ length parts = position_or_len_is p parts (length parts) [] (omega arith) others (λ lt. absurd (omega arith)) in
    sym (ap (λ (n : ℕ). cond (nat_lt n (length parts)) (Some n) None) at ∙ ap (λ (b : Bool). cond b (Some (length parts)) None) (off (length parts)))

pub named_here : (parts : List (List ℕ)) (name own : List ℕ) (i : ℕ) (part : List ℕ) → own ≡ last_part name → i < length parts → part ≡ get_or parts i part
    → ((k : ℕ) → k < i → same (get_or parts k []) own ≡ false) → same part own ≡ true → Some i ≡ text_named parts name
unfolding text_named
named_here parts name own i part e within is before here =
    let p : List ℕ → Bool = λ part. same part (last_part name) in
    let others : (k : ℕ) → k < i → same (get_or parts k []) (last_part name) ≡ false = λ k lt. subst (λ (o : List ℕ). same (get_or parts k []) o ≡ false) e (before k lt) in
    let there : part ≡ get_or parts i [] = is ∙ get_or_default parts i part [] within in
    let found : same (get_or parts i []) (last_part name) ≡ true = subst (λ (x : List ℕ). same x (last_part name) ≡ true) there (subst (λ (o : List ℕ). same part o ≡ true) e here) in
    let at : position_or_len p parts ≡ i = position_or_len_is p parts i [] (omega arith) others (λ lt. found) in
    sym (ap (λ (n : ℕ). cond (nat_lt n (length parts)) (Some n) None) at ∙ ap (λ (b : Bool). cond b (Some i) None) (on i (length parts) within))
