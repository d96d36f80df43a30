-- The rows that are gathered are those of the visits, each once; and those of the table that are among them, in its order.
use Rattle.std.proofs.Common.{◌≡◌, ℕ, zero, suc, ◌+◌, ◌<◌, ◌≤◌, Bool, true, false, List, [], ◌∷◌, ◌++◌, drop, length, get_or, refl, sym, ap, ◌∙◌, arith, add-one, drop-cons}
use Rattle.std.specs.Prelude.{◌||◌, cond, nat_eq, Option, None, Some}
use Rattle.std.specs.List.{filter, flat_map, range_with_len}
use Rattle.std.proofs.lemmas.Bool.Decides.{nat_tests}
use Rattle.std.proofs.lemmas.List.{map-id}
use Rattle.std.proofs.lemmas.List.Folds.{list_any-append}
use Rattle.std.proofs.lemmas.List.FromFn.{filter_of_map_range_with_len_more}
use Rattle.rml_syntax.specs.declared.texts.Text.{Text}
use Rattle.rml_tables.specs.Words.{has, with_each, with_name}
use Rattle.rml_scopes.specs.declared.world.World.{World}
use Rattle.rml_scopes.specs.Machine.{after_step, fresh, visits, visits_from}
use Rattle.rml_scopes.specs.Steps.{Step}
use Rattle.rml_values.specs.declared.values.Values.{Values}
use Rattle.rml_named.specs.Gathered.{gather, gather_each, with_row, with_where}
use Rattle.rml_scopes.specs.declared.scope.Scope.{Scope}
use Rattle.rml_named.proofs.Alike.{rows_told}
use Rattle.rml_named.specs.Rows.{as_list, row_at, text_rows, texts_rows, visit_rows}
use Rattle.rml_named.specs.Uses.{text_uses}
use Rattle.rml_named.specs.declared.gathering.Gathering.{Gathering}

-- names, each of which is added once

each_over : (xs ys ns : List ℕ) → with_each nat_eq ns (xs ++ ys) ≡ with_each nat_eq (with_each nat_eq ns xs) ys
each_over [] ys ns = refl
each_over (x ∷ xs) ys ns = each_over xs ys (with_name nat_eq ns x)

same-number : (a b : ℕ) → nat_eq a b ≡ true → a ≡ b
same-number a b h = grind (arith, nat_tests)

or-false : (b : Bool) → b ≡ (b || false)
or-false true = refl
or-false false = refl

or-swap : (a b c : Bool) → ((a || (b || false)) || c) ≡ (a || (b || c))
or-swap true b c = refl
or-swap false true c = refl
or-swap false false c = refl

absorbed : (a b c : Bool) → (b ≡ true → a ≡ true) → (a || c) ≡ (a || (b || c))
absorbed true b c h = refl
absorbed false true c h = absurd (cc (h refl))
absorbed false false c h = refl

has-name : (y n : ℕ) (ns : List ℕ) (c : Bool) → (has nat_eq y (with_name nat_eq ns n) || c) ≡ (has nat_eq y ns || (nat_eq y n || c))
has-name y n ns c = go (has nat_eq n ns) refl where
  go : (b : Bool) → has nat_eq n ns ≡ b → (has nat_eq y (with_name nat_eq ns n) || c) ≡ (has nat_eq y ns || (nat_eq y n || c))
  go true h = rw h (absorbed (has nat_eq y ns) (nat_eq y n) c (λ e. ap (λ k. has nat_eq k ns) (same-number y n e) ∙ h))
  go false h = rw (h, list_any-append (nat_eq y) ns (n ∷ [])) (or-swap (has nat_eq y ns) (nat_eq y n) c)

has-each : (y : ℕ) (more ns : List ℕ) → has nat_eq y (with_each nat_eq ns more) ≡ (has nat_eq y ns || has nat_eq y more)
has-each y [] ns = or-false (has nat_eq y ns)
has-each y (m ∷ more) ns = has-each y more (with_name nat_eq ns m) ∙ has-name y m ns (has nat_eq y more)

-- the walk

one_more : (rows rest : List ℕ) (o : Option ℕ) → with_each nat_eq (with_row rows o) rest ≡ with_each nat_eq rows (as_list o ++ rest)
one_more rows rest None = refl
one_more rows rest (Some row) = refl

gathered_rows : (w : World) (v : Values) (xs : List Step) (g : Gathering) → (gather_each w v g xs).rows ≡ with_each nat_eq g.rows (flat_map (visit_rows w v) (visits_from w g.scope xs))
unfolding gather
gathered_rows w v [] g = refl
gathered_rows w v (x ∷ xs) g =
    gathered_rows w v xs (gather w v g x) ∙ one_more g.rows (flat_map (visit_rows w v) (visits_from w (after_step w g.scope x) xs)) (row_at w v g.scope x)

pub rows_of_text : (w : World) (v : Values) (number : ℕ) (t : Text) (g : Gathering) → g.scope ≡ fresh number
    → (gather_each w v g (text_uses t)).rows ≡ with_each nat_eq g.rows (text_rows w v number t)
unfolding text_rows visits
rows_of_text w v number t g e =
    gathered_rows w v (text_uses t) g ∙ ap (λ (s : Scope). with_each nat_eq g.rows (flat_map (visit_rows w v) (visits_from w s (text_uses t)))) e
    ∙ ap (λ (rows : List ℕ). with_each nat_eq g.rows rows) (sym (rows_told w v number t))

-- a turn of the loop over texts
pub texts_turn : (w : World) (v : Values) (ts : List Text) (i : ℕ) (t : Text) (start here next : List ℕ)
    → i < length ts → t ≡ get_or ts i t
    → start ≡ with_each nat_eq here (texts_rows w v i (drop i ts))
    → next ≡ with_each nat_eq here (text_rows w v i t)
    → start ≡ with_each nat_eq next (texts_rows w v (i + 1) (drop (i + 1) ts))
texts_turn w v ts i t start here next within is before after =
    let split : drop i ts ≡ t ∷ drop (i + 1) ts = rw add-one (drop-cons ts i t within ∙ ap (λ y. y ∷ drop (suc i) ts) (sym is)) in
    before ∙ ap (λ ys. with_each nat_eq here (texts_rows w v i ys)) split
    ∙ each_over (text_rows w v i t) (texts_rows w v (suc i) (drop (i + 1) ts)) here
    ∙ ap (λ o. with_each nat_eq o (texts_rows w v (suc i) (drop (i + 1) ts))) (sym after)
    ∙ ap (λ n. with_each nat_eq next (texts_rows w v n (drop (i + 1) ts))) (sym (add-one i))

-- numbers in order that pass a test

passing-more : (p : ℕ → Bool) (n : ℕ) → filter p (range_with_len 0 (n + 1)) ≡ filter p (range_with_len 0 n) ++ cond (p n) (n ∷ []) []
passing-more p n =
    let zero_and : 0 + n ≡ n = omega arith in
    ap (filter p) (sym (map-id (range_with_len 0 (n + 1)))) ∙ filter_of_map_range_with_len_more p (λ (x : ℕ). x) 0 n n zero_and
    ∙ ap (λ (xs : List ℕ). filter p xs ++ cond (p n) (n ∷ []) []) (map-id (range_with_len 0 n))

differ : (m n : ℕ) → suc n ≤ m → nat_eq m n ≡ false
differ m n le = grind (arith, nat_tests)

not-in : (m n : ℕ) (b : Bool) → suc n ≤ m → has nat_eq m (cond b (n ∷ []) []) ≡ false
not-in m n true le = rw (differ m n le) refl
not-in m n false le = refl

none-above : (p : ℕ → Bool) (n m : ℕ) → n ≤ m → has nat_eq m (filter p (range_with_len 0 n)) ≡ false
none-above p zero m le = refl
none-above p (suc n) m le =
    let less : n ≤ m = omega arith in
    ap (λ k. has nat_eq m (filter p (range_with_len 0 k))) (sym (add-one n)) ∙ ap (has nat_eq m) (passing-more p n)
    ∙ list_any-append (nat_eq m) (filter p (range_with_len 0 n)) (cond (p n) (n ∷ []) []) ∙ rw (none-above p n m less, not-in m n (p n) le) refl

-- a turn of the loop over the rows of the table

row_taken : (rows named new : List ℕ) (n : ℕ) → named ≡ filter (λ row. has nat_eq row rows) (range_with_len 0 n) → has nat_eq n rows ≡ true
    → new ≡ with_name nat_eq named n → new ≡ filter (λ row. has nat_eq row rows) (range_with_len 0 (n + 1))
row_taken rows named new n before is after =
    let p = λ (row : ℕ). has nat_eq row rows in
    let order : n ≤ n = omega arith in
    let new_there : has nat_eq n named ≡ false = ap (has nat_eq n) before ∙ none-above p n n order in
    let grown : with_name nat_eq named n ≡ named ++ n ∷ [] = rw new_there refl in
    after ∙ grown ∙ ap (λ (xs : List ℕ). xs ++ n ∷ []) before ∙ sym (passing-more p n ∙ ap (λ (b : Bool). filter p (range_with_len 0 n) ++ cond b (n ∷ []) []) is)

nothing-behind : (xs : List ℕ) → xs ++ [] ≡ xs
nothing-behind [] = refl
nothing-behind (x ∷ xs) = ap (λ (ys : List ℕ). x ∷ ys) (nothing-behind xs)

row_left : (rows named : List ℕ) (n : ℕ) → named ≡ filter (λ row. has nat_eq row rows) (range_with_len 0 n) → has nat_eq n rows ≡ false
    → named ≡ filter (λ row. has nat_eq row rows) (range_with_len 0 (n + 1))
row_left rows named n before is =
    let p = λ (row : ℕ). has nat_eq row rows in
    before ∙ sym (passing-more p n ∙ ap (λ (b : Bool). filter p (range_with_len 0 n) ++ cond b (n ∷ []) []) is ∙ nothing-behind (filter p (range_with_len 0 n)))

pub row_turn : (rows named new : List ℕ) (n : ℕ) (b : Bool) → named ≡ filter (λ row. has nat_eq row rows) (range_with_len 0 n) → b ≡ has nat_eq n rows
    → new ≡ with_where b named n → new ≡ filter (λ row. has nat_eq row rows) (range_with_len 0 (n + 1))
row_turn rows named new n true before is after = row_taken rows named new n before (sym is) after
row_turn rows named new n false before is after = after ∙ row_left rows named n before (sym is)

-- what is gathered is what was named

same-filter : (p q : ℕ → Bool) → ((n : ℕ) → p n ≡ q n) → (xs : List ℕ) → filter p xs ≡ filter q xs
same-filter p q same [] = refl
same-filter p q same (x ∷ xs) = rw (same x, same-filter p q same xs) refl

pub named_rows : (found all named : List ℕ) (count : ℕ) → found ≡ with_each nat_eq [] all
    → named ≡ filter (λ row. has nat_eq row found) (range_with_len 0 count) → named ≡ filter (λ row. has nat_eq row all) (range_with_len 0 count)
named_rows found all named count e is =
    is ∙ same-filter (λ (row : ℕ). has nat_eq row found) (λ (row : ℕ). has nat_eq row all) (λ row. ap (has nat_eq row) e ∙ has-each row all []) (range_with_len 0 count)
