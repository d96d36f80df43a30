-- What is given stands as names grow.
use Rattle.std.proofs.Common.{◌≡◌, ◌<◌, ℕ, true, List, length, get_or, refl, ap, subst, ◌∙◌}
use Rattle.std.specs.Prelude.{IfSome, slice_get}
use Rattle.std.specs.List.{list_all}
use Rattle.std.proofs.lemmas.Option.{slice_get-get_or}
use Rattle.rml_base.specs.Numbering.{GrowsBy, is_known}
use Rattle.rml_tables.specs.Words.{Grows}
use Rattle.rml_builtin.specs.Names.{row_names}
use Rattle.rml_given.specs.Built.{all_known, built_of, entries_over, rows_of}
use Rattle.rml_prelude.specs.Text.{PreludeTree}
use Rattle.rml_prelude.specs.Words.{are_known, words_of}
use Rattle.rml_prelude.proofs.Callers.{first-of, known-later, numbers-stand, second-of, tree-stands, words-known, words-stand}

pub words-among : (names : List (List ℕ)) → all_known names ≡ true → are_known names ≡ true
unfolding all_known
words-among names h = first-of (are_known names) (list_all (is_known names) row_names) h

pub rows-among : (names : List (List ℕ)) → all_known names ≡ true → list_all (is_known names) row_names ≡ true
unfolding all_known
rows-among names h = second-of (are_known names) (list_all (is_known names) row_names) h

pub both-among : (names : List (List ℕ)) → are_known names ≡ true → list_all (is_known names) row_names ≡ true → all_known names ≡ true
unfolding all_known
both-among names a b = rw (a, b) refl

pub all-later : (names later : List (List ℕ)) → all_known names ≡ true → Grows names later → all_known later ≡ true
all-later names later h g = both-among later (words-known names later (words-among names h) g) (known-later row_names names later (rows-among names h) g)

pub tree-later : (names later : List (List ℕ)) → all_known names ≡ true → Grows names later → PreludeTree later ≡ PreludeTree names
tree-later names later h g = tree-stands names later (words-among names h) g

pub rows-stand : (names later : List (List ℕ)) → list_all (is_known names) row_names ≡ true → Grows names later → rows_of later ≡ rows_of names
unfolding rows_of
rows-stand names later h g = numbers-stand row_names names later h g

pub built-stands : (names later : List (List ℕ)) → all_known names ≡ true → Grows names later → built_of later ≡ built_of names
unfolding built_of
built-stands names later h g =
    ap (λ (w : List ℕ). entries_over w (rows_of later)) (words-stand names later (words-among names h) g)
    ∙ ap (entries_over (words_of names)) (rows-stand names later (rows-among names h) g)

-- what holds of the one that stands there holds of it
pub named : {X : Type 0} (P : X → Type 0) (xs : List X) (i : ℕ) (d : X) → i < length xs → IfSome (slice_get xs i) P → P (get_or xs i d)
named P xs i d inside h = subst (λ o. IfSome o P) (slice_get-get_or xs i d inside) h

-- names that grow by some have grown
pub grows-as : (m : ℕ) (a b : List (List ℕ)) → GrowsBy m a b → Grows a b
grows-as m a b g = (g.0, g.1)
