-- The prelude stands as names grow.
use Rattle.std.proofs.Common.{◌≡◌, ℕ, true, List, map, refl, ap, ◌∙◌}
use Rattle.std.specs.List.{list_all}
use Rattle.rml_base.specs.Numbering.{is_known, number_in}
use Rattle.rml_tables.specs.Words.{Grows}
use Rattle.rml_prelude.specs.Text.{PreludeTree, tree_of}
use Rattle.rml_prelude.specs.Words.{are_known, number, text_of, texts, words_of}
use Rattle.rml_prelude.specs.declared.word.Word.{Word}
use Rattle.rml_prelude.specs.declared.word.Word.TheVariants as word
use Rattle.rml_prelude.proofs.Numbered.{all-more, numbers-more}

-- byte strings that are known keep their numbers
pub numbers-stand : (ts names later : List (List ℕ)) → list_all (is_known names) ts ≡ true → Grows names later → map (number_in later) ts ≡ map (number_in names) ts
numbers-stand ts names later h g = ap (λ (l : List (List ℕ)). map (number_in l) ts) g.1 ∙ numbers-more names g.0 ts h

pub known-later : (ts names later : List (List ℕ)) → list_all (is_known names) ts ≡ true → Grows names later → list_all (is_known later) ts ≡ true
known-later ts names later h g = ap (λ (l : List (List ℕ)). list_all (is_known l) ts) g.1 ∙ all-more names g.0 ts h

pub words-stand : (names later : List (List ℕ)) → are_known names ≡ true → Grows names later → words_of later ≡ words_of names
unfolding words_of are_known
words-stand names later h g = numbers-stand texts names later h g

pub words-known : (names later : List (List ℕ)) → are_known names ≡ true → Grows names later → are_known later ≡ true
unfolding are_known
words-known names later h g = known-later texts names later h g

pub tree-stands : (names later : List (List ℕ)) → are_known names ≡ true → Grows names later → PreludeTree later ≡ PreludeTree names
unfolding PreludeTree
tree-stands names later h g = ap tree_of (words-stand names later h g)

pub word-number : (names : List (List ℕ)) (w : Word) → number (words_of names) w ≡ number_in names (text_of w)
unfolding number words_of
word-number names word.Rml = refl
word-number names word.Int = refl
word-number names word.Char = refl
word-number names word.String = refl
word-number names word.List = refl
word-number names word.Lvar = refl
word-number names word.Vector = refl
word-number names word.Nil = refl
word-number names word.Bool = refl
word-number names word.False = refl
word-number names word.True = refl
word-number names word.Option = refl
word-number names word.NoValue = refl
word-number names word.OneValue = refl
word-number names word.TypeA = refl
word-number names word.BoolAnd = refl
word-number names word.BoolOr = refl
word-number names word.BoolNot = refl
word-number names word.ListAppend = refl
word-number names word.ListTurn = refl
word-number names word.ListReverse = refl
word-number names word.ListLength = refl
word-number names word.ListMember = refl
word-number names word.ListNth = refl
word-number names word.ListDelete = refl
word-number names word.IntAdd = refl
word-number names word.IntSub = refl
word-number names word.IntGt = refl
word-number names word.VarB = refl
word-number names word.VarM = refl
word-number names word.VarN = refl
word-number names word.VarR = refl
word-number names word.VarS = refl
word-number names word.VarX = refl
word-number names word.VarY = refl
word-number names word.VarZ = refl
word-number names word.Main = refl
