-- The words that have numbers before a text is looked at, and how each is spelled.
use Rattle.std.specs.Prelude.{ℕ, Bool, List, map, codes, slice_index}
use Rattle.std.specs.List.{list_all}
use Rattle.rml_base.specs.Numbering.{is_known, number_in}
use Rattle.rml_prelude.specs.declared.word.TheConstants.{WORDS}
use Rattle.rml_prelude.specs.declared.word.Word.{Word}
use Rattle.rml_prelude.specs.declared.word.Word.TheVariants as word

abbrev pub text_of : Word → List ℕ
text_of word.Rml = codes "rml"
text_of word.Int = codes "int"
text_of word.Char = codes "char"
text_of word.String = codes "string"
text_of word.List = codes "list"
text_of word.Lvar = codes "lvar"
text_of word.Vector = codes "vector"
text_of word.Nil = codes "nil"
text_of word.Bool = codes "bool"
text_of word.False = codes "false"
text_of word.True = codes "true"
text_of word.Option = codes "option"
text_of word.NoValue = codes "NONE"
text_of word.OneValue = codes "SOME"
text_of word.TypeA = codes "'a"
text_of word.BoolAnd = codes "bool_and"
text_of word.BoolOr = codes "bool_or"
text_of word.BoolNot = codes "bool_not"
text_of word.ListAppend = codes "list_append"
text_of word.ListTurn = codes "list_turn"
text_of word.ListReverse = codes "list_reverse"
text_of word.ListLength = codes "list_length"
text_of word.ListMember = codes "list_member"
text_of word.ListNth = codes "list_nth"
text_of word.ListDelete = codes "list_delete"
text_of word.IntAdd = codes "int_add"
text_of word.IntSub = codes "int_sub"
text_of word.IntGt = codes "int_gt"
text_of word.VarB = codes "b"
text_of word.VarM = codes "m"
text_of word.VarN = codes "n"
text_of word.VarR = codes "r"
text_of word.VarS = codes "s"
text_of word.VarX = codes "x"
text_of word.VarY = codes "y"
text_of word.VarZ = codes "z"
text_of word.Main = codes "main"

abbrev pub place_of : Word → ℕ
place_of word.Rml = 0
place_of word.Int = 1
place_of word.Char = 2
place_of word.String = 3
place_of word.List = 4
place_of word.Lvar = 5
place_of word.Vector = 6
place_of word.Nil = 7
place_of word.Bool = 8
place_of word.False = 9
place_of word.True = 10
place_of word.Option = 11
place_of word.NoValue = 12
place_of word.OneValue = 13
place_of word.TypeA = 14
place_of word.BoolAnd = 15
place_of word.BoolOr = 16
place_of word.BoolNot = 17
place_of word.ListAppend = 18
place_of word.ListTurn = 19
place_of word.ListReverse = 20
place_of word.ListLength = 21
place_of word.ListMember = 22
place_of word.ListNth = 23
place_of word.ListDelete = 24
place_of word.IntAdd = 25
place_of word.IntSub = 26
place_of word.IntGt = 27
place_of word.VarB = 28
place_of word.VarM = 29
place_of word.VarN = 30
place_of word.VarR = 31
place_of word.VarS = 32
place_of word.VarX = 33
place_of word.VarY = 34
place_of word.VarZ = 35
place_of word.Main = 36

abbrev pub texts : List (List ℕ)
texts = map text_of WORDS

-- the numbers that some names give all words, in their order
unfoldable pub words_of : List (List ℕ) → List ℕ
words_of names = map (number_in names) texts

-- the number of a word among those of all words
unfoldable pub number : List ℕ → Word → ℕ
number w word = slice_index w (place_of word)

-- whether all words are among some names
unfoldable pub are_known : List (List ℕ) → Bool
are_known names = list_all (is_known names) texts
