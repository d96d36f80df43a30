-- The relations of the prelude, each with its rules.
use Rattle.std.specs.Prelude.{ℕ, List, [], ◌∷◌, ◌++◌, Some}
use Rattle.rml_syntax.specs.declared.texts.Decl.{Decl}
use Rattle.rml_syntax.specs.declared.texts.Decl.TheVariants as decl
use Rattle.rml_prelude.specs.Parts.{defined, list_of_a, nowhere, sig}
use Rattle.rml_prelude.specs.Rules.{and_of_false, and_of_true_and_false, and_of_trues, append_to_empty, append_to_link, delete_at_front, delete_behind, length_of_empty, length_of_link, member_at_front, member_behind, member_of_empty, not_of_false, not_of_true, nth_at_front, nth_behind, or_of_false_and_true, or_of_falses, or_of_true, reverse, turn_empty, turn_link}
use Rattle.rml_prelude.specs.Words.{number}
use Rattle.rml_prelude.specs.declared.word.Word.TheVariants as word

module _ (w : List ℕ) where
  unfoldable pub bool_and : Decl
  bool_and = defined w word.BoolAnd (and_of_trues w ∷ and_of_true_and_false w ∷ and_of_false w ∷ [])

  unfoldable pub bool_or : Decl
  bool_or = defined w word.BoolOr (or_of_falses w ∷ or_of_false_and_true w ∷ or_of_true w ∷ [])

  unfoldable pub bool_not : Decl
  bool_not = defined w word.BoolNot (not_of_false w ∷ not_of_true w ∷ [])

  unfoldable pub list_append : Decl
  list_append = defined w word.ListAppend (append_to_empty w ∷ append_to_link w ∷ [])

  -- the interface has none of this name
  unfoldable pub list_turn : Decl
  list_turn = decl.Relation (number w word.ListTurn) nowhere (Some (sig (list_of_a w ∷ list_of_a w ∷ []) (list_of_a w))) (turn_empty w ∷ turn_link w ∷ [])

  unfoldable pub list_reverse : Decl
  list_reverse = defined w word.ListReverse (reverse w ∷ [])

  unfoldable pub list_length : Decl
  list_length = defined w word.ListLength (length_of_empty w ∷ length_of_link w ∷ [])

  unfoldable pub list_member : Decl
  list_member = defined w word.ListMember (member_of_empty w ∷ member_at_front w ∷ member_behind w ∷ [])

  unfoldable pub list_nth : Decl
  list_nth = defined w word.ListNth (nth_at_front w ∷ nth_behind w ∷ [])

  unfoldable pub list_delete : Decl
  list_delete = defined w word.ListDelete (delete_at_front w ∷ delete_behind w ∷ [])

  -- those over truths, those that make lists of links, and those that look into lists
  unfoldable pub over_truths : List Decl
  over_truths = bool_and ∷ bool_or ∷ bool_not ∷ []

  unfoldable pub over_links : List Decl
  over_links = list_append ∷ list_turn ∷ list_reverse ∷ []

  unfoldable pub over_lists : List Decl
  over_lists = list_length ∷ list_member ∷ list_nth ∷ list_delete ∷ []

  -- all that the body declares
  unfoldable pub body : List Decl
  body = (over_truths ++ over_links) ++ over_lists
