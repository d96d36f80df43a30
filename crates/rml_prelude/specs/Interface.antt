-- What the interface of the prelude declares.
use Rattle.std.specs.Prelude.{ℕ, List, [], ◌∷◌}
use Rattle.rml_syntax.specs.declared.texts.Decl.{Decl}
use Rattle.rml_syntax.specs.declared.texts.Decl.TheVariants as decl
use Rattle.rml_prelude.specs.Parts.{a, con, declared, head, list_of_a, plain}
use Rattle.rml_prelude.specs.Words.{number}
use Rattle.rml_prelude.specs.declared.word.Word.TheVariants as word

module _ (w : List ℕ) where
  -- `datatype bool = false | true`
  unfoldable pub truths : Decl
  truths = decl.Datatype (record { head = head w [] word.Bool; cons = con w word.False [] ∷ con w word.True [] ∷ [] } ∷ [])

  -- `datatype 'a option = NONE | SOME of 'a`
  unfoldable pub options : Decl
  options = decl.Datatype (record { head = head w (number w word.TypeA ∷ []) word.Option; cons = con w word.NoValue [] ∷ con w word.OneValue (a w ∷ []) ∷ [] } ∷ [])

  -- `relation bool_and: (bool, bool) => bool`
  unfoldable pub type_of_and : Decl
  type_of_and = declared w word.BoolAnd (plain w word.Bool ∷ plain w word.Bool ∷ []) (plain w word.Bool)

  -- `relation bool_or: (bool, bool) => bool`
  unfoldable pub type_of_or : Decl
  type_of_or = declared w word.BoolOr (plain w word.Bool ∷ plain w word.Bool ∷ []) (plain w word.Bool)

  -- `relation bool_not: bool => bool`
  unfoldable pub type_of_not : Decl
  type_of_not = declared w word.BoolNot (plain w word.Bool ∷ []) (plain w word.Bool)

  -- `relation list_append: ('a list, 'a list) => 'a list`
  unfoldable pub type_of_append : Decl
  type_of_append = declared w word.ListAppend (list_of_a w ∷ list_of_a w ∷ []) (list_of_a w)

  -- `relation list_reverse: 'a list => 'a list`
  unfoldable pub type_of_reverse : Decl
  type_of_reverse = declared w word.ListReverse (list_of_a w ∷ []) (list_of_a w)

  -- `relation list_length: 'a list => int`
  unfoldable pub type_of_length : Decl
  type_of_length = declared w word.ListLength (list_of_a w ∷ []) (plain w word.Int)

  -- `relation list_member: ('a, 'a list) => bool`
  unfoldable pub type_of_member : Decl
  type_of_member = declared w word.ListMember (a w ∷ list_of_a w ∷ []) (plain w word.Bool)

  -- `relation list_nth: ('a list, int) => 'a`
  unfoldable pub type_of_nth : Decl
  type_of_nth = declared w word.ListNth (list_of_a w ∷ plain w word.Int ∷ []) (a w)

  -- `relation list_delete: ('a list, int) => 'a list`
  unfoldable pub type_of_delete : Decl
  type_of_delete = declared w word.ListDelete (list_of_a w ∷ plain w word.Int ∷ []) (list_of_a w)

  -- all that the interface declares
  unfoldable pub interface : List Decl
  interface = truths ∷ options ∷ type_of_and ∷ type_of_or ∷ type_of_not ∷ type_of_append ∷ type_of_reverse ∷ type_of_length ∷ type_of_member ∷ type_of_nth ∷ type_of_delete ∷ []
