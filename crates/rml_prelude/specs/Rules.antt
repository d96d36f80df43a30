-- The rules of the prelude, each in the words of its text, with the count of its tokens.
use Rattle.std.specs.Prelude.{ℕ, pos, List, [], ◌∷◌}
use Rattle.rml_syntax.specs.declared.rules.Exp.TheVariants as exp
use Rattle.rml_syntax.specs.declared.rules.Goal.TheVariants as goal
use Rattle.rml_syntax.specs.declared.rules.Pattern.TheVariants as pattern
use Rattle.rml_syntax.specs.declared.rules.Rule.{Rule}
use Rattle.rml_syntax.specs.declared.token.Lit.TheVariants as lit
use Rattle.rml_prelude.specs.Parts.{call, long, name, rule, value}
use Rattle.rml_prelude.specs.declared.word.Word.TheVariants as word

module _ (w : List ℕ) where
  -- `bool_and(true, true) => true`
  unfoldable pub and_of_trues : Rule
  and_of_trues = rule w word.BoolAnd (name w word.True ∷ name w word.True ∷ []) [] (value w word.True ∷ []) 9

  -- `bool_and(true, false) => false`
  unfoldable pub and_of_true_and_false : Rule
  and_of_true_and_false = rule w word.BoolAnd (name w word.True ∷ name w word.False ∷ []) [] (value w word.False ∷ []) 9

  -- `bool_and(false, _) => false`
  unfoldable pub and_of_false : Rule
  and_of_false = rule w word.BoolAnd (name w word.False ∷ pattern.Any ∷ []) [] (value w word.False ∷ []) 9

  -- `bool_or(false, false) => false`
  unfoldable pub or_of_falses : Rule
  or_of_falses = rule w word.BoolOr (name w word.False ∷ name w word.False ∷ []) [] (value w word.False ∷ []) 9

  -- `bool_or(false, true) => true`
  unfoldable pub or_of_false_and_true : Rule
  or_of_false_and_true = rule w word.BoolOr (name w word.False ∷ name w word.True ∷ []) [] (value w word.True ∷ []) 9

  -- `bool_or(true, _) => true`
  unfoldable pub or_of_true : Rule
  or_of_true = rule w word.BoolOr (name w word.True ∷ pattern.Any ∷ []) [] (value w word.True ∷ []) 9

  -- `bool_not(false) => true`
  unfoldable pub not_of_false : Rule
  not_of_false = rule w word.BoolNot (name w word.False ∷ []) [] (value w word.True ∷ []) 7

  -- `bool_not(true) => false`
  unfoldable pub not_of_true : Rule
  not_of_true = rule w word.BoolNot (name w word.True ∷ []) [] (value w word.False ∷ []) 7

  -- `list_append([], y) => y`
  unfoldable pub append_to_empty : Rule
  append_to_empty = rule w word.ListAppend (pattern.List [] ∷ name w word.VarY ∷ []) [] (value w word.VarY ∷ []) 10

  -- `list_append(r, y) => z` gives `list_append(x :: r, y) => x :: z`
  unfoldable pub append_to_link : Rule
  append_to_link = rule w word.ListAppend (pattern.Cons (name w word.VarX ∷ name w word.VarR ∷ []) ∷ name w word.VarY ∷ []) (call w word.ListAppend (value w word.VarR ∷ value w word.VarY ∷ []) (name w word.VarZ) ∷ []) (exp.Cons (value w word.VarX ∷ value w word.VarZ ∷ []) ∷ []) 22

  -- `list_turn([], y) => y`
  unfoldable pub turn_empty : Rule
  turn_empty = rule w word.ListTurn (pattern.List [] ∷ name w word.VarY ∷ []) [] (value w word.VarY ∷ []) 10

  -- `list_turn(r, x :: y) => z` gives `list_turn(x :: r, y) => z`
  unfoldable pub turn_link : Rule
  turn_link = rule w word.ListTurn (pattern.Cons (name w word.VarX ∷ name w word.VarR ∷ []) ∷ name w word.VarY ∷ []) (call w word.ListTurn (value w word.VarR ∷ exp.Cons (value w word.VarX ∷ value w word.VarY ∷ []) ∷ []) (name w word.VarZ) ∷ []) (value w word.VarZ ∷ []) 22

  -- `list_turn(x, []) => y` gives `list_reverse(x) => y`
  unfoldable pub reverse : Rule
  reverse = rule w word.ListReverse (name w word.VarX ∷ []) (call w word.ListTurn (value w word.VarX ∷ exp.List [] ∷ []) (name w word.VarY) ∷ []) (value w word.VarY ∷ []) 17

  -- `list_length([]) => 0`
  unfoldable pub length_of_empty : Rule
  length_of_empty = rule w word.ListLength (pattern.List [] ∷ []) [] (exp.Lit (lit.Int (pos 0)) ∷ []) 8

  -- `list_length(r) => n & int_add(n, 1) => m` gives `list_length(_ :: r) => m`
  unfoldable pub length_of_link : Rule
  length_of_link = rule w word.ListLength (pattern.Cons (pattern.Any ∷ name w word.VarR ∷ []) ∷ []) (call w word.ListLength (value w word.VarR ∷ []) (name w word.VarN) ∷ call w word.IntAdd (value w word.VarN ∷ exp.Lit (lit.Int (pos 1)) ∷ []) (name w word.VarM) ∷ []) (value w word.VarM ∷ []) 25

  -- `list_member(_, []) => false`
  unfoldable pub member_of_empty : Rule
  member_of_empty = rule w word.ListMember (pattern.Any ∷ pattern.List [] ∷ []) [] (value w word.False ∷ []) 10

  -- `x = y` gives `list_member(x, y :: _) => true`
  unfoldable pub member_at_front : Rule
  member_at_front = rule w word.ListMember (name w word.VarX ∷ pattern.Cons (name w word.VarY ∷ pattern.Any ∷ []) ∷ []) (goal.Equal (long w word.VarX) (value w word.VarY) ∷ []) (value w word.True ∷ []) 15

  -- `not x = y & list_member(x, r) => b` gives `list_member(x, y :: r) => b`
  unfoldable pub member_behind : Rule
  member_behind = rule w word.ListMember (name w word.VarX ∷ pattern.Cons (name w word.VarY ∷ name w word.VarR ∷ []) ∷ []) (goal.Not (goal.Equal (long w word.VarX) (value w word.VarY)) ∷ call w word.ListMember (value w word.VarX ∷ value w word.VarR ∷ []) (name w word.VarB) ∷ []) (value w word.VarB ∷ []) 25

  -- `list_nth(x :: _, 0) => x`
  unfoldable pub nth_at_front : Rule
  nth_at_front = rule w word.ListNth (pattern.Cons (name w word.VarX ∷ pattern.Any ∷ []) ∷ pattern.Lit (lit.Int (pos 0)) ∷ []) [] (value w word.VarX ∷ []) 11

  -- `int_gt(n, 0) => true & int_sub(n, 1) => m & list_nth(r, m) => x` gives `list_nth(_ :: r, n) => x`
  unfoldable pub nth_behind : Rule
  nth_behind = rule w word.ListNth (pattern.Cons (pattern.Any ∷ name w word.VarR ∷ []) ∷ name w word.VarN ∷ []) (call w word.IntGt (value w word.VarN ∷ exp.Lit (lit.Int (pos 0)) ∷ []) (name w word.True) ∷ call w word.IntSub (value w word.VarN ∷ exp.Lit (lit.Int (pos 1)) ∷ []) (name w word.VarM) ∷ call w word.ListNth (value w word.VarR ∷ value w word.VarM ∷ []) (name w word.VarX) ∷ []) (value w word.VarX ∷ []) 38

  -- `list_delete(_ :: r, 0) => r`
  unfoldable pub delete_at_front : Rule
  delete_at_front = rule w word.ListDelete (pattern.Cons (pattern.Any ∷ name w word.VarR ∷ []) ∷ pattern.Lit (lit.Int (pos 0)) ∷ []) [] (value w word.VarR ∷ []) 11

  -- `int_gt(n, 0) => true & int_sub(n, 1) => m & list_delete(r, m) => s` gives `list_delete(x :: r, n) => x :: s`
  unfoldable pub delete_behind : Rule
  delete_behind = rule w word.ListDelete (pattern.Cons (name w word.VarX ∷ name w word.VarR ∷ []) ∷ name w word.VarN ∷ []) (call w word.IntGt (value w word.VarN ∷ exp.Lit (lit.Int (pos 0)) ∷ []) (name w word.True) ∷ call w word.IntSub (value w word.VarN ∷ exp.Lit (lit.Int (pos 1)) ∷ []) (name w word.VarM) ∷ call w word.ListDelete (value w word.VarR ∷ value w word.VarM ∷ []) (name w word.VarS) ∷ []) (exp.Cons (value w word.VarX ∷ value w word.VarS ∷ []) ∷ []) 40
