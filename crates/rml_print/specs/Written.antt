-- What has been written while a text is printed.
use Rattle.std.specs.Prelude.{ℕ, List, [], ◌∷◌, ◌++◌, replicate, Option, Some, None}
use Rattle.std.specs.List.{fold}
use Rattle.rml_syntax.specs.declared.token.Token.{Token}
use Rattle.rml_print.specs.Spelling.{spelling}
use Rattle.rml_print.specs.Lines.{gap_before, Line}

-- the bytes so far, and the last token of the line, if it has one
pub record Written : Type 0 where
  pub names : List (List ℕ)
  pub out : List ℕ
  pub last : Option Token

unfoldable pub with_token : Written → Token → Written
with_token w t = record { names = w.names; out = w.out ++ gap_before w.last t ++ spelling w.names t; last = Some t }

abbrev pub with_tokens : Written → List Token → Written
with_tokens = fold with_token

unfoldable pub begun : ℕ → Written → Written
begun indent w = record { names = w.names; out = w.out ++ replicate indent 32; last = None }

unfoldable pub ended : Written → Written
ended w = record { names = w.names; out = w.out ++ 10 ∷ []; last = None }

abbrev pub with_line : Written → Line → Written
with_line w l = ended (with_tokens (begun l.indent w) l.tokens)

abbrev pub with_lines : Written → List Line → Written
with_lines = fold with_line
