-- What is shown of one text alone, whose number is 0: the listing of its tokens, and its tree as it is printed. Both are of a text
-- that is read.
use Rattle.std.specs.Prelude.{◌≡◌, ℕ, List, []}
use Rattle.rml_syntax.specs.declared.token.Spot.{Spot}
use Rattle.rml_syntax.specs.declared.texts.Text.{Text}
use Rattle.rml_print.specs.Listing.{listing}
use Rattle.rml_print.specs.Printed.{printed_text}
use Rattle.rml_stages.specs.Reading.{IsRead, IsReadAs}

pub record ShowsTokens (bytes out : List ℕ) : Type 0 where
  pub spots : List Spot
  pub tree : Text
  pub names : List (List ℕ)
  pub read : IsReadAs 0 bytes [] spots tree names
  pub listed : out ≡ listing names spots

pub record ShowsTree (bytes out : List ℕ) : Type 0 where
  pub tree : Text
  pub names : List (List ℕ)
  pub read : IsRead 0 bytes [] tree names
  pub printed : out ≡ printed_text names tree
