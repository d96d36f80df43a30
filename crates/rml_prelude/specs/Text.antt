-- The tree of the prelude's text, over the numbers that some names give its words.
use Rattle.std.specs.Prelude.{ℕ, List, []}
use Rattle.rml_syntax.specs.declared.texts.Text.{Text}
use Rattle.rml_prelude.specs.Interface.{interface}
use Rattle.rml_prelude.specs.Parts.{nowhere}
use Rattle.rml_prelude.specs.Relations.{body}
use Rattle.rml_prelude.specs.Words.{number, words_of}
use Rattle.rml_prelude.specs.declared.word.Word.TheVariants as word

-- over the numbers of the words
unfoldable pub tree_of : List ℕ → Text
tree_of w = record {
  «module» = number w word.Rml;
  place = nowhere;
  end = nowhere;
  uses = [];
  specs = interface w;
  body_uses = [];
  decls = body w;
}

-- over the names
unfoldable pub PreludeTree : List (List ℕ) → Text
PreludeTree names = tree_of (words_of names)
