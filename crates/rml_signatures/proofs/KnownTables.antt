-- Tables that are what a set's trees say.
use Rattle.std.proofs.Common.{◌≡◌, ℕ, ◌+◌, List, map, ap, ◌∙◌, Option}
use Rattle.rml_outlines.specs.declared.known.Known.{Known}
use Rattle.rml_syntax.specs.declared.texts.Text.{Text}
use Rattle.rml_signatures.specs.Definitions.{declared_types, definitions_of, params_of}
use Rattle.rml_signatures.specs.Numbers.{capped, numbers_of}
use Rattle.rml_signatures.specs.Types.{KnownTypes, types_of}
use Rattle.rml_signatures.specs.declared.definitions.Definition.{Definition}
use Rattle.rml_signatures.specs.declared.numbers.Numbers.{Numbers}

abbrev types : Known → Numbers → List (Option Definition) → List (Option ℕ) → ℕ → KnownTypes
types k n ds ps d = record { known = k; numbers = n; definitions = ds; params = ps; declared = d }

pub told-is : (k : Known) (texts : List Text) (n : Numbers) (ds : List (Option Definition)) (ps : List (Option ℕ)) (d : ℕ) → n ≡ numbers_of k → ds ≡ definitions_of k n texts
    → ps ≡ map (params_of texts) ds → d ≡ capped (0 + declared_types texts) → types k n ds ps d ≡ types_of k texts
told-is k texts n ds ps d numbers definitions params declared =
    let all : ds ≡ definitions_of k (numbers_of k) texts = definitions ∙ ap (λ m. definitions_of k m texts) numbers in
    ap (λ m. types k m ds ps d) numbers
    ∙ ap (λ xs. types k (numbers_of k) xs ps d) all
    ∙ ap (λ xs. types k (numbers_of k) (definitions_of k (numbers_of k) texts) xs d) (params ∙ ap (map (params_of texts)) all)
    ∙ ap (types k (numbers_of k) (definitions_of k (numbers_of k) texts) (map (params_of texts) (definitions_of k (numbers_of k) texts))) declared
