-- What is made of the labels of a type, where names give way to what they stand for: the type written out.
use Rattle.std.proofs.Common.{◌≡◌, List, [], ◌∷◌, sym, ap, ◌∙◌}
use Rattle.rml_types.specs.declared.tree.SchemeTree.{SchemeTree}
use Rattle.rml_types.specs.Labels.{Label, labels}
use Rattle.rml_types.specs.Runs.{run_by}
use Rattle.rml_types.proofs.Callers.{begun-by}
use Rattle.rml_abbreviations.specs.Written.{Meanings, written, written_by}
use Rattle.rml_abbreviations.proofs.WrittenTypes.{written-built}

pub written_by_labels : (meanings : Meanings) (t made : SchemeTree) (all : List Label) → all ≡ labels t → run_by (written_by meanings) all [] ≡ made ∷ [] → made ≡ written meanings t
written_by_labels meanings t made all is e =
    only (sym e ∙ ap (λ ls. run_by (written_by meanings) ls []) is ∙ begun-by (written_by meanings) (written meanings) (λ c ts fits. sym (written-built meanings c ts fits)) t) where
      only : {t u : SchemeTree} → t ∷ [] ≡ u ∷ [] → t ≡ u
      only e = cc
