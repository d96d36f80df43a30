-- A turn of the loop over texts: the outlines that are made, then those that are left.
use Rattle.std.proofs.Common.{◌≡◌, ℕ, suc, ◌+◌, ◌<◌, List, [], ◌∷◌, ◌++◌, length, get_or, drop, sym, ap, ◌∙◌, add-one, append_assoc, drop-cons}
use Rattle.rml_syntax.specs.declared.texts.Text.{Text}
use Rattle.rml_outlines.specs.Files.{Targets}
use Rattle.rml_outlines.specs.Outlines.{outline_of, outlines_from}
use Rattle.rml_outlines.specs.declared.outline.Outline.{Outline}

pub outlines_more : (links : List (List ℕ)) (targets : Targets) (texts : List Text) (i : ℕ) (t : Text) (whole made pushed : List Outline) (o : Outline)
    → i < length texts → t ≡ get_or texts i t
    → whole ≡ made ++ outlines_from links targets i (drop i texts)
    → o ≡ outline_of links targets i t
    → pushed ≡ made ++ o ∷ []
    → whole ≡ pushed ++ outlines_from links targets (i + 1) (drop (i + 1) texts)
outlines_more links targets texts i t whole made pushed o within is before here there =
    let split : drop i texts ≡ t ∷ drop (i + 1) texts = rw add-one (drop-cons texts i t within ∙ ap (λ (y : Text). y ∷ drop (suc i) texts) (sym is)) in
    let rest : List Outline = outlines_from links targets (i + 1) (drop (i + 1) texts) in
    let next : outlines_from links targets i (drop i texts) ≡ o ∷ rest =
    ap (outlines_from links targets i) split ∙ rw add-one (ap (λ (z : Outline). z ∷ outlines_from links targets (suc i) (drop (suc i) texts)) (sym here)) in
    before ∙ ap (λ (os : List Outline). made ++ os) next ∙ sym (append_assoc made (o ∷ []) rest) ∙ ap (λ (os : List Outline). os ++ rest) (sym there)
