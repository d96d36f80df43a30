-- What a text names stands at its place among the links.
use Rattle.std.proofs.Common.{◌≡◌, ℕ, zero, suc, ◌<◌, List, [], ◌∷◌, length, get_or, sym, ap, arith}
use Rattle.rml_syntax.specs.declared.texts.Text.{Text}
use Rattle.rml_outlines.specs.Files.{Targets}
use Rattle.rml_outlines.specs.Outlines.{links_of, named_by}

pub links_at : (targets : Targets) (texts : List Text) (i : ℕ) (t : Text) → i < length texts → t ≡ get_or texts i t → get_or (links_of targets texts) i [] ≡ named_by targets t.uses
links_at targets [] i t lt e = absurd (omega arith)
links_at targets (u ∷ rest) zero t lt e = ap (λ (x : Text). named_by targets x.uses) (sym e)
links_at targets (u ∷ rest) (suc i) t lt e = links_at targets rest i t (omega arith) e
