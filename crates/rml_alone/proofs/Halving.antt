-- The parts of a rule are its premises and two more; and of no parts all can be typed.
use Rattle.std.proofs.Common.{◌≡◌, ℕ, ◌+◌, Bool, false, IsTrue, List, [], ◌∷◌, ◌++◌, length, map, refl, sym, ap, subst, ◌∙◌, arith, length-append}
use Rattle.std.proofs.lemmas.List.{length-map}
use Rattle.std.proofs.lemmas.List.Elements.{All-nil}
use Rattle.rml_types.specs.Schemes.{unit}
use Rattle.rml_resolved.specs.declared.tables.RRule.{RRule}
use Rattle.rml_resolved.specs.declared.trees.RGoal.{RGoal}
use Rattle.rml_typed.specs.Parts.{RelType, PieceOf, pieces, premise, results}
use Rattle.rml_alone.specs.declared.text.Text.{Text}
use Rattle.rml_alone.specs.Texts.{FirstTypedAlone, reads, uses}

pub pieces-length : (rule : RRule) (goals : List RGoal) → goals ≡ rule.goals → length (pieces rule) ≡ length goals + 2
pieces-length rule goals is =
    let a : length (map premise rule.goals ++ results rule.results ∷ []) ≡ length (map premise rule.goals) + 1 = length-append (map premise rule.goals) (results rule.results ∷ []) in
    let b : length (map premise rule.goals) ≡ length rule.goals = length-map rule.goals premise in
    let e : length goals ≡ length rule.goals = ap (λ (l : List RGoal). length l) is in
    omega arith

pub at-whole : (t : Text) (k : RelType) (rule : RRule) (goals : List RGoal) (n : ℕ) → goals ≡ rule.goals → n ≡ length goals + 2 → FirstTypedAlone t k rule n → FirstTypedAlone t k rule (length (pieces rule))
at-whole t k rule goals n is many h = subst (FirstTypedAlone t k rule) (many ∙ sym (pieces-length rule goals is)) h

pub of-none : (t : Text) (k : RelType) (rule : RRule) → FirstTypedAlone t k rule 0
of-none t k rule = (λ x. unit, λ x le. refl, All-nil (PieceOf (reads t) (uses t) k (λ x. unit)))

pub not-both : (b : Bool) → IsTrue b → b ≡ false → ⊥
not-both b e f = cc
