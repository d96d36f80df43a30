-- Counts of values that are told by code.
use Rattle.std.proofs.Common.{◌≡◌, ℕ, Bool, false, List, None, sym, ap, ◌∙◌}
use Rattle.std.specs.Prelude.{slice_get, option_map}
use Rattle.std.specs.List.{list_all}
use Rattle.std.proofs.lemmas.List.Folds.{list_all-map}
use Rattle.std.proofs.lemmas.Option.{slice_get-map}
use Rattle.rml_resolved.specs.declared.trees.RGoal.{RGoal, fold-roll-RGoal}
use Rattle.rml_resolved.specs.declared.trees.RGoal.TheOpen.{RGoal-F}
use Rattle.rml_resolved.specs.declared.trees.RGoal.TheVariants as goal
use Rattle.rml_resolved.specs.declared.tables.RelDef.{RelDef}
use Rattle.rml_fol.specs.Fits.{Signature, takes_and_gives}
use Rattle.rml_clauses.specs.Agrees.{shape, shapes_of, goal_agrees_at, goal_agrees}

pub relation-absent : (rels : List RelDef) (number taken given : ℕ) → slice_get rels number ≡ None → false ≡ takes_and_gives taken given (slice_get (shapes_of rels) number)
relation-absent rels number taken given is = sym (ap (takes_and_gives taken given) (slice_get-map shape rels number ∙ ap (option_map shape) is))

-- goals in brackets
pub all-told : (shapes : List Signature) (g : RGoal) (gs seen : List RGoal) (b : Bool) → g ≡ goal.All gs → seen ≡ gs → b ≡ list_all (goal_agrees shapes) seen → b ≡ goal_agrees shapes g
all-told shapes g gs seen b is same told =
    told ∙ ap (λ (xs : List RGoal). list_all (goal_agrees shapes) xs) same ∙ sym (list_all-map (λ (x : Bool). x) (goal_agrees shapes) gs)
    ∙ sym (ap (goal_agrees shapes) (is ∙ sym (goal.rolls-All gs)) ∙ fold-roll-RGoal Bool (goal_agrees_at shapes) (RGoal-F.All gs))
