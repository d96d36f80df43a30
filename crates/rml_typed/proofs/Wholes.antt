-- A rule is typed where its head, its premises and its results are, by the same types.
use Rattle.std.proofs.Common.{List, [], ◌∷◌, map, length}
use Rattle.std.specs.Prelude.{All}
use Rattle.std.proofs.lemmas.List.Elements.{All-append, All-cons, All-nil, All-take}
use Rattle.rml_resolved.specs.declared.tables.RRule.{RRule}
use Rattle.rml_resolved.specs.declared.trees.RGoal.{RGoal}
use Rattle.rml_typed.specs.Typed.{Assigned, Declared, Uses, PatternsOf, ExpsOf, GoalsOf}
use Rattle.rml_typed.specs.Parts.{RelType, head, premise, results, pieces, PieceOf, RuleTyped}

module _ (d : Declared) (uses : Uses) (k : RelType) (G : Assigned) where
  premises-typed : (gs : List RGoal) → GoalsOf d uses G gs → All (PieceOf d uses k G) (map premise gs)
  premises-typed gs GoalsOf.none = All-nil (PieceOf d uses k G)
  premises-typed gs (GoalsOf.more g hs h j) = All-cons (PieceOf d uses k G) (premise g) (map premise hs) h (premises-typed hs j)

  pub rule-typed : (rule : RRule) → PatternsOf d G rule.inputs k.inputs → GoalsOf d uses G rule.goals → ExpsOf d uses G rule.results k.outputs → RuleTyped d uses k rule
  rule-typed rule ins goals outs = (
    G,
    All-take (PieceOf d uses k G) (length (pieces rule)) (pieces rule)
        (All-append (PieceOf d uses k G) (head rule.inputs ∷ map premise rule.goals) (results rule.results ∷ [])
        (All-cons (PieceOf d uses k G) (head rule.inputs) (map premise rule.goals) ins (premises-typed rule.goals goals))
        (All-cons (PieceOf d uses k G) (results rule.results) [] outs (All-nil (PieceOf d uses k G)))),
  )
