use Rattle.std.proofs.Common.{◌≡◌, ◌++◌, ◌∷◌, [], map, take, sym, ap, ◌∙◌}
use Rattle.std.proofs.lemmas.List.{map_more}
use Rattle.rml_conversion.specs.Tables.{relation_made}
use Rattle.rml_convert.proofs.relations.relations_of.Goals as goal

pub loop-clause-preserved : goal.loop-clause-preserved
loop-clause-preserved c =
    let done = map relation_made (take c.loop-clause.clause-index c.args.clauses.now) in
    c.in_ok-push.ensures.ok ∙ ap (λ z. z ++ c.in_ok-relation.relation ∷ []) c.loop-clause.invariant ∙ ap (λ z. done ++ z ∷ []) (c.in_ok-relation.ensures ∙ ap relation_made c.clause-item.is)
    ∙ sym (map_more relation_made c.args.clauses.now c.loop-clause.clause-index c.clause-item.result c.loop-clause-test.true)
