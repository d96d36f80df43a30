use Rattle.std.proofs.Common.{◌≡◌, ℕ, List, subst, sym, ◌∙◌, length}
use Rattle.std.proofs.lemmas.List.{with_items_is}
use Rattle.rml_reach.specs.Paths.{HasEdge}
use Rattle.rml_reach.specs.Turned.{IsTurned}
use Rattle.rml_reach.proofs.turned.turn_all.Goals as goal

pub turn_each-requires-clause-none : goal.turn_each-requires-clause-none
turn_each-requires-clause-none c a b h = c.in_ok-turned.ensures.none a b (subst (λ (edges : List (List ℕ)). HasEdge edges a b) c.as_mut_slice.ensures.value h)

pub returns-clause-turned : goal.returns-clause-turned
returns-clause-turned c =
    let kept : length c.turn_each.new.turned ≡ c.in_ok-turned.turned.len = c.turn_each.auto.turned ∙ c.as_mut_slice.ensures.len in
    subst (λ (turned : List (List ℕ)). IsTurned c.args.edges.now turned) (sym (with_items_is c.in_ok-turned.turned c.turn_each.new.turned kept)) c.in_ok-turn_each.ensures
