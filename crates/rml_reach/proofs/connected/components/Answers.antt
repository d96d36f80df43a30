use Rattle.std.proofs.Common.{◌≡◌, ◌<◌, ◌∙◌, ℕ, List, ap, length, sym, map, subst}
use Rattle.std.specs.Prelude.{slice_index}
use Rattle.std.proofs.lemmas.List.{length-map}
use Rattle.rml_reach.specs.Components.{number_of}
use Rattle.rml_reach.specs.Paths.{AreConnected}
use Rattle.rml_reach.specs.declared.connected.Mark.{Mark}
use Rattle.rml_reach.proofs.Ends.{chosen-for, connected-number, same-number}
use Rattle.rml_reach.proofs.connected.components.Goals as goal

numbers : (c : goal.After-drop-walk-5) → map number_of c.in_ok-walk.walk.marks.items ≡ c.in_ok-chosen.chosen.items
numbers c = sym (c.in_ok-chosen.ensures ∙ ap (λ (ms : List Mark). map number_of ms) c.as_slice.ensures.value)

pub returns-clause-count : goal.returns-clause-count
returns-clause-count c = sym (ap (λ (ns : List ℕ). length ns) (numbers c)) ∙ length-map c.in_ok-walk.walk.marks.items number_of ∙ c.in_ok-walk.ensures.way.count

pub returns-clause-chosen : goal.returns-clause-chosen
returns-clause-chosen c = subst (λ (ns : List ℕ). (n : ℕ) → n < length c.args.edges.now → AreConnected c.args.edges.now n (slice_index ns n)) (numbers c)
    (chosen-for c.args.edges.now c.in_ok-walk.walk.marks.items c.in_ok-walk.ensures.way.settled c.in_ok-walk.ensures.done)

pub returns-clause-same : goal.returns-clause-same
returns-clause-same c n m lt lt' = subst (λ (ns : List ℕ). (slice_index ns n ≡ slice_index ns m → AreConnected c.args.edges.now n m) × (AreConnected c.args.edges.now n m → slice_index ns n ≡ slice_index ns m)) (numbers c) (
  same-number c.args.edges.now c.in_ok-walk.walk.marks.items c.in_ok-walk.ensures.way.settled c.in_ok-walk.ensures.done n m lt lt',
  connected-number c.args.edges.now c.in_ok-walk.walk.marks.items c.in_ok-walk.ensures.way.settled c.in_ok-walk.ensures.done n m lt lt',
)
