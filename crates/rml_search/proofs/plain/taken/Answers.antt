use Rattle.std.proofs.Common.{ap, ◌∙◌}
use Rattle.rml_terms.specs.declared.state.Matched.{Matched}
use Rattle.rml_search.specs.Search.{from_match}
use Rattle.rml_search.proofs.plain.taken.Goals as goal

pub returns : goal.returns
returns c =
    let outcome = rw c.as_slice.ensures at c.in_ok-outcome.ensures in
    c.matched.ensures ∙ ap (λ (m : Matched). from_match m c.args.given.store c.args.n) outcome
