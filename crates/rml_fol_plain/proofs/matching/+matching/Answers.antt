use Rattle.std.proofs.Common.{◌≡◌, ◌+◌, map, drop, sym, ap, ◌∙◌, arith}
use Rattle.rml_value.specs.declared.value.Value.{Value}
use Rattle.rml_terms.specs.declared.state.Matched.TheVariants.{Yes}
use Rattle.rml_terms.specs.Matching.{Matcher, match_list, match_chain}
use Rattle.rml_fol.specs.Patterns.{matching}
use Rattle.rml_evaluation.specs.Lists.{head_of}
use Rattle.rml_evaluation.proofs.Callers.{list_turn, chain_turn, head_matched}
use Rattle.rml_fol_plain.proofs.matching.+matching.Goals as goal

pub match_list-loop-pattern-preserved : goal.match_list-loop-pattern-preserved
match_list-loop-pattern-preserved t c =
    let f = matching in
    let i = c.loop-pattern.pattern-index in
    let p = c.pattern-item.result in
    let r = c.loop-pattern.rest.now in
    let env = c.loop-pattern.env in
    let next : Matcher = match_list (map f (drop (i + 1) c.args.patterns.now)) in
    let gives : f p (head_of r) env ≡ Yes c.in-Yes.next =
    ap (λ (x : Value). f p x env) (sym c.head.ensures) ∙ sym c.in_ok-next-in-HeadAndTail.ensures ∙ c.in-Yes.is in
    c.loop-pattern.invariant
    ∙ list_turn f c.args.patterns.now i p r env c.pattern-item.is (omega arith)
    ∙ head_matched (f p) next r env c.in-Yes.next (sym c.parts.ensures ∙ c.in-HeadAndTail.is) gives
    ∙ ap (λ (x : Value). next x c.in-Yes.next) (sym c.tail-rest.ensures)

pub match_chain-loop-i-preserved : goal.match_chain-loop-i-preserved
match_chain-loop-i-preserved t c =
    let f = matching in
    let i = c.loop-i.i in
    let p = c.index-patterns-i.result in
    let r = c.loop-i.rest.now in
    let env = c.loop-i.env in
    let next : Matcher = match_chain (map f (drop (i + 1) c.args.patterns.now)) in
    let gives : f p (head_of r) env ≡ Yes c.in-Yes.next =
    ap (λ (x : Value). f p x env) (sym c.head.ensures) ∙ sym c.in_ok-next-in-HeadAndTail.ensures ∙ c.in-Yes.is in
    c.loop-i.invariant
    ∙ chain_turn f c.args.patterns.now i p r env c.index-patterns-i.is (omega arith)
    ∙ head_matched (f p) next r env c.in-Yes.next (sym c.parts.ensures ∙ c.in-HeadAndTail.is) gives
    ∙ ap (λ (x : Value). next x c.in-Yes.next) (sym c.tail-rest.ensures)
