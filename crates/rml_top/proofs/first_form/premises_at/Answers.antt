use Rattle.std.proofs.Common.{◌≡◌, ◌∙◌, sym, ap, true, false, Some, None, arith, refl, codes}
use Rattle.std.specs.Option.{option_map}
use Rattle.std.proofs.lemmas.List.{map-append, length-map}
use Rattle.rml_top.specs.FirstForm.{spelled, shown}
use Rattle.rml_top.specs.Matching.{next_is}
use Rattle.rml_top.proofs.Reading.{goes-nothing, goes-fails, goes-ends, goes-on, goes-past, read-at, rest-place, premise_at-takes}
use Rattle.rml_top.proofs.first_form.premises_at.Goals as goal

pub loop-at-init : goal.loop-at-init
loop-at-init c = rw c.new-literals.ensures.items (goes-nothing (spelled c.args.tokens.now))

pub returns-in_default : goal.returns-in_default
returns-in_default c =
    let read = read-at c.args.tokens.now _ c.loop-at.at None c.split_at.ensures.back (ap (λ x. option_map shown x) (sym c.in_default.is) ∙ c.premise_at.ensures) in
    sym (goes-fails (spelled c.args.tokens.now) (spelled c.loop-at.literals.items) c.loop-at.at c.loop-at.invariant (rw length-map c.loop-at-test.true) read)

pub overflow_sub-at : goal.overflow_sub-at
overflow_sub-at c =
    let read = read-at c.args.tokens.now _ c.loop-at.at (Some (c.in-Some.literal.now, spelled c.in-Some.rest.now)) c.split_at.ensures.back (ap (λ x. option_map shown x) (sym c.in-Some.is) ∙ c.premise_at.ensures) in
    let takes = premise_at-takes _ _ read in
    let place = rest-place (spelled c.args.tokens.now) (spelled c.in-Some.rest.now) c.loop-at.at c.loop-at.invariant.within takes in
    let fits = rw (length-map, length-map) at place.1 in
    fits

pub returns : goal.returns
returns c = sym (goes-past (spelled c.args.tokens.now) (spelled c.loop-at.literals.items) c.loop-at.at c.loop-at.invariant (rw length-map c.loop-at-test.false))

pub returns-then-not-next_is : goal.returns-then-not-next_is
returns-then-not-next_is c =
    let read = read-at c.args.tokens.now _ c.loop-at.at (Some (c.in-Some.literal.now, spelled c.in-Some.rest.now)) c.split_at.ensures.back (ap (λ x. option_map shown x) (sym c.in-Some.is) ∙ c.premise_at.ensures) in
    let last : next_is (codes "&") (spelled c.in-Some.rest.now) ≡ false = sym c.next_is.ensures ∙ c.if-not-next_is.true in
    let pushed = c.in_ok-push.ensures.items in
    sym (goes-ends (spelled c.args.tokens.now) (spelled c.loop-at.literals.items) c.loop-at.at _ _ c.loop-at.invariant (rw length-map c.loop-at-test.true) read last ∙ rw (pushed, map-append) refl)

pub loop-at-smaller : goal.loop-at-smaller
loop-at-smaller c =
    let read = read-at c.args.tokens.now _ c.loop-at.at (Some (c.in-Some.literal.now, spelled c.in-Some.rest.now)) c.split_at.ensures.back (ap (λ x. option_map shown x) (sym c.in-Some.is) ∙ c.premise_at.ensures) in
    let place = rest-place (spelled c.args.tokens.now) (spelled c.in-Some.rest.now) c.loop-at.at c.loop-at.invariant.within (premise_at-takes _ _ read) in
    let nearer = simp length-map at place.0 in
    let test = c.loop-at-test.true in
    omega arith

pub loop-at-preserved : goal.loop-at-preserved
loop-at-preserved c =
    let read = read-at c.args.tokens.now _ c.loop-at.at (Some (c.in-Some.literal.now, spelled c.in-Some.rest.now)) c.split_at.ensures.back (ap (λ x. option_map shown x) (sym c.in-Some.is) ∙ c.premise_at.ensures) in
    let more : next_is (codes "&") (spelled c.in-Some.rest.now) ≡ true = sym c.next_is.ensures ∙ c.if-not-next_is.false in
    let next = goes-on (spelled c.args.tokens.now) (spelled c.loop-at.literals.items) c.loop-at.at _ _ c.loop-at.invariant (rw length-map c.loop-at-test.true) read more in
    let pushed = c.in_ok-push.ensures.items in
    rw (pushed, map-append) (simp length-map at next)
