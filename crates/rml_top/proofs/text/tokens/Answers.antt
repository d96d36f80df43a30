use Rattle.std.proofs.Common.{◌∙◌, sym, arith}
use Rattle.std.proofs.lemmas.List.{map-append}
use Rattle.rml_top.proofs.Pieces.{no-tokens, no-piece-there, nonempty, read-blank, read-token, rest-shorter}
use Rattle.rml_top.proofs.text.tokens.Goals as goal

pub next_piece-requires : goal.next_piece-requires
next_piece-requires c = let s = rest-shorter c.args.bytes.now _ _ c.loop-rest.invariant in let r = c.requires in omega arith

pub returns-in_default-clause-only : goal.returns-in_default-clause-only
returns-in_default-clause-only c = no-piece-there c.args.bytes.now _ _ c.loop-rest.invariant (nonempty _ c.loop-rest-test.ensures) c.in_default.ensures

pub returns-then-is_refused-clause-only : goal.returns-then-is_refused-clause-only
returns-then-is_refused-clause-only c =
    no-tokens c.args.bytes.now _ _ _ _ c.loop-rest.invariant (nonempty _ c.loop-rest-test.ensures) c.in-Some.ensures (sym c.is_refused.ensures ∙ c.if-is_refused.true)

pub loop-rest-preserved-in_ok-push : goal.loop-rest-preserved-in_ok-push
loop-rest-preserved-in_ok-push c =
    let next = read-token c.args.bytes.now _ _ _ _ c.loop-rest.invariant c.in-Some.ensures (sym c.is_refused.ensures ∙ c.if-is_refused.false) (sym c.is_blank.ensures ∙ c.if-not-is_blank.true) in
    let pushed = c.in_ok-push.ensures.items in
    rw (c.split_at.ensures.back, pushed, map-append, c.split_at.ensures.front) next

pub loop-rest-preserved : goal.loop-rest-preserved
loop-rest-preserved c =
    let next = read-blank c.args.bytes.now _ _ _ _ c.loop-rest.invariant c.in-Some.ensures (sym c.is_refused.ensures ∙ c.if-is_refused.false) (sym c.is_blank.ensures ∙ c.if-not-is_blank.false) in
    rw (c.split_at.ensures.back) next
