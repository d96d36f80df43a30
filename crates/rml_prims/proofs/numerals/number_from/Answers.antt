use Rattle.std.proofs.Common.{◌≡◌, ◌<◌, ◌≤◌, [], ◌∷◌, Some, length, ap, sym, ◌∙◌, arith}
use Rattle.rml_builtin.specs.Capped.{capped}
use Rattle.rml_builtin.specs.Decimal.{number_after}
use Rattle.rml_builtin.proofs.Callers.{capped-le, digits-begin, digits-end, none-after, some-after}
use Rattle.rml_prims.proofs.numerals.number_from.Goals as goal

pub loop-i-init : goal.loop-i-init
loop-i-init c = record {
  small = omega arith;
  whole = λ d bytes text.
      let inside : c.args.first < length bytes = let long = text.long in let is = c.if-first-text.false in omega (arith, long, is) in
      ap capped (digits-begin c.args.first bytes inside);
}

pub returns-in_err-n-clause-number : goal.returns-in_err-n-clause-number
returns-in_err-n-clause-number c = λ d bytes text.
    let inside : c.loop-i.i < length bytes = let long = text.long in let is = c.loop-i-test.true in omega (arith, long, is) in
    c.from_residual.ensures
    ∙ sym (c.loop-i.invariant.whole d bytes text ∙ none-after c.loop-i.n c.loop-i.i c.byte_at.result bytes inside (c.byte_at.ensures d bytes text) (sym c.digit_after.ensures ∙ c.in_err-n.was))

pub loop-i-preserved : goal.loop-i-preserved
loop-i-preserved c =
    let more : capped (number_after c.loop-i.n (c.byte_at.result ∷ [])) ≡ Some c.in_ok-n.n = sym c.digit_after.ensures ∙ c.in_ok-n.was in
    record {
      small = capped-le (number_after c.loop-i.n (c.byte_at.result ∷ [])) c.in_ok-n.n more;
      whole = λ d bytes text.
          let inside : c.loop-i.i < length bytes = let long = text.long in let is = c.loop-i-test.true in omega (arith, long, is) in
          c.loop-i.invariant.whole d bytes text ∙ some-after c.loop-i.n c.loop-i.i c.byte_at.result c.in_ok-n.n bytes inside (c.byte_at.ensures d bytes text) more;
    }

pub returns-clause-number : goal.returns-clause-number
returns-clause-number c = λ d bytes text.
    let past : length bytes ≤ c.loop-i.i = let long = text.long in let is = c.loop-i-test.false in omega (arith, long, is) in
    sym (c.loop-i.invariant.whole d bytes text ∙ digits-end c.loop-i.n c.loop-i.i bytes past c.loop-i.invariant.small)
