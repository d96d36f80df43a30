use Rattle.std.proofs.Common.{arith}
use Rattle.rml_words.proofs.Numbers.{few-digits, numeral-few}
use Rattle.rml_words.proofs.number.value_of.Goals as goal

pub overflow_mul-value : goal.overflow_mul-value
overflow_mul-value c =
    let few = numeral-few c.args.digits.now c.requires in
    let test = c.loop-digit-test.true in
    let small = few-digits c.loop-digit.value c.loop-digit.digit-index (omega arith) c.loop-digit.invariant.below in
    omega arith

pub overflow_add-value : goal.overflow_add-value
overflow_add-value c =
    let few = numeral-few c.args.digits.now c.requires in
    let test = c.loop-digit-test.true in
    let small = few-digits c.loop-digit.value c.loop-digit.digit-index (omega arith) c.loop-digit.invariant.below in
    let digit = c.type_inv.digits c.loop-digit.digit-index in
    let is = c.from.ensures in
    omega arith
