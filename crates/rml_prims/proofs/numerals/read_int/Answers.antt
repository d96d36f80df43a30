use Rattle.std.proofs.Common.{◌≡◌, ◌<◌, Bool, length, get_or, drop, ap, sym, ◌∙◌, arith}
use Rattle.std.specs.Prelude.{if◌then◌else◌, option_map, option_and_then}
use Rattle.rml_builtin.specs.Decimal.{integer_of, is_minus, natural_of, with_sign}
use Rattle.rml_prims.proofs.ReadNumerals.{read-by-sign}
use Rattle.rml_prims.proofs.numerals.read_int.Goals as goal
use Rattle.rml_prims.proofs.numerals.read_int.Goals.{then-minus, else-minus}

pub returns : goal.returns
returns c = λ d bytes text.
    let minus : Bool = c.is_minus-minus.result in
    let some : 0 < length bytes = let long = text.long in let is = c.if-text-eq0.false in omega (arith, long, is) in
    let sign : minus ≡ is_minus (get_or bytes 0 0) = c.is_minus-minus.ensures ∙ ap is_minus (c.byte_at.ensures d bytes text) in
    let first : c.if-minus.first ≡ (if minus then 1 else 0) = elim c.if-minus.branch [
      | then-minus w ↦ w.first-is ∙ ap (λ b. if b then 1 else 0) (sym w.if-minus.true)
      | else-minus w ↦ w.first-is ∙ ap (λ b. if b then 1 else 0) (sym w.if-minus.false)
    ] in
    c.signed_integer.ensures (natural_of (drop c.if-minus.first bytes)) (c.number_from.ensures.number d bytes text)
    ∙ ap (λ n. option_and_then integer_of (option_map (with_sign minus) (natural_of (drop n bytes)))) first
    ∙ sym (read-by-sign bytes some minus sign)
