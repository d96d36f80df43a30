use Rattle.std.proofs.Common.{sym, ap, ◌∙◌, ◌≡◌, List, ℕ, Bool, true, false, codes}
use Rattle.std.specs.Str.{bytes_eq}
use Rattle.rml_words.proofs.Held.{these-arguments, long-arguments, no-dashes}
use Rattle.rml_words.proofs.files.arguments.Goals as goal
use Rattle.rml_words.proofs.files.arguments.Goals.{else-eq-via-then-eq+else-are_arguments, else-eq-via-else-eq}

test-is : (t w : List ℕ) (r v : Bool) → t ≡ w → r ≡ bytes_eq t (codes "--") → r ≡ v → bytes_eq w (codes "--") ≡ v
test-is t w r v is same e = ap (λ x. bytes_eq x (codes "--")) (sym is) ∙ sym same ∙ e

pub returns-then-are_arguments : goal.returns-then-are_arguments
returns-then-are_arguments c =
    let dashes = test-is _ _ _ true c.as_str.ensures.value c.eq.ensures c.if-eq.true in
    rw (c.in-Some.ensures.cases.0) (these-arguments c.in-Some.dashes.now c.in-Some.rest.now dashes (sym c.are_arguments.ensures ∙ c.if-are_arguments.true))

pub returns-else-eq : goal.returns-else-eq
returns-else-eq c = rw (c.in-Some.ensures.cases.0) (elim c.else-eq.branch [
  | else-eq-via-then-eq+else-are_arguments w ↦ long-arguments c.in-Some.dashes.now c.in-Some.rest.now (test-is _ _ _ true c.as_str.ensures.value c.eq.ensures w.if-eq.true) (sym w.are_arguments.ensures ∙ w.if-are_arguments.false)
  | else-eq-via-else-eq w ↦ no-dashes c.in-Some.dashes.now c.in-Some.rest.now (test-is _ _ _ false c.as_str.ensures.value c.eq.ensures w.if-eq.false)
])
