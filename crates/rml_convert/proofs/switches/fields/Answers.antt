use Rattle.std.proofs.Common.{◌≡◌, ℕ, ◌+◌, ◌-◌, ◌<◌, ◌≤◌, List, [], ◌∷◌, ◌++◌, length, get_or, take, ap, sym, ◌∙◌, arith}
use Rattle.std.proofs.lemmas.List.{take_more, length-take-le}
use Rattle.rml_cps.specs.declared.statements.Stmt.{Stmt}
use Rattle.rml_cps.specs.declared.statements.Stmt.TheVariants as line
use Rattle.rml_conversion.specs.Statements.{fields_made}
use Rattle.rml_convert.proofs.Lasts.{fields-last}
use Rattle.rml_convert.proofs.switches.fields.Goals as goal

-- one more field in front
field-turn : (x left : ℕ) (vars : List ℕ) (lines more : List Stmt) → 0 < left → left ≤ length vars → more ≡ lines ++ line.Field (get_or vars (left - 1) 0) x left ∷ [] → fields_made x 1 (take (left - 1) vars) more ≡ fields_made x 1 (take left vars) lines
field-turn x left vars lines more some within is =
    let count : 1 + length (take (left - 1) vars) ≡ left = omega (arith, length-take-le (left - 1) vars (omega arith)) in
    let next : left - 1 + 1 ≡ left = omega arith in
    ap (λ ls. fields_made x 1 (take (left - 1) vars) ls) is
    ∙ ap (λ k. fields_made x 1 (take (left - 1) vars) (lines ++ line.Field (get_or vars (left - 1) 0) x k ∷ [])) (sym count)
    ∙ sym (fields-last x 1 (take (left - 1) vars) (get_or vars (left - 1) 0) lines)
    ∙ ap (λ ys. fields_made x 1 ys lines) (sym (take_more vars (left - 1) 0 (omega arith)))
    ∙ ap (λ k. fields_made x 1 (take k vars) lines) next

pub loop-left-preserved : goal.loop-left-preserved
loop-left-preserved c = record {
  within = omega arith;
  made = field-turn c.args.x c.loop-left.left c.args.vars.now c.loop-left.made.items c.put.new.made.items c.loop-left-test.true c.loop-left.invariant.within c.in_ok-put.ensures ∙ c.loop-left.invariant.made;
}
