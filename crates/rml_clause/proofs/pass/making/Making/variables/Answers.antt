use Rattle.std.proofs.Common.{◌+◌, [], ◌∷◌, ◌++◌, sym, ap, ◌∙◌, arith}
use Rattle.rml_clause.specs.Plain.{numbers_from}
use Rattle.rml_clause.proofs.Adding.{numbers-both}
use Rattle.rml_clause.proofs.pass.making.Making.variables.Goals as goal

pub loop-received-preserved : goal.loop-received-preserved
loop-received-preserved c =
    let value = c.variable-variable.ensures.value ∙ c.loop-received.invariant.next in
    record {
      values =
          c.in_ok-push.ensures.ok ∙ ap (λ z. z ++ c.variable-variable.result ∷ []) c.loop-received.invariant.values
          ∙ ap (λ y. numbers_from c.args.self.now.next c.loop-received._received ++ y ∷ []) value ∙ sym (numbers-both c.args.self.now.next c.loop-received._received 1);
      next = omega (arith, c.variable-variable.ensures.next, c.loop-received.invariant.next);
      stmts = c.variable-variable.ensures.stmts ∙ c.loop-received.invariant.stmts;
    }
