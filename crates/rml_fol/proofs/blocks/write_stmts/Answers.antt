use Rattle.std.proofs.Common.{◌++◌, sym, ap, ◌∙◌, append_assoc}
use Rattle.rml_fol.specs.Waiting.{waiting_lines, all_waiting_lines}
use Rattle.rml_fol.proofs.Waits.{next-is-written}
use Rattle.rml_fol.proofs.blocks.write_stmts.Goals as goal

pub loop-next-preserved : goal.loop-next-preserved
loop-next-preserved c =
    c.in_ok-write_next.ensures.lines ∙ append_assoc c.loop-next.out.items (waiting_lines c.args.parts.now c.in-Some.next) (all_waiting_lines c.args.parts.now c.pop.new.self.items)
    ∙ ap (λ z. c.loop-next.out.items ++ z) (sym (next-is-written c.args.parts.now c.pop.new.self.items c.in-Some.next))
    ∙ ap (λ ws. c.loop-next.out.items ++ all_waiting_lines c.args.parts.now ws) (sym c.in-Some.ensures.items) ∙ c.loop-next.invariant
