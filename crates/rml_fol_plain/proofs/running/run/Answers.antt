use Rattle.std.proofs.Common.{ap, sym, ◌∙◌}
use Rattle.rml_base.specs.Run.{seen}
use Rattle.rml_simulation.specs.declared.partial.Trace.{Trace}
use Rattle.rml_simulation.specs.declared.partial.Partial.{Partial}
use Rattle.rml_simulation.specs.Partial.{trace_of}
use Rattle.rml_builtin.specs.declared.applied.Answer.{Answer}
use Rattle.rml_fol.specs.Expressions.{values_of_vals}
use Rattle.rml_fol.specs.Runs.{main_called, run_from}
use Rattle.rml_fol_plain.proofs.Ends.{text_of_run, made_of_run, weighed_of_run}
use Rattle.rml_fol_plain.proofs.running.run.Goals as goal

pub returns-clause-outcome : goal.returns-clause-outcome
returns-clause-outcome c = c.outcome-outcome.ensures ∙ ap (λ (w : Partial Answer). seen (run_from w).outcome) c.in_ok-part.ensures

pub returns-clause-text : goal.returns-clause-text
returns-clause-text c =
    let p = c.args.parts.now in
    c.in_ok-text.ensures.items ∙ c.as_slice.ensures ∙ ap (λ (t : Trace). t.text) (c.trace-trace.ensures ∙ ap trace_of c.in_ok-part.ensures)
    ∙ sym (text_of_run (main_called (values_of_vals p.vals) p.rels p.main c.args.args.now c.args.n))

pub returns-clause-made : goal.returns-clause-made
returns-clause-made c =
    let p = c.args.parts.now in
    ap (λ (t : Trace). t.made) (c.trace-trace.ensures ∙ ap trace_of c.in_ok-part.ensures) ∙ sym (made_of_run (main_called (values_of_vals p.vals) p.rels p.main c.args.args.now c.args.n))

pub returns-clause-weighed : goal.returns-clause-weighed
returns-clause-weighed c =
    let p = c.args.parts.now in
    ap (λ (t : Trace). t.weighed) (c.trace-trace.ensures ∙ ap trace_of c.in_ok-part.ensures) ∙ sym (weighed_of_run (main_called (values_of_vals p.vals) p.rels p.main c.args.args.now c.args.n))
