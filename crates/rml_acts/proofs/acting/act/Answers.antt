use Rattle.std.proofs.Common.{rules, sym, subst}
use Rattle.rml_trail.specs.TrailState.{Fits}
use Rattle.rml_code.specs.declared.state.State.{State}
use Rattle.rml_acts.specs.Kept.{IsQuiet}
use Rattle.rml_acts.proofs.Keeping.{plain}
use Rattle.rml_acts.proofs.acting.act.Goals as goal

pub returns-in_default : goal.returns-in_default
returns-in_default c =
    let quiet : IsQuiet c.args.instr.now = search rules in
    let after = plain c.args.instr.now c.args.state.now quiet c.requires.fits in
    record {
      next = c.act_quietly.ensures.next;
      state = c.act_quietly.ensures.state;
      fits = subst (λ (s : State). Fits s.trail s.heap) (sym c.act_quietly.ensures.state) after.kept.fits;
    }
