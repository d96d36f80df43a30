use Rattle.rml_faults.proofs.Joined.{joined}
use Rattle.rml_faults.proofs.faults.fault_in.Goals as goal

pub returns : goal.returns
returns c = joined c.args._names.now c.args._files.now c.args.texts.now c.args.set.now c.deref.result.now c.in_ok-least.least c.requires.set c.deref.ensures.value c.in_ok-least.ensures.none c.in_ok-least.ensures.least
