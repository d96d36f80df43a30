use Rattle.rml_cps.specs.Acts.{acts-Set, acts-Field, acts-Builtin, acts-Equal, acts-Success, acts-Failure, acts-Body, acts-Call, acts-Answer, acts-Fail, acts-Goto, acts-Switch}
use Rattle.rml_cps.proofs.laws.statements_act.Goals as goal

pub returns : goal.returns
returns c = record {
  sets = acts-Set;
  fields = acts-Field;
  built_ins = acts-Builtin;
  equals = acts-Equal;
  successes = acts-Success;
  failures = acts-Failure;
  bodies = acts-Body;
  calls = acts-Call;
  answers = acts-Answer;
  fails = acts-Fail;
  gotos = acts-Goto;
  switches = acts-Switch;
}
