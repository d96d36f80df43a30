use Rattle.rml_fol.specs.Acts.{acts-Match, acts-Set, acts-Call, acts-Builtin, acts-Equal, acts-Not, acts-Or, acts-Cond, acts-Switch, acts-Body, acts-Goto, acts-Give, acts-Fail}
use Rattle.rml_fol.proofs.laws.statements_act.Goals as goal

pub returns : goal.returns
returns c = record {
  matches = acts-Match;
  sets = acts-Set;
  calls = acts-Call;
  built_ins = acts-Builtin;
  equals = acts-Equal;
  nots = acts-Not;
  ors = acts-Or;
  conds = acts-Cond;
  switches = acts-Switch;
  bodies = acts-Body;
  gotos = acts-Goto;
  gives = acts-Give;
  fails = acts-Fail;
}
