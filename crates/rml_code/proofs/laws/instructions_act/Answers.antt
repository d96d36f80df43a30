use Rattle.rml_code.proofs.ByInstruction.{by-Move, by-Word, by-Const, by-Field, by-Con, by-Tuple, by-Cons, by-Save, by-Guard, by-Resume, by-Retry, by-Drop, by-Builtin, by-Equal, by-Switch, by-Goto, by-Call, by-CallRegister, by-Answer, by-Fail, by-Yes, by-Integer, by-No}
use Rattle.rml_code.proofs.laws.instructions_act.Goals as goal

pub returns : goal.returns
returns c = record {
  moves = by-Move;
  words = by-Word;
  constants = by-Const;
  fields = by-Field;
  constructors = by-Con;
  tuples = by-Tuple;
  lists = by-Cons;
  saves = by-Save;
  guards = by-Guard;
  resumes = by-Resume;
  retries = by-Retry;
  drops = by-Drop;
  built_ins = by-Builtin;
  equals = by-Equal;
  choices = by-Switch;
  gotos = by-Goto;
  calls = by-Call;
  calls_of_values = by-CallRegister;
  answers = by-Answer;
  fails = by-Fail;
  yes = by-Yes;
  integers = by-Integer;
  no = by-No;
}
