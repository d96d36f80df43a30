use Rattle.rml_tocps.proofs.Passing.{before-none, before-more, before-passes, set-before, equal-before, built-in-before, call-before}
use Rattle.rml_tocps.proofs.Choices.{not-before}
use Rattle.rml_tocps.proofs.Patterns.{match-before}
use Rattle.rml_tocps.proofs.made.made_statements_go_before.Goals as goal

pub returns : goal.returns
returns c = record {
  none = before-none;
  more = before-more;
  blocks = before-passes;
  sets = set-before;
  equals = equal-before;
  built_ins = built-in-before;
  calls = call-before;
  matches = match-before;
  nots = not-before;
}
