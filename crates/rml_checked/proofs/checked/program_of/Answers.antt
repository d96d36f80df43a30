use Rattle.std.proofs.Common.{IsTrue, rules}
use Rattle.rml_resolved.specs.Whole.{is_program}
use Rattle.rml_resolved.proofs.Callers.{facts}
use Rattle.rml_checked.proofs.checked.program_of.Goals as goal

pub of-requires : goal.of-requires
of-requires c = (let whole : IsTrue (is_program c.args.parts) = search rules in facts c.args.parts whole)
