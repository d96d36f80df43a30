-- What the pass asks of a program beyond the facts that it keeps. Both follow where the program is typed.
use Rattle.std.specs.Prelude.{IsTrue}
use Rattle.rml_base.specs.Light.{NoWrong}
use Rattle.rml_resolved.specs.declared.program.Program.{Program}
use Rattle.rml_search.specs.Runs.{runs_of}
use Rattle.rml_clauses.specs.Agrees.{counts_agree}

pub record HasMeaning (p : Program) : Type 0 where
  -- no search comes to what has no meaning
  pub never_wrong : NoWrong (runs_of p)
  -- rules and calls agree on how many values relations take and give
  pub agrees : IsTrue (counts_agree p)
