use Rattle.std.proofs.Common.{◌≡◌, drop}
use Rattle.rml_fol.specs.Statements.{bind_all}
use Rattle.rml_fol_plain.proofs.vars.bind_all.Given as goal

abbrev pub invariant-loop-i : goal.invariant-loop-i
invariant-loop-i l = bind_all l.xs l.values l.fn.env ≡ bind_all (drop l.i l.xs) (drop l.i l.values) l.env
