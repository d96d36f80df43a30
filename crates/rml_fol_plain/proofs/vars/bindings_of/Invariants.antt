use Rattle.std.proofs.Common.{◌≡◌, ◌++◌, drop, option_map}
use Rattle.rml_fol.specs.Statements.{bindings_of}
use Rattle.rml_fol_plain.proofs.vars.bindings_of.Given as goal

abbrev pub invariant-loop-x : goal.invariant-loop-x
invariant-loop-x l = bindings_of l.xs l.env ≡ option_map (λ rest. l.all ++ rest) (bindings_of (drop l.x-index l.xs) l.env)
