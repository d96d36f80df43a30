use Rattle.std.proofs.Common.{◌≡◌, take}
use Rattle.rml_terms.specs.Env.{values_in}
use Rattle.rml_fol_plain.proofs.vars.values_in.Given as goal

abbrev pub invariant-loop-bound : goal.invariant-loop-bound
invariant-loop-bound l = l.all ≡ values_in (take l.bound-index l.env)
