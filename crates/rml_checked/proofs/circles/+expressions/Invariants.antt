use Rattle.std.proofs.Common.{◌≡◌, ◌++◌, map, drop}
use Rattle.std.specs.List.{concat}
use Rattle.rml_resolved.specs.Circles.{vals_in}
use Rattle.rml_checked.proofs.circles.+expressions.Given as goal

abbrev pub invariant-with_all_vals-loop-exp : goal.invariant-with_all_vals-loop-exp
invariant-with_all_vals-loop-exp l = l.fn.all ++ concat (map vals_in l.exps) ≡ l.all ++ concat (map vals_in (drop l.exp-index l.exps))
