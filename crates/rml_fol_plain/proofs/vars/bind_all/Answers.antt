use Rattle.std.proofs.Common.{sym, arith}
use Rattle.rml_fol_plain.proofs.Lengths.{bind_none}
use Rattle.rml_fol_plain.proofs.vars.bind_all.Goals as goal

pub returns-then-xs-values : goal.returns-then-xs-values
returns-then-xs-values c = sym (bind_none c.args.xs.now c.args.values.now c.args.env (λ e. omega (arith, e)))
