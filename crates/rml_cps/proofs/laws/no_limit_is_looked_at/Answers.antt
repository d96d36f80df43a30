use Rattle.std.proofs.Common.{refl}
use Rattle.rml_cps.proofs.laws.no_limit_is_looked_at.Goals as goal

pub returns : goal.returns
returns c = λ p. record { on = λ args cells cells' n bytes. refl }
