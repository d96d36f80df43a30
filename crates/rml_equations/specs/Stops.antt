-- Why making equations stops where an equation is refused.
use Rattle.rml_types.specs.declared.form.UnifyErr.{UnifyErr}
use Rattle.rml_types.specs.declared.form.UnifyErr.TheVariants as refused
use Rattle.rml_equations.specs.declared.stop.Stop.{Stop}
use Rattle.rml_equations.specs.declared.stop.Stop.TheVariants as stop

abbrev pub stop_of : UnifyErr → Stop
stop_of refused.Clash = stop.Untyped
stop_of refused.Memory = stop.Memory
