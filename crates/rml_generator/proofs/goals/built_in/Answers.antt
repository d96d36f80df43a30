use Rattle.std.proofs.Common.{◌≡◌, [], Err, Option, length, arith, refl, subst, sym}
use Rattle.std.specs.Prelude.{option_map, slice_get}
use Rattle.std.proofs.lemmas.Option.{slice_get_past, slice_get-get_or}
use Rattle.std.proofs.lemmas.Result.{err_from_is_err_and}
use Rattle.rml_builtin.specs.declared.row.Row.{Row}
use Rattle.rml_builtin.specs.declared.row.Row.TheVariants.{IntAdd}
use Rattle.rml_builtin.specs.declared.row.TheConstants.{ROWS}
use Rattle.rml_builtin.specs.Table.{type_of}
use Rattle.rml_typed.specs.Typed.{HasInstance, built_in_type}
use Rattle.rml_equations.specs.Joins.{Links}
use Rattle.rml_equations.specs.declared.stop.Stop.TheVariants as stop
use Rattle.rml_generator.proofs.Making.{links-left-no-memory, links-none}
use Rattle.rml_generator.proofs.Scoping.{links-built}
use Rattle.rml_generator.proofs.goals.built_in.Goals as goal

pub returns-then-number-ge32 : goal.returns-then-number-ge32
returns-then-number-ge32 c =
    let g = c.args.graph.now in
    let n : length ROWS ≡ 32 = refl in
    subst (λ (o : Option Row). Links c.args.coding g g [] (λ ts t. HasInstance (option_map type_of o) t) (Err stop.Untyped)) (sym (slice_get_past ROWS c.args.number (omega arith)))
    (links-none c.args.coding g g [] (λ ts t. ⊥) (Err stop.Untyped) refl (λ ts t never. never))

pub returns-in_err-scheme : goal.returns-in_err-scheme
returns-in_err-scheme c =
    let p = err_from_is_err_and c.from_residual.result c.from_residual.ensures.1 in
    links-left-no-memory c.args.coding c.args.graph.now c.args.graph.now [] (λ ts t. HasInstance (built_in_type c.args.number) t) c.from_residual.result p

pub returns : goal.returns
returns c =
    let n : length ROWS ≡ 32 = refl in
    links-built c.args.coding c.args.graph.now c.instance_as_is.new.graph c.instance_as_is.result (slice_get ROWS c.args.number) _ c.in_ok-scheme.scheme.vars c.in_ok-scheme.scheme.body
    (slice_get-get_or ROWS c.args.number IntAdd (omega arith)) c.in_ok-scheme.ensures c.instance_as_is.ensures
