use Rattle.std.proofs.Common.{◌∙◌, ap}
use Rattle.rml_named.specs.declared.gathering.Gathering.{Gathering}
use Rattle.rml_named.proofs.Rows.{rows_of_text}
use Rattle.rml_named.proofs.texts.in_text.Goals as goal

pub returns : goal.returns
returns c =
    let begun : Gathering = record { scope = c.new.result; rows = c.args.gathering.now.rows } in
    ap (λ (g : Gathering). g.rows) c.in_ok-text.ensures ∙ rows_of_text c.args.world.now c.args.values.now c.args.number c.args.tree.now begun c.new.ensures
