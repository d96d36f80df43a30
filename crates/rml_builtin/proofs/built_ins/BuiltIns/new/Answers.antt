use Rattle.std.proofs.Common.{◌∙◌}
use Rattle.rml_builtin.proofs.Hashed.{after-row}
use Rattle.rml_builtin.proofs.built_ins.BuiltIns.new.Goals as goal

pub loop-row-preserved : goal.loop-row-preserved
loop-row-preserved c =
    after-row (λ v. v.items) c.loop-row.names.keys c.insert.new.self.keys c.in_ok-to_vec.field-0 c.loop-row.row-index _ c.loop-row-test.true
    (c.in_ok-to_vec.ensures.items_if_clones_equal (λ x y e. e) ∙ c.as_bytes.ensures.value ∙ c.name.ensures) c.in_ok-insert.ensures.keys c.loop-row.invariant
