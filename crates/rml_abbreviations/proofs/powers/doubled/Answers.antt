use Rattle.std.proofs.Common.{false, refl, sym, ◌∙◌}
use Rattle.rml_abbreviations.proofs.Doubling.{becomes-fixed}
use Rattle.rml_abbreviations.proofs.powers.doubled.Goals as goal

pub returns-then-is_fixed : goal.returns-then-is_fixed
returns-then-is_fixed c =
    becomes-fixed c.args.bodies.now c.args.half.now c.in_ok-more.more.items c.args.count false refl c.requires c.in_ok-more.ensures
    (sym c.deref.ensures.value ∙ c.in_ok-is_fixed.ensures c.if-is_fixed.true)
