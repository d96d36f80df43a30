use Rattle.std.proofs.Common.{false}
use Rattle.rml_abbreviations.proofs.Doubling.{doubles, doubles-more}
use Rattle.rml_abbreviations.proofs.powers.twice.Goals as goal

pub returns-in_ok-table : goal.returns-in_ok-table
returns-in_ok-table c = doubles c.args.bodies.now c.args.half.now c.in_ok-table.table.items c.args.count false c.if-count-eq0.true c.requires.half c.in_ok-table.ensures

pub returns-in_ok-table-2 : goal.returns-in_ok-table-2
returns-in_ok-table-2 c =
    doubles-more c.args.bodies.now c.args.half.now c.args.more.now c.in_ok-table-2.table.items c.args.count false c.if-count-eq0.false c.requires.half c.requires.more c.in_ok-table-2.ensures
