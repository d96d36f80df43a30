use Rattle.std.proofs.Common.{sym}
use Rattle.rml_clauses.proofs.Counts.{relation-absent}
use Rattle.rml_clauses.proofs.agreement.relation_has.Goals as goal

pub returns-in-None : goal.returns-in-None
returns-in-None c = relation-absent c.args.rels.now c.args.number c.args.taken c.args.given (sym c.in-None.ensures)
