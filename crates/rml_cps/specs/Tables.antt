-- The tables as clause form has them: the same constructors and vals, and relations with the same names and counts, without bodies. What
-- clause form says of tables, as what they declare and how terms over them are written, is said of these.
use Rattle.std.specs.Prelude.{[], map}
use Rattle.rml_fol.specs.declared.parts.Relation as clause
use Rattle.rml_fol.specs.declared.parts.Parts as clauses
use Rattle.rml_cps.specs.declared.parts.Relation.{Relation}
use Rattle.rml_cps.specs.declared.parts.Parts.{Parts}

abbrev pub without_body : Relation → clause.Relation
without_body r = record { name = r.name; params = r.params; results = r.results; vars = r.vars; bodies = r.names; tokens = r.tokens; body = record { stmts = [] } }

abbrev pub tables_of : Parts → clauses.Parts
tables_of p = record { cons = p.cons; vals = p.vals; rels = map without_body p.rels; main = p.main; gives = p.gives; longest = p.longest; weight = p.weight }
