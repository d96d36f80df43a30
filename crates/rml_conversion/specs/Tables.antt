-- What the pass makes of relations and of tables.
use Rattle.std.specs.Prelude.{map, reverse}
use Rattle.rml_fol.specs.declared.parts.Relation as clause
use Rattle.rml_fol.specs.declared.parts.Parts as clauses
use Rattle.rml_cps.specs.declared.statements.Continuation.TheVariants as continuation
use Rattle.rml_cps.specs.declared.parts.Relation.{Relation}
use Rattle.rml_cps.specs.declared.parts.Parts.{Parts}
use Rattle.rml_conversion.specs.Hand.{Hand}
use Rattle.rml_conversion.specs.Statements.{block_of, stmt_made}

-- the block of a relation: its own variables stand first, and its bodies have the first names
abbrev pub body_made : clause.Relation → Hand
body_made r = block_of (map stmt_made r.body.stmts) continuation.Own (record { variable = r.vars; name = r.bodies })

abbrev pub with_body : clause.Relation → Hand → Relation
with_body r made = record {
  name = r.name;
  params = r.params;
  results = r.results;
  vars = made.numbers.variable;
  names = made.numbers.name;
  tokens = r.tokens;
  body = record { stmts = reverse made.lines };
}

abbrev pub relation_made : clause.Relation → Relation
relation_made r = with_body r (body_made r)

-- the tables of clause form, relation by relation
abbrev pub tables_made : clauses.Parts → Parts
tables_made p = record {
  cons = p.cons;
  vals = p.vals;
  rels = map relation_made p.rels;
  main = p.main;
  gives = p.gives;
  longest = p.longest;
  weight = p.weight;
}
