-- How large what a plain run comes to is: each part of it is smaller than what it is a part of.
use Rattle.std.specs.Prelude.{ℕ, List, sum_by}
use Rattle.rml_fol.specs.declared.parts.Relation.{Relation}
use Rattle.rml_fol.specs.declared.statements.Stmt.{Stmt}
use Rattle.rml_fol.specs.Size.{size}
use Rattle.rml_fol_plain.specs.declared.named.Named.{Named}

abbrev pub stmts_size : List Stmt → ℕ
stmts_size stmts = sum_by size stmts

abbrev pub named_size : Named → ℕ
named_size b = stmts_size b.block.now

-- the blocks that are named
abbrev pub bodies_size : List Named → ℕ
bodies_size bodies = sum_by named_size bodies

abbrev pub relation_size : Relation → ℕ
relation_size r = stmts_size r.body.stmts

abbrev pub relations_size : List Relation → ℕ
relations_size rels = sum_by relation_size rels
