-- What a program keeps of its tables, fact by fact.
use Rattle.std.specs.Prelude.{◌≡◌, IsTrue, length, map, slice_get}
use Rattle.std.specs.List.{list_all}
use Rattle.rml_base.specs.Bytes.{are_bytes}
use Rattle.rml_base.specs.Numbering.{same}
use Rattle.rml_resolved.specs.declared.parts.Parts.{Parts}
use Rattle.rml_resolved.specs.declared.program.Program.{Program}
use Rattle.rml_resolved.specs.Beginning.{types_begin, cons_begin, relations_begin}
use Rattle.rml_resolved.specs.Binding.{relation_binds_once, relation_uses_bound}
use Rattle.rml_resolved.specs.Circles.{has_no_circle, type_needs, val_needs}
use Rattle.rml_resolved.specs.Differ.{all_differ}
use Rattle.rml_resolved.specs.Fits.{counts_of, relation_fits, val_fits}
use Rattle.rml_resolved.specs.Size.{relation_is_small, has_long_rule, is_light}
use Rattle.rml_resolved.specs.Typing.{type_def_fits, con_def_fits, is_main}

-- the tables of a program
abbrev pub tables_of : Program → Parts
tables_of p = record { names = p.names; types = p.types; cons = p.cons; vals = p.vals; rels = p.rels; main = p.main; gives = p.gives }

-- the tables pass each test, under the name that the fact has in a program
pub record KeepsFacts (p : Parts) : Type 0 where
  pub names_are_bytes : IsTrue (list_all are_bytes p.names)
  pub names_differ : IsTrue (all_differ same p.names)
  pub types_first : IsTrue (types_begin p.names p.types)
  pub cons_first : IsTrue (cons_begin p.names p.cons)
  pub relations_first : IsTrue (relations_begin p.names p.rels)
  pub types_fit : IsTrue (list_all (type_def_fits (length p.names) p.types) p.types)
  pub cons_fit : IsTrue (list_all (con_def_fits (length p.names) p.types) p.cons)
  pub vals_fit : IsTrue (list_all (val_fits (counts_of p.names p.vals p.rels) p.types p.cons) p.vals)
  pub relations_fit : IsTrue (list_all (relation_fits (counts_of p.names p.vals p.rels) p.types p.cons) p.rels)
  pub types_end : IsTrue (has_no_circle (map type_needs p.types))
  pub vals_end : IsTrue (has_no_circle (map val_needs p.vals))
  pub bound_once : IsTrue (list_all relation_binds_once p.rels)
  pub used_after : IsTrue (list_all relation_uses_bound p.rels)
  pub rules_small : IsTrue (list_all relation_is_small p.rels)
  pub long_rule : IsTrue (has_long_rule p.rels)
  pub light : IsTrue (is_light p.vals p.rels)
  pub main_fits : IsTrue (is_main p.gives (slice_get p.rels p.main))

-- the program is made of these tables
pub record IsMadeOf (parts : Parts) (p : Program) : Type 0 where
  pub names : p.names ≡ parts.names
  pub types : p.types ≡ parts.types
  pub cons : p.cons ≡ parts.cons
  pub vals : p.vals ≡ parts.vals
  pub rels : p.rels ≡ parts.rels
  pub main : p.main ≡ parts.main
  pub gives : p.gives ≡ parts.gives
