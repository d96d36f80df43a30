-- Tables that make a program: every fact that a program keeps.
use Rattle.std.specs.Prelude.{Bool, ◌&&◌, length, map, slice_get}
use Rattle.std.specs.List.{list_all}
use Rattle.rml_base.specs.Bytes.{are_bytes}
use Rattle.rml_base.specs.Numbering.{same}
use Rattle.rml_resolved.specs.declared.parts.Parts.{Parts}
use Rattle.rml_resolved.specs.Beginning.{types_begin, cons_begin, relations_begin}
use Rattle.rml_resolved.specs.Binding.{relation_binds_once, relation_uses_bound}
use Rattle.rml_resolved.specs.Circles.{has_no_circle, type_needs, val_needs}
use Rattle.rml_resolved.specs.Differ.{all_differ}
use Rattle.rml_resolved.specs.Fits.{counts_of, relation_fits, val_fits}
use Rattle.rml_resolved.specs.Size.{relation_is_small, has_long_rule, is_light}
use Rattle.rml_resolved.specs.Typing.{type_def_fits, con_def_fits, is_main}

abbrev pub parts_begin : Parts → Bool
parts_begin p = types_begin p.names p.types && cons_begin p.names p.cons && relations_begin p.names p.rels

abbrev pub parts_fit : Parts → Bool
parts_fit p =
    list_all (type_def_fits (length p.names) p.types) p.types && list_all (con_def_fits (length p.names) p.types) p.cons
    && list_all (val_fits (counts_of p.names p.vals p.rels) p.types p.cons) p.vals
    && list_all (relation_fits (counts_of p.names p.vals p.rels) p.types p.cons) p.rels

abbrev pub names_hold : Parts → Bool
names_hold p = list_all are_bytes p.names && all_differ same p.names

abbrev pub no_circles : Parts → Bool
no_circles p = has_no_circle (map type_needs p.types) && has_no_circle (map val_needs p.vals)

abbrev pub variables_hold : Parts → Bool
variables_hold p = list_all relation_binds_once p.rels && list_all relation_uses_bound p.rels

abbrev pub sizes_hold : Parts → Bool
sizes_hold p = list_all relation_is_small p.rels && has_long_rule p.rels && is_light p.vals p.rels

abbrev pub rules_and_main_hold : Parts → Bool
rules_and_main_hold p = variables_hold p && sizes_hold p && is_main p.gives (slice_get p.rels p.main)

abbrev pub is_program : Parts → Bool
is_program p = names_hold p && parts_begin p && parts_fit p && no_circles p && rules_and_main_hold p
