-- Tables that fit, fact by fact.
use Rattle.std.proofs.Common.{Bool, true, false, IsTrue, refl, length, map}
use Rattle.std.specs.Prelude.{◌&&◌, slice_get}
use Rattle.std.specs.List.{list_all}
use Rattle.rml_base.specs.Bytes.{are_bytes}
use Rattle.rml_base.specs.Numbering.{same}
use Rattle.rml_resolved.specs.declared.parts.Parts.{Parts}
use Rattle.rml_resolved.specs.Beginning.{types_begin, cons_begin, relations_begin}
use Rattle.rml_resolved.specs.Binding.{relation_binds_once, relation_uses_bound}
use Rattle.rml_resolved.specs.Circles.{has_no_circle, type_needs, val_needs}
use Rattle.rml_resolved.specs.Differ.{all_differ}
use Rattle.rml_resolved.specs.Facts.{KeepsFacts}
use Rattle.rml_resolved.specs.Fits.{counts_of, relation_fits, val_fits}
use Rattle.rml_resolved.specs.Size.{relation_is_small, has_long_rule, is_light}
use Rattle.rml_resolved.specs.Typing.{type_def_fits, con_def_fits, is_main}
use Rattle.rml_resolved.specs.Whole.{names_hold, parts_begin, parts_fit, no_circles, variables_hold, sizes_hold, rules_and_main_hold, is_program}

-- both tests of two hold
pub record Both (a b : Bool) : Type 0 where
  pub first : IsTrue a
  pub second : IsTrue b

pub both : (a b : Bool) → IsTrue (a && b) → Both a b
both true b h = record { first = refl; second = h }
both false b h = absurd (cc)

-- tables that pass the whole test keep each fact
pub facts : (p : Parts) → IsTrue (is_program p) → KeepsFacts p
facts p h =
    let all = both (names_hold p && parts_begin p && parts_fit p && no_circles p) (rules_and_main_hold p) h in
    let four = both (names_hold p && parts_begin p && parts_fit p) (no_circles p) all.first in
    let three = both (names_hold p && parts_begin p) (parts_fit p) four.first in
    let two = both (names_hold p) (parts_begin p) three.first in
    let names = both (list_all are_bytes p.names) (all_differ same p.names) two.first in
    let begins = both (types_begin p.names p.types && cons_begin p.names p.cons) (relations_begin p.names p.rels) two.second in
    let begin = both (types_begin p.names p.types) (cons_begin p.names p.cons) begins.first in
    let types = list_all (type_def_fits (length p.names) p.types) p.types in
    let cons = list_all (con_def_fits (length p.names) p.types) p.cons in
    let vals = list_all (val_fits (counts_of p.names p.vals p.rels) p.types p.cons) p.vals in
    let rels = list_all (relation_fits (counts_of p.names p.vals p.rels) p.types p.cons) p.rels in
    let fit = both (types && cons && vals) rels three.second in
    let fit_more = both (types && cons) vals fit.first in
    let fit_most = both types cons fit_more.first in
    let ends = both (has_no_circle (map type_needs p.types)) (has_no_circle (map val_needs p.vals)) four.second in
    let main = is_main p.gives (slice_get p.rels p.main) in
    let holds = both (variables_hold p && sizes_hold p) main all.second in
    let hold = both (variables_hold p) (sizes_hold p) holds.first in
    let variables = both (list_all relation_binds_once p.rels) (list_all relation_uses_bound p.rels) hold.first in
    let small = list_all relation_is_small p.rels in
    let sizes = both (small && has_long_rule p.rels) (is_light p.vals p.rels) hold.second in
    let rules = both small (has_long_rule p.rels) sizes.first in
    record {
      names_are_bytes = names.first;
      names_differ = names.second;
      types_first = begin.first;
      cons_first = begin.second;
      relations_first = begins.second;
      types_fit = fit_most.first;
      cons_fit = fit_most.second;
      vals_fit = fit_more.second;
      relations_fit = fit.second;
      types_end = ends.first;
      vals_end = ends.second;
      bound_once = variables.first;
      used_after = variables.second;
      rules_small = rules.first;
      long_rule = rules.second;
      light = sizes.second;
      main_fits = holds.second;
    }

joined : (a b : Bool) → IsTrue a → IsTrue b → IsTrue (a && b)
joined true b f g = g
joined false b f g = absurd (cc)

-- and those that keep each fact pass it
pub whole : (p : Parts) → KeepsFacts p → IsTrue (is_program p)
whole p f =
    let types = list_all (type_def_fits (length p.names) p.types) p.types in
    let cons = list_all (con_def_fits (length p.names) p.types) p.cons in
    let vals = list_all (val_fits (counts_of p.names p.vals p.rels) p.types p.cons) p.vals in
    let rels = list_all (relation_fits (counts_of p.names p.vals p.rels) p.types p.cons) p.rels in
    let names : IsTrue (names_hold p) = joined (list_all are_bytes p.names) (all_differ same p.names) f.names_are_bytes f.names_differ in
    let begin = joined (types_begin p.names p.types) (cons_begin p.names p.cons) f.types_first f.cons_first in
    let begins : IsTrue (parts_begin p) = joined (types_begin p.names p.types && cons_begin p.names p.cons) (relations_begin p.names p.rels) begin f.relations_first in
    let fit_most = joined types cons f.types_fit f.cons_fit in
    let fit_more = joined (types && cons) vals fit_most f.vals_fit in
    let fit : IsTrue (parts_fit p) = joined (types && cons && vals) rels fit_more f.relations_fit in
    let ends : IsTrue (no_circles p) = joined (has_no_circle (map type_needs p.types)) (has_no_circle (map val_needs p.vals)) f.types_end f.vals_end in
    let variables : IsTrue (variables_hold p) = joined (list_all relation_binds_once p.rels) (list_all relation_uses_bound p.rels) f.bound_once f.used_after in
    let rules = joined (list_all relation_is_small p.rels) (has_long_rule p.rels) f.rules_small f.long_rule in
    let sizes : IsTrue (sizes_hold p) = joined (list_all relation_is_small p.rels && has_long_rule p.rels) (is_light p.vals p.rels) rules f.light in
    let hold = joined (variables_hold p) (sizes_hold p) variables sizes in
    let holds : IsTrue (rules_and_main_hold p) = joined (variables_hold p && sizes_hold p) (is_main p.gives (slice_get p.rels p.main)) hold f.main_fits in
    let two = joined (names_hold p) (parts_begin p) names begins in
    let three = joined (names_hold p && parts_begin p) (parts_fit p) two fit in
    let four = joined (names_hold p && parts_begin p && parts_fit p) (no_circles p) three ends in
    joined (names_hold p && parts_begin p && parts_fit p && no_circles p) (rules_and_main_hold p) four holds
