use Rattle.std.proofs.Common.{List, refl, sym, ap, subst, ◌∙◌, arith}
use Rattle.std.specs.Prelude.{All}
use Rattle.rml_resolved.specs.declared.tables.ValDef.{ValDef}
use Rattle.rml_resolved.specs.declared.tables.RelDef.{RelDef}
use Rattle.rml_resolved.specs.Size.{longest}
use Rattle.rml_clauses.specs.Ready.{IsReady, HasValue}
use Rattle.rml_clauses.proofs.Ready.{all-ready, all-valued}
use Rattle.rml_clauses.proofs.Whole.{constructors-of, vals-of, relations-of, total-of}
use Rattle.rml_clauses.proofs.tables.tables_of.Goals as goal

pub vals-requires : goal.vals-requires
vals-requires c = subst (λ (ds : List ValDef). All HasValue ds) (sym c.as_slice-val_defs.ensures) (all-valued c.args.program.now)

pub relations-requires : goal.relations-requires
relations-requires c = subst (λ (ds : List RelDef). All IsReady ds) (sym c.as_slice-rel_defs.ensures) (all-ready c.args.program.now c.requires)

pub overflow_cast-result : goal.overflow_cast-result
overflow_cast-result c =
    let p = c.args.program.now in
    let made_vals = vals-of p c.as_slice-names.result.now c.as_slice-val_defs.result.now c.in_ok-vals.vals c.as_slice-names.ensures c.as_slice-val_defs.ensures c.in_ok-vals.ensures in
    let made_rels = relations-of p c.as_slice-names.result.now c.as_slice-rel_defs.result.now c.in_ok-rels.rels c.as_slice-names.ensures c.as_slice-rel_defs.ensures c.in_ok-rels.ensures in
    let told = total-of p c.requires c.in_ok-vals.vals c.as_slice.result.now c.in_ok-rels.rels c.as_slice-2.result.now c.weight-total.result made_vals made_rels c.as_slice.ensures c.as_slice-2.ensures c.weight-total.ensures in
    omega (arith, told.1)

pub returns : goal.returns
returns c =
    let p = c.args.program.now in
    let made_vals = vals-of p c.as_slice-names.result.now c.as_slice-val_defs.result.now c.in_ok-vals.vals c.as_slice-names.ensures c.as_slice-val_defs.ensures c.in_ok-vals.ensures in
    let made_rels = relations-of p c.as_slice-names.result.now c.as_slice-rel_defs.result.now c.in_ok-rels.rels c.as_slice-names.ensures c.as_slice-rel_defs.ensures c.in_ok-rels.ensures in
    let told = total-of p c.requires c.in_ok-vals.vals c.as_slice.result.now c.in_ok-rels.rels c.as_slice-2.result.now c.weight-total.result made_vals made_rels c.as_slice.ensures c.as_slice-2.ensures c.weight-total.ensures in
    record {
      cons =
          constructors-of p c.as_slice-names.result.now c.as_slice-types.result.now c.as_slice-con_defs.result.now c.in_ok-cons.cons c.as_slice-names.ensures c.as_slice-types.ensures c.as_slice-con_defs.ensures c.in_ok-cons.ensures;
      vals = made_vals;
      rels = made_rels;
      main = refl;
      gives = refl;
      longest_is = c.longest-most.ensures ∙ ap longest c.as_slice-rel_defs.ensures;
      weight_is = told.0;
    }
