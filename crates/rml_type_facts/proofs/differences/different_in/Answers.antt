use Rattle.std.proofs.Common.{true, false, None, ap, ◌∙◌}
use Rattle.rml_type_facts.specs.Facts.{half, half_of}
use Rattle.rml_signatures.specs.Types.{context, told}
use Rattle.rml_type_facts.proofs.KnownTables.{different-are}
use Rattle.rml_type_facts.proofs.differences.different_in.Goals as goal

pub returns : goal.returns
returns c =
    different-are (told c.args.known.now c.args.tables.now) c.args.texts.now c.args.number c.args.text.now c.deref.result.now c.in_ok-table.table.items (half_of c.in_ok-outer.outer)
    (half_of c.in_ok-inner.inner) c.differing.result c.deref.ensures.value c.in_ok-table.ensures
    (c.in_ok-outer.ensures ∙ ap (λ x. half x c.as_slice.result.now) c.view.ensures ∙ ap (half (context (told c.args.known.now c.args.tables.now) c.args.number false None)) c.as_slice.ensures)
    (c.in_ok-inner.ensures ∙ ap (λ x. half x c.as_slice-2.result.now) c.view-2.ensures ∙ ap (half (context (told c.args.known.now c.args.tables.now) c.args.number true None)) c.as_slice-2.ensures)
    c.differing.ensures
