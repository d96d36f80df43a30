use Rattle.std.proofs.Common.{◌≡◌, ◌∙◌, subst}
use Rattle.rml_abbreviations.specs.Written.{meaning_in, written, written_out}
use Rattle.rml_signatures.proofs.tables.Tables.writing.Goals as goal

pub returns : goal.returns
returns c = record {
  writes = subst (λ bs. written (meaning_in c.in_ok-table.table.items) ≡ written_out c.args.self.now.declared (meaning_in bs)) (c.deref.ensures.value ∙ c.in_ok-bodies.ensures)
      (λ i t. c.in_ok-table.ensures t i);
}
