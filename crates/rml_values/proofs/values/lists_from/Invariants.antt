use Rattle.std.proofs.Common.{◌≡◌, ◌++◌, drop}
use Rattle.rml_values.specs.Numbers.{end_from, lists_from}
use Rattle.rml_values.proofs.values.lists_from.Given as goal

abbrev pub invariant-loop-outline : goal.invariant-loop-outline
invariant-loop-outline l = record {
  lists : lists_from l.fn.begins l.outlines ≡ l.texts ++ lists_from l.begins (drop l.outline-index l.outlines);
  end : end_from l.fn.begins l.outlines ≡ end_from l.begins (drop l.outline-index l.outlines);
}
