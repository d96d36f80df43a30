use Rattle.std.proofs.Common.{rules}
use Rattle.std.proofs.lemmas.Fn.{filter_same}
use Rattle.rml_groups.specs.Spots.{comes_after}
use Rattle.rml_groups.proofs.spots.keep_after.Goals as goal

pub returns : goal.returns
returns c = filter_same _ (λ s. comes_after s c.args.one) _ (λ x b q h. search rules) _ _ c.retain.ensures.filtered
