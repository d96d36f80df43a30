use Rattle.std.proofs.Common.{rules}
use Rattle.std.proofs.lemmas.Fn.{filter_same}
use Rattle.rml_base.specs.Order.{is_before}
use Rattle.rml_groups.proofs.spots.keep_before.Goals as goal

pub returns : goal.returns
returns c = filter_same _ (λ s. is_before s.place c.args.place) _ (λ x b q h. search rules) _ _ c.retain.ensures.filtered
