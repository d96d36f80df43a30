-- The lemmas that proofs of other crates cite, each from the file where it is shown.
pub use Rattle.rml_resolved.proofs.Counted.{count-small, counted-less, counted-more, has-count, has-none, has-place, last-counted}
pub use Rattle.rml_resolved.proofs.Facts.{Both, both, facts}
pub use Rattle.rml_resolved.proofs.Numbers.{same_told}
pub use Rattle.rml_resolved.proofs.Rounds.{by_rounds, is_it}
pub use Rattle.rml_resolved.proofs.Variables.{Below, passes, rule_below}
pub use Rattle.rml_resolved.proofs.Words.{constant_at, first_so, list_at, opened, var_at}
