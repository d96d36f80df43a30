-- The lemmas that proofs of other crates cite, each from the file where it is shown.
pub use Rattle.rml_clause.proofs.Blocks.{fresh-before-give}
pub use Rattle.rml_clause.proofs.Forms.{EachOf, each-both, body-ends, body-gives, body-is-paid, EachResults, in-length}
pub use Rattle.rml_clause.proofs.Passed.{each-fresh, made}
pub use Rattle.rml_clause.proofs.Premises.{counts_matched}
pub use Rattle.rml_clause.proofs.Programs.{EachUpTo, made_light, is_made, up_to, passes_at}
pub use Rattle.rml_clause.proofs.Returned.{goal_size-Call}
pub use Rattle.rml_clause.proofs.Rows.{absent, joined, present, sum-at, made-more, pattern-counts, expression-counts, patterns-count}
pub use Rattle.rml_clause.proofs.Rules.{counts_from}
pub use Rattle.rml_clause.proofs.Steps.{fresh_append, fresh-Set, fresh-Match, fresh-Call, fresh-Builtin, fresh-Equal, fresh-Not, fresh-Give, fresh_matches}
