-- The lemmas that proofs of other crates cite, each from the file where it is shown.
pub use Rattle.rml_grammar.proofs.Beginnings.{begun, goes-on}
pub use Rattle.rml_grammar.proofs.CompleteExpressions.{exp-complete}
pub use Rattle.rml_grammar.proofs.CompletePatterns.{pat-complete}
pub use Rattle.rml_grammar.proofs.Cuts.{IsBehind, one-cut, two-cuts}
pub use Rattle.rml_grammar.proofs.DepthsTexts.{derived-deep}
pub use Rattle.rml_grammar.proofs.Folds.{exp-App, exp-Cons, exp-List, exp-Lit, exp-Name, exp-Tuple, goal-All, goal-Call, goal-Equal, goal-Let, goal-Not, pattern-Any, pattern-App, pattern-Bind, pattern-Cons, pattern-List, pattern-Lit, pattern-Name, pattern-Tuple, sig-is, type-App, type-Rel, type-Tuple, type-Var}
pub use Rattle.rml_grammar.proofs.LimitsExpressions.{exp-keeps}
pub use Rattle.rml_grammar.proofs.LimitsLaws.{large, one-tree, refused, within-read}
pub use Rattle.rml_grammar.proofs.LimitsPatterns.{pat-keeps}
pub use Rattle.rml_grammar.proofs.LimitsReading.{Ends, Whole, at-start, stopped, went}
pub use Rattle.rml_grammar.proofs.LimitsTexts.{fault-at, text-within}
pub use Rattle.rml_grammar.proofs.Places.{complete, ended, placed, sound}
pub use Rattle.rml_grammar.proofs.SizesTexts.{AreSmall, text-size}
