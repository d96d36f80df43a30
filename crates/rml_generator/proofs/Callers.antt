-- The lemmas that proofs of other crates cite, each from the file where it is shown.
pub use Rattle.rml_generator.proofs.Adding.{Holding, Left, adds-like, adds-nothing, fact-like, finds-like, found, left-no-memory, left-part, left-refuted, tells-later, within-later}
pub use Rattle.rml_generator.proofs.Below.{coded-below, written-below}
pub use Rattle.rml_generator.proofs.Facts.{Both, FactsOf, adds-both, both-found, fact-left, facts-found, facts-left, facts-more, facts-none, found-always}
pub use Rattle.rml_generator.proofs.Holding.{gives-later}
pub use Rattle.rml_generator.proofs.Owning.{serves-later, within-longer}
pub use Rattle.rml_generator.proofs.Turning.{split-at, take-next, take-past}
