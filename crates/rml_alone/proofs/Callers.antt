-- The lemmas that proofs of other crates cite, each from the file where it is shown.
pub use Rattle.rml_alone.proofs.Decided.{past-slice, slice-past}
pub use Rattle.rml_alone.proofs.Deciding.{answered, solved}
pub use Rattle.rml_alone.proofs.Halving.{not-both, pieces-length}
pub use Rattle.rml_alone.proofs.Starting.{empty, empty-types, plain-all, there, type-at, types-from}
pub use Rattle.rml_alone.proofs.Texts.{own-past, own-same, own-types}
pub use Rattle.rml_alone.proofs.Variables.{rule-carried}
