-- The lemmas that proofs of other crates cite, each from the file where it is shown.
pub use Rattle.rml_typed.proofs.BuiltInTypes.{own-row, row-stands}
pub use Rattle.rml_typed.proofs.Fewer.{first-fewer}
pub use Rattle.rml_typed.proofs.Owned.{own-same, written-same}
pub use Rattle.rml_typed.proofs.Using.{rule-more, group-alone}
pub use Rattle.rml_typed.proofs.Wholes.{rule-typed}
