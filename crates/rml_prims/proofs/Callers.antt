-- The lemmas that proofs of other crates cite, each from the file where it is shown.
pub use Rattle.rml_prims.proofs.Bindings.{binds-added}
pub use Rattle.rml_prims.proofs.PlainCells.{plain-form, plain-stands, plain_value}
pub use Rattle.rml_prims.proofs.StandingCells.{value-stands, stands-value, values-stand, stand-values, store-binds, binds-store}
pub use Rattle.rml_prims.proofs.Variables.{lvars-append, lvars-none, lvars-added, lvars-made, lvars-set}
