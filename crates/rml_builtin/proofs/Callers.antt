-- The lemmas that proofs of other crates cite, each from the file where it is shown.
pub use Rattle.rml_builtin.proofs.Digits.{capped-le, digits-begin, digits-end, digits-none, none-after, some-after}
pub use Rattle.rml_builtin.proofs.Quotients.{rem-by_quotient}
