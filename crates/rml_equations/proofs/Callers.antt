-- The lemmas that proofs of other crates cite, each from the file where it is shown.
pub use Rattle.rml_equations.proofs.CodedTypes.{coded-Named, coded-Rel, coded-Tuple, coded-inst, decoded-Named, decoded-Rel, decoded-Tuple, decoded-coded, decoded-inst}
pub use Rattle.rml_equations.proofs.Joining.{Solution, IsChainOf, IsListOf, extends-on, linked, links-no-memory, links-stop, longer, map-agree, map-through, unfixed-same, unfixed-with, with-at, with-other}
