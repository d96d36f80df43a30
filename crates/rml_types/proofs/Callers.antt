-- The lemmas that proofs of other crates cite, each from the file where it is shown.
pub use Rattle.rml_types.proofs.FiniteTypes.{induct-built}
pub use Rattle.rml_types.proofs.General.{widens}
pub use Rattle.rml_types.proofs.Growth.{begun-by, begun-ready, keeps-refl, keeps-trans, make-inst, make-other, below-kept, fresh-more, fresh-none, grows-by, grows-refl, grows-trans, no-form}
pub use Rattle.rml_types.proofs.LabelLists.{labels-built}
pub use Rattle.rml_types.proofs.LabelNumbers.{all-left, all-right, below-bound, below-built, body-instance, copied, labels-one, labels-ready, variables-labels}
pub use Rattle.rml_types.proofs.Numbering.{place-known, place-new, place-stays}
pub use Rattle.rml_types.proofs.Spelled.{leaf-at}
pub use Rattle.rml_types.proofs.Substitutions.{below-Named, below-Rel, below-Tuple, below-Var, both, inst-Named, inst-Rel, inst-Tuple, inst-Var, named, twice}
pub use Rattle.rml_types.proofs.Trees.{fold-Named, fold-Rel, fold-Tuple, fold-Var, induct}
