-- The lemmas that proofs of other crates cite, each from the file where it is shown.
pub use Rattle.rml_value.proofs.ListItems.{items_of-list_of, list_of-items, items_of-cons, items_of-nil}
