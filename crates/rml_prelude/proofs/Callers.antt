-- The lemmas that proofs of other crates cite, each from the file where it is shown.
pub use Rattle.rml_prelude.proofs.Numbered.{Numbered, all-numbered, first-of, grown-most, grown-one-more, grows-further, grows-most, next-numbered, none-numbered, room, second-of}
pub use Rattle.rml_prelude.proofs.Standing.{known-later, numbers-stand, tree-stands, words-known, words-stand}
