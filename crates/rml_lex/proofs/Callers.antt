-- The lemmas that proofs of other crates cite, each from the file where it is shown.
pub use Rattle.rml_lex.proofs.Characters.{and-left, text-value, three-value, two-ways}
pub use Rattle.rml_lex.proofs.Comments.{is-eq}
pub use Rattle.rml_lex.proofs.Decided.{is-read}
pub use Rattle.rml_lex.proofs.FewTokens.{few-tokens}
pub use Rattle.rml_lex.proofs.Literals.{char-first, inside-text}
pub use Rattle.rml_lex.proofs.Numerals.{digits-whole, signed-whole}
pub use Rattle.rml_lex.proofs.SoFar.{longest-pos, reaches-more}
pub use Rattle.rml_lex.proofs.Unique.{no-piece, one-list, one-reading, same-fault, same-length, same-piece, split, unspelled}
pub use Rattle.rml_lex.proofs.Wholes.{dashes-on, letter-blank, letter-digit, letter-on, longest-is, prime-on, spells-whole}
