-- The lemmas that proofs of other crates cite, each from the file where it is shown.
pub use Rattle.rml_sound.proofs.Canonical.{same-inputs, same-outputs}
pub use Rattle.rml_sound.proofs.Expressions.{scheme-at, UsesHave}
pub use Rattle.rml_sound.proofs.Ran.{given, main-relation-has, never-wrong}
pub use Rattle.rml_sound.proofs.Used.{by-rules, has-relation, relation-fits, relation-has, rule-has}
