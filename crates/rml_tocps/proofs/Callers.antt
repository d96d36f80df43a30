-- The lemmas that proofs of other crates cite, each from the file where it is shown.
pub use Rattle.rml_tocps.proofs.Blocks.{fail_carries}
pub use Rattle.rml_tocps.proofs.Choices.{all-more, all-one, both-as, ending-true, fail-passes, free-less, give-passes, goes-front, goto-passes, not-before, or-passes}
pub use Rattle.rml_tocps.proofs.Parts.{any-made, any-part-made, bind-made, bind-part-made, con-made, fresh-part-made, front-made, literal-made, nil-made, parts-more, parts-none, test-made, tuple-made, var-made, var-part-made}
pub use Rattle.rml_tocps.proofs.Passing.{before-more, before-none, before-passes, built-in-before, call-before, equal-before, line-made, opens, set-before, two, under-more}
pub use Rattle.rml_tocps.proofs.Patterns.{match-before}
pub use Rattle.rml_tocps.proofs.Relations.{carried_is_light}
pub use Rattle.rml_tocps.proofs.Switches.{switch-passes}
pub use Rattle.rml_tocps.proofs.Wholes.{body-passes, cond-passes, relation-carried}
