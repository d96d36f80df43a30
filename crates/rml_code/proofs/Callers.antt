-- The lemmas that proofs of other crates cite, each from the file where it is shown.
pub use Rattle.rml_code.proofs.Remains.{behind-joined, behind-nothing, remains-turn, remains-block, remains-first}
pub use Rattle.rml_code.proofs.ByInstruction.{by-Move, by-Word, by-Const, by-Field, by-Con, by-Tuple, by-Cons, by-Save, by-Guard, by-Resume, by-Retry, by-Drop, by-Builtin, by-Equal, by-Switch, by-Goto, by-Call, by-CallRegister, by-Answer, by-Fail, by-Yes, by-Integer, by-No}
pub use Rattle.rml_code.proofs.MoreTurns.{turns-count, turns-more}
pub use Rattle.rml_code.proofs.Rising.{hops-enough}
pub use Rattle.rml_code.proofs.Pushed.{frames-there, success-there, failure-there, success-label, failure-label}
pub use Rattle.rml_code.proofs.KeptLimits.{limit-given, limit-stays, runs-within, runs-beyond}
