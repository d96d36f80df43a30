use Rattle.rml_lex.proofs.FewTokens.{few-of}
use Rattle.rml_lex.proofs.Unique.{spelled-only, first-only, numbered-only}
use Rattle.rml_lex.proofs.tokens.lex.Goals as goal

pub returns-clause-spelled : goal.returns-clause-spelled
returns-clause-spelled c = λ spots s. spelled-only _ _ _ _ spots s c.read-answer.ensures.answer

pub returns-clause-first : goal.returns-clause-first
returns-clause-first c = λ place kind f. first-only _ _ _ _ place kind f c.read-answer.ensures.answer

pub returns-clause-numbered : goal.returns-clause-numbered
returns-clause-numbered c = λ spots s. numbered-only _ _ _ _ _ spots s c.read-answer.ensures.answer c.read-answer.ensures.given c.read-answer.ensures.numbers c.are_distinct.ensures

pub returns-clause-few : goal.returns-clause-few
returns-clause-few c = few-of _ _ _ _ c.read-answer.ensures.answer
