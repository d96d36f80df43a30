use Rattle.std.proofs.Common.{Ok, rules}
use Rattle.rml_stages.proofs.Calls.{gives-tokens, refuses-tokens}
use Rattle.rml_stages.proofs.show.show_tokens.Goals as goal

pub returns-in_err-spots-clause-answer : goal.returns-in_err-spots-clause-answer
returns-in_err-spots-clause-answer c = search rules

pub returns-in_err-spots-clause-shows : goal.returns-in_err-spots-clause-shows
returns-in_err-spots-clause-shows c = gives-tokens c.args.bytes.now c.from_residual.result (returns-in_err-spots-clause-answer c)

pub returns-in_err-spots-clause-refuses : goal.returns-in_err-spots-clause-refuses
returns-in_err-spots-clause-refuses c = refuses-tokens c.args.bytes.now c.from_residual.result (returns-in_err-spots-clause-answer c)

pub returns-clause-answer : goal.returns-clause-answer
returns-clause-answer c = search rules

pub returns-clause-shows : goal.returns-clause-shows
returns-clause-shows c = gives-tokens c.args.bytes.now (Ok c.in_ok-print_tokens.field-0) (returns-clause-answer c)

pub returns-clause-refuses : goal.returns-clause-refuses
returns-clause-refuses c = refuses-tokens c.args.bytes.now (Ok c.in_ok-print_tokens.field-0) (returns-clause-answer c)
