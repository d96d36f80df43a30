use Rattle.std.proofs.Common.{Ok}
use Rattle.std.proofs.lemmas.Result.{err_from_is_err_and}
use Rattle.rml_stages.proofs.Calls.{gives-text, refuses-text}
use Rattle.rml_stages.proofs.read.read_text.Goals as goal

pub returns-in_err-text-clause-reads : goal.returns-in_err-text-clause-reads
returns-in_err-text-clause-reads c =
    let p = err_from_is_err_and c.from_residual.result c.from_residual.ensures.1 in
    gives-text c.args.number c.args.bytes.now c.args.names.now c.from_residual.result c.read.new.names (rw (p.1, p.2) c.in_err-text.ensures.answer)

pub returns-in_err-text-clause-refuses : goal.returns-in_err-text-clause-refuses
returns-in_err-text-clause-refuses c =
    let p = err_from_is_err_and c.from_residual.result c.from_residual.ensures.1 in
    refuses-text c.args.number c.args.bytes.now c.args.names.now c.from_residual.result c.read.new.names (rw (p.1, p.2) c.in_err-text.ensures.answer)

pub returns-clause-reads : goal.returns-clause-reads
returns-clause-reads c = gives-text c.args.number c.args.bytes.now c.args.names.now (Ok c.in_ok-text.text) c.read.new.names (c.in_ok-text.field-0-0.items, c.in_ok-text.ensures.answer)

pub returns-clause-refuses : goal.returns-clause-refuses
returns-clause-refuses c = refuses-text c.args.number c.args.bytes.now c.args.names.now (Ok c.in_ok-text.text) c.read.new.names (c.in_ok-text.field-0-0.items, c.in_ok-text.ensures.answer)
