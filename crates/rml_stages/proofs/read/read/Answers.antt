use Rattle.std.proofs.Common.{arith}
use Rattle.std.proofs.lemmas.Result.{err_from_is_err_and}
use Rattle.rml_stages.proofs.Calls.{lexer-refuses, parser-refuses, spelled-as}
use Rattle.rml_stages.proofs.read.read.Goals as goal

pub returns-in_err-spots-clause-answer : goal.returns-in_err-spots-clause-answer
returns-in_err-spots-clause-answer c =
    let p = err_from_is_err_and c.from_residual.result c.from_residual.ensures.1 in
    rw p.1 (λ some. lexer-refuses c.args.number c.args.bytes.now c.args.names.now c.in_err-spots.field-0.0 p.0 c.in_err-spots.ensures.answer p.2 some)

pub parse-requires : goal.parse-requires
parse-requires c = omega (arith, c.requires.size, c.in_ok-spots.ensures.few, c.deref.ensures.len)

pub returns-in_err-text-clause-answer : goal.returns-in_err-text-clause-answer
returns-in_err-text-clause-answer c =
    let p = err_from_is_err_and c.from_residual-in_err-text.result c.from_residual-in_err-text.ensures.1 in
    let spelled = spelled-as c.args.number c.args.bytes.now c.args.names.now c.in_ok-spots.spots.items c.lex.new.names c.in_ok-spots.ensures.answer c.in_ok-spots.ensures.numbered in
    rw p.1 (λ some. parser-refuses c.args.number c.args.bytes.now c.args.names.now c.in_ok-spots.spots.items c.lex.new.names c.in_err-text.field-0.0 p.0 spelled (rw (c.deref.ensures.value, c.end_place.ensures) at c.in_err-text.ensures.answer) p.2 some)

pub returns-clause-answer : goal.returns-clause-answer
returns-clause-answer c = record {
  spelled = spelled-as c.args.number c.args.bytes.now c.args.names.now c.in_ok-spots.spots.items c.lex.new.names c.in_ok-spots.ensures.answer c.in_ok-spots.ensures.numbered;
  is_tree = rw (c.deref.ensures.value, c.end_place.ensures) at c.in_ok-text.ensures.answer;
}
