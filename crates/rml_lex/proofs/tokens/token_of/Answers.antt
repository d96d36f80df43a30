use Rattle.rml_lex.proofs.SoFar.{name_of, tyvar_of, text_of}
use Rattle.std.proofs.Common.{◌∙◌}
use Rattle.rml_lex.proofs.tokens.token_of.Goals as goal

pub returns-in_ok-intern-in-Name-clause-token : goal.returns-in_ok-intern-in-Name-clause-token
returns-in_ok-intern-in-Name-clause-token c = name_of c.args.names.now c.intern.new.self c.args.spelling.now c.in_ok-intern-in-Name.field-0 c.args.piece c.in-Name.is c.in_ok-intern-in-Name.ensures.number c.in_ok-intern-in-Name.ensures.names

pub returns-in_ok-intern-in-TyVar-clause-token : goal.returns-in_ok-intern-in-TyVar-clause-token
returns-in_ok-intern-in-TyVar-clause-token c = tyvar_of c.args.names.now c.intern-in-TyVar.new.self c.args.spelling.now c.in_ok-intern-in-TyVar.field-0 c.args.piece c.in-TyVar.is c.in_ok-intern-in-TyVar.ensures.number c.in_ok-intern-in-TyVar.ensures.names

pub returns-in_ok-intern-in-Text-clause-token : goal.returns-in_ok-intern-in-Text-clause-token
returns-in_ok-intern-in-Text-clause-token c = text_of c.args.names.now c.intern-in-Text.new.self c.args.spelling.now c.split_at.result.1.now c.deref.result.now c.in_ok-intern-in-Text.field-0 c.args.piece c.in-Text.is c.split_at.ensures.back (c.deref.ensures.value ∙ c.in_ok-bytes-in-Text.ensures) c.in_ok-intern-in-Text.ensures.number c.in_ok-intern-in-Text.ensures.names
