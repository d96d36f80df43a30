-- Which refusal a fault of the lexer and a fault of the parser is: a literal that is too long, a bracket that is too deep and a
-- rule that is one too many pass a limit, and every other fault is one of syntax.
use Rattle.std.specs.Prelude.{Some}
use Rattle.rml_base.specs.declared.place.Place.{Place}
use Rattle.rml_lex.specs.declared.piece.LexKind.{LexKind}
use Rattle.rml_lex.specs.declared.piece.LexKind.TheVariants as lexical
use Rattle.rml_lex.specs.declared.tokens.LexErr.{LexErr}
use Rattle.rml_lex.specs.declared.tokens.LexErr.TheVariants as lex_error
use Rattle.rml_grammar.specs.declared.fault.ParseKind.{ParseKind}
use Rattle.rml_grammar.specs.declared.fault.ParseKind.TheVariants as syntactic
use Rattle.rml_parse.specs.declared.answer.ParseErr.{ParseErr}
use Rattle.rml_parse.specs.declared.answer.ParseErr.TheVariants as parse_error
use Rattle.rml_stages.specs.declared.refusal.Kind.TheVariants as kind
use Rattle.rml_stages.specs.declared.refusal.Which.TheVariants as which
use Rattle.rml_stages.specs.declared.refusal.Refusal.{Refusal}
use Rattle.rml_stages.specs.declared.refusal.Refusal.TheVariants as refusal

abbrev pub misspelled : Place → LexKind → Refusal
misspelled place lexical.BadByte = refusal.Syntax place kind.BadByte
misspelled place lexical.OpenComment = refusal.Syntax place kind.OpenComment
misspelled place lexical.OpenString = refusal.Syntax place kind.OpenString
misspelled place lexical.BadEscape = refusal.Syntax place kind.BadEscape
misspelled place lexical.IntRange = refusal.Syntax place kind.IntRange
misspelled place lexical.Real = refusal.Syntax place kind.Real
misspelled place lexical.LongString = refusal.Limit (Some place) which.Literal

abbrev pub underived : Place → ParseKind → Refusal
underived place syntactic.Unexpected = refusal.Syntax place kind.Unexpected
underived place syntactic.TooDeep = refusal.Limit (Some place) which.Nesting
underived place syntactic.TooManyRules = refusal.Limit (Some place) which.Rules

-- the refusal for an answer of the lexer, and for one of the parser
abbrev pub of_lexer : LexErr → Refusal
of_lexer (lex_error.At place kind) = misspelled place kind
of_lexer lex_error.Memory = refusal.Memory

abbrev pub of_parser : ParseErr → Refusal
of_parser (parse_error.At place kind) = underived place kind
of_parser parse_error.Memory = refusal.Memory
