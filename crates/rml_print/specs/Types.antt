-- Types and signatures as tokens.
use Rattle.std.specs.Prelude.{List, [], ◌∷◌, ◌++◌}
use Rattle.std.specs.List.{flat_map}
use Rattle.rml_syntax.specs.declared.token.Token.{Token}
use Rattle.rml_syntax.specs.declared.token.Token.TheVariants as token
use Rattle.rml_syntax.specs.declared.token.Mark.TheVariants as mark
use Rattle.rml_syntax.specs.declared.types.TypeExp.{TypeExp, fold-TypeExp}
use Rattle.rml_syntax.specs.declared.types.Sig.{Sig, fold-Sig}
use Rattle.rml_syntax.specs.declared.types.TypeExp.TheOpen.{TypeExp-F, Sig-F}
use Rattle.rml_print.specs.declared.seats.Seat.TheVariants.{Free, Factor, OnlyArgument}
use Rattle.rml_print.specs.Seats.{type_shape_at}
use Rattle.rml_print.specs.Parts.{Printed, in_round, seated, listed, tupled, long_tokens}

-- the arguments before the names of a type
abbrev pub argument_tokens : List Printed → List Token
argument_tokens [] = []
argument_tokens (t ∷ []) = t OnlyArgument
argument_tokens (t ∷ u ∷ ts) = tupled (t ∷ u ∷ ts)

-- the inputs or the outputs of a signature
abbrev pub sequence_tokens : List Printed → List Token
sequence_tokens [] = in_round []
sequence_tokens (t ∷ []) = t Free
sequence_tokens (t ∷ u ∷ ts) = tupled (t ∷ u ∷ ts)

-- a type without brackets of its seat; a relation type has brackets of its own
abbrev pub bare_type : TypeExp-F Printed (List Token) → List Token
bare_type (TypeExp-F.Var v p) = token.TyVar v ∷ []
bare_type (TypeExp-F.App ts ls) = argument_tokens ts ++ flat_map long_tokens ls
bare_type (TypeExp-F.Tuple ts) = listed mark.Star Factor ts
bare_type (TypeExp-F.Rel s) = in_round s

abbrev pub type_at : TypeExp-F Printed (List Token) → Printed
type_at t = seated (type_shape_at t) (bare_type t)

abbrev pub sig_at : Sig-F Printed (List Token) → List Token
sig_at s = sequence_tokens s.inputs ++ token.Sign mark.Arrow ∷ sequence_tokens s.outputs

abbrev pub type_tokens : TypeExp → Printed
type_tokens = fold-TypeExp Printed (List Token) type_at sig_at

abbrev pub sig_tokens : Sig → List Token
sig_tokens = fold-Sig Printed (List Token) type_at sig_at
