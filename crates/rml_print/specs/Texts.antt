-- Rules, declarations and texts as lines of tokens.
use Rattle.std.specs.Prelude.{ℕ, List, [], ◌∷◌, ◌++◌, map, Option, Some, None}
use Rattle.std.specs.List.{flat_map}
use Rattle.rml_syntax.specs.declared.token.Token.{Token}
use Rattle.rml_syntax.specs.declared.token.Token.TheVariants as token
use Rattle.rml_syntax.specs.declared.token.Lit.TheVariants as lit
use Rattle.rml_syntax.specs.declared.token.Key.TheVariants as key
use Rattle.rml_syntax.specs.declared.token.Mark.TheVariants as mark
use Rattle.rml_syntax.specs.declared.rules.Exp.{Exp}
use Rattle.rml_syntax.specs.declared.rules.Goal.{Goal}
use Rattle.rml_syntax.specs.declared.rules.Rule.{Rule}
use Rattle.rml_syntax.specs.declared.types.TypeExp.{TypeExp}
use Rattle.rml_syntax.specs.declared.types.Sig.{Sig}
use Rattle.rml_syntax.specs.declared.types.TypeHead.{TypeHead}
use Rattle.rml_syntax.specs.declared.types.DataBind.{DataBind}
use Rattle.rml_syntax.specs.declared.types.ConBind.{ConBind}
use Rattle.rml_syntax.specs.declared.texts.Uses.{Uses}
use Rattle.rml_syntax.specs.declared.texts.Decl.{Decl}
use Rattle.rml_syntax.specs.declared.texts.Decl.TheVariants as decl
use Rattle.rml_syntax.specs.declared.texts.Text.{Text}
use Rattle.rml_print.specs.declared.seats.Seat.TheVariants.{Free, Factor}
use Rattle.rml_print.specs.Lines.{Line}
use Rattle.rml_print.specs.Parts.{in_round, separated, listed, tupled, results_tokens}
use Rattle.rml_print.specs.Types.{type_tokens, sig_tokens}
use Rattle.rml_print.specs.Patterns.{pattern_tokens}
use Rattle.rml_print.specs.Expressions.{exp_tokens}
use Rattle.rml_print.specs.Goals.{goals_tokens}

abbrev pub line : ℕ → List Token → Line
line indent ts = record { indent = indent; tokens = ts }

-- a name, its inputs, of which none are ( and ), and its results
abbrev pub conclusion : Rule → List Token
conclusion r = token.Name r.head ∷ tupled (map pattern_tokens r.inputs) ++ results_tokens (map exp_tokens r.results)

abbrev pub rule_lines_by : List Goal → Rule → List Line
rule_lines_by [] r = line 2 (token.Word key.KAxiom ∷ conclusion r) ∷ []
rule_lines_by (g ∷ gs) r = line 2 (token.Word key.KRule ∷ goals_tokens (g ∷ gs)) ∷ line 7 (token.Dashes 2 ∷ []) ∷ line 7 (conclusion r) ∷ []

abbrev pub rule_lines : Rule → List Line
rule_lines r = rule_lines_by r.goals r

abbrev pub variables_tokens : List ℕ → List Token
variables_tokens [] = []
variables_tokens (v ∷ []) = token.TyVar v ∷ []
variables_tokens (v ∷ w ∷ vs) = in_round (separated (token.Sign mark.Comma) (map (λ u. token.TyVar u ∷ []) (v ∷ w ∷ vs)))

abbrev pub head_tokens : TypeHead → List Token
head_tokens h = variables_tokens h.vars ++ token.Name h.name ∷ []

abbrev pub parts_tokens : List TypeExp → List Token
parts_tokens [] = []
parts_tokens (t ∷ ts) = token.Word key.KOf ∷ listed mark.Star Factor (map type_tokens (t ∷ ts))

abbrev pub constructor_tokens : ConBind → List Token
constructor_tokens c = token.Name c.name ∷ parts_tokens c.parts

abbrev pub binding_tokens : DataBind → List Token
binding_tokens d = head_tokens d.head ++ token.Sign mark.Equals ∷ separated (token.Sign mark.Bar) (map constructor_tokens d.cons)

abbrev pub datatype_tokens : List DataBind → List Token
datatype_tokens ds = token.Word key.KDatatype ∷ separated (token.Word key.KAnd) (map binding_tokens ds)

abbrev pub abbreviation_tokens : TypeHead → TypeExp → List Token
abbreviation_tokens h t = token.Word key.KType ∷ head_tokens h ++ token.Sign mark.Equals ∷ type_tokens t Free

abbrev pub typed_tokens : Option TypeExp → List Token
typed_tokens None = []
typed_tokens (Some t) = token.Sign mark.Colon ∷ type_tokens t Free

abbrev pub defined_tokens : Option Exp → List Token
defined_tokens None = []
defined_tokens (Some e) = token.Sign mark.Equals ∷ exp_tokens e Free

abbrev pub signed_tokens : Option Sig → List Token
signed_tokens None = []
signed_tokens (Some s) = token.Sign mark.Colon ∷ sig_tokens s

-- a relation with its rules, or with its signature alone
abbrev pub relation_lines : ℕ → List Token → List Rule → List Line
relation_lines margin opening [] = line margin opening ∷ []
relation_lines margin opening (r ∷ rs) = line margin (opening ++ token.Sign mark.Equals ∷ []) ∷ flat_map rule_lines (r ∷ rs) ++ line margin (token.Word key.KEnd ∷ []) ∷ []

-- a declaration behind a margin of so many blanks
abbrev pub decl_lines : ℕ → Decl → List Line
decl_lines margin (decl.Datatype ds) = line margin (datatype_tokens ds) ∷ []
decl_lines margin (decl.Abbrev h t) = line margin (abbreviation_tokens h t) ∷ []
decl_lines margin (decl.Abstype h) = line margin (token.Word key.KAbstype ∷ head_tokens h) ∷ []
decl_lines margin (decl.Val n p t e) = line margin (token.Word key.KVal ∷ token.Name n ∷ typed_tokens t ++ defined_tokens e) ∷ []
decl_lines margin (decl.Relation n p s rs) = relation_lines margin (token.Word key.KRelation ∷ token.Name n ∷ signed_tokens s) rs

abbrev pub uses_line : ℕ → Uses → Line
uses_line margin u = line margin (token.Word key.KWith ∷ token.Lit (lit.Text u.file) ∷ [])

-- `with`s, and then declarations
abbrev pub part_lines : ℕ → List Uses → List Decl → List Line
part_lines margin us ds = map (uses_line margin) us ++ flat_map (decl_lines margin) ds

abbrev pub text_lines : Text → List Line
text_lines t =
    line 0 (token.Word key.KModule ∷ token.Name t.«module» ∷ token.Sign mark.Colon ∷ [])
    ∷ part_lines 2 t.uses t.specs
    ++ line 0 (token.Word key.KEnd ∷ [])
    ∷ part_lines 0 t.body_uses t.decls
