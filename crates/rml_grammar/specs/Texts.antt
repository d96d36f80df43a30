-- How rules, declarations and texts are read.
use Rattle.std.specs.Prelude.{ℕ, zero, suc, ◌-◌, List, [], ◌∷◌, length, Option, Some, None, Result, Ok}
use Rattle.rml_base.specs.declared.place.Place.{Place}
use Rattle.rml_syntax.specs.declared.token.Spot.{Spot}
use Rattle.rml_syntax.specs.declared.token.Token.{Token}
use Rattle.rml_syntax.specs.declared.token.Token.TheVariants as token
use Rattle.rml_syntax.specs.declared.token.Lit.TheVariants as lit
use Rattle.rml_syntax.specs.declared.token.Key.TheVariants as key
use Rattle.rml_syntax.specs.declared.token.Mark.TheVariants as mark
use Rattle.rml_syntax.specs.declared.rules.Exp.{Exp}
use Rattle.rml_syntax.specs.declared.rules.Goal.{Goal}
use Rattle.rml_syntax.specs.declared.rules.Rule.{Rule}
use Rattle.rml_syntax.specs.declared.types.TypeExp.{TypeExp}
use Rattle.rml_syntax.specs.declared.types.TypeHead.{TypeHead}
use Rattle.rml_syntax.specs.declared.types.DataBind.{DataBind}
use Rattle.rml_syntax.specs.declared.types.ConBind.{ConBind}
use Rattle.rml_syntax.specs.declared.texts.Uses.{Uses}
use Rattle.rml_syntax.specs.declared.texts.Decl.{Decl}
use Rattle.rml_syntax.specs.declared.texts.Decl.TheVariants as decl
use Rattle.rml_syntax.specs.declared.texts.Text.{Text}
use Rattle.rml_grammar.specs.declared.front.Front.{Front}
use Rattle.rml_grammar.specs.declared.front.Front.TheVariants as front
use Rattle.rml_grammar.specs.declared.front.Opening.{Opening}
use Rattle.rml_grammar.specs.declared.front.Opening.TheVariants as opening
use Rattle.rml_grammar.specs.declared.fault.Fault.{Fault}
use Rattle.rml_grammar.specs.declared.fault.ParseKind.TheVariants as kind
use Rattle.rml_grammar.specs.Tokens.{after, after_word, front_of, opening_of, rest_of}
use Rattle.rml_grammar.specs.Trees.{Head, rule_of}
use Rattle.rml_grammar.specs.Reading.{◌>>=◌, Parser, refused, unexpected, repeated, separated, before, name_at}
use Rattle.rml_grammar.specs.Types.{tatom_at, type_at, sig_at}
use Rattle.rml_grammar.specs.Patterns.{pargs_at}
use Rattle.rml_grammar.specs.Expressions.{exp_at, eseq_at}
use Rattle.rml_grammar.specs.Goals.{goals_at}

-- a type variable
abbrev pub tyvar_by : List Spot → Front → Result (ℕ × List Spot) Fault
tyvar_by us (front.TyVar v p) = Ok (v, rest_of us)
tyvar_by us _ = unexpected us

abbrev pub tyvar_at : Parser ℕ
tyvar_at us = tyvar_by us (front_of us)

-- two type variables or more, and the closing bracket
abbrev pub tyvars_at : Parser (List ℕ)
tyvars_at us = tyvar_at us >>= before (after mark.Comma) >>= λ v. separated (after mark.Comma) tyvar_at v.1 >>= before (after mark.CloseRound) >>= λ vs. Ok (v.0 ∷ vs.0, vs.1)

abbrev pub thead_from : List ℕ → Parser TypeHead
thead_from vs us = name_at us >>= λ n. Ok (record { vars = vs; name = n.0.0; place = n.0.1 }, n.1)

-- thead
abbrev pub thead_by : List Spot → Front → Result (TypeHead × List Spot) Fault
thead_by us (front.TyVar v p) = thead_from (v ∷ []) (rest_of us)
thead_by us front.Round = tyvars_at (rest_of us) >>= λ vs. thead_from vs.0 vs.1
thead_by us _ = thead_from [] us

abbrev pub thead_at : Parser TypeHead
thead_at us = thead_by us (front_of us)

-- [`of` tatom {`*` tatom}]
abbrev pub parts_by : ℕ → List Spot → Option (List Spot) → Result (List TypeExp × List Spot) Fault
parts_by n us None = Ok ([], us)
parts_by n us (Some vs) = separated (after mark.Star) (tatom_at n) vs

-- con
abbrev pub con_at : ℕ → Parser ConBind
con_at n us = name_at us >>= λ c. parts_by n c.1 (after_word key.KOf c.1) >>= λ ts. Ok (record { name = c.0.0; place = c.0.1; parts = ts.0 }, ts.1)

-- data
abbrev pub data_at : ℕ → Parser DataBind
data_at n us = thead_at us >>= before (after mark.Equals) >>= λ h. separated (after mark.Bar) (con_at n) h.1 >>= λ cs. Ok (record { head = h.0; cons = cs.0 }, cs.1)

-- datas, behind its word
abbrev pub datas_at : ℕ → Parser Decl
datas_at n us = separated (after_word key.KAnd) (data_at n) us >>= λ ds. Ok (decl.Datatype ds.0, ds.1)

-- abbrev, behind its word
abbrev pub abbrev_at : ℕ → Parser Decl
abbrev_at n us = thead_at us >>= before (after mark.Equals) >>= λ h. type_at n h.1 >>= λ t. Ok (decl.Abbrev h.0 t.0, t.1)

-- the other parts of spec, behind their words
abbrev pub abstype_at : Parser Decl
abstype_at us = thead_at us >>= λ h. Ok (decl.Abstype h.0, h.1)

abbrev pub val_spec_at : ℕ → Parser Decl
val_spec_at n us = name_at us >>= before (after mark.Colon) >>= λ x. type_at n x.1 >>= λ t. Ok (decl.Val x.0.0 x.0.1 (Some t.0) None, t.1)

abbrev pub relation_spec_at : ℕ → Parser Decl
relation_spec_at n us = name_at us >>= before (after mark.Colon) >>= λ x. sig_at n x.1 >>= λ s. Ok (decl.Relation x.0.0 x.0.1 (Some s.0) [], s.1)

-- spec
abbrev pub spec_by : ℕ → List Spot → Opening → Result (Decl × List Spot) Fault
spec_by n us opening.Datatype = datas_at n (rest_of us)
spec_by n us opening.Type = abbrev_at n (rest_of us)
spec_by n us opening.Abstype = abstype_at (rest_of us)
spec_by n us opening.Val = val_spec_at n (rest_of us)
spec_by n us opening.Relation = relation_spec_at n (rest_of us)
spec_by n us _ = unexpected us

abbrev pub spec_at : ℕ → Parser Decl
spec_at n us = spec_by n us (opening_of us)

-- [`=>` eseq]
abbrev pub rule_results_by : ℕ → List Spot → Option (List Spot) → Result (List Exp × List Spot) Fault
rule_results_by n us None = Ok ([], us)
rule_results_by n us (Some vs) = eseq_at n vs

abbrev pub rule_results_at : ℕ → Parser (List Exp)
rule_results_at n us = rule_results_by n us (after mark.Arrow us)

abbrev pub head_at : ℕ → Parser Head
head_at n us = name_at us >>= λ h. pargs_at n h.1 >>= λ ps. rule_results_at n ps.1 >>= λ es. Ok ((h.0, ps.0, es.0), es.1)

-- and then dashes
abbrev pub then_dashes : {A : Type 0} → A → List Spot → Front → Result (A × List Spot) Fault
then_dashes x us front.Dashes = Ok (x, rest_of us)
then_dashes x us _ = unexpected us

-- [goals] dashes
abbrev pub premises_by : ℕ → List Spot → Front → Result (List Goal × List Spot) Fault
premises_by n us front.Dashes = Ok ([], rest_of us)
premises_by n us f = goals_at n us >>= λ gs. then_dashes gs.0 gs.1 (front_of gs.1)

abbrev pub premises_at : ℕ → Parser (List Goal)
premises_at n us = premises_by n us (front_of us)

-- clause
abbrev pub clause_by : ℕ → List Spot → Opening → Result (Rule × List Spot) Fault
clause_by n us (opening.Axiom p) = head_at n (rest_of us) >>= λ h. Ok (rule_of p [] h.0 (length us - length h.1), h.1)
clause_by n us (opening.Rule p) = premises_at n (rest_of us) >>= λ gs. head_at n gs.1 >>= λ h. Ok (rule_of p gs.0 h.0 (length us - length h.1), h.1)
clause_by n us _ = unexpected us

abbrev pub clause_at : ℕ → Parser Rule
clause_at n us = clause_by n us (opening_of us)

-- where a clause begins, the list itself
abbrev pub clause_next_by : List Spot → Opening → Option (List Spot)
clause_next_by us (opening.Axiom p) = Some us
clause_next_by us (opening.Rule p) = Some us
clause_next_by us _ = None

abbrev pub clause_next : List Spot → Option (List Spot)
clause_next us = clause_next_by us (opening_of us)

-- {clause}, where at most so many may still come
unfoldable pub clauses_at : ℕ → ℕ → Parser (List Rule)
clauses_at n zero us = elim (clause_next us) [
  | None ↦ Ok ([], us)
  | Some vs ↦ refused kind.TooManyRules us
]
clauses_at n (suc k) us = elim (clause_next us) [
  | None ↦ Ok ([], us)
  | Some vs ↦ clause_at n vs >>= λ r. clauses_at n k r.1 >>= λ rs. Ok (r.0 ∷ rs.0, rs.1)
]

-- clause {clause} `end`, of at most k and one clauses
abbrev pub rules_at : ℕ → ℕ → Parser (List Rule)
rules_at n k us = clause_at n us >>= λ r. clauses_at n k r.1 >>= before (after_word key.KEnd) >>= λ rs. Ok (r.0 ∷ rs.0, rs.1)

-- [`:` type], [`:` sig]
abbrev pub optional_by : {A : Type 0} → Parser A → List Spot → Option (List Spot) → Result (Option A × List Spot) Fault
optional_by p us None = Ok (None, us)
optional_by p us (Some vs) = p vs >>= λ t. Ok (Some t.0, t.1)

-- the parts of decl that are their own, behind their words
abbrev pub val_at : ℕ → Parser Decl
val_at n us = name_at us >>= λ x. optional_by (type_at n) x.1 (after mark.Colon x.1) >>= before (after mark.Equals) >>= λ t. exp_at n t.1 >>= λ e. Ok (decl.Val x.0.0 x.0.1 t.0 (Some e.0), e.1)

abbrev pub relation_at : ℕ → ℕ → Parser Decl
relation_at n k us = name_at us >>= λ x. optional_by (sig_at n) x.1 (after mark.Colon x.1) >>= before (after mark.Equals) >>= λ s. rules_at n k s.1 >>= λ rs. Ok (decl.Relation x.0.0 x.0.1 s.0 rs.0, rs.1)

-- decl
abbrev pub decl_by : ℕ → ℕ → List Spot → Opening → Result (Decl × List Spot) Fault
decl_by n k us opening.Datatype = datas_at n (rest_of us)
decl_by n k us opening.Type = abbrev_at n (rest_of us)
decl_by n k us opening.Val = val_at n (rest_of us)
decl_by n k us opening.Relation = relation_at n k (rest_of us)
decl_by n k us _ = unexpected us

abbrev pub decl_at : ℕ → ℕ → Parser Decl
decl_at n k us = decl_by n k us (opening_of us)

-- where a spec, a decl or a `with` begins, the list itself
abbrev pub spec_next_by : List Spot → Opening → Option (List Spot)
spec_next_by us opening.Datatype = Some us
spec_next_by us opening.Type = Some us
spec_next_by us opening.Abstype = Some us
spec_next_by us opening.Val = Some us
spec_next_by us opening.Relation = Some us
spec_next_by us _ = None

abbrev pub spec_next : List Spot → Option (List Spot)
spec_next us = spec_next_by us (opening_of us)

abbrev pub decl_next_by : List Spot → Opening → Option (List Spot)
decl_next_by us opening.Datatype = Some us
decl_next_by us opening.Type = Some us
decl_next_by us opening.Val = Some us
decl_next_by us opening.Relation = Some us
decl_next_by us _ = None

abbrev pub decl_next : List Spot → Option (List Spot)
decl_next us = decl_next_by us (opening_of us)

abbrev pub uses_next_by : List Spot → Opening → Option (List Spot)
uses_next_by us (opening.With p) = Some us
uses_next_by us _ = None

abbrev pub uses_next : List Spot → Option (List Spot)
uses_next us = uses_next_by us (opening_of us)

-- the text literal of a `with`
abbrev pub file_in : List Spot → Token → List Spot → Result (ℕ × List Spot) Fault
file_in whole (token.Lit (lit.Text f)) us = Ok (f, us)
file_in whole _ us = unexpected whole

abbrev pub file_at : Parser ℕ
file_at [] = unexpected []
file_at (s ∷ us) = file_in (s ∷ us) s.token us

-- uses
abbrev pub uses_by : List Spot → Opening → Result (Uses × List Spot) Fault
uses_by us (opening.With p) = file_at (rest_of us) >>= λ f. Ok (record { file = f.0; place = p }, f.1)
uses_by us _ = unexpected us

abbrev pub uses_at : Parser Uses
uses_at us = uses_by us (opening_of us)

-- `module` name `:`
abbrev pub module_by : List Spot → Option (List Spot) → Result ((ℕ × Place) × List Spot) Fault
module_by us None = unexpected us
module_by us (Some vs) = name_at vs >>= before (after mark.Colon)

abbrev pub module_at : Parser (ℕ × Place)
module_at us = module_by us (after_word key.KModule us)

-- {uses} {spec} `end`
abbrev pub interface_at : ℕ → Parser (List Uses × List Decl)
interface_at n us = repeated uses_next uses_at us >>= λ fs. repeated spec_next (spec_at n) fs.1 >>= before (after_word key.KEnd) >>= λ ds. Ok ((fs.0, ds.0), ds.1)

-- {uses} {decl}
abbrev pub body_at : ℕ → ℕ → Parser (List Uses × List Decl)
body_at n k us = repeated uses_next uses_at us >>= λ fs. repeated decl_next (decl_at n k) fs.1 >>= λ ds. Ok ((fs.0, ds.0), ds.1)

-- text, with its end place
unfoldable pub text_at : Place → ℕ → ℕ → Parser Text
text_at end n k us = module_at us >>= λ m. interface_at n m.1 >>= λ i. body_at n k i.1 >>= λ b.
    Ok (record { «module» = m.0.0; place = m.0.1; end = end; uses = i.0.0; specs = i.0.1; body_uses = b.0.0; decls = b.0.1 }, b.1)

-- and nothing behind it
abbrev pub whole_by : Text → List Spot → Result Text Fault
whole_by t [] = Ok t
whole_by t (s ∷ us) = unexpected (s ∷ us)

unfoldable pub whole_text : Place → ℕ → ℕ → List Spot → Result Text Fault
whole_text end n k us = text_at end n k us >>= λ t. whole_by t.0 t.1
