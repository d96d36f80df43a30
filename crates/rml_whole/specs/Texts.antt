-- Declarations and texts: what the grammar makes, beside its productions.
use Rattle.std.specs.Prelude.{ℕ, Bool, true, false, ◌&&◌, nat_lt, [], Option, Some, None, map}
use Rattle.std.specs.List.{list_all}
use Rattle.rml_syntax.specs.declared.texts.Decl.{Decl}
use Rattle.rml_syntax.specs.declared.texts.Decl.TheVariants as decl
use Rattle.rml_syntax.specs.declared.texts.Text.{Text}
use Rattle.rml_whole.specs.Parts.{some}
use Rattle.rml_whole.specs.Rules.{exp_is_formed, rule_is_formed}
use Rattle.rml_whole.specs.Types.{data_is_formed, head_is_formed, sig_is_formed, type_is_formed}

-- spec = datas | abbrev | `abstype` thead | `val` name `:` type | `relation` name `:` sig
abbrev pub spec_is_formed : ℕ → Decl → Bool
spec_is_formed names (decl.Datatype ds) = some (map (data_is_formed names) ds)
spec_is_formed names (decl.Abbrev h t) = head_is_formed names h && type_is_formed names t
spec_is_formed names (decl.Abstype h) = head_is_formed names h
spec_is_formed names (decl.Val n p (Some t) None) = nat_lt n names && type_is_formed names t
spec_is_formed names (decl.Relation n p (Some s) []) = nat_lt n names && sig_is_formed names s
spec_is_formed names _ = false

-- what may be left out
abbrev pub if_there : {A : Type 0} → (A → Bool) → Option A → Bool
if_there is_formed None = true
if_there is_formed (Some x) = is_formed x

-- decl = datas | abbrev | `val` name [`:` type] `=` exp | `relation` name [`:` sig] `=` clause {clause} `end`
abbrev pub decl_is_formed : ℕ → Decl → Bool
decl_is_formed names (decl.Datatype ds) = some (map (data_is_formed names) ds)
decl_is_formed names (decl.Abbrev h t) = head_is_formed names h && type_is_formed names t
decl_is_formed names (decl.Val n p t (Some e)) = nat_lt n names && if_there (type_is_formed names) t && exp_is_formed names e
decl_is_formed names (decl.Relation n p s rs) = nat_lt n names && if_there (sig_is_formed names) s && some (map (rule_is_formed names) rs)
decl_is_formed names _ = false

-- text = `module` name `:` {uses} {spec} `end` {uses} {decl}
abbrev pub text_is_formed : ℕ → Text → Bool
text_is_formed names t =
    nat_lt t.«module» names && list_all (λ u. nat_lt u.file names) t.uses && list_all (spec_is_formed names) t.specs
    && list_all (λ u. nat_lt u.file names) t.body_uses && list_all (decl_is_formed names) t.decls
