-- Types and signatures, and what declares types: what the grammar makes, beside its productions.
use Rattle.std.specs.Prelude.{ℕ, Bool, ◌&&◌, nat_lt, map}
use Rattle.std.specs.List.{list_all}
use Rattle.rml_syntax.specs.declared.types.TypeExp.{TypeExp, fold-TypeExp}
use Rattle.rml_syntax.specs.declared.types.TypeExp.TheOpen.{TypeExp-F, Sig-F}
use Rattle.rml_syntax.specs.declared.types.Sig.{Sig, fold-Sig}
use Rattle.rml_syntax.specs.declared.types.TypeHead.{TypeHead}
use Rattle.rml_syntax.specs.declared.types.ConBind.{ConBind}
use Rattle.rml_syntax.specs.declared.types.DataBind.{DataBind}
use Rattle.rml_whole.specs.Parts.{all, long_is_formed, some, two_or_more}

-- a type variable, a product of two types or more, or types with one name or more behind them
abbrev pub type_formed_at : ℕ → TypeExp-F Bool Bool → Bool
type_formed_at names (TypeExp-F.Var v p) = nat_lt v names
type_formed_at names (TypeExp-F.App ts ls) = all ts && some (map (long_is_formed names) ls)
type_formed_at names (TypeExp-F.Tuple ts) = two_or_more ts
type_formed_at names (TypeExp-F.Rel s) = s

-- sig = tseq `=>` tseq
abbrev pub sig_formed_at : Sig-F Bool Bool → Bool
sig_formed_at s = all s.inputs && all s.outputs

abbrev pub type_is_formed : ℕ → TypeExp → Bool
type_is_formed names = fold-TypeExp Bool Bool (type_formed_at names) sig_formed_at

abbrev pub sig_is_formed : ℕ → Sig → Bool
sig_is_formed names = fold-Sig Bool Bool (type_formed_at names) sig_formed_at

-- thead = [tyvar | `(` tyvar `,` tyvar {`,` tyvar} `)`] name
abbrev pub head_is_formed : ℕ → TypeHead → Bool
head_is_formed names h = list_all (λ v. nat_lt v names) h.vars && nat_lt h.name names

-- con = name [`of` tatom {`*` tatom}]
abbrev pub con_is_formed : ℕ → ConBind → Bool
con_is_formed names c = nat_lt c.name names && list_all (type_is_formed names) c.parts

-- data = thead `=` con {`|` con}
abbrev pub data_is_formed : ℕ → DataBind → Bool
data_is_formed names d = head_is_formed names d.head && some (map (con_is_formed names) d.cons)
