use Rattle.std.proofs.Common.{◌≡◌, ℕ, drop}
use Rattle.std.specs.List.{list_all}
use Rattle.rml_types.specs.declared.form.TypeCon.{TypeCon}
use Rattle.rml_types.specs.Schemes.{names_below}
use Rattle.rml_types.proofs.scheme.are_labels_below.Given as goal

abbrev pub invariant-loop-con : goal.invariant-loop-con
invariant-loop-con l =
    list_all (λ (x : TypeCon × ℕ). names_below l.vars x.0) l.labels ≡ list_all (λ (x : TypeCon × ℕ). names_below l.vars x.0) (drop l.con-index l.labels)
