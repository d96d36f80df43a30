-- The labels of types with each variable numbered by its place among those that came before it.
use Rattle.std.specs.Prelude.{ℕ, List, [], ◌∷◌, ◌++◌, nat_eq, if◌then◌else◌}
use Rattle.std.specs.List.{list_any}
use Rattle.rml_types.specs.Labels.{Label}
use Rattle.rml_types.specs.Spelled.{place}
use Rattle.rml_types.specs.declared.form.TypeCon.{TypeCon}
use Rattle.rml_types.specs.declared.form.TypeCon.TheVariants as con

-- a constructor, where a variable has the number of its place among some
abbrev pub numbered_con : List ℕ → TypeCon → TypeCon
numbered_con vars (con.Named c) = con.Named c
numbered_con vars (con.Fixed k) = con.Fixed (place vars k)
numbered_con vars con.Tuple = con.Tuple
numbered_con vars (con.Rel inputs) = con.Rel inputs

abbrev pub numbered_label : List ℕ → Label → Label
numbered_label vars l = (numbered_con vars l.0, l.1)

-- some variables, and that of a constructor behind them where it is a further one
abbrev pub vars_after : List ℕ → TypeCon → List ℕ
vars_after vars (con.Named c) = vars
vars_after vars (con.Fixed k) = if list_any (nat_eq k) vars then vars else vars ++ k ∷ []
vars_after vars con.Tuple = vars
vars_after vars (con.Rel inputs) = vars

-- labels in which each variable has the number of its place, where some variables came before
abbrev pub numbered : List ℕ → List Label → List Label
numbered vars [] = []
numbered vars (l ∷ ls) = numbered_label vars l ∷ numbered (vars_after vars l.0) ls
