-- The walk over steps that gathers rows, as code goes: the scope, and the rows that were named so far.
use Rattle.std.specs.Prelude.{ℕ, Bool, nat_eq, List, [], ◌∷◌, Option, None, Some, if◌then◌else◌}
use Rattle.rml_tables.specs.Words.{with_name}
use Rattle.rml_scopes.specs.declared.world.World.{World}
use Rattle.rml_scopes.specs.Machine.{after_step}
use Rattle.rml_scopes.specs.Steps.{Step}
use Rattle.rml_values.specs.declared.values.Values.{Values}
use Rattle.rml_named.specs.declared.gathering.Gathering.{Gathering}
use Rattle.rml_named.specs.Rows.{row_at}

abbrev pub with_row : List ℕ → Option ℕ → List ℕ
with_row rows None = rows
with_row rows (Some row) = with_name nat_eq rows row

abbrev pub with_where : Bool → List ℕ → ℕ → List ℕ
with_where is_named rows row = if is_named then with_name nat_eq rows row else rows

unfoldable pub gather : World → Values → Gathering → Step → Gathering
gather w v g x = record { scope = after_step w g.scope x; rows = with_row g.rows (row_at w v g.scope x) }

-- behind some steps
abbrev pub gather_each : World → Values → Gathering → List Step → Gathering
gather_each w v g [] = g
gather_each w v g (x ∷ xs) = gather_each w v (gather w v g x) xs
