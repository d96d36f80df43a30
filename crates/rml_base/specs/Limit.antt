-- Runs at one limit of cells. The search looks at no limit, code looks at the one that it is given, and a C text has its own
-- for good: what goes before a C text is taken at that one.
use Rattle.std.specs.Prelude.{◌≡◌, ℕ, List}
use Rattle.rml_base.specs.Bytes.{AreBytes}
use Rattle.rml_base.specs.Run.{Runs}

-- the runs at this limit, whatever limit is asked for
abbrev pub at_limit : ℕ → Runs → Runs
at_limit limit runs args cells n = runs args limit n

-- the limit of cells changes nothing
pub record LooksAtNoLimit (runs : Runs) : Type 0 where
  pub on : (args : List (List ℕ)) (cells cells' n : ℕ) → AreBytes args → runs args cells n ≡ runs args cells' n
