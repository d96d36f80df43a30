-- A built-in that is called as it is declared gives one result at most, since each row of the table does.
use Rattle.std.proofs.Common.{◌≡◌, ℕ, ◌≤◌, Bool, true, false, length, Option, Some, None, arith}
use Rattle.std.specs.Prelude.{◌&&◌, ◌==◌}
use Rattle.std.proofs.lemmas.Bool.{eqb-true}
use Rattle.rml_builtin.specs.declared.row.Row.{Row}
use Rattle.rml_builtin.specs.declared.row.Row.TheVariants.{LvarSet, Print}
use Rattle.rml_builtin.specs.Table.{inputs_of, outputs_of}
use Rattle.rml_fol.specs.Fits.{row_takes_and_gives}

outputs-few : (row : Row) → length (outputs_of row) ≤ 1
outputs-few LvarSet = omega arith
outputs-few Print = omega arith
outputs-few _ = omega arith

second-holds : (a b : Bool) → (a && b) ≡ true → b ≡ true
second-holds true b h = h
second-holds false b h = absurd (cc)

pub row-few : (o : Option Row) (taken given : ℕ) → row_takes_and_gives taken given o ≡ true → given ≤ 1
row-few None taken given h = absurd (cc)
row-few (Some row) taken given h =
    let same = eqb-true (length (outputs_of row)) given (second-holds (length (inputs_of row) == taken) (length (outputs_of row) == given) h) in
    let few = outputs-few row in
    omega (arith, same, few)
