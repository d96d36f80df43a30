-- What a relation is called with. What it answers is an `Answer`: both are values with a store. Every form of a program has calls of
-- this kind, so that the runs of one form can be compared with those of another.
use Rattle.std.specs.Prelude.{List}
use Rattle.rml_value.specs.declared.value.Value.{Value}
use Rattle.rml_builtin.specs.Applied.{Store}

pub record Called : Type 0 where
  pub values : List Value
  pub store : Store
