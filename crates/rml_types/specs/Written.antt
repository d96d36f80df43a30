-- Types of nodes written out, so many levels deep.
use Rattle.std.specs.Prelude.{ℕ, zero, suc, map, Option, Some, None}
use Rattle.rml_types.specs.declared.form.Form.{Form}
use Rattle.rml_types.specs.declared.tree.SchemeTree.{SchemeTree}
use Rattle.rml_types.specs.Finite.{built}
use Rattle.rml_types.specs.Schemes.{unit}

-- one level: the form of a class over the types of nodes, or the leaf of a class without one
abbrev pub level : (ℕ → SchemeTree) → (ℕ → SchemeTree) → ℕ → Option Form → SchemeTree
level leaf below c None = leaf c
level leaf below c (Some f) = built f.con (map below f.args)

-- the type of a node, from its class and what is known of it
abbrev pub written : (ℕ → SchemeTree) → (ℕ → ℕ) → (ℕ → Option Form) → ℕ → ℕ → SchemeTree
written leaf root known zero n = unit
written leaf root known (suc k) n = level leaf (written leaf root known k) (root n) (known (root n))
