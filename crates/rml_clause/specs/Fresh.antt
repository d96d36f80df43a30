-- The variables that the plain form of a rule sets and receives. They come behind those of the rule, and none is bound at two places.
-- What patterns bind are the rule's own.
use Rattle.std.specs.Prelude.{◌≢◌, ℕ, ◌+◌, ◌≤◌, List, [], ◌∷◌, ◌++◌, map}
use Rattle.std.specs.List.{concat}
use Rattle.rml_resolved.specs.declared.tables.RRule.{RRule}
use Rattle.rml_fol.specs.declared.statements.Stmt.{Stmt, fold-Stmt}
use Rattle.rml_fol.specs.declared.statements.Stmt.TheOpen.{Stmt-F, Alternative-F, Case-F}
use Rattle.rml_fol.specs.declared.statements.Alternative.{Alternative, out-Alternative}

-- ---- what statements bind, by themselves

abbrev pub fresh_at : Stmt-F (List ℕ) (List ℕ) (List ℕ) → List ℕ
fresh_at (Stmt-F.Set x e) = x ∷ []
fresh_at (Stmt-F.Call f xs ys) = ys
fresh_at (Stmt-F.Builtin number xs ys) = ys
fresh_at (Stmt-F.Not block) = concat block
fresh_at (Stmt-F.Or alternatives) = concat alternatives
fresh_at (Stmt-F.Cond first second third) = concat first ++ concat second ++ concat third
fresh_at (Stmt-F.Switch x cases otherwise) = concat cases ++ concat otherwise
fresh_at (Stmt-F.Body j xs block) = xs ++ concat block
fresh_at _ = []

abbrev pub alternative_fresh_at : Alternative-F (List ℕ) (List ℕ) (List ℕ) → List ℕ
alternative_fresh_at a = concat a.block

abbrev pub case_fresh_at : Case-F (List ℕ) (List ℕ) (List ℕ) → List ℕ
case_fresh_at k = k.vars ++ concat k.block

-- the variables that a statement binds, those of patterns aside, in the order of its text
abbrev pub fresh : Stmt → List ℕ
fresh = fold-Stmt (List ℕ) (List ℕ) (List ℕ) fresh_at alternative_fresh_at case_fresh_at

abbrev pub fresh_in : List Stmt → List ℕ
fresh_in block = concat (map fresh block)

-- ---- what is asked of them

abbrev pub IsNoneOf : ℕ → List ℕ → Type 0
IsNoneOf x [] = Unit {0}
IsNoneOf x (y ∷ ys) = (x ≢ y) × IsNoneOf x ys

-- each is `from` or more, and none stands twice
abbrev pub AreFresh : ℕ → List ℕ → Type 0
AreFresh from [] = Unit {0}
AreFresh from (x ∷ xs) = (from ≤ x) × IsNoneOf x xs × AreFresh from xs

-- in the alternative of each rule: behind the parameters, which are so many, and the rule's own
abbrev pub EachFresh : ℕ → List RRule → List Alternative → Type 0
EachFresh params [] alternatives = Unit {0}
EachFresh params (r ∷ rules) [] = Unit {0}
EachFresh params (r ∷ rules) (a ∷ alternatives) = AreFresh (params + r.vars) (fresh_in (out-Alternative a).block) × EachFresh params rules alternatives
