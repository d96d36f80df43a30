-- Cases: what a case of clause form binds at once, continuation form takes part by part.
use Rattle.std.specs.Prelude.{ℕ, suc, Bool, List, [], ◌∷◌, map}
use Rattle.rml_value.specs.declared.value.Value.{out-Value}
use Rattle.rml_terms.specs.Env.{look}
use Rattle.rml_terms.specs.Calling.{RelationCalls, with_value}
use Rattle.rml_fol.specs.declared.statements.Tag.{Tag}
use Rattle.rml_fol.specs.Expressions.{Vals}
use Rattle.rml_fol.specs.Statements as clauses
use Rattle.rml_cps.specs.declared.statements.Continuation.{Continuation}
use Rattle.rml_cps.specs.declared.statements.Stmt.TheOpen.{Stmt-F}
use Rattle.rml_cps.specs.Statements.{RelationActs, Choice, act, with_known, switched}
use Rattle.rml_tocps.specs.Carries.{take_all, AreNew}
use Rattle.rml_tocps.specs.Pass.{New}
use Rattle.rml_tocps.specs.Blocks.{OldBlock, NewBlock, BlockCarries}

-- the arguments of what y stands for, from this number on, each in a variable
abbrev pub new_fields : ℕ → ℕ → List ℕ → New
new_fields y i [] vals news onward = onward
new_fields y i (x ∷ xs) vals news onward = act vals news (Stmt-F.Field x y i) (new_fields y (suc i) xs vals news onward)

-- a case in both forms
pub record BothCase : Type 0 where
  pub tag : Tag
  pub vars : List ℕ
  pub old : OldBlock
  pub new : NewBlock

abbrev pub old_case : Vals → RelationCalls → BothCase → clauses.Choice
old_case vals olds k = record { tag = k.tag; vars = k.vars; block = k.old vals olds }

abbrev pub new_case : ℕ → Vals → RelationActs → BothCase → Choice
new_case x vals news k = record { tag = k.tag; block = new_fields x 1 k.vars vals news (k.new vals news) }

abbrev pub EachCarries : Continuation → ℕ → (ℕ → Bool) → List BothCase → Type 0
EachCarries h s p [] = Unit {0}
EachCarries h s p (k ∷ ks) = AreNew k.vars p × BlockCarries h s (take_all k.vars p) k.old k.new × EachCarries h s p ks

-- the cases of what x stands for
abbrev pub old_switch : ℕ → List BothCase → OldBlock → OldBlock
old_switch x cases otherwise vals olds bodies env store n =
    with_value (look x env) (λ v. clauses.switched (map (old_case vals olds) cases) (otherwise vals olds) (out-Value v) bodies env store) n

abbrev pub new_switch : ℕ → List BothCase → NewBlock → NewBlock
new_switch x cases otherwise vals news scope env store n =
    with_known (look x env) (λ v. switched (map (new_case x vals news) cases) (otherwise vals news) (out-Value v) scope env store) n
