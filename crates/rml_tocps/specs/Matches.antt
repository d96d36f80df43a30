-- Patterns: what a `match` becomes, part by part.
use Rattle.std.specs.Prelude.{◌≡◌, ℕ, suc, Bool, List, [], ◌∷◌, map, Some}
use Rattle.rml_base.specs.Run.{Rest, step}
use Rattle.rml_simulation.specs.declared.partial.Partial.{Partial}
use Rattle.rml_simulation.specs.Partial.{followed}
use Rattle.rml_simulation.specs.Simulates.{Credit, Simulates}
use Rattle.rml_value.specs.declared.value.Value.{Value}
use Rattle.rml_builtin.specs.Applied.{Store}
use Rattle.rml_terms.specs.Env.{Env, look}
use Rattle.rml_terms.specs.Matching.{Matcher}
use Rattle.rml_fol.specs.declared.statements.Tag.{Tag}
use Rattle.rml_fol.specs.Expressions.{Vals}
use Rattle.rml_fol.specs.Statements.{Given, from_match}
use Rattle.rml_cps.specs.declared.statements.Continuation.{Continuation}
use Rattle.rml_cps.specs.declared.statements.Stmt.TheOpen.{Stmt-F}
use Rattle.rml_cps.specs.Statements.{RelationActs, Scope, Doing, argument_of, in_turn, act}
use Rattle.rml_tocps.specs.Carries.{Agrees, Fails}
use Rattle.rml_tocps.specs.Pass.{New}

-- what stood for something stands for it still
pub record Extends (env e : Env) : Type 0 where
  pub at : (y : ℕ) (w : Value) → look y env ≡ Some w → look y e ≡ Some w

-- a pattern against the value v, which `found` says where to find: in both forms the same is bound, and the same fails; of what follows a
-- match it is needed that it goes on from there
abbrev pub MatchGoes : Continuation → (ℕ → Bool) → (ℕ → Bool) → Matcher → New → Value → (Env → Type 0) → Type 0
MatchGoes h p q m new v IsFound =
    (vals : Vals) (news : RelationActs) (j : ℕ) (d : Credit) (k : Given → Rest) (f : Rest) (scope : Scope) (base : Env) (store : Store) → Fails j d f scope h
    → (go : Env → ℕ → Partial Given) (onward : Doing) (env env' : Env) → IsFound env' → Agrees p base env env'
    → ((e e' : Env) → Agrees q base e e' → Extends env' e' → Simulates j d (λ n. followed (go e n) k (step f)) (onward scope e' store))
    → Simulates j d (λ n. followed (from_match (m v env) go n) k (step f)) (new vals news onward scope env' store)

-- against what x stands for
pub record Matches (h : Continuation) (p q : ℕ → Bool) (m : Matcher) (x : ℕ) (new : New) : Type 0 where
  pub by : (v : Value) → MatchGoes h p q m new v (λ env. look x env ≡ Some v)

-- tests what x stands for, and fails
abbrev pub new_test : Tag → ℕ → Continuation → New
new_test t x h vals news onward = act vals news (Stmt-F.Switch x (record { tag = t; block = onward } ∷ []) (act vals news (Stmt-F.Fail h) ∷ [])) (in_turn [])

-- ---- parts

-- a pattern as a part, with the lines that are made of it and the variables that are taken then
pub record PartOf : Type 0 where
  pub matcher : Matcher
  pub new : New
  pub taken : ℕ → Bool

-- against the argument of this number of what x stands for
pub record PartMatches (h : Continuation) (p : ℕ → Bool) (x i : ℕ) (a : PartOf) : Type 0 where
  pub by : (v w : Value) → argument_of i v ≡ Some w → MatchGoes h p a.taken a.matcher a.new w (λ env. look x env ≡ Some v)

-- from this number on
abbrev pub EachPart : Continuation → (ℕ → Bool) → ℕ → ℕ → List PartOf → Type 0
EachPart h p x i [] = Unit {0}
EachPart h p x i (a ∷ rest) = PartMatches h p x i a × EachPart h a.taken x (suc i) rest

abbrev pub parts_taken : (ℕ → Bool) → List PartOf → ℕ → Bool
parts_taken p [] = p
parts_taken p (a ∷ rest) = parts_taken a.taken rest

abbrev pub new_parts : List PartOf → New
new_parts [] vals news onward = onward
new_parts (a ∷ rest) vals news onward = a.new vals news (new_parts rest vals news onward)

abbrev pub matchers : List PartOf → List Matcher
matchers parts = map (λ (a : PartOf). a.matcher) parts

-- one argument in a variable
abbrev pub new_field : ℕ → ℕ → ℕ → New
new_field y x i vals news = act vals news (Stmt-F.Field y x i)
