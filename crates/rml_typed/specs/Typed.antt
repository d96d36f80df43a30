-- When types of a rule's variables type its patterns, expressions and goals: a constructor a sentence. A type variable of a
-- declared type stands fixed: it is a type of its own.
use Rattle.std.specs.Prelude.{◌≡◌, ℕ, List, [], ◌∷◌, Option, Some, None, option_map, slice_get}
use Rattle.rml_syntax.specs.declared.token.Lit.{Lit}
use Rattle.rml_syntax.specs.declared.token.Lit.TheVariants as literal
use Rattle.rml_types.specs.declared.tree.SchemeTree.{SchemeTree}
use Rattle.rml_types.specs.declared.tree.SchemeTree.TheVariants as tree
use Rattle.rml_types.specs.Instances.{IsInstance}
use Rattle.rml_builtin.specs.declared.row.TheConstants.{ROWS}
use Rattle.rml_builtin.specs.Table.{type_of}
use Rattle.rml_builtin.specs.Types.{int, char, string, list}
use Rattle.rml_resolved.specs.declared.trees.RPat.{RPat}
use Rattle.rml_resolved.specs.declared.trees.RPat.TheVariants as pattern
use Rattle.rml_resolved.specs.declared.trees.RExp.{RExp}
use Rattle.rml_resolved.specs.declared.trees.RExp.TheVariants as exp
use Rattle.rml_resolved.specs.declared.trees.Callee.{Callee}
use Rattle.rml_resolved.specs.declared.trees.Callee.TheVariants as callee
use Rattle.rml_resolved.specs.declared.trees.RGoal.{RGoal}
use Rattle.rml_resolved.specs.declared.trees.RGoal.TheVariants as goal

-- a finite type for each variable of a rule
abbrev pub Assigned : Type 0
Assigned = ℕ → SchemeTree

-- the schemes of constructors and vals, by their numbers, as a text reads them
pub record Declared : Type 0 where
  pub con : ℕ → Option SchemeTree
  pub val : ℕ → Option SchemeTree

-- of which types a relation may be used, by its number
abbrev pub Uses : Type 1
Uses = ℕ → SchemeTree → Type 0

-- there is a scheme, and this is an instance of it
abbrev pub HasInstance : Option SchemeTree → SchemeTree → Type 0
HasInstance None t = ⊥
HasInstance (Some scheme) t = IsInstance scheme t

abbrev pub type_of_literal : Lit → SchemeTree
type_of_literal (literal.Int n) = int
type_of_literal (literal.Char c) = char
type_of_literal (literal.Text k) = string

-- the items of `[..]`: each is of the one type
abbrev pub AreItems : SchemeTree → List SchemeTree → Type 0
AreItems t [] = Unit {0}
AreItems t (u ∷ us) = (u ≡ t) × AreItems t us

-- the items of a chain of `::`: each is of the one type, but the last, the tail, is a list of it
abbrev pub AreChain : SchemeTree → List SchemeTree → Type 0
AreChain t [] = ⊥
AreChain t (u ∷ []) = u ≡ list t
AreChain t (u ∷ v ∷ us) = (u ≡ t) × AreChain t (v ∷ us)

-- a pattern is of a type
mutual
  pub data PatternOf (d : Declared) (G : Assigned) : RPat → SchemeTree → Type 0 where
    any : (t : SchemeTree) → PatternOf d G pattern.Any t
    lit : (l : Lit) → PatternOf d G (pattern.Lit l) (type_of_literal l)
    var : (x : ℕ) → PatternOf d G (pattern.Var x) (G x)
    con : (c : ℕ) (ps : List RPat) (ts : List SchemeTree) (t : SchemeTree) → HasInstance (d.con c) (tree.Rel ts (t ∷ [])) → PatternsOf d G ps ts → PatternOf d G (pattern.Con c ps) t
    tuple : (ps : List RPat) (ts : List SchemeTree) → PatternsOf d G ps ts → PatternOf d G (pattern.Tuple ps) (tree.Tuple ts)
    items : (ps : List RPat) (ts : List SchemeTree) (t : SchemeTree) → AreItems t ts → PatternsOf d G ps ts → PatternOf d G (pattern.List ps) (list t)
    chain : (ps : List RPat) (ts : List SchemeTree) (t : SchemeTree) → AreChain t ts → PatternsOf d G ps ts → PatternOf d G (pattern.Cons ps) (list t)
    bind : (x : ℕ) (p : RPat) → PatternOf d G p (G x) → PatternOf d G (pattern.Bind x p) (G x)

  -- patterns and types are as many, and each pattern is of its type
  pub data PatternsOf (d : Declared) (G : Assigned) : List RPat → List SchemeTree → Type 0 where
    none : PatternsOf d G [] []
    more : (p : RPat) (t : SchemeTree) (ps : List RPat) (ts : List SchemeTree) → PatternOf d G p t → PatternsOf d G ps ts → PatternsOf d G (p ∷ ps) (t ∷ ts)

-- an expression is of a type
mutual
  pub data ExpOf (d : Declared) (uses : Uses) (G : Assigned) : RExp → SchemeTree → Type 0 where
    lit : (l : Lit) → ExpOf d uses G (exp.Lit l) (type_of_literal l)
    var : (x : ℕ) → ExpOf d uses G (exp.Var x) (G x)
    val : (v : ℕ) (t : SchemeTree) → HasInstance (d.val v) t → ExpOf d uses G (exp.Val v) t
    rel : (r : ℕ) (t : SchemeTree) → uses r t → ExpOf d uses G (exp.Rel r) t
    con : (c : ℕ) (es : List RExp) (ts : List SchemeTree) (t : SchemeTree) → HasInstance (d.con c) (tree.Rel ts (t ∷ [])) → ExpsOf d uses G es ts → ExpOf d uses G (exp.Con c es) t
    tuple : (es : List RExp) (ts : List SchemeTree) → ExpsOf d uses G es ts → ExpOf d uses G (exp.Tuple es) (tree.Tuple ts)
    items : (es : List RExp) (ts : List SchemeTree) (t : SchemeTree) → AreItems t ts → ExpsOf d uses G es ts → ExpOf d uses G (exp.List es) (list t)
    chain : (es : List RExp) (ts : List SchemeTree) (t : SchemeTree) → AreChain t ts → ExpsOf d uses G es ts → ExpOf d uses G (exp.Cons es) (list t)

  pub data ExpsOf (d : Declared) (uses : Uses) (G : Assigned) : List RExp → List SchemeTree → Type 0 where
    none : ExpsOf d uses G [] []
    more : (e : RExp) (t : SchemeTree) (es : List RExp) (ts : List SchemeTree) → ExpOf d uses G e t → ExpsOf d uses G es ts → ExpsOf d uses G (e ∷ es) (t ∷ ts)

-- the type of a built-in, by its number
abbrev pub built_in_type : ℕ → Option SchemeTree
built_in_type k = option_map type_of (slice_get ROWS k)

-- a callee is of a type
abbrev pub CalleeOf : Declared → Uses → Assigned → Callee → SchemeTree → Type 0
CalleeOf d uses G (callee.Rel r) t = uses r t
CalleeOf d uses G (callee.Built k) t = HasInstance (built_in_type k) t
CalleeOf d uses G (callee.Var x) t = t ≡ G x
CalleeOf d uses G (callee.Val v) t = HasInstance (d.val v) t

-- a goal is typed: a call by a relation type whose inputs are the types of the expressions and whose outputs are those of the
-- patterns; `=` and `let` by one type on both sides; `not` by its goal; goals in brackets each
mutual
  pub data GoalOf (d : Declared) (uses : Uses) (G : Assigned) : RGoal → Type 0 where
    call : (f : Callee) (es : List RExp) (ps : List RPat) (us ws : List SchemeTree) → CalleeOf d uses G f (tree.Rel us ws) → ExpsOf d uses G es us → PatternsOf d G ps ws
        → GoalOf d uses G (goal.Call f es ps)
    equal : (a b : RExp) (t : SchemeTree) → ExpOf d uses G a t → ExpOf d uses G b t → GoalOf d uses G (goal.Equal a b)
    define : (p : RPat) (e : RExp) (t : SchemeTree) → PatternOf d G p t → ExpOf d uses G e t → GoalOf d uses G (goal.Let p e)
    negate : (g : RGoal) → GoalOf d uses G g → GoalOf d uses G (goal.Not g)
    all : (gs : List RGoal) → GoalsOf d uses G gs → GoalOf d uses G (goal.All gs)

  pub data GoalsOf (d : Declared) (uses : Uses) (G : Assigned) : List RGoal → Type 0 where
    none : GoalsOf d uses G []
    more : (g : RGoal) (gs : List RGoal) → GoalOf d uses G g → GoalsOf d uses G gs → GoalsOf d uses G (g ∷ gs)
