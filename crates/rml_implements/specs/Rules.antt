-- The rules by which instructions are shown to implement statements, one for each instruction and each line of continuation form.
use Rattle.std.specs.Prelude.{◌≡◌, ◌≢◌, ℕ, suc, ◌+◌, ◌-◌, ◌<◌, ◌≤◌, true, false, List, [], ◌∷◌, ◌++◌, length, Option, Some, slice_get}
use Rattle.std.specs.List.{AllByRecursion}
use Rattle.rml_value.specs.declared.value.Value.{Value}
use Rattle.rml_fol.specs.declared.terms.Expression.TheVariants as expression
use Rattle.rml_fol.specs.declared.statements.Callee.TheVariants as callee
use Rattle.rml_fol.specs.Expressions.{Vals, value_of}
use Rattle.rml_terms.specs.Env.{Env}
use Rattle.rml_fol.specs.declared.terms.Expression.{Expression}
use Rattle.rml_cps.specs.declared.statements.Continuation.{Continuation}
use Rattle.rml_cps.specs.declared.statements.Continuation.TheVariants as continuation
use Rattle.rml_cps.specs.declared.statements.Stmt.{Stmt}
use Rattle.rml_cps.specs.declared.statements.Stmt.TheVariants as stmt
use Rattle.rml_cps.specs.Weights.{entry_weight, set_weight, failure_weight, goto_weight}
use Rattle.rml_cps.specs.Statements.{RelationActs}
use Rattle.rml_code.specs.declared.instructions.Word.{Word}
use Rattle.rml_code.specs.declared.instructions.Instr.{Instr}
use Rattle.rml_code.specs.declared.instructions.Instr.TheVariants as instr
use Rattle.rml_implements.specs.Layout.{Place, in_register, Places, Has, Ready, lost, moved, taken, packed, AllKnown, Moved, Pending, Joint, Delayed, Layout, with_places, binding, naming_success, naming_failure, naming_body, NotAmong, Fewer, Resumed, Retried, Entered, Handed}
use Rattle.rml_heap.specs.Form.{form_of}
use Rattle.rml_code.specs.Effects.{word_cell}
use Rattle.rml_implements.specs.World.{word_value, IsThere}
use Rattle.rml_implements.specs.Implements.{Implements}

module _ (vals : Vals) (calls : RelationActs) (rels registers : ℕ) (constants : ℕ → Option Value) (blocks : List (List Instr)) where
  abbrev pub Does : ℕ → Layout → ℕ → List Instr → List Stmt → Type 0
  Does = Implements vals calls rels registers constants blocks

  -- ---- instructions alone

  -- a register gets what is in another one
  abbrev pub MoveRule : Type 0
  MoveRule = (at : ℕ) (l : Layout) (spare : ℕ) (is : List Instr) (body : List Stmt) (a b : ℕ) (new : Places) → a < registers → Moved (moved a b) l.places new
      → Does at (with_places new l) spare is body → Does at l spare (instr.Move a b ∷ is) body

  -- a part of a block is loaded, of a value or of a tuple that keeps values: some variable is found there
  abbrev pub LoadRule : Type 0
  LoadRule = (at : ℕ) (l : Layout) (spare : ℕ) (is : List Instr) (body : List Stmt) (x a b i : ℕ) (path : List ℕ) (new : Places) → a < registers
      → l.names.variables x ≡ true → Has l.places x (record { register = b; path = i ∷ path }) → Moved (taken a b i) l.places new
      → Does at (with_places new l) spare is body → Does at l spare (instr.Field a b i ∷ is) body

  -- registers are kept in a new tuple, which is paid by what was weighed
  abbrev pub PackRule : Type 0
  PackRule = (at : ℕ) (l : Layout) (spare : ℕ) (is : List Instr) (body : List Stmt) (a : ℕ) (rs : List ℕ) (new : Places) → a < registers → suc (length rs) ≤ spare → AllKnown rs l.names l.places → Moved (packed a rs) l.places new
      → Does at (with_places new l) (spare - suc (length rs)) is body → Does at l spare (instr.Tuple a rs ∷ is) body

  -- the last failure frame is forgotten
  abbrev pub DropRule : Type 0
  DropRule = (at : ℕ) (l : Layout) (spare : ℕ) (is : List Instr) (body : List Stmt) (f : Option Continuation) (fs : List (Option Continuation)) → l.failures ≡ f ∷ fs
      → Does at (record l { failures = fs }) spare is body → Does at l spare (instr.Drop ∷ is) body

  -- a frame is pushed for a success that is named. Its label loads registers and goes on with what implements its block
  abbrev pub SaveRule : Type 0
  SaveRule = (at : ℕ) (l : Layout) (spare : ℕ) (is : List Instr) (body : List Stmt) (k : ℕ) (p : Pending) (label : ℕ) (rs ss : List ℕ) (inner : Layout) (code : List Instr)
      → l.pending k ≡ Some p → 3 + length ss ≤ spare → slice_get blocks label ≡ Some (instr.Resume rs ∷ code) → AllByRecursion (λ r. r < registers) rs → Resumed l p rs ss inner
      → Does label inner (entry_weight (length p.params)) code p.body
      → Does at (record l { success = Some (continuation.Named k) }) (spare - (3 + length ss)) is body → Does at l spare (instr.Save label ss ∷ is) body

  -- and for a failure
  abbrev pub GuardRule : Type 0
  GuardRule = (at : ℕ) (l : Layout) (spare : ℕ) (is : List Instr) (body : List Stmt) (h : ℕ) (p : Delayed) (label : ℕ) (rs ss : List ℕ) (inner : Layout) (code : List Instr)
      → l.delayed h ≡ Some p → 5 + length ss ≤ spare → slice_get blocks label ≡ Some (instr.Retry rs ∷ code) → AllByRecursion (λ r. r < registers) rs → Retried l p rs ss inner
      → Does label inner (entry_weight 0) code p.body
      → Does at (record l { failures = Some (continuation.Named h) ∷ l.failures }) (spare - (5 + length ss)) is body → Does at l spare (instr.Guard label ss ∷ is) body

  -- a block of a greater number goes on with the same statements
  abbrev pub GotoRule : Type 0
  GotoRule = (at : ℕ) (l : Layout) (spare : ℕ) (is : List Instr) (body : List Stmt) (to : ℕ) (code : List Instr) → at < to → slice_get blocks to ≡ Some code
      → Does to l spare code body → Does at l spare (instr.Goto to ∷ is) body

  -- what is known, and what is left to spend, may be given up
  abbrev pub FewerRule : Type 0
  FewerRule = (at : ℕ) (l new : Layout) (spare less : ℕ) (is : List Instr) (body : List Stmt) → less ≤ spare → Fewer l new → Does at new less is body → Does at l spare is body

  -- ---- lines alone

  -- a success is named; its frame is pushed where it is used
  abbrev pub SuccessRule : Type 0
  SuccessRule = (at : ℕ) (l : Layout) (spare : ℕ) (is : List Instr) (k : ℕ) (params : List ℕ) (block rest : List Stmt) → l.names.successes k ≡ false → l.success ≢ Some (continuation.Named k)
      → Does at (naming_success k (record { params = params; body = block; names = l.names; time = l.time }) l) spare is rest → Does at l spare is (stmt.Success k params block ∷ rest)

  -- a failure is named; its frame is pushed before the store is changed, if it is used
  abbrev pub FailureRule : Type 0
  FailureRule = (at : ℕ) (l : Layout) (spare : ℕ) (is : List Instr) (h : ℕ) (block rest : List Stmt) → l.names.failures h ≡ false → NotAmong (continuation.Named h) l.failures
      → Does at (naming_failure h (record { body = block; names = l.names; time = l.time }) l) (failure_weight + spare) is rest → Does at l spare is (stmt.Failure h block ∷ rest)

  -- a failure that has no frame follows: its block goes on in the same turn
  abbrev pub EnterRule : Type 0
  EnterRule = (at : ℕ) (l : Layout) (spare : ℕ) (is : List Instr) (h : ℕ) (p : Delayed) (inner : Layout) (rest : List Stmt) → l.delayed h ≡ Some p → Entered l p inner
      → Does at inner (entry_weight 0 + spare) is p.body → Does at l spare is (stmt.Fail (continuation.Named h) ∷ rest)

  -- a body is named; its code is a block to which each `goto` jumps
  abbrev pub BodyRule : Type 0
  BodyRule = (at : ℕ) (l : Layout) (spare : ℕ) (is : List Instr) (j : ℕ) (params : List ℕ) (h : ℕ) (block rest : List Stmt) → l.names.bodies j ≡ false
      → Does at (naming_body j (record { params = params; handed = h; body = block; names = l.names; time = l.time }) l) spare is rest → Does at l spare is (stmt.Body j params h block ∷ rest)

  -- a variable stands for a part of what another one stands for, and is where that part is
  abbrev pub FieldRule : Type 0
  FieldRule = (at : ℕ) (l : Layout) (spare : ℕ) (is : List Instr) (x y i : ℕ) (p : Place) (rest : List Stmt) → l.names.variables x ≡ false → Has l.places y p
      → Does at (binding x (record { register = p.register; path = p.path ++ (i ∷ []) }) l.places l) spare is rest → Does at l spare is (stmt.Field x y i ∷ rest)

  -- a variable stands for what another one stands for
  abbrev pub SameRule : Type 0
  SameRule = (at : ℕ) (l : Layout) (spare : ℕ) (is : List Instr) (x y : ℕ) (p : Place) (rest : List Stmt) → l.names.variables x ≡ false → Has l.places y p
      → Does at (binding x p l.places l) spare is rest → Does at l spare is (stmt.Set x (expression.Var y) ∷ rest)

  -- ---- lines with an instruction

  -- an expression that is worth the same whatever variables stand for
  abbrev pub IsWorth : Expression → Value → Type 0
  IsWorth e v = (env : Env) → value_of vals e env ≡ Some v

  -- a variable stands for a value of one cell
  abbrev pub WordRule : Type 0
  WordRule = (at : ℕ) (l : Layout) (spare : ℕ) (is : List Instr) (x a : ℕ) (w : Word) (e : Expression) (v : Value) (new : Places) (rest : List Stmt) → a < registers → l.names.variables x ≡ false
      → IsWorth e v → word_value (form_of (word_cell w)) ≡ Some v → IsThere rels (word_cell w) → Moved (lost a) l.places new
      → Does at (binding x (in_register a) new l) (set_weight e + spare) is rest → Does at l spare (instr.Word a w ∷ is) (stmt.Set x e ∷ rest)

  -- or for a constant
  abbrev pub ConstRule : Type 0
  ConstRule = (at : ℕ) (l : Layout) (spare : ℕ) (is : List Instr) (x a k : ℕ) (e : Expression) (v : Value) (new : Places) (rest : List Stmt) → a < registers → l.names.variables x ≡ false
      → IsWorth e v → constants k ≡ Some v → Moved (lost a) l.places new
      → Does at (binding x (in_register a) new l) (set_weight e + spare) is rest → Does at l spare (instr.Const a k ∷ is) (stmt.Set x e ∷ rest)

  -- ---- the ends of a block

  abbrev pub CallRule : Type 0
  CallRule = (at : ℕ) (l : Layout) (spare : ℕ) (is : List Instr) (f : ℕ) (xs : List ℕ) (k h : Continuation) (fs : List (Option Continuation)) (rest : List Stmt) → f < rels
      → Ready 0 xs l.places → l.success ≡ Some k → l.failures ≡ Some h ∷ fs → Does at l spare (instr.Call (2 + f) ∷ is) (stmt.Call (callee.Rel f) xs k h ∷ rest)

  abbrev pub CallValueRule : Type 0
  CallValueRule = (at : ℕ) (l : Layout) (spare : ℕ) (is : List Instr) (x a : ℕ) (xs : List ℕ) (k h : Continuation) (fs : List (Option Continuation)) (rest : List Stmt)
      → Has l.places x (in_register a) → Ready 0 xs l.places → l.success ≡ Some k → l.failures ≡ Some h ∷ fs → Does at l spare (instr.CallRegister a ∷ is) (stmt.Call (callee.Var x) xs k h ∷ rest)

  abbrev pub AnswerRule : Type 0
  AnswerRule = (at : ℕ) (l : Layout) (spare : ℕ) (is : List Instr) (k : Continuation) (xs : List ℕ) (rest : List Stmt) → Ready 0 xs l.places → l.success ≡ Some k
      → Does at l spare (instr.Answer ∷ is) (stmt.Answer k xs ∷ rest)

  abbrev pub FailRule : Type 0
  FailRule = (at : ℕ) (l : Layout) (spare : ℕ) (is : List Instr) (h : Continuation) (fs : List (Option Continuation)) (rest : List Stmt) → l.failures ≡ Some h ∷ fs
      → Does at l spare (instr.Fail ∷ is) (stmt.Fail h ∷ rest)

  -- A jump to the block of a body. The last failure frame stands for the failure that is handed on.
  abbrev pub HandRule : Type 0
  HandRule = (at : ℕ) (l : Layout) (spare : ℕ) (is : List Instr) (j : ℕ) (xs : List ℕ) (h : Continuation) (fs : List (Option Continuation)) (p : Joint) (to : ℕ) (code : List Instr) (inner : Layout) (rest : List Stmt)
      → l.joints j ≡ Some p → l.failures ≡ Some h ∷ fs → at < to → slice_get blocks to ≡ Some code → Handed l p xs fs inner
      → Does to inner (goto_weight (length xs) + spare) code p.body → Does at l spare (instr.Goto to ∷ is) (stmt.Goto j xs h ∷ rest)
