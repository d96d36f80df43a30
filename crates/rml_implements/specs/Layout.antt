-- What is known at a place of the code while it is made: which names are taken, where each variable is, which continuations the last frames
-- stand for, and what is named and has no frame yet.
use Rattle.std.specs.Prelude.{◌≡◌, ◌≢◌, ◌⊎◌, ℕ, zero, suc, ◌<◌, Bool, true, false, ◌==◌, if◌then◌else◌, List, [], ◌∷◌, length, Option, Some, None, slice_get}
use Rattle.rml_cps.specs.declared.statements.Continuation.{Continuation}
use Rattle.rml_cps.specs.declared.statements.Continuation.TheVariants as continuation
use Rattle.rml_cps.specs.declared.statements.Stmt.{Stmt}

-- ---- names

-- a table with one entry more
abbrev pub with_entry : {A : Type 0} → ℕ → A → (ℕ → A) → ℕ → A
with_entry x a table y = if x == y then a else table y

-- the numbers that are taken, of variables, successes, failures and bodies: what has none of them stands for nothing
pub record Names : Type 0 where
  pub variables : ℕ → Bool
  pub successes : ℕ → Bool
  pub failures : ℕ → Bool
  pub bodies : ℕ → Bool

abbrev pub with_variable : ℕ → Names → Names
with_variable x n = record n { variables = with_entry x true n.variables }

abbrev pub with_variables : List ℕ → Names → Names
with_variables [] n = n
with_variables (x ∷ xs) n = with_variables xs (with_variable x n)

-- they are new, one after another
abbrev pub AllNew : List ℕ → Names → Type 0
AllNew [] n = Unit {0}
AllNew (x ∷ xs) n = (n.variables x ≡ false) × AllNew xs (with_variable x n)

-- ---- places

-- a variable is in a register, or is the part, the part of a part .. of the block in it, from 1
pub record Place : Type 0 where
  pub register : ℕ
  pub path : List ℕ

abbrev pub in_register : ℕ → Place
in_register r = record { register = r; path = [] }

-- a variable with one of its places; it may have several
pub record Known : Type 0 where
  pub variable : ℕ
  pub place : Place

abbrev pub Places : Type 0
Places = List Known

abbrev pub Has : Places → ℕ → Place → Type 0
Has [] x p = ⊥
Has (k ∷ ks) x p = ((k.variable ≡ x) × (k.place ≡ p)) ⊎ Has ks x p

-- all but those of x
abbrev pub without : ℕ → Places → Places
without x [] = []
without x (k ∷ ks) = if k.variable == x then without x ks else k ∷ without x ks

-- x is there, and nowhere else
abbrev pub bound_at : ℕ → Place → Places → Places
bound_at x p ps = record { variable = x; place = p } ∷ without x ps

-- parameters or results are in the registers 0, 1 ..
abbrev pub in_order : ℕ → List ℕ → Places → Places
in_order r [] ps = ps
in_order r (x ∷ xs) ps = in_order (suc r) xs (bound_at x (in_register r) ps)

-- each of the variables is in its register
abbrev pub Ready : ℕ → List ℕ → Places → Type 0
Ready r [] ps = Unit {0}
Ready r (x ∷ xs) ps = Has ps x (in_register r) × Ready (suc r) xs ps

-- ---- where what stands in the registers afterwards was before

abbrev pub Source : Type 0
Source = Place → Option Place

-- register a is written, and what it holds is known no more
abbrev pub lost : ℕ → Source
lost a p = if p.register == a then None else Some p

-- register a gets what is in register b
abbrev pub moved : ℕ → ℕ → Source
moved a b p = if p.register == a then Some (record { register = b; path = p.path }) else Some p

-- register a gets part i of the block in register b
abbrev pub taken : ℕ → ℕ → ℕ → Source
taken a b i p = if p.register == a then Some (record { register = b; path = i ∷ p.path }) else Some p

abbrev pub at_path : Option ℕ → List ℕ → Option Place
at_path None path = None
at_path (Some r) path = Some (record { register = r; path = path })

-- the register that is saved last where this one is loaded
abbrev pub saved_as : List ℕ → List ℕ → ℕ → Option ℕ
saved_as [] ss x = None
saved_as (r ∷ rs) [] x = None
saved_as (r ∷ rs) (s ∷ ss) x = if r == x then Some s else saved_as rs ss x

-- a frame saves ss, and its label's block loads rs
abbrev pub from_frame : List ℕ → List ℕ → Source
from_frame rs ss p = at_path (saved_as rs ss p.register) p.path

-- the register that is part i of a new block, from 1
abbrev pub part_register : List ℕ → ℕ → Option ℕ
part_register rs zero = None
part_register rs (suc i) = slice_get rs i

abbrev pub in_block : List ℕ → List ℕ → Option Place
in_block rs [] = None
in_block rs (i ∷ path) = at_path (part_register rs i) path

-- register a gets a new block of these registers
abbrev pub packed : ℕ → List ℕ → Source
packed a rs p = if p.register == a then in_block rs p.path else Some p

-- no register is loaded twice
abbrev pub AllOther : ℕ → List ℕ → Type 0
AllOther r [] = Unit {0}
AllOther r (s ∷ ss) = (r ≢ s) × AllOther r ss

abbrev pub AllApart : List ℕ → Type 0
AllApart [] = Unit {0}
AllApart (r ∷ rs) = AllOther r rs × AllApart rs

-- each place of the new ones was a place of the same variable before
pub record Moved (source : Source) (old new : Places) : Type 0 where
  pub from : (x : ℕ) (p : Place) → Has new x p → (q : Place) × (source p ≡ Some q) × Has old x q

-- each register is the place of a variable, or leads to one
abbrev pub AllKnown : List ℕ → Names → Places → Type 0
AllKnown [] n ps = Unit {0}
AllKnown (r ∷ rs) n ps = ((x : ℕ) × (p : Place) × (n.variables x ≡ true) × Has ps x p × (p.register ≡ r)) × AllKnown rs n ps

-- ---- what is named and has no frame

-- A success: its line, the names that were taken there, and when that was.
pub record Pending : Type 0 where
  pub params : List ℕ
  pub body : List Stmt
  pub names : Names
  pub time : ℕ

-- A body, with the name of the failure that it is handed. Its code is a block to which each `goto` jumps.
pub record Joint : Type 0 where
  pub params : List ℕ
  pub handed : ℕ
  pub body : List Stmt
  pub names : Names
  pub time : ℕ

-- A failure. While the store stays, to fail to it is to go on with its block, in the same turn and without a frame.
pub record Delayed : Type 0 where
  pub body : List Stmt
  pub names : Names
  pub time : ℕ

-- ---- all of it

pub record Layout : Type 0 where
  pub names : Names
  -- how many continuations and bodies were named
  pub time : ℕ
  pub places : Places
  -- what the last success frame stands for
  pub success : Option Continuation
  -- what the last failure frame stands for, then the one that stood before it, and so on, as far as is known
  pub failures : List (Option Continuation)
  pub pending : ℕ → Option Pending
  pub joints : ℕ → Option Joint
  pub delayed : ℕ → Option Delayed

abbrev pub with_places : Places → Layout → Layout
with_places ps l = record l { places = ps }

-- a new variable at a place
abbrev pub binding : ℕ → Place → Places → Layout → Layout
binding x p ps l = record l { names = with_variable x l.names; places = bound_at x p ps }

-- after the store was changed
abbrev pub undelayed : Layout → Layout
undelayed l = record l { delayed = λ q. None }

abbrev pub naming_success : ℕ → Pending → Layout → Layout
naming_success k p l = record l { names = record l.names { successes = with_entry k true l.names.successes }; time = suc l.time; pending = with_entry k (Some p) l.pending }

abbrev pub naming_failure : ℕ → Delayed → Layout → Layout
naming_failure h p l = record l { names = record l.names { failures = with_entry h true l.names.failures }; time = suc l.time; delayed = with_entry h (Some p) l.delayed }

abbrev pub naming_body : ℕ → Joint → Layout → Layout
naming_body j p l = record l { names = record l.names { bodies = with_entry j true l.names.bodies }; time = suc l.time; joints = with_entry j (Some p) l.joints }

-- no entry is this failure
abbrev pub NotAmong : Continuation → List (Option Continuation) → Type 0
NotAmong h [] = Unit {0}
NotAmong h (f ∷ fs) = (f ≢ Some h) × NotAmong h fs

-- nothing is known that was not known before
pub record Fewer (old new : Layout) : Type 0 where
  pub names : new.names ≡ old.names
  pub time : new.time ≡ old.time
  pub places : (x : ℕ) (p : Place) → Has new.places x p → Has old.places x p
  pub success : (k : Continuation) → new.success ≡ Some k → old.success ≡ Some k
  pub failures : new.failures ≡ old.failures
  pub pending : (q : ℕ) (p : Pending) → new.pending q ≡ Some p → old.pending q ≡ Some p
  pub joints : (q : ℕ) (p : Joint) → new.joints q ≡ Some p → old.joints q ≡ Some p
  pub delayed : (q : ℕ) (p : Delayed) → new.delayed q ≡ Some p → old.delayed q ≡ Some p

-- what was named by a time is known there still
pub record Before (l : Layout) (when : ℕ) (inner : Layout) : Type 0 where
  pub time : inner.time ≡ when
  pub success : (k : Continuation) → inner.success ≡ Some k → l.success ≡ Some k
  pub pending : (q : ℕ) (p : Pending) → inner.pending q ≡ Some p → (l.pending q ≡ Some p) × (p.time < when)
  pub joints : (q : ℕ) (p : Joint) → inner.joints q ≡ Some p → (l.joints q ≡ Some p) × (p.time < when)

-- and the failures that have no frame, while the store is as it was
abbrev pub StillDelayed : Layout → ℕ → Layout → Type 0
StillDelayed l time inner = (q : ℕ) (p : Delayed) → inner.delayed q ≡ Some p → (l.delayed q ≡ Some p) × (p.time < time)

-- The layout behind a success's label and its `resume rs`, where `save` pushed ss in layout l. The results are in the registers 0, 1 ..
pub record Resumed (l : Layout) (p : Pending) (rs ss : List ℕ) (inner : Layout) : Type 0 where
  pub lengths : length rs ≡ length ss
  pub apart : AllApart rs
  pub results : (r : ℕ) → r < length p.params → saved_as rs ss r ≡ None
  pub fresh : AllNew p.params p.names
  pub names : inner.names ≡ with_variables p.params p.names
  pub old_places : Places
  pub places : inner.places ≡ in_order 0 p.params old_places
  pub moved : Moved (from_frame rs ss) l.places old_places
  pub before : Before l p.time inner
  pub failures : inner.failures ≡ l.failures
  pub delayed : (q : ℕ) → inner.delayed q ≡ None

-- the layout behind a failure's label and its `retry rs`, where `guard` pushed ss in layout l
pub record Retried (l : Layout) (p : Delayed) (rs ss : List ℕ) (inner : Layout) : Type 0 where
  pub lengths : length rs ≡ length ss
  pub apart : AllApart rs
  pub names : inner.names ≡ p.names
  pub moved : Moved (from_frame rs ss) l.places inner.places
  pub before : Before l p.time inner
  pub failures : inner.failures ≡ l.failures
  pub delayed : StillDelayed l p.time inner

-- the layout in which a failure without a frame goes on
pub record Entered (l : Layout) (p : Delayed) (inner : Layout) : Type 0 where
  pub names : inner.names ≡ p.names
  pub places : (x : ℕ) (q : Place) → Has inner.places x q → Has l.places x q
  pub before : Before l p.time inner
  pub failures : inner.failures ≡ l.failures
  pub delayed : StillDelayed l p.time inner

-- The layout of a body's block, where a `goto` with these arguments jumps to it in layout l, and hands on the failure that the last frame
-- stands for. The arguments are in the registers 0, 1 ..
pub record Handed (l : Layout) (p : Joint) (ys : List ℕ) (fs : List (Option Continuation)) (inner : Layout) : Type 0 where
  pub ready : Ready 0 ys l.places
  pub new_failure : p.names.failures p.handed ≡ false
  pub fresh : AllNew p.params (record p.names { failures = with_entry p.handed true p.names.failures })
  pub names : inner.names ≡ with_variables p.params (record p.names { failures = with_entry p.handed true p.names.failures })
  pub old_places : Places
  pub places : inner.places ≡ in_order 0 p.params old_places
  pub old : (x : ℕ) (q : Place) → Has old_places x q → Has l.places x q
  pub before : Before l p.time inner
  pub others : NotAmong (continuation.Named p.handed) fs
  pub failures : inner.failures ≡ Some (continuation.Named p.handed) ∷ fs
  pub delayed : (q : ℕ) → inner.delayed q ≡ None
