-- The rows over integers, by what they calculate.
use Rattle.std.proofs.Common.{◌≡◌, ◌≢◌, ℕ, ◌<◌, inl, inr, arith, List, [], ◌∷◌, Bool, true, false, Option, Some, None, length, get_or, refl, sym, ap, subst, ◌∙◌}
use Rattle.std.proofs.lemmas.Bool.Decides.{leb_tells}
use Rattle.std.specs.Prelude.{if◌then◌else◌, nat_le, ℤ, pos, negsuc, ◌+ℤ◌, ◌-ℤ◌, ◌*ℤ◌, neg_ℤ, int_div}
use Rattle.std.specs.Option.{option_map}
use Rattle.std.specs.Ordering.{int_eq}
use Rattle.rml_value.specs.declared.value.Value.{Value}
use Rattle.rml_value.specs.declared.value.Value.TheVariants as value
use Rattle.rml_value.specs.declared.value.TheConstants.{FALSE, TRUE}
use Rattle.rml_value.specs.Range.{is_integer}
use Rattle.rml_builtin.specs.declared.row.Row.{Row}
use Rattle.rml_builtin.specs.declared.row.Row.TheVariants.{StringInt, IntAdd, IntSub, IntMul, IntDiv, IntMod, IntNeg, IntAbs, IntMax, IntMin, IntLt, IntLe, IntGt, IntGe, IntEq, IntNe, IntChar, CharInt, StringLength, StringNth, VectorLength, VectorNth}
use Rattle.rml_builtin.specs.declared.applied.Applied.{Applied}
use Rattle.rml_builtin.specs.declared.applied.Applied.TheVariants.{No, Wrong}
use Rattle.rml_builtin.specs.Applied.{Store, gives_one, ranged, truth, or_no, or_wrong}
use Rattle.rml_builtin.specs.Arguments.{int_of, char_of, one, two}
use Rattle.rml_builtin.specs.Decimal.{integer_of}
use Rattle.rml_builtin.specs.Texts.{char_from}
use Rattle.rml_builtin.specs.Integers.{absolute}
use Rattle.rml_builtin.specs.BuiltIns.{apply}
use Rattle.rml_heap.specs.declared.cell.Cell.{Cell}
use Rattle.rml_heap.specs.Reading.{AllStand}
use Rattle.rml_prims.specs.Calculated.{IsCalculation, IsTurn, IsComparison, IsOverInts, TakesInts, char_numbered, calculated, turned, compared}
use Rattle.rml_prims.specs.Shapes.{OneChar, OneInt, TwoInts, int_cell, char_cell, con_cell}
use Rattle.rml_prims.specs.Found.{CanApply, IsFinding, IsFound, Finds}
use Rattle.rml_prims.proofs.PlainCells.{char-cell, char-stands, char-value, con-stands, int-cell, int-stands, int-value}
use Rattle.rml_prims.proofs.LaidCells.{LaysPlain, char-laid, con-laid, int-laid}
use Rattle.rml_prims.proofs.Arguments.{One, Two, one-told, two-told, wrong-same, one-given, two-given, one-cells, two-cells, one-values, two-values}

-- an integer, or no answer
abbrev pub int_or_no : Store → Option ℤ → Applied
int_or_no store o = or_no o (λ i. gives_one (value.Int i) store)

pub ranged-is : (n : ℤ) (store : Store) → ranged n store ≡ int_or_no store (integer_of n)
ranged-is n store = pick (is_integer n)
  where
    pick : (b : Bool) → (if b then gives_one (value.Int n) store else No) ≡ int_or_no store (if b then Some n else None)
    pick true = refl
    pick false = refl

divided-is : (b : Bool) (n : ℤ) (store : Store) → (if b then No else ranged n store) ≡ int_or_no store (if b then None else integer_of n)
divided-is true n store = refl
divided-is false n store = ranged-is n store

remaining-is : (b : Bool) (n : ℤ) (store : Store) → (if b then No else gives_one (value.Int n) store) ≡ int_or_no store (if b then None else Some n)
remaining-is true n store = refl
remaining-is false n store = refl

pub calculates : (row : Row) (vs : List Value) (store : Store) → IsCalculation row → apply row vs store ≡ or_wrong (two int_of int_of vs) (λ p. int_or_no store (calculated row p.0 p.1))
calculates IntAdd vs store is = wrong-same (two int_of int_of vs) _ _ (λ p. ranged-is (p.0 +ℤ p.1) store)
calculates IntSub vs store is = wrong-same (two int_of int_of vs) _ _ (λ p. ranged-is (p.0 -ℤ p.1) store)
calculates IntMul vs store is = wrong-same (two int_of int_of vs) _ _ (λ p. ranged-is (p.0 *ℤ p.1) store)
calculates IntDiv vs store is = wrong-same (two int_of int_of vs) _ _ (λ p. divided-is (int_eq p.1 (pos 0)) (int_div p.0 p.1) store)
calculates IntMod vs store is = wrong-same (two int_of int_of vs) _ _ (λ p. remaining-is (int_eq p.1 (pos 0)) (p.0 -ℤ (p.1 *ℤ int_div p.0 p.1)) store)
calculates IntMax vs store is = refl
calculates IntMin vs store is = refl
calculates _ vs store is = absurd is

pub turns : (row : Row) (vs : List Value) (store : Store) → IsTurn row → apply row vs store ≡ or_wrong (one int_of vs) (λ n. int_or_no store (turned row n))
turns IntNeg vs store is = wrong-same (one int_of vs) _ _ (λ n. ranged-is (neg_ℤ n) store)
turns IntAbs vs store is = wrong-same (one int_of vs) _ _ (λ n. ranged-is (absolute n) store)
turns _ vs store is = absurd is

pub compares : (row : Row) (vs : List Value) (store : Store) → IsComparison row → apply row vs store ≡ or_wrong (two int_of int_of vs) (λ p. truth (compared row p.0 p.1) store)
compares IntLt vs store is = refl
compares IntLe vs store is = refl
compares IntGt vs store is = refl
compares IntGe vs store is = refl
compares IntEq vs store is = refl
compares IntNe vs store is = refl
compares _ vs store is = absurd is

-- ---- arguments that are integers

two-ints : (cells : List Cell) (names : List ℕ) (inputs : List Cell) (vs : List Value) → AllStand cells names (length cells) inputs vs → Two int_of int_of vs → TwoInts inputs
two-ints cells names inputs vs stand two =
    let P : List Value → Type 0 = λ ws. AllStand cells names (length cells) inputs ws in
    let told = two-cells cells names (length cells) inputs two.v two.w (subst P two.is stand) in
    let first : told.0 ≡ int_cell two.x = int-cell cells names (length cells) told.0 two.v two.x two.first told.3 in
    let second : told.1 ≡ int_cell two.y = int-cell cells names (length cells) told.1 two.w two.y two.second told.4 in
    record { m = two.x; n = two.y; is = told.2 ∙ ap (λ (c : Cell). c ∷ told.1 ∷ []) first ∙ ap (λ (c : Cell). int_cell two.x ∷ c ∷ []) second }

pub one-int : (cells : List Cell) (names : List ℕ) (inputs : List Cell) (vs : List Value) → AllStand cells names (length cells) inputs vs → One int_of vs → OneInt inputs
one-int cells names inputs vs stand one =
    let P : List Value → Type 0 = λ ws. AllStand cells names (length cells) inputs ws in
    let told = one-cells cells names (length cells) inputs one.v (subst P one.is stand) in
    let first : told.0 ≡ int_cell one.x = int-cell cells names (length cells) told.0 one.v one.x one.first told.2 in
    record { n = one.x; is = told.1 ∙ ap (λ (c : Cell). c ∷ []) first }

pub calculation-ints : (row : Row) (cells inputs : List Cell) → IsCalculation row → CanApply row cells inputs → TwoInts inputs
calculation-ints row cells inputs is can =
    let P : Applied → Type 0 = λ a. a ≢ Wrong in
    two-ints cells can.names inputs can.values can.stand (two-told int_of int_of can.values _ (subst P (calculates row can.values can.store is) can.right))

pub comparison-ints : (row : Row) (cells inputs : List Cell) → IsComparison row → CanApply row cells inputs → TwoInts inputs
comparison-ints row cells inputs is can =
    let P : Applied → Type 0 = λ a. a ≢ Wrong in
    two-ints cells can.names inputs can.values can.stand (two-told int_of int_of can.values _ (subst P (compares row can.values can.store is) can.right))

pub turn-int : (row : Row) (cells inputs : List Cell) → IsTurn row → CanApply row cells inputs → OneInt inputs
turn-int row cells inputs is can =
    let P : Applied → Type 0 = λ a. a ≢ Wrong in
    one-int cells can.names inputs can.values can.stand (one-told int_of can.values _ (subst P (turns row can.values can.store is) can.right))

-- ---- what is found

calculation-plain : (row : Row) → IsCalculation row → LaysPlain row
calculation-plain IntAdd is = λ cs inputs v. refl
calculation-plain IntSub is = λ cs inputs v. refl
calculation-plain IntMul is = λ cs inputs v. refl
calculation-plain IntDiv is = λ cs inputs v. refl
calculation-plain IntMod is = λ cs inputs v. refl
calculation-plain IntMax is = λ cs inputs v. refl
calculation-plain IntMin is = λ cs inputs v. refl
calculation-plain _ is = absurd is

turn-plain : (row : Row) → IsTurn row → LaysPlain row
turn-plain IntNeg is = λ cs inputs v. refl
turn-plain IntAbs is = λ cs inputs v. refl
turn-plain _ is = absurd is

comparison-plain : (row : Row) → IsComparison row → LaysPlain row
comparison-plain IntLt is = λ cs inputs v. refl
comparison-plain IntLe is = λ cs inputs v. refl
comparison-plain IntGt is = λ cs inputs v. refl
comparison-plain IntGe is = λ cs inputs v. refl
comparison-plain IntEq is = λ cs inputs v. refl
comparison-plain IntNe is = λ cs inputs v. refl
comparison-plain _ is = absurd is

pub found-int : (row : Row) → LaysPlain row → (cells inputs : List Cell) (names : List ℕ) (store : Store) (o : Option ℤ) → IsFound row cells inputs names store (int_or_no store o) (option_map int_cell o)
found-int row plain cells inputs names store None = tt
found-int row plain cells inputs names store (Some i) = (refl, (int-stands cells names (length cells) i, tt), int-laid row plain cells inputs i)

found-truth : (row : Row) → LaysPlain row → (cells inputs : List Cell) (names : List ℕ) (store : Store) (b : Bool) → IsFound row cells inputs names store (truth b store) (Some (con_cell (if b then TRUE else FALSE)))
found-truth row plain cells inputs names store b = (refl, (con-stands cells names (length cells) (if b then TRUE else FALSE), tt), con-laid row plain cells inputs (if b then TRUE else FALSE))

-- the values of two cells of integers
two-ints-given : (cells : List Cell) (names : List ℕ) (inputs : List Cell) (vs : List Value) (t : TwoInts inputs) → AllStand cells names (length cells) inputs vs → (go : ℤ × ℤ → Applied) → or_wrong (two int_of int_of vs) go ≡ go (t.m, t.n)
two-ints-given cells names inputs vs t stand go =
    let P : List Cell → Type 0 = λ cs. AllStand cells names (length cells) cs vs in
    let told = two-values cells names (length cells) (int_cell t.m) (int_cell t.n) vs (subst P t.is stand) in
    ap (λ ws. or_wrong (two int_of int_of ws) go) told.2
    ∙ two-given int_of int_of go told.0 told.1 t.m t.n (int-value cells names (length cells) t.m told.0 told.3) (int-value cells names (length cells) t.n told.1 told.4)

one-int-given : (cells : List Cell) (names : List ℕ) (inputs : List Cell) (vs : List Value) (t : OneInt inputs) → AllStand cells names (length cells) inputs vs → (go : ℤ → Applied) → or_wrong (one int_of vs) go ≡ go t.n
one-int-given cells names inputs vs t stand go =
    let P : List Cell → Type 0 = λ cs. AllStand cells names (length cells) cs vs in
    let told = one-values cells names (length cells) (int_cell t.n) vs (subst P t.is stand) in
    ap (λ ws. or_wrong (one int_of ws) go) told.1
    ∙ one-given int_of go told.0 t.n (int-value cells names (length cells) t.n told.0 told.2)

pub calculation-finds : (row : Row) (inputs : List Cell) → IsCalculation row → (t : TwoInts inputs) → (cells : List Cell) → Finds row cells inputs (option_map int_cell (calculated row t.m t.n))
calculation-finds row inputs is t cells names store vs stand =
    let P : Applied → Type 0 = λ a. IsFound row cells inputs names store a (option_map int_cell (calculated row t.m t.n)) in
    let same : apply row vs store ≡ int_or_no store (calculated row t.m t.n) = calculates row vs store is ∙ two-ints-given cells names inputs vs t stand (λ p. int_or_no store (calculated row p.0 p.1)) in
    subst P (sym same) (found-int row (calculation-plain row is) cells inputs names store (calculated row t.m t.n))

pub turn-finds : (row : Row) (inputs : List Cell) → IsTurn row → (t : OneInt inputs) → (cells : List Cell) → Finds row cells inputs (option_map int_cell (turned row t.n))
turn-finds row inputs is t cells names store vs stand =
    let P : Applied → Type 0 = λ a. IsFound row cells inputs names store a (option_map int_cell (turned row t.n)) in
    let same : apply row vs store ≡ int_or_no store (turned row t.n) = turns row vs store is ∙ one-int-given cells names inputs vs t stand (λ n. int_or_no store (turned row n)) in
    subst P (sym same) (found-int row (turn-plain row is) cells inputs names store (turned row t.n))

pub comparison-finds : (row : Row) (inputs : List Cell) → IsComparison row → (t : TwoInts inputs) → (cells : List Cell) → Finds row cells inputs (Some (con_cell (if compared row t.m t.n then TRUE else FALSE)))
comparison-finds row inputs is t cells names store vs stand =
    let P : Applied → Type 0 = λ a. IsFound row cells inputs names store a (Some (con_cell (if compared row t.m t.n then TRUE else FALSE))) in
    let same : apply row vs store ≡ truth (compared row t.m t.n) store = compares row vs store is ∙ two-ints-given cells names inputs vs t stand (λ p. truth (compared row p.0 p.1) store) in
    subst P (sym same) (found-truth row (comparison-plain row is) cells inputs names store (compared row t.m t.n))

-- ---- what is read of the arguments

pub ints-read : (inputs : List Cell) (t : TwoInts inputs) (d : Cell) → ((get_or inputs 0 d).number ≡ t.m) × ((get_or inputs 1 d).number ≡ t.n)
ints-read inputs t d = (ap (λ (cs : List Cell). (get_or cs 0 d).number) t.is, ap (λ (cs : List Cell). (get_or cs 1 d).number) t.is)

pub int-read : (inputs : List Cell) (t : OneInt inputs) (d : Cell) → (get_or inputs 0 d).number ≡ t.n
int-read inputs t d = ap (λ (cs : List Cell). (get_or cs 0 d).number) t.is

pub char-read : (inputs : List Cell) (t : OneChar inputs) (d : Cell) → (get_or inputs 0 d).number ≡ pos t.c
char-read inputs t d = ap (λ (cs : List Cell). (get_or cs 0 d).number) t.is

-- ---- characters

numbered-is : (n : ℤ) (store : Store) → char_from n store ≡ or_no (char_numbered n) (λ c. gives_one (value.Char c) store)
numbered-is (pos n) store = pick (nat_le n 255)
  where
    pick : (b : Bool) → (if b then gives_one (value.Char n) store else No) ≡ or_no (if b then Some n else None) (λ c. gives_one (value.Char c) store)
    pick true = refl
    pick false = refl
numbered-is (negsuc n) store = refl

found-char : (cells inputs : List Cell) (names : List ℕ) (store : Store) (n : ℤ) → IsFound IntChar cells inputs names store (or_no (char_numbered n) (λ c. gives_one (value.Char c) store)) (option_map char_cell (char_numbered n))
found-char cells inputs names store (negsuc n) = tt
found-char cells inputs names store (pos n) =
    elim (leb_tells n 255) [
      | inl small ↦
          let F : Bool → Type 0 = λ b. IsFound IntChar cells inputs names store (or_no (if b then Some n else None) (λ c. gives_one (value.Char c) store)) (option_map char_cell (if b then Some n else None)) in
          let low : n < 256 = let w = small.1 in omega (arith, w) in
          subst F (sym small.0) (refl, (char-stands cells names (length cells) n low, tt), char-laid IntChar (λ cs is v. refl) cells inputs n)
      | inr large ↦
          let F : Bool → Type 0 = λ b. IsFound IntChar cells inputs names store (or_no (if b then Some n else None) (λ c. gives_one (value.Char c) store)) (option_map char_cell (if b then Some n else None)) in
          subst F (sym large.0) tt
    ]

pub char-finds : (inputs : List Cell) (t : OneInt inputs) (cells : List Cell) → Finds IntChar cells inputs (option_map char_cell (char_numbered t.n))
char-finds inputs t cells names store vs stand =
    let P : Applied → Type 0 = λ a. IsFound IntChar cells inputs names store a (option_map char_cell (char_numbered t.n)) in
    let same : apply IntChar vs store ≡ or_no (char_numbered t.n) (λ c. gives_one (value.Char c) store) = one-int-given cells names inputs vs t stand (λ n. char_from n store) ∙ numbered-is t.n store in
    subst P (sym same) (found-char cells inputs names store t.n)

pub char-int : (cells inputs : List Cell) → CanApply IntChar cells inputs → OneInt inputs
char-int cells inputs can = one-int cells can.names inputs can.values can.stand (one-told int_of can.values (λ n. char_from n can.store) can.right)

pub code-char : (cells inputs : List Cell) → CanApply CharInt cells inputs → OneChar inputs
code-char cells inputs can =
    let one : One char_of can.values = one-told char_of can.values (λ c. gives_one (value.Int (pos c)) can.store) can.right in
    let P : List Value → Type 0 = λ ws. AllStand cells can.names (length cells) inputs ws in
    let told = one-cells cells can.names (length cells) inputs one.v (subst P one.is can.stand) in
    let first : told.0 ≡ char_cell one.x = char-cell cells can.names (length cells) told.0 one.v one.x one.first told.2 in
    record { c = one.x; is = told.1 ∙ ap (λ (c : Cell). c ∷ []) first }

pub code-finds : (inputs : List Cell) (t : OneChar inputs) (cells : List Cell) → Finds CharInt cells inputs (Some (int_cell (pos t.c)))
code-finds inputs t cells names store vs stand =
    let Q : List Cell → Type 0 = λ cs. AllStand cells names (length cells) cs vs in
    let told = one-values cells names (length cells) (char_cell t.c) vs (subst Q t.is stand) in
    let P : Applied → Type 0 = λ a. IsFound CharInt cells inputs names store a (Some (int_cell (pos t.c))) in
    let same : apply CharInt vs store ≡ gives_one (value.Int (pos t.c)) store =
    ap (λ ws. apply CharInt ws store) told.1 ∙ one-given char_of (λ c. gives_one (value.Int (pos c)) store) told.0 t.c (char-value cells names (length cells) t.c told.0 told.2)
    in
    subst P (sym same) (refl, (int-stands cells names (length cells) (pos t.c), tt), int-laid CharInt (λ cs is v. refl) cells inputs (pos t.c))

-- ---- the rows that are told apart

pub over-ints-taken : (row : Row) (cells inputs : List Cell) → IsOverInts row → CanApply row cells inputs → TakesInts row inputs
over-ints-taken row cells inputs (inl is) can = calculation-takes row is (calculation-ints row cells inputs is can)
  where
    calculation-takes : (row : Row) → IsCalculation row → TwoInts inputs → TakesInts row inputs
    calculation-takes IntNeg is t = absurd is
    calculation-takes IntAbs is t = absurd is
    calculation-takes _ is t = t
over-ints-taken row cells inputs (inr (inl is)) can = turn-takes row is (turn-int row cells inputs is can)
  where
    turn-takes : (row : Row) → IsTurn row → OneInt inputs → TakesInts row inputs
    turn-takes IntNeg is t = t
    turn-takes IntAbs is t = t
    turn-takes _ is t = absurd is
over-ints-taken row cells inputs (inr (inr is)) can = comparison-takes row is (comparison-ints row cells inputs is can)
  where
    comparison-takes : (row : Row) → IsComparison row → TwoInts inputs → TakesInts row inputs
    comparison-takes IntNeg is t = absurd is
    comparison-takes IntAbs is t = absurd is
    comparison-takes _ is t = t

pub rest-ints : (row : Row) → IsFinding row → row ≢ IntChar → row ≢ CharInt → row ≢ StringLength → row ≢ StringNth → row ≢ VectorLength → row ≢ VectorNth → row ≢ StringInt → IsOverInts row
rest-ints IntAdd is a b c d e f g = inl tt
rest-ints IntSub is a b c d e f g = inl tt
rest-ints IntMul is a b c d e f g = inl tt
rest-ints IntDiv is a b c d e f g = inl tt
rest-ints IntMod is a b c d e f g = inl tt
rest-ints IntMax is a b c d e f g = inl tt
rest-ints IntMin is a b c d e f g = inl tt
rest-ints IntNeg is a b c d e f g = inr (inl tt)
rest-ints IntAbs is a b c d e f g = inr (inl tt)
rest-ints IntLt is a b c d e f g = inr (inr tt)
rest-ints IntLe is a b c d e f g = inr (inr tt)
rest-ints IntGt is a b c d e f g = inr (inr tt)
rest-ints IntGe is a b c d e f g = inr (inr tt)
rest-ints IntEq is a b c d e f g = inr (inr tt)
rest-ints IntNe is a b c d e f g = inr (inr tt)
rest-ints IntChar is a b c d e f g = absurd (a refl)
rest-ints CharInt is a b c d e f g = absurd (b refl)
rest-ints StringLength is a b c d e f g = absurd (c refl)
rest-ints StringNth is a b c d e f g = absurd (d refl)
rest-ints VectorLength is a b c d e f g = absurd (e refl)
rest-ints VectorNth is a b c d e f g = absurd (f refl)
rest-ints StringInt is a b c d e f g = absurd (g refl)
rest-ints _ is a b c d e f g = absurd is
