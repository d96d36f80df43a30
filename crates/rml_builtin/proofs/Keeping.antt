-- What a built-in leaves as it was.
use Rattle.std.proofs.Common.{◌≢◌, ℕ, List, [], ◌∷◌, Bool, true, false, Option, Some, None, refl, length, ℤ, pos, negsuc}
use Rattle.std.specs.Prelude.{if◌then◌else◌, slice_get, nat_le, ◌+ℤ◌, ◌-ℤ◌, ◌*ℤ◌, int_div, neg_ℤ}
use Rattle.std.specs.Ordering.{int_eq}
use Rattle.rml_value.specs.declared.value.Value.{Value}
use Rattle.rml_value.specs.Range.{is_integer}
use Rattle.rml_value.specs.Lists.{items_of}
use Rattle.rml_builtin.specs.declared.row.Row.{Row}
use Rattle.rml_builtin.specs.declared.row.Row.TheVariants.{IntAdd, IntSub, IntMul, IntDiv, IntMod, IntNeg, IntAbs, IntMax, IntMin, IntLt, IntLe, IntGt, IntGe, IntEq, IntNe, IntString, StringInt, IntChar, CharInt, StringLength, StringNth, StringAppend, StringList, ListString, LvarNew, LvarGet, LvarSet, Print, ListVector, VectorList, VectorLength, VectorNth}
use Rattle.rml_builtin.specs.declared.applied.Applied.{Applied}
use Rattle.rml_builtin.specs.declared.applied.Applied.TheVariants.{No, Wrong}
use Rattle.rml_builtin.specs.Applied.{Store, gives_one, ranged, or_wrong, or_no}
use Rattle.rml_builtin.specs.Arguments.{int_of, char_of, text_of, cell_of, vector_of, chars_of, one, two}
use Rattle.rml_builtin.specs.Decimal.{read}
use Rattle.rml_builtin.specs.Integers.{absolute}
use Rattle.rml_builtin.specs.Texts.{char_from, nth_char}
use Rattle.rml_builtin.specs.Lvars.{set_entry}
use Rattle.rml_builtin.specs.Vectors.{nth_item}
use Rattle.rml_builtin.specs.BuiltIns.{apply}
use Rattle.rml_builtin.specs.Keeps.{KeepsStore, IsSilent}

-- what a property owes, to hold of a row
record Passes (P : Applied → Type 0) (store : Store) : Type 0 where
  pub none : P No
  pub wrong : P Wrong
  pub value : (v : Value) → P (gives_one v store)

or_wrong-keeps : {A : Type 0} (P : Applied → Type 0) (o : Option A) (go : A → Applied) → P Wrong → ((x : A) → P (go x)) → P (or_wrong o go)
or_wrong-keeps P None go wrong each = wrong
or_wrong-keeps P (Some x) go wrong each = each x

or_no-keeps : {A : Type 0} (P : Applied → Type 0) (o : Option A) (go : A → Applied) → P No → ((x : A) → P (go x)) → P (or_no o go)
or_no-keeps P None go none each = none
or_no-keeps P (Some x) go none each = each x

either-keeps : (b : Bool) (P : Applied → Type 0) (g h : Applied) → P g → P h → P (if b then g else h)
either-keeps b P g h p q = elim b as (λ (x : Bool). P (if x then g else h)) [ true ↦ p | false ↦ q ]

module _ (P : Applied → Type 0) (store : Store) (p : Passes P store) where
  ranged-keeps : (n : ℤ) → P (ranged n store)
  ranged-keeps n = either-keeps (is_integer n) P _ _ (p.value _) p.none

  char-keeps : (n : ℤ) → P (char_from n store)
  char-keeps (pos n) = either-keeps (nat_le n 255) P _ _ (p.value _) p.none
  char-keeps (negsuc n) = p.none

  nth_char-keeps : (t : List ℕ) (n : ℤ) → P (nth_char t n store)
  nth_char-keeps t (pos n) = or_no-keeps P (slice_get t n) _ p.none (λ c. p.value _)
  nth_char-keeps t (negsuc n) = p.none

  nth_item-keeps : (vs : List Value) (n : ℤ) → P (nth_item vs n store)
  nth_item-keeps vs (pos n) = or_no-keeps P (slice_get vs n) _ p.none (λ v. p.value _)
  nth_item-keeps vs (negsuc n) = p.none

  -- the rows that make no logical variable, set none and print nothing
  plain-keeps : (row : Row) (vs : List Value) → row ≢ LvarNew → row ≢ LvarSet → row ≢ Print → P (apply row vs store)
  plain-keeps IntNeg vs a b c = or_wrong-keeps P (one int_of vs) _ p.wrong (λ n. ranged-keeps (neg_ℤ n))
  plain-keeps IntAbs vs a b c = or_wrong-keeps P (one int_of vs) _ p.wrong (λ n. ranged-keeps (absolute n))
  plain-keeps IntString vs a b c = or_wrong-keeps P (one int_of vs) _ p.wrong (λ n. p.value _)
  plain-keeps IntChar vs a b c = or_wrong-keeps P (one int_of vs) _ p.wrong char-keeps
  plain-keeps CharInt vs a b c = or_wrong-keeps P (one char_of vs) _ p.wrong (λ _. p.value _)
  plain-keeps StringInt vs a b c = or_wrong-keeps P (one text_of vs) _ p.wrong (λ t. or_no-keeps P (read t) _ p.none (λ n. p.value _))
  plain-keeps StringLength vs a b c = or_wrong-keeps P (one text_of vs) _ p.wrong (λ t. ranged-keeps (pos (length t)))
  plain-keeps StringList vs a b c = or_wrong-keeps P (one text_of vs) _ p.wrong (λ t. p.value _)
  plain-keeps Print vs a b c = absurd (c refl)
  plain-keeps StringNth vs a b c = or_wrong-keeps P (two text_of int_of vs) _ p.wrong (λ q. nth_char-keeps q.0 q.1)
  plain-keeps StringAppend vs a b c = or_wrong-keeps P (two text_of text_of vs) _ p.wrong (λ q. p.value _)
  plain-keeps ListString vs a b c = or_wrong-keeps P (one chars_of vs) _ p.wrong (λ cs. p.value _)
  plain-keeps LvarNew vs a b c = absurd (a refl)
  plain-keeps LvarGet vs a b c = or_wrong-keeps P (one cell_of vs) _ p.wrong (λ k. or_wrong-keeps P (slice_get store k) _ p.wrong (λ held. p.value _))
  plain-keeps LvarSet vs a b c = absurd (b refl)
  plain-keeps ListVector vs a b c = or_wrong-keeps P (one items_of vs) _ p.wrong (λ items. p.value _)
  plain-keeps VectorList vs a b c = or_wrong-keeps P (one vector_of vs) _ p.wrong (λ items. p.value _)
  plain-keeps VectorLength vs a b c = or_wrong-keeps P (one vector_of vs) _ p.wrong (λ items. ranged-keeps (pos (length items)))
  plain-keeps VectorNth vs a b c = or_wrong-keeps P (two vector_of int_of vs) _ p.wrong (λ q. nth_item-keeps q.0 q.1)
  plain-keeps IntAdd vs a b c = or_wrong-keeps P (two int_of int_of vs) _ p.wrong (λ q. ranged-keeps (q.0 +ℤ q.1))
  plain-keeps IntSub vs a b c = or_wrong-keeps P (two int_of int_of vs) _ p.wrong (λ q. ranged-keeps (q.0 -ℤ q.1))
  plain-keeps IntMul vs a b c = or_wrong-keeps P (two int_of int_of vs) _ p.wrong (λ q. ranged-keeps (q.0 *ℤ q.1))
  plain-keeps IntDiv vs a b c = or_wrong-keeps P (two int_of int_of vs) _ p.wrong (λ q. either-keeps (int_eq q.1 (pos 0)) P _ _ p.none (ranged-keeps (int_div q.0 q.1)))
  plain-keeps IntMod vs a b c = or_wrong-keeps P (two int_of int_of vs) _ p.wrong (λ q. either-keeps (int_eq q.1 (pos 0)) P _ _ p.none (p.value _))
  plain-keeps IntMax vs a b c = or_wrong-keeps P (two int_of int_of vs) _ p.wrong (λ q. p.value _)
  plain-keeps IntMin vs a b c = or_wrong-keeps P (two int_of int_of vs) _ p.wrong (λ q. p.value _)
  plain-keeps IntLt vs a b c = or_wrong-keeps P (two int_of int_of vs) _ p.wrong (λ q. p.value _)
  plain-keeps IntLe vs a b c = or_wrong-keeps P (two int_of int_of vs) _ p.wrong (λ q. p.value _)
  plain-keeps IntGt vs a b c = or_wrong-keeps P (two int_of int_of vs) _ p.wrong (λ q. p.value _)
  plain-keeps IntGe vs a b c = or_wrong-keeps P (two int_of int_of vs) _ p.wrong (λ q. p.value _)
  plain-keeps IntEq vs a b c = or_wrong-keeps P (two int_of int_of vs) _ p.wrong (λ q. p.value _)
  plain-keeps IntNe vs a b c = or_wrong-keeps P (two int_of int_of vs) _ p.wrong (λ q. p.value _)

print-keeps : (vs : List Value) (store : Store) → KeepsStore store (apply Print vs store)
print-keeps vs store = or_wrong-keeps (KeepsStore store) (one text_of vs) _ tt (λ t. refl)

pub store-stays : (row : Row) (vs : List Value) (store : Store) → row ≢ LvarNew → row ≢ LvarSet → KeepsStore store (apply row vs store)
store-stays Print vs store a b = print-keeps vs store
store-stays row vs store a b = plain-keeps (KeepsStore store) store (record { none = tt; wrong = tt; value = λ v. refl }) row vs a b (λ e. cc)

new-silent : (vs : List Value) (store : Store) → IsSilent (apply LvarNew vs store)
new-silent [] store = refl
new-silent (v ∷ vs) store = tt

set_entry-silent : (held : Option Value) (k : ℕ) (v : Value) (store : Store) → IsSilent (set_entry held k v store)
set_entry-silent None k v store = refl
set_entry-silent (Some old) k v store = tt

set-silent : (vs : List Value) (store : Store) → IsSilent (apply LvarSet vs store)
set-silent vs store =
    or_wrong-keeps IsSilent (two cell_of Some vs) _ tt (λ q. or_wrong-keeps IsSilent (slice_get store q.0) _ tt (λ held. set_entry-silent held q.0 q.1 store))

pub text-stays : (row : Row) (vs : List Value) (store : Store) → row ≢ Print → IsSilent (apply row vs store)
text-stays LvarNew vs store a = new-silent vs store
text-stays LvarSet vs store a = set-silent vs store
text-stays row vs store a = plain-keeps IsSilent store (record { none = tt; wrong = tt; value = λ v. refl }) row vs (λ e. cc) (λ e. cc) a
