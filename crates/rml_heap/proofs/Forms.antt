-- A form has one cell.
use Rattle.std.proofs.Common.{◌≡◌, ◌≢◌, ℕ, zero, suc, ◌+◌, ◌*◌, ◌/◌, ◌%◌, ◌^◌, ◌<◌, ◌&&◌, Bool, true, false, refl, sym, ap, ◌∙◌, arith}
use Rattle.std.specs.Prelude.{◌==◌, nat_lt, if◌then◌else◌, ℤ, pos, negsuc}
use Rattle.std.proofs.Math.Nat.{div-add-mod}
use Rattle.std.proofs.Math.Dec.{eqb-suc-suc}
use Rattle.rml_value.specs.declared.value.TheConstants.{CONS}
use Rattle.rml_heap.specs.declared.cell.Cell.{Cell}
use Rattle.rml_heap.specs.Form.{Form, Int, Char, Rel, Block, Con, Text, ConBlock, Tuple, ConsBlock, Lvar, Unset, Vector, Other, natural, bare, char_form, rel_form, applied_form, con_form, form, form_of}

abbrev pub cell_of : Form → Cell
cell_of (Int i) = record { kind = 0; number = i }
cell_of (Char c) = record { kind = 1; number = pos c }
cell_of (Rel r) = record { kind = 2; number = pos (suc (suc r)) }
cell_of (Block at) = record { kind = 3; number = pos at }
cell_of (Con c) = record { kind = 4; number = pos c }
cell_of (Text n) = record { kind = 5; number = pos n }
cell_of (ConBlock c n) = record { kind = 6; number = pos (2 ^ 20 * c + n) }
cell_of (Tuple n) = record { kind = 7; number = pos n }
cell_of ConsBlock = record { kind = 8; number = pos 0 }
cell_of Lvar = record { kind = 9; number = pos 0 }
cell_of Unset = record { kind = 10; number = pos 0 }
cell_of (Vector n) = record { kind = 11; number = pos n }
cell_of Other = record { kind = 12; number = pos 0 }

-- which constructor and count make a `::`, and which a constructor block
abbrev pub con_outline : ℕ → ℕ → Form
con_outline c n = if (c == CONS) && (n == 2) then ConsBlock else ConBlock c n

-- what a form says of itself
abbrev pub IsForm : Form → Type 0
IsForm (Char c) = c < 256
IsForm (ConBlock c n) = (0 < n) × (con_outline c n ≡ ConBlock c n)
IsForm _ = Unit {0}

pub record HasForm (kind : ℕ) (number : ℤ) (f : Form) : Type 0 where
  pub cell : f ≢ Other → record { kind = kind; number = number } ≡ cell_of f
  pub is : IsForm f

none : (kind : ℕ) (number : ℤ) → HasForm kind number Other
none kind number = record { cell = λ no_other. absurd (no_other refl); is = tt }

simple : (kind : ℕ) (number : ℤ) (f : Form) → record { kind = kind; number = number } ≡ cell_of f → IsForm f → HasForm kind number f
simple kind number f cell is = record { cell = λ no_other. cell; is = is }

char : (i : ℤ) → HasForm 1 i (natural char_form i)
char (negsuc n) = none 1 (negsuc n)
char (pos n) = pick (nat_lt n 256) refl
  where
    pick : (b : Bool) → nat_lt n 256 ≡ b → HasForm 1 (pos n) (if b then Char n else Other)
    pick true small = simple 1 (pos n) (Char n) refl (grind (arith, small))
    pick false big = none 1 (pos n)

rel : (i : ℤ) → HasForm 2 i (natural rel_form i)
rel (negsuc n) = none 2 (negsuc n)
rel (pos zero) = none 2 (pos zero)
rel (pos (suc zero)) = none 2 (pos 1)
rel (pos (suc (suc r))) = simple 2 (pos (suc (suc r))) (Rel r) refl tt

applied : (i : ℤ) (c n : ℕ) → i ≡ pos (2 ^ 20 * c + n) → HasForm 6 i (applied_form c n)
applied i c zero is = none 6 i
applied i c (suc n) is = pick ((c == CONS) && (n == 1)) refl
  where
    same_test : (n : ℕ) → (suc n == 2) ≡ (n == 1)
    same_test n = eqb-suc-suc n 1

    pick : (b : Bool) → ((c == CONS) && (n == 1)) ≡ b → HasForm 6 i (if b then Other else ConBlock c (suc n))
    pick true cons = none 6 i
    pick false other =
        let some : 0 < suc n = omega arith in
        let as_is : con_outline c (suc n) ≡ ConBlock c (suc n) = ap (λ b. if (c == CONS) && b then ConsBlock else ConBlock c (suc n)) (same_test n) ∙ ap (λ b. if b then ConsBlock else ConBlock c (suc n)) other in
        simple 6 i (ConBlock c (suc n)) (ap (λ (j : ℤ). record { kind = 6; number = j }) is) (some, as_is)

con : (i : ℤ) → HasForm 6 i (natural con_form i)
con (negsuc n) = none 6 (negsuc n)
con (pos n) = applied (pos n) (n / 2 ^ 20) (n % 2 ^ 20) (ap pos (sym (div-add-mod n (2 ^ 20))))

plain : (kind : ℕ) (f : ℕ → Form) → ((n : ℕ) → HasForm kind (pos n) (f n)) → (i : ℤ) → HasForm kind i (natural f i)
plain kind f each (pos n) = each n
plain kind f each (negsuc n) = none kind (negsuc n)

single : (kind : ℕ) (f : Form) → HasForm kind (pos 0) f → (i : ℤ) → HasForm kind i (bare f i)
single kind f is (pos zero) = is
single kind f is (pos (suc n)) = none kind (pos (suc n))
single kind f is (negsuc n) = none kind (negsuc n)

pub has-form : (kind : ℕ) (i : ℤ) → HasForm kind i (form kind i)
unfolding form
has-form zero i = simple 0 i (Int i) refl tt
has-form (suc zero) i = char i
has-form (suc (suc zero)) i = rel i
has-form (suc (suc (suc zero))) i = plain 3 Block (λ n. simple 3 (pos n) (Block n) refl tt) i
has-form (suc (suc (suc (suc zero)))) i = plain 4 Con (λ n. simple 4 (pos n) (Con n) refl tt) i
has-form (suc (suc (suc (suc (suc zero))))) i = plain 5 Text (λ n. simple 5 (pos n) (Text n) refl tt) i
has-form (suc (suc (suc (suc (suc (suc zero)))))) i = con i
has-form (suc (suc (suc (suc (suc (suc (suc zero))))))) i = plain 7 Tuple (λ n. simple 7 (pos n) (Tuple n) refl tt) i
has-form (suc (suc (suc (suc (suc (suc (suc (suc zero)))))))) i = single 8 ConsBlock (simple 8 (pos 0) ConsBlock refl tt) i
has-form (suc (suc (suc (suc (suc (suc (suc (suc (suc zero))))))))) i = single 9 Lvar (simple 9 (pos 0) Lvar refl tt) i
has-form (suc (suc (suc (suc (suc (suc (suc (suc (suc (suc zero)))))))))) i = single 10 Unset (simple 10 (pos 0) Unset refl tt) i
has-form (suc (suc (suc (suc (suc (suc (suc (suc (suc (suc (suc zero))))))))))) i = plain 11 Vector (λ n. simple 11 (pos n) (Vector n) refl tt) i
has-form (suc (suc (suc (suc (suc (suc (suc (suc (suc (suc (suc (suc kind)))))))))))) i = none (suc (suc (suc (suc (suc (suc (suc (suc (suc (suc (suc (suc kind)))))))))))) i

-- two cells of one form are the same
pub same-form : (c d : Cell) → form_of c ≡ form_of d → form_of c ≢ Other → c ≡ d
same-form c d same no_other =
    let other : form_of d ≢ Other = λ e. no_other (same ∙ e) in
    (has-form c.kind c.number).cell no_other ∙ ap cell_of same ∙ sym ((has-form d.kind d.number).cell other)
