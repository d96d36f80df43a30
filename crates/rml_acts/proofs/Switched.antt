-- What it takes to choose a case.
use Rattle.std.specs.Prelude.{ℕ, suc, ◌≡◌, ◌+◌, ◌<◌, ◌≤◌, Bool, true, false, if◌then◌else◌, List, [], ◌∷◌, length, drop, Option, Some}
use Rattle.std.proofs.Common.{refl, ap, sym, ◌∙◌, get_or, add-one, drop-cons}
use Rattle.std.proofs.Math.ListN.{drop_of_length-le}
use Rattle.rml_code.specs.declared.instructions.Case.{Case}
use Rattle.rml_code.specs.declared.instructions.Else.{Else}
use Rattle.rml_code.specs.declared.instructions.Instr.TheVariants as instr
use Rattle.rml_code.specs.declared.state.State.{State}
use Rattle.rml_code.specs.Frames.{register}
use Rattle.rml_code.specs.Seen.{Seen, seen_in, asked, is_same, is_alike}
use Rattle.rml_code.specs.Stretch.{Stretch, Jump, goes}
use Rattle.rml_code.specs.Effects.{effect, chosen, switches, otherwise}
use Rattle.rml_acts.specs.Did.{IsRight}
use Rattle.rml_acts.proofs.Effects.{known-right, known-is, test-right}
use Rattle.rml_acts.proofs.Looked.{otherwise-stays}

pub record Switches (a : ℕ) (cases : List Case) (e : Else) (s : State) : Type 0 where
  pub seen : Seen
  pub sees : seen_in s.heap.values (register s a) ≡ Some seen
  pub is : effect (instr.Switch a cases e) s ≡ chosen seen cases e s

of-switch : (cases : List Case) (e : Else) (s : State) (see : Seen) → IsRight (switches cases e s see) → switches cases e s see ≡ chosen see cases e s
of-switch [] e s see right = refl
of-switch (k ∷ cases) e s see right = test-right (is_alike see (asked s k.tag)) (chosen see (k ∷ cases) e s) s right

pub switched : (a : ℕ) (cases : List Case) (e : Else) (s : State) → IsRight (effect (instr.Switch a cases e) s) → Switches a cases e s
switched a cases e s right =
    let o : Option Seen = seen_in s.heap.values (register s a) in
    let there = known-right o (switches cases e s) s right in
    let goes_on : effect (instr.Switch a cases e) s ≡ switches cases e s there.0 = known-is o (switches cases e s) s there.0 there.1 in
    record {
      seen = there.0;
      sees = there.1;
      is = goes_on ∙ of-switch cases e s there.0 (λ is_wrong. right (ap (λ (x : Stretch). x.next) goes_on ∙ is_wrong));
    }

-- case by case
pub chosen-at : (see : Seen) (cases : List Case) (e : Else) (s : State) (i : ℕ) (k d : Case) → i < length cases → k ≡ get_or cases i d
    → chosen see (drop i cases) e s ≡ (if is_same see (asked s k.tag) then goes (Jump k.block) s else chosen see (drop (i + 1) cases) e s)
chosen-at see cases e s i k d inside item =
    let next : drop i cases ≡ k ∷ drop (i + 1) cases = drop-cons cases i d inside ∙ ap (λ (x : Case). x ∷ drop (suc i) cases) (sym item) ∙ ap (λ n. k ∷ drop n cases) (sym (add-one i)) in
    ap (λ (ks : List Case). chosen see ks e s) next

pub chosen-then : (see : Seen) (cases : List Case) (e : Else) (s : State) (i : ℕ) (k d : Case) (test : Bool) → i < length cases → k ≡ get_or cases i d → test ≡ is_same see (asked s k.tag) → test ≡ true
    → goes (Jump k.block) s ≡ chosen see (drop i cases) e s
chosen-then see cases e s i k d test inside item is same =
    sym (chosen-at see cases e s i k d inside item ∙ ap (λ b. if b then goes (Jump k.block) s else chosen see (drop (i + 1) cases) e s) (sym is ∙ same))

pub chosen-else : (see : Seen) (cases : List Case) (e : Else) (s : State) (i : ℕ) (k d : Case) (test : Bool) → i < length cases → k ≡ get_or cases i d → test ≡ is_same see (asked s k.tag) → test ≡ false
    → chosen see (drop (i + 1) cases) e s ≡ chosen see (drop i cases) e s
chosen-else see cases e s i k d test inside item is same =
    sym (chosen-at see cases e s i k d inside item ∙ ap (λ b. if b then goes (Jump k.block) s else chosen see (drop (i + 1) cases) e s) (sym is ∙ same))

pub chosen-end : (see : Seen) (cases : List Case) (e : Else) (s : State) (i : ℕ) → length cases ≤ i → chosen see (drop i cases) e s ≡ otherwise e s
chosen-end see cases e s i past = ap (λ (ks : List Case). chosen see ks e s) (drop_of_length-le cases past)

-- the state stays
either-stays : (b : Bool) (x y : Stretch) (s : State) → x.state ≡ s → y.state ≡ s → (if b then x else y).state ≡ s
either-stays true x y s h i = h
either-stays false x y s h i = i

chosen-stays : (see : Seen) (cases : List Case) (e : Else) (s : State) → (chosen see cases e s).state ≡ s
chosen-stays see [] e s = otherwise-stays e s
chosen-stays see (k ∷ cases) e s = either-stays (is_same see (asked s k.tag)) (goes (Jump k.block) s) (chosen see cases e s) s refl (chosen-stays see cases e s)

pub switch-stays : (a : ℕ) (cases : List Case) (e : Else) (s : State) → IsRight (effect (instr.Switch a cases e) s) → (effect (instr.Switch a cases e) s).state ≡ s
switch-stays a cases e s right = let w = switched a cases e s right in ap (λ (x : Stretch). x.state) w.is ∙ chosen-stays w.seen cases e s
