-- What frames stand for stays so later, below fewer steps, and where more is pushed.
use Rattle.std.proofs.Common.{◌≡◌, ℕ, ◌-◌, ◌≤◌, List, [], ◌∷◌, ◌++◌, length, Option, Some, sym, ap, ◌∙◌, arith, append_assoc}
use Rattle.std.specs.Option.{option_and_then}
use Rattle.rml_base.specs.Run.{Rest}
use Rattle.rml_value.specs.declared.value.Value.{Value}
use Rattle.rml_cps.specs.declared.statements.Continuation.{Continuation}
use Rattle.rml_cps.specs.Statements.{OnAnswer}
use Rattle.rml_heap.specs.declared.cell.Cell.{Cell}
use Rattle.rml_code.specs.declared.instructions.Instr.{Instr}
use Rattle.rml_code.specs.declared.state.State.{State}
use Rattle.rml_code.specs.Frames.{label_in, label_at, failure_in, failure_at}
use Rattle.rml_code.proofs.Callers.{frames-there}
use Rattle.rml_implements.specs.World.{Later, SuccessStands, FailureStands, SuccessAt, FailureAt, Chain}
use Rattle.rml_implements.proofs.Values.{later-then}

module _ (rels registers : ℕ) (constants : ℕ → Option Value) (blocks : List (List Instr)) where
  pub success-later : (i j : ℕ) (frame : List Cell) (s t : State) (go : OnAnswer) → j ≤ i → Later s t → SuccessStands rels registers constants blocks i frame s go → SuccessStands rels registers constants blocks j frame t go
  success-later i j frame s t go le h a = record { label = a.label; labelled = a.labelled; by = λ m lt u store k. a.by m (omega (arith, le, lt)) u store (later-then s t u h k) }

  pub failure-later : (i j : ℕ) (frame : List Cell) (label : ℕ) (s t : State) (go : Rest) → j ≤ i → Later s t → FailureStands rels registers constants blocks i frame label s go → FailureStands rels registers constants blocks j frame label t go
  failure-later i j frame label s t go le h a = record { by = λ m lt u store k. a.by m (omega (arith, le, lt)) u store (later-then s t u h k) }

  pub success-at-later : (i j : ℕ) (more frames : List Cell) (address : ℕ) (s t : State) (go : OnAnswer) → j ≤ i → Later s t → SuccessAt rels registers constants blocks i frames address s go → SuccessAt rels registers constants blocks j (more ++ frames) address t go
  success-at-later i j more frames address s t go le h a = record {
    above = more ++ a.above;
    frame = a.frame;
    is = ap (λ l. more ++ l) a.is ∙ sym (append_assoc more a.above a.frame);
    address_is = a.address_is ∙ ap (λ n. n - length a.frame) (sym h.limit);
    stands = success-later i j a.frame s t go le h a.stands;
  }

  -- what known failures stand for in the second scope, they stand for in the first
  abbrev pub FromScope : (scope scope' : Continuation → Option Rest) → List (Option Continuation) → Type 0
  FromScope scope scope' [] = Unit {0}
  FromScope scope scope' (f ∷ fs) = ((h : Continuation) (go : Rest) → f ≡ Some h → scope' h ≡ Some go → scope h ≡ Some go) × FromScope scope scope' fs

  pub from-within : (scope scope' : Continuation → Option Rest) (fs : List (Option Continuation)) → ((h : Continuation) (go : Rest) → scope' h ≡ Some go → scope h ≡ Some go) → FromScope scope scope' fs
  from-within scope scope' [] go = tt
  from-within scope scope' (f ∷ fs) go = (λ h k e. go h k, from-within scope scope' fs go)

  pub chain-later : (i j : ℕ) (more frames : List Cell) (address : ℕ) (s t : State) (fs : List (Option Continuation)) (scope scope' : Continuation → Option Rest) → j ≤ i → Later s t → FromScope scope scope' fs
      → Chain rels registers constants blocks i frames address s fs scope → Chain rels registers constants blocks j (more ++ frames) address t fs scope'
  chain-later i j more frames address s t [] scope scope' le h from c = tt
  chain-later i j more frames address s t (f ∷ fs) scope scope' le h from c =
      let a = c.1 in (
        c.0,
        record {
          above = more ++ a.above;
          is = ap (λ l. more ++ l) a.is ∙ sym (append_assoc more a.above c.0);
          address_is = a.address_is ∙ ap (λ n. n - length c.0) (sym h.limit);
          label = a.label;
          labelled = a.labelled;
          kept = a.kept;
          keeps = a.keeps;
          before = let e = h.limit in let b = a.before in omega (arith, e, b);
          stands = λ k go e d. failure-later i j c.0 a.label s t go le h (a.stands k go e (from.0 k go e d));
        },
        chain-later i j [] c.0 a.kept.failure s t fs scope scope' le h from.1 c.2,
      )

  -- the label of the frame that an address leads to, and what a failure frame keeps
  pub success-label-there : (i : ℕ) (t : State) (go : OnAnswer) → length t.heap.frames ≤ t.heap.limit → (a : SuccessAt rels registers constants blocks i t.heap.frames t.success t go) → label_at t.success t.heap ≡ Some a.stands.label
  success-label-there i t go fits a =
      ap (λ n. label_at n t.heap) a.address_is ∙ ap (λ o. option_and_then label_in o) (frames-there t.heap a.above a.frame a.is fits) ∙ a.stands.labelled

  pub failure-label-there : (i : ℕ) (t : State) (f : Option Continuation) (scope : Continuation → Option Rest) (frame : List Cell) → length t.heap.frames ≤ t.heap.limit → (a : FailureAt rels registers constants blocks i t.heap.frames t.failure t f scope frame) → label_at t.failure t.heap ≡ Some a.label
  failure-label-there i t f scope frame fits a =
      ap (λ n. label_at n t.heap) a.address_is ∙ ap (λ o. option_and_then label_in o) (frames-there t.heap a.above frame a.is fits) ∙ a.labelled

  pub failure-kept-there : (i : ℕ) (t : State) (f : Option Continuation) (scope : Continuation → Option Rest) (frame : List Cell) → length t.heap.frames ≤ t.heap.limit → (a : FailureAt rels registers constants blocks i t.heap.frames t.failure t f scope frame) → failure_at t.failure t.heap ≡ Some a.kept
  failure-kept-there i t f scope frame fits a =
      ap (λ n. failure_at n t.heap) a.address_is ∙ ap (λ o. option_and_then failure_in o) (frames-there t.heap a.above frame a.is fits) ∙ a.keeps
