-- A direct jump goes to a greater block, so a turn goes through no more blocks than there are.
use Rattle.std.specs.Prelude.{ℕ, zero, suc, ◌≡◌, ◌+◌, ◌<◌, ◌≤◌, Bool, true, false, ◌&&◌, IsTrue, nat_lt, nat_le, ◌==◌, if◌then◌else◌, List, [], ◌∷◌, length, Option, Some, None, slice_get, option_and_then}
use Rattle.std.specs.List.{list_all}
use Rattle.std.proofs.Common.{refl, ap, sym, ◌∙◌, subst, arith}
use Rattle.std.proofs.lemmas.Bool.{ltb-true}
use Rattle.std.proofs.lemmas.Option.{slice_get_past}
use Rattle.rml_value.specs.Same.{same}
use Rattle.rml_builtin.specs.declared.row.TheConstants.{ROWS}
use Rattle.rml_builtin.specs.declared.row.Row.{Row}
use Rattle.rml_builtin.specs.declared.applied.Applied.{Applied}
use Rattle.rml_builtin.specs.declared.applied.Applied.TheVariants as applied
use Rattle.rml_builtin.specs.BuiltIns.{apply}
use Rattle.rml_heap.specs.declared.cell.Cell.{Cell}
use Rattle.rml_heap.specs.HeapState.{cells_used}
use Rattle.rml_heap.specs.Form.{form_of}
use Rattle.rml_heap.specs.Reading.{word_of}
use Rattle.rml_prims.specs.Shapes.{cons_head}
use Rattle.rml_code.specs.declared.instructions.Else.{Else}
use Rattle.rml_code.specs.declared.instructions.Else.TheVariants as else
use Rattle.rml_code.specs.declared.instructions.Case.{Case}
use Rattle.rml_code.specs.declared.instructions.Halt.{Halt}
use Rattle.rml_code.specs.declared.instructions.Halt.TheVariants as halt
use Rattle.rml_code.specs.declared.instructions.Instr.{Instr}
use Rattle.rml_code.specs.declared.instructions.Instr.TheVariants as instr
use Rattle.rml_code.specs.declared.listing.Listing.{Listing}
use Rattle.rml_code.specs.declared.state.State.{State}
use Rattle.rml_code.specs.Frames.{register, put, registers_of, success_frame, failure_frame, Failure, success_at, failure_at, label_at}
use Rattle.rml_prims.specs.Standing.{value_in, values_in, store_in}
use Rattle.rml_prims.specs.Taken.{cells_taken}
use Rattle.rml_prims.specs.Laid.{Results, results_laid}
use Rattle.rml_code.specs.Seen.{Seen, seen_in, asked, is_same, is_alike}
use Rattle.rml_code.specs.Stretch.{Next, Behind, Jump, Turn, Stop, Stretch, Answer as Answered, Full, goes, wrong, with_known, joined, then_jump, jump_at, behind_at}
use Rattle.rml_code.specs.Effects.{behind, if_room, behind_with, otherwise, con_head, tuple_head, with_block, part_of, saves, guards, resumed, retried, answered, ends_with, runs_row, chosen, switches, entry_in, effect}
use Rattle.rml_code.specs.Turns.{exec, enters, hops, turn}
use Rattle.rml_code.specs.Fits.{all_from, jump_fits, else_fits, tag_fits, tags_differ, case_fits, register_fits, registers_fit, row_fits, instr_fits, block_ends, block_fits, blocks_fit}

-- ---- tests

both-first : (a b : Bool) → IsTrue (a && b) → IsTrue a
both-first true b h = refl
both-first false b h = h

both-second : (a b : Bool) → IsTrue (a && b) → IsTrue b
both-second true b h = h
both-second false b h = absurd (cc)

some-is : {A : Type 0} (x y : A) → Some x ≡ Some y → x ≡ y
some-is x y e = cc

-- ---- effects

-- a direct jump from this block goes to a greater one
Rises : ℕ → Next → Type 0
Rises at Behind = Unit {0}
Rises at (Jump b) = at < b
Rises at (Turn b) = Unit {0}
Rises at (Stop e) = Unit {0}

module _ (l : Listing) (at : ℕ) where
  known-rises : {A : Type 0} (o : Option A) (go : A → Stretch) (s : State) → ((x : A) → Rises at (go x).next) → Rises at (with_known o go s).next
  unfolding Rises
  known-rises None go s each = tt
  known-rises (Some x) go s each = each x

  test-rises : (b : Bool) (x y : Stretch) → Rises at x.next → Rises at y.next → Rises at (if b then x else y).next
  test-rises true x y h k = h
  test-rises false x y h k = k

  room-rises : (n : ℕ) (s : State) (x : Stretch) → Rises at x.next → Rises at (if_room n s x).next
  unfolding Rises
  room-rises n s x h = test-rises (nat_le (cells_used s.heap + n) s.heap.limit) x (goes (Stop (Full (cells_used s.heap) n)) s) h tt

  jump-rises : (b : ℕ) → IsTrue (jump_fits l at b) → at < b
  jump-rises b fits = ltb-true at b (both-first (nat_lt at b) (nat_lt b (length l.blocks)) fits)

  label-rises : (address : ℕ) (s : State) → Rises at (with_known (label_at address s.heap) (λ b. goes (Turn b) s) s).next
  unfolding Rises
  label-rises address s = known-rises (label_at address s.heap) (λ b. goes (Turn b) s) s (λ b. tt)

  else-rises : (e : Else) (s : State) → IsTrue (else_fits l at e) → Rises at (otherwise e s).next
  unfolding Rises
  else-rises else.Fail s fits = label-rises s.failure s
  else-rises (else.Block b) s fits = jump-rises b fits

  chosen-rises : (seen : Seen) (cases : List Case) (e : Else) (s : State) → IsTrue (list_all (case_fits l at) cases) → IsTrue (else_fits l at e) → Rises at (chosen seen cases e s).next
  unfolding Rises
  chosen-rises seen [] e s all fits = else-rises e s fits
  chosen-rises seen (k ∷ cases) e s all fits =
      let here : IsTrue (case_fits l at k) = both-first (case_fits l at k) (list_all (case_fits l at) cases) all in
      let rest : IsTrue (list_all (case_fits l at) cases) = both-second (case_fits l at k) (list_all (case_fits l at) cases) all in
      let rises : at < k.block = jump-rises k.block (both-second (tag_fits l k.tag) (jump_fits l at k.block) here) in
      test-rises (is_same seen (asked s k.tag)) (goes (Jump k.block) s) (chosen seen cases e s) rises (chosen-rises seen cases e s rest fits)

  switch-rises : (cases : List Case) (e : Else) (s : State) (seen : Seen) → IsTrue (list_all (case_fits l at) cases) → IsTrue (else_fits l at e) → Rises at (switches cases e s seen).next
  unfolding Rises
  switch-rises [] e s seen all fits = else-rises e s fits
  switch-rises (k ∷ cases) e s seen all fits = test-rises (is_alike seen (asked s k.tag)) (chosen seen (k ∷ cases) e s) (wrong s) (chosen-rises seen (k ∷ cases) e s all fits) tt

  row-rises : (ys : List ℕ) (row : Row) (inputs : List Cell) (e : Else) (a : Applied) (s : State) → IsTrue (else_fits l at e) → Rises at (ends_with ys row inputs e a s).next
  unfolding Rises
  row-rises ys row inputs e (applied.Yes answer text) s fits =
      let laid : Results = results_laid row s.heap.values inputs answer.values in
      let gives : Stretch = answered ys row inputs answer text laid s in
      test-rises (length ys == length laid.cells) (if_room (cells_taken row answer.values) s gives) (wrong s) (room-rises (cells_taken row answer.values) s gives tt) tt
  row-rises ys row inputs e applied.No s fits = else-rises e s fits
  row-rises ys row inputs e applied.Wrong s fits = tt

  halt-rises : (h : Halt) (s : State) → Rises at (effect (instr.Halt h) s).next
  unfolding Rises
  halt-rises halt.Yes s = tt
  halt-rises halt.Integer s = known-rises (word_of (register s 0)) (λ i. goes (Stop (Answered (Some i))) s) s (λ i. tt)
  halt-rises halt.No s = tt

  effect-rises : (i : Instr) (s : State) → IsTrue (instr_fits l at i) → Rises at (effect i s).next
  unfolding Rises
  effect-rises (instr.Move a b) s fits = tt
  effect-rises (instr.Word a w) s fits = tt
  effect-rises (instr.Const a i) s fits = tt
  effect-rises (instr.Field a b i) s fits = known-rises (part_of s.heap.values i (register s b)) (λ c. behind (put a c s)) s (λ c. tt)
  effect-rises (instr.Con a c rs) s fits =
      let cells : List Cell = con_head c (length rs) ∷ registers_of rs s in
      room-rises (length cells) s (behind_with (length cells) (with_block a cells s)) tt
  effect-rises (instr.Tuple a rs) s fits =
      let cells : List Cell = tuple_head (length rs) ∷ registers_of rs s in
      room-rises (length cells) s (behind_with (length cells) (with_block a cells s)) tt
  effect-rises (instr.Cons a b c) s fits =
      let cells : List Cell = cons_head ∷ register s b ∷ register s c ∷ [] in
      room-rises (length cells) s (behind_with (length cells) (with_block a cells s)) tt
  effect-rises (instr.Save b rs) s fits = room-rises (3 + length rs) s (behind_with (3 + length rs) (saves (success_frame b (registers_of rs s) s) s)) tt
  effect-rises (instr.Guard b rs) s fits = room-rises (5 + length rs) s (behind_with (5 + length rs) (guards (failure_frame b (registers_of rs s) s) s)) tt
  effect-rises (instr.Resume rs) s fits = known-rises (option_and_then (resumed rs s) (success_at s.success s.heap)) behind s (λ t. tt)
  effect-rises (instr.Retry rs) s fits = known-rises (option_and_then (retried rs s) (failure_at s.failure s.heap)) behind s (λ t. tt)
  effect-rises instr.Drop s fits = known-rises (failure_at s.failure s.heap) (λ (kept : Failure). behind (record s { failure = kept.failure })) s (λ kept. tt)
  effect-rises (instr.Builtin k rs ys e) s fits =
      let given : List Cell = registers_of rs s in
      let goes_else : IsTrue (else_fits l at e) = both-second (row_fits (length rs) (length ys) (slice_get ROWS k) && registers_fit l rs && registers_fit l ys) (else_fits l at e) fits in
      known-rises (slice_get ROWS k) (runs_row ys given e s) s (λ row.
      known-rises (values_in s.heap.values given) (λ vs. with_known (store_in s.heap.values) (λ store. ends_with ys row given e (apply row vs store) s) s) s (λ vs.
      known-rises (store_in s.heap.values) (λ store. ends_with ys row given e (apply row vs store) s) s (λ store.
      row-rises ys row given e (apply row vs store) s goes_else)))
  effect-rises (instr.Equal a b e) s fits =
      let goes_else : IsTrue (else_fits l at e) = both-second (register_fits l a && register_fits l b) (else_fits l at e) fits in
      known-rises (value_in s.heap.values (register s a)) (λ v. with_known (value_in s.heap.values (register s b)) (λ w. if same v w then behind s else otherwise e s) s) s (λ v.
      known-rises (value_in s.heap.values (register s b)) (λ w. if same v w then behind s else otherwise e s) s (λ w.
      test-rises (same v w) (behind s) (otherwise e s) tt (else-rises e s goes_else)))
  effect-rises (instr.Switch a cases e) s fits =
      let ahead : Bool = register_fits l a && nat_le 1 (length cases) in
      let goes_else : IsTrue (else_fits l at e) = both-second (ahead && list_all (case_fits l at) cases && tags_differ cases) (else_fits l at e) fits in
      let before : IsTrue (ahead && list_all (case_fits l at) cases) = both-first (ahead && list_all (case_fits l at) cases) (tags_differ cases) (both-first (ahead && list_all (case_fits l at) cases && tags_differ cases) (else_fits l at e) fits) in
      known-rises (seen_in s.heap.values (register s a)) (switches cases e s) s (λ seen. switch-rises cases e s seen (both-second ahead (list_all (case_fits l at) cases) before) goes_else)
  effect-rises (instr.Goto b) s fits = jump-rises b fits
  effect-rises (instr.Call b) s fits = tt
  effect-rises (instr.CallRegister a) s fits = known-rises (entry_in (form_of (register s a))) (λ b. goes (Turn b) s) s (λ b. tt)
  effect-rises instr.Answer s fits = label-rises s.success s
  effect-rises instr.Fail s fits = label-rises s.failure s
  effect-rises (instr.Halt h) s fits = halt-rises h s

  -- ---- blocks

  behind-rises : (next : Next) (a : Stretch) (go : State → Stretch) → (next ≡ a.next) → Rises at next → Rises at (go a.state).next → Rises at (behind_at next a go).next
  unfolding Rises
  behind-rises Behind a go e h k = k
  behind-rises (Jump b) a go e h k = subst (Rises at) e h
  behind-rises (Turn b) a go e h k = subst (Rises at) e tt
  behind-rises (Stop x) a go e h k = subst (Rises at) e tt

  exec-rises : (instrs : List Instr) (s : State) → IsTrue (list_all (instr_fits l at) instrs) → Rises at (exec instrs s).next
  unfolding Rises
  exec-rises [] s fits = tt
  exec-rises (i ∷ rest) s fits =
      let here : IsTrue (instr_fits l at i) = both-first (instr_fits l at i) (list_all (instr_fits l at) rest) fits in
      let more : IsTrue (list_all (instr_fits l at) rest) = both-second (instr_fits l at i) (list_all (instr_fits l at) rest) fits in
      behind-rises (effect i s).next (effect i s) (exec rest) refl (effect-rises i s here) (exec-rises rest (effect i s).state more)

-- a test of each with its number, at one of them
each-passes : {A : Type 0} (test : ℕ → A → Bool) (n i : ℕ) (xs : List A) (x : A) → IsTrue (all_from test n xs) → slice_get xs i ≡ Some x → IsTrue (test (n + i) x)
each-passes test n i [] x all there = cc
each-passes test n zero (y ∷ xs) x all there =
    let e : n ≡ n + 0 = omega arith in
    let same_item : y ≡ x = some-is y x there in
    subst (λ k. IsTrue (test k x)) e (subst (λ z. IsTrue (test n z)) same_item (both-first (test n y) (all_from test (suc n) xs) all))
each-passes test n (suc i) (y ∷ xs) x all there =
    let e : suc n + i ≡ n + suc i = omega arith in
    subst (λ k. IsTrue (test k x)) e (each-passes test (suc n) i xs x (both-second (test n y) (all_from test (suc n) xs) all) there)

module _ (l : Listing) (fits : IsTrue (blocks_fit l)) where
  block-rises : (b : ℕ) (o : Option (List Instr)) (s : State) → slice_get l.blocks b ≡ o → Rises b (with_known o (λ instrs. exec instrs s) s).next
  unfolding Rises
  block-rises b None s there = tt
  block-rises b (Some instrs) s there =
      let n : 0 + b ≡ b = omega arith in
      let fit : IsTrue (block_fits l b instrs) = subst (λ k. IsTrue (block_fits l k instrs)) n (each-passes (block_fits l) 0 b l.blocks instrs fits there) in
      exec-rises l b instrs s (both-first (list_all (instr_fits l b) instrs) (block_ends instrs) fit)

  jump-same : (at : ℕ) (next : Next) (a : Stretch) (f g : ℕ → State → Stretch) → Rises at next → ((b : ℕ) (s : State) → at < b → f b s ≡ g b s) → jump_at next a f ≡ jump_at next a g
  unfolding Rises
  jump-same at Behind a f g rises same = refl
  jump-same at (Jump b) a f g rises same = ap (joined a) (same b a.state rises)
  jump-same at (Turn b) a f g rises same = refl
  jump-same at (Stop e) a f g rises same = refl

  -- from this block on no more are gone through than stand behind it
  one-more : (k b : ℕ) (s : State) → length l.blocks ≤ b + k → hops l.blocks k b s ≡ hops l.blocks (suc k) b s
  one-more zero b s long =
      let past : slice_get l.blocks b ≡ None = slice_get_past l.blocks b (omega (arith, long)) in
      sym (ap (λ o. then_jump (with_known o (λ instrs. exec instrs s) s) (hops l.blocks 0)) past)
  one-more (suc k) b s long =
      jump-same b (enters l.blocks b s).next (enters l.blocks b s) (hops l.blocks k) (hops l.blocks (suc k)) (block-rises b (slice_get l.blocks b) s refl)
      (λ c t above. one-more k c t (omega (arith, long, above)))

  -- so with as many as there are blocks a turn ends, and with more it is the same
  pub hops-enough : (more b : ℕ) (s : State) → hops l.blocks (length l.blocks + more) b s ≡ turn l.blocks b s
  hops-enough zero b s = let e : length l.blocks + 0 ≡ length l.blocks = omega arith in ap (λ k. hops l.blocks k b s) e
  hops-enough (suc more) b s =
      let e : length l.blocks + suc more ≡ suc (length l.blocks + more) = omega arith in
      ap (λ k. hops l.blocks k b s) e ∙ sym (one-more (length l.blocks + more) b s (omega arith)) ∙ hops-enough more b s
