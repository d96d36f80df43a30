-- Turns and then more turns are as many turns together, and what is counted is what was in use at any moment.
use Rattle.std.specs.Prelude.{ℕ, zero, suc, ◌≡◌, ◌+◌, ◌≤◌, max, List, [], ◌∷◌, length, Option, Some, None, slice_get}
use Rattle.std.proofs.Common.{refl, ◌∙◌, ap, append_assoc, add_assoc, arith}
use Rattle.std.proofs.Math.Nat.{le_trans, le-max_left}
use Rattle.rml_heap.specs.HeapState.{cells_used}
use Rattle.rml_code.specs.declared.instructions.Instr.{Instr}
use Rattle.rml_code.specs.declared.state.State.{State}
use Rattle.rml_code.specs.Stretch.{Next, Behind, Jump, Turn, Stop, Stretch, goes, with_known, joined, after_turn, then_behind, then_turn, jump_at, turn_at}
use Rattle.rml_code.specs.Effects.{effect}
use Rattle.rml_code.specs.Turns.{exec, enters, hops, turn, turns}
use Rattle.rml_code.proofs.Remains.{stretch_by}

same_stretch : (next : Next) (s : State) {t u : List ℕ} {m l w v c d n k : ℕ} → t ≡ u → m ≡ l → w ≡ v → c ≡ d → n ≡ k → stretch_by next s t m w c n ≡ stretch_by next s u l v d k
same_stretch next s {t = t} {u = u} {m = m} {l = l} {w = w} {v = v} {c = c} {d = d} {n = n} a b e f g =
    ap (λ x. stretch_by next s x m w c n) a ∙ ap (λ x. stretch_by next s u x w c n) b ∙ ap (λ x. stretch_by next s u l x c n) e
    ∙ ap (λ x. stretch_by next s u l v x n) f ∙ ap (λ x. stretch_by next s u l v d x) g

joined-joined : (a b c : Stretch) → joined (joined a b) c ≡ joined a (joined b c)
joined-joined a b c =
    let most : max (max a.cells b.cells) c.cells ≡ max a.cells (max b.cells c.cells) = omega arith in
    same_stretch c.next c.state (append_assoc a.text b.text c.text) (add_assoc a.made b.made c.made) (add_assoc a.weighed b.weighed c.weighed) most (add_assoc a.turns b.turns c.turns)

-- ---- what follows by a turn

turn-joined-by : (a : Stretch) (next : Next) (s : State) (t : List ℕ) (m w c n : ℕ) (g : ℕ → State → Stretch)
    → then_turn (joined a (stretch_by next s t m w c n)) g ≡ joined a (then_turn (stretch_by next s t m w c n) g)
turn-joined-by a Behind s t m w c n g = refl
turn-joined-by a (Jump b) s t m w c n g = refl
turn-joined-by a (Turn b) s t m w c n g = joined-joined a (stretch_by (Turn b) s t m w c n) (g b s)
turn-joined-by a (Stop e) s t m w c n g = refl

turn-joined : (a b : Stretch) (g : ℕ → State → Stretch) → then_turn (joined a b) g ≡ joined a (then_turn b g)
turn-joined a b g = turn-joined-by a b.next b.state b.text b.made b.weighed b.cells b.turns g

turn-twice-by : (next : Next) (s : State) (t : List ℕ) (m w c n : ℕ) (f g : ℕ → State → Stretch)
    → then_turn (then_turn (stretch_by next s t m w c n) f) g ≡ then_turn (stretch_by next s t m w c n) (λ b u. then_turn (f b u) g)
turn-twice-by Behind s t m w c n f g = refl
turn-twice-by (Jump b) s t m w c n f g = refl
turn-twice-by (Turn b) s t m w c n f g = turn-joined (stretch_by (Turn b) s t m w c n) (f b s) g
turn-twice-by (Stop e) s t m w c n f g = refl

turn-twice : (a : Stretch) (f g : ℕ → State → Stretch) → then_turn (then_turn a f) g ≡ then_turn a (λ b s. then_turn (f b s) g)
turn-twice a f g = turn-twice-by a.next a.state a.text a.made a.weighed a.cells a.turns f g

turn-along-by : (next : Next) (a : Stretch) (f g : ℕ → State → Stretch) → ((b : ℕ) (s : State) → f b s ≡ g b s) → turn_at next a f ≡ turn_at next a g
turn-along-by Behind a f g same = refl
turn-along-by (Jump b) a f g same = refl
turn-along-by (Turn b) a f g same = ap (joined a) (same b a.state)
turn-along-by (Stop e) a f g same = refl

turn-along : (a : Stretch) (f g : ℕ → State → Stretch) → ((b : ℕ) (s : State) → f b s ≡ g b s) → then_turn a f ≡ then_turn a g
turn-along a f g same = turn-along-by a.next a f g same

turn-counted-by : (next : Next) (s : State) (t : List ℕ) (m w c n : ℕ) (g : ℕ → State → Stretch)
    → then_turn (after_turn (stretch_by next s t m w c n)) g ≡ after_turn (then_turn (stretch_by next s t m w c n) g)
turn-counted-by Behind s t m w c n g = refl
turn-counted-by (Jump b) s t m w c n g = refl
turn-counted-by (Turn b) s t m w c n g =
    let turns : suc n + (g b s).turns ≡ suc (n + (g b s).turns) = omega arith in
    same_stretch (g b s).next (g b s).state refl refl refl refl turns
turn-counted-by (Stop e) s t m w c n g = refl

turn-counted : (a : Stretch) (g : ℕ → State → Stretch) → then_turn (after_turn a) g ≡ after_turn (then_turn a g)
turn-counted a g = turn-counted-by a.next a.state a.text a.made a.weighed a.cells a.turns g

-- ---- what was in use

jump-counts : (next : Next) (a : Stretch) (g : ℕ → State → Stretch) (u : ℕ) → u ≤ a.cells → u ≤ (jump_at next a g).cells
jump-counts Behind a g u le = le
jump-counts (Jump b) a g u le = le_trans le (le-max_left a.cells (g b a.state).cells)
jump-counts (Turn b) a g u le = le
jump-counts (Stop e) a g u le = le

turn-counts : (next : Next) (a : Stretch) (g : ℕ → State → Stretch) (u : ℕ) → u ≤ a.cells → u ≤ (turn_at next a g).cells
turn-counts Behind a g u le = le
turn-counts (Jump b) a g u le = le
turn-counts (Turn b) a g u le = le_trans le (le-max_left a.cells (g b a.state).cells)
turn-counts (Stop e) a g u le = le

exec-counts : (instrs : List Instr) (s : State) → cells_used s.heap ≤ (exec instrs s).cells
exec-counts [] s = omega arith
exec-counts (i ∷ rest) s = le-max_left (cells_used s.heap) (then_behind (effect i s) (exec rest)).cells

block-counts : (o : Option (List Instr)) (s : State) → cells_used s.heap ≤ (with_known o (λ instrs. exec instrs s) s).cells
block-counts None s = omega arith
block-counts (Some instrs) s = exec-counts instrs s

module _ (blocks : List (List Instr)) where
  hops-count : (k b : ℕ) (s : State) → cells_used s.heap ≤ (hops blocks k b s).cells
  hops-count zero b s = omega arith
  hops-count (suc k) b s = jump-counts (enters blocks b s).next (enters blocks b s) (hops blocks k) (cells_used s.heap) (block-counts (slice_get blocks b) s)

  -- the cells that are in use where turns begin
  pub turns-count : (n b : ℕ) (s : State) → cells_used s.heap ≤ (turns blocks n b s).cells
  turns-count zero b s = omega arith
  turns-count (suc n) b s = turn-counts (turn blocks b s).next (turn blocks b s) (turns blocks n) (cells_used s.heap) (hops-count (length blocks) b s)

  no-turn : (b : ℕ) (s : State) (a : Stretch) → cells_used s.heap ≤ a.cells → joined (goes (Turn b) s) a ≡ a
  no-turn b s a le =
      let made : 0 + a.made ≡ a.made = omega arith in
      let weighed : 0 + a.weighed ≡ a.weighed = omega arith in
      let most : max (cells_used s.heap) a.cells ≡ a.cells = omega (arith, le) in
      let turns : 0 + a.turns ≡ a.turns = omega arith in
      same_stretch a.next a.state refl made weighed most turns

  -- so many turns, and then so many more
  pub turns-more : (m n b : ℕ) (s : State) → then_turn (turns blocks m b s) (turns blocks n) ≡ turns blocks (m + n) b s
  turns-more zero n b s =
      let e : n ≡ 0 + n = omega arith in
      no-turn b s (turns blocks n b s) (turns-count n b s) ∙ ap (λ k. turns blocks k b s) e
  turns-more (suc m) n b s =
      let e : suc (m + n) ≡ suc m + n = omega arith in
      turn-counted (then_turn (turn blocks b s) (turns blocks m)) (turns blocks n)
      ∙ ap after_turn (turn-twice (turn blocks b s) (turns blocks m) (turns blocks n) ∙ turn-along (turn blocks b s) (λ c u. then_turn (turns blocks m c u) (turns blocks n)) (turns blocks (m + n)) (turns-more m n))
      ∙ ap (λ k. turns blocks k b s) e
