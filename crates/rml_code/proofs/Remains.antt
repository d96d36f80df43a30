-- What remains of a run is what the first instruction does, and then what remains behind it.
use Rattle.std.specs.Prelude.{ℕ, zero, suc, ◌≡◌, ◌+◌, List, ◌∷◌, Option, Some, slice_get}
use Rattle.std.proofs.Common.{refl, sym, ◌∙◌, ap, append_assoc, add_assoc, arith}
use Rattle.std.proofs.lemmas.List.{append-nil}
use Rattle.rml_base.specs.Run.{InnerOutcome, Run, bare}
use Rattle.rml_code.specs.declared.instructions.Instr.{Instr}
use Rattle.rml_code.specs.declared.state.State.{State}
use Rattle.rml_code.specs.Stretch.{End, Next, Behind, Jump, Turn, Stop, Stretch, goes, with_known, joined, counting, then_behind, then_jump, then_turn}
use Rattle.rml_code.specs.Turns.{exec, hops, turns}
use Rattle.rml_code.specs.Effects.{effect}
use Rattle.rml_code.specs.Runs.{inner_end}
use Rattle.rml_code.specs.Remaining.{shown, behind_it, remains, at_block, at_turn, comes_of}

-- ---- by their parts

abbrev run_by : InnerOutcome → List ℕ → ℕ → ℕ → Run
run_by o t m w = record { outcome = o; text = t; made = m; weighed = w }

abbrev pub stretch_by : Next → State → List ℕ → ℕ → ℕ → ℕ → ℕ → Stretch
stretch_by next s t m w c n = record { next = next; state = s; text = t; made = m; weighed = w; cells = c; turns = n }

same_run : (o : InnerOutcome) {t u : List ℕ} {m l w v : ℕ} → t ≡ u → m ≡ l → w ≡ v → run_by o t m w ≡ run_by o u l v
same_run o {t = t} {u = u} {m = m} {l = l} {w = w} a b c = ap (λ x. run_by o x m w) a ∙ ap (λ x. run_by o u x w) b ∙ ap (λ x. run_by o u l x) c

-- ---- behind a stretch

-- behind two: behind the second, and then behind the first
pub behind-joined : (a b : Stretch) (r : Run) → behind_it (joined a b) r ≡ behind_it a (behind_it b r)
behind-joined a b r = same_run r.outcome (append_assoc a.text b.text r.text) (add_assoc a.made b.made r.made) (add_assoc a.weighed b.weighed r.weighed)

-- behind one that did nothing
pub behind-nothing : (next : Next) (s : State) (r : Run) → behind_it (goes next s) r ≡ r
behind-nothing next s r =
    let m : 0 + r.made ≡ r.made = omega arith in
    let w : 0 + r.weighed ≡ r.weighed = omega arith in
    same_run r.outcome refl m w

-- behind one that is the last
behind-last : (a : Stretch) (e : End) → run_by (inner_end e) a.text a.made a.weighed ≡ behind_it a (bare (inner_end e))
behind-last a e =
    let m : a.made ≡ a.made + 0 = omega arith in
    let w : a.weighed ≡ a.weighed + 0 = omega arith in
    same_run (inner_end e) (sym (append-nil a.text)) m w

-- what follows the second of two follows it behind the first
turns-by : (a : Stretch) (next : Next) (s : State) (t : List ℕ) (m w c n : ℕ) (g : ℕ → State → Stretch)
    → shown (then_turn (joined a (stretch_by next s t m w c n)) g) ≡ behind_it a (shown (then_turn (stretch_by next s t m w c n) g))
turns-by a Behind s t m w c n g = refl
turns-by a (Jump b) s t m w c n g = refl
turns-by a (Turn b) s t m w c n g = behind-joined a (stretch_by (Turn b) s t m w c n) (shown (g b s))
turns-by a (Stop e) s t m w c n g = refl

turns-behind : (a b : Stretch) (g : ℕ → State → Stretch) → shown (then_turn (joined a b) g) ≡ behind_it a (shown (then_turn b g))
turns-behind a b g = turns-by a b.next b.state b.text b.made b.weighed b.cells b.turns g

jumps-by : (a : Stretch) (next : Next) (s : State) (t : List ℕ) (m w c n : ℕ) (f g : ℕ → State → Stretch)
    → shown (then_turn (then_jump (joined a (stretch_by next s t m w c n)) f) g) ≡ behind_it a (shown (then_turn (then_jump (stretch_by next s t m w c n) f) g))
jumps-by a Behind s t m w c n f g = refl
jumps-by a (Jump b) s t m w c n f g =
    let it : Stretch = stretch_by (Jump b) s t m w c n in
    turns-behind (joined a it) (f b s) g ∙ behind-joined a it (shown (then_turn (f b s) g)) ∙ ap (behind_it a) (sym (turns-behind it (f b s) g))
jumps-by a (Turn b) s t m w c n f g = behind-joined a (stretch_by (Turn b) s t m w c n) (shown (g b s))
jumps-by a (Stop e) s t m w c n f g = refl

jumps-behind : (a b : Stretch) (f g : ℕ → State → Stretch) → shown (then_turn (then_jump (joined a b) f) g) ≡ behind_it a (shown (then_turn (then_jump b f) g))
jumps-behind a b f g = jumps-by a b.next b.state b.text b.made b.weighed b.cells b.turns f g

-- a run does not see what is counted
counted-by : (before : State) (next : Next) (s : State) (t : List ℕ) (m w c n : ℕ) (f g : ℕ → State → Stretch)
    → shown (then_turn (then_jump (counting before (stretch_by next s t m w c n)) f) g) ≡ shown (then_turn (then_jump (stretch_by next s t m w c n) f) g)
counted-by before Behind s t m w c n f g = refl
counted-by before (Jump b) s t m w c n f g =
    let it : Stretch = stretch_by (Jump b) s t m w c n in
    turns-behind (counting before it) (f b s) g ∙ sym (turns-behind it (f b s) g)
counted-by before (Turn b) s t m w c n f g = refl
counted-by before (Stop e) s t m w c n f g = refl

counted : (before : State) (a : Stretch) (f g : ℕ → State → Stretch) → shown (then_turn (then_jump (counting before a) f) g) ≡ shown (then_turn (then_jump a f) g)
counted before a f g = counted-by before a.next a.state a.text a.made a.weighed a.cells a.turns f g

-- ---- what remains

module _ (blocks : List (List Instr)) where
  -- by a turn
  pub remains-turn : (b : ℕ) (s : State) (n : ℕ) → shown (turns blocks n b s) ≡ at_turn blocks b s n
  remains-turn b s zero = refl
  remains-turn b s (suc n) = refl

  -- a block that is there
  pub remains-block : (k b : ℕ) (instrs : List Instr) (s : State) (n : ℕ) → slice_get blocks b ≡ Some instrs → at_block blocks (suc k) b s n ≡ remains blocks k instrs s n
  remains-block k b instrs s n there = ap (λ (o : Option (List Instr)). shown (then_turn (then_jump (with_known o (λ is. exec is s) s) (hops blocks k)) (turns blocks n))) there

  first-by : (k : ℕ) (rest : List Instr) (next : Next) (s : State) (t : List ℕ) (m w c u n : ℕ)
      → shown (then_turn (then_jump (then_behind (stretch_by next s t m w c u) (exec rest)) (hops blocks k)) (turns blocks n)) ≡ comes_of blocks k rest (stretch_by next s t m w c u) n
  first-by k rest Behind s t m w c u n = jumps-behind (stretch_by Behind s t m w c u) (exec rest s) (hops blocks k) (turns blocks n)
  first-by k rest (Jump b) s t m w c u n = turns-behind (stretch_by (Jump b) s t m w c u) (hops blocks k b s) (turns blocks n)
  first-by k rest (Turn b) s t m w c u n = ap (behind_it (stretch_by (Turn b) s t m w c u)) (remains-turn b s n)
  first-by k rest (Stop e) s t m w c u n = behind-last (stretch_by (Stop e) s t m w c u) e

  -- the first instruction, and then what follows
  pub remains-first : (k : ℕ) (i : Instr) (rest : List Instr) (s : State) (n : ℕ)
      → remains blocks k (i ∷ rest) s n ≡ comes_of blocks k rest (effect i s) n
  remains-first k i rest s n =
      let e : Stretch = effect i s in
      counted s (then_behind e (exec rest)) (hops blocks k) (turns blocks n) ∙ first-by k rest e.next e.state e.text e.made e.weighed e.cells e.turns n
