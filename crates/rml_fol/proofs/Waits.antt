-- A list of what waits to be written, of which the last is next.
use Rattle.std.proofs.Common.{◌≡◌, ℕ, List, [], ◌∷◌, ◌++◌, ap, sym, ◌∙◌, append_assoc, append-nil}
use Rattle.rml_fol.specs.declared.blocks.Waiting.{Waiting}
use Rattle.rml_fol.specs.declared.parts.Parts.{Parts}
use Rattle.rml_fol.specs.Waiting.{waiting_lines, all_waiting_lines}

pub next-is-written : (p : Parts) (ws : List Waiting) (w : Waiting) → all_waiting_lines p (ws ++ w ∷ []) ≡ waiting_lines p w ++ all_waiting_lines p ws
next-is-written p [] w = sym (append-nil (waiting_lines p w))
next-is-written p (v ∷ ws) w = ap (λ z. z ++ waiting_lines p v) (next-is-written p ws w) ∙ append_assoc (waiting_lines p w) (all_waiting_lines p ws) (waiting_lines p v)

-- three blocks, each under its line, of which the first comes next
pub three-are-written : (o o' l1 d1 l2 d2 l3 d3 w0 w1 w2 w3 : List ℕ) → o' ≡ o ++ l1 → w1 ≡ (l3 ++ d3) ++ w0 → w2 ≡ (l2 ++ d2) ++ w1 → w3 ≡ d1 ++ w2
    → o' ++ w3 ≡ (o ++ (l1 ++ d1 ++ l2 ++ d2 ++ l3 ++ d3)) ++ w0
three-are-written o o' l1 d1 l2 d2 l3 d3 w0 w1 w2 w3 e f g h =
    ap (λ z. z ++ w3) e ∙ ap (λ z. (o ++ l1) ++ z) (h ∙ ap (λ z. d1 ++ z) (g ∙ ap (λ z. (l2 ++ d2) ++ z) f)) ∙ simp append_assoc
