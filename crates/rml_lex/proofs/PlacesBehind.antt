-- Lines and columns, from the bytes before a place.
use Rattle.std.proofs.Common.{◌≡◌, ℕ, ◌+◌, Bool, true, false, List, [], ◌∷◌, ◌++◌, length, refl, ap, ◌∙◌, arith, inl, inr}
use Rattle.std.specs.Prelude.{◌==◌, count_by, if◌then◌else◌, not}
use Rattle.std.specs.List.{list_all}
use Rattle.std.proofs.lemmas.List.Sums.{fold-append}
use Rattle.std.proofs.lemmas.Grind.{common_steps}
use Rattle.rml_base.specs.declared.place.Place.{Place}
use Rattle.rml_lex.specs.Places.{IsPlace, IsWithinLine, place_after, place_step, start}
use Rattle.rml_lex.proofs.Characters.{two-ways, and-left, and-right}

line-end : (p : Place) (b : ℕ) → (b == 10) ≡ true → place_step p b ≡ record { text = p.text; line = p.line + 1; column = 1 }
line-end p b e = rw e refl

line-on : (p : Place) (b : ℕ) → (b == 10) ≡ false → place_step p b ≡ record { text = p.text; line = p.line; column = p.column + 1 }
line-on p b e = rw e refl

not-true : (b : Bool) → not b ≡ true → b ≡ false
not-true true e = absurd cc
not-true false e = refl

-- within a line
along : (p : Place) (bytes : List ℕ) → IsWithinLine bytes → IsPlace (place_after p bytes) p.text p.line (p.column + length bytes)
along p [] e = record { text_is = refl; line_is = refl; column_is = omega arith }
along p (b ∷ bs) e =
    let on = line-on p b (not-true (b == 10) (and-left _ (list_all (λ b. not (b == 10)) bs) e)) in
    let more = along (place_step p b) bs (and-right (not (b == 10)) _ e) in
    record { text_is = more.text_is ∙ ap (λ q. q.text) on; line_is = more.line_is ∙ ap (λ q. q.line) on; column_is = (let c = more.column_is in let o = ap (λ (q : Place). q.column) on in omega arith) }

-- over lines
step-text : (p : Place) (b : ℕ) → (place_step p b).text ≡ p.text
step-text p b = elim (two-ways (b == 10)) [
  | inl y ↦ ap (λ q. q.text) (line-end p b y)
  | inr n ↦ ap (λ q. q.text) (line-on p b n)
]

step-line : (p : Place) (b : ℕ) → (place_step p b).line ≡ p.line + (if b == 10 then 1 else 0)
step-line p b = elim (two-ways (b == 10)) [
  | inl y ↦ rw y refl
  | inr n ↦ rw n (omega arith)
]

texts : (p : Place) (bytes : List ℕ) → (place_after p bytes).text ≡ p.text
texts p [] = refl
texts p (b ∷ bs) = texts (place_step p b) bs ∙ step-text p b

lines : (p : Place) (bytes : List ℕ) → (place_after p bytes).line ≡ p.line + count_by (λ b. b == 10) bytes
lines p [] = omega arith
lines p (b ∷ bs) = (let more = lines (place_step p b) bs in let one = step-line p b in grind (arith, common_steps))

pub first-line : (text : ℕ) (line : List ℕ) → IsWithinLine line → IsPlace (place_after (start text) line) text 1 (1 + length line)
first-line text line e = along (start text) line e

pub later-line : (text : ℕ) (front line : List ℕ) → IsWithinLine line → IsPlace (place_after (start text) (front ++ 10 ∷ line)) text (2 + count_by (λ b. b == 10) front) (1 + length line)
later-line text front line e =
    let split : place_after (start text) (front ++ 10 ∷ line) ≡ place_after (place_step (place_after (start text) front) 10) line = fold-append place_step (start text) front (10 ∷ line) in
    let more = along (place_step (place_after (start text) front) 10) line e in
    let t = texts (start text) front in
    let l = lines (start text) front in
    rw split (record { text_is = more.text_is ∙ t; line_is = (let m = more.line_is in omega arith); column_is = more.column_is })
