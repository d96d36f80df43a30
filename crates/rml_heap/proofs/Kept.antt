-- What is handed out, written above, taken back from above, or set as a logical variable's content, agrees with what was.
use Rattle.std.proofs.Common.{◌≡◌, ◌≢◌, ℕ, zero, suc, ◌<◌, ◌≤◌, List, [], ◌∷◌, ◌++◌, Some, length, take, set, refl, sym, ap, subst, ◌∙◌, arith, inl, inr, get_or-set_other, get_or-set_same}
use Rattle.std.specs.Option.{option_map}
use Rattle.std.proofs.lemmas.List.{get_or_append_left, get_or-take}
use Rattle.std.proofs.lemmas.Bool.Decides.{eqb_tells}
use Rattle.rml_heap.specs.declared.cell.Cell.{Cell}
use Rattle.rml_heap.specs.HeapState.{unset_cell}
use Rattle.rml_heap.specs.Form as form
use Rattle.rml_heap.specs.Form.{Form, form_of}
use Rattle.rml_heap.specs.Reading.{cell_at, behind, look, place_of}
use Rattle.rml_heap.specs.Agrees.{Agrees}
use Rattle.rml_heap.proofs.Readings.{map-keeps}

-- where the cells below a place are the same, they look the same
pub look-below : (before after : List Cell) (top : ℕ) → ((at : ℕ) → at < top → cell_at after at ≡ cell_at before at) → (at : ℕ) → at < top → look after at ≡ look before at
unfolding look
look-below before after top same zero below = same zero below
look-below before after top same (suc at) below =
    let lower : at < top = omega (arith, below) in
    ap (λ (c : Cell). behind (form_of c) (cell_at after (suc at))) (same at lower) ∙ ap (behind (form_of (cell_at before at))) (same (suc at) below)

pub agrees-below : (top : ℕ) (before after : List Cell) (names : List ℕ) → ((at : ℕ) → at < top → cell_at after at ≡ cell_at before at) → Agrees top before names after names
agrees-below top before after names same = record { cells = λ at below. inr (look-below before after top same at below); names = λ at k below e. e }

pub agrees-more : (top : ℕ) (cells more : List Cell) (names : List ℕ) → top ≤ length cells → Agrees top cells names (cells ++ more) names
agrees-more top cells more names within =
    agrees-below top cells (cells ++ more) names (λ at below. get_or_append_left cells more unset_cell at (omega (arith, below, within)))

pub agrees-set : (top : ℕ) (cells : List Cell) (names : List ℕ) (at : ℕ) (c : Cell) → top ≤ at → Agrees top cells names (set cells at c) names
agrees-set top cells names at c above =
    agrees-below top cells (set cells at c) names (λ i below. let other : i ≢ at = λ e. omega (arith, e, below, above) in get_or-set_other cells at i c unset_cell other)

pub agrees-take : (top : ℕ) (cells : List Cell) (names : List ℕ) (n : ℕ) → top ≤ n → Agrees top cells names (take n cells) names
agrees-take top cells names n above =
    agrees-below top cells (take n cells) names (λ at below. get_or-take n cells at unset_cell (omega (arith, below, above)))

place_of-push : (names more : List ℕ) (at k : ℕ) → place_of at names ≡ Some k → place_of at (names ++ more) ≡ Some k
place_of-push [] more at k h = cc
place_of-push (name ∷ names) more at k h =
    elim (eqb_tells name at) [
      | inl same ↦ let h' = rw same.0 at h in rw same.0 h'
      | inr other ↦
          let h' : option_map suc (place_of at names) ≡ Some k = rw other.0 at h in
          rw other.0 (map-keeps suc (place_of at names) (place_of at (names ++ more)) k (λ j found. place_of-push names more at j found) h')
    ]

pub agrees-names : (top : ℕ) (cells : List Cell) (names more : List ℕ) → Agrees top cells names cells (names ++ more)
agrees-names top cells names more = record { cells = λ at below. inr refl; names = λ at k below found. place_of-push names more at k found }

-- behind the head of a logical variable all look the same, and behind another cell a cell looks as it is
behind-lvar : (f : Form) (c d : Cell) → f ≡ form.Lvar → behind f c ≡ behind f d
behind-lvar f c d is = let P : Form → Type 0 = λ g. behind g c ≡ behind g d in subst P (sym is) refl

abbrev pub IsNoHead : Form → Type 0
IsNoHead form.Lvar = ⊥
IsNoHead _ = Unit {0}

pub no-head : (f : Form) → f ≢ form.Lvar → IsNoHead f
no-head form.Lvar h = h refl
no-head (form.Int i) h = tt
no-head (form.Char c) h = tt
no-head (form.Rel r) h = tt
no-head (form.Block at) h = tt
no-head (form.Con c) h = tt
no-head (form.Text n) h = tt
no-head (form.ConBlock c n) h = tt
no-head (form.Tuple n) h = tt
no-head form.ConsBlock h = tt
no-head form.Unset h = tt
no-head (form.Vector n) h = tt
no-head form.Other h = tt

behind-seen : (f : Form) (c : Cell) → IsNoHead f → behind f c ≡ c
behind-seen form.Lvar c h = absurd h
behind-seen _ c h = refl

pub behind-other : (f : Form) (c : Cell) → f ≢ form.Lvar → behind f c ≡ c
behind-other f c h = behind-seen f c (no-head f h)

-- a logical variable's content is not seen
pub look-content : (cells : List Cell) (at : ℕ) (c : Cell) → form_of (cell_at cells at) ≡ form.Lvar → suc at < length cells → form_of (cell_at cells (suc at)) ≢ form.Lvar → form_of c ≢ form.Lvar
    → (i : ℕ) → look (set cells (suc at) c) i ≡ look cells i
unfolding look
look-content cells at c head inside old new zero =
    let other : 0 ≢ suc at = λ e. omega (arith, e) in get_or-set_other cells (suc at) 0 c unset_cell other
look-content cells at c head inside old new (suc i) =
    let after : List Cell = set cells (suc at) c in
    elim (eqb_tells i at) [
      | inl same ↦
          let is : i ≡ at = same.1 in
          let other : i ≢ suc at = λ e. omega (arith, e, is) in
          let before : cell_at after i ≡ cell_at cells i = get_or-set_other cells (suc at) i c unset_cell other in
          let lvar : form_of (cell_at cells i) ≡ form.Lvar = ap (λ n. form_of (cell_at cells n)) is ∙ head in
          ap (λ (d : Cell). behind (form_of d) (cell_at after (suc i))) before ∙ behind-lvar (form_of (cell_at cells i)) (cell_at after (suc i)) (cell_at cells (suc i)) lvar
      | inr far ↦
          let apart : i ≢ at = far.1 in
          let other : suc i ≢ suc at = λ e. apart (omega (arith, e)) in
          let here : cell_at after (suc i) ≡ cell_at cells (suc i) = get_or-set_other cells (suc at) (suc i) c unset_cell other in
          elim (eqb_tells i (suc at)) [
            | inl next ↦
                let is : i ≡ suc at = next.1 in
                let now : cell_at after i ≡ c = ap (cell_at after) is ∙ get_or-set_same cells (suc at) c unset_cell inside in
                let was : form_of (cell_at cells i) ≢ form.Lvar = let P : ℕ → Type 0 = λ n. form_of (cell_at cells n) ≢ form.Lvar in subst P (sym is) old in
                ap (λ (d : Cell). behind (form_of d) (cell_at after (suc i))) now ∙ behind-other (form_of c) (cell_at after (suc i)) new ∙ here ∙ sym (behind-other (form_of (cell_at cells i)) (cell_at cells (suc i)) was)
            | inr elsewhere ↦
                let before : cell_at after i ≡ cell_at cells i = get_or-set_other cells (suc at) i c unset_cell elsewhere.1 in
                ap (λ (d : Cell). behind (form_of d) (cell_at after (suc i))) before ∙ ap (behind (form_of (cell_at cells i))) here
          ]
    ]

pub agrees-content : (top : ℕ) (cells : List Cell) (names : List ℕ) (at : ℕ) (c : Cell) → form_of (cell_at cells at) ≡ form.Lvar → suc at < length cells → form_of (cell_at cells (suc at)) ≢ form.Lvar → form_of c ≢ form.Lvar
    → Agrees top cells names (set cells (suc at) c) names
agrees-content top cells names at c head inside old new = record { cells = λ i below. inr (look-content cells at c head inside old new i); names = λ i k below e. e }
