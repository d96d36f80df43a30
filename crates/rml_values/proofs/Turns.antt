-- Turns of the loops over tables and texts.
use Rattle.std.proofs.Common.{◌≡◌, ℕ, zero, suc, ◌+◌, ◌<◌, List, [], ◌∷◌, ◌++◌, length, get_or, drop, refl, sym, ap, ◌∙◌, add-one, append_assoc}
use Rattle.std.specs.Prelude.{Option, slice_get}
use Rattle.std.proofs.lemmas.List.{drop_more}
use Rattle.rml_outlines.specs.Declarations.{Values}
use Rattle.rml_outlines.specs.declared.entry.ValueEntry.{ValueEntry}
use Rattle.rml_outlines.specs.declared.outline.Outline.{Outline}
use Rattle.rml_values.specs.Numbers.{behind_text, end_from, lists_from, lists_of, with_entry, with_kind}
use Rattle.rml_values.specs.declared.numbers.Begins.{Begins}
use Rattle.rml_values.specs.declared.numbers.Kind.{Kind}
use Rattle.rml_values.specs.declared.numbers.TextValues.{TextValues}

-- what is declared at a place, and then what is left
pub kind_turn : (k : Kind) (names : List ℕ) (xs : Values) (place : ℕ) → with_kind k (with_entry k names (slice_get xs place)) (drop (place + 1) xs) ≡ with_kind k names (drop place xs)
kind_turn k names [] zero = refl
kind_turn k names [] (suc p) = rw (add-one (suc p)) refl
kind_turn k names (x ∷ xs) zero = refl
kind_turn k names (x ∷ xs) (suc p) = rw (add-one (suc p)) (rw (add-one p) at (kind_turn k names xs p))

pub kind_next : (k : Kind) (names new whole : List ℕ) (xs : Values) (place : ℕ) (x : Option (ℕ × ValueEntry)) → with_kind k names (drop place xs) ≡ whole → x ≡ slice_get xs place
    → new ≡ with_entry k names x → with_kind k new (drop (place + 1) xs) ≡ whole
kind_next k names new whole xs place x before is then_is =
    ap (λ (ns : List ℕ). with_kind k ns (drop (place + 1) xs)) (then_is ∙ ap (with_entry k names) is) ∙ kind_turn k names xs place ∙ before

-- the lists of a text, and then those of the texts that are left

split : (os : List Outline) (i : ℕ) (o : Outline) → i < length os → o ≡ get_or os i o → drop i os ≡ o ∷ drop (i + 1) os
split os i o lt is = drop_more os i o lt ∙ ap (λ (y : Outline). y ∷ drop (i + 1) os) (sym is)

pub lists_turn : (os : List Outline) (i : ℕ) (o : Outline) (b new : Begins) (t : TextValues) (whole made pushed : List TextValues) → i < length os → o ≡ get_or os i o
    → whole ≡ made ++ lists_from b (drop i os) → t ≡ lists_of b o → new ≡ behind_text t → pushed ≡ made ++ t ∷ []
    → whole ≡ pushed ++ lists_from new (drop (i + 1) os)
lists_turn os i o b new t whole made pushed lt is before here then_is there =
    let rest = drop (i + 1) os in
    let next : lists_from b (drop i os) ≡ t ∷ lists_from new rest =
    ap (lists_from b) (split os i o lt is) ∙ ap (λ (u : TextValues). u ∷ lists_from (behind_text u) rest) (sym here) ∙ ap (λ (c : Begins). t ∷ lists_from c rest) (sym then_is) in
    before ∙ ap (λ (l : List TextValues). made ++ l) next ∙ sym (append_assoc made (t ∷ []) (lists_from new rest)) ∙ ap (λ (l : List TextValues). l ++ lists_from new rest) (sym there)

pub end_turn : (os : List Outline) (i : ℕ) (o : Outline) (b new whole : Begins) (t : TextValues) → i < length os → o ≡ get_or os i o
    → whole ≡ end_from b (drop i os) → t ≡ lists_of b o → new ≡ behind_text t → whole ≡ end_from new (drop (i + 1) os)
end_turn os i o b new whole t lt is before here then_is =
    let rest = drop (i + 1) os in
    before ∙ ap (end_from b) (split os i o lt is) ∙ ap (λ (u : TextValues). end_from (behind_text u) rest) (sym here) ∙ ap (λ (c : Begins). end_from c rest) (sym then_is)
