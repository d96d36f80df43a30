-- The loop over sources: so many texts have been read, and the next one is read or refused.
use Rattle.std.proofs.Common.{◌≡◌, ℕ, suc, ◌+◌, ◌*◌, ◌<◌, ◌≤◌, List, [], ◌∷◌, ◌++◌, length, take, drop, get_or, sym, ap, subst, ◌∙◌, arith, append_assoc, add-one}
use Rattle.std.proofs.Math.Seq.{take-suc, drop-cons}
use Rattle.std.proofs.Math.ListN.{length-append}
use Rattle.std.proofs.lemmas.List.{length-map, length-take, map-append, take-append-drop}
use Rattle.std.specs.Prelude.{All}
use Rattle.rml_base.specs.Numbering.{GrowsBy}
use Rattle.rml_base.specs.declared.limits.TheConstants.{BYTES}
use Rattle.rml_syntax.specs.declared.texts.Text.{Text}
use Rattle.rml_stages.specs.declared.refusal.Refusal.{Refusal}
use Rattle.rml_stages.specs.declared.source.Source.{Source}
use Rattle.rml_stages.specs.Sources.{contents}
use Rattle.rml_stages.specs.Reading.{AreRead, IsFirstRefusal, IsRead, IsRefused}
use Rattle.rml_stages.proofs.OneReadingOfAll.{read-more}

-- the names that one text more may bring
pub names-more : (i n more : ℕ) (old mid new : List (List ℕ)) → GrowsBy (BYTES * i) old mid → GrowsBy more mid new → more ≤ BYTES → i < n → GrowsBy (BYTES * n) old new
names-more i n more old mid new g h le lt =
    (g.0 ++ h.0, h.1 ∙ ap (λ ns. ns ++ h.0) g.1 ∙ append_assoc old g.0 h.0, omega (arith, length-append g.0 h.0, g.2, h.2, le, lt))

module _ (sources : List Source) (i : ℕ) (s : Source) (within : i < length sources) (is : s ≡ get_or sources i s) where
  pub small : All (λ x. length x.bytes ≤ BYTES) sources → length s.bytes ≤ BYTES
  small h = subst (λ (x : Source). length x.bytes ≤ BYTES) (sym is) (h i s within)

  front : contents (take (i + 1) sources) ≡ contents (take i sources) ++ s.bytes ∷ []
  front =
      let cut : take (i + 1) sources ≡ take i sources ++ s ∷ [] = rw add-one (take-suc sources i s within) ∙ ap (λ (x : Source). take i sources ++ x ∷ []) (sym is) in
      ap contents cut ∙ map-append (λ (x : Source). x.bytes) (take i sources) (s ∷ [])

  cut-at : contents sources ≡ contents (take i sources) ++ s.bytes ∷ contents (drop (suc i) sources)
  cut-at =
      let tail : drop i sources ≡ s ∷ drop (suc i) sources = drop-cons sources i s within ∙ ap (λ (x : Source). x ∷ drop (suc i) sources) (sym is) in
      let all : take i sources ++ s ∷ drop (suc i) sources ≡ sources = ap (λ xs. take i sources ++ xs) (sym tail) ∙ take-append-drop i sources in
      sym (ap contents all) ∙ map-append (λ (x : Source). x.bytes) (take i sources) (s ∷ drop (suc i) sources)

  so-many : 0 + length (contents (take i sources)) ≡ i
  so-many =
      let a : length (contents (take i sources)) ≡ length (take i sources) = length-map (take i sources) (λ (x : Source). x.bytes) in
      omega (arith, a, length-take i sources)

  pub one-more : (old mid new : List (List ℕ)) (ts : List Text) (t : Text) → AreRead 0 (contents (take i sources)) old ts mid → IsRead i s.bytes mid t new → AreRead 0 (contents (take (i + 1) sources)) old (ts ++ t ∷ []) new
  one-more old mid new ts t h k =
      subst (λ xs. AreRead 0 xs old (ts ++ t ∷ []) new) (sym front)
      (read-more (contents (take i sources)) 0 old mid new ts s.bytes t h (subst (λ n. IsRead n s.bytes mid t new) (sym so-many) k))

  pub stops-here : (old mid : List (List ℕ)) (ts : List Text) (r : Refusal) → AreRead 0 (contents (take i sources)) old ts mid → IsRefused i s.bytes mid r → IsFirstRefusal 0 (contents sources) old r
  stops-here old mid ts r h k = record {
    before = contents (take i sources);
    text = s.bytes;
    after = contents (drop (suc i) sources);
    cut = cut-at;
    trees = ts;
    new = mid;
    read = h;
    refused = subst (λ n. IsRefused n s.bytes mid r) (sym so-many) k;
  }
