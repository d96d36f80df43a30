-- A text is read as one tree, or has one refusal, and not both.
use Rattle.std.proofs.Common.{◌≡◌, ℕ, ◌-◌, List, refl, sym, ap, subst, ◌∙◌, lit<, inl, inr, Result, Ok, Err, ◌⊎◌}
use Rattle.rml_base.specs.declared.limits.TheConstants.{NESTING, RULES}
use Rattle.rml_base.specs.declared.place.Place.{Place}
use Rattle.rml_syntax.specs.declared.token.Spot.{Spot}
use Rattle.rml_syntax.specs.declared.texts.Text.{Text}
use Rattle.rml_lex.specs.declared.piece.LexKind.{LexKind}
use Rattle.rml_lex.specs.Numbered.{names_in, spots_in, with_names}
use Rattle.rml_lex.specs.Reading.{FirstFault, Shown, Spelled}
use Rattle.rml_lex.specs.Places.{start}
use Rattle.rml_lex.proofs.Callers.{is-read, one-list, same-fault, unspelled}
use Rattle.rml_grammar.specs.declared.fault.Fault.{Fault}
use Rattle.rml_grammar.specs.Texts.{whole_text}
use Rattle.rml_grammar.specs.SpelledTexts.{Derives}
use Rattle.rml_grammar.proofs.Callers.{one-tree, sound, text-within}
use Rattle.rml_parse.specs.Answers.{place_left}
use Rattle.rml_parse.specs.Faults.{StopsAt}
use Rattle.rml_parse.proofs.Callers.{not-both as not-tree-and-stop, one-stop, stops-at}
use Rattle.rml_stages.specs.declared.refusal.Refusal.{Refusal}
use Rattle.rml_stages.specs.Refusals.{misspelled, underived}
use Rattle.rml_stages.specs.Reading.{IsRead, IsRefused, IsSpelledAs, end_of, is_misspelled, is_underived}

module _ (number : ℕ) (bytes : List ℕ) (old : List (List ℕ)) where
  pub same-spots : (s u : List Spot) (a b : List (List ℕ)) → IsSpelledAs number bytes old s a → IsSpelledAs number bytes old u b → (s ≡ u) × (a ≡ b)
  same-spots s u a b h k =
      let e : h.shown ≡ k.shown = one-list number bytes h.shown k.shown h.spelled k.spelled in
      let names : a ≡ b = h.numbered.names ∙ ap (λ x. with_names old (names_in x)) e ∙ sym k.numbered.names in
      let spots : s ≡ u = h.numbered.tokens ∙ ap (spots_in a) e ∙ ap (λ n. spots_in n k.shown) names ∙ sym k.numbered.tokens in
      (spots, names)

  pub one-text : (t u : Text) (a b : List (List ℕ)) → IsRead number bytes old t a → IsRead number bytes old u b → (t ≡ u) × (a ≡ b)
  one-text t u a b (s, h) (v, k) =
      let e = same-spots s v a b h.spelled k.spelled in
      let d : Derives (end_of number bytes) s u = subst (λ (x : List Spot). Derives (end_of number bytes) x u) (sym e.0) k.is_tree.derived in
      (one-tree (end_of number bytes) s t u h.is_tree.derived d, e.1)

  pub not-both : (t : Text) (new : List (List ℕ)) (r : Refusal) → IsRead number bytes old t new → IsRefused number bytes old r → ⊥
  not-both t new r (s, h) (is_misspelled p k f e) = unspelled number bytes h.spelled.shown p k h.spelled.spelled f
  not-both t new r (s, h) (is_underived v b p k sp stop e) =
      let same = same-spots v s b new sp h.spelled in
      not-tree-and-stop (end_of number bytes) s t p k h.is_tree (subst (λ (x : List Spot). StopsAt (end_of number bytes) x p k) same.0 stop)

  pub one-refusal : (q r : Refusal) → IsRefused number bytes old q → IsRefused number bytes old r → q ≡ r
  one-refusal q r (is_misspelled p j f d) (is_misspelled o k g e) =
      let same = same-fault f.0 g.0 bytes f.1 g.1 (start number) p o j k f.2 g.2 f.3 g.3 in
      d ∙ (rw (same.0, same.1) (sym e))
  one-refusal q r (is_misspelled p j f d) (is_underived v b o k sp stop e) = absurd (unspelled number bytes sp.shown p j sp.spelled f)
  one-refusal q r (is_underived v b o k sp stop e) (is_misspelled p j f d) = absurd (unspelled number bytes sp.shown p j sp.spelled f)
  one-refusal q r (is_underived u a p j sp stop d) (is_underived v b o k sq halt e) =
      let spots = same-spots v u b a sq sp in
      let same = one-stop (end_of number bytes) u p o j k stop (subst (λ (x : List Spot). StopsAt (end_of number bytes) x o k) spots.0 halt) in
      d ∙ (rw (same.0, same.1) (sym e))

  Either : Type 0
  Either = ((t : Text) × (new : List (List ℕ)) × IsRead number bytes old t new) ⊎ ((r : Refusal) × IsRefused number bytes old r)

  by-tokens : (spots : List Spot) (new : List (List ℕ)) → IsSpelledAs number bytes old spots new → (r : Result Text Fault) → whole_text (end_of number bytes) NESTING (RULES - 1) spots ≡ r → Either
  unfolding Either
  by-tokens spots new sp (Ok t) e = inl (t, new, (spots, record { spelled = sp; is_tree = record { derived = sound (end_of number bytes) NESTING (RULES - 1) spots t e; within = text-within (end_of number bytes) NESTING (RULES - 1) spots t (lit< tt) e } }))
  by-tokens spots new sp (Err f) e =
      let p : Place = place_left (end_of number bytes) f.left spots in
      inr (underived p f.kind, is_underived spots new p f.kind sp (stops-at (end_of number bytes) spots f e p f.kind refl refl) refl)

  by-bytes : (((spots : List (Place × Shown)) × Spelled number bytes spots) ⊎ ((place : Place) × (kind : LexKind) × FirstFault number bytes place kind)) → Either
  unfolding Either
  by-bytes (inl (shown, s)) =
      let new : List (List ℕ) = with_names old (names_in shown) in
      by-tokens (spots_in new shown) new (record { shown = shown; spelled = s; numbered = record { names = refl; tokens = refl } }) (whole_text (end_of number bytes) NESTING (RULES - 1) (spots_in new shown)) refl
  by-bytes (inr (p, k, f)) = inr (misspelled p k, is_misspelled p k f refl)

  pub each-text : ((t : Text) × (new : List (List ℕ)) × IsRead number bytes old t new) ⊎ ((r : Refusal) × IsRefused number bytes old r)
  unfolding Either
  each-text = by-bytes (is-read number bytes)
