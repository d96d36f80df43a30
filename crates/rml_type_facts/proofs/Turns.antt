-- Turns of loops whose list is told by a recursion of its own: the whole list against what is left of it.
use Rattle.std.proofs.Common.{◌≡◌, ℕ, ◌+◌, ◌<◌, Bool, List, [], ◌∷◌, ◌++◌, length, drop, get_or, sym, ap, ◌∙◌, add-one, Option}
use Rattle.std.specs.Prelude.{slice_get}
use Rattle.std.specs.List.{flat_map}
use Rattle.rml_base.specs.declared.place.Place.{Place}
use Rattle.rml_syntax.specs.declared.texts.Text.{Text}
use Rattle.rml_syntax.specs.declared.types.Sig.{Sig}
use Rattle.rml_types.specs.Labels.{Label}
use Rattle.rml_scopes.specs.Module.{main_of, mains_from}
use Rattle.rml_scopes.specs.declared.world.TypeFacts.{TypeFacts}
use Rattle.rml_signatures.specs.Types.{KnownTypes}
use Rattle.rml_signatures.specs.declared.definitions.Definition.{Definition}
use Rattle.rml_signatures.proofs.Callers.{appended, split}
use Rattle.rml_type_facts.specs.Circles.{circular_in, own_among, own_in}
use Rattle.rml_type_facts.specs.Facts.{different_in, facts_from}

pub own-turn : (ds : List (Option Definition)) (count : ℕ) (ls : List Label) (i : ℕ) (l : Label) (old new : List ℕ) → i < length ls → get_or ls i l ≡ l
    → own_among ds count ls ≡ old ++ own_among ds count (drop i ls) → new ≡ old ++ own_in ds count l.0 → own_among ds count ls ≡ new ++ own_among ds count (drop (i + 1) ls)
own-turn ds count ls i l old new lt at before is =
    appended (own_among ds count ls) old (own_in ds count l.0) (own_among ds count (drop i ls)) (own_among ds count (drop (i + 1) ls)) new before (ap (own_among ds count) (split ls i l lt at)) is

pub facts-turn : (test : ℕ → Bool) (w : KnownTypes) (texts : List Text) (i : ℕ) (t : Text) (whole old new : List TypeFacts) (circular different : List ℕ) → i < length texts → get_or texts i t ≡ t
    → whole ≡ old ++ facts_from test w texts i (drop i texts) → circular ≡ circular_in test (slice_get w.numbers.texts i) → different ≡ different_in w texts i t
    → new ≡ old ++ (record { circular = circular; different = different }) ∷ [] → whole ≡ new ++ facts_from test w texts (i + 1) (drop (i + 1) texts)
facts-turn test w texts i t whole old new circular different lt at before c d is =
    let fact : ℕ → List TypeFacts = λ j. (record { circular = circular_in test (slice_get w.numbers.texts i); different = different_in w texts i t }) ∷ facts_from test w texts j (drop (i + 1) texts) in
    appended whole old ((record { circular = circular_in test (slice_get w.numbers.texts i); different = different_in w texts i t }) ∷ []) (facts_from test w texts i (drop i texts))
    (facts_from test w texts (i + 1) (drop (i + 1) texts)) new before
    (ap (facts_from test w texts i) (split texts i t lt at) ∙ ap fact (sym (add-one i)))
    (is ∙ ap (λ (xs : List ℕ). old ++ (record { circular = xs; different = different }) ∷ []) c ∙ ap (λ (xs : List ℕ). old ++ (record { circular = circular_in test (slice_get w.numbers.texts i); different = xs }) ∷ []) d)

pub mains-turn : (fits : ℕ → Sig → Bool) (main : ℕ) (texts : List Text) (i : ℕ) (t : Text) (whole old new : List Place) → i < length texts → get_or texts i t ≡ t
    → whole ≡ old ++ mains_from fits main i (drop i texts) → new ≡ old ++ flat_map (main_of main (fits i)) t.specs → whole ≡ new ++ mains_from fits main (i + 1) (drop (i + 1) texts)
mains-turn fits main texts i t whole old new lt at before is =
    appended whole old (flat_map (main_of main (fits i)) t.specs) (mains_from fits main i (drop i texts)) (mains_from fits main (i + 1) (drop (i + 1) texts)) new before
    (ap (mains_from fits main i) (split texts i t lt at) ∙ ap (λ j. flat_map (main_of main (fits i)) t.specs ++ mains_from fits main j (drop (i + 1) texts)) (sym (add-one i))) is
