-- From what the grammar of functions reads to the answers of the public call.
use Rattle.std.proofs.Common.{◌≡◌, ◌-◌, List, refl, lit<, inl, inr, Result, Ok, Err}
use Rattle.rml_base.specs.Answers.{Explains, Gives, Refuses}
use Rattle.rml_base.specs.declared.limits.TheConstants.{NESTING, RULES}
use Rattle.rml_base.specs.declared.place.Place.{Place}
use Rattle.rml_syntax.specs.declared.token.Spot.{Spot}
use Rattle.rml_syntax.specs.declared.texts.Text.{Text}
use Rattle.rml_grammar.specs.declared.fault.ParseKind.{ParseKind}
use Rattle.rml_grammar.specs.declared.fault.ParseKind.TheVariants as kind
use Rattle.rml_grammar.specs.SpelledTexts.{Derives}
use Rattle.rml_grammar.specs.Texts.{whole_text}
use Rattle.rml_grammar.proofs.Callers.{one-tree, sound, text-within}
use Rattle.rml_parse.specs.declared.answer.ParseErr.{ParseErr}
use Rattle.rml_parse.specs.declared.answer.ParseErr.TheVariants as error
use Rattle.rml_parse.specs.Answers.{IsFaultOf, Says}
use Rattle.rml_parse.specs.Faults.{IsFault, IsTree, PassesLimit, StopsAt}
use Rattle.rml_parse.proofs.Stops.{no-text-there, not-both, one-stop, stops-at}

module _ (end : Place) (us : List Spot) where
  fault-of : (e : ParseErr) → IsFaultOf end us (whole_text end NESTING (RULES - 1) us) e → IsFault end us e
  fault-of error.Memory h = absurd h
  fault-of (error.At p k) h = stops-at end us h.0 h.1 p k h.2 h.3

  pub answer-of : (r : Result Text ParseErr) → Says end us r (whole_text end NESTING (RULES - 1) us) → Explains error.Memory r (IsTree end us) (IsFault end us)
  answer-of (Ok t) h = record { derived = sound end NESTING (RULES - 1) us t h; within = text-within end NESTING (RULES - 1) us t (lit< tt) h }
  answer-of (Err e) h = λ some. fault-of e (h some)

  -- what an answer can be, where each has its cause
  pub tree-of : (r : Result Text ParseErr) → Explains error.Memory r (IsTree end us) (IsFault end us) → (t : Text) → IsTree end us t → Gives error.Memory r (λ u. u ≡ t)
  tree-of (Ok u) h t d = one-tree end us u t h.derived d.derived
  tree-of (Err error.Memory) h t d = refl
  tree-of (Err (error.At p k)) h t d = absurd (not-both end us t p k d (h (λ m. cc)))

  same-answer : (p q : Place) (j k : ParseKind) → (p ≡ q) × (j ≡ k) → error.At p j ≡ error.At q k
  same-answer p q j k e = rw (e.0, e.1) refl

  pub fault-only : (r : Result Text ParseErr) → Explains error.Memory r (IsTree end us) (IsFault end us) → (p : Place) (k : ParseKind) → StopsAt end us p k → Refuses error.Memory r (λ e. e ≡ error.At p k)
  fault-only (Ok u) h p k s = not-both end us u p k h s
  fault-only (Err error.Memory) h p k s = inr refl
  fault-only (Err (error.At q j)) h p k s = inl (same-answer q p j k (one-stop end us q p j k (h (λ m. cc)) s))

  limit-of : (t : Text) (p : Place) (k : ParseKind) → Derives end us t → StopsAt end us p k → PassesLimit (error.At p k)
  limit-of t p kind.Unexpected d s = no-text-there end us t p s d
  limit-of t p kind.TooDeep d s = tt
  limit-of t p kind.TooManyRules d s = tt

  pub limits-of : (r : Result Text ParseErr) → Explains error.Memory r (IsTree end us) (IsFault end us) → (t : Text) → Derives end us t → Explains error.Memory r (λ u. u ≡ t) PassesLimit
  limits-of (Ok u) h t d = one-tree end us u t h.derived d
  limits-of (Err error.Memory) h t d = λ some. absurd (some refl)
  limits-of (Err (error.At p k)) h t d = λ some. limit-of t p k d (h some)
