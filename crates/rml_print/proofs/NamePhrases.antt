-- Names with or without a module, as they are printed.
use Rattle.std.proofs.Common.{ℕ, List, [], ◌∷◌, ◌++◌, refl, append-nil}
use Rattle.std.specs.List.{flat_map}
use Rattle.std.proofs.lemmas.List.Elements.{All-head, All-tail}
use Rattle.rml_syntax.specs.declared.token.Spot.{Spot}
use Rattle.rml_syntax.specs.declared.token.Token.TheVariants as token
use Rattle.rml_syntax.specs.declared.rules.Long.{Long}
use Rattle.rml_grammar.specs.SpelledNames as s
use Rattle.rml_grammar.specs.SpelledNames.{IsLong}
use Rattle.rml_grammar.specs.SpelledTypes as t
use Rattle.rml_grammar.specs.SpelledTypes.{IsLongs}
use Rattle.rml_print.specs.Parts.{long_tokens}
use Rattle.rml_print.specs.Printable.{IsPrintable}
use Rattle.rml_print.specs.Source.{AreOfSomeBytes}
use Rattle.rml_print.proofs.Given.{AllPrintable, given}
use Rattle.rml_print.proofs.Phrases.{Closed, closed-both, one, quiet}

pub spots-printable : (names : List (List ℕ)) (spots : List Spot) → AreOfSomeBytes names spots → AllPrintable names spots
spots-printable names spots h = given names h.text h.bytes spots h.are_bytes h.spelled

module _ (names : List (List ℕ)) where
  -- each of the tokens can be printed
  pub record Good (us : List Spot) : Type 0 where
    pub each : AllPrintable names us

  pub first : {s : Spot} {us : List Spot} → Good (s ∷ us) → IsPrintable names s.token
  first {s} {us} h = All-head (λ (x : Spot). IsPrintable names x.token) s us h.each

  pub others : {s : Spot} {us : List Spot} → Good (s ∷ us) → Good us
  others {s} {us} h = record { each = All-tail (λ (x : Spot). IsPrintable names x.token) s us h.each }

  pub good : (us : List Spot) → AreOfSomeBytes names us → Good us
  good us h = record { each = spots-printable names us h }

  pub behind-front : (front us : List Spot) → AllPrintable names (front ++ us) → Good us
  behind-front [] us h = record { each = h }
  behind-front (s ∷ front) us h = behind-front front us (All-tail (λ (x : Spot). IsPrintable names x.token) s (front ++ us) h)

  pub long-closed : {us rest : List Spot} {l : Long} → IsLong us l rest → Good us → Closed names (long_tokens l) × Good rest
  long-closed (s.alone {n} e) h = (record { phrase = one names (token.Name n) (first h) refl; ends = λ t. refl }, others h)
  long-closed (s.dotted {m}) h = (
    record {
      phrase = record { from = λ t. (first h, quiet t (token.Name m) refl, (tt, refl, (first (others (others h)), refl, tt))) };
      ends = λ t. refl;
    },
    others (others (others h)),
  )

  abbrev pub AllLongs : List Long → Type 0
  AllLongs [] = Unit {0}
  AllLongs (l ∷ ls) = Closed names (long_tokens l) × AllLongs ls

  pub all-longs : {us rest : List Spot} {ls : List Long} → IsLongs us ls rest → Good us → AllLongs ls × Good rest
  all-longs (t.no_long e) h = (tt, h)
  all-longs (t.more_longs a b) h = let x = long-closed a h in let y = all-longs b x.1 in ((x.0, y.0), y.1)

  -- one name or more
  pub longs-closed : (l : Long) (ls : List Long) → AllLongs (l ∷ ls) → Closed names (flat_map long_tokens (l ∷ ls))
  longs-closed l [] h = rw append-nil h.0
  longs-closed l (k ∷ ks) h = closed-both names (let x = h.0 in x.phrase) (longs-closed k ks h.1)
