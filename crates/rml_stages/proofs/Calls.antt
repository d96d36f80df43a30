-- What the lexer and the parser answer, as an answer for a text; and that it is the only one.
use Rattle.std.proofs.Common.{◌≡◌, ℕ, List, [], sym, ap, ◌∙◌, Result, Vec}
use Rattle.std.specs.declared.alloc.Global.{Global}
use Rattle.rml_base.specs.Answers.{Explains, Gives, Refuses}
use Rattle.rml_syntax.specs.declared.token.Spot.{Spot}
use Rattle.rml_syntax.specs.declared.texts.Text.{Text}
use Rattle.rml_lex.specs.Numbered.{IsNumbered}
use Rattle.rml_lex.specs.Reading.{IsFault, Shown, Spelled, shown}
use Rattle.rml_lex.specs.declared.tokens.LexErr.{LexErr}
use Rattle.rml_lex.specs.declared.tokens.LexErr.TheVariants as lex_error
use Rattle.rml_base.specs.declared.place.Place.{Place}
use Rattle.rml_parse.specs.Faults.{IsFault as IsFaultOfTokens}
use Rattle.rml_parse.specs.declared.answer.ParseErr.{ParseErr}
use Rattle.rml_parse.specs.declared.answer.ParseErr.TheVariants as parse_error
use Rattle.rml_print.specs.Listing.{listing}
use Rattle.rml_print.specs.Printed.{printed_text}
use Rattle.rml_stages.specs.declared.refusal.Refusal.{Refusal}
use Rattle.rml_stages.specs.declared.refusal.Refusal.TheVariants as refusal
use Rattle.rml_stages.specs.Refusals.{of_lexer, of_parser}
use Rattle.rml_stages.specs.Reading.{AreRead, IsFirstRefusal, IsRead, IsRefused, IsSpelledAs, end_of, is_misspelled, is_underived}
use Rattle.rml_stages.specs.Shown.{ShowsTokens, ShowsTree}
use Rattle.rml_stages.proofs.Causes.{gives, refuses}
use Rattle.rml_stages.proofs.OneReading.{not-both, one-refusal, one-text, same-spots}
use Rattle.rml_stages.proofs.OneReadingOfAll.{not-both-of-all, one-first-refusal, one-list-of-trees}

module _ (number : ℕ) (bytes : List ℕ) (old : List (List ℕ)) where
  pub spelled-as : (spots : List Spot) (new : List (List ℕ)) → Spelled number bytes (shown new spots) → ((s : List (Place × Shown)) → Spelled number bytes s → IsNumbered old s spots new) → IsSpelledAs number bytes old spots new
  spelled-as spots new s numbered = record { shown = shown new spots; spelled = s; numbered = numbered (shown new spots) s }

  pub lexer-refuses : (e : LexErr) (r : Refusal) → ((e ≡ lex_error.Memory → ⊥) → IsFault number bytes e) → r ≡ of_lexer e → (r ≡ refusal.Memory → ⊥) → IsRefused number bytes old r
  lexer-refuses (lex_error.At p k) r f is some = is_misspelled p k (f (λ m. cc)) is
  lexer-refuses lex_error.Memory r f is some = absurd (some is)

  pub parser-refuses : (spots : List Spot) (new : List (List ℕ)) (e : ParseErr) (r : Refusal) → IsSpelledAs number bytes old spots new
      → ((e ≡ parse_error.Memory → ⊥) → IsFaultOfTokens (end_of number bytes) spots e) → r ≡ of_parser e → (r ≡ refusal.Memory → ⊥) → IsRefused number bytes old r
  parser-refuses spots new (parse_error.At p k) r s h is some = is_underived spots new p k s (h (λ m. cc)) is
  parser-refuses spots new parse_error.Memory r s h is some = absurd (some is)

  pub gives-text : (answer : Result Text Refusal) (new : List (List ℕ)) → Explains refusal.Memory answer (λ t. IsRead number bytes old t new) (IsRefused number bytes old) → (t : Text) (now : List (List ℕ)) → IsRead number bytes old t now → Gives refusal.Memory answer (λ u. (u ≡ t) × (new ≡ now))
  gives-text answer new cause t now h = gives (λ u. IsRead number bytes old u new) (IsRefused number bytes old) (λ u. (u ≡ t) × (new ≡ now)) answer cause (λ u k. one-text number bytes old u t new now k h) (λ r k. not-both number bytes old t now r h k)

  pub refuses-text : (answer : Result Text Refusal) (new : List (List ℕ)) → Explains refusal.Memory answer (λ t. IsRead number bytes old t new) (IsRefused number bytes old) → (q : Refusal) → IsRefused number bytes old q → Refuses refusal.Memory answer (λ e. e ≡ q)
  refuses-text answer new cause q h = refuses (λ u. IsRead number bytes old u new) (IsRefused number bytes old) q answer cause (λ u k. not-both number bytes old u new q k h) (λ r k. one-refusal number bytes old r q k h)

module _ (texts old new : List (List ℕ)) (answer : Result (Vec Text Global) Refusal) (cause : Explains refusal.Memory answer (λ v. AreRead 0 texts old v.items new) (IsFirstRefusal 0 texts old)) where
  pub gives-texts : (ts : List Text) (now : List (List ℕ)) → AreRead 0 texts old ts now → Gives refusal.Memory answer (λ v. (v.items ≡ ts) × (new ≡ now))
  gives-texts ts now h = gives (λ v. AreRead 0 texts old v.items new) (IsFirstRefusal 0 texts old) (λ v. (v.items ≡ ts) × (new ≡ now)) answer cause (λ v k. one-list-of-trees texts 0 old new now v.items ts k h) (λ r k. not-both-of-all 0 texts old now ts r h k)

  pub refuses-texts : (q : Refusal) → IsFirstRefusal 0 texts old q → Refuses refusal.Memory answer (λ e. e ≡ q)
  refuses-texts q h = refuses (λ v. AreRead 0 texts old v.items new) (IsFirstRefusal 0 texts old) q answer cause (λ v k. not-both-of-all 0 texts old new v.items q k h) (λ r k. one-first-refusal 0 texts old r q k h)

module _ (bytes : List ℕ) where
  one-listing : (a b : List ℕ) → ShowsTokens bytes a → ShowsTokens bytes b → a ≡ b
  one-listing a b h k =
      let e = same-spots 0 bytes [] h.spots k.spots h.names k.names h.read.spelled k.read.spelled in
      h.listed ∙ ap (λ n. listing n h.spots) e.1 ∙ ap (λ s. listing k.names s) e.0 ∙ sym k.listed

  one-print : (a b : List ℕ) → ShowsTree bytes a → ShowsTree bytes b → a ≡ b
  one-print a b h k =
      let e = one-text 0 bytes [] h.tree k.tree h.names k.names h.read k.read in
      h.printed ∙ ap (λ n. printed_text n h.tree) e.1 ∙ ap (λ t. printed_text k.names t) e.0 ∙ sym k.printed

  no-tokens : (a : List ℕ) (r : Refusal) → ShowsTokens bytes a → IsRefused 0 bytes [] r → ⊥
  no-tokens a r h k = not-both 0 bytes [] h.tree h.names r (h.spots, h.read) k

  no-tree : (a : List ℕ) (r : Refusal) → ShowsTree bytes a → IsRefused 0 bytes [] r → ⊥
  no-tree a r h k = not-both 0 bytes [] h.tree h.names r h.read k

  module _ (answer : Result (Vec ℕ Global) Refusal) where
    pub gives-tokens : Explains refusal.Memory answer (λ v. ShowsTokens bytes v.items) (IsRefused 0 bytes []) → (out : List ℕ) → ShowsTokens bytes out → Gives refusal.Memory answer (λ v. v.items ≡ out)
    gives-tokens cause out h = gives (λ v. ShowsTokens bytes v.items) (IsRefused 0 bytes []) (λ v. v.items ≡ out) answer cause (λ v k. one-listing v.items out k h) (λ r k. no-tokens out r h k)

    pub refuses-tokens : Explains refusal.Memory answer (λ v. ShowsTokens bytes v.items) (IsRefused 0 bytes []) → (q : Refusal) → IsRefused 0 bytes [] q → Refuses refusal.Memory answer (λ e. e ≡ q)
    refuses-tokens cause q h = refuses (λ v. ShowsTokens bytes v.items) (IsRefused 0 bytes []) q answer cause (λ v k. no-tokens v.items q k h) (λ r k. one-refusal 0 bytes [] r q k h)

    pub gives-tree : Explains refusal.Memory answer (λ v. ShowsTree bytes v.items) (IsRefused 0 bytes []) → (out : List ℕ) → ShowsTree bytes out → Gives refusal.Memory answer (λ v. v.items ≡ out)
    gives-tree cause out h = gives (λ v. ShowsTree bytes v.items) (IsRefused 0 bytes []) (λ v. v.items ≡ out) answer cause (λ v k. one-print v.items out k h) (λ r k. no-tree out r h k)

    pub refuses-tree : Explains refusal.Memory answer (λ v. ShowsTree bytes v.items) (IsRefused 0 bytes []) → (q : Refusal) → IsRefused 0 bytes [] q → Refuses refusal.Memory answer (λ e. e ≡ q)
    refuses-tree cause q h = refuses (λ v. ShowsTree bytes v.items) (IsRefused 0 bytes []) q answer cause (λ v k. no-tree v.items q k h) (λ r k. one-refusal 0 bytes [] r q k h)
