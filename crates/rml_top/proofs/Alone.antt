-- One text alone, and what a call over it comes to.
use Rattle.std.proofs.Common.{◌≡◌, ℕ, true, List, [], ◌∷◌, length, Some, None, refl, sym, ap, subst, ◌∙◌}
use Rattle.std.specs.Prelude.{IfOk, IfErr, IfNone, IfSome, Result, Ok, Err}
use Rattle.std.specs.declared.option.Option.{Option}
use Rattle.rml_base.specs.Answers.{Explains}
use Rattle.rml_stages.specs.Reading.{IsRefused}
use Rattle.rml_stages.specs.declared.refusal.Refusal.{Refusal}
use Rattle.rml_stages.specs.declared.refusal.Refusal.TheVariants.{Memory}
use Rattle.rml_top.specs.Due.{AreAccepted, Outputs, PrintsFirst, AreRefused}
use Rattle.rml_top.specs.Line.{is_plain_run}
use Rattle.rml_top.specs.Text.{IsText}
use Rattle.rml_words.specs.Forms.{Asks, Run}

alone : (bytes : List ℕ) (why : Refusal) → IsRefused 0 bytes [] why → AreRefused (bytes ∷ []) why
alone bytes why r = record { before = []; text = bytes; after = []; cut = refl; trees = []; new = []; read = refl; refused = r }

-- what a call over the one text answers, as an answer for the texts
pub alone-answers : {X Y : Type 0} (texts : List (List ℕ)) (bytes : List ℕ) (P : X → Type 0) (Q : Y → Type 0) (f : X → Y) (given : Result X Refusal) (result : Result Y Refusal) → texts ≡ bytes ∷ []
    → Explains Memory given P (IsRefused 0 bytes []) → ((x : X) → P x → Q (f x)) → IfOk given (λ x. result ≡ Ok (f x)) → IfErr given (λ why. result ≡ Err why) → Explains Memory result Q (AreRefused texts)
alone-answers texts bytes P Q f (Ok x) result e h more ok err = subst (λ r. Explains Memory r Q (AreRefused texts)) (sym ok) (more x h)
alone-answers texts bytes P Q f (Err why) result e h more ok err =
    subst (λ r. Explains Memory r Q (AreRefused texts)) (sym err)
    (λ other. subst (λ (ts : List (List ℕ)). AreRefused ts why) (sym e) (alone bytes why (h other)))

pub passes-on : {X Y : Type 0} (P : X → Type 0) (Q : Y → Type 0) (refused : Refusal → Type 0) (f : X → Y) (given : Result X Refusal) (result : Result Y Refusal)
    → Explains Memory given P refused → ((x : X) → P x → Q (f x)) → IfOk given (λ x. result ≡ Ok (f x)) → IfErr given (λ why. result ≡ Err why) → Explains Memory result Q refused
passes-on P Q refused f (Ok x) result h more ok err = subst (λ r. Explains Memory r Q refused) (sym ok) (more x h)
passes-on P Q refused f (Err why) result h more ok err = subst (λ r. Explains Memory r Q refused) (sym err) h

pub only-text : (texts : List (List ℕ)) (a b : List ℕ) → texts ≡ a ∷ [] → texts ≡ b ∷ [] → a ≡ b
only-text texts a b e f = ap (λ (ts : List (List ℕ)). elim ts [ [] ↦ a | t ∷ ts ↦ t ]) (sym e ∙ f)

-- a text that is none of the first form prints nothing
pub prints-none : {X E : Type 0} (texts : List (List ℕ)) (bytes : List ℕ) (result : Result (Option X) E) → texts ≡ bytes ∷ [] → IfOk result (λ found. IfNone found ((text : List ℕ) → ¬ IsText bytes text))
    → IfOk result (λ found. IfNone found ((out : List ℕ) → ¬ PrintsFirst texts out))
prints-none texts bytes (Err x) e none = tt
prints-none texts bytes (Ok (Some x)) e none = tt
prints-none texts bytes (Ok None) e none = λ out p. none out (subst (λ (b : List ℕ). IsText b out) (only-text texts p.0 bytes p.1 e) p.2)

pub no-alone : (texts : List (List ℕ)) → (length texts ≡ 1 → ⊥) → (out : List ℕ) → ¬ PrintsFirst texts out
no-alone texts many out p = many (ap length p.1)

pub run-answers : {X : Type 0} (words texts : List (List ℕ)) (asks : Asks) (cells steps : ℕ) (files arguments : List (List ℕ)) (bytes : X → List ℕ) (result : Result (Option X) Refusal) → asks ≡ Run cells steps files arguments → is_plain_run words ≡ true
    → Explains Memory result (λ given. IfSome given (λ text. AreAccepted texts × PrintsFirst texts (bytes text))) (AreRefused texts)
    → Explains Memory result (λ given. IfSome given (λ text. Outputs words asks texts (bytes text))) (AreRefused texts)
run-answers words texts asks cells steps files arguments bytes (Err x) e plain h = h
run-answers words texts asks cells steps files arguments bytes (Ok None) e plain h = tt
run-answers words texts asks cells steps files arguments bytes (Ok (Some x)) e plain h = subst (λ (a : Asks). Outputs words a texts (bytes x)) (sym e) (plain, h.0, h.1)

pub run-unbuilt : {X E : Type 0} (words texts : List (List ℕ)) (asks : Asks) (cells steps : ℕ) (files arguments : List (List ℕ)) (result : Result (Option X) E) → asks ≡ Run cells steps files arguments
    → IfOk result (λ given. IfNone given (AreAccepted texts × ((out : List ℕ) → ¬ PrintsFirst texts out)))
    → IfOk result (λ given. IfNone given (AreAccepted texts × ((out : List ℕ) → ¬ Outputs words asks texts out)))
run-unbuilt words texts asks cells steps files arguments (Err x) e h = tt
run-unbuilt words texts asks cells steps files arguments (Ok (Some x)) e h = tt
run-unbuilt words texts asks cells steps files arguments (Ok None) e h = (h.0, subst (λ (a : Asks). (out : List ℕ) → ¬ Outputs words a texts out) (sym e) (λ out o. h.1 out o.2))
