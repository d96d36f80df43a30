-- What counting settles: a list within the limits meets none, and no list is longer than limits that are as large as it.
use Rattle.std.proofs.Common.{◌≡◌, ℕ, suc, ◌+◌, ◌<◌, ◌≤◌, List, [], ◌∷◌, ◌++◌, length, refl, sym, subst, ap, ◌∙◌, arith, Result, Ok, Err}
use Rattle.std.specs.List.{fold}
use Rattle.std.proofs.lemmas.List.{length-append}
use Rattle.rml_base.specs.declared.place.Place.{Place}
use Rattle.rml_syntax.specs.declared.token.Spot.{Spot}
use Rattle.rml_syntax.specs.declared.token.Token.{Token}
use Rattle.rml_syntax.specs.declared.token.Token.TheVariants as token
use Rattle.rml_syntax.specs.declared.token.Key.{Key}
use Rattle.rml_syntax.specs.declared.token.Key.TheVariants as key
use Rattle.rml_syntax.specs.declared.token.Mark.{Mark}
use Rattle.rml_syntax.specs.declared.token.Mark.TheVariants as mark
use Rattle.rml_syntax.specs.declared.texts.Text.{Text}
use Rattle.rml_grammar.specs.declared.fault.Fault.{Fault}
use Rattle.rml_grammar.specs.declared.fault.ParseKind.{ParseKind}
use Rattle.rml_grammar.specs.declared.fault.ParseKind.TheVariants as kind
use Rattle.rml_grammar.specs.Laws.{IsLimit, Agrees}
use Rattle.rml_grammar.specs.Limits.{OpensBracket, BeginsRule, open_behind, rules_behind, open_after, rules_after, WithinLimits, IsAtLimit, StandsAt}
use Rattle.rml_grammar.specs.SpelledTexts.{Derives}
use Rattle.rml_grammar.specs.Texts.{whole_text}
use Rattle.rml_grammar.proofs.Cuts.{one-cut}
use Rattle.rml_grammar.proofs.Places.{complete, placed}
use Rattle.rml_grammar.proofs.LimitsTexts.{fault-at}

-- within the limits no fault names one
no-limit-by : (n m : ℕ) (us front rest : List Spot) (k : ParseKind) → WithinLimits n m us → us ≡ front ++ rest → IsAtLimit k n m front rest → IsLimit k → ⊥
no-limit-by n m us front rest kind.Unexpected h e a i = i
no-limit-by n m us front rest kind.TooDeep h e a i =
    let cut : us ≡ front ++ a.0 ∷ a.1 = e ∙ ap (λ (vs : List Spot). front ++ vs) a.2 in
    let less : open_after front < n = h.brackets front a.1 a.0 cut a.3 in
    let is : open_after front ≡ n = a.4 in
    absurd (omega arith)
no-limit-by n m us front rest kind.TooManyRules h e a i =
    let cut : us ≡ front ++ a.0 ∷ a.1 = e ∙ ap (λ (vs : List Spot). front ++ vs) a.2 in
    let less : rules_after front < m = h.rules front a.1 a.0 cut a.3 in
    let is : rules_after front ≡ m = a.4 in
    absurd (omega arith)

pub no-limit : (n m : ℕ) (us : List Spot) (f : Fault) → WithinLimits n m us → StandsAt n m us f → IsLimit f.kind → ⊥
no-limit n m us f h s i = no-limit-by n m us s.front s.rest f.kind h s.all s.limit i

given : (n m : ℕ) (us : List Spot) (t : Text) (r : Result Text Fault) → WithinLimits n m us → ((f : Fault) → r ≡ Err f → StandsAt n m us f) → Agrees r t → r ≡ Ok t
given n m us t (Ok u) h at a = ap Ok a
given n m us t (Err f) h at a = absurd (no-limit n m us f h (at f refl) a)

pub within-read : (end : Place) (n k : ℕ) (us : List Spot) (t : Text) → 0 < n → WithinLimits n (suc k) us → Derives end us t → whole_text end n k us ≡ Ok t
within-read end n k us t l h d = given n (suc k) us t (whole_text end n k us) h (λ f e. fault-at end n k us f l e) (complete end n k us t d)

-- no list that begins with the tokens up to a fault has a tree within the limits
refused-by : (end at : Place) (n k left : ℕ) (front rest c tail other : List Spot) (x : Spot) (t : Text) (j : ParseKind) → front ≡ c → rest ≡ x ∷ tail → suc (length tail) ≡ left → whole_text end n k (c ++ x ∷ tail) ≡ Err (record { kind = j; left = left }) → IsAtLimit j n (suc k) front rest → Derives at (c ++ x ∷ other) t → WithinLimits n (suc k) (c ++ x ∷ other) → ⊥
refused-by end at n k left front rest c tail other x t kind.Unexpected f r l e a d h = placed end at n k c tail other x t (rw l e) d
refused-by end at n k left front rest c tail other x t kind.TooDeep f r l e a d h =
    let same : a.0 ≡ x = cc (r, a.2) in
    let less : open_after c < n = h.brackets c other x refl (subst (λ (s : Spot). OpensBracket s.token) same a.3) in
    let is : open_after c ≡ n = subst (λ (us : List Spot). open_after us ≡ n) f a.4 in
    omega arith
refused-by end at n k left front rest c tail other x t kind.TooManyRules f r l e a d h =
    let same : a.0 ≡ x = cc (r, a.2) in
    let less : rules_after c < suc k = h.rules c other x refl (subst (λ (s : Spot). BeginsRule s.token) same a.3) in
    let is : rules_after c ≡ suc k = subst (λ (us : List Spot). rules_after us ≡ suc k) f a.4 in
    omega arith

pub refused : (end at : Place) (n k : ℕ) (c tail other : List Spot) (x : Spot) (f : Fault) (t : Text) → 0 < n → whole_text end n k (c ++ x ∷ tail) ≡ Err f → f.left ≡ suc (length tail) → Derives at (c ++ x ∷ other) t → WithinLimits n (suc k) (c ++ x ∷ other) → ⊥
refused end at n k c tail other x f t l e left d h =
    let s = fault-at end n k (c ++ x ∷ tail) f l e in
    let lefts : length (x ∷ tail) ≡ length s.rest = sym left ∙ sym s.left in
    let cut = one-cut c (x ∷ tail) s.front s.rest s.all lefts in
    refused-by end at n k f.left s.front s.rest c tail other x t f.kind (sym cut.0) (sym cut.1) (sym left) e s.limit d h

-- a token counts at most one
open-sign : (d : ℕ) (m : Mark) → open_behind d (token.Sign m) ≤ d + 1
open-sign d mark.OpenRound = omega arith
open-sign d mark.OpenSquare = omega arith
open-sign d mark.CloseRound = omega arith
open-sign d mark.CloseSquare = omega arith
open-sign d _ = omega arith

open-one : (d : ℕ) (t : Token) → open_behind d t ≤ d + 1
open-one d (token.Sign m) = open-sign d m
open-one d _ = omega arith

rules-word : (r : ℕ) (k : Key) → rules_behind r (token.Word k) ≤ r + 1
rules-word r key.KRule = omega arith
rules-word r key.KAxiom = omega arith
rules-word r key.KRelation = omega arith
rules-word r _ = omega arith

rules-one : (r : ℕ) (t : Token) → rules_behind r t ≤ r + 1
rules-one r (token.Word k) = rules-word r k
rules-one r _ = omega arith

fold-at-most : (f : ℕ → Token → ℕ) → ((d : ℕ) (t : Token) → f d t ≤ d + 1) → (us : List Spot) (d : ℕ) → fold (λ e s. f e s.token) d us ≤ d + length us
fold-at-most f h [] d = omega arith
fold-at-most f h (s ∷ us) d = let a = h d s.token in let b = fold-at-most f h us (f d s.token) in omega arith

cut-short : (us front rest : List Spot) (s : Spot) → us ≡ front ++ s ∷ rest → length front < length us
cut-short us front rest s e = omega (arith, simp length-append at (ap length e))

-- limits as large as a list are not passed in it
pub large : (n m : ℕ) (us : List Spot) → length us ≤ n → length us ≤ m → WithinLimits n m us
large n m us l k = record {
  brackets = λ front rest s e i. let a = fold-at-most open_behind open-one front 0 in let b = cut-short us front rest s e in omega arith;
  rules = λ front rest s e i. let a = fold-at-most rules_behind rules-one front 0 in let b = cut-short us front rest s e in omega arith;
}

pub one-tree : (end : Place) (us : List Spot) (a b : Text) → Derives end us a → Derives end us b → a ≡ b
one-tree end us a b d e =
    let n = suc (length us) in
    let w : WithinLimits n n us = large n n us (omega arith) (omega arith) in
    let x : whole_text end n (length us) us ≡ Ok a = within-read end n (length us) us a (omega arith) w d in
    let y : whole_text end n (length us) us ≡ Ok b = within-read end n (length us) us b (omega arith) w e in
    cc
