-- Where the grammar of functions stops, in the words of the public call; and that reading stops in one way.
use Rattle.std.proofs.Common.{◌≡◌, ℕ, suc, ◌-◌, ◌<◌, ◌≤◌, List, [], ◌∷◌, ◌++◌, length, refl, sym, ap, subst, ◌∙◌, append-nil, append_assoc, arith, lit<, inl, inr, Some, Result, Ok, Err}
use Rattle.std.specs.Prelude.{slice_get}
use Rattle.std.proofs.Math.Seq.{get_or-append_seam}
use Rattle.std.proofs.lemmas.Option.{slice_get-get_or, slice_get_past}
use Rattle.std.proofs.lemmas.List.{length-append}
use Rattle.rml_base.specs.declared.limits.TheConstants.{NESTING, RULES}
use Rattle.rml_base.specs.declared.place.Place.{Place}
use Rattle.rml_syntax.specs.declared.token.Spot.{Spot}
use Rattle.rml_syntax.specs.declared.token.Token.{Token}
use Rattle.rml_syntax.specs.declared.token.Token.TheVariants as token
use Rattle.rml_syntax.specs.declared.texts.Text.{Text}
use Rattle.rml_grammar.specs.declared.fault.Fault.{Fault}
use Rattle.rml_grammar.specs.declared.fault.ParseKind.{ParseKind}
use Rattle.rml_grammar.specs.declared.fault.ParseKind.TheVariants as kind
use Rattle.rml_grammar.specs.Beginnings.{Begins, GoesOn, IsText}
use Rattle.rml_grammar.specs.Laws.{Agrees, IsLimit, IsUnexpected}
use Rattle.rml_grammar.specs.Limits.{BeginsRule, IsAtLimit, OpensBracket}
use Rattle.rml_grammar.specs.SpelledTexts.{Derives}
use Rattle.rml_grammar.specs.Texts.{whole_text}
use Rattle.rml_grammar.proofs.Callers.{IsBehind, begun, complete, ended, fault-at, goes-on, placed, refused, two-cuts, within-read}
use Rattle.rml_parse.specs.Answers.{place_left, place_or}
use Rattle.rml_parse.specs.Faults.{IsAllowed, IsTree, IsWrong, StopsAt, place_of}

-- the place at a cut
at-cut : (end : Place) (before rest : List Spot) → place_left end (length rest) (before ++ rest) ≡ place_of end rest
at-cut end before [] =
    let all : length (before ++ []) ≤ length (before ++ []) - 0 = omega arith in
    ap (place_or end) (slice_get_past (before ++ []) (length (before ++ []) - 0) all)
at-cut end before (s ∷ rest) =
    let us : List Spot = before ++ s ∷ rest in
    let at : length us - length (s ∷ rest) ≡ length before = omega (arith, length-append before (s ∷ rest)) in
    let within : length before < length us = omega (arith, length-append before (s ∷ rest)) in
    ap (λ n. place_or end (slice_get us n)) at ∙ ap (place_or end) (slice_get-get_or us (length before) s within ∙ ap Some (get_or-append_seam before s rest s))

pub place-cut : (end : Place) (us before rest : List Spot) → us ≡ before ++ rest → place_left end (length rest) us ≡ place_of end rest
place-cut end us before rest e = ap (place_left end (length rest)) e ∙ at-cut end before rest

fault-is : (f : Fault) (k : ParseKind) (n : ℕ) → f.kind ≡ k → f.left ≡ n → f ≡ record { kind = k; left = n }
fault-is f k n e l = rw (← e, ← l) refl

ok-not-err : {X : Type 0} (r : Result X Fault) (x : X) (f : Fault) → r ≡ Ok x → r ≡ Err f → ⊥
ok-not-err r x f a b = cc (a, b)

no-limit : (f : Fault) (t : Text) (r : Result Text Fault) → Agrees r t → r ≡ Err f → f.kind ≡ kind.Unexpected → ⊥
no-limit f t r a e u = let h : IsLimit f.kind = rw e at a in subst IsLimit u h

module _ (end : Place) (us : List Spot) (f : Fault) (e : whole_text end NESTING (RULES - 1) us ≡ Err f) where
  -- the tokens before and those of the rest are the whole
  abbrev Reads : List Spot → Type 0
  Reads vs = whole_text end NESTING (RULES - 1) vs ≡ Err f

  -- no text within the limits goes on so
  refused-at : (before rest : List Spot) → us ≡ before ++ rest → f.left ≡ length rest → GoesOn IsAllowed before rest → ⊥
  refused-at before [] cut left is =
      let d = ended end is.0.2 in
      let all : us ≡ before = cut ∙ append-nil before in
      let ok : whole_text end NESTING (RULES - 1) before ≡ Ok d.0 = within-read end NESTING (RULES - 1) before d.0 (lit< tt) is.1 d.1 in
      ok-not-err (whole_text end NESTING (RULES - 1) before) d.0 f ok (subst Reads all e)
  refused-at before (s ∷ rest) cut left is =
      let text = is.1.0 in
      refused end text.0 NESTING (RULES - 1) before rest is.0 s f text.1 (lit< tt) (subst Reads cut e) left text.2 is.1.1

  -- what is unexpected: no text goes on so
  unexpected-at : f.kind ≡ kind.Unexpected → (before rest : List Spot) → us ≡ before ++ rest → f.left ≡ length rest → GoesOn IsText before rest → ⊥
  unexpected-at u before [] cut left is =
      let d = ended end is.2 in
      let all : us ≡ before = cut ∙ append-nil before in
      no-limit f d.0 (whole_text end NESTING (RULES - 1) before) (complete end NESTING (RULES - 1) before d.0 d.1) (subst Reads all e) u
  unexpected-at u before (s ∷ rest) cut left is =
      let i : IsUnexpected (suc (length rest)) (whole_text end NESTING (RULES - 1) (before ++ s ∷ rest)) = subst Reads cut e ∙ ap Err (fault-is f kind.Unexpected (suc (length rest)) u left) in
      placed end is.1.0 NESTING (RULES - 1) before rest is.0 s is.1.1 i is.1.2

  wrong-at : (k : ParseKind) → f.kind ≡ k → (before rest : List Spot) → us ≡ before ++ rest → f.left ≡ length rest → IsAtLimit k NESTING RULES before rest → IsWrong k before rest
  wrong-at kind.Unexpected is before rest cut left at = unexpected-at is before rest cut left
  wrong-at kind.TooDeep is before rest cut left at = (at, goes-on end NESTING (RULES - 1) (lit< tt) before rest f (subst Reads cut e) left (rw is tt))
  wrong-at kind.TooManyRules is before rest cut left at = (at, goes-on end NESTING (RULES - 1) (lit< tt) before rest f (subst Reads cut e) left (rw is tt))

  pub stops-at : (p : Place) (k : ParseKind) → p ≡ place_left end f.left us → k ≡ f.kind → StopsAt end us p k
  stops-at p k is same =
      let s = fault-at end NESTING (RULES - 1) us f (lit< tt) e in
      let left : f.left ≡ length s.rest = sym s.left in
      record {
        before = s.front;
        rest = s.rest;
        cut = s.all;
        place_is = is ∙ ap (λ n. place_left end n us) left ∙ place-cut end us s.front s.rest s.all;
        begun = begun end NESTING (RULES - 1) (lit< tt) s.front s.rest f (subst Reads s.all e) left;
        refused = refused-at s.front s.rest s.all left;
        wrong = wrong-at k (sym same) s.front s.rest s.all left (rw same s.limit);
      }

-- what begins such a list is not behind a token with which none goes on
no-further : (P : List Spot → Type 0) (before between last : List Spot) → (GoesOn P before (between ++ last) → ⊥) → Begins P (before ++ between) → between ≡ []
no-further P before [] last none b = refl
no-further P before (s ∷ between) last none b =
    let all : (before ++ s ∷ between) ++ b.0 ≡ before ++ s ∷ (between ++ b.0) = append_assoc before (s ∷ between) b.0 in
    absurd (none (between ++ b.0, subst P all b.1))

no-rule : (t : Token) → OpensBracket t → BeginsRule t → ⊥
no-rule (token.Sign m) o r = r
no-rule (token.Word k) o r = o
no-rule (token.Name n) o r = o
no-rule (token.TyVar n) o r = o
no-rule (token.Lit l) o r = o
no-rule (token.Dashes n) o r = o

one-limit : (n m : ℕ) (before rest : List Spot) → IsAtLimit kind.TooDeep n m before rest → IsAtLimit kind.TooManyRules n m before rest → ⊥
one-limit n m before rest a b =
    let same : b.0 ≡ a.0 = (let e : b.0 ∷ b.1 ≡ a.0 ∷ a.1 = sym b.2 ∙ a.2 in cc e) in
    let rule : BeginsRule a.0.token = subst (λ (s : Spot). BeginsRule s.token) same b.3 in
    no-rule a.0.token a.3 rule

-- at one cut for one kind of fault
one-kind : (j k : ParseKind) (before rest : List Spot) → IsWrong j before rest → IsWrong k before rest → j ≡ k
one-kind kind.Unexpected kind.Unexpected before rest a b = refl
one-kind kind.Unexpected kind.TooDeep before rest a b = absurd (a b.1)
one-kind kind.Unexpected kind.TooManyRules before rest a b = absurd (a b.1)
one-kind kind.TooDeep kind.Unexpected before rest a b = absurd (b a.1)
one-kind kind.TooDeep kind.TooDeep before rest a b = refl
one-kind kind.TooDeep kind.TooManyRules before rest a b = absurd (one-limit NESTING RULES before rest a.0 b.0)
one-kind kind.TooManyRules kind.Unexpected before rest a b = absurd (b a.1)
one-kind kind.TooManyRules kind.TooDeep before rest a b = absurd (one-limit NESTING RULES before rest b.0 a.0)
one-kind kind.TooManyRules kind.TooManyRules before rest a b = refl

module _ (end : Place) (us : List Spot) where
  not-behind : (p q : Place) (j k : ParseKind) (a : StopsAt end us p j) (b : StopsAt end us q k) → IsBehind a.before a.rest b.before b.rest → (p ≡ q) × (j ≡ k)
  not-behind p q j k a b h =
      let none : GoesOn IsAllowed a.before (h.between ++ b.rest) → ⊥ = subst (λ (vs : List Spot). GoesOn IsAllowed a.before vs → ⊥) h.rest a.refused in
      let more : Begins IsAllowed (a.before ++ h.between) = subst (λ (vs : List Spot). Begins IsAllowed vs) h.front b.begun in
      let nothing : h.between ≡ [] = no-further IsAllowed a.before h.between b.rest none more in
      let rest : a.rest ≡ b.rest = h.rest ∙ ap (λ (vs : List Spot). vs ++ b.rest) nothing in
      let before : a.before ≡ b.before = sym (h.front ∙ ap (λ (vs : List Spot). a.before ++ vs) nothing ∙ append-nil a.before) in
      let wrong : IsWrong j b.before b.rest = subst (λ (vs : List Spot). IsWrong j vs b.rest) before (subst (λ (vs : List Spot). IsWrong j a.before vs) rest a.wrong) in
      (a.place_is ∙ ap (place_of end) rest ∙ sym b.place_is, one-kind j k b.before b.rest wrong b.wrong)

  -- reading stops at one place, for one kind of fault
  pub one-stop : (p q : Place) (j k : ParseKind) → StopsAt end us p j → StopsAt end us q k → (p ≡ q) × (j ≡ k)
  one-stop p q j k a b = elim (two-cuts a.before a.rest b.before b.rest (sym a.cut ∙ b.cut)) [
    | inl h ↦ not-behind p q j k a b h
    | inr h ↦ (let same = not-behind q p k j b a h in (sym same.0, sym same.1))
  ]

  goes-on-whole : (P : List Spot → Type 0) (before rest : List Spot) → us ≡ before ++ rest → P us → GoesOn P before rest
  goes-on-whole P before [] e h = subst P (e ∙ append-nil before) h
  goes-on-whole P before (s ∷ rest) e h = (rest, subst P e h)

  -- and not where the tokens are a text within the limits
  pub not-both : (t : Text) (p : Place) (k : ParseKind) → IsTree end us t → StopsAt end us p k → ⊥
  not-both t p k d s = s.refused (goes-on-whole IsAllowed s.before s.rest s.cut ((end, t, d.derived), d.within))

  -- what is unexpected is so in no text
  pub no-text-there : (t : Text) (p : Place) → StopsAt end us p kind.Unexpected → Derives end us t → ⊥
  no-text-there t p s d = s.wrong (goes-on-whole IsText s.before s.rest s.cut (end, t, d))
