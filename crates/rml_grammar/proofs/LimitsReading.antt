-- Readings and the limits: what a reading takes leaves as many brackets open as there were, with none too many between,
-- and a fault stands where it should. This is kept by the ways in which readings are put together.
use Rattle.std.proofs.Common.{◌≡◌, ℕ, zero, suc, ◌+◌, ◌-◌, ◌<◌, List, [], ◌∷◌, ◌++◌, length, refl, sym, ap, ◌∙◌, subst, arith, Option, Some, None, Result, Ok, Err, inl, inr, ◌⊎◌}
use Rattle.std.proofs.lemmas.List.{append_assoc, length-append}
use Rattle.std.proofs.lemmas.List.Sums.{fold_push}
use Rattle.rml_base.specs.declared.place.Place.{Place}
use Rattle.rml_syntax.specs.declared.token.Spot.{Spot}
use Rattle.rml_syntax.specs.declared.token.Token.{Token}
use Rattle.rml_syntax.specs.declared.token.Token.TheVariants as token
use Rattle.rml_syntax.specs.declared.token.Key.{Key}
use Rattle.rml_syntax.specs.declared.token.Key.TheVariants as key
use Rattle.rml_syntax.specs.declared.token.Mark.{Mark}
use Rattle.rml_syntax.specs.declared.token.Mark.TheVariants as mark
use Rattle.rml_grammar.specs.declared.fault.Fault.{Fault}
use Rattle.rml_grammar.specs.declared.fault.ParseKind.{ParseKind}
use Rattle.rml_grammar.specs.declared.fault.ParseKind.TheVariants as kind
use Rattle.rml_grammar.specs.Tokens.{sign, word, after, after_word}
use Rattle.rml_grammar.specs.Reading.{◌>>=◌, Parser, refused, unexpected, follows, repeated, separated, before, enclosed, enclosed_or_none, inside, name_at, name_in, qualified, long_at}
use Rattle.rml_grammar.specs.Limits.{OpensBracket, BeginsRule, open_behind, rules_behind, open_after, rules_after, WithinLimits, IsAtLimit, StandsAt}
use Rattle.rml_grammar.proofs.Views.{Has, has, there, lacking, same-sign, HasWord, has-word, said, unsaid, same-word}
use Rattle.rml_grammar.proofs.Holds as holds

-- the tokens of a whole text, and the most brackets and rules
pub record Whole : Type 0 where
  pub tokens : List Spot
  pub depth : ℕ
  pub most : ℕ

-- us is what is left of them, behind d open brackets and r rules of the last relation
pub record At (w : Whole) (d r : ℕ) (us : List Spot) : Type 0 where
  pub front : List Spot
  pub all : w.tokens ≡ front ++ us
  pub opened : open_after front ≡ d
  pub counted : rules_after front ≡ r
  pub within : WithinLimits w.depth w.most front

-- one token more is within the limits
last-of : (us front rest : List Spot) (s t : Spot) → us ++ s ∷ [] ≡ front ++ t ∷ rest → ((us ≡ front) × (s ≡ t)) ⊎ ((more : List Spot) × (us ≡ front ++ t ∷ more))
last-of [] [] rest s t e = inl (refl, cc)
last-of [] (x ∷ front) rest s t e = absurd (omega (arith, simp length-append at (ap length e)))
last-of (u ∷ us) [] rest s t e = let h : u ≡ t = cc in inr (us, rw h refl)
last-of (u ∷ us) (x ∷ front) rest s t e =
    let h : us ++ s ∷ [] ≡ front ++ t ∷ rest = cc in
    let k : u ≡ x = cc in
    elim (last-of us front rest s t h) [
      | inl x ↦ let a = x.0 in inl (cc, x.1)
      | inr x ↦ let a = x.1 in inr (x.0, cc)
    ]

one-more : (n m : ℕ) (us : List Spot) (s : Spot) → WithinLimits n m us → (OpensBracket s.token → open_after us < n) → (BeginsRule s.token → rules_after us < m) → WithinLimits n m (us ++ s ∷ [])
one-more n m us s h o b = record {
  brackets = λ front rest t e i. elim (last-of us front rest s t e) [
    | inl x ↦ subst (λ (vs : List Spot). open_after vs < n) x.0 (o (subst (λ (u : Spot). OpensBracket u.token) (sym x.1) i))
    | inr x ↦ h.brackets front x.0 t x.1 i
  ];
  rules = λ front rest t e i. elim (last-of us front rest s t e) [
    | inl x ↦ subst (λ (vs : List Spot). rules_after vs < m) x.0 (b (subst (λ (u : Spot). BeginsRule u.token) (sym x.1) i))
    | inr x ↦ h.rules front x.0 t x.1 i
  ];
}

none-within : (n m : ℕ) → WithinLimits n m []
none-within n m = record {
  brackets = λ front rest s e i. absurd (omega (arith, simp length-append at (ap length e)));
  rules = λ front rest s e i. absurd (omega (arith, simp length-append at (ap length e)));
}

pub at-start : (w : Whole) → At w 0 0 w.tokens
at-start w = record { front = []; all = refl; opened = refl; counted = refl; within = none-within w.depth w.most }

pub pass : {w : Whole} {d r : ℕ} {s : Spot} {us : List Spot} → At w d r (s ∷ us) → (OpensBracket s.token → d < w.depth) → (BeginsRule s.token → r < w.most) → At w (open_behind d s.token) (rules_behind r s.token) us
pass {w} {d} {r} {s} {us} h o b = record {
  front = h.front ++ s ∷ [];
  all = h.all ∙ sym (append_assoc h.front (s ∷ []) us);
  opened = fold_push (λ (d : ℕ) (s : Spot). open_behind d s.token) 0 h.front s ∙ ap (λ (x : ℕ). open_behind x s.token) h.opened;
  counted = fold_push (λ (r : ℕ) (s : Spot). rules_behind r s.token) 0 h.front s ∙ ap (λ (x : ℕ). rules_behind x s.token) h.counted;
  within = one-more w.depth w.most h.front s h.within (λ i. rw h.opened (o i)) (λ i. rw h.counted (b i));
}

-- a token that no count counts
abbrev pub IsPlain : Token → Type 0
IsPlain (token.Sign mark.OpenRound) = ⊥
IsPlain (token.Sign mark.OpenSquare) = ⊥
IsPlain (token.Sign mark.CloseRound) = ⊥
IsPlain (token.Sign mark.CloseSquare) = ⊥
IsPlain (token.Word key.KRule) = ⊥
IsPlain (token.Word key.KAxiom) = ⊥
IsPlain (token.Word key.KRelation) = ⊥
IsPlain _ = Unit {0}

record Counts (t : Token) (d e r q : ℕ) : Type 0 where
  pub opens : OpensBracket t → d < e
  pub begins : BeginsRule t → r < q
  pub depth : open_behind d t ≡ e
  pub count : rules_behind r t ≡ q

plain-sign : (m : Mark) (d r : ℕ) → IsPlain (token.Sign m) → (OpensBracket (token.Sign m) → ⊥) × (open_behind d (token.Sign m) ≡ d)
plain-sign mark.OpenRound d r h = absurd h
plain-sign mark.OpenSquare d r h = absurd h
plain-sign mark.CloseRound d r h = absurd h
plain-sign mark.CloseSquare d r h = absurd h
plain-sign _ d r h = (λ i. i, refl)

plain-word : (k : Key) (r : ℕ) → IsPlain (token.Word k) → (BeginsRule (token.Word k) → ⊥) × (rules_behind r (token.Word k) ≡ r)
plain-word key.KRule r h = absurd h
plain-word key.KAxiom r h = absurd h
plain-word key.KRelation r h = absurd h
plain-word _ r h = (λ i. i, refl)

over-sign : {w : Whole} {d r : ℕ} {us : List Spot} (m : Mark) (p : Place) → IsPlain (token.Sign m) → At w d r (sign m p ∷ us) → At w d r us
over-sign {w} {d} {r} {us} m p h a = let x = plain-sign m d r h in subst (λ (e : ℕ). At w e r us) x.1 (pass a (λ i. absurd (x.0 i)) (λ i. absurd i))

over-word : {w : Whole} {d r : ℕ} {us : List Spot} (k : Key) (p : Place) → IsPlain (token.Word k) → At w d r (word k p ∷ us) → At w d r us
over-word {w} {d} {r} {us} k p h a = let x = plain-word k r h in subst (λ (q : ℕ). At w d q us) x.1 (pass a (λ i. absurd i) (λ i. absurd (x.0 i)))

over-in : {w : Whole} {d r : ℕ} {us : List Spot} (t : Token) (p : Place) → IsPlain t → At w d r (record { token = t; place = p } ∷ us) → At w d r us
over-in (token.Sign m) p h a = over-sign m p h a
over-in (token.Word k) p h a = over-word k p h a
over-in (token.Name n) p h a = pass a (λ i. absurd i) (λ i. absurd i)
over-in (token.TyVar n) p h a = pass a (λ i. absurd i) (λ i. absurd i)
over-in (token.Lit n) p h a = pass a (λ i. absurd i) (λ i. absurd i)
over-in (token.Dashes n) p h a = pass a (λ i. absurd i) (λ i. absurd i)

-- behind a token
pub over : {w : Whole} {d r : ℕ} {s : Spot} {us : List Spot} → IsPlain s.token → At w d r (s ∷ us) → At w d r us
over {s} h a = over-in s.token s.place h a

-- behind a bracket that opens
enter-sign : {w : Whole} {d r : ℕ} {us : List Spot} (m : Mark) (p : Place) → OpensBracket (token.Sign m) → d < w.depth → At w d r (sign m p ∷ us) → At w (d + 1) r us
enter-sign mark.OpenRound p h l a = pass a (λ i. l) (λ i. absurd i)
enter-sign mark.OpenSquare p h l a = pass a (λ i. l) (λ i. absurd i)
enter-sign _ p h l a = absurd h

enter-in : {w : Whole} {d r : ℕ} {us : List Spot} (t : Token) (p : Place) → OpensBracket t → d < w.depth → At w d r (record { token = t; place = p } ∷ us) → At w (d + 1) r us
enter-in (token.Sign m) p h l a = enter-sign m p h l a
enter-in _ p h l a = absurd h

pub enter : {w : Whole} {d r : ℕ} {s : Spot} {us : List Spot} → OpensBracket s.token → d < w.depth → At w d r (s ∷ us) → At w (suc d) r us
enter {w} {d} {r} {s} {us} h l a = let e : d + 1 ≡ suc d = omega arith in subst (λ (x : ℕ). At w x r us) e (enter-in s.token s.place h l a)

-- behind a bracket that closes
abbrev pub IsClose : Mark → Type 0
IsClose mark.CloseRound = Unit {0}
IsClose mark.CloseSquare = Unit {0}
IsClose _ = ⊥

close-by : {w : Whole} {d r : ℕ} {us : List Spot} (m : Mark) (p : Place) → IsClose m → At w d r (sign m p ∷ us) → At w (d - 1) r us
close-by mark.CloseRound p h a = pass a (λ i. absurd i) (λ i. absurd i)
close-by mark.CloseSquare p h a = pass a (λ i. absurd i) (λ i. absurd i)
close-by _ p h a = absurd h

pub leave : {w : Whole} {d r : ℕ} {us : List Spot} (m : Mark) (p : Place) → IsClose m → At w (suc d) r (sign m p ∷ us) → At w d r us
leave {w} {d} {r} {us} m p h a = let e : suc d - 1 ≡ d = omega arith in subst (λ (x : ℕ). At w x r us) e (close-by m p h a)

-- a reading gives what G says, or a fault that stands where it should
pub data Ends (w : Whole) {X : Type 0} (G : X → Type 0) : Result X Fault → Type 0 where
  went : {x : X} → G x → Ends w G (Ok x)
  stopped : {f : Fault} → StandsAt w.depth w.most w.tokens f → Ends w G (Err f)

pub and-ends : {w : Whole} {X Y : Type 0} {G : X → Type 0} {Q : Y → Type 0} {r : Result X Fault} {f : X → Result Y Fault} → Ends w G r → ((x : X) → G x → Ends w Q (f x)) → Ends w Q (r >>= f)
and-ends (went {x} g) h = h x g
and-ends (stopped b) h = stopped b

stands : {w : Whole} {d r : ℕ} {us : List Spot} (k : ParseKind) → (a : At w d r us) → IsAtLimit k w.depth w.most a.front us → StandsAt w.depth w.most w.tokens (record { kind = k; left = length us })
stands {us} k a h = record { front = a.front; rest = us; all = a.all; left = refl; within = a.within; limit = h }

pub unexpected-ends : {w : Whole} {X : Type 0} {G : X → Type 0} {d r : ℕ} {us : List Spot} → At w d r us → Ends w G (unexpected us)
unexpected-ends a = stopped (stands kind.Unexpected a tt)

too-deep : {w : Whole} {X : Type 0} {G : X → Type 0} {d r : ℕ} {s : Spot} {us : List Spot} → At w d r (s ∷ us) → OpensBracket s.token → d ≡ w.depth → Ends w G (refused kind.TooDeep (s ∷ us))
too-deep {s} {us} a o e = stopped (stands kind.TooDeep a (s, us, refl, o, a.opened ∙ e))

pub too-many : {w : Whole} {X : Type 0} {G : X → Type 0} {d r : ℕ} {s : Spot} {us : List Spot} → At w d r (s ∷ us) → BeginsRule s.token → r ≡ w.most → Ends w G (refused kind.TooManyRules (s ∷ us))
too-many {s} {us} a b e = stopped (stands kind.TooManyRules a (s, us, refl, b, a.counted ∙ e))

-- a reading that closes what it opens
abbrev pub Keeps : {A : Type 0} → Whole → ℕ → ℕ → Parser A → Type 0
Keeps w d r p = (us : List Spot) → At w d r us → Ends w (λ x. At w d r x.1) (p us)

-- and then a sign or a word
sign-by : {w : Whole} {A : Type 0} {Q : A × List Spot → Type 0} {d r : ℕ} (m : Mark) (x : A) (vs : List Spot) → Has m vs → At w d r vs → ((p : Place) (us : List Spot) → At w d r (sign m p ∷ us) → Q (x, us)) → Ends w Q (before (after m) (x, vs))
sign-by m x vs (there {p} {us}) a h = rw (same-sign m p us) (went (h p us a))
sign-by m x vs (lacking e) a h = rw e (unexpected-ends a)

pub and-sign : {w : Whole} {A : Type 0} {d r : ℕ} (m : Mark) → IsPlain (token.Sign m) → (x : A × List Spot) → At w d r x.1 → Ends w (λ y. At w d r y.1) (before (after m) x)
and-sign m h x a = sign-by m x.0 x.1 (has m x.1) a (λ p us b. over h b)

pub and-close : {w : Whole} {A : Type 0} {d r : ℕ} (m : Mark) → IsClose m → (x : A × List Spot) → At w (suc d) r x.1 → Ends w (λ y. At w d r y.1) (before (after m) x)
and-close m h x a = sign-by m x.0 x.1 (has m x.1) a (λ p us b. leave m p h b)

word-by : {w : Whole} {A : Type 0} {d r : ℕ} (k : Key) (x : A) (vs : List Spot) → HasWord k vs → IsPlain (token.Word k) → At w d r vs → Ends w (λ y. At w d r y.1) (before (after_word k) (x, vs))
word-by k x vs (said {p} {us}) h a = rw (same-word k p us) (went (over h a))
word-by k x vs (unsaid e) h a = rw e (unexpected-ends a)

pub and-word : {w : Whole} {A : Type 0} {d r : ℕ} (k : Key) → IsPlain (token.Word k) → (x : A × List Spot) → At w d r x.1 → Ends w (λ y. At w d r y.1) (before (after_word k) x)
and-word k h x a = word-by k x.0 x.1 (has-word k x.1) h a

pub sign-opens : {w : Whole} {d r : ℕ} (m : Mark) → IsPlain (token.Sign m) → (us vs : List Spot) → after m us ≡ Some vs → At w d r us → At w d r vs
sign-opens {w} {d} {r} m h us vs e a = let o = holds.opened m us vs (has m us) e in over {s = sign m o.0} h (subst (λ (zs : List Spot). At w d r zs) o.1 a)

pub word-opens : {w : Whole} {d r : ℕ} (k : Key) → IsPlain (token.Word k) → (us vs : List Spot) → after_word k us ≡ Some vs → At w d r us → At w d r vs
word-opens {w} {d} {r} k h us vs e a = let o = holds.told k us vs (has-word k us) e in over {s = word k o.0} h (subst (λ (zs : List Spot). At w d r zs) o.1 a)

-- readings repeated, where I holds of what is left at each turn
module _ {w : Whole} {A : Type 0} (I : List Spot → Type 0) (opens : List Spot → Option (List Spot)) (p : Parser A)
    (behind : (us vs : List Spot) → opens us ≡ Some vs → I us → I vs)
    (turn : (us : List Spot) → I us → Ends w (λ x. I x.1) (p us)) where
  turns-by : (k : ℕ) (us : List Spot) (o : Option (List Spot)) → opens us ≡ o → I us → ((vs : List Spot) → I vs → Ends w (λ x. I x.1) (follows opens p k vs)) → Ends w (λ x. I x.1) (follows opens p (suc k) us)
  turns-by k us None e i again = rw (e, follows) (went i)
  turns-by k us (Some vs) e i again = rw (e, follows) (and-ends (turn vs (behind us vs e i)) (λ x j. and-ends (again x.1 j) (λ y l. went l)))

  follows-end : (k : ℕ) (us : List Spot) → I us → Ends w (λ x. I x.1) (follows opens p k us)
  follows-end zero us i = went i
  follows-end (suc k) us i = turns-by k us (opens us) refl i (λ vs j. follows-end k vs j)

  pub repeated-end : (us : List Spot) → I us → Ends w (λ x. I x.1) (repeated opens p us)
  repeated-end us i = follows-end (length us) us i

  pub separated-end : (us : List Spot) → I us → Ends w (λ x. I x.1) (separated opens p us)
  separated-end us i = and-ends (turn us i) (λ x j. and-ends (repeated-end x.1 j) (λ y l. went l))

pub repeated-keeps : {w : Whole} {A : Type 0} {d r : ℕ} (m : Mark) → IsPlain (token.Sign m) → (p : Parser A) → Keeps w d r p → Keeps w d r (repeated (after m) p)
repeated-keeps {w} {d = d} {r} m h p k us a = repeated-end (At w d r) (after m) p (sign-opens m h) k us a

pub separated-keeps : {w : Whole} {A : Type 0} {d r : ℕ} (m : Mark) → IsPlain (token.Sign m) → (p : Parser A) → Keeps w d r p → Keeps w d r (separated (after m) p)
separated-keeps {w} {d = d} {r} m h p k us a = separated-end (At w d r) (after m) p (sign-opens m h) k us a

-- what stands behind a bracket, and the closing one
pub enclosed-end : {w : Whole} {A : Type 0} {d r : ℕ} (m : Mark) → IsClose m → (p : Parser A) → Keeps w (suc d) r p → (us : List Spot) → At w (suc d) r us → Ends w (λ x. At w d r x.1) (enclosed m p us)
enclosed-end m c p k us a = and-ends (separated-keeps mark.Comma tt p k us a) (λ x b. and-close m c x b)

none-by : {w : Whole} {A : Type 0} {d r : ℕ} (m : Mark) → IsClose m → (p : Parser A) → Keeps w (suc d) r p → (us : List Spot) → Has m us → At w (suc d) r us → Ends w (λ x. At w d r x.1) (enclosed_or_none m p us)
none-by m c p k us (there {p = q} {us = vs}) a = rw (same-sign m q vs, enclosed_or_none) (went (leave m q c a))
none-by m c p k us (lacking e) a = rw (e, enclosed_or_none) (enclosed-end m c p k us a)

pub or-none-end : {w : Whole} {A : Type 0} {d r : ℕ} (m : Mark) → IsClose m → (p : Parser A) → Keeps w (suc d) r p → (us : List Spot) → At w (suc d) r us → Ends w (λ x. At w d r x.1) (enclosed_or_none m p us)
or-none-end m c p k us a = none-by m c p k us (has m us) a

-- the reading of what stands one bracket further in: it is as K says, or no bracket may open
pub data Further (w : Whole) (d : ℕ) {A : Type 0} (K : Parser A → Type 0) : Option (Parser A) → Type 0 where
  full : d ≡ w.depth → Further w d K None
  further : {p : Parser A} → d < w.depth → K p → Further w d K (Some p)

abbrev pub KeepsInner : {A : Type 0} → Whole → ℕ → ℕ → Option (Parser A) → Type 0
KeepsInner w d r = Further w d (Keeps w (suc d) r)

pub inside-ends : {w : Whole} {d r : ℕ} {A B : Type 0} {G : B × List Spot → Type 0} {K : Parser A → Type 0} {inner : Option (Parser A)} {s : Spot} {us : List Spot} (f : Parser A → Parser B) → Further w d K inner → OpensBracket s.token → At w d r (s ∷ us) → ((p : Parser A) → K p → At w (suc d) r us → Ends w G (f p us)) → Ends w G (inside inner f (s ∷ us) us)
inside-ends f (full e) o a h = too-deep a o e
inside-ends f (further {p} l k) o a h = h p k (enter o l a)

-- a name, and a long
name-in : {w : Whole} {d r : ℕ} (t : Token) (p : Place) (us : List Spot) → At w d r (record { token = t; place = p } ∷ us) → Ends w (λ x. At w d r x.1) (name_in (record { token = t; place = p } ∷ us) t p us)
name-in (token.Name n) p us a = went (over tt a)
name-in (token.Word k) p us a = unexpected-ends a
name-in (token.TyVar v) p us a = unexpected-ends a
name-in (token.Lit l) p us a = unexpected-ends a
name-in (token.Sign m) p us a = unexpected-ends a
name-in (token.Dashes n) p us a = unexpected-ends a

pub name-keeps : {w : Whole} {d r : ℕ} → Keeps w d r name_at
name-keeps [] a = unexpected-ends a
name-keeps (s ∷ us) a = name-in s.token s.place us a

dot-ends : {w : Whole} {d r : ℕ} (n : ℕ × Place) (us : List Spot) → Has mark.Dot us → At w d r us → Ends w (λ x. At w d r x.1) (qualified n us (after mark.Dot us))
dot-ends n us (there {us = vs}) a = and-ends (name-keeps vs (over tt a)) (λ y b. went b)
dot-ends n us (lacking e) a = rw e (went a)

pub long-keeps : {w : Whole} {d r : ℕ} → Keeps w d r long_at
unfolding long_at
long-keeps us a = and-ends (name-keeps us a) (λ x b. dot-ends x.0 x.1 (has mark.Dot x.1) b)
