-- Where reading stops, the tokens before begin a text; and where a limit stops it, so do those up to what passes the limit.
use Rattle.std.proofs.Common.{◌≡◌, ℕ, suc, ◌+◌, ◌<◌, List, [], ◌∷◌, ◌++◌, length, refl, sym, ap, subst, ◌∙◌, arith, Result, Ok, Err, inl, inr, append_assoc, append-nil}
use Rattle.std.proofs.lemmas.List.{length-append}
use Rattle.rml_base.specs.declared.place.Place.{Place}
use Rattle.rml_syntax.specs.declared.token.Spot.{Spot}
use Rattle.rml_syntax.specs.declared.texts.Text.{Text}
use Rattle.rml_grammar.specs.declared.fault.Fault.{Fault}
use Rattle.rml_grammar.specs.declared.fault.ParseKind.{ParseKind}
use Rattle.rml_grammar.specs.declared.fault.ParseKind.TheVariants as kind
use Rattle.rml_grammar.specs.Beginnings.{Begins, GoesOn, IsText, IsTextWithin}
use Rattle.rml_grammar.specs.Laws.{IsLimit, IsUnexpected}
use Rattle.rml_grammar.specs.Limits.{IsAtLimit, WithinLimits}
use Rattle.rml_grammar.specs.SpelledTexts.{Derives}
use Rattle.rml_grammar.specs.Texts.{text_at, whole_by, whole_text}
use Rattle.rml_grammar.proofs.Cuts.{one-cut, two-cuts}
use Rattle.rml_grammar.proofs.Levels.{whole_is}
use Rattle.rml_grammar.proofs.Places.{ended, placed, sound}
use Rattle.rml_grammar.proofs.LimitsTexts.{fault-at, text-within}
use Rattle.rml_grammar.proofs.LimitsLargerTexts.{later-fault}
use Rattle.rml_grammar.proofs.LimitsLaws.{large, no-limit, within-read}
use Rattle.rml_grammar.proofs.Goes.{Narrow, nothing, CanFinish, bind-unexpected, cut-ok, left-is}
use Rattle.rml_grammar.proofs.GoesTexts.{text-goes, text-next}

module _ (end : Place) (n k : ℕ) where
  -- some tokens behind these make a text that is read
  record IsBegun (c : List Spot) : Type 0 where
    more : List Spot
    tree : Text
    read : whole_text end n k (c ++ more) ≡ Ok tree

  whole-read : (us : List Spot) (t : Text) → text_at end n k us ≡ Ok (t, []) → whole_text end n k us ≡ Ok t
  whole-read us t e = rw (whole_is end n k us, e) refl

  left-behind : (t : Text) (rest : List Spot) (left : ℕ) → IsUnexpected left (whole_by t rest) → length rest ≡ left
  left-behind t [] left e = absurd (cc e)
  left-behind t (s ∷ rest) left e = left-is {A = Text} (record { kind = kind.Unexpected; left = length (s ∷ rest) }) left e

  from-finish : (c : List Spot) → CanFinish Narrow (text_at end n k) c → IsBegun c
  from-finish c m = record { more = m.more ++ []; tree = m.gives; read = whole-read (c ++ (m.more ++ [])) m.gives (m.reads [] nothing) }

  read-whole : (c rest : List Spot) (y : Text × List Spot) → text_at end n k (c ++ rest) ≡ Ok y → IsUnexpected (length rest) (whole_by y.0 y.1) → IsBegun c
  read-whole c rest y e h =
      let l = cut-ok (c ++ rest) (text_at end n k (c ++ rest)) y.0 y.1 e ((text-goes n k end).cuts (c ++ rest)) in
      let same = one-cut c rest l.0 y.1 l.1 (sym (left-behind y.0 y.1 (length rest) h)) in
      let q : text_at end n k (c ++ rest) ≡ Ok (y.0, rest) = e ∙ ap (λ (r : List Spot). Ok (y.0, r)) (sym same.1) in
      record { more = []; tree = y.0; read = whole-read (c ++ []) y.0 ((text-goes n k end).ends c rest y.0 q [] nothing) }

  begun-there : (c rest : List Spot) → IsUnexpected (length rest) (whole_text end n k (c ++ rest)) → IsBegun c
  begun-there [] rest e = let m = text-next n k end in record { more = m.more ++ []; tree = m.gives; read = whole-read (m.more ++ []) m.gives (m.reads [] nothing) }
  begun-there (x ∷ c) rest e = elim (bind-unexpected (length rest) (text_at end n k (x ∷ c ++ rest)) (λ y. whole_by y.0 y.1) (sym (whole_is end n k (x ∷ c ++ rest)) ∙ e)) [
    | inl h ↦ from-finish (x ∷ c) ((text-goes n k end).stops x c rest h)
    | inr h ↦ read-whole (x ∷ c) rest h.0 h.1 h.2
  ]

  -- in the words of the relation
  begun-text : (c : List Spot) → IsBegun c → Begins IsText c
  begun-text c b = (b.more, (end, b.tree, sound end n k (c ++ b.more) b.tree b.read))

  begun-within : 0 < n → (c : List Spot) → IsBegun c → Begins (IsTextWithin n (suc k)) c
  begun-within some c b = (b.more, ((end, b.tree, sound end n k (c ++ b.more) b.tree b.read), text-within end n k (c ++ b.more) b.tree some b.read))

is-unexpected : {X : Type 0} (r : Result X Fault) (f : Fault) (left : ℕ) → r ≡ Err f → f.kind ≡ kind.Unexpected → f.left ≡ left → IsUnexpected left r
is-unexpected {X} r f left e k l = e ∙ ap Err (let whole : f ≡ record { kind = kind.Unexpected; left = left } = rw (← l, ← k) refl in whole)

-- What stands behind the token of a limit under larger limits, which are not passed.
module _ (end : Place) (n k : ℕ) (x : Spot) (c tail : List Spot) (f : Fault) (e : whole_text end n k (c ++ x ∷ tail) ≡ Err f) (left : f.left ≡ suc (length tail)) (limit : IsLimit f.kind) where
  abbrev us : List Spot
  us = c ++ x ∷ tail

  abbrev deep : ℕ
  deep = suc (n + length us)

  abbrev many : ℕ
  many = suc (k + length us)

  behind-token : (front rest mid : List Spot) → front ≡ c ++ mid → x ∷ tail ≡ mid ++ rest → length rest < length (x ∷ tail) → Begins IsText front → GoesOn IsText c (x ∷ tail)
  behind-token front rest [] a b l h = absurd (omega (arith, ap length b))
  behind-token front rest (y ∷ mid) a b l h =
      let same : y ≡ x = cc in
      let all : front ++ h.0 ≡ c ++ x ∷ (mid ++ h.0) = ap (λ (w : List Spot). w ++ h.0) (a ∙ ap (λ (z : Spot). c ++ z ∷ mid) same) ∙ append_assoc c (x ∷ mid) h.0 in
      (mid ++ h.0, subst IsText all h.1)

  not-before : (front rest mid : List Spot) → rest ≡ mid ++ x ∷ tail → length rest < length (x ∷ tail) → ⊥
  not-before front rest mid a l = let h = ap length a in omega (arith, length-append mid (x ∷ tail))

  by-cut : (front rest : List Spot) → us ≡ front ++ rest → length rest < length (x ∷ tail) → Begins IsText front → GoesOn IsText c (x ∷ tail)
  by-cut front rest a l h = elim (two-cuts c (x ∷ tail) front rest a) [
    | inl i ↦ behind-token front rest i.between i.front i.rest l h
    | inr i ↦ absurd (not-before front rest i.between i.rest l)
  ]

  none-passed : WithinLimits deep (suc many) us
  none-passed = large deep (suc many) us (omega arith) (omega arith)

  by-fault : (g : Fault) (j : ParseKind) → g.kind ≡ j → whole_text end deep many us ≡ Err g → GoesOn IsText c (x ∷ tail)
  by-fault g kind.Unexpected is h =
      let s = fault-at end deep many us g (omega arith) h in
      let less : g.left < f.left = later-fault end n deep k many us f g (omega arith) (omega arith) e limit h in
      let there : whole_text end deep many (s.front ++ s.rest) ≡ Err g = subst (λ (vs : List Spot). whole_text end deep many vs ≡ Err g) s.all h in
      let shorter : length s.rest < length (x ∷ tail) = (let l = s.left in omega arith) in
      by-cut s.front s.rest s.all shorter (begun-text end deep many s.front (begun-there end deep many s.front s.rest (is-unexpected (whole_text end deep many (s.front ++ s.rest)) g (length s.rest) there is (sym s.left))))
  by-fault g kind.TooDeep is h = absurd (no-limit deep (suc many) us g none-passed (fault-at end deep many us g (omega arith) h) (rw is tt))
  by-fault g kind.TooManyRules is h = absurd (no-limit deep (suc many) us g none-passed (fault-at end deep many us g (omega arith) h) (rw is tt))

  by-reading : (r : Result Text Fault) → whole_text end deep many us ≡ r → GoesOn IsText c (x ∷ tail)
  by-reading (Ok t) h = (tail, (end, t, sound end deep many us t h))
  by-reading (Err g) h = by-fault g g.kind refl h

  pub token-goes-on : GoesOn IsText c (x ∷ tail)
  token-goes-on = by-reading (whole_text end deep many us) refl

module _ (end : Place) (n k : ℕ) (some : 0 < n) where
  -- no limit stands at the end
  goes-on-by : (c rest front behind : List Spot) (f : Fault) (j : ParseKind) → f.kind ≡ j → IsLimit j → behind ≡ rest → IsAtLimit j n (suc k) front behind → whole_text end n k (c ++ rest) ≡ Err f → f.left ≡ length rest → GoesOn IsText c rest
  goes-on-by c [] front behind f kind.Unexpected is i same a e left = absurd i
  goes-on-by c [] front behind f kind.TooDeep is i same a e left = absurd (let h : a.0 ∷ a.1 ≡ [] = sym a.2 ∙ same in cc h)
  goes-on-by c [] front behind f kind.TooManyRules is i same a e left = absurd (let h : a.0 ∷ a.1 ≡ [] = sym a.2 ∙ same in cc h)
  goes-on-by c (x ∷ tail) front behind f j is i same a e left = token-goes-on end n k x c tail f e left (rw is i)

  pub goes-on : (c rest : List Spot) (f : Fault) → whole_text end n k (c ++ rest) ≡ Err f → f.left ≡ length rest → IsLimit f.kind → GoesOn IsText c rest
  goes-on c rest f e left i =
      let s = fault-at end n k (c ++ rest) f some e in
      let cut = one-cut c rest s.front s.rest s.all (sym left ∙ sym s.left) in
      goes-on-by c rest s.front s.rest f f.kind refl i (sym cut.1) s.limit e left

  -- The tokens before a limit, read alone: they are within the limits, and each of them goes on in a text.
  alone-unexpected : (c others front rest : List Spot) (x : Spot) (g : Fault) → IsText (c ++ x ∷ others) → g.kind ≡ kind.Unexpected → whole_text end n k c ≡ Err g → c ≡ front ++ rest → g.left ≡ length rest → IsBegun end n k c
  alone-unexpected c others front [] x g t is e all left =
      let whole : c ≡ c ++ [] = sym (append-nil c) in
      begun-there end n k c [] (is-unexpected (whole_text end n k (c ++ [])) g 0 (subst (λ (us : List Spot). whole_text end n k us ≡ Err g) whole e) is left)
  alone-unexpected c others front (y ∷ rest) x g t is e all left =
      let there : whole_text end n k (front ++ y ∷ rest) ≡ Err g = subst (λ (us : List Spot). whole_text end n k us ≡ Err g) all e in
      let other : c ++ x ∷ others ≡ front ++ y ∷ (rest ++ x ∷ others) = ap (λ (us : List Spot). us ++ x ∷ others) all ∙ append_assoc front (y ∷ rest) (x ∷ others) in
      absurd (placed end t.0 n k front rest (rest ++ x ∷ others) y t.1 (is-unexpected (whole_text end n k (front ++ y ∷ rest)) g (suc (length rest)) there is left) (subst (λ (us : List Spot). Derives t.0 us t.1) other t.2))

  alone-by : (c others : List Spot) (x : Spot) (g : Fault) (j : ParseKind) → WithinLimits n (suc k) c → IsText (c ++ x ∷ others) → g.kind ≡ j → whole_text end n k c ≡ Err g → IsBegun end n k c
  alone-by c others x g kind.Unexpected w t is e = let s = fault-at end n k c g some e in alone-unexpected c others s.front s.rest x g t is e s.all (sym s.left)
  alone-by c others x g kind.TooDeep w t is e = absurd (no-limit n (suc k) c g w (fault-at end n k c g some e) (rw is tt))
  alone-by c others x g kind.TooManyRules w t is e = absurd (no-limit n (suc k) c g w (fault-at end n k c g some e) (rw is tt))

  alone : (c others : List Spot) (x : Spot) (r : Result Text Fault) → WithinLimits n (suc k) c → IsText (c ++ x ∷ others) → whole_text end n k c ≡ r → IsBegun end n k c
  alone c others x (Ok t) w h e = record { more = []; tree = t; read = (let whole : c ≡ c ++ [] = sym (append-nil c) in subst (λ (us : List Spot). whole_text end n k us ≡ Ok t) whole e) }
  alone c others x (Err g) w h e = alone-by c others x g g.kind w h refl e

  before-limit : (c rest : List Spot) → WithinLimits n (suc k) c → GoesOn IsText c rest → IsBegun end n k c
  before-limit c [] w h =
      let d = ended end h.2 in
      record { more = []; tree = d.0; read = (let whole : c ≡ c ++ [] = sym (append-nil c) in subst (λ (us : List Spot). whole_text end n k us ≡ Ok d.0) whole (within-read end n k c d.0 some w d.1)) }
  before-limit c (x ∷ rest) w h = alone c h.0 x (whole_text end n k c) w h.1 refl

  begun-by : (c rest : List Spot) (f : Fault) (j : ParseKind) → f.kind ≡ j → whole_text end n k (c ++ rest) ≡ Err f → f.left ≡ length rest → WithinLimits n (suc k) c → IsBegun end n k c
  begun-by c rest f kind.Unexpected is e left w = begun-there end n k c rest (is-unexpected (whole_text end n k (c ++ rest)) f (length rest) e is left)
  begun-by c rest f kind.TooDeep is e left w = before-limit c rest w (goes-on c rest f e left (rw is tt))
  begun-by c rest f kind.TooManyRules is e left w = before-limit c rest w (goes-on c rest f e left (rw is tt))

  pub begun : (c rest : List Spot) (f : Fault) → whole_text end n k (c ++ rest) ≡ Err f → f.left ≡ length rest → Begins (IsTextWithin n (suc k)) c
  begun c rest f e left =
      let s = fault-at end n k (c ++ rest) f some e in
      let cut = one-cut c rest s.front s.rest s.all (sym left ∙ sym s.left) in
      begun-within end n k some c (begun-by c rest f f.kind refl e left (subst (λ (us : List Spot). WithinLimits n (suc k) us) (sym cut.0) s.within))
