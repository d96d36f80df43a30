-- A text that is refused at a token is refused there whatever follows that token.
use Rattle.std.proofs.Common.{◌≡◌, ℕ, suc, ◌≤◌, List, [], ◌∷◌, ◌++◌, length, refl, ap, arith, inl, inr, Result, Ok, Err}
use Rattle.rml_base.specs.declared.place.Place.{Place}
use Rattle.rml_syntax.specs.declared.token.Spot.{Spot}
use Rattle.rml_syntax.specs.declared.texts.Text.{Text}
use Rattle.rml_grammar.specs.declared.fault.Fault.{Fault}
use Rattle.rml_grammar.specs.declared.fault.ParseKind.TheVariants as kind
use Rattle.rml_grammar.specs.Laws.{IsUnexpected, Sound, Complete, Placed}
use Rattle.rml_grammar.specs.Reading.{◌>>=◌}
use Rattle.rml_grammar.specs.SpelledTexts.{Derives, a_text}
use Rattle.rml_grammar.specs.Texts.{text_at, whole_by, whole_text}
use Rattle.rml_grammar.proofs.Levels.{whole_is}
use Rattle.rml_grammar.proofs.Holds.{Holds}
use Rattle.rml_grammar.proofs.Fine.{Within, Keeps}
use Rattle.rml_grammar.proofs.FineTexts.{text-fine}
use Rattle.rml_grammar.proofs.SoundTexts.{whole-sound}
use Rattle.rml_grammar.proofs.CompleteTexts.{whole-complete}

ok-holds : {X : Type 0} (P : X → Type 0) (r : Result X Fault) (x : X) → Holds P r → r ≡ Ok x → P x
ok-holds P r x h e = rw e at h

pub sound : Sound
sound end n k us t e = ok-holds (λ x. Derives end us x) (whole_text end n k us) t (whole-sound end n k us) e

pub complete : Complete
complete end n k us t d = whole-complete d n k

-- a list that is refused has no tree
no-tree : (end : Place) (n k : ℕ) (us : List Spot) (t : Text) (left : ℕ) → IsUnexpected left (whole_text end n k us) → Derives end us t → ⊥
no-tree end n k us t left e d = let h = whole-complete d n k in rw e at h

more-behind : (t : Text) (d : List Spot) (x : Spot) (other : List Spot) → IsUnexpected (length (d ++ x ∷ other)) (whole_by t (d ++ x ∷ other))
more-behind t [] x other = refl
more-behind t (y ∷ d) x other = refl

fault-of : {X : Type 0} (f g : Fault) → ◌≡◌ {A = Result X Fault} (Err f) (Err g) → f ≡ g
fault-of f g e = cc

left-of : (t : Text) (rest : List Spot) (left : ℕ) → IsUnexpected left (whole_by t rest) → length rest ≡ left
left-of t [] left e = absurd (cc e)
left-of t (s ∷ rest) left e = ap (λ (f : Fault). f.left) (fault-of {X = Text} (record { kind = kind.Unexpected; left = length (s ∷ rest) }) (record { kind = kind.Unexpected; left = left }) e)

by-text : (end : Place) (n k : ℕ) (c tail other : List Spot) (x : Spot) (t : Text) (r : Result (Text × List Spot) Fault) → IsUnexpected (suc (length tail)) (r >>= λ y. whole_by y.0 y.1) → Keeps x tail other r (text_at end n k (c ++ x ∷ other))
    → Derives end (c ++ x ∷ other) t → ⊥
by-text end n k c tail other x t (Ok y) e (inl q) d = no-tree end n k (c ++ x ∷ other) t (length (q.0 ++ x ∷ other)) (rw (whole_is end n k (c ++ x ∷ other), q.2) (more-behind y.0 q.0 x other)) d
by-text end n k c tail other x t (Ok y) e (inr l) d = let h = left-of y.0 y.1 (suc (length tail)) e in absurd (omega arith)
by-text end n k c tail other x t (Err f) e (inl q) d = no-tree end n k (c ++ x ∷ other) t (length (q.0 ++ x ∷ other)) (rw (whole_is end n k (c ++ x ∷ other), q.2) (let h = fault-of {X = Text} f (record { kind = kind.Unexpected; left = suc (length tail) }) e in rw h refl)) d
by-text end n k c tail other x t (Err f) e (inr l) d = let h : f.left ≡ suc (length tail) = ap (λ (g : Fault). g.left) (fault-of {X = Text} f (record { kind = kind.Unexpected; left = suc (length tail) }) e) in absurd (omega arith)

-- the tokens of a text are those of one that ends elsewhere
pub ended : {at : Place} {us : List Spot} {t : Text} (end : Place) → Derives at us t → (u : Text) × Derives end us u
ended end (a_text uses specs body decls) = (_, a_text uses specs body decls)

pub placed : Placed
placed end at n k c tail other x t e d =
    let same = ended end d in
    by-text end n k c tail other x same.0 (text_at end n k (c ++ x ∷ tail)) (rw (← whole_is end n k (c ++ x ∷ tail)) e) ((text-fine end n k).keeps x tail other c) same.1

by-within : (left : ℕ) (r : Result (Text × List Spot) Fault) (f : Fault) → Within left r → (r >>= λ y. whole_by y.0 y.1) ≡ Err f → f.left ≤ left
by-within left (Ok (t, [])) f h e = absurd (cc e)
by-within left (Ok (t, s ∷ rest)) f h e = let l : length (s ∷ rest) ≡ f.left = ap (λ (g : Fault). g.left) (fault-of {X = Text} (record { kind = kind.Unexpected; left = length (s ∷ rest) }) f e) in omega arith
by-within left (Err g) f h e = let l = ap (λ (g : Fault). g.left) (fault-of {X = Text} g f e) in omega arith

-- a fault leaves no more than there was
pub whole-within : (end : Place) (n k : ℕ) (us : List Spot) (f : Fault) → whole_text end n k us ≡ Err f → f.left ≤ length us
whole-within end n k us f e = by-within (length us) (text_at end n k us) f ((text-fine end n k).within us) (rw (← whole_is end n k us) e)
