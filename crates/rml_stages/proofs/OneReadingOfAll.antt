-- The same of texts one after another.
use Rattle.std.proofs.Common.{◌≡◌, ℕ, suc, ◌+◌, List, [], ◌∷◌, ◌++◌, length, refl, sym, ap, subst, ◌∙◌, arith, inl, inr, ◌⊎◌}
use Rattle.rml_syntax.specs.declared.texts.Text.{Text}
use Rattle.rml_stages.specs.declared.refusal.Refusal.{Refusal}
use Rattle.rml_stages.specs.Reading.{AreRead, IsFirstRefusal, IsRead, IsRefused}
use Rattle.rml_stages.proofs.OneReading.{each-text, not-both, one-refusal, one-text}

pub one-list-of-trees : (texts : List (List ℕ)) (number : ℕ) (old a b : List (List ℕ)) (ts us : List Text) → AreRead number texts old ts a → AreRead number texts old us b → (ts ≡ us) × (a ≡ b)
one-list-of-trees [] number old a b [] [] h k = (refl, h ∙ sym k)
one-list-of-trees [] number old a b [] (u ∷ us) h k = absurd k
one-list-of-trees [] number old a b (t ∷ ts) us h k = absurd h
one-list-of-trees (x ∷ xs) number old a b [] us h k = absurd h
one-list-of-trees (x ∷ xs) number old a b (t ∷ ts) [] h k = absurd k
one-list-of-trees (x ∷ xs) number old a b (t ∷ ts) (u ∷ us) h k =
    let one = one-text number x old t u h.0 k.0 h.1 k.1 in
    let more = one-list-of-trees xs (suc number) h.0 a b ts us h.2 (subst (λ (n : List (List ℕ)). AreRead (suc number) xs n us b) (sym one.1) k.2) in
    (ap (λ y. y ∷ ts) one.0 ∙ ap (λ ys. u ∷ ys) more.0, more.1)

-- the first refusal, text by text
First : ℕ → List (List ℕ) → List (List ℕ) → Refusal → Type 0
First number [] old r = ⊥
First number (x ∷ xs) old r = IsRefused number x old r ⊎ ((t : Text) × (new : List (List ℕ)) × IsRead number x old t new × First (suc number) xs new r)

walked : (before : List (List ℕ)) (number : ℕ) (text : List ℕ) (after old new : List (List ℕ)) (ts : List Text) (r : Refusal) → AreRead number before old ts new → IsRefused (number + length before) text new r → First number (before ++ text ∷ after) old r
unfolding First
walked [] number text after old new [] r read refused =
    let none : number + 0 ≡ number = omega arith in
    inl (subst (λ (n : List (List ℕ)). IsRefused number text n r) read (subst (λ k. IsRefused k text new r) none refused))
walked [] number text after old new (t ∷ ts) r read refused = absurd read
walked (x ∷ xs) number text after old new [] r read refused = absurd read
walked (x ∷ xs) number text after old new (t ∷ ts) r read refused =
    let next : number + suc (length xs) ≡ suc number + length xs = omega arith in
    inr (t, read.0, read.1, walked xs (suc number) text after read.0 new ts r read.2 (subst (λ k. IsRefused k text new r) next refused))

first-of : (number : ℕ) (texts old : List (List ℕ)) (r : Refusal) → IsFirstRefusal number texts old r → First number texts old r
first-of number texts old r f = subst (λ (xs : List (List ℕ)). First number xs old r) (sym f.cut) (walked f.before number f.text f.after old f.new f.trees r f.read f.refused)

one-first : (texts : List (List ℕ)) (number : ℕ) (old : List (List ℕ)) (q r : Refusal) → First number texts old q → First number texts old r → q ≡ r
unfolding First
one-first [] number old q r f g = absurd f
one-first (x ∷ xs) number old q r (inl f) (inl g) = one-refusal number x old q r f g
one-first (x ∷ xs) number old q r (inl f) (inr (t, new, h, g)) = absurd (not-both number x old t new q h f)
one-first (x ∷ xs) number old q r (inr (t, new, h, f)) (inl g) = absurd (not-both number x old t new r h g)
one-first (x ∷ xs) number old q r (inr (t, new, h, f)) (inr (u, now, k, g)) =
    let same = one-text number x old t u new now h k in
    one-first xs (suc number) new q r f (subst (λ (n : List (List ℕ)). First (suc number) xs n r) (sym same.1) g)

pub one-first-refusal : (number : ℕ) (texts old : List (List ℕ)) (q r : Refusal) → IsFirstRefusal number texts old q → IsFirstRefusal number texts old r → q ≡ r
one-first-refusal number texts old q r f g = one-first texts number old q r (first-of number texts old q f) (first-of number texts old r g)

no-first : (texts : List (List ℕ)) (number : ℕ) (old new : List (List ℕ)) (ts : List Text) (r : Refusal) → AreRead number texts old ts new → First number texts old r → ⊥
unfolding First
no-first [] number old new ts r h f = f
no-first (x ∷ xs) number old new [] r h f = h
no-first (x ∷ xs) number old new (t ∷ ts) r h (inl f) = not-both number x old t h.0 r h.1 f
no-first (x ∷ xs) number old new (t ∷ ts) r h (inr (u, now, k, f)) =
    let same = one-text number x old u t now h.0 k h.1 in
    no-first xs (suc number) h.0 new ts r h.2 (subst (λ (n : List (List ℕ)). First (suc number) xs n r) same.1 f)

pub not-both-of-all : (number : ℕ) (texts old new : List (List ℕ)) (ts : List Text) (r : Refusal) → AreRead number texts old ts new → IsFirstRefusal number texts old r → ⊥
not-both-of-all number texts old new ts r h f = no-first texts number old new ts r h (first-of number texts old r f)

-- a text that is refused is the first refusal of itself and what comes behind it
refused-now : (number : ℕ) (x : List ℕ) (xs old : List (List ℕ)) (r : Refusal) → IsRefused number x old r → IsFirstRefusal number (x ∷ xs) old r
refused-now number x xs old r h =
    let none : number ≡ number + 0 = omega arith in
    record { before = []; text = x; after = xs; cut = refl; trees = []; new = old; read = refl; refused = subst (λ k. IsRefused k x old r) none h }

refused-later : (number : ℕ) (x : List ℕ) (xs old new : List (List ℕ)) (t : Text) (r : Refusal) → IsRead number x old t new → IsFirstRefusal (suc number) xs new r → IsFirstRefusal number (x ∷ xs) old r
refused-later number x xs old new t r h f =
    let next : suc number + length f.before ≡ number + suc (length f.before) = omega arith in
    record {
      before = x ∷ f.before;
      text = f.text;
      after = f.after;
      cut = ap (λ ys. x ∷ ys) f.cut;
      trees = t ∷ f.trees;
      new = f.new;
      read = (new, h, f.read);
      refused = subst (λ k. IsRefused k f.text f.new r) next f.refused;
    }

Either : ℕ → List (List ℕ) → List (List ℕ) → Type 0
Either number texts old = ((ts : List Text) × (new : List (List ℕ)) × AreRead number texts old ts new) ⊎ ((r : Refusal) × IsFirstRefusal number texts old r)

both-ways : (number : ℕ) (x : List ℕ) (xs old : List (List ℕ)) → ((t : Text) × (new : List (List ℕ)) × IsRead number x old t new) ⊎ ((r : Refusal) × IsRefused number x old r) → ((new : List (List ℕ)) → Either (suc number) xs new) → Either number (x ∷ xs) old
unfolding Either
both-ways number x xs old (inr (r, h)) more = inr (r, refused-now number x xs old r h)
both-ways number x xs old (inl (t, new, h)) more = elim (more new) [
  | inl m ↦ inl (t ∷ m.0, m.1, (new, h, m.2))
  | inr m ↦ inr (m.0, refused-later number x xs old new t m.0 h m.1)
]

each : (texts : List (List ℕ)) (number : ℕ) (old : List (List ℕ)) → Either number texts old
unfolding Either
each [] number old = inl ([], old, refl)
each (x ∷ xs) number old = both-ways number x xs old (each-text number x old) (λ new. each xs (suc number) new)

pub each-list : (number : ℕ) (texts old : List (List ℕ)) → ((ts : List Text) × (new : List (List ℕ)) × AreRead number texts old ts new) ⊎ ((r : Refusal) × IsFirstRefusal number texts old r)
unfolding Either
each-list number texts old = each texts number old

-- one text more
pub read-more : (texts : List (List ℕ)) (number : ℕ) (old mid new : List (List ℕ)) (ts : List Text) (text : List ℕ) (t : Text) → AreRead number texts old ts mid → IsRead (number + length texts) text mid t new → AreRead number (texts ++ text ∷ []) old (ts ++ t ∷ []) new
read-more [] number old mid new [] text t h k =
    let none : number + 0 ≡ number = omega arith in
    (new, subst (λ (n : List (List ℕ)). IsRead number text n t new) h (subst (λ m. IsRead m text mid t new) none k), refl)
read-more [] number old mid new (u ∷ us) text t h k = absurd h
read-more (x ∷ xs) number old mid new [] text t h k = absurd h
read-more (x ∷ xs) number old mid new (u ∷ us) text t h k =
    let next : number + suc (length xs) ≡ suc number + length xs = omega arith in
    (h.0, h.1, read-more xs (suc number) h.0 mid new us text t h.2 (subst (λ m. IsRead m text mid t new) next k))
