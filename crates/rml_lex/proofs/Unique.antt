-- A text has one reading: the same tokens, or the same fault.
use Rattle.std.proofs.Common.{◌≡◌, ℕ, zero, suc, ◌<◌, List, [], ◌∷◌, ◌++◌, length, take, refl, sym, ap, ◌∙◌, arith, Some, inl, inr, subst}
use Rattle.rml_lex.specs.declared.piece.Piece.{Piece}
use Rattle.rml_lex.specs.declared.piece.Piece.TheVariants as piece
use Rattle.rml_lex.specs.Spelling.{whole}
use Rattle.rml_lex.specs.Spells.{IsLongest, Spells}
use Rattle.rml_lex.proofs.Wholes.{one-piece, spells-whole}
use Rattle.rml_lex.specs.Places.{place_after, start}
use Rattle.rml_lex.specs.Reading.{AllGiven, Part, Reaches, IsSound, Faults, FirstFault, IsFault, Shown, Spelled, behind, marks, shown}
use Rattle.rml_lex.specs.Numbered.{IsNumbered, names_in, spots_in, with_names}
use Rattle.rml_lex.proofs.SoFar.{spots-numbered}
use Rattle.rml_base.specs.Answers.{Explains, Gives, Refuses}
use Rattle.rml_base.specs.Numbering.{IsDistinct}
use Rattle.rml_lex.specs.declared.tokens.LexErr.{LexErr}
use Rattle.rml_lex.specs.declared.tokens.LexErr.TheVariants as error
use Rattle.rml_syntax.specs.declared.token.Spot.{Spot}
use Rattle.std.specs.Prelude.{Result, Ok, Err, Vec, IfOk}
use Rattle.std.specs.declared.alloc.Global.{Global}
use Rattle.rml_base.specs.declared.place.Place.{Place}
use Rattle.rml_lex.specs.declared.piece.LexKind.{LexKind}

nothing-read : (bytes : List ℕ) (n : ℕ) (p : Piece) → n ≡ 0 → Spells (take n bytes) p → ⊥
nothing-read bytes zero p e h = let w : whole [] ≡ Some p = spells-whole [] p h in cc
nothing-read bytes (suc n) p e h = omega arith

not-sound : (p q : Piece) → p ≡ q → IsSound p → (k : LexKind) (at : ℕ) → q ≡ piece.Faulty k at → ⊥
not-sound p q e s k at f = let g : IsSound (piece.Faulty k at) = subst (λ (x : Piece). IsSound x) (e ∙ f) s in g

not-longer : (bytes : List ℕ) (n m : ℕ) (p q : Piece) → IsLongest bytes n p → IsLongest bytes m q → n < m → ⊥
not-longer bytes n m p q l k lt = l.longer m q lt k.within k.spelled

pub same-length : (bytes : List ℕ) (n m : ℕ) (p q : Piece) → IsLongest bytes n p → IsLongest bytes m q → n ≡ m
same-length bytes n m p q l k =
    let a : n < m → ⊥ = not-longer bytes n m p q l k in
    let b : m < n → ⊥ = not-longer bytes m n q p k l in
    grind (arith, a, b)

pub same-piece : (bytes : List ℕ) (n m : ℕ) (p q : Piece) → IsLongest bytes n p → IsLongest bytes m q → p ≡ q
same-piece bytes n m p q l k = one-piece (take n bytes) p q l.spelled (subst (λ (i : ℕ). Spells (take i bytes) q) (sym (same-length bytes n m p q l k)) k.spelled)

pub split : (xs ys a b : List ℕ) → length xs ≡ length ys → xs ++ a ≡ ys ++ b → (xs ≡ ys) × (a ≡ b)
split [] [] a b n e = (refl, e)
split [] (y ∷ ys) a b n e = absurd (omega arith)
split (x ∷ xs) [] a b n e = absurd (omega arith)
split (x ∷ xs) (y ∷ ys) a b n e =
    let h : x ≡ y = cc in
    let t : xs ++ a ≡ ys ++ b = cc in
    let r = split xs ys a b (omega arith) t in
    (rw (h, r.0) refl, r.1)

pub no-piece : (part : List ℕ) (more : List ℕ) → 0 < length part → [] ≡ part ++ more → ⊥
no-piece [] more pos e = absurd (omega arith)
no-piece (x ∷ xs) more pos e = cc

together : (p q : Part) → p.0 ≡ q.0 → p.1 ≡ q.1 → p ≡ q
together p q a b = rw (a, b) refl

faultless : (rest : List ℕ) (at place : Place) (kind : LexKind) → rest ≡ [] → Faults at rest place kind → ⊥
faultless rest at place kind e (inl f) = let n = ap length e in let p = f.0 in omega arith
faultless rest at place kind e (inr f) = let l = f.2 in let n = ap length e in let w = l.within in let z : f.0 ≡ 0 = omega arith in let sp = l.spelled in nothing-read rest f.0 (piece.Faulty kind f.1) z sp

sound-piece : (bytes : List ℕ) (p : Part) → 0 < length p.0 → IsLongest bytes (length p.0) p.1 → IsSound p.1 → (at place : Place) (kind : LexKind) → Faults at bytes place kind → ⊥
sound-piece bytes p pos l sound at place kind (inl f) = f.1 (length p.0) p.1 l.within l.spelled
sound-piece bytes p pos l sound at place kind (inr f) = not-sound p.1 (piece.Faulty kind f.1) (same-piece bytes (length p.0) f.0 p.1 (piece.Faulty kind f.1) l f.2) sound kind f.1 refl

-- two readings of the whole are one
pub one-reading : (ps qs : List Part) (bytes : List ℕ) → Reaches bytes ps [] → Reaches bytes qs [] → ps ≡ qs
one-reading [] [] bytes r s = refl
one-reading [] (q ∷ qs) bytes r s = absurd (no-piece q.0 s.0 s.2 (sym r ∙ s.1))
one-reading (p ∷ ps) [] bytes r s = absurd (no-piece p.0 r.0 r.2 (sym s ∙ r.1))
one-reading (p ∷ ps) (q ∷ qs) bytes r s =
    let n = same-length bytes (length p.0) (length q.0) p.1 q.1 r.3 s.3 in
    let k : p.1 ≡ q.1 = same-piece bytes (length p.0) (length q.0) p.1 q.1 r.3 s.3 in
    let c = split p.0 q.0 r.0 s.0 n (sym r.1 ∙ s.1) in
    let others = one-reading ps qs r.0 r.5 (rw (c.1) s.5) in
    let same : p ≡ q = together p q c.0 k in
    rw (others, same) refl

-- a whole reading meets no fault
pub no-fault : (ps qs : List Part) (bytes rest : List ℕ) (at place : Place) (kind : LexKind) → Reaches bytes ps [] → Reaches bytes qs rest → Faults at rest place kind → ⊥
no-fault [] [] bytes rest at place kind r s f = faultless rest at place kind (sym s ∙ r) f
no-fault [] (q ∷ qs) bytes rest at place kind r s f = no-piece q.0 s.0 s.2 (sym r ∙ s.1)
no-fault (p ∷ ps) [] bytes rest at place kind r s f = sound-piece bytes p r.2 r.3 r.4 at place kind (rw (← s) at f)
no-fault (p ∷ ps) (q ∷ qs) bytes rest at place kind r s f =
    let n = same-length bytes (length p.0) (length q.0) p.1 q.1 r.3 s.3 in
    let c = split p.0 q.0 r.0 s.0 n (sym r.1 ∙ s.1) in
    no-fault ps qs r.0 rest at place kind r.5 (rw (c.1) s.5) f

-- two faults at the front of the same bytes are one
one-fault : (rest : List ℕ) (at p q : Place) (j k : LexKind) → Faults at rest p j → Faults at rest q k → (p ≡ q) × (j ≡ k)
one-fault rest at p q j k (inl f) (inl g) = (f.2 ∙ sym g.2, f.3 ∙ sym g.3)
one-fault rest at p q j k (inl f) (inr g) = absurd (let w = g.2 in f.1 g.0 (piece.Faulty k g.1) w.within w.spelled)
one-fault rest at p q j k (inr f) (inl g) = absurd (let w = f.2 in g.1 f.0 (piece.Faulty j f.1) w.within w.spelled)
one-fault rest at p q j k (inr f) (inr g) =
    let n = same-length rest f.0 g.0 (piece.Faulty j f.1) (piece.Faulty k g.1) f.2 g.2 in
    let s = same-piece rest f.0 g.0 (piece.Faulty j f.1) (piece.Faulty k g.1) f.2 g.2 in
    let kinds : j ≡ k = cc s in
    let offsets : f.1 ≡ g.1 = cc s in
    (f.3 ∙ (rw (n, offsets) (sym g.3)), kinds)

pub same-fault : (ps qs : List Part) (bytes r s : List ℕ) (at p q : Place) (j k : LexKind) → Reaches bytes ps r → Reaches bytes qs s → Faults (behind at ps) r p j → Faults (behind at qs) s q k → (p ≡ q) × (j ≡ k)
same-fault [] [] bytes r s at p q j k a b f g = one-fault bytes at p q j k (rw (← a) at f) (rw (← b) at g)
same-fault [] (y ∷ ys) bytes r s at p q j k a b f g = absurd (sound-piece bytes y b.2 b.3 b.4 at p j (rw (← a) at f))
same-fault (x ∷ xs) [] bytes r s at p q j k a b f g = absurd (sound-piece bytes x a.2 a.3 a.4 at q k (rw (← b) at g))
same-fault (x ∷ xs) (y ∷ ys) bytes r s at p q j k a b f g =
    let n = same-length bytes (length x.0) (length y.0) x.1 y.1 a.3 b.3 in
    let c = split x.0 y.0 a.0 b.0 n (sym a.1 ∙ b.1) in
    same-fault xs ys a.0 r s (place_after at x.0) p q j k a.5 (rw c.1 b.5) f (rw c.0 g)

pub one-list : (text : ℕ) (bytes : List ℕ) (a b : List (Place × Shown)) → Spelled text bytes a → Spelled text bytes b → a ≡ b
one-list text bytes a b s t = s.2 ∙ ap (marks (start text)) (one-reading s.0 t.0 bytes s.1 t.1) ∙ sym t.2

pub unspelled : (text : ℕ) (bytes : List ℕ) (a : List (Place × Shown)) (place : Place) (kind : LexKind) → Spelled text bytes a → FirstFault text bytes place kind → ⊥
unspelled text bytes a place kind s f = no-fault s.0 f.0 bytes f.1 _ place kind s.1 f.2 f.3

-- what an answer can be, where its tokens are spelled and its fault is the first
pub spelled-only : (text : ℕ) (bytes : List ℕ) (names : List (List ℕ)) (r : Result (Vec Spot Global) LexErr) (spots : List (Place × Shown)) → Spelled text bytes spots → Explains error.Memory r (λ v. Spelled text bytes (shown names v.items)) (IsFault text bytes)
    → Gives error.Memory r (λ v. shown names v.items ≡ spots)
spelled-only text bytes names (Ok v) spots s so = one-list text bytes (shown names v.items) spots so s
spelled-only text bytes names (Err (error.At place kind)) spots s so = absurd (unspelled text bytes spots place kind s (so (λ e. cc)))
spelled-only text bytes names (Err error.Memory) spots s so = refl

pub first-only : (text : ℕ) (bytes : List ℕ) (names : List (List ℕ)) (r : Result (Vec Spot Global) LexErr) (place : Place) (kind : LexKind) → FirstFault text bytes place kind → Explains error.Memory r (λ v. Spelled text bytes (shown names v.items)) (IsFault text bytes)
    → Refuses error.Memory r (λ e. e ≡ error.At place kind)
first-only text bytes names (Ok v) place kind f so = unspelled text bytes (shown names v.items) place kind so f
first-only text bytes names (Err (error.At p k)) place kind f so =
    let fault : FirstFault text bytes p k = so (λ e. cc) in
    let same = same-fault fault.0 f.0 bytes fault.1 f.1 (start text) p place k kind fault.2 f.2 fault.3 f.3 in
    inl (rw (same.0, same.1) refl)
first-only text bytes names (Err error.Memory) place kind f so = inr refl

-- the numbers, where the tokens are those that are spelled
pub numbered-only : (text : ℕ) (bytes : List ℕ) (old new : List (List ℕ)) (r : Result (Vec Spot Global) LexErr) (spots : List (Place × Shown)) → Spelled text bytes spots → Explains error.Memory r (λ v. Spelled text bytes (shown new v.items)) (IsFault text bytes)
    → IfOk r (λ v. AllGiven (length new) v.items) → IfOk r (λ v. new ≡ with_names old (names_in (shown new v.items))) → IsDistinct new → IfOk r (λ v. IsNumbered old spots v.items new)
numbered-only text bytes old new (Ok v) spots s so given numbers d =
    let same : shown new v.items ≡ spots = one-list text bytes (shown new v.items) spots so s in
    record { names = numbers ∙ ap (λ x. with_names old (names_in x)) same; tokens = spots-numbered new v.items d given ∙ ap (spots_in new) same }
numbered-only text bytes old new (Err e) spots s so given numbers d = tt
