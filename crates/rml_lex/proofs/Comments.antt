-- Comments in words of their own, and the machine that reads them.
use Rattle.std.proofs.Common.{◌≡◌, ℕ, zero, suc, ◌+◌, ◌-◌, ◌<◌, ◌≤◌, true, false, List, [], ◌∷◌, ◌++◌, length, take, drop, refl, sym, ap, ◌∙◌, arith, Option, Some, None, append_assoc, append-nil, add-one, ◌⊎◌, inl, inr}
use Rattle.std.specs.Prelude.{◌==◌, nat_le, if◌then◌else◌}
use Rattle.std.proofs.lemmas.Bool.Decides.{nat_tests}
use Rattle.std.proofs.lemmas.List.{take-append-drop}
use Rattle.rml_lex.specs.declared.piece.LexKind.TheVariants.{OpenComment}
use Rattle.rml_lex.specs.declared.piece.Piece.{Piece}
use Rattle.rml_lex.specs.declared.piece.Piece.TheVariants as piece
use Rattle.rml_lex.specs.declared.comment.Depth.{Depth}
use Rattle.rml_lex.specs.declared.comment.Half.{Half}
use Rattle.rml_lex.specs.declared.comment.Half.TheVariants.{Neither, Round, Star}
use Rattle.rml_lex.specs.declared.machine.Move.{Move}
use Rattle.rml_lex.specs.declared.machine.Move.TheVariants.{On, Done, Dead}
use Rattle.rml_lex.specs.Comment.{half_of, comment_step, comment_stop, comment_inside}
use Rattle.rml_lex.specs.Machine.{ends, whole_from}
use Rattle.rml_lex.proofs.Moves.{moved, one_step}
use Rattle.rml_lex.specs.Spells.{BeginsBracket, IsInside, Closes, Nests, Other, IsComment}

abbrev pub at : ℕ → Half → Depth
at d h = record { depth = d; half = h }

abbrev pub from : ℕ → Half → List ℕ → Option Piece
from d h bs = whole_from comment_stop comment_step (at d h) bs

-- what a byte leads to
abbrev led : Move Depth → List ℕ → Option Piece
led = moved comment_stop comment_step

step-from : (d : ℕ) (h : Half) (c : ℕ) (cs : List ℕ) → from d h (c ∷ cs) ≡ led (comment_step (at d h) c) cs
step-from d h c cs = one_step comment_stop comment_step (at d h) c cs

pub is-eq : (a n : ℕ) → (a == n) ≡ true → a ≡ n
is-eq a n e = grind (arith, nat_tests)

pub not-eq : (a n : ℕ) → (a ≡ n → ⊥) → (a == n) ≡ false
not-eq a n h = grind (arith, nat_tests)

pub eq-is : (a n : ℕ) → a ≡ n → (a == n) ≡ true
eq-is a n h = grind (arith, nat_tests)

-- what a comment at some depth becomes once its innermost one is closed
abbrev closed : ℕ → List ℕ → Option Piece
closed d rest = if nat_le d 1 then ends piece.Comment rest else from (d - 1) Neither rest

closes : (d : ℕ) (rest : List ℕ) → led (comment_step (at d Star) 41) rest ≡ closed d rest
closes d rest = elim (nat_le d 1) as (λ v. led (if v then Done piece.Comment else On (at (d - 1) Neither)) rest ≡ (if v then ends piece.Comment rest else from (d - 1) Neither rest)) [
  | true ↦ refl
  | false ↦ refl
]

deeper : (d : ℕ) (rest : List ℕ) → 0 < d → closed (d + 1) rest ≡ from d Neither rest
deeper d rest pos =
    let no : nat_le (d + 1) 1 ≡ false = grind (arith, nat_tests) in
    let e : d + 1 - 1 ≡ d = omega arith in
    rw (no, e) refl

-- a byte that begins no bracket leaves the machine between brackets
plain-round : (d c : ℕ) → (c ≡ 42 → ⊥) → comment_step (at d Round) c ≡ comment_step (at d Neither) c
plain-round d c h = rw (not-eq c 42 h) refl

plain-star : (d c : ℕ) → (c ≡ 41 → ⊥) → comment_step (at d Star) c ≡ comment_step (at d Neither) c
plain-star d c h = rw (not-eq c 41 h) refl

plain-pair : (d b c : ℕ) (cs : List ℕ) → (BeginsBracket (b ∷ c ∷ cs) → ⊥) → comment_step (at d (half_of b)) c ≡ comment_step (at d Neither) c
plain-pair d b c cs none = elim (b == 40) as (λ v. (b == 40) ≡ v → comment_step (at d (if v then Round else if b == 42 then Star else Neither)) c ≡ comment_step (at d Neither) c) [
  | true ↦ λ e. plain-round d c (λ w. none (cs, inl (rw (is-eq b 40 e, w) refl)))
  | false ↦ λ _. elim (b == 42) as (λ v. (b == 42) ≡ v → comment_step (at d (if v then Star else Neither)) c ≡ comment_step (at d Neither) c) [
    | true ↦ λ e. plain-star d c (λ w. none (cs, inr (rw (is-eq b 42 e, w) refl)))
    | false ↦ λ _. refl
  ] refl
] refl

skips : (d b c : ℕ) (cs : List ℕ) → (BeginsBracket (b ∷ c ∷ cs) → ⊥) → from d Neither (b ∷ c ∷ cs) ≡ from d Neither (c ∷ cs)
skips d b c cs none = step-from d Neither b (c ∷ cs) ∙ step-from d (half_of b) c cs ∙ ap (λ m. led m cs) (plain-pair d b c cs none) ∙ sym (step-from d Neither c cs)

bracket-longer : (b : ℕ) (bs rest : List ℕ) → BeginsBracket (b ∷ bs) → BeginsBracket (b ∷ bs ++ rest)
bracket-longer b bs rest (x, inl e) = (x ++ rest, inl (ap (λ l. l ++ rest) e))
bracket-longer b bs rest (x, inr e) = (x ++ rest, inr (ap (λ l. l ++ rest) e))

bracket-same : (b c : ℕ) (xs ys : List ℕ) → BeginsBracket (b ∷ c ∷ xs) → BeginsBracket (b ∷ c ∷ ys)
bracket-same b c xs ys (x, inl e) = (ys, inl (let p : b ≡ 40 = cc in let q : c ≡ 42 = cc in rw (p, q) refl))
bracket-same b c xs ys (x, inr e) = (ys, inr (let p : b ≡ 42 = cc in let q : c ≡ 41 = cc in rw (p, q) refl))

take_all : (bs : List ℕ) → take (length bs) bs ≡ bs
take_all [] = refl
take_all (b ∷ bs) = ap (λ l. b ∷ l) (take_all bs)

-- what closes a comment is not empty
abbrev First : List ℕ → Type 0
First s = (b : ℕ) × (bs : List ℕ) × (s ≡ b ∷ bs)

first : (s : List ℕ) → IsInside s → First s
first s Closes = (42, 41 ∷ [], refl)
first s (Nests a b x y) = (40, 42 ∷ a ++ b, refl)
first s (Other b rest none inside) = (b, rest, refl)

skips-inside : (d b : ℕ) (r rest : List ℕ) → (BeginsBracket (b ∷ r) → ⊥) → First r → from d Neither (b ∷ r ++ rest) ≡ from d Neither (r ++ rest)
skips-inside d b r rest none f = rw f.2 (skips d b f.0 (f.1 ++ rest) (λ h. none (rw f.2 (bracket-same b f.0 (f.1 ++ rest) f.1 h))))

-- what closes a comment leads the machine one level up
pub inside-from : (a : List ℕ) → IsInside a → (d : ℕ) (rest : List ℕ) → 0 < d → from d Neither (a ++ rest) ≡ closed d rest
inside-from a Closes d rest pos = step-from d Neither 42 (41 ∷ rest) ∙ step-from d Star 41 rest ∙ closes d rest
inside-from a (Nests x y p q) d rest pos =
    let e : from d Neither ((40 ∷ 42 ∷ x ++ y) ++ rest) ≡ from (d + 1) Neither (x ++ (y ++ rest)) = step-from d Neither 40 (42 ∷ (x ++ y) ++ rest) ∙ step-from d Round 42 ((x ++ y) ++ rest) ∙ ap (λ l. from (d + 1) Neither l) (append_assoc x y rest) in
    e ∙ inside-from x p (d + 1) (y ++ rest) (omega arith) ∙ deeper d (y ++ rest) pos ∙ inside-from y q d rest pos
inside-from a (Other b r none p) d rest pos = skips-inside d b r rest none (first r p) ∙ inside-from r p d rest pos

-- comments to close, one after another
abbrev pub ClosesAll : ℕ → List ℕ → Type 0
ClosesAll zero bs = bs ≡ []
ClosesAll (suc d) bs = (a : List ℕ) × (b : List ℕ) × (bs ≡ a ++ b) × IsInside a × ClosesAll d b

other-closes : (d b : ℕ) (bs : List ℕ) → 0 < d → (BeginsBracket (b ∷ bs) → ⊥) → ClosesAll d bs → ClosesAll d (b ∷ bs)
other-closes zero b bs pos none c = absurd (omega arith)
other-closes (suc d) b bs pos none (x, r, e, p, more) = (b ∷ x, r, ap (λ l. b ∷ l) e, Other b x (λ h. none (rw e (bracket-longer b x r h))) p, more)

nests-closes : (d : ℕ) (bs : List ℕ) → 0 < d → ClosesAll (d + 1) bs → ClosesAll d (40 ∷ 42 ∷ bs)
nests-closes zero bs pos c = absurd (omega arith)
nests-closes (suc d) bs pos c = go (rw add-one at c) where
  go : ClosesAll (suc (suc d)) bs → ClosesAll (suc d) (40 ∷ 42 ∷ bs)
  go (x, r, e, p, (y, r', e', q, more)) = (40 ∷ 42 ∷ x ++ y, r', ap (λ l. 40 ∷ 42 ∷ l) (e ∙ rw e' (sym (append_assoc x y r'))), Nests x y p q, more)

-- the byte that may be half of a bracket
abbrev half_bytes : Half → List ℕ
half_bytes Neither = []
half_bytes Round = 40 ∷ []
half_bytes Star = 42 ∷ []

no-bracket : (b c : ℕ) (cs : List ℕ) → (b ≡ 40 → c ≡ 42 → ⊥) → (b ≡ 42 → c ≡ 41 → ⊥) → BeginsBracket (b ∷ c ∷ cs) → ⊥
no-bracket b c cs r s (x, inl e) = (let p : b ≡ 40 = cc in let q : c ≡ 42 = cc in r p q)
no-bracket b c cs r s (x, inr e) = (let p : b ≡ 42 = cc in let q : c ≡ 41 = cc in s p q)

no-half : (b : ℕ) (cs : List ℕ) → (b ≡ 40 → ⊥) → (b ≡ 42 → ⊥) → BeginsBracket (b ∷ cs) → ⊥
no-half b cs r s (x, inl e) = (let p : b ≡ 40 = cc in r p)
no-half b cs r s (x, inr e) = (let p : b ≡ 42 = cc in s p)

plain-closes : (d c : ℕ) (cs : List ℕ) → 0 < d → ClosesAll d (half_bytes (half_of c) ++ cs) → ClosesAll d (c ∷ cs)
plain-closes d c cs pos = elim (c == 40) as (λ v. (c == 40) ≡ v → ClosesAll d (half_bytes (if v then Round else if c == 42 then Star else Neither) ++ cs) → ClosesAll d (c ∷ cs)) [
  | true ↦ λ e h. rw (is-eq c 40 e) h
  | false ↦ λ n. elim (c == 42) as (λ v. (c == 42) ≡ v → ClosesAll d (half_bytes (if v then Star else Neither) ++ cs) → ClosesAll d (c ∷ cs)) [
    | true ↦ λ e h. rw (is-eq c 42 e) h
    | false ↦ λ m h. other-closes d c cs pos (no-half c cs (λ w. absurd (let t = eq-is c 40 w in cc (t, n))) (λ w. absurd (let t = eq-is c 42 w in cc (t, m)))) h
  ] refl
] refl

ends-nothing : (p q : Piece) (cs : List ℕ) → ends p cs ≡ Some q → cs ≡ []
ends-nothing p q [] e = refl
ends-nothing p q (c ∷ cs) e = absurd cc

last-closes : (d : ℕ) (cs : List ℕ) → 0 < d → nat_le d 1 ≡ true → cs ≡ [] → ClosesAll d (42 ∷ 41 ∷ cs)
last-closes d cs pos one e = let is : d ≡ 1 = grind (arith, nat_tests) in rw (is, e) (42 ∷ 41 ∷ [], [], refl, Closes, refl)

more-closes : (d : ℕ) (cs : List ℕ) → 0 < d → ClosesAll (d - 1) cs → ClosesAll d (42 ∷ 41 ∷ cs)
more-closes zero cs pos c = absurd (omega arith)
more-closes (suc d) cs pos c = let e : suc d - 1 ≡ d = omega arith in (42 ∷ 41 ∷ [], cs, refl, Closes, rw e at c)

-- where the machine finishes a comment, its bytes close all that is open
pub closes-all : (bs : List ℕ) (d : ℕ) (h : Half) → 0 < d → from d h bs ≡ Some piece.Comment → ClosesAll d (half_bytes h ++ bs)
closes-all [] d h pos e = absurd cc
closes-all (c ∷ cs) d Neither pos e = plain-closes d c cs pos (closes-all cs d (half_of c) pos (sym (step-from d Neither c cs) ∙ e))
closes-all (c ∷ cs) d Round pos e = elim (c == 42) as (λ v. (c == 42) ≡ v → led (if v then On (at (d + 1) Neither) else On (at d (half_of c))) cs ≡ Some piece.Comment → ClosesAll d (40 ∷ c ∷ cs)) [
  | true ↦ λ is h. rw (is-eq c 42 is) (nests-closes d cs pos (closes-all cs (d + 1) Neither (omega arith) h))
  | false ↦ λ no h. other-closes d 40 (c ∷ cs) pos (no-bracket 40 c cs (λ _ w. absurd (let t = eq-is c 42 w in cc (t, no))) (λ w _. absurd (omega arith))) (plain-closes d c cs pos (closes-all cs d (half_of c) pos h))
] refl (sym (step-from d Round c cs) ∙ e)
closes-all (c ∷ cs) d Star pos e = elim (c == 41) as (λ v. (c == 41) ≡ v → led (if v then (if nat_le d 1 then Done piece.Comment else On (at (d - 1) Neither)) else On (at d (half_of c))) cs ≡ Some piece.Comment → ClosesAll d (42 ∷ c ∷ cs)) [
  | true ↦ λ is. elim (nat_le d 1) as (λ v. nat_le d 1 ≡ v → led (if v then Done piece.Comment else On (at (d - 1) Neither)) cs ≡ Some piece.Comment → ClosesAll d (42 ∷ c ∷ cs)) [
    | true ↦ λ one h. rw (is-eq c 41 is) (last-closes d cs pos one (ends-nothing piece.Comment piece.Comment cs h))
    | false ↦ λ many h. rw (is-eq c 41 is) (more-closes d cs pos (closes-all cs (d - 1) Neither (let lt : 1 < d = grind (arith, nat_tests) in omega arith) h))
  ] refl
  | false ↦ λ no h. other-closes d 42 (c ∷ cs) pos (no-bracket 42 c cs (λ w _. absurd (omega arith)) (λ _ w. absurd (let t = eq-is c 41 w in cc (t, no)))) (plain-closes d c cs pos (closes-all cs d (half_of c) pos h))
] refl (sym (step-from d Star c cs) ∙ e)

-- what the machine can say: a comment, or one that nothing closes
abbrev Says : Piece → Type 0
Says p = (p ≡ piece.Comment) ⊎ (p ≡ piece.Faulty OpenComment 0)

abbrev MovesOn : Move Depth → Type 0
MovesOn (On s) = Unit {0}
MovesOn (Done p) = p ≡ piece.Comment
MovesOn Dead = ⊥

moves-on : (d : ℕ) (h : Half) (c : ℕ) → MovesOn (comment_step (at d h) c)
moves-on d Neither c = tt
moves-on d Round c = elim (c == 42) as (λ v. MovesOn (if v then On (at (d + 1) Neither) else On (at d (half_of c)))) [
  | true ↦ tt
  | false ↦ tt
]
moves-on d Star c = elim (c == 41) as (λ v. MovesOn (if v then (if nat_le d 1 then Done piece.Comment else On (at (d - 1) Neither)) else On (at d (half_of c)))) [
  | true ↦ elim (nat_le d 1) as (λ v. MovesOn (if v then Done piece.Comment else On (at (d - 1) Neither))) [
    | true ↦ refl
    | false ↦ tt
  ]
  | false ↦ tt
]

after-move : (m : Move Depth) (cs : List ℕ) (p : Piece) → MovesOn m → ((s : Depth) → whole_from comment_stop comment_step s cs ≡ Some p → Says p) → led m cs ≡ Some p → Says p
after-move (On s) cs p on more e = more s e
after-move (Done q) [] p on more e = inl (let z : q ≡ p = cc e in sym z ∙ on)
after-move (Done q) (c ∷ cs) p on more e = absurd cc
after-move Dead cs p on more e = absurd cc

pub says : (bs : List ℕ) (s : Depth) (p : Piece) → whole_from comment_stop comment_step s bs ≡ Some p → Says p
says [] s p e = inr (let z : piece.Faulty OpenComment 0 ≡ p = cc e in sym z)
says (c ∷ cs) s p e = after-move (comment_step s c) cs p (moves-on s.depth s.half c) (λ t. says cs t p) (sym (step-from s.depth s.half c cs) ∙ e)

-- where the machine finds more than a comment, a front is one
abbrev Front : Depth → List ℕ → Type 0
Front s bs = (m : ℕ) × (m ≤ length bs) × (whole_from comment_stop comment_step s (take m bs) ≡ Some piece.Comment)

front-after : (s : Depth) (c : ℕ) (m : Move Depth) (cs : List ℕ) → comment_step s c ≡ m → MovesOn m → ((t : Depth) → whole_from comment_stop comment_step t cs ≡ None → Front t cs) → led m cs ≡ None → Front s (c ∷ cs)
front-after s c (On t) cs is on more e = let f = more t e in (suc f.0, (let le = f.1 in omega arith), step-from s.depth s.half c (take f.0 cs) ∙ ap (λ m. led m (take f.0 cs)) is ∙ f.2)
front-after s c (Done p) [] is on more e = absurd cc
front-after s c (Done p) (x ∷ xs) is on more e = (1, omega arith, step-from s.depth s.half c [] ∙ ap (λ m. led m []) is ∙ ap (λ q. Some q) on)
front-after s c Dead cs is on more e = absurd on

pub front-closed : (bs : List ℕ) (s : Depth) → whole_from comment_stop comment_step s bs ≡ None → Front s bs
front-closed [] s e = absurd cc
front-closed (c ∷ cs) s e = front-after s c (comment_step s c) cs refl (moves-on s.depth s.half c) (λ t. front-closed cs t) (sym (step-from s.depth s.half c cs) ∙ e)

only-inside : (bs : List ℕ) → ClosesAll 1 bs → IsInside bs
only-inside bs (a, b, e, is, none) = let same : bs ≡ a = e ∙ rw none (append-nil a) in rw same is

-- comments, whole
pub comment-inside : (bs : List ℕ) → comment_inside bs ≡ Some piece.Comment → IsInside bs
comment-inside bs e = only-inside bs (closes-all bs 1 Neither (omega arith) e)

inside-more : (inside rest : List ℕ) → IsInside inside → comment_inside (inside ++ rest) ≡ ends piece.Comment rest
inside-more inside rest is = inside-from inside is 1 rest (omega arith)

pub inside-whole : (inside : List ℕ) → IsInside inside → comment_inside inside ≡ Some piece.Comment
inside-whole inside is = ap (λ l. comment_inside l) (sym (append-nil inside)) ∙ inside-more inside [] is

not-open : (inside rest : List ℕ) → IsInside inside → comment_inside (inside ++ rest) ≡ Some (piece.Faulty OpenComment 0) → ⊥
not-open inside rest is e = go rest (sym (inside-more inside rest is) ∙ e) where
  go : (rest : List ℕ) → ends piece.Comment rest ≡ Some (piece.Faulty OpenComment 0) → ⊥
  go [] e = cc
  go (c ∷ cs) e = cc

pub no-front : (bs : List ℕ) → comment_inside bs ≡ Some (piece.Faulty OpenComment 0) → (m : ℕ) → IsComment (take m (40 ∷ 42 ∷ bs)) → ⊥
no-front bs e m (inside, is, closed) =
    let all : 40 ∷ 42 ∷ bs ≡ 40 ∷ 42 ∷ inside ++ drop m (40 ∷ 42 ∷ bs) = sym (take-append-drop m (40 ∷ 42 ∷ bs)) ∙ ap (λ l. l ++ drop m (40 ∷ 42 ∷ bs)) is in
    let same : bs ≡ inside ++ drop m (40 ∷ 42 ∷ bs) = cc all in
    not-open inside (drop m (40 ∷ 42 ∷ bs)) closed (ap (λ l. comment_inside l) (sym same) ∙ e)

pub open-inside : (bs : List ℕ) → ((m : ℕ) → m ≤ length (40 ∷ 42 ∷ bs) → IsComment (take m (40 ∷ 42 ∷ bs)) → ⊥) → comment_inside bs ≡ Some (piece.Faulty OpenComment 0)
open-inside bs none = go (comment_inside bs) refl where
  go : (r : Option Piece) → comment_inside bs ≡ r → r ≡ Some (piece.Faulty OpenComment 0)
  go None e = absurd (let f = front-closed bs (at 1 Neither) e in none (suc (suc f.0)) (let le = f.1 in omega arith) (take f.0 bs, refl, comment-inside (take f.0 bs) f.2))
  go (Some p) e = elim (says bs (at 1 Neither) p e) [
    | inl is ↦ absurd (none (suc (suc (length bs))) (omega arith) (bs, ap (λ l. 40 ∷ 42 ∷ l) (take_all bs), comment-inside bs (e ∙ ap (λ q. Some q) is)))
    | inr is ↦ ap (λ q. Some q) is
  ]
