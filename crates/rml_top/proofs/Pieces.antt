-- Cutting a text into pieces, none of them a comment.
use Rattle.std.proofs.Common.{◌≡◌, ℕ, zero, suc, ◌<◌, ◌≤◌, Bool, true, false, ◌&&◌, not, cond, ◌==◌, List, [], ◌∷◌, ◌++◌, length, take, drop, refl, sym, ap, subst, ◌∙◌, append-nil, arith, length-append, length-take, take-append-drop}
use Rattle.std.specs.List.{list_all}
use Rattle.rml_lex.specs.Reading.{Part, Reaches, IsSound}
use Rattle.rml_lex.specs.Spells.{BeginsNothing, IsLongest}
use Rattle.rml_lex.proofs.Callers.{longest-pos, no-piece, one-reading, reaches-more, same-length, same-piece, split}
use Rattle.rml_lex.specs.declared.piece.Piece.{Piece}
use Rattle.rml_lex.specs.declared.piece.Piece.TheVariants as piece
use Rattle.rml_top.specs.Text.{is_blank, is_comment, is_refused, spellings, HasTokens}

abbrev pub no_comment : Part → Bool
no_comment p = not (is_comment p.1)

-- what has been read: pieces, none a comment, and their tokens
pub record ReadTo (bytes rest : List ℕ) (tokens : List (List ℕ)) : Type 0 where
  pub parts : List Part
  pub reaches : Reaches bytes parts rest
  pub no_comments : list_all no_comment parts ≡ true
  pub tokens_are : tokens ≡ spellings parts

pub read-nothing : (bytes : List ℕ) → ReadTo bytes bytes []
read-nothing bytes = record { parts = []; reaches = refl; no_comments = refl; tokens_are = refl }

pub read-all : (bytes rest : List ℕ) (tokens : List (List ℕ)) → ReadTo bytes rest tokens → length rest ≡ 0 → HasTokens bytes tokens
read-all bytes [] tokens r e = record { parts = r.parts; reaches = r.reaches; no_comment = r.no_comments; tokens_are = r.tokens_are }
read-all bytes (b ∷ bs) tokens r e = absurd (omega arith)

-- ---- a reading of the whole goes on from where pieces lead

-- the pieces of the whole that come after the first ones
record GoesOn (rest : List ℕ) (wholes : List Part) : Type 0 where
  pub others : List Part
  pub reaches : Reaches rest others []
  pub none : list_all no_comment wholes ≡ true → list_all no_comment others ≡ true

and-snd : (a b : Bool) → (a && b) ≡ true → b ≡ true
and-snd true b e = e
and-snd false b e = absurd cc

and-fst : (a b : Bool) → (a && b) ≡ true → a ≡ true
and-fst true b e = refl
and-fst false b e = absurd cc

goes-on : (ps qs : List Part) (bytes rest : List ℕ) → 0 < length rest → Reaches bytes ps rest → Reaches bytes qs [] → GoesOn rest qs
goes-on [] qs bytes rest pos r s = record { others = qs; reaches = subst (λ (x : List ℕ). Reaches x qs []) r s; none = λ e. e }
goes-on (p ∷ ps) [] bytes rest pos r s = absurd (no-piece p.0 r.0 r.2 (sym s ∙ r.1))
goes-on (p ∷ ps) (q ∷ qs) bytes rest pos r s =
    let n = same-length bytes (length p.0) (length q.0) p.1 q.1 r.3 s.3 in
    let cut = split p.0 q.0 r.0 s.0 n (sym r.1 ∙ s.1) in
    let same : r.0 ≡ s.0 = cut.1 in
    let on = goes-on ps qs r.0 rest pos r.5 (subst (λ (x : List ℕ). Reaches x qs []) (sym same) s.5) in
    record { others = on.others; reaches = on.reaches; none = λ e. on.none (and-snd (no_comment q) (list_all no_comment qs) e) }

unsound : (p : Piece) → is_refused p ≡ true → IsSound p → is_comment p ≡ false → ⊥
unsound piece.Comment r s c = cc
unsound (piece.Faulty k at) r s c = s
unsound piece.Blank r s c = cc
unsound (piece.Word k) r s c = cc
unsound piece.Name r s c = cc
unsound piece.TyVar r s c = cc
unsound (piece.Int i) r s c = cc
unsound (piece.Char v) r s c = cc
unsound piece.Text r s c = cc
unsound piece.Dashes r s c = cc
unsound (piece.Sign m) r s c = cc

sound : (p : Piece) → is_refused p ≡ false → IsSound p × (is_comment p ≡ false)
sound piece.Comment r = absurd cc
sound (piece.Faulty k at) r = absurd cc
sound piece.Blank r = (tt, refl)
sound (piece.Word k) r = (tt, refl)
sound piece.Name r = (tt, refl)
sound piece.TyVar r = (tt, refl)
sound (piece.Int i) r = (tt, refl)
sound (piece.Char v) r = (tt, refl)
sound piece.Text r = (tt, refl)
sound piece.Dashes r = (tt, refl)
sound (piece.Sign m) r = (tt, refl)

pub nonempty : (n : ℕ) → false ≡ (n == 0) → 0 < n
nonempty zero e = absurd cc
nonempty (suc n) e = omega arith

not-true : (b : Bool) → not b ≡ true → b ≡ false
not-true true e = absurd cc
not-true false e = refl

refused-here : (others : List Part) (rest : List ℕ) (n : ℕ) (p : Piece) → 0 < length rest → Reaches rest others [] → list_all no_comment others ≡ true → IsLongest rest n p → is_refused p ≡ true → ⊥
refused-here [] rest n p pos r c l f = let e = ap length r in omega arith
refused-here (q ∷ qs) rest n p pos r c l f =
    let same : q.1 ≡ p = same-piece rest (length q.0) n q.1 p r.3 l in
    let none : is_comment q.1 ≡ false = not-true (is_comment q.1) (and-fst (no_comment q) (list_all no_comment qs) c) in
    unsound q.1 (subst (λ (x : Piece). is_refused x ≡ true) (sym same) f) r.4 none

stuck-here : (others : List Part) (rest : List ℕ) → 0 < length rest → Reaches rest others [] → BeginsNothing rest → ⊥
stuck-here [] rest pos r f = let e = ap length r in omega arith
stuck-here (q ∷ qs) rest pos r f = f (length q.0) q.1 r.3.within r.3.spelled

pub no-tokens : (bytes rest : List ℕ) (tokens : List (List ℕ)) (n : ℕ) (p : Piece) → ReadTo bytes rest tokens → 0 < length rest → IsLongest rest n p → is_refused p ≡ true → (others : List (List ℕ)) → HasTokens bytes others → ⊥
no-tokens bytes rest tokens n p r pos l f others h =
    let on = goes-on r.parts h.parts bytes rest pos r.reaches h.reaches in
    refused-here on.others rest n p pos on.reaches (on.none h.no_comment) l f

pub no-piece-there : (bytes rest : List ℕ) (tokens : List (List ℕ)) → ReadTo bytes rest tokens → 0 < length rest → BeginsNothing rest → (others : List (List ℕ)) → HasTokens bytes others → ⊥
no-piece-there bytes rest tokens r pos f others h =
    let on = goes-on r.parts h.parts bytes rest pos r.reaches h.reaches in
    stuck-here on.others rest pos on.reaches f

-- ---- one piece more

shorter : (ps : List Part) (bytes rest : List ℕ) → Reaches bytes ps rest → length rest ≤ length bytes
shorter [] bytes rest r = let e = ap length r in omega arith
shorter (p ∷ ps) bytes rest r = let h = shorter ps r.0 rest r.5 in omega (arith, ap length r.1, length-append p.0 r.0)

pub rest-shorter : (bytes rest : List ℕ) (tokens : List (List ℕ)) → ReadTo bytes rest tokens → length rest ≤ length bytes
rest-shorter bytes rest tokens r = shorter r.parts bytes rest r.reaches

all-more : (ps : List Part) (q : Part) → list_all no_comment ps ≡ true → no_comment q ≡ true → list_all no_comment (ps ++ q ∷ []) ≡ true
all-more [] q e f = rw f refl
all-more (p ∷ ps) q e f =
    let head = and-fst (no_comment p) (list_all no_comment ps) e in
    let tail = all-more ps q (and-snd (no_comment p) (list_all no_comment ps) e) f in
    rw (head, tail) refl

abbrev tokens_in : Part → List (List ℕ)
tokens_in q = cond (is_blank q.1) [] (q.0 ∷ [])

spellings-more : (ps : List Part) (q : Part) → spellings (ps ++ q ∷ []) ≡ spellings ps ++ tokens_in q
spellings-more [] q = elim (is_blank q.1) as (λ v. cond v [] (q.0 ∷ []) ≡ cond v [] (q.0 ∷ [])) [ true ↦ refl | false ↦ refl ]
spellings-more (p ∷ ps) q = elim (is_blank p.1) as (λ v. cond v (spellings (ps ++ q ∷ [])) (p.0 ∷ spellings (ps ++ q ∷ [])) ≡ (cond v (spellings ps) (p.0 ∷ spellings ps)) ++ tokens_in q) [
  | true ↦ spellings-more ps q
  | false ↦ ap (λ (x : List (List ℕ)). p.0 ∷ x) (spellings-more ps q)
]

-- the front of the rest is a piece that a text of the first form may have
pub read-more : (bytes rest : List ℕ) (tokens : List (List ℕ)) (n : ℕ) (p : Piece) → ReadTo bytes rest tokens → IsLongest rest n p → is_refused p ≡ false
    → ReadTo bytes (drop n rest) (tokens ++ tokens_in (take n rest, p))
read-more bytes rest tokens n p r l f =
    let s = sound p f in
    let within = l.within in
    let len : length (take n rest) ≡ n = omega (arith, length-take n rest) in
    let pos = longest-pos rest n p l in
    record {
      parts = r.parts ++ (take n rest, p) ∷ [];
      reaches = reaches-more bytes r.parts rest (take n rest, p) (drop n rest) r.reaches (sym (take-append-drop n rest)) (omega arith) (subst (λ (m : ℕ). IsLongest rest m p) (sym len) l) s.0;
      no_comments = all-more r.parts (take n rest, p) r.no_comments (rw (s.1) refl);
      tokens_are = ap (λ (x : List (List ℕ)). x ++ tokens_in (take n rest, p)) r.tokens_are ∙ sym (spellings-more r.parts (take n rest, p));
    }

pub read-blank : (bytes rest : List ℕ) (tokens : List (List ℕ)) (n : ℕ) (p : Piece) → ReadTo bytes rest tokens → IsLongest rest n p → is_refused p ≡ false → is_blank p ≡ true → ReadTo bytes (drop n rest) tokens
read-blank bytes rest tokens n p r l f b =
    subst (λ (x : List (List ℕ)). ReadTo bytes (drop n rest) x) (ap (λ (v : Bool). tokens ++ cond v [] (take n rest ∷ [])) b ∙ append-nil tokens) (read-more bytes rest tokens n p r l f)

pub read-token : (bytes rest : List ℕ) (tokens : List (List ℕ)) (n : ℕ) (p : Piece) → ReadTo bytes rest tokens → IsLongest rest n p → is_refused p ≡ false → is_blank p ≡ false → ReadTo bytes (drop n rest) (tokens ++ take n rest ∷ [])
read-token bytes rest tokens n p r l f b =
    subst (λ (x : List (List ℕ)). ReadTo bytes (drop n rest) x) (ap (λ (v : Bool). tokens ++ cond v [] (take n rest ∷ [])) b) (read-more bytes rest tokens n p r l f)

-- ---- a text has one list of tokens

pub same-tokens : (bytes : List ℕ) (a b : List (List ℕ)) → HasTokens bytes a → HasTokens bytes b → a ≡ b
same-tokens bytes a b h k = h.tokens_are ∙ ap spellings (one-reading h.parts k.parts bytes h.reaches k.reaches) ∙ sym k.tokens_are
