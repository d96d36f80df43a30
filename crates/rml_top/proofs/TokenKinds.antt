-- How a token of the first form is spelled tells which token it is.
use Rattle.std.proofs.Common.{◌≡◌, ℕ, Bool, true, false, ◌&&◌, not, cond, ◌==◌, List, [], ◌∷◌, ◌++◌, length, take, map, Option, Some, None, refl, sym, ap, subst, ◌∙◌}
use Rattle.std.specs.Prelude.{is_none, nat_le}
use Rattle.std.specs.List.{list_all}
use Rattle.std.proofs.lemmas.Bool.{eqb-true}
use Rattle.rml_base.specs.declared.place.Place.{Place}
use Rattle.rml_syntax.specs.declared.token.Key.TheVariants.{KEnd}
use Rattle.rml_lex.specs.declared.character.Read.{Read}
use Rattle.rml_lex.specs.declared.character.Read.TheVariants as read
use Rattle.rml_lex.specs.declared.character.Inside.TheVariants as inside
use Rattle.rml_lex.specs.declared.literal.InText.{InText}
use Rattle.rml_lex.specs.declared.machine.Move.{Move}
use Rattle.rml_lex.specs.declared.machine.Move.TheVariants as move
use Rattle.rml_lex.specs.declared.piece.LexKind.TheVariants.{LongString}
use Rattle.rml_lex.specs.declared.piece.Piece.{Piece}
use Rattle.rml_lex.specs.declared.piece.Piece.TheVariants as piece
use Rattle.rml_lex.specs.Bytes.{is_dash, is_letter, is_name_byte}
use Rattle.rml_lex.specs.Character.{character_step, unescaped}
use Rattle.rml_lex.specs.Literal.{closed_text, stopped, text_moves, text_step, text_stop}
use Rattle.rml_lex.specs.Machine.{ends, whole_from}
use Rattle.rml_lex.specs.Places.{place_after}
use Rattle.rml_lex.specs.Reading.{IsSound, Part, Reaches, Shown, Word, Name, TyVar, Int, Char, Text, Sign, Dashes, marks, tokens_of}
use Rattle.rml_lex.specs.Spelling.{name_piece, named, whole}
use Rattle.rml_lex.specs.Spells.{Spells}
use Rattle.rml_lex.proofs.Callers.{letter-blank, letter-digit, letter-on, spells-whole}
use Rattle.rml_lex.specs.Words.{word_of}
use Rattle.rml_top.specs.FirstForm.{begins, is_dashes, is_literal, is_module_name}
use Rattle.rml_top.specs.Text.{is_blank, is_comment, spellings}
use Rattle.rml_top.proofs.Reading.{guard_some}

-- ---- the token of a spelling

-- the first, and a word that no one asks for where there is none
abbrev pub first_of : List Shown → Shown
first_of [] = Word KEnd
first_of (t ∷ ts) = t

abbrev pub shown_in : List ℕ → Option Piece → Shown
shown_in s None = Word KEnd
shown_in s (Some p) = first_of (tokens_of (s, p))

-- the token that the bytes spell, where they spell one
abbrev pub shown_of : List ℕ → Shown
shown_of s = shown_in s (whole s)

-- the bytes are one piece, which is no fault
pub record IsPiece (s : List ℕ) : Type 0 where
  pub piece : Piece
  pub spelled : whole s ≡ Some piece
  pub sound : IsSound piece

-- ---- literals

stopped-unsound : (s : InText) → IsSound (text_stop s) → ⊥
stopped-unsound s i = elim s.inside as (λ v. IsSound (stopped v s.at) → ⊥) [
  | inside.Between ↦ λ h. h
  | inside.Escape ↦ λ h. h
  | inside.OneDigit v ↦ λ h. h
  | inside.TwoDigits v ↦ λ h. h
] i

closed-only : (n : ℕ) → IsSound (closed_text n) → closed_text n ≡ piece.Text
closed-only n i = elim (nat_le n 65535) as (λ v. IsSound (cond v piece.Text (piece.Faulty LongString 0)) → cond v piece.Text (piece.Faulty LongString 0) ≡ piece.Text) [
  | true ↦ λ h. refl
  | false ↦ λ h. absurd h
] i

done-only : (s : InText) (r : Read) (q : Piece) → text_moves s r ≡ move.Done q → IsSound q → q ≡ piece.Text
done-only s (read.Part next) q e i = absurd cc
done-only s (read.Whole v) q e i = absurd cc
done-only s read.Quote q e i =
    let same : closed_text s.count ≡ q = cc in
    sym same ∙ closed-only s.count (subst (λ (x : Piece). IsSound x) (sym same) i)
done-only s read.Stray q e i = absurd (elim q as (λ x. text_moves s read.Stray ≡ move.Done x → IsSound x → ⊥) [
  | piece.Faulty k at ↦ λ f h. h
  | piece.Blank ↦ λ f h. cc
  | piece.Comment ↦ λ f h. cc
  | piece.Word k ↦ λ f h. cc
  | piece.Name ↦ λ f h. cc
  | piece.TyVar ↦ λ f h. cc
  | piece.Int n ↦ λ f h. cc
  | piece.Char v ↦ λ f h. cc
  | piece.Text ↦ λ f h. cc
  | piece.Dashes ↦ λ f h. cc
  | piece.Sign m ↦ λ f h. cc
] e i)
done-only s read.Cut q e i = absurd cc

ends-is : (q p : Piece) (bs : List ℕ) → ends q bs ≡ Some p → q ≡ p
ends-is q p [] e = cc
ends-is q p (b ∷ bs) e = absurd cc

step-only : (m : Move InText) (bs : List ℕ) (p : Piece) → ((s : InText) → whole_from text_stop text_step s bs ≡ Some p → p ≡ piece.Text) → ((q : Piece) → m ≡ move.Done q → q ≡ p → p ≡ piece.Text)
    → (elim m as (λ _. Option Piece) [ move.On next ↦ whole_from text_stop text_step next bs | move.Done q ↦ ends q bs | move.Dead ↦ None ]) ≡ Some p → p ≡ piece.Text
step-only (move.On next) bs p on done e = on next e
step-only (move.Done q) bs p on done e = done q refl (ends-is q p bs e)
step-only move.Dead bs p on done e = absurd cc

text-only : (bs : List ℕ) (s : InText) (p : Piece) → whole_from text_stop text_step s bs ≡ Some p → IsSound p → p ≡ piece.Text
text-only [] s p e i = let same : text_stop s ≡ p = cc in absurd (stopped-unsound s (subst (λ (x : Piece). IsSound x) (sym same) i))
text-only (b ∷ bs) s p e i =
    step-only (text_step s b) bs p (λ t f. text-only bs t p f i)
    (λ q f g. sym g ∙ done-only s (character_step s.inside b) q f (subst (λ (x : Piece). IsSound x) (sym g) i)) e

literal-piece : (s : List ℕ) (p : Piece) → is_literal s ≡ true → whole s ≡ Some p → IsSound p → p ≡ piece.Text
literal-piece [] p e w i = absurd cc
literal-piece (b ∷ bs) p e w i =
    let is : b ≡ 34 = eqb-true b 34 e in
    text-only bs (record { at = 1; count = 0; inside = inside.Between }) p (subst (λ (x : ℕ). whole (x ∷ bs) ≡ Some p) is w) i

pub literal-shown : (s : List ℕ) → is_literal s ≡ true → IsPiece s → shown_of s ≡ Text (unescaped s)
literal-shown s e h = ap (shown_in s) (h.spelled ∙ ap Some (literal-piece s h.piece e h.spelled h.sound))

-- ---- names

and-both : (a b : Bool) → (a && b) ≡ true → (a ≡ true) × (b ≡ true)
and-both true b e = (refl, e)
and-both false b e = absurd cc

none-is : {A : Type 0} (o : Option A) → is_none o ≡ true → o ≡ None
none-is None e = refl
none-is (Some x) e = absurd cc

name-piece : (s : List ℕ) (p : Piece) → begins is_letter s ≡ true → word_of s ≡ None → whole s ≡ Some p → p ≡ piece.Name
name-piece [] p e n w = absurd cc
name-piece (b ∷ bs) p e n w =
    let on = letter-on b bs (letter-digit b e) (letter-blank b e) e in
    let run = guard_some (list_all is_name_byte bs) (Some (name_piece (b ∷ bs))) p (sym on ∙ w) in
    let same : name_piece (b ∷ bs) ≡ p = cc (run.1) in
    sym same ∙ ap named n

pub name-shown : (s : List ℕ) → is_module_name s ≡ true → IsPiece s → shown_of s ≡ Name s
name-shown s e h =
    let cut = and-both _ _ e in
    let fits = and-both _ _ cut.0 in
    ap (shown_in s) (h.spelled ∙ ap Some (name-piece s h.piece fits.0 (none-is (word_of s) fits.1) h.spelled))

-- ---- dashes

dashes-piece : (s : List ℕ) (p : Piece) → is_dashes s ≡ true → whole s ≡ Some p → p ≡ piece.Dashes
dashes-piece [] p e w = absurd cc
dashes-piece (a ∷ []) p e w = absurd (let g = and-both (a == 45) false e in let h = g.1 in cc)
dashes-piece (a ∷ b ∷ bs) p e w =
    let g = and-both (a == 45) (b == 45) e in
    let first : a ≡ 45 = eqb-true a 45 g.0 in
    let second : b ≡ 45 = eqb-true b 45 g.1 in
    let at : whole (45 ∷ 45 ∷ bs) ≡ Some p = subst (λ (x : ℕ). whole (45 ∷ x ∷ bs) ≡ Some p) second (subst (λ (x : ℕ). whole (x ∷ b ∷ bs) ≡ Some p) first w) in
    let run = guard_some (list_all is_dash bs) (Some piece.Dashes) p at in
    let same : piece.Dashes ≡ p = cc (run.1) in
    sym same

pub dashes-shown : (s : List ℕ) → is_dashes s ≡ true → IsPiece s → shown_of s ≡ Dashes (length s)
dashes-shown s e h = ap (shown_in s) (h.spelled ∙ ap Some (dashes-piece s h.piece e h.spelled))

-- ---- the tokens of pieces

abbrev pub shown_tokens : List (Place × Shown) → List Shown
shown_tokens spots = map (λ s. s.1) spots

same-cons : (a b : Shown) (xs ys : List Shown) → a ≡ b → xs ≡ ys → a ∷ xs ≡ b ∷ ys
same-cons a b xs ys e f = cc

one-part : (s : List ℕ) (p : Piece) (at : Place) (rest : List (Place × Shown)) (others : List (List ℕ)) → whole s ≡ Some p → IsSound p → not (is_comment p) ≡ true → shown_tokens rest ≡ map shown_of others
    → shown_tokens (map (λ t. (at, t)) (tokens_of (s, p)) ++ rest) ≡ map shown_of (cond (is_blank p) others (s ∷ others))
one-part s piece.Blank at rest others w i c h = h
one-part s piece.Comment at rest others w i c h = absurd cc
one-part s (piece.Faulty k o) at rest others w i c h = absurd i
one-part s (piece.Word k) at rest others w i c h = same-cons (Word k) (shown_of s) (shown_tokens rest) (map shown_of others) (sym (ap (shown_in s) w)) h
one-part s piece.Name at rest others w i c h = same-cons (Name s) (shown_of s) (shown_tokens rest) (map shown_of others) (sym (ap (shown_in s) w)) h
one-part s piece.TyVar at rest others w i c h = same-cons (TyVar s) (shown_of s) (shown_tokens rest) (map shown_of others) (sym (ap (shown_in s) w)) h
one-part s (piece.Int n) at rest others w i c h = same-cons (Int n) (shown_of s) (shown_tokens rest) (map shown_of others) (sym (ap (shown_in s) w)) h
one-part s (piece.Char v) at rest others w i c h = same-cons (Char v) (shown_of s) (shown_tokens rest) (map shown_of others) (sym (ap (shown_in s) w)) h
one-part s piece.Text at rest others w i c h = same-cons (Text (unescaped s)) (shown_of s) (shown_tokens rest) (map shown_of others) (sym (ap (shown_in s) w)) h
one-part s piece.Dashes at rest others w i c h = same-cons (Dashes (length s)) (shown_of s) (shown_tokens rest) (map shown_of others) (sym (ap (shown_in s) w)) h
one-part s (piece.Sign m) at rest others w i c h = same-cons (Sign m) (shown_of s) (shown_tokens rest) (map shown_of others) (sym (ap (shown_in s) w)) h

take-front : (xs ys : List ℕ) → take (length xs) (xs ++ ys) ≡ xs
take-front [] ys = refl
take-front (x ∷ xs) ys = ap (λ l. x ∷ l) (take-front xs ys)

part-spelled : (s more bytes : List ℕ) (p : Piece) → bytes ≡ s ++ more → Spells (take (length s) bytes) p → whole s ≡ Some p
part-spelled s more bytes p e w = spells-whole s p (subst (λ (x : List ℕ). Spells x p) (ap (take (length s)) e ∙ take-front s more) w)

abbrev pub no_comments : List Part → Bool
no_comments parts = list_all (λ p. not (is_comment p.1)) parts

pub tokens-shown : (parts : List Part) (bytes : List ℕ) (at : Place) → Reaches bytes parts [] → no_comments parts ≡ true → shown_tokens (marks at parts) ≡ map shown_of (spellings parts)
tokens-shown [] bytes at r c = refl
tokens-shown (q ∷ qs) bytes at r c =
    let cut = and-both (not (is_comment q.1)) (no_comments qs) c in
    one-part q.0 q.1 at (marks (place_after at q.0) qs) (spellings qs) (part-spelled q.0 r.0 bytes q.1 r.1 r.3.spelled) r.4 cut.0 (tokens-shown qs r.0 (place_after at q.0) r.5 cut.1)

-- each spelling is a piece
abbrev pub ArePieces : List (List ℕ) → Type 0
ArePieces [] = Unit {0}
ArePieces (s ∷ ss) = IsPiece s × ArePieces ss

pub pieces-behind : (xs ys : List (List ℕ)) → ArePieces (xs ++ ys) → ArePieces ys
pieces-behind [] ys h = h
pieces-behind (x ∷ xs) ys h = pieces-behind xs ys h.1

pub are-pieces : (parts : List Part) (bytes : List ℕ) → Reaches bytes parts [] → ArePieces (spellings parts)
are-pieces [] bytes r = tt
are-pieces (q ∷ qs) bytes r = elim (is_blank q.1) as (λ v. ArePieces (cond v (spellings qs) (q.0 ∷ spellings qs))) [
  | true ↦ are-pieces qs r.0 r.5
  | false ↦ (record { piece = q.1; spelled = part-spelled q.0 r.0 bytes q.1 r.1 r.3.spelled; sound = r.4 }, are-pieces qs r.0 r.5)
]
