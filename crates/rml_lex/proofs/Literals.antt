-- Texts and chars in words of their own, and the machines that read them.
use Rattle.std.proofs.Common.{◌≡◌, ℕ, ◌+◌, ◌-◌, ◌*◌, ◌<◌, ◌≤◌, Bool, true, false, List, [], ◌∷◌, ◌++◌, length, refl, sym, ap, ◌∙◌, arith, Option, Some, None, append_assoc, append-nil, length-append, ◌⊎◌, inl, inr}
use Rattle.std.specs.Prelude.{◌==◌, nat_le, if◌then◌else◌}
use Rattle.std.proofs.lemmas.Bool.Decides.{nat_tests}
use Rattle.rml_lex.specs.declared.piece.LexKind.TheVariants.{OpenString, BadEscape, BadByte, LongString}
use Rattle.rml_lex.specs.declared.piece.Piece.{Piece}
use Rattle.rml_lex.specs.declared.piece.Piece.TheVariants as piece
use Rattle.rml_lex.specs.declared.character.Read.TheVariants.{Part, Whole, Quote, Stray, Cut}
use Rattle.rml_lex.specs.declared.character.Inside.{Inside}
use Rattle.rml_lex.specs.declared.character.Inside.TheVariants.{Between, Escape, OneDigit, TwoDigits}
use Rattle.rml_lex.specs.declared.literal.InText.{InText}
use Rattle.rml_lex.specs.declared.literal.InChar.{InChar}
use Rattle.rml_lex.specs.declared.character.Read.{Read}
use Rattle.rml_lex.specs.declared.machine.Move.{Move}
use Rattle.rml_lex.specs.declared.machine.Move.TheVariants.{On, Done, Dead}
use Rattle.rml_lex.specs.Bytes.{is_digit, is_plain}
use Rattle.rml_lex.specs.Character.{character_step, read_of}
use Rattle.rml_lex.specs.Literal.{stopped, closed_text, text_moves, text_step, text_stop, text_inside, closed_char, char_moves, char_step, char_stop, char_inside}
use Rattle.rml_lex.specs.Machine.{ends, whole_from}
use Rattle.rml_lex.specs.Spelling.{whole}
use Rattle.rml_lex.specs.declared.piece.LexKind.{LexKind}
use Rattle.rml_lex.specs.Spells.{IsCharacter, AreCharacters, Nothing, Then, IsStray, IsCutEscape, IsText, OpensTo, InText as OpensText, InChar as OpensChar, Spells}
use Rattle.rml_lex.proofs.Comments.{not-eq}
use Rattle.rml_lex.proofs.Characters.{and-left, and-right, parted, two-ways, Half, Tail, Ends, Quoted, Line, Strays, CutShort, CutOff, by_read, half_read, character_read}
use Rattle.rml_lex.proofs.Moves.{moved}

-- What the end of whole characters is, for either kind of literal.
stray-read : (b : ℕ) → IsStray b → character_step Between b ≡ Stray
stray-read b s = let q = not-eq b 34 s.no_quote in let e = not-eq b 92 s.no_escape in let l = not-eq b 10 s.no_line_end in go (b == 34) (b == 92) (is_plain b) (b == 10) q e s.no_character l where
  go : (q s p l : Bool) → q ≡ false → s ≡ false → p ≡ false → l ≡ false → (if q then Quote else if s then Part Escape else if p then Whole b else if l then Cut else Stray) ≡ Stray
  go q s p l e f g h = rw (e, f, g, h) refl

pub ends-only : (p q : Piece) (bs : List ℕ) → ends p bs ≡ Some q → (bs ≡ []) × (q ≡ p)
ends-only p q [] e = (refl, cc)
ends-only p q (b ∷ bs) e = absurd cc

half-of-cut : (cut : List ℕ) → IsCutEscape cut → (i : Inside) × Half i cut × (i ≡ Between → ⊥)
half-of-cut cut ([], e, le, ds) = (Escape, e, λ x. cc)
half-of-cut cut (a ∷ [], e, le, ds) = (OneDigit (a - 48), (a, e, and-left (is_digit a) true ds, refl), λ x. cc)
half-of-cut cut (a ∷ b ∷ [], e, le, ds) = (TwoDigits (10 * (a - 48) + (b - 48)), (a, b, e, and-left (is_digit a) _ ds, and-left (is_digit b) true (and-right (is_digit a) _ ds), refl), λ x. cc)
half-of-cut cut (a ∷ b ∷ c ∷ ds, e, le, all) = absurd (omega arith)

cut-of-half : (i : Inside) (cut : List ℕ) → Half i cut → (i ≡ Between → ⊥) → IsCutEscape cut
cut-of-half Between cut h ne = absurd (ne refl)
cut-of-half Escape cut h ne = ([], h, omega arith, refl)
cut-of-half (OneDigit v) cut (a, e, d, ev) ne = (a ∷ [], e, omega arith, (rw d refl))
cut-of-half (TwoDigits v) cut (a, b, e, d, d', ev) ne = (a ∷ b ∷ [], e, omega arith, (rw (d, d') refl))

stopped-within : (i : Inside) (at : ℕ) → (i ≡ Between → ⊥) → stopped i at ≡ piece.Faulty BadEscape at
stopped-within Between at ne = absurd (ne refl)
stopped-within Escape at ne = refl
stopped-within (OneDigit v) at ne = refl
stopped-within (TwoDigits v) at ne = refl

-- what is left of a literal behind its whole characters, where it is not closed by a quote and more
pub data EndsAs (at : ℕ) (tail : List ℕ) (p : Piece) : Type 0 where
  Open : tail ≡ [] → p ≡ piece.Faulty OpenString 0 → EndsAs at tail p
  CutAt : IsCutEscape tail → p ≡ piece.Faulty BadEscape at → EndsAs at tail p
  StrayAt : (b : ℕ) → tail ≡ b ∷ [] → IsStray b → p ≡ piece.Faulty BadByte at → EndsAs at tail p

module _ {S : Type 0} (stop : S → Piece) (step : S → ℕ → Move S) (state : Inside → S) (moves : Inside → Read → Move S)
    (steps : (i : Inside) (b : ℕ) → step (state i) b ≡ moves i (character_step i b)) (parts : (i j : Inside) → moves i (Part j) ≡ On (state j))
    (at : ℕ) (stops : (i : Inside) → stop (state i) ≡ stopped i at) (strays : moves Between Stray ≡ Done (piece.Faulty BadByte at)) (cuts : (i : Inside) → moves i Cut ≡ Dead) where
  from_between : List ℕ → Option Piece
  from_between bs = whole_from stop step (state Between) bs

  pub end_open : whole_from stop step (state Between) [] ≡ Some (piece.Faulty OpenString 0)
  end_open = ap (λ p. Some p) (stops Between)

  short : (i : Inside) (cut : List ℕ) → Half i cut → whole_from stop step (state Between) cut ≡ Some (stopped i at)
  short i cut h = ap (λ l. whole_from stop step (state Between) l) (sym (append-nil cut)) ∙ half_read stop step state moves steps parts i cut [] h ∙ ap (λ p. Some p) (stops i)

  pub end_cut : (cut : List ℕ) → IsCutEscape cut → whole_from stop step (state Between) cut ≡ Some (piece.Faulty BadEscape at)
  end_cut cut is = let h = half-of-cut cut is in short h.0 cut h.1 ∙ ap (λ p. Some p) (stopped-within h.0 at h.2)

  stray-first : (b : ℕ) (more : List ℕ) → IsStray b → whole_from stop step (state Between) (b ∷ more) ≡ ends (piece.Faulty BadByte at) more
  stray-first b more is = by_read stop step state moves steps parts Between b more Stray (stray-read b is) ∙ ap (λ m. moved stop step m more) strays

  pub end_stray : (b : ℕ) → IsStray b → whole_from stop step (state Between) (b ∷ []) ≡ Some (piece.Faulty BadByte at)
  end_stray b is = stray-first b [] is

  cut-first : (i : Inside) (cut : List ℕ) (b : ℕ) (more : List ℕ) → Half i cut → character_step i b ≡ Cut → whole_from stop step (state Between) (cut ++ b ∷ more) ≡ None
  cut-first i cut b more h e = half_read stop step state moves steps parts i cut (b ∷ more) h ∙ by_read stop step state moves steps parts i b more Cut e ∙ ap (λ m. moved stop step m more) (cuts i)

  -- a quote closes the literal, or it ends as it does
  pub ended : (tail : List ℕ) (p : Piece) → Tail tail → whole_from stop step (state Between) tail ≡ Some p
      → ((more : List ℕ) × (tail ≡ 34 ∷ more) × (moved stop step (moves Between Quote) more ≡ Some p)) ⊎ EndsAs at tail p
  ended tail p (Ends e) w = inr (Open e (let z : Some (piece.Faulty OpenString 0) ≡ Some p = sym end_open ∙ (rw e at w) in cc z))
  ended tail p (Quoted more e) w = inl (more, e, sym (by_read stop step state moves steps parts Between 34 more Quote refl) ∙ (rw e at w))
  ended tail p (Line more e) w = absurd (let z : None ≡ Some p = sym (cut-first Between [] 10 more refl refl) ∙ (rw e at w) in cc z)
  ended tail p (Strays b more e is) w = let z = ends-only (piece.Faulty BadByte at) p more (sym (stray-first b more is) ∙ (rw e at w)) in inr (StrayAt b (rw e (ap (λ l. b ∷ l) z.0)) is z.1)
  ended tail p (CutShort i h ne) w = inr (CutAt (cut-of-half i tail h ne) (let z : Some (stopped i at) ≡ Some p = sym (short i tail h) ∙ w in let y : p ≡ stopped i at = cc z in y ∙ stopped-within i at ne))
  ended tail p (CutOff i cut b more e h d) w = absurd (let z : None ≡ Some p = sym (cut-first i cut b more h d) ∙ (rw e at w) in cc z)

-- the sentence that such an end makes true
pub ended-spells : (opening values tail : List ℕ) (at : ℕ) (p : Piece) → OpensTo opening values → at ≡ length opening → EndsAs at tail p → Spells (opening ++ tail) p
ended-spells opening values tail at p opens is (Open e ep) = rw (ep, e, append-nil) (values, opens, refl)
ended-spells opening values tail at p opens is (CutAt cut ep) = rw ep (inl (opening, values, tail, refl, opens, cut, is))
ended-spells opening values tail at p opens is (StrayAt b e s ep) = rw (ep, e) (opening, values, b, refl, opens, s, is)

-- texts
abbrev text_state : ℕ → ℕ → Inside → InText
text_state at n i = record { at = at; count = n; inside = i }

abbrev text_from : ℕ → ℕ → List ℕ → Option Piece
text_from at n bs = whole_from text_stop text_step (text_state at n Between) bs

same-text : (at n at' n' : ℕ) (rest : List ℕ) → at ≡ at' → n ≡ n' → text_from at n rest ≡ text_from at' n' rest
same-text at n at' n' rest e f = rw (e, f) refl

text-character : (at n : ℕ) (c : List ℕ) (v : ℕ) (rest : List ℕ) → IsCharacter c v → text_from at n (c ++ rest) ≡ text_from (at + length c) (n + 1) rest
text-character at n c v rest is =
    let l = character_read text_stop text_step (text_state at n) (λ i r. text_moves (text_state at n i) r) (λ i b. refl) (λ i j. refl) c v rest is in
    let size = l.size in
    l.same ∙ same-text (at + read_of l.last + 1) (n + 1) (at + length c) (n + 1) rest (omega arith) refl

text-characters : (at n : ℕ) (cs vs rest : List ℕ) → AreCharacters cs vs → text_from at n (cs ++ rest) ≡ text_from (at + length cs) (n + length vs) rest
text-characters at n cs vs rest Nothing = same-text at n (at + 0) (n + 0) rest (omega arith) (omega arith)
text-characters at n cs vs rest (Then c v cs' vs' is are) =
    ap (λ l. text_from at n l) (append_assoc c cs' rest) ∙ text-character at n c v (cs' ++ rest) is ∙ text-characters (at + length c) (n + 1) cs' vs' rest are
    ∙ same-text (at + length c + length cs') (n + 1 + length vs') (at + length (c ++ cs')) (n + length (v ∷ vs')) rest (omega (arith, length-append c cs')) (omega arith)

pub inside-text : (cs vs rest : List ℕ) → AreCharacters cs vs → text_inside (cs ++ rest) ≡ text_from (1 + length cs) (length vs) rest
inside-text cs vs rest are = text-characters 1 0 cs vs rest are ∙ same-text (1 + length cs) (0 + length vs) (1 + length cs) (length vs) rest refl (omega arith)

text-closed : (cs vs : List ℕ) (p : Piece) → AreCharacters cs vs → p ≡ closed_text (length vs) → Spells (34 ∷ cs ++ 34 ∷ []) p
text-closed cs vs p are e = elim (two-ways (nat_le (length vs) 65535)) [
  | inl small ↦ (let is : p ≡ piece.Text = e ∙ rw small refl in let le : length vs ≤ 65535 = grind (arith, nat_tests) in rw is (vs, (cs, refl, are), le))
  | inr great ↦ (let is : p ≡ piece.Faulty LongString 0 = e ∙ rw great refl in let lt : 65535 < length vs = grind (arith, nat_tests) in rw is (vs, (cs, refl, are), lt, refl))
]

pub text-spells : (bs : List ℕ) (p : Piece) → text_inside bs ≡ Some p → Spells (34 ∷ bs) p
text-spells bs p w =
    let q = parted Between [] refl bs in
    let cs = q.characters in
    let vs = q.values in
    let e : text_from (1 + length cs) (length vs) q.tail ≡ Some p = sym (inside-text cs vs q.tail q.are) ∙ ap (λ l. text_inside l) (sym q.spelled) ∙ w in
    let state = text_state (1 + length cs) (length vs) in
    rw q.spelled (elim (ended text_stop text_step state (λ i r. text_moves (state i) r) (λ i b. refl) (λ i j. refl) (1 + length cs) (λ i. refl) refl (λ i. refl) q.tail p q.tail_is e) [
      | inl (more, is, closes) ↦ (let z = ends-only (closed_text (length vs)) p more closes in rw (is, z.0) (text-closed cs vs p q.are z.1))
      | inr end ↦ ended-spells (34 ∷ cs) vs q.tail (1 + length cs) p (OpensText cs refl q.are) (omega arith) end
    ])

pub text-whole : (s values : List ℕ) → IsText s values → whole s ≡ Some (closed_text (length values))
text-whole s values (inside, e, are) = rw e (inside-text inside values (34 ∷ []) are)

-- chars
abbrev char_state : ℕ → Option ℕ → Inside → InChar
char_state at f i = record { at = at; first = f; inside = i }

abbrev char_from : ℕ → Option ℕ → List ℕ → Option Piece
char_from at f bs = whole_from char_stop char_step (char_state at f Between) bs

same-char : (at at' : ℕ) (f : Option ℕ) (rest : List ℕ) → at ≡ at' → char_from at f rest ≡ char_from at' f rest
same-char at at' f rest e = rw e refl

pub char-first : (at : ℕ) (c : List ℕ) (v : ℕ) (rest : List ℕ) → IsCharacter c v → char_from at None (c ++ rest) ≡ char_from (at + length c) (Some v) rest
char-first at c v rest is =
    let l = character_read char_stop char_step (char_state at None) (λ i r. char_moves (char_state at None i) r) (λ i b. refl) (λ i j. refl) c v rest is in
    let size = l.size in
    l.same ∙ same-char (at + read_of l.last + 1) (at + length c) (Some v) rest (omega arith)

char-second : (at w : ℕ) (c : List ℕ) (v : ℕ) (rest : List ℕ) → IsCharacter c v → char_from at (Some w) (c ++ rest) ≡ ends (piece.Faulty BadEscape 0) rest
char-second at w c v rest is =
    let l = character_read char_stop char_step (char_state at (Some w)) (λ i r. char_moves (char_state at (Some w) i) r) (λ i b. refl) (λ i j. refl) c v rest is in
    l.same

-- the character so far
abbrev first_of : List ℕ → Option ℕ
first_of [] = None
first_of (v ∷ vs) = Some v

inside-char : (cs vs rest : List ℕ) → AreCharacters cs vs → length vs ≤ 1 → char_inside (cs ++ rest) ≡ char_from (2 + length cs) (first_of vs) rest
inside-char cs vs rest Nothing le = refl
inside-char cs vs rest (Then c v r rs is Nothing) le = ap (λ l. char_inside l) (append_assoc c [] rest) ∙ char-first 2 c v rest is ∙ same-char (2 + length c) (2 + length (c ++ [])) (Some v) rest (rw append-nil refl)
inside-char cs vs rest (Then c v r rs is (Then c' v' r' rs' is' are)) le = absurd (omega arith)

two-inside : (c c' more : List ℕ) (v v' : ℕ) → IsCharacter c v → IsCharacter c' v' → char_inside (c ++ (c' ++ more)) ≡ ends (piece.Faulty BadEscape 0) more
two-inside c c' more v v' is is' = char-first 2 c v (c' ++ more) is ∙ char-second (2 + length c) v c' v' more is'

both-empty : (xs ys : List ℕ) → xs ++ ys ≡ [] → (xs ≡ []) × (ys ≡ [])
both-empty [] ys e = (refl, e)
both-empty (x ∷ xs) ys e = absurd cc

char-ends : (cs vs tail : List ℕ) (p : Piece) → AreCharacters cs vs → length vs ≤ 1 → Tail tail → char_from (2 + length cs) (first_of vs) tail ≡ Some p → ((more : List ℕ) × (tail ≡ 34 ∷ more) × (ends (closed_char (first_of vs)) more ≡ Some p)) ⊎ EndsAs (2 + length cs) tail p
char-ends cs vs tail p are le t e =
    let state = char_state (2 + length cs) (first_of vs) in
    ended char_stop char_step state (λ i r. char_moves (state i) r) (λ i b. refl) (λ i j. refl) (2 + length cs) (λ i. refl) refl (λ i. refl) tail p t e

char-tail-spells : (cs vs tail : List ℕ) (p : Piece) → AreCharacters cs vs → Tail tail → char_inside (cs ++ tail) ≡ Some p → Spells (35 ∷ 34 ∷ cs ++ tail) p
char-tail-spells cs vs tail p Nothing t w = elim (char-ends [] [] tail p Nothing (omega arith) t w) [
  | inl (more, is, closes) ↦ (let z = ends-only (piece.Faulty BadEscape 0) p more closes in rw (z.1, is, z.0) (inr (inl (refl, refl))))
  | inr end ↦ ended-spells (35 ∷ 34 ∷ []) [] tail 2 p (OpensChar [] refl Nothing (omega arith)) refl end
]
char-tail-spells cs vs tail p (Then c v r rs is Nothing) t w =
    let one : AreCharacters (c ++ []) (v ∷ []) = Then c v [] [] is Nothing in
    let e : char_from (2 + length (c ++ [])) (Some v) tail ≡ Some p = sym (inside-char (c ++ []) (v ∷ []) tail one (omega arith)) ∙ w in
    elim (char-ends (c ++ []) (v ∷ []) tail p one (omega arith) t e) [
      | inl (more, q, closes) ↦ (let z = ends-only (piece.Char v) p more closes in rw (z.1, q, z.0, append-nil c) (c, refl, is))
      | inr end ↦ ended-spells (35 ∷ 34 ∷ c ++ []) (v ∷ []) tail (2 + length (c ++ [])) p (OpensChar (c ++ []) refl one (omega arith)) (omega arith) end
    ]
char-tail-spells cs vs tail p (Then c v r rs is (Then c' v' r' rs' is' are)) t w =
    let split : (c ++ (c' ++ r')) ++ tail ≡ c ++ (c' ++ (r' ++ tail)) = append_assoc c (c' ++ r') tail ∙ ap (λ l. c ++ l) (append_assoc c' r' tail) in
    let e : ends (piece.Faulty BadEscape 0) (r' ++ tail) ≡ Some p = sym (two-inside c c' (r' ++ tail) v v' is is') ∙ ap (λ l. char_inside l) (sym split) ∙ w in
    let z = ends-only (piece.Faulty BadEscape 0) p (r' ++ tail) e in
    let two : AreCharacters (c ++ (c' ++ [])) (v ∷ v' ∷ []) = Then c v (c' ++ []) (v' ∷ []) is (Then c' v' [] [] is' Nothing) in
    let whole-is : 35 ∷ 34 ∷ (c ++ (c' ++ r')) ++ tail ≡ 35 ∷ 34 ∷ c ++ (c' ++ []) = ap (λ l. 35 ∷ 34 ∷ l) (split ∙ ap (λ l. c ++ (c' ++ l)) z.0) in
    rw z.1 (inr (inr (c ++ (c' ++ []), v, v', whole-is, two, refl)))

pub char-spells : (bs : List ℕ) (p : Piece) → char_inside bs ≡ Some p → Spells (35 ∷ 34 ∷ bs) p
char-spells bs p w =
    let q = parted Between [] refl bs in
    rw q.spelled (char-tail-spells q.characters q.values q.tail p q.are q.tail_is (ap (λ l. char_inside l) (sym q.spelled) ∙ w))

pub char-whole : (inside : List ℕ) (v : ℕ) → IsCharacter inside v → whole (35 ∷ 34 ∷ inside ++ 34 ∷ []) ≡ Some (piece.Char v)
char-whole inside v is = char-first 2 inside v (34 ∷ []) is

pub no-char-whole : whole (35 ∷ 34 ∷ 34 ∷ []) ≡ Some (piece.Faulty BadEscape 0)
no-char-whole = refl

two-of : (inside vs : List ℕ) (v w : ℕ) → AreCharacters inside vs → vs ≡ v ∷ w ∷ [] → char_inside inside ≡ Some (piece.Faulty BadEscape 0)
two-of inside vs v w Nothing e = absurd cc
two-of inside vs v w (Then c x r rs is Nothing) e = absurd cc
two-of inside vs v w (Then c x r rs is (Then c' x' r' rs' is' Nothing)) e = two-inside c c' [] x x' is is'
two-of inside vs v w (Then c x r rs is (Then c' x' r' rs' is' (Then c'' x'' r'' rs'' is'' are))) e = absurd cc

pub two-whole : (inside : List ℕ) (v w : ℕ) → AreCharacters inside (v ∷ w ∷ []) → whole (35 ∷ 34 ∷ inside) ≡ Some (piece.Faulty BadEscape 0)
two-whole inside v w are = two-of inside (v ∷ w ∷ []) v w are refl

-- literals that are not closed
pub open-whole : (s values : List ℕ) → OpensTo s values → whole s ≡ Some (piece.Faulty OpenString 0)
open-whole s values (OpensText inside e are) = rw (e, ← append-nil inside) (inside-text inside values [] are)
open-whole s values (OpensChar inside e are le) = rw (e, ← append-nil inside) (inside-char inside values [] are le)

text-cut : (inside values cut : List ℕ) → AreCharacters inside values → IsCutEscape cut → text_inside (inside ++ cut) ≡ Some (piece.Faulty BadEscape (1 + length inside))
text-cut inside values cut are is =
    let state = text_state (1 + length inside) (length values) in
    inside-text inside values cut are ∙ end_cut text_stop text_step state (λ i r. text_moves (state i) r) (λ i b. refl) (λ i j. refl) (1 + length inside) (λ i. refl) refl (λ i. refl) cut is

char-cut : (inside values cut : List ℕ) → AreCharacters inside values → length values ≤ 1 → IsCutEscape cut → char_inside (inside ++ cut) ≡ Some (piece.Faulty BadEscape (2 + length inside))
char-cut inside values cut are le is =
    let state = char_state (2 + length inside) (first_of values) in
    inside-char inside values cut are le ∙ end_cut char_stop char_step state (λ i r. char_moves (state i) r) (λ i b. refl) (λ i j. refl) (2 + length inside) (λ i. refl) refl (λ i. refl) cut is

faulty-at : (s : List ℕ) (k : LexKind) (m n : ℕ) → m ≡ n → whole s ≡ Some (piece.Faulty k m) → whole s ≡ Some (piece.Faulty k n)
faulty-at s k m n e w = rw (← e) w

pub cut-whole : (opening values cut : List ℕ) (at : ℕ) → OpensTo opening values → IsCutEscape cut → at ≡ length opening → whole (opening ++ cut) ≡ Some (piece.Faulty BadEscape at)
cut-whole opening values cut at (OpensText inside e are) is ea = rw e (faulty-at (34 ∷ inside ++ cut) BadEscape (1 + length inside) at (omega (arith, ap length e)) (text-cut inside values cut are is))
cut-whole opening values cut at (OpensChar inside e are le) is ea = rw e (faulty-at (35 ∷ 34 ∷ inside ++ cut) BadEscape (2 + length inside) at (omega (arith, ap length e)) (char-cut inside values cut are le is))

text-stray : (inside values : List ℕ) (b : ℕ) → AreCharacters inside values → IsStray b → text_inside (inside ++ b ∷ []) ≡ Some (piece.Faulty BadByte (1 + length inside))
text-stray inside values b are is =
    let state = text_state (1 + length inside) (length values) in
    inside-text inside values (b ∷ []) are ∙ end_stray text_stop text_step state (λ i r. text_moves (state i) r) (λ i b. refl) (λ i j. refl) (1 + length inside) (λ i. refl) refl (λ i. refl) b is

char-stray : (inside values : List ℕ) (b : ℕ) → AreCharacters inside values → length values ≤ 1 → IsStray b → char_inside (inside ++ b ∷ []) ≡ Some (piece.Faulty BadByte (2 + length inside))
char-stray inside values b are le is =
    let state = char_state (2 + length inside) (first_of values) in
    inside-char inside values (b ∷ []) are le ∙ end_stray char_stop char_step state (λ i r. char_moves (state i) r) (λ i b. refl) (λ i j. refl) (2 + length inside) (λ i. refl) refl (λ i. refl) b is

pub stray-whole : (opening values : List ℕ) (b at : ℕ) → OpensTo opening values → IsStray b → at ≡ length opening → whole (opening ++ b ∷ []) ≡ Some (piece.Faulty BadByte at)
stray-whole opening values b at (OpensText inside e are) is ea = rw e (faulty-at (34 ∷ inside ++ b ∷ []) BadByte (1 + length inside) at (omega (arith, ap length e)) (text-stray inside values b are is))
stray-whole opening values b at (OpensChar inside e are le) is ea = rw e (faulty-at (35 ∷ 34 ∷ inside ++ b ∷ []) BadByte (2 + length inside) at (omega (arith, ap length e)) (char-stray inside values b are le is))
