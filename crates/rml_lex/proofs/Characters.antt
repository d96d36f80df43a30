-- The characters of literals in words of their own, and the machines that read them.
use Rattle.std.proofs.Common.{◌≡◌, ℕ, ◌+◌, ◌-◌, ◌*◌, ◌≤◌, Bool, true, false, List, [], ◌∷◌, ◌++◌, length, refl, sym, ap, ◌∙◌, arith, Option, Some, None, append_assoc, append-nil, ◌⊎◌, inl, inr}
use Rattle.std.specs.Prelude.{◌==◌, ◌&&◌, nat_le, if◌then◌else◌}
use Rattle.std.proofs.lemmas.Bool.Decides.{nat_tests}
use Rattle.rml_lex.specs.declared.piece.Piece.{Piece}
use Rattle.rml_lex.specs.declared.machine.Move.{Move}
use Rattle.rml_lex.specs.declared.machine.Move.TheVariants.{On}
use Rattle.rml_lex.specs.declared.character.Read.{Read}
use Rattle.rml_lex.specs.declared.character.Read.TheVariants.{Part, Whole, Quote, Stray, Cut}
use Rattle.rml_lex.specs.declared.character.Inside.{Inside}
use Rattle.rml_lex.specs.declared.character.Inside.TheVariants.{Between, Escape, OneDigit, TwoDigits}
use Rattle.rml_lex.specs.Bytes.{is_digit, is_plain, number_from}
use Rattle.rml_lex.specs.Character.{character_step, escape_value, read_of, unescaped, values_from}
use Rattle.rml_lex.specs.Machine.{whole_from}
use Rattle.rml_lex.specs.Spells.{IsCharacter, Itself, Escaped, ThreeDigits, AreCharacters, Nothing, Then, IsStray, IsText}
use Rattle.rml_lex.proofs.Comments.{is-eq, not-eq, eq-is}
use Rattle.rml_lex.proofs.Moves.{moved, one_step}

pub two-ways : (b : Bool) → (b ≡ true) ⊎ (b ≡ false)
two-ways true = inl refl
two-ways false = inr refl

pub both-ways : {A : Type 0} (b : Bool) → b ≡ true → b ≡ false → A
both-ways b e f = absurd (cc (e, f))

-- How far a character has been read: the bytes of it so far.
abbrev pub Half : Inside → List ℕ → Type 0
Half Between s = s ≡ []
Half Escape s = s ≡ 92 ∷ []
Half (OneDigit v) s = (a : ℕ) × (s ≡ 92 ∷ a ∷ []) × (is_digit a ≡ true) × (v ≡ a - 48)
Half (TwoDigits v) s = (a : ℕ) × (b : ℕ) × (s ≡ 92 ∷ a ∷ b ∷ []) × (is_digit a ≡ true) × (is_digit b ≡ true) × (v ≡ 10 * (a - 48) + (b - 48))

-- where whole characters end
pub data Tail (s : List ℕ) : Type 0 where
  Ends : s ≡ [] → Tail s
  Quoted : (more : List ℕ) → s ≡ 34 ∷ more → Tail s
  Line : (more : List ℕ) → s ≡ 10 ∷ more → Tail s
  Strays : (b : ℕ) (more : List ℕ) → s ≡ b ∷ more → IsStray b → Tail s
  CutShort : (i : Inside) → Half i s → (i ≡ Between → ⊥) → Tail s
  CutOff : (i : Inside) (cut : List ℕ) (b : ℕ) (more : List ℕ) → s ≡ cut ++ b ∷ more → Half i cut → character_step i b ≡ Cut → Tail s

-- whole characters, and where they end
pub record Parted (s : List ℕ) : Type 0 where
  pub characters : List ℕ
  pub values : List ℕ
  pub tail : List ℕ
  pub spelled : s ≡ characters ++ tail
  pub are : AreCharacters characters values
  pub tail_is : Tail tail

all-tail : (s : List ℕ) → Tail s → Parted s
all-tail s t = record { characters = []; values = []; tail = s; spelled = refl; are = Nothing; tail_is = t }

put : (c : List ℕ) (v : ℕ) (s : List ℕ) → IsCharacter c v → Parted s → Parted (c ++ s)
put c v s is p = record {
  characters = c ++ p.characters;
  values = v ∷ p.values;
  tail = p.tail;
  spelled = ap (λ l. c ++ l) p.spelled ∙ sym (append_assoc c p.characters p.tail);
  are = Then c v p.characters p.values is p.are;
  tail_is = p.tail_is;
}

quote-read : (b : ℕ) → (b == 34) ≡ true → character_step Between b ≡ Quote
quote-read b e = rw e refl

slash-read : (b : ℕ) → (b == 34) ≡ false → (b == 92) ≡ true → character_step Between b ≡ Part Escape
slash-read b e f = rw (e, f) refl

plain-read : (b : ℕ) → (b == 34) ≡ false → (b == 92) ≡ false → is_plain b ≡ true → character_step Between b ≡ Whole b
plain-read b e f g = go (b == 34) (b == 92) (is_plain b) e f g where
  go : (q s p : Bool) → q ≡ false → s ≡ false → p ≡ true → (if q then Quote else if s then Part Escape else if p then Whole b else if b == 10 then Cut else Stray) ≡ Whole b
  go q s p e f g = rw (e, f, g) refl

not-same : (b n : ℕ) → (b == n) ≡ false → b ≡ n → ⊥
not-same b n e is = let t = eq-is b n is in cc (t, e)

cut-second : (b : ℕ) → escape_value b ≡ None → is_digit b ≡ false → character_step Escape b ≡ Cut
cut-second b e f = rw (e, f) refl

digit-second : (b : ℕ) → escape_value b ≡ None → is_digit b ≡ true → character_step Escape b ≡ Part (OneDigit (b - 48))
digit-second b e f = rw (e, f) refl

letter-second : (b v : ℕ) → escape_value b ≡ Some v → character_step Escape b ≡ Whole v
letter-second b v e = rw e refl

cut-third : (v b : ℕ) → is_digit b ≡ false → character_step (OneDigit v) b ≡ Cut
cut-third v b f = rw f refl

digit-third : (v b : ℕ) → is_digit b ≡ true → character_step (OneDigit v) b ≡ Part (TwoDigits (10 * v + (b - 48)))
digit-third v b f = rw f refl

cut-last : (v b : ℕ) → (is_digit b && nat_le (10 * v + (b - 48)) 255) ≡ false → character_step (TwoDigits v) b ≡ Cut
cut-last v b f = rw f refl

digit-last : (v b : ℕ) → (is_digit b && nat_le (10 * v + (b - 48)) 255) ≡ true → character_step (TwoDigits v) b ≡ Whole (10 * v + (b - 48))
digit-last v b f = rw f refl

pub and-left : (p q : Bool) → (p && q) ≡ true → p ≡ true
and-left true q e = refl
and-left false q e = absurd cc

pub and-right : (p q : Bool) → (p && q) ≡ true → q ≡ true
and-right true q e = e
and-right false q e = absurd cc

pub three-value : (a b c : ℕ) → number_from 0 (a ∷ b ∷ c ∷ []) ≡ 10 * (10 * (a - 48) + (b - 48)) + (c - 48)
three-value a b c = omega arith

three-digits : (a b c v : ℕ) → is_digit a ≡ true → is_digit b ≡ true → v ≡ 10 * (a - 48) + (b - 48) → (is_digit c && nat_le (10 * v + (c - 48)) 255) ≡ true → IsCharacter (92 ∷ a ∷ b ∷ c ∷ []) (10 * v + (c - 48))
three-digits a b c v da db e all =
    let dc = and-left (is_digit c) (nat_le (10 * v + (c - 48)) 255) all in
    let le = and-right (is_digit c) (nat_le (10 * v + (c - 48)) 255) all in
    let small : 10 * v + (c - 48) ≤ 255 = grind (arith, nat_tests) in
    ThreeDigits a b c refl (rw (da, db, dc) refl) (rw e (sym (three-value a b c))) small

-- the byte after a backslash
second-byte : (b : ℕ) (bs : List ℕ) (r : Option ℕ) → escape_value b ≡ r → Parted bs → (is_digit b ≡ true → Parted (92 ∷ b ∷ bs)) → Parted (92 ∷ b ∷ bs)
second-byte b bs (Some v) e rest more = put (92 ∷ b ∷ []) v bs (Escaped b refl e) rest
second-byte b bs None e rest more = elim (two-ways (is_digit b)) [
  | inl d ↦ more d
  | inr n ↦ all-tail (92 ∷ b ∷ bs) (CutOff Escape (92 ∷ []) b bs refl refl (cut-second b e n))
]

-- any bytes are whole characters, and where they end
pub parted : (i : Inside) (cut : List ℕ) → Half i cut → (bs : List ℕ) → Parted (cut ++ bs)
parted Between cut h [] = rw h (all-tail [] (Ends refl))
parted Escape cut h [] = all-tail (cut ++ []) (CutShort Escape (rw append-nil h) (λ e. cc))
parted (OneDigit v) cut h [] = all-tail (cut ++ []) (CutShort (OneDigit v) (rw append-nil h) (λ e. cc))
parted (TwoDigits v) cut h [] = all-tail (cut ++ []) (CutShort (TwoDigits v) (rw append-nil h) (λ e. cc))
parted Between cut h (b ∷ bs) = rw h (elim (two-ways (b == 34)) [
  | inl e ↦ all-tail (b ∷ bs) (Quoted bs (rw (is-eq b 34 e) refl))
  | inr unquoted ↦ elim (two-ways (b == 92)) [
    | inl e ↦ rw (is-eq b 92 e) (parted Escape (92 ∷ []) refl bs)
    | inr slash ↦ elim (two-ways (is_plain b)) [
      | inl e ↦ put (b ∷ []) b bs (Itself refl e) (parted Between [] refl bs)
      | inr p ↦ elim (two-ways (b == 10)) [
        | inl e ↦ all-tail (b ∷ bs) (Line bs (rw (is-eq b 10 e) refl))
        | inr l ↦ all-tail (b ∷ bs) (Strays b bs refl (record { no_character = p; no_escape = not-same b 92 slash; no_quote = not-same b 34 unquoted; no_line_end = not-same b 10 l }))
      ]
    ]
  ]
])
parted Escape cut h (b ∷ bs) = rw h (second-byte b bs (escape_value b) refl (parted Between [] refl bs) (λ d. parted (OneDigit (b - 48)) (92 ∷ b ∷ []) (b, refl, d, refl) bs))
parted (OneDigit v) cut (a, e, d, ev) (b ∷ bs) = rw e (elim (two-ways (is_digit b)) [
  | inl f ↦ parted (TwoDigits (10 * v + (b - 48))) (92 ∷ a ∷ b ∷ []) (a, b, refl, d, f, (rw ev refl)) bs
  | inr n ↦ all-tail (92 ∷ a ∷ b ∷ bs) (CutOff (OneDigit v) (92 ∷ a ∷ []) b bs refl (a, refl, d, ev) (cut-third v b n))
])
parted (TwoDigits v) cut (a, a', e, d, d', ev) (b ∷ bs) = rw e (elim (two-ways (is_digit b && nat_le (10 * v + (b - 48)) 255)) [
  | inl f ↦ put (92 ∷ a ∷ a' ∷ b ∷ []) (10 * v + (b - 48)) bs (three-digits a a' b v d d' ev f) (parted Between [] refl bs)
  | inr n ↦ all-tail (92 ∷ a ∷ a' ∷ b ∷ bs) (CutOff (TwoDigits v) (92 ∷ a ∷ a' ∷ []) b bs refl (a, a', refl, d, d', ev) (cut-last v b n))
])

plain-no-quote : (b : ℕ) → is_plain b ≡ true → (b == 34) ≡ false
plain-no-quote b e = not-eq b 34 (λ is. let no : is_plain b ≡ false = rw is refl in both-ways (is_plain b) e no)

plain-no-slash : (b : ℕ) → is_plain b ≡ true → (b == 92) ≡ false
plain-no-slash b e = not-eq b 92 (λ is. let no : is_plain b ≡ false = rw is refl in both-ways (is_plain b) e no)

other-byte : (b n : ℕ) → is_digit b ≡ true → is_digit n ≡ false → (b == n) ≡ false
other-byte b n e f = not-eq b n (λ is. let no : is_digit b ≡ false = rw is f in both-ways (is_digit b) e no)

digit-no-letter : (b : ℕ) → is_digit b ≡ true → escape_value b ≡ None
digit-no-letter b e = rw (other-byte b 110 e refl, other-byte b 116 e refl, other-byte b 114 e refl, other-byte b 92 e refl, other-byte b 34 e refl) refl

-- A machine whose states differ in how far a character has been read.
module _ {S : Type 0} (stop : S → Piece) (step : S → ℕ → Move S) (state : Inside → S) (moves : Inside → Read → Move S)
    (steps : (i : Inside) (b : ℕ) → step (state i) b ≡ moves i (character_step i b)) (parts : (i j : Inside) → moves i (Part j) ≡ On (state j)) where
  pub by_read : (i : Inside) (b : ℕ) (bs : List ℕ) (r : Read) → character_step i b ≡ r → whole_from stop step (state i) (b ∷ bs) ≡ moved stop step (moves i r) bs
  by_read i b bs r e = one_step stop step (state i) b bs ∙ ap (λ m. moved stop step m bs) (steps i b ∙ ap (λ r. moves i r) e)

  by_part : (i j : Inside) (b : ℕ) (bs : List ℕ) → character_step i b ≡ Part j → whole_from stop step (state i) (b ∷ bs) ≡ whole_from stop step (state j) bs
  by_part i j b bs e = by_read i b bs (Part j) e ∙ ap (λ m. moved stop step m bs) (parts i j)

  second-digit : (a : ℕ) (rest : List ℕ) → is_digit a ≡ true → whole_from stop step (state Between) (92 ∷ a ∷ rest) ≡ whole_from stop step (state (OneDigit (a - 48))) rest
  second-digit a rest d = by_part Between Escape 92 (a ∷ rest) refl ∙ by_part Escape (OneDigit (a - 48)) a rest (digit-second a (digit-no-letter a d) d)

  third-digit : (a b : ℕ) (rest : List ℕ) → is_digit a ≡ true → is_digit b ≡ true → whole_from stop step (state Between) (92 ∷ a ∷ b ∷ rest) ≡ whole_from stop step (state (TwoDigits (10 * (a - 48) + (b - 48)))) rest
  third-digit a b rest d e = second-digit a (b ∷ rest) d ∙ by_part (OneDigit (a - 48)) (TwoDigits (10 * (a - 48) + (b - 48))) b rest (digit-third (a - 48) b e)

  -- a part of a character
  pub half_read : (i : Inside) (cut rest : List ℕ) → Half i cut → whole_from stop step (state Between) (cut ++ rest) ≡ whole_from stop step (state i) rest
  half_read Between cut rest h = rw h refl
  half_read Escape cut rest h = rw h (by_part Between Escape 92 rest refl)
  half_read (OneDigit v) cut rest (a, e, d, ev) = rw (e, ev) (second-digit a rest d)
  half_read (TwoDigits v) cut rest (a, b, e, d, d', ev) = rw (e, ev) (third-digit a b rest d d')

  -- a whole character
  pub record LeadsTo (c : List ℕ) (v : ℕ) (rest : List ℕ) : Type 0 where
    pub last : Inside
    pub size : read_of last + 1 ≡ length c
    pub same : whole_from stop step (state Between) (c ++ rest) ≡ moved stop step (moves last (Whole v)) rest

  pub character_read : (c : List ℕ) (v : ℕ) (rest : List ℕ) → IsCharacter c v → LeadsTo c v rest
  character_read c v rest (Itself e p) = record { last = Between; size = rw e refl; same = rw e (by_read Between v rest (Whole v) (plain-read v (plain-no-quote v p) (plain-no-slash v p) p)) }
  character_read c v rest (Escaped l e is) = record { last = Escape; size = rw e refl; same = rw e (by_part Between Escape 92 (l ∷ rest) refl ∙ by_read Escape l rest (Whole v) (letter-second l v is)) }
  character_read c v rest (ThreeDigits x y z e ds ev le) =
      let dx : is_digit x ≡ true = and-left _ _ ds in
      let dyz = and-right (is_digit x) _ ds in
      let dy : is_digit y ≡ true = and-left _ _ dyz in
      let dz : is_digit z ≡ true = and-left _ _ (and-right (is_digit y) _ dyz) in
      let is : v ≡ 10 * (10 * (x - 48) + (y - 48)) + (z - 48) = ev ∙ three-value x y z in
      let small : nat_le (10 * (10 * (x - 48) + (y - 48)) + (z - 48)) 255 ≡ true = grind (arith, nat_tests) in
      let all : (is_digit z && nat_le (10 * (10 * (x - 48) + (y - 48)) + (z - 48)) 255) ≡ true = rw (dz, small) refl in
      record {
        last = TwoDigits (10 * (x - 48) + (y - 48));
        size = rw e refl;
        same = rw (e, is) (third-digit x y (z ∷ rest) dx dy ∙ by_read (TwoDigits (10 * (x - 48) + (y - 48))) z rest (Whole (10 * (10 * (x - 48) + (y - 48)) + (z - 48))) (digit-last (10 * (x - 48) + (y - 48)) z all));
      }

-- what characters stand for
read-part : (i j : Inside) (b : ℕ) (bs : List ℕ) → character_step i b ≡ Part j → values_from i (b ∷ bs) ≡ values_from j bs
read-part i j b bs e = rw (e, values_from) refl

read-whole : (i : Inside) (b v : ℕ) (bs : List ℕ) → character_step i b ≡ Whole v → values_from i (b ∷ bs) ≡ v ∷ values_from Between bs
read-whole i b v bs e = rw (e, values_from) refl

character-value : (c : List ℕ) (v : ℕ) (rest : List ℕ) → IsCharacter c v → values_from Between (c ++ rest) ≡ v ∷ values_from Between rest
character-value c v rest (Itself e p) = rw e (read-whole Between v v rest (plain-read v (plain-no-quote v p) (plain-no-slash v p) p))
character-value c v rest (Escaped l e is) = rw e (read-part Between Escape 92 (l ∷ rest) refl ∙ read-whole Escape l v rest (letter-second l v is))
character-value c v rest (ThreeDigits x y z e ds ev le) =
    let dx : is_digit x ≡ true = and-left _ _ ds in
    let dyz = and-right (is_digit x) _ ds in
    let dy : is_digit y ≡ true = and-left _ _ dyz in
    let dz : is_digit z ≡ true = and-left _ _ (and-right (is_digit y) _ dyz) in
    let is : v ≡ 10 * (10 * (x - 48) + (y - 48)) + (z - 48) = ev ∙ three-value x y z in
    let small : nat_le (10 * (10 * (x - 48) + (y - 48)) + (z - 48)) 255 ≡ true = grind (arith, nat_tests) in
    let all : (is_digit z && nat_le (10 * (10 * (x - 48) + (y - 48)) + (z - 48)) 255) ≡ true = rw (dz, small) refl in
    rw (e, is) (read-part Between Escape 92 (x ∷ y ∷ z ∷ rest) refl ∙ read-part Escape (OneDigit (x - 48)) x (y ∷ z ∷ rest) (digit-second x (digit-no-letter x dx) dx)
    ∙ read-part (OneDigit (x - 48)) (TwoDigits (10 * (x - 48) + (y - 48))) y (z ∷ rest) (digit-third (x - 48) y dy)
    ∙ read-whole (TwoDigits (10 * (x - 48) + (y - 48))) z (10 * (10 * (x - 48) + (y - 48)) + (z - 48)) rest (digit-last (10 * (x - 48) + (y - 48)) z all))

characters-value : (cs vs rest : List ℕ) → AreCharacters cs vs → values_from Between (cs ++ rest) ≡ vs ++ values_from Between rest
characters-value cs vs rest Nothing = refl
characters-value cs vs rest (Then c v r rs is are) = ap (λ l. values_from Between l) (append_assoc c r rest) ∙ character-value c v (r ++ rest) is ∙ ap (λ l. v ∷ l) (characters-value r rs rest are)

pub text-value : (s values : List ℕ) → IsText s values → unescaped s ≡ values
text-value s values (inside, e, are) = rw e (characters-value inside values (34 ∷ []) are ∙ append-nil values)
