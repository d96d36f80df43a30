-- `whole` and the sentences of `Spells` agree.
use Rattle.std.proofs.Common.{◌≡◌, ℕ, ◌<◌, ◌≤◌, Bool, true, false, List, [], ◌∷◌, ◌++◌, length, take, refl, sym, ap, ◌∙◌, arith, Option, Some, None, append_assoc, append-nil, ◌⊎◌, inl, inr}
use Rattle.std.specs.Prelude.{◌==◌, ◌&&◌, nat_le, if◌then◌else◌, find, MatchOption}
use Rattle.std.specs.List.{list_all}
use Rattle.std.specs.Cmp.Lexicographic.{same_text}
use Rattle.std.proofs.lemmas.Bool.Decides.{nat_tests}
use Rattle.rml_base.specs.Numbering.{same}
use Rattle.rml_syntax.specs.declared.token.Key.{Key}
use Rattle.rml_syntax.specs.declared.token.Key.TheVariants.{KAbstype, KAnd, KAs, KAxiom, KDatatype, KDefault, KEnd, KEqtype, KLet, KModule, KNot, KOf, KRelation, KRule, KType, KVal, KWith, KWithtype}
use Rattle.rml_syntax.specs.declared.token.Mark.{Mark}
use Rattle.rml_syntax.specs.declared.token.Mark.TheVariants as mark
use Rattle.rml_lex.specs.declared.piece.LexKind.{LexKind}
use Rattle.rml_lex.specs.declared.piece.LexKind.TheVariants as kind
use Rattle.rml_lex.specs.declared.piece.Piece.{Piece}
use Rattle.rml_lex.specs.declared.piece.Piece.TheVariants as piece
use Rattle.rml_lex.specs.Bytes.{is_blank, is_letter, is_digit, is_dash, is_name_byte, number_from}
use Rattle.rml_lex.specs.Comment.{comment_inside}
use Rattle.rml_lex.specs.Machine.{ends, run, Longest, Stuck}
use Rattle.rml_lex.specs.Number.{int_piece, int_value, limit, number, real}
use Rattle.rml_lex.specs.Spelling.{dash, name_piece, named, single, single_sign, whole}
use Rattle.rml_lex.specs.Spells.{IsDigits, IsSign, NoSign, Signed, IsInt, IsReal, IsNameLike, IsComment, IsOpenComment, Spells, SpellsFault, IsLongest, BeginsNothing}
use Rattle.rml_lex.specs.Words.{keys, sign_spelling, word_of, word_spelling}
use Rattle.rml_lex.specs.declared.comment.Half.TheVariants.{Neither}
use Rattle.rml_lex.specs.Literal.{closed_text}
use Rattle.rml_lex.proofs.Comments.{at, comment-inside, inside-whole, is-eq, no-front, open-inside, says}
use Rattle.rml_lex.proofs.Characters.{two-ways, and-left, and-right}
use Rattle.rml_lex.proofs.Literals.{char-spells, char-whole, cut-whole, ends-only, open-whole, stray-whole, text-spells, text-whole, two-whole}
use Rattle.rml_lex.proofs.Numerals.{Real, number-read, int-whole, real-whole, signed-whole}

-- words and names
word-whole : (k : Key) → whole (word_spelling k) ≡ Some (piece.Word k)
word-whole KAbstype = refl
word-whole KAnd = refl
word-whole KAs = refl
word-whole KAxiom = refl
word-whole KDatatype = refl
word-whole KDefault = refl
word-whole KEnd = refl
word-whole KEqtype = refl
word-whole KLet = refl
word-whole KModule = refl
word-whole KNot = refl
word-whole KOf = refl
word-whole KRelation = refl
word-whole KRule = refl
word-whole KType = refl
word-whole KVal = refl
word-whole KWith = refl
word-whole KWithtype = refl

word-known : (k : Key) → word_of (word_spelling k) ≡ Some k
word-known KAbstype = refl
word-known KAnd = refl
word-known KAs = refl
word-known KAxiom = refl
word-known KDatatype = refl
word-known KDefault = refl
word-known KEnd = refl
word-known KEqtype = refl
word-known KLet = refl
word-known KModule = refl
word-known KNot = refl
word-known KOf = refl
word-known KRelation = refl
word-known KRule = refl
word-known KType = refl
word-known KVal = refl
word-known KWith = refl
word-known KWithtype = refl

find-passes : (p : Key → Bool) (ks : List Key) (k : Key) → find p ks ≡ Some k → p k ≡ true
find-passes p [] k e = absurd cc
find-passes p (x ∷ xs) k e = elim (two-ways (p x)) [
  | inl y ↦ (let z : Some x ≡ Some k = here p x xs k y e in let w : x ≡ k = cc z in rw (← w) y)
  | inr n ↦ find-passes p xs k (there p x xs k n e)
] where
  here : (p : Key → Bool) (x : Key) (xs : List Key) (k : Key) → p x ≡ true → find p (x ∷ xs) ≡ Some k → Some x ≡ Some k
  here p x xs k y e = rw y at e

  there : (p : Key → Bool) (x : Key) (xs : List Key) (k : Key) → p x ≡ false → find p (x ∷ xs) ≡ Some k → find p xs ≡ Some k
  there p x xs k n e = rw n at e

find-none : (p : Key → Bool) (ks : List Key) → ((k : Key) → p k ≡ true → ⊥) → find p ks ≡ None
find-none p [] none = refl
find-none p (x ∷ xs) none = elim (two-ways (p x)) [
  | inl y ↦ absurd (none x y)
  | inr n ↦ rw n (find-none p xs none)
]

word-spelled : (s : List ℕ) (k : Key) → word_of s ≡ Some k → s ≡ word_spelling k
word-spelled s k e = sym (same_text (word_spelling k) s (sym (find-passes (λ k. same (word_spelling k) s) keys k e)))

no-word : (s : List ℕ) → ((k : Key) → s ≡ word_spelling k → ⊥) → word_of s ≡ None
no-word s none = find-none (λ k. same (word_spelling k) s) keys (λ k e. none k (sym (same_text (word_spelling k) s (sym e))))

named-spells : (b : ℕ) (bs : List ℕ) (r : Option Key) → word_of (b ∷ bs) ≡ r → is_letter b ≡ true → list_all is_name_byte bs ≡ true → Spells (b ∷ bs) (named r)
named-spells b bs (Some k) e letter all = word-spelled (b ∷ bs) k e
named-spells b bs None e letter all = ((b, bs, refl, letter, all), λ k is. absurd (let z : None ≡ Some k = sym e ∙ ap word_of is ∙ word-known k in cc z))

run-read : (test : ℕ → Bool) (f : List ℕ → Piece) (bs : List ℕ) (p : Piece) → run test f bs ≡ Some p → (list_all test bs ≡ true) × (p ≡ f bs)
run-read test f bs p e = elim (two-ways (list_all test bs)) [
  | inl y ↦ (y, (let z : Some (f bs) ≡ Some p = rw y at e in cc z))
  | inr n ↦ absurd (let z : None ≡ Some p = rw n at e in cc z)
]

run-whole : (test : ℕ → Bool) (f : List ℕ → Piece) (bs : List ℕ) → list_all test bs ≡ true → run test f bs ≡ Some (f bs)
run-whole test f bs y = rw y refl

-- integers
leb-true : (a b : ℕ) → nat_le a b ≡ true → a ≤ b
leb-true a b e = grind (arith, nat_tests)

leb-false : (a b : ℕ) → nat_le a b ≡ false → b < a
leb-false a b e = grind (arith, nat_tests)

small-int : (n : Bool) (ds : List ℕ) → nat_le (number_from 0 ds) (limit n) ≡ true → int_piece n ds ≡ piece.Int (int_value n (number_from 0 ds))
small-int n ds e = rw e refl

great-int : (n : Bool) (ds : List ℕ) → nat_le (number_from 0 ds) (limit n) ≡ false → int_piece n ds ≡ piece.Faulty kind.IntRange 0
great-int n ds e = rw e refl

int-of : (sign ds : List ℕ) (n : Bool) → IsSign sign n → IsDigits ds → IsInt (sign ++ ds) n (number_from 0 ds)
int-of sign ds n is are = record { sign = sign; digits = ds; spelled = refl; sign_is = is; digits_are = are; value = refl }

real-of : (sign bytes : List ℕ) (n : Bool) → IsSign sign n → Real bytes → IsReal (sign ++ bytes)
real-of sign bytes n is r = record {
  int = sign ++ r.digits;
  end = r.end;
  is_negative = n;
  n = number_from 0 r.digits;
  spelled = ap (λ l. sign ++ l) r.spelled ∙ sym (append_assoc sign r.digits r.end);
  int_is = int-of sign r.digits n is r.are;
  end_is = r.end_is;
}

-- what the first byte tells
data Seen (b : ℕ) : Type 0 where
  SeesDigit : is_digit b ≡ true → Seen b
  SeesBlank : is_blank b ≡ true → ((s : List ℕ) → whole (b ∷ s) ≡ ends piece.Blank s) → Seen b
  SeesLetter : is_letter b ≡ true → ((s : List ℕ) → whole (b ∷ s) ≡ run is_name_byte (λ bs. name_piece (b ∷ bs)) s) → Seen b
  SeesDash : b ≡ 45 → Seen b
  SeesTilde : b ≡ 126 → Seen b
  SeesQuote : b ≡ 34 → Seen b
  SeesHash : b ≡ 35 → Seen b
  SeesPrime : b ≡ 39 → Seen b
  SeesRound : b ≡ 40 → Seen b
  SeesColon : b ≡ 58 → Seen b
  SeesEquals : b ≡ 61 → Seen b
  SeesOther : ((s : List ℕ) → whole (b ∷ s) ≡ single (single_sign b) s) → Seen b

blank-on : (b : ℕ) (s : List ℕ) → is_digit b ≡ false → is_blank b ≡ true → whole (b ∷ s) ≡ ends piece.Blank s
blank-on b s d e = rw (d, e) refl

pub letter-on : (b : ℕ) (s : List ℕ) → is_digit b ≡ false → is_blank b ≡ false → is_letter b ≡ true → whole (b ∷ s) ≡ run is_name_byte (λ bs. name_piece (b ∷ bs)) s
letter-on b s d e f = rw (d, e, f) refl

other-on : (b : ℕ) (s : List ℕ) → is_digit b ≡ false → is_blank b ≡ false → is_letter b ≡ false → (b == 45) ≡ false → (b == 126) ≡ false → (b == 34) ≡ false → (b == 35) ≡ false → (b == 39) ≡ false → (b == 40) ≡ false → (b == 58) ≡ false → (b == 61) ≡ false
    → whole (b ∷ s) ≡ single (single_sign b) s
other-on b s d e f g h i j k l m n = rw (d, e, f, g, h, i, j, k, l, m, n) refl

seen : (b : ℕ) → Seen b
seen b = elim (two-ways (is_digit b)) [
  | inl y ↦ SeesDigit y
  | inr d ↦
      elim (two-ways (is_blank b)) [
        | inl y ↦ SeesBlank y (λ s. blank-on b s d y)
        | inr e ↦
            elim (two-ways (is_letter b)) [
              | inl y ↦ SeesLetter y (λ s. letter-on b s d e y)
              | inr f ↦
                  elim (two-ways (b == 45)) [
                    | inl y ↦ SeesDash (is-eq b 45 y)
                    | inr g ↦
                        elim (two-ways (b == 126)) [
                          | inl y ↦ SeesTilde (is-eq b 126 y)
                          | inr h ↦
                              elim (two-ways (b == 34)) [
                                | inl y ↦ SeesQuote (is-eq b 34 y)
                                | inr i ↦
                                    elim (two-ways (b == 35)) [
                                      | inl y ↦ SeesHash (is-eq b 35 y)
                                      | inr j ↦
                                          elim (two-ways (b == 39)) [
                                            | inl y ↦ SeesPrime (is-eq b 39 y)
                                            | inr k ↦
                                                elim (two-ways (b == 40)) [
                                                  | inl y ↦ SeesRound (is-eq b 40 y)
                                                  | inr l ↦
                                                      elim (two-ways (b == 58)) [
                                                        | inl y ↦ SeesColon (is-eq b 58 y)
                                                        | inr m ↦
                                                            elim (two-ways (b == 61)) [
                                                              | inl y ↦ SeesEquals (is-eq b 61 y)
                                                              | inr n ↦
                                                                  SeesOther (λ s. other-on b s d e f g h i j k l m n)
                                                            ]
                                                      ]
                                                ]
                                          ]
                                    ]
                              ]
                        ]
                  ]
            ]
      ]
]

-- signs of one byte
pick : (t : Bool) (k m : Mark) (x : Option Mark) → (if t then Some k else x) ≡ Some m → ((t ≡ true) × (k ≡ m)) ⊎ (x ≡ Some m)
pick true k m x e = inl (refl, cc e)
pick false k m x e = inr e

this-sign : (b n : ℕ) (k m : Mark) → sign_spelling k ≡ n ∷ [] → ((b == n) ≡ true) × (k ≡ m) → b ∷ [] ≡ sign_spelling m
this-sign b n k m e (t, same) = rw (is-eq b n t) (sym e ∙ ap sign_spelling same)

sign-spelled : (b : ℕ) (m : Mark) → single_sign b ≡ Some m → b ∷ [] ≡ sign_spelling m
sign-spelled b m e =
    elim (pick (b == 41) mark.CloseRound m _ e) [
      | inl y ↦ this-sign b 41 mark.CloseRound m refl y
      | inr e ↦
          elim (pick (b == 91) mark.OpenSquare m _ e) [
            | inl y ↦ this-sign b 91 mark.OpenSquare m refl y
            | inr e ↦
                elim (pick (b == 93) mark.CloseSquare m _ e) [
                  | inl y ↦ this-sign b 93 mark.CloseSquare m refl y
                  | inr e ↦
                      elim (pick (b == 44) mark.Comma m _ e) [
                        | inl y ↦ this-sign b 44 mark.Comma m refl y
                        | inr e ↦
                            elim (pick (b == 38) mark.Amp m _ e) [
                              | inl y ↦ this-sign b 38 mark.Amp m refl y
                              | inr e ↦
                                  elim (pick (b == 124) mark.Bar m _ e) [
                                    | inl y ↦ this-sign b 124 mark.Bar m refl y
                                    | inr e ↦
                                        elim (pick (b == 42) mark.Star m _ e) [
                                          | inl y ↦ this-sign b 42 mark.Star m refl y
                                          | inr e ↦
                                              elim (pick (b == 46) mark.Dot m _ e) [
                                                | inl y ↦ this-sign b 46 mark.Dot m refl y
                                                | inr e ↦
                                                    elim (pick (b == 95) mark.Wild m _ e) [ inl y ↦ this-sign b 95 mark.Wild m refl y | inr e ↦ absurd (cc e) ]
                                              ]
                                        ]
                                  ]
                            ]
                      ]
                ]
          ]
    ]

single-spells : (b : ℕ) (bs : List ℕ) (r : Option Mark) (p : Piece) → single_sign b ≡ r → single r bs ≡ Some p → Spells (b ∷ bs) p
single-spells b bs None p e w = absurd cc
single-spells b bs (Some m) p e w = let z = ends-only (piece.Sign m) p bs w in rw (z.1, z.0) (sign-spelled b m e)

-- integers and reals
pub number-spells : (sign bytes : List ℕ) (n : Bool) (p : Piece) → IsSign sign n → number n bytes ≡ Some p → Spells (sign ++ bytes) p
number-spells sign bytes n p is w = elim (number-read n bytes p w) [
  | inl (are, e) ↦ elim (two-ways (nat_le (number_from 0 bytes) (limit n))) [
    | inl small ↦ (let le : number_from 0 bytes ≤ limit n = leb-true _ _ small in let q : p ≡ piece.Int (int_value n (number_from 0 bytes)) = e ∙ small-int n bytes small in rw q (n, number_from 0 bytes, int-of sign bytes n is are, le, refl))
    | inr great ↦ (let lt : limit n < number_from 0 bytes = leb-false _ _ great in let q : p ≡ piece.Faulty kind.IntRange 0 = e ∙ great-int n bytes great in rw q (n, number_from 0 bytes, int-of sign bytes n is are, lt, refl))
  ]
  | inr (r, e) ↦ rw e (real-of sign bytes n is r, refl)
]

-- comments
comment-spells : (bs : List ℕ) (p : Piece) → comment_inside bs ≡ Some p → Spells (40 ∷ 42 ∷ bs) p
comment-spells bs p w = elim (says bs (at 1 Neither) p w) [
  | inl is ↦ rw is (bs, refl, comment-inside bs (w ∙ ap (λ q. Some q) is))
  | inr is ↦ rw is ((bs, refl, λ m le c. no-front bs (w ∙ ap (λ q. Some q) is) m c), refl)
]

-- what each first byte makes of what follows it
run-dashes : (c : ℕ) (cs : List ℕ) (p : Piece) → is_dash c ≡ true → run is_dash (λ _. piece.Dashes) cs ≡ Some p → Spells (45 ∷ c ∷ cs) p
run-dashes c cs p y w = let z = run-read is_dash (λ _. piece.Dashes) cs p w in rw z.1 (omega arith, (rw (y, z.0) refl))

dash-spells : (bs : List ℕ) (p : Piece) → dash bs ≡ Some p → Spells (45 ∷ bs) p
dash-spells [] p w = absurd cc
dash-spells (c ∷ cs) p w = elim (two-ways (is_dash c)) [
  | inl y ↦ run-dashes c cs p y (rw y at w)
  | inr n ↦ number-spells (45 ∷ []) (c ∷ cs) true p (Signed 45 refl refl) (rw n at w)
]

hash-spells : (bs : List ℕ) (p : Piece) → whole (35 ∷ bs) ≡ Some p → Spells (35 ∷ bs) p
hash-spells [] p w = absurd cc
hash-spells (c ∷ cs) p w = elim (two-ways (c == 34)) [
  | inl y ↦ rw (is-eq c 34 y) (char-spells cs p (rw y at w))
  | inr n ↦ absurd (let z : None ≡ Some p = rw n at w in cc z)
]

prime-spells : (bs : List ℕ) (p : Piece) → whole (39 ∷ bs) ≡ Some p → Spells (39 ∷ bs) p
prime-spells [] p w = absurd cc
prime-spells (c ∷ cs) p w = elim (two-ways (is_letter c)) [
  | inl y ↦ (let z = run-read is_name_byte (λ _. piece.TyVar) cs p (rw y at w) in rw z.1 (c ∷ cs, refl, (c, cs, refl, y, z.0)))
  | inr n ↦ absurd (let z : None ≡ Some p = rw n at w in cc z)
]

round-spells : (bs : List ℕ) (p : Piece) → whole (40 ∷ bs) ≡ Some p → Spells (40 ∷ bs) p
round-spells [] p w = let z : piece.Sign mark.OpenRound ≡ p = cc w in rw (← z) refl
round-spells (c ∷ cs) p w = elim (two-ways (c == 42)) [
  | inl y ↦ rw (is-eq c 42 y) (comment-spells cs p (rw y at w))
  | inr n ↦ absurd (let z : None ≡ Some p = rw n at w in cc z)
]

colon-spells : (bs : List ℕ) (p : Piece) → whole (58 ∷ bs) ≡ Some p → Spells (58 ∷ bs) p
colon-spells [] p w = let z : piece.Sign mark.Colon ≡ p = cc w in rw (← z) refl
colon-spells (c ∷ cs) p w = elim (two-ways (c == 58)) [
  | inl y ↦ (let z = ends-only (piece.Sign mark.TwoColons) p cs (rw y at w) in rw (z.1, z.0, is-eq c 58 y) refl)
  | inr n ↦ absurd (let z : None ≡ Some p = rw n at w in cc z)
]

equals-spells : (bs : List ℕ) (p : Piece) → whole (61 ∷ bs) ≡ Some p → Spells (61 ∷ bs) p
equals-spells [] p w = let z : piece.Sign mark.Equals ≡ p = cc w in rw (← z) refl
equals-spells (c ∷ cs) p w = elim (two-ways (c == 62)) [
  | inl y ↦ (let z = ends-only (piece.Sign mark.Arrow) p cs (rw y at w) in rw (z.1, z.0, is-eq c 62 y) refl)
  | inr n ↦ absurd (let z : None ≡ Some p = rw n at w in cc z)
]

letter-spells : (b : ℕ) (bs : List ℕ) (p : Piece) → is_letter b ≡ true → run is_name_byte (λ bs. name_piece (b ∷ bs)) bs ≡ Some p → Spells (b ∷ bs) p
letter-spells b bs p y w = let z = run-read is_name_byte (λ bs. name_piece (b ∷ bs)) bs p w in rw z.1 (named-spells b bs (word_of (b ∷ bs)) refl y z.0)

digit-read : (b : ℕ) (bs : List ℕ) → is_digit b ≡ true → whole (b ∷ bs) ≡ number false (b ∷ bs)
digit-read b bs e = rw e refl

by-seen : (b : ℕ) (bs : List ℕ) (p : Piece) → Seen b → whole (b ∷ bs) ≡ Some p → Spells (b ∷ bs) p
by-seen b bs p (SeesDigit y) w = number-spells [] (b ∷ bs) false p (NoSign refl) (sym (digit-read b bs y) ∙ w)
by-seen b bs p (SeesBlank y on) w = let z = ends-only piece.Blank p bs (sym (on bs) ∙ w) in rw z.1 (b, ap (λ l. b ∷ l) z.0, y)
by-seen b bs p (SeesLetter y on) w = letter-spells b bs p y (sym (on bs) ∙ w)
by-seen b bs p (SeesDash e) w = rw e (dash-spells bs p (rw e at w))
by-seen b bs p (SeesTilde e) w = rw e (number-spells (126 ∷ []) bs true p (Signed 126 refl refl) (rw e at w))
by-seen b bs p (SeesQuote e) w = rw e (text-spells bs p (rw e at w))
by-seen b bs p (SeesHash e) w = rw e (hash-spells bs p (rw e at w))
by-seen b bs p (SeesPrime e) w = rw e (prime-spells bs p (rw e at w))
by-seen b bs p (SeesRound e) w = rw e (round-spells bs p (rw e at w))
by-seen b bs p (SeesColon e) w = rw e (colon-spells bs p (rw e at w))
by-seen b bs p (SeesEquals e) w = rw e (equals-spells bs p (rw e at w))
by-seen b bs p (SeesOther on) w = single-spells b bs (single_sign b) p refl (sym (on bs) ∙ w)

pub whole-spells : (s : List ℕ) (p : Piece) → whole s ≡ Some p → Spells s p
whole-spells [] p w = absurd cc
whole-spells (b ∷ bs) p w = by-seen b bs p (seen b) w

-- and back
blank-digit : (b : ℕ) → is_blank b ≡ true → is_digit b ≡ false
blank-digit b e = grind (arith, nat_tests)

pub letter-digit : (b : ℕ) → is_letter b ≡ true → is_digit b ≡ false
letter-digit b e = grind (arith, nat_tests)

pub letter-blank : (b : ℕ) → is_letter b ≡ true → is_blank b ≡ false
letter-blank b e = grind (arith, nat_tests)

name-whole : (s : List ℕ) → IsNameLike s → ((k : Key) → s ≡ word_spelling k → ⊥) → whole s ≡ Some piece.Name
name-whole s (b, bs, e, y, all) none =
    let no : word_of (b ∷ bs) ≡ None = no-word (b ∷ bs) (λ k is. none k (e ∙ is)) in
    rw e (letter-on b bs (letter-digit b y) (letter-blank b y) y ∙ run-whole is_name_byte (λ bs. name_piece (b ∷ bs)) bs all ∙ ap (λ r. Some (named r)) no)

pub prime-on : (b : ℕ) (bs : List ℕ) → is_letter b ≡ true → whole (39 ∷ b ∷ bs) ≡ run is_name_byte (λ _. piece.TyVar) bs
prime-on b bs y = rw y refl

tyvar-whole : (s : List ℕ) → Spells s piece.TyVar → whole s ≡ Some piece.TyVar
tyvar-whole s (name, e, (b, bs, is, y, all)) = rw (e, is) (prime-on b bs y ∙ run-whole is_name_byte (λ _. piece.TyVar) bs all)

sign-whole : (m : Mark) → whole (sign_spelling m) ≡ Some (piece.Sign m)
sign-whole mark.OpenRound = refl
sign-whole mark.CloseRound = refl
sign-whole mark.OpenSquare = refl
sign-whole mark.CloseSquare = refl
sign-whole mark.Comma = refl
sign-whole mark.Colon = refl
sign-whole mark.TwoColons = refl
sign-whole mark.Arrow = refl
sign-whole mark.Equals = refl
sign-whole mark.Amp = refl
sign-whole mark.Bar = refl
sign-whole mark.Star = refl
sign-whole mark.Dot = refl
sign-whole mark.Wild = refl

signed-int : (s : List ℕ) (n : Bool) (v : ℕ) (i : IsInt s n v) → whole s ≡ Some (int_piece n i.digits)
signed-int s n v i = ap (λ l. whole l) (i.spelled ∙ ap (λ l. i.sign ++ l) (sym (append-nil i.digits))) ∙ signed-whole i.sign n i.digits [] i.sign_is i.digits_are ∙ ap (λ l. number n l) (append-nil i.digits) ∙ int-whole n i.digits i.digits_are

le-leb : (a b : ℕ) → a ≤ b → nat_le a b ≡ true
le-leb a b h = grind (arith, nat_tests)

lt-not-leb : (a b : ℕ) → b < a → nat_le a b ≡ false
lt-not-leb a b h = grind (arith, nat_tests)

int-whole-is : (s : List ℕ) (n : Bool) (v : ℕ) → IsInt s n v → v ≤ limit n → whole s ≡ Some (piece.Int (int_value n v))
int-whole-is s n v i le = rw i.value (signed-int s n v i ∙ ap (λ q. Some q) (small-int n i.digits (le-leb _ _ (rw i.value at le))))

range-whole : (s : List ℕ) (n : Bool) (v : ℕ) → IsInt s n v → limit n < v → whole s ≡ Some (piece.Faulty kind.IntRange 0)
range-whole s n v i lt = signed-int s n v i ∙ ap (λ q. Some q) (great-int n i.digits (lt-not-leb _ _ (rw i.value at lt)))

real-spelled : (s : List ℕ) → IsReal s → whole s ≡ Some real
real-spelled s r =
    let i = r.int_is in
    let is : s ≡ i.sign ++ (i.digits ++ r.end) = r.spelled ∙ ap (λ l. l ++ r.end) i.spelled ∙ append_assoc i.sign i.digits r.end in
    ap (λ l. whole l) is ∙ signed-whole i.sign r.is_negative i.digits r.end i.sign_is i.digits_are ∙ real-whole r.is_negative i.digits r.end i.digits_are r.end_is

pub dashes-on : (c : ℕ) (cs : List ℕ) → is_dash c ≡ true → whole (45 ∷ c ∷ cs) ≡ run is_dash (λ _. piece.Dashes) cs
dashes-on c cs e = rw e refl

dashes-whole : (s : List ℕ) → 2 ≤ length s → list_all is_dash s ≡ true → whole s ≡ Some piece.Dashes
dashes-whole [] le all = absurd (omega arith)
dashes-whole (b ∷ []) le all = absurd (omega arith)
dashes-whole (b ∷ c ∷ cs) le all =
    let first : is_dash b ≡ true = and-left (is_dash b) (is_dash c && list_all is_dash cs) all in
    let rest : (is_dash c && list_all is_dash cs) ≡ true = and-right (is_dash b) (is_dash c && list_all is_dash cs) all in
    let is : b ≡ 45 = is-eq b 45 first in
    rw is (dashes-on c cs (and-left (is_dash c) (list_all is_dash cs) rest) ∙ run-whole is_dash (λ _. piece.Dashes) cs (and-right (is_dash c) (list_all is_dash cs) rest))

small-text : (n : ℕ) → n ≤ 65535 → closed_text n ≡ piece.Text
small-text n le = rw (le-leb n 65535 le) refl

long-text : (n : ℕ) → 65535 < n → closed_text n ≡ piece.Faulty kind.LongString 0
long-text n lt = rw (lt-not-leb n 65535 lt) refl

comment-whole : (s : List ℕ) → IsComment s → whole s ≡ Some piece.Comment
comment-whole s (inside, e, is) = rw e (inside-whole inside is)

open-comment : (s : List ℕ) → IsOpenComment s → whole s ≡ Some (piece.Faulty kind.OpenComment 0)
open-comment s (inside, e, none) = rw e (open-inside inside (rw e at none))

fault-whole : (s : List ℕ) (k : LexKind) (at : ℕ) → SpellsFault s k at → whole s ≡ Some (piece.Faulty k at)
fault-whole s kind.BadByte at (opening, values, b, e, opens, stray, is) = rw e (stray-whole opening values b at opens stray is)
fault-whole s kind.OpenComment at (is, z) = rw z (open-comment s is)
fault-whole s kind.OpenString at (values, opens, z) = rw z (open-whole s values opens)
fault-whole s kind.BadEscape at (inl (opening, values, cut, e, opens, is, z)) = rw e (cut-whole opening values cut at opens is z)
fault-whole s kind.BadEscape at (inr (inl (e, z))) = rw (e, z) refl
fault-whole s kind.BadEscape at (inr (inr (inside, v, w, e, are, z))) = rw (e, z) (two-whole inside v w are)
fault-whole s kind.IntRange at (n, v, i, lt, z) = rw z (range-whole s n v i lt)
fault-whole s kind.Real at (r, z) = rw z (real-spelled s r)
fault-whole s kind.LongString at (values, is, lt, z) = rw z (text-whole s values is ∙ ap (λ q. Some q) (long-text (length values) lt))

pub spells-whole : (s : List ℕ) (p : Piece) → Spells s p → whole s ≡ Some p
spells-whole s piece.Blank (b, e, y) = rw e (blank-on b [] (blank-digit b y) y)
spells-whole s piece.Comment is = comment-whole s is
spells-whole s (piece.Word k) e = rw e (word-whole k)
spells-whole s piece.Name (is, none) = name-whole s is none
spells-whole s piece.TyVar is = tyvar-whole s is
spells-whole s (piece.Int i) (n, v, is, le, e) = rw e (int-whole-is s n v is le)
spells-whole s (piece.Char v) (inside, e, is) = rw e (char-whole inside v is)
spells-whole s piece.Text (values, is, le) = text-whole s values is ∙ ap (λ q. Some q) (small-text (length values) le)
spells-whole s piece.Dashes (le, all) = dashes-whole s le all
spells-whole s (piece.Sign m) e = rw e (sign-whole m)
spells-whole s (piece.Faulty k at) f = fault-whole s k at f

pub one-piece : (s : List ℕ) (p q : Piece) → Spells s p → Spells s q → p ≡ q
one-piece s p q a b = let e : Some p ≡ Some q = sym (spells-whole s p a) ∙ spells-whole s q b in cc e

-- the longest piece
spells-nothing : (s : List ℕ) (r : Option Piece) → whole s ≡ r → ((p : Piece) → Spells s p → ⊥) → r ≡ None
spells-nothing s None e none = refl
spells-nothing s (Some p) e none = absurd (none p (whole-spells s p e))

not-spelled : (s : List ℕ) (p : Piece) → whole s ≡ None → Spells s p → ⊥
not-spelled s p e is = let z : None ≡ Some p = sym e ∙ spells-whole s p is in cc z

pub longest-is : (bytes : List ℕ) (n : ℕ) (p : Piece) → Longest whole bytes n p → IsLongest bytes n p
longest-is bytes n p l = record { within = l.within; spelled = whole-spells (take n bytes) p l.spelled; longer = λ m q lt le is. not-spelled (take m bytes) q (l.longer m lt le) is }

pub is-longest : (bytes : List ℕ) (n : ℕ) (p : Piece) → IsLongest bytes n p → Longest whole bytes n p
is-longest bytes n p l = record { within = l.within; spelled = spells-whole (take n bytes) p l.spelled; longer = λ m lt le. spells-nothing (take m bytes) (whole (take m bytes)) refl (λ q is. l.longer m q lt le is) }

pub stuck-is : (bytes : List ℕ) → Stuck whole bytes → BeginsNothing bytes
stuck-is bytes stuck m p le is = not-spelled (take m bytes) p (stuck m le) is

pub is-stuck : (bytes : List ℕ) → BeginsNothing bytes → Stuck whole bytes
is-stuck bytes none m le = spells-nothing (take m bytes) (whole (take m bytes)) refl (λ p is. none m p le is)

-- what is found is the longest piece, or none begins there
pub found-is : (bytes : List ℕ) (r : Option (ℕ × Piece)) → MatchOption r (Stuck whole bytes) (λ x. Longest whole bytes x.0 x.1) → MatchOption r (BeginsNothing bytes) (λ x. IsLongest bytes x.0 x.1)
found-is bytes None h = stuck-is bytes h
found-is bytes (Some x) h = longest-is bytes x.0 x.1 h
