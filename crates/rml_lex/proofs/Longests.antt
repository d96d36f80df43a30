-- The longest piece, form by form.
use Rattle.std.proofs.Common.{◌≡◌, ℕ, zero, suc, ◌+◌, ◌-◌, ◌<◌, ◌≤◌, Bool, true, false, cond, List, [], ◌∷◌, length, take, drop, get_or, refl, sym, subst, ◌∙◌, arith, Option, Some, None, add-one}
use Rattle.std.specs.List.{list_all, prefix_len, AllPass}
use Rattle.std.proofs.lemmas.List.Sums.{AllPass-from_list_all}
use Rattle.std.proofs.lemmas.List.Folds.{length-prefix_len}
use Rattle.std.proofs.lemmas.List.{drop-take}
use Rattle.std.proofs.Common.{length-drop, lt-ltb}
use Rattle.std.proofs.lemmas.List.Sums.{prefix_len-le-length}
use Rattle.std.proofs.lemmas.Grind.{common_steps}
use Rattle.std.specs.Prelude.{MatchOption}
use Rattle.rml_lex.specs.declared.piece.Piece.{Piece}
use Rattle.rml_lex.specs.Machine.{ends, ends_or, follows, run, digits_then, Longest, Stuck}
use Rattle.rml_lex.specs.Bytes.{is_digit}

nothing : (p : Piece) (bytes : List ℕ) (m : ℕ) → 0 < m → m ≤ length bytes → ends p (take m bytes) ≡ None
nothing p [] m lt le = absurd (omega arith)
nothing p (b ∷ bs) zero lt le = absurd (omega arith)
nothing p (b ∷ bs) (suc m) lt le = refl

pub ends-longest : (p : Piece) (bytes : List ℕ) → Longest (ends p) bytes 0 p
ends-longest p bytes = record {
  within = omega arith;
  spelled = refl;
  longer = λ m lt le. nothing p bytes m lt le;
}

-- one byte in front
pub in_front : (f g : List ℕ → Option Piece) (b : ℕ) (bs : List ℕ) (n : ℕ) (p : Piece) → ((s : List ℕ) → f (b ∷ s) ≡ g s) → Longest g bs n p → Longest f (b ∷ bs) (n + 1) p
in_front f g b bs n p same l = record {
  within = (let h = l.within in omega arith);
  spelled = rw add-one (same (take n bs) ∙ l.spelled);
  longer = λ m lt le.
      let k = m - 1 in
      let is : m ≡ suc k = omega arith in
      rw is (same (take k bs) ∙ l.longer k (omega arith) (omega arith));
}

pub stuck_in_front : (f g : List ℕ → Option Piece) (b : ℕ) (bs : List ℕ) → f [] ≡ None → ((s : List ℕ) → f (b ∷ s) ≡ g s) → Stuck g bs → Stuck f (b ∷ bs)
stuck_in_front f g b bs nothing same stuck zero le = nothing
stuck_in_front f g b bs nothing same stuck (suc m) le = same (take m bs) ∙ stuck m (omega arith)

pub all-prefix : (q : ℕ → Bool) (bytes : List ℕ) → list_all q (take (prefix_len q bytes) bytes) ≡ true
all-prefix q [] = refl
all-prefix q (b ∷ bs) = elim (q b) as (λ v. q b ≡ v → list_all q (take (cond v (1 + prefix_len q bs) 0) (b ∷ bs)) ≡ true) [
  | true ↦ λ e. grind (arith, common_steps, all-prefix q bs)
  | false ↦ λ e. refl
] refl

run-fails : (q : ℕ → Bool) (bytes : List ℕ) (m : ℕ) → prefix_len q bytes < m → m ≤ length bytes → list_all q (take m bytes) ≡ false
run-fails q [] m lt le = absurd (omega arith)
run-fails q (b ∷ bs) zero lt le = absurd (omega arith)
run-fails q (b ∷ bs) (suc m) lt le = grind (arith, common_steps, run-fails q bs m)

pub run-longest : (q : ℕ → Bool) (p : List ℕ → Piece) (bytes : List ℕ) (n : ℕ) → n ≡ length (take (prefix_len q bytes) bytes) → Longest (run q p) bytes n (p (take n bytes))
run-longest q p bytes n e =
    let is : n ≡ prefix_len q bytes = e ∙ length-prefix_len q bytes in
    rw is (record {
      within = prefix_len-le-length q bytes;
      spelled = rw (all-prefix q bytes) refl;
      longer = λ m lt le. rw (run-fails q bytes m lt le) refl;
    })

pub taken-pass : (q : ℕ → Bool) (bytes : List ℕ) (n : ℕ) → n ≡ length (take (prefix_len q bytes) bytes) → AllPass q (take n bytes)
taken-pass q bytes n e =
    let is : n ≡ prefix_len q bytes = e ∙ length-prefix_len q bytes in
    rw is (AllPass-from_list_all q (take (prefix_len q bytes) bytes) (all-prefix q bytes))

-- two readings that agree on every front
pub same_longest : (f g : List ℕ → Option Piece) (bytes : List ℕ) (n : ℕ) (p : Piece) → ((m : ℕ) → m ≤ length bytes → f (take m bytes) ≡ g (take m bytes)) → Longest g bytes n p → Longest f bytes n p
same_longest f g bytes n p same l = record {
  within = l.within;
  spelled = (let h = l.within in same n h ∙ l.spelled);
  longer = λ m lt le. same m le ∙ l.longer m lt le;
}

-- what some length of a reading means, if there is one
abbrev pub Found : (List ℕ → Option Piece) → List ℕ → Option (ℕ × Piece) → Type 0
Found f bytes r = MatchOption r (Stuck f bytes) (λ r. Longest f bytes r.0 r.1)

pub turned : (f g : List ℕ → Option Piece) (bytes : List ℕ) (r : Option (ℕ × Piece)) → ((m : ℕ) → m ≤ length bytes → f (take m bytes) ≡ g (take m bytes)) → Found g bytes r → Found f bytes r
turned f g bytes None same h = λ m le. same m le ∙ h m le
turned f g bytes (Some x) same h = same_longest f g bytes x.0 x.1 same h

-- a first byte that passes a test
pub follows-longest : (test : ℕ → Bool) (more : List ℕ → Option Piece) (b : ℕ) (bs : List ℕ) (n : ℕ) (p : Piece) → test b ≡ true → Longest more bs n p → Longest (follows test more) (b ∷ bs) (n + 1) p
follows-longest test more b bs n p e l = in_front (follows test more) more b bs n p (λ s. rw e refl) l

pub follows-stuck : (test : ℕ → Bool) (more : List ℕ → Option Piece) (b : ℕ) (bs : List ℕ) → test b ≡ true → Stuck more bs → Stuck (follows test more) (b ∷ bs)
follows-stuck test more b bs e stuck = stuck_in_front (follows test more) more b bs refl (λ s. rw e refl) stuck

pub follows-other : (test : ℕ → Bool) (more : List ℕ → Option Piece) (b : ℕ) (bs : List ℕ) → test b ≡ false → Stuck (follows test more) (b ∷ bs)
follows-other test more b bs e zero le = refl
follows-other test more b bs e (suc m) le = rw e refl

pub follows-none : (test : ℕ → Bool) (more : List ℕ → Option Piece) → Stuck (follows test more) []
follows-none test more zero le = refl
follows-none test more (suc m) le = absurd (omega arith)

-- digits, and what follows them
prefix-within : (q : ℕ → Bool) (bytes : List ℕ) (m : ℕ) → m ≤ prefix_len q bytes → prefix_len q (take m bytes) ≡ m
prefix-within q bytes zero le = refl
prefix-within q [] (suc m) le = absurd (omega arith)
prefix-within q (b ∷ bs) (suc m) le = elim (q b) as (λ v. suc m ≤ cond v (1 + prefix_len q bs) 0 → cond v (1 + prefix_len q (take m bs)) 0 ≡ suc m) [
  | true ↦ λ h. rw (prefix-within q bs m (omega arith)) (omega arith)
  | false ↦ λ h. absurd (omega arith)
] le

pub prefix-beyond : (q : ℕ → Bool) (bytes : List ℕ) (m : ℕ) → prefix_len q bytes ≤ m → prefix_len q (take m bytes) ≡ prefix_len q bytes
prefix-beyond q [] zero le = refl
prefix-beyond q [] (suc m) le = refl
prefix-beyond q (b ∷ bs) zero le = let z : prefix_len q (b ∷ bs) ≡ 0 = omega arith in rw z refl
prefix-beyond q (b ∷ bs) (suc m) le = elim (q b) as (λ v. cond v (1 + prefix_len q bs) 0 ≤ suc m → cond v (1 + prefix_len q (take m bs)) 0 ≡ cond v (1 + prefix_len q bs) 0) [
  | true ↦ λ h. rw (prefix-beyond q bs m (omega arith)) refl
  | false ↦ λ h. refl
] le

take-take-more : (n k : ℕ) (bytes : List ℕ) → take n (take (n + k) bytes) ≡ take n bytes
take-take-more n k bytes = grind (arith, common_steps)

digits_then-is : (more : List ℕ → List ℕ → Option Piece) (s : List ℕ) (n : ℕ) → prefix_len is_digit s ≡ n → 0 < n → digits_then more s ≡ more (take n s) (drop n s)
digits_then-is more s n e pos = rw (e, lt-ltb 0 n pos) refl

digits_then-none : (more : List ℕ → List ℕ → Option Piece) (s : List ℕ) → prefix_len is_digit s ≡ 0 → digits_then more s ≡ None
digits_then-none more s e = rw e refl

-- a front that has all the digits and k bytes more
digits-beyond : (more : List ℕ → List ℕ → Option Piece) (bytes : List ℕ) (n k : ℕ) → prefix_len is_digit bytes ≡ n → 0 < n → digits_then more (take (n + k) bytes) ≡ more (take n bytes) (take k (drop n bytes))
digits-beyond more bytes n k e pos =
    let is : prefix_len is_digit (take (n + k) bytes) ≡ n = prefix-beyond is_digit bytes (n + k) (omega arith) ∙ e in
    digits_then-is more (take (n + k) bytes) n is pos ∙ rw (take-take-more n k bytes, drop-take n k bytes) refl

pub digits-longest : (more : List ℕ → List ℕ → Option Piece) (bytes : List ℕ) (n j : ℕ) (p : Piece) → n ≡ length (take (prefix_len is_digit bytes) bytes) → 0 < n → Longest (more (take n bytes)) (drop n bytes) j p → Longest (digits_then more) bytes (n + j) p
digits-longest more bytes n j p en pos l =
    let e : prefix_len is_digit bytes ≡ n = sym (en ∙ length-prefix_len is_digit bytes) in
    let bound = prefix_len-le-length is_digit bytes in
    record {
      within = (let h = l.within in omega (arith, length-drop n bytes, bound));
      spelled = digits-beyond more bytes n j e pos ∙ l.spelled;
      longer = λ m lt le.
          let k = m - n in
          let is : m ≡ n + k = omega arith in
          rw is (digits-beyond more bytes n k e pos ∙ l.longer k (omega arith) (omega (arith, length-drop n bytes)));
    }

pub digits-stuck : (more : List ℕ → List ℕ → Option Piece) (bytes : List ℕ) (n : ℕ) → n ≡ length (take (prefix_len is_digit bytes) bytes) → n ≡ 0 → Stuck (digits_then more) bytes
digits-stuck more bytes n en z m le =
    let e : prefix_len is_digit bytes ≡ 0 = sym (en ∙ length-prefix_len is_digit bytes) ∙ z in
    digits_then-none more (take m bytes) (prefix-beyond is_digit bytes m (omega arith) ∙ e)

-- something, or what follows it
else-same : (p : Piece) (f : List ℕ → Option Piece) (bytes : List ℕ) (m : ℕ) → 0 < m → m ≤ length bytes → ends_or p f (take m bytes) ≡ f (take m bytes)
else-same p f [] m pos le = absurd (omega arith)
else-same p f (b ∷ bs) zero pos le = absurd (omega arith)
else-same p f (b ∷ bs) (suc m) pos le = refl

pub ends_or-stuck : (p : Piece) (f : List ℕ → Option Piece) (bytes : List ℕ) → Stuck f bytes → Longest (ends_or p f) bytes 0 p
ends_or-stuck p f bytes stuck = record { within = omega arith; spelled = refl; longer = λ m lt le. else-same p f bytes m lt le ∙ stuck m le }

some-pos : (f : List ℕ → Option Piece) (bytes : List ℕ) (n : ℕ) (p : Piece) → f [] ≡ None → f (take n bytes) ≡ Some p → 0 < n
some-pos f bytes zero p none e = absurd (cc (none, e))
some-pos f bytes (suc n) p none e = omega arith

pub longest-pos : (f : List ℕ → Option Piece) (bytes : List ℕ) (n : ℕ) (p : Piece) → f [] ≡ None → Longest f bytes n p → 0 < n
longest-pos f bytes n p none l = some-pos f bytes n p none l.spelled

pub ends_or-longest : (p q : Piece) (f : List ℕ → Option Piece) (bytes : List ℕ) (n : ℕ) → f [] ≡ None → Longest f bytes n q → Longest (ends_or p f) bytes n q
ends_or-longest p q f bytes n none l =
    let pos = longest-pos f bytes n q none l in
    record {
      within = l.within;
      spelled = (let h = l.within in else-same p f bytes n pos h ∙ l.spelled);
      longer = λ m lt le. else-same p f bytes m (omega arith) le ∙ l.longer m lt le;
    }

-- bytes by their first one
abbrev pub tail : List ℕ → List ℕ
tail bytes = take (length bytes - 1) (drop 1 bytes)

take-length : (bs : List ℕ) → take (length bs + 1 - 1) bs ≡ bs
take-length bs = grind (arith, common_steps)

pub opened : (bytes : List ℕ) → 1 ≤ length bytes → bytes ≡ get_or bytes 0 0 ∷ tail bytes
opened [] le = absurd (omega arith)
opened (b ∷ bs) le = grind (arith, common_steps)

pub front-longest : (f g : List ℕ → Option Piece) (bytes : List ℕ) (n : ℕ) (p : Piece) → 1 ≤ length bytes → ((s : List ℕ) → f (get_or bytes 0 0 ∷ s) ≡ g s) → Longest g (tail bytes) n p → Longest f bytes (n + 1) p
front-longest f g bytes n p le same l = subst (λ (x : List ℕ). Longest f x (n + 1) p) (sym (opened bytes le)) (in_front f g (get_or bytes 0 0) (tail bytes) n p same l)

pub front-stuck : (f g : List ℕ → Option Piece) (bytes : List ℕ) → 1 ≤ length bytes → f [] ≡ None → ((s : List ℕ) → f (get_or bytes 0 0 ∷ s) ≡ g s) → Stuck g (tail bytes) → Stuck f bytes
front-stuck f g bytes le none same l = subst (λ (x : List ℕ). Stuck f x) (sym (opened bytes le)) (stuck_in_front f g (get_or bytes 0 0) (tail bytes) none same l)

-- two readings that agree where the first byte is as it is
pub fronts : (f g : List ℕ → Option Piece) (bytes : List ℕ) → f [] ≡ g [] → (1 ≤ length bytes → (s : List ℕ) → f (get_or bytes 0 0 ∷ s) ≡ g (get_or bytes 0 0 ∷ s)) → (m : ℕ) → m ≤ length bytes → f (take m bytes) ≡ g (take m bytes)
fronts f g bytes none same zero le = none
fronts f g [] none same (suc m) le = absurd (omega arith)
fronts f g (b ∷ bs) none same (suc m) le = same (omega arith) (take m bs)

pub stuck-same : (f g : List ℕ → Option Piece) (bytes : List ℕ) → ((m : ℕ) → m ≤ length bytes → f (take m bytes) ≡ g (take m bytes)) → Stuck g bytes → Stuck f bytes
stuck-same f g bytes same stuck m le = same m le ∙ stuck m le

-- the same where all pieces are one
pub turned-length : (f g : List ℕ → Option Piece) (bytes : List ℕ) (p : Piece) (r : Option ℕ) → ((m : ℕ) → m ≤ length bytes → f (take m bytes) ≡ g (take m bytes)) → MatchOption r (Stuck g bytes) (λ n. Longest g bytes n p) → MatchOption r (Stuck f bytes) (λ n. Longest f bytes n p)
turned-length f g bytes p None same h = stuck-same f g bytes same h
turned-length f g bytes p (Some n) same h = same_longest f g bytes n p same h
