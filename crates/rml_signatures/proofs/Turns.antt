-- Turns of loops, whole lists against what is left of them.
use Rattle.std.proofs.Common.{◌≡◌, ℕ, ◌+◌, ◌<◌, ◌≤◌, ◌^◌, Bool, true, false, List, ◌∷◌, ◌++◌, length, drop, get_or, refl, sym, ap, ◌∙◌, arith, append_assoc, add-one, Option}
use Rattle.std.specs.Prelude.{filter, nat_eq, if◌then◌else◌, slice_get}
use Rattle.std.proofs.Math.ListN.{drop_of_length-le}
use Rattle.std.proofs.lemmas.List.{drop_more}
use Rattle.rml_syntax.specs.declared.texts.Decl.{Decl}
use Rattle.rml_syntax.specs.declared.texts.Text.{Text}
use Rattle.rml_tables.specs.Words.{with_each, with_name}
use Rattle.rml_outlines.specs.declared.known.Known.{Known}
use Rattle.rml_signatures.specs.Definitions.{declared_types, definitions_from, definitions_in, types_among, types_in}
use Rattle.rml_signatures.specs.Numbers.{capped}
use Rattle.rml_signatures.specs.declared.definitions.Definition.{Definition}
use Rattle.rml_signatures.specs.declared.numbers.Numbers.{Numbers}

-- a list splits at a place into what stands there and what is behind it
pub split : {X : Type 0} (xs : List X) (i : ℕ) (x : X) → i < length xs → get_or xs i x ≡ x → drop i xs ≡ x ∷ drop (i + 1) xs
split xs i x lt at = drop_more xs i x lt ∙ ap (λ y. y ∷ drop (i + 1) xs) at

-- what is left gave a piece, which stands behind the old now
pub appended : {Y : Type 0} (whole old piece left right new : List Y) → whole ≡ old ++ left → left ≡ piece ++ right → new ≡ old ++ piece → whole ≡ new ++ right
appended whole old piece left right new before gave is = before ∙ ap (λ ys. old ++ ys) gave ∙ sym (append_assoc old piece right) ∙ ap (λ ys. ys ++ right) (sym is)

-- a name that passes a test is added, and one that does not is not
pub with-filtered : (test : ℕ → Bool) (old : List ℕ) (n : ℕ) (ns : List ℕ) (answer : Bool) → answer ≡ test n
    → with_each nat_eq old (filter test (n ∷ ns)) ≡ with_each nat_eq (if answer then with_name nat_eq old n else old) (filter test ns)
with-filtered test old n ns answer e = go (test n) refl answer e where
  go : (b : Bool) → test n ≡ b → (a : Bool) → a ≡ test n → with_each nat_eq old (filter test (n ∷ ns)) ≡ with_each nat_eq (if a then with_name nat_eq old n else old) (filter test ns)
  go true t a e = rw (e, t) refl
  go false t a e = rw (e, t) refl

-- counts that stand still at their type's end
pub capped-more : (whole a b c : ℕ) → whole ≡ capped (a + (b + c)) → whole ≡ capped (capped (a + b) + c)
capped-more whole a b c e = omega arith

pub capped-none : (a : ℕ) → a < 2 ^ 32 → capped (a + 0) ≡ a
capped-none a lt = omega arith

pub types-counted : (decls : List Decl) (i whole count : ℕ) → length decls ≤ i → count < 2 ^ 32 → whole ≡ capped (count + types_among (drop i decls)) → count ≡ whole
types-counted decls i whole count done fits e = sym (e ∙ ap (λ ds. capped (count + types_among ds)) (drop_of_length-le decls done) ∙ capped-none count fits)

pub texts-counted : (texts : List Text) (i whole count : ℕ) → length texts ≤ i → count < 2 ^ 32 → whole ≡ capped (count + declared_types (drop i texts)) → count ≡ whole
texts-counted texts i whole count done fits e = sym (e ∙ ap (λ ts. capped (count + declared_types ts)) (drop_of_length-le texts done) ∙ capped-none count fits)

-- a turn of each loop whose list is told by a recursion of its own

pub types-turn : (decls : List Decl) (i : ℕ) (d : Decl) (whole old counted new : ℕ) → i < length decls → get_or decls i d ≡ d → whole ≡ capped (old + types_among (drop i decls)) → counted ≡ types_in d
    → new ≡ capped (old + counted) → whole ≡ capped (new + types_among (drop (i + 1) decls))
types-turn decls i d whole old counted new lt at before is then_is =
    capped-more whole old (types_in d) (types_among (drop (i + 1) decls)) (before ∙ ap (λ ds. capped (old + types_among ds)) (split decls i d lt at))
    ∙ ap (λ m. capped (m + types_among (drop (i + 1) decls))) (sym (then_is ∙ ap (λ k. capped (old + k)) is))

pub texts-turn : (texts : List Text) (i : ℕ) (t : Text) (whole old middle new : ℕ) → i < length texts → get_or texts i t ≡ t → whole ≡ capped (old + declared_types (drop i texts))
    → middle ≡ capped (old + types_among t.specs) → new ≡ capped (middle + types_among t.decls) → whole ≡ capped (new + declared_types (drop (i + 1) texts))
texts-turn texts i t whole old middle new lt at before is then_is =
    let a = types_among t.specs in
    let b = types_among t.decls in
    let rest = declared_types (drop (i + 1) texts) in
    let e : whole ≡ capped (old + (a + b + rest)) = before ∙ ap (λ ts. capped (old + declared_types ts)) (split texts i t lt at) in
    let f : whole ≡ capped (capped (capped (old + a) + b) + rest) = omega arith in
    f ∙ ap (λ m. capped (capped (m + b) + rest)) (sym is) ∙ ap (λ m. capped (m + rest)) (sym then_is)

pub definitions-turn : (k : Known) (n : Numbers) (plain : Bool) (texts : List Text) (i : ℕ) (t : Text) (whole old new : List (Option Definition)) → i < length texts → get_or texts i t ≡ t
    → whole ≡ old ++ definitions_from k n plain i (drop i texts) → new ≡ old ++ definitions_in k plain i t (slice_get n.texts i) → whole ≡ new ++ definitions_from k n plain (i + 1) (drop (i + 1) texts)
definitions-turn k n plain texts i t whole old new lt at before is =
    appended whole old (definitions_in k plain i t (slice_get n.texts i)) (definitions_from k n plain i (drop i texts)) (definitions_from k n plain (i + 1) (drop (i + 1) texts)) new before
    (ap (definitions_from k n plain i) (split texts i t lt at) ∙ ap (λ j. definitions_in k plain i t (slice_get n.texts i) ++ definitions_from k n plain j (drop (i + 1) texts)) (sym (add-one i))) is
