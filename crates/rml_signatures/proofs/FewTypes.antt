-- Few types stand for others: at most as many as the texts declare.
use Rattle.std.proofs.Common.{◌≡◌, ℕ, suc, ◌+◌, ◌≤◌, Bool, true, false, List, [], ◌∷◌, ◌++◌, length, map, refl, ap, ◌∙◌, arith, Option, None, Some}
use Rattle.std.specs.Prelude.{◌||◌, not, nat_eq, filter, is_none, is_some, slice_get, cond, if◌then◌else◌}
use Rattle.std.specs.Map.{keys_of, lookup}
use Rattle.std.proofs.lemmas.Bool.Decides.{nat_tests}
use Rattle.std.proofs.lemmas.List.{length-append, length-map}
use Rattle.rml_syntax.specs.declared.texts.Decl.{Decl}
use Rattle.rml_syntax.specs.declared.texts.Decl.TheVariants as decl
use Rattle.rml_syntax.specs.declared.texts.Text.{Text}
use Rattle.rml_tables.specs.Words.{has, with_each, with_name}
use Rattle.rml_outlines.specs.Lookups.{body_type, interface_type}
use Rattle.rml_outlines.specs.declared.known.Known.{Known}
use Rattle.rml_outlines.specs.declared.outline.Outline.{Outline}
use Rattle.rml_signatures.specs.Definitions.{declared_types, definition, definitions_from, definitions_in, definitions_of, is_abstype_entry, nothing, placed, types_among, types_in}
use Rattle.rml_signatures.specs.Numbers.{capped, count_from, given_names, is_abbrev_entry, is_of_run, is_plain, names_in, names_of_run, numbered_text, numbers_of}
use Rattle.rml_signatures.specs.Places.{name_in, places_from, places_of, with_place}
use Rattle.rml_signatures.specs.declared.definitions.Definition.{Definition}
use Rattle.rml_signatures.specs.declared.numbers.NumberedText.{NumberedText}
use Rattle.rml_signatures.specs.declared.numbers.Numbers.{Numbers}
use Rattle.rml_signatures.specs.declared.places.Space.TheVariants as space
use Rattle.rml_signatures.proofs.PlainTypes.{AreFrom, all-from, first-of, from-next, from-none}

-- how often a name stands among some, and how often those of a list do
abbrev one : Bool → ℕ
one true = 1
one false = 0

abbrev times : ℕ → List ℕ → ℕ
times k [] = 0
times k (n ∷ ns) = one (nat_eq k n) + times k ns

abbrev hits : List ℕ → List ℕ → ℕ
hits [] names = 0
hits (k ∷ ks) names = times k names + hits ks names

abbrev some : List (Option Definition) → ℕ
some ds = length (filter is_some ds)

-- a set has each name once, where it has it

times-append : (k : ℕ) (xs ys : List ℕ) → times k (xs ++ ys) ≡ times k xs + times k ys
times-append k [] ys = omega arith
times-append k (x ∷ xs) ys = let h = times-append k xs ys in omega arith

none-there : (n : ℕ) (old : List ℕ) → has nat_eq n old ≡ false → times n old ≡ 0
none-there n [] e = refl
none-there n (m ∷ ms) e = go (nat_eq n m) (has nat_eq n ms) (λ h. none-there n ms h) e where
  go : (a b : Bool) → (b ≡ false → times n ms ≡ 0) → (a || b) ≡ false → one a + times n ms ≡ 0
  go true b h e = absurd (cc e)
  go false b h e = let i = h e in omega arith

one-same : (test : ℕ → Bool) (k n : ℕ) (old : List ℕ) (b : Bool) → nat_eq k n ≡ b → has nat_eq n old ≡ false → test n ≡ true → times k old ≤ one (test k) → times k old + one b ≤ one (test k)
one-same test k n old false e h t le = omega arith
one-same test k n old true e h t le =
    let same : k ≡ n = grind (arith, nat_tests) in
    let none : times k old ≡ 0 = ap (λ m. times m old) same ∙ none-there n old h in
    let is : one (test k) ≡ 1 = ap one (ap test same ∙ t) in
    omega arith

named-once : (test : ℕ → Bool) (k n : ℕ) (old : List ℕ) → test n ≡ true → times k old ≤ one (test k) → times k (with_name nat_eq old n) ≤ one (test k)
named-once test k n old t le = go (has nat_eq n old) refl where
  go : (b : Bool) → has nat_eq n old ≡ b → times k (if b then old else old ++ n ∷ []) ≤ one (test k)
  go true h = le
  go false h =
      let a : times k (old ++ n ∷ []) ≡ times k old + (one (nat_eq k n) + 0) = times-append k old (n ∷ []) in
      let b = one-same test k n old (nat_eq k n) refl h t le in
      omega arith

filtered-once : (test : ℕ → Bool) (k : ℕ) (names old : List ℕ) → times k old ≤ one (test k) → times k (with_each nat_eq old (filter test names)) ≤ one (test k)
filtered-once test k [] old le = le
filtered-once test k (n ∷ ns) old le = go (λ more p. filtered-once test k ns more p) (test n) refl where
  go : ((more : List ℕ) → times k more ≤ one (test k) → times k (with_each nat_eq more (filter test ns)) ≤ one (test k)) → (b : Bool) → test n ≡ b
      → times k (with_each nat_eq old (if b then n ∷ filter test ns else filter test ns)) ≤ one (test k)
  go rest true t = rest (with_name nat_eq old n) (named-once test k n old t le)
  go rest false t = rest old le

either-run : (b : Bool) → one (not b) + one b ≡ 1
either-run true = omega arith
either-run false = omega arith

runs-once : (o : Outline) (k : ℕ) → times k (names_of_run false o) + times k (names_of_run true o) ≤ 1
unfolding names_of_run
runs-once o k =
    let a = filtered-once (is_of_run false o) k (names_in o) [] (omega arith) in
    let b = filtered-once (is_of_run true o) k (names_in o) [] (omega arith) in
    let c : one (is_of_run false o k) + one (is_of_run true o k) ≡ 1 = either-run (is_plain o k) in
    omega arith

hits-once : (ks xs ys : List ℕ) → ((k : ℕ) → times k xs + times k ys ≤ 1) → hits ks xs + hits ks ys ≤ length ks
hits-once [] xs ys each = omega arith
hits-once (k ∷ ks) xs ys each = let h = hits-once ks xs ys each in let e = each k in omega arith

-- each name that something is made of stands among some others

hits-none : (ks : List ℕ) → hits ks [] ≡ 0
hits-none [] = refl
hits-none (k ∷ ks) = let h = hits-none ks in omega arith

abbrev found : List ℕ → ℕ → ℕ
found [] n = 0
found (k ∷ ks) n = one (nat_eq k n) + found ks n

hits-more : (ks : List ℕ) (n : ℕ) (ns : List ℕ) → hits ks (n ∷ ns) ≡ found ks n + hits ks ns
hits-more [] n ns = omega arith
hits-more (k ∷ ks) n ns = let h = hits-more ks n ns in omega arith

found-there : (ks : List ℕ) (n : ℕ) → has nat_eq n ks ≡ true → 1 ≤ found ks n
found-there [] n e = absurd (cc e)
found-there (k ∷ ks) n e = go (λ i. found-there ks n i) (nat_eq n k) refl e where
  turn : nat_eq n k ≡ true → nat_eq k n ≡ true
  turn h = grind (arith, nat_tests)

  go : (has nat_eq n ks ≡ true → 1 ≤ found ks n) → (b : Bool) → nat_eq n k ≡ b → (b || has nat_eq n ks) ≡ true → 1 ≤ one (nat_eq k n) + found ks n
  go rest true h e = let i : one (nat_eq k n) ≡ 1 = ap one (turn h) in omega arith
  go rest false h e = let i = rest e in omega arith

made-few : (f : ℕ → Option Definition) (ks : List ℕ) → ((n : ℕ) → is_some (f n) ≡ true → has nat_eq n ks ≡ true) → (names : List ℕ) → some (map f names) ≤ hits ks names
made-few f ks each [] = omega arith
made-few f ks each (n ∷ ns) = go (made-few f ks each ns) (is_some (f n)) refl where
  go : some (map f ns) ≤ hits ks ns → (b : Bool) → is_some (f n) ≡ b → length (if b then f n ∷ filter is_some (map f ns) else filter is_some (map f ns)) ≤ hits ks (n ∷ ns)
  go h true e = let m = hits-more ks n ns in let t = found-there ks n (each n e) in omega arith
  go h false e = let m = hits-more ks n ns in omega arith

-- a definition stands at a place that a half of the text has for its name

right-there : (p q : Option ℕ) → is_some q ≡ true → (is_some p || is_some q) ≡ true
right-there None q e = e
right-there (Some n) q e = refl

left-there : (p q : Option ℕ) → is_some p ≡ true → (is_some p || is_some q) ≡ true
left-there None q e = absurd (cc e)
left-there (Some n) q e = refl

put : (text : ℕ) (in_body own : Bool) (p : Option ℕ) → is_some (placed text in_body own p) ≡ true → is_some p ≡ true
put text in_body own None e = absurd (cc e)
put text in_body own (Some n) e = refl

either-there : (a s t u : Bool) (text : ℕ) (p q : Option ℕ)
    → is_some (if a then placed text false false p else (if s then (if t then placed text true false q else (if u then placed text true true q else None)) else None)) ≡ true → (is_some p || is_some q) ≡ true
either-there true s t u text p q e = left-there p q (put text false false p e)
either-there false true true u text p q e = right-there p q (put text true false q e)
either-there false true false true text p q e = right-there p q (put text true true q e)
either-there false true false false text p q e = absurd (cc e)
either-there false false t u text p q e = absurd (cc e)

keyed : (n : ℕ) (es : List (ℕ × ℕ)) → has nat_eq n (keys_of es) ≡ is_some (lookup (nat_eq n) es)
keyed n [] = refl
keyed n (e ∷ es) = go (keyed n es) (nat_eq n e.0) where
  go : has nat_eq n (keys_of es) ≡ is_some (lookup (nat_eq n) es) → (b : Bool) → (b || has nat_eq n (keys_of es)) ≡ is_some (cond b (Some e.1) (lookup (nat_eq n) es))
  go rest true = refl
  go rest false = rest

has-append : (n : ℕ) (xs ys : List ℕ) → has nat_eq n (xs ++ ys) ≡ (has nat_eq n xs || has nat_eq n ys)
has-append n [] ys = refl
has-append n (x ∷ xs) ys = go (has-append n xs ys) (nat_eq n x) where
  go : has nat_eq n (xs ++ ys) ≡ (has nat_eq n xs || has nat_eq n ys) → (b : Bool) → (b || has nat_eq n (xs ++ ys)) ≡ ((b || has nat_eq n xs) || has nat_eq n ys)
  go rest true = refl
  go rest false = rest

defined-there : (k : Known) (text : ℕ) (specs decls : List (ℕ × ℕ)) (name : ℕ) → is_some (definition k text specs decls name) ≡ true → has nat_eq name (keys_of specs ++ keys_of decls) ≡ true
unfolding definition
defined-there k text specs decls name e =
    let i = interface_type k text name in
    has-append name (keys_of specs) (keys_of decls)
    ∙ ap (λ b. b || has nat_eq name (keys_of decls)) (keyed name specs)
    ∙ ap (λ b. is_some (lookup (nat_eq name) specs) || b) (keyed name decls)
    ∙ either-there (is_abbrev_entry i) (is_abbrev_entry (body_type k text name)) (is_none i) (is_abstype_entry i) text (lookup (nat_eq name) specs) (lookup (nat_eq name) decls) e

-- a half has as many places at most as it declares types

one-place : (places : List (ℕ × ℕ)) (name : Option ℕ) (place : ℕ) → length (with_place places name place) ≤ length places + one (is_some name)
one-place places None place = omega arith
one-place places (Some name) place = go (is_some (lookup (nat_eq name) places)) where
  go : (b : Bool) → length (if b then places else places ++ (name, place) ∷ []) ≤ length places + 1
  go true = omega arith
  go false = let h = length-append places ((name, place) ∷ []) in omega arith

one-type : (d : Decl) → one (is_some (name_in space.Abbreviations d)) ≤ types_in d
one-type (decl.Datatype binds) = omega arith
one-type (decl.Abbrev head t) = omega arith
one-type (decl.Abstype head) = omega arith
one-type (decl.Val name place t e) = omega arith
one-type (decl.Relation name place sig rules) = omega arith

few-places : (ds : List Decl) (places : List (ℕ × ℕ)) (place : ℕ) → length (places_from space.Abbreviations places place ds) ≤ length places + types_among ds
few-places [] places place = omega arith
few-places (d ∷ ds) places place =
    let h = few-places ds (with_place places (name_in space.Abbreviations d) place) (suc place) in
    let a = one-place places (name_in space.Abbreviations d) place in
    let b = one-type d in
    omega arith

text-few : (k : Known) (text : ℕ) (t : Text) (a b : ℕ) (o : Outline)
    → some (definitions_in k false text t (Some (numbered_text a b o))) + some (definitions_in k true text t (Some (numbered_text a b o))) ≤ types_among t.specs + types_among t.decls
text-few k text t a b o =
    let specs = places_of space.Abbreviations t.specs in
    let decls = places_of space.Abbreviations t.decls in
    let ks : List ℕ = keys_of specs ++ keys_of decls in
    let x = made-few (definition k text specs decls) ks (defined-there k text specs decls) (names_of_run false o) in
    let y = made-few (definition k text specs decls) ks (defined-there k text specs decls) (names_of_run true o) in
    let z = hits-once ks (names_of_run false o) (names_of_run true o) (runs-once o) in
    let l : length ks ≡ length specs + length decls = length-append (keys_of specs) (keys_of decls) ∙ ap (λ m. m + length (keys_of decls)) (length-map specs (λ e. e.0)) ∙ ap (λ m. length specs + m) (length-map decls (λ e. e.0)) in
    let u = few-places t.specs [] 0 in
    let v = few-places t.decls [] 0 in
    omega arith

-- all texts together

some-append : (xs ys : List (Option Definition)) → some (xs ++ ys) ≡ some xs + some ys
some-append [] ys = omega arith
some-append (x ∷ xs) ys = go (some-append xs ys) (is_some x) where
  go : some (xs ++ ys) ≡ some xs + some ys → (b : Bool) → length (if b then x ∷ filter is_some (xs ++ ys) else filter is_some (xs ++ ys)) ≡ length (if b then x ∷ filter is_some xs else filter is_some xs) + some ys
  go h true = omega arith
  go h false = h

some-nothing : (names : List ℕ) → some (map nothing names) ≡ 0
some-nothing [] = refl
some-nothing (n ∷ ns) = some-nothing ns

texts-few : (k : Known) (n : Numbers) (text a b : ℕ) (os : List Outline) (ts : List Text) → AreFrom k n text a b os
    → some (definitions_from k n false text ts) + some (definitions_from k n true text ts) ≤ declared_types ts
texts-few k n text a b os [] h = omega arith
texts-few k n text a b [] (t ∷ ts) h =
    let r = texts-few k n (suc text) a b [] ts (from-none k n text a b h) in
    let m : slice_get n.texts text ≡ None = first-of n.texts text None (h.numbers 0) in
    let x : some (definitions_from k n false text (t ∷ ts)) ≡ some (definitions_from k n false (suc text) ts) =
    ap (λ (o : Option NumberedText). some (definitions_in k false text t o ++ definitions_from k n false (suc text) ts)) m in
    let y : some (definitions_from k n true text (t ∷ ts)) ≡ some (definitions_from k n true (suc text) ts) =
    ap (λ (o : Option NumberedText). some (definitions_in k true text t o ++ definitions_from k n true (suc text) ts)) m in
    omega arith
texts-few k n text a b (o ∷ os) (t ∷ ts) h =
    let r = texts-few k n (suc text) (capped (a + length (names_of_run false o))) (capped (b + length (names_of_run true o))) os ts (from-next k n text a b o os h) in
    let m : slice_get n.texts text ≡ Some (numbered_text a b o) = first-of n.texts text (Some (numbered_text a b o)) (h.numbers 0) in
    let x : some (definitions_from k n false text (t ∷ ts)) ≡ some (definitions_in k false text t (Some (numbered_text a b o))) + some (definitions_from k n false (suc text) ts) =
    ap (λ (o : Option NumberedText). some (definitions_in k false text t o ++ definitions_from k n false (suc text) ts)) m
    ∙ some-append (definitions_in k false text t (Some (numbered_text a b o))) (definitions_from k n false (suc text) ts) in
    let y : some (definitions_from k n true text (t ∷ ts)) ≡ some (definitions_in k true text t (Some (numbered_text a b o))) + some (definitions_from k n true (suc text) ts) =
    ap (λ (o : Option NumberedText). some (definitions_in k true text t o ++ definitions_from k n true (suc text) ts)) m
    ∙ some-append (definitions_in k true text t (Some (numbered_text a b o))) (definitions_from k n true (suc text) ts) in
    let z = text-few k text t a b o in
    omega arith

pub few-types : (k : Known) (texts : List Text) → length (filter is_some (definitions_of k (numbers_of k) texts)) ≤ declared_types texts
few-types k texts =
    let first = definitions_from k (numbers_of k) false 0 texts in
    let second = definitions_from k (numbers_of k) true 0 texts in
    let e : some (definitions_of k (numbers_of k) texts) ≡ some (map nothing (numbers_of k).given) + some first + some second =
    some-append (map nothing (numbers_of k).given ++ first) second ∙ ap (λ m. m + some second) (some-append (map nothing (numbers_of k).given) first) in
    let n : some (map nothing (numbers_of k).given) ≡ 0 = some-nothing (numbers_of k).given in
    let h = texts-few k (numbers_of k) 0 (capped (0 + length (given_names k))) (count_from false (capped (0 + length (given_names k))) k.texts) k.texts texts (all-from k) in
    omega arith
