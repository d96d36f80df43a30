-- Plain `type`s have the last numbers: what is numbered before them stands for no type in every text, and what is numbered behind is no
-- abstype that a text defines.
use Rattle.std.proofs.Common.{◌≡◌, ℕ, zero, suc, ◌+◌, ◌-◌, ◌<◌, ◌≤◌, ◌^◌, Bool, true, false, List, [], ◌∷◌, ◌++◌, length, map, refl, sym, ap, ◌∙◌, arith, subst, Option, None, Some}
use Rattle.std.specs.Prelude.{min, not, ◌&&◌, nat_eq, filter, slice_get, if◌then◌else◌}
use Rattle.std.specs.List.{list_all}
use Rattle.std.specs.Map.{lookup}
use Rattle.std.specs.Option.{option_and_then, option_or}
use Rattle.std.proofs.lemmas.List.{length-append, length-map}
use Rattle.std.proofs.lemmas.List.Folds.{list_all-append}
use Rattle.rml_syntax.specs.declared.texts.Text.{Text}
use Rattle.rml_tables.specs.Words.{has, with_each, with_name}
use Rattle.rml_types.proofs.Callers.{both}
use Rattle.rml_types.specs.declared.tree.SchemeTree.{SchemeTree}
use Rattle.rml_abbreviations.specs.Written.{meaning_in}
use Rattle.rml_outlines.specs.Lookups.{body_type, interface_type, type_in}
use Rattle.rml_outlines.specs.declared.entry.TypeEntry.{TypeEntry}
use Rattle.rml_outlines.specs.declared.known.Known.{Known}
use Rattle.rml_outlines.specs.declared.outline.Outline.{Outline}
use Rattle.rml_signatures.specs.Definitions.{definition, definitions_from, definitions_in, definitions_of, in_body_by, is_abstype_entry, is_own, nothing, placed}
use Rattle.rml_signatures.specs.Numbers.{capped, count_from, given_names, is_abbrev_entry, is_of_run, is_plain, names_in, names_of_run, numbered_from, numbered_text, numbers_of}
use Rattle.rml_signatures.specs.Places.{places_of}
use Rattle.rml_signatures.specs.Types.{KnownTypes, bodies, body, body_in, types_of}
use Rattle.rml_signatures.specs.declared.definitions.Definition.{Definition}
use Rattle.rml_signatures.specs.declared.numbers.NumberedText.{NumberedText}
use Rattle.rml_signatures.specs.declared.numbers.Numbers.{Numbers}
use Rattle.rml_signatures.specs.declared.places.Space.TheVariants as space

-- a name that stands for no type in every text, and one that is no abstype which a text defines
abbrev fits_run : Bool → Option Definition → Bool
fits_run plain None = true
fits_run true (Some d) = not d.is_own
fits_run false (Some d) = d.is_own

-- what is defined in which halves, by what these declare

not-declared : (a s t : Bool) (text : ℕ) (p q : Option ℕ) → a ≡ false
    → fits_run false (if a then placed text false false p else (if s then (if t then placed text true true q else None) else None)) ≡ true
not-declared true s t text p q e = absurd (cc e)
not-declared false true true text p None e = refl
not-declared false true true text p (Some n) e = refl
not-declared false true false text p q e = refl
not-declared false false t text p q e = refl

not-there : (s : Bool) (text : ℕ) (q : Option ℕ) → s ≡ false → fits_run false (if s then placed text true false q else None) ≡ true
not-there true text q e = absurd (cc e)
not-there false text q e = refl

declared : (a : Bool) (text : ℕ) (p : Option ℕ) (rest : Option Definition) → a ≡ true → fits_run true (if a then placed text false false p else rest) ≡ true
declared true text None rest e = refl
declared true text (Some n) rest e = refl
declared false text p rest e = absurd (cc e)

there : (s : Bool) (text : ℕ) (q : Option ℕ) → s ≡ true → fits_run true (if s then placed text true false q else None) ≡ true
there true text None e = refl
there true text (Some n) e = refl
there false text q e = refl

chosen : ℕ → Option TypeEntry → Option TypeEntry → Option ℕ → Option ℕ → Option Definition
chosen text i b p q = if is_abbrev_entry i then placed text false false p else (if is_abbrev_entry b then in_body_by text i q else None)

other-chosen : (text : ℕ) (i b : Option TypeEntry) (p q : Option ℕ) → is_abbrev_entry (option_or i b) ≡ false → fits_run false (chosen text i b p q) ≡ true
unfolding chosen
other-chosen text None b p q e = not-there (is_abbrev_entry b) text q e
other-chosen text (Some i) b p q e = not-declared (is_abbrev_entry (Some i)) (is_abbrev_entry b) (is_abstype_entry (Some i)) text p q e

plain-chosen : (text : ℕ) (i b : Option TypeEntry) (p q : Option ℕ) → is_abbrev_entry (option_or i b) ≡ true → fits_run true (chosen text i b p q) ≡ true
unfolding chosen
plain-chosen text None b p q e = there (is_abbrev_entry b) text q e
plain-chosen text (Some i) b p q e = declared (is_abbrev_entry (Some i)) text p (if is_abbrev_entry b then in_body_by text (Some i) q else None) e

run-chosen : (plain : Bool) (text : ℕ) (o : Outline) (name : ℕ) (p q : Option ℕ) → is_of_run plain o name ≡ true
    → fits_run plain (chosen text (lookup (nat_eq name) o.interface.types) (lookup (nat_eq name) o.body.types) p q) ≡ true
unfolding type_in
run-chosen true text o name p q e = plain-chosen text (lookup (nat_eq name) o.interface.types) (lookup (nat_eq name) o.body.types) p q e
run-chosen false text o name p q e = other-chosen text (lookup (nat_eq name) o.interface.types) (lookup (nat_eq name) o.body.types) p q (turned (is_plain o name) e) where
  turned : (b : Bool) → not b ≡ true → b ≡ false
  turned true h = absurd (cc h)
  turned false h = refl

definition-is : (k : Known) (text : ℕ) (specs decls : List (ℕ × ℕ)) (name : ℕ) (o : Outline) → slice_get k.texts text ≡ Some o
    → definition k text specs decls name ≡ chosen text (lookup (nat_eq name) o.interface.types) (lookup (nat_eq name) o.body.types) (lookup (nat_eq name) specs) (lookup (nat_eq name) decls)
unfolding definition interface_type body_type chosen
definition-is k text specs decls name o at =
    ap (λ (s : Option Outline). chosen text (option_and_then (λ p. lookup (nat_eq name) p.interface.types) s) (option_and_then (λ p. lookup (nat_eq name) p.body.types) s) (lookup (nat_eq name) specs) (lookup (nat_eq name) decls)) at

run-defines : (plain : Bool) (k : Known) (text : ℕ) (specs decls : List (ℕ × ℕ)) (o : Outline) (name : ℕ) → slice_get k.texts text ≡ Some o → is_of_run plain o name ≡ true
    → fits_run plain (definition k text specs decls name) ≡ true
run-defines plain k text specs decls o name at e =
    ap (fits_run plain) (definition-is k text specs decls name o at) ∙ run-chosen plain text o name (lookup (nat_eq name) specs) (lookup (nat_eq name) decls) e

-- names that pass a test

two : (a b : Bool) → a ≡ true → b ≡ true → (a && b) ≡ true
two a b e f = rw (e, f) refl

named-pass : (test : ℕ → Bool) (old : List ℕ) (n : ℕ) → list_all test old ≡ true → test n ≡ true → list_all test (with_name nat_eq old n) ≡ true
named-pass test old n h e = go (has nat_eq n old) where
  go : (b : Bool) → list_all test (if b then old else old ++ n ∷ []) ≡ true
  go true = h
  go false = list_all-append test old (n ∷ []) ∙ two (list_all test old) (list_all test (n ∷ [])) h (two (test n) true e refl)

filtered-pass : (test : ℕ → Bool) (names old : List ℕ) → list_all test old ≡ true → list_all test (with_each nat_eq old (filter test names)) ≡ true
filtered-pass test [] old h = h
filtered-pass test (n ∷ ns) old h = go (λ more p. filtered-pass test ns more p) (test n) refl where
  go : ((more : List ℕ) → list_all test more ≡ true → list_all test (with_each nat_eq more (filter test ns)) ≡ true) → (b : Bool) → test n ≡ b
      → list_all test (with_each nat_eq old (if b then n ∷ filter test ns else filter test ns)) ≡ true
  go rest true e = rest (with_name nat_eq old n) (named-pass test old n h e)
  go rest false e = rest old h

names-pass : (plain : Bool) (o : Outline) → list_all (is_of_run plain o) (names_of_run plain o) ≡ true
unfolding names_of_run
names-pass plain o = filtered-pass (is_of_run plain o) (names_in o) [] refl

-- the definitions of the names of a run

all-made : (plain : Bool) (test : ℕ → Bool) (f : ℕ → Option Definition) → ((n : ℕ) → test n ≡ true → fits_run plain (f n) ≡ true) → (names : List ℕ) → list_all test names ≡ true
    → list_all (fits_run plain) (map f names) ≡ true
all-made plain test f each [] h = refl
all-made plain test f each (n ∷ ns) h =
    let p = both (test n) (list_all test ns) h in
    two (fits_run plain (f n)) (list_all (fits_run plain) (map f ns)) (each n p.0) (all-made plain test f each ns p.1)

text-defines : (plain : Bool) (k : Known) (text : ℕ) (t : Text) (a b : ℕ) (o : Outline) → slice_get k.texts text ≡ Some o
    → list_all (fits_run plain) (definitions_in k plain text t (Some (numbered_text a b o))) ≡ true
text-defines true k text t a b o at =
    all-made true (is_of_run true o) (definition k text (places_of space.Abbreviations t.specs) (places_of space.Abbreviations t.decls))
    (λ n e. run-defines true k text (places_of space.Abbreviations t.specs) (places_of space.Abbreviations t.decls) o n at e) (names_of_run true o) (names-pass true o)
text-defines false k text t a b o at =
    all-made false (is_of_run false o) (definition k text (places_of space.Abbreviations t.specs) (places_of space.Abbreviations t.decls))
    (λ n e. run-defines false k text (places_of space.Abbreviations t.specs) (places_of space.Abbreviations t.decls) o n at e) (names_of_run false o) (names-pass false o)

-- the outlines and the numbers of the texts from one on
pub record AreFrom (k : Known) (n : Numbers) (text a b : ℕ) (os : List Outline) : Type 0 where
  pub outlines : (j : ℕ) → slice_get k.texts (text + j) ≡ slice_get os j
  pub numbers : (j : ℕ) → slice_get n.texts (text + j) ≡ slice_get (numbered_from a b os) j

pub first-of : {X : Type 0} (xs : List X) (text : ℕ) (x : Option X) → slice_get xs (text + 0) ≡ x → slice_get xs text ≡ x
first-of xs text x e = ap (slice_get xs) (let h : text ≡ text + 0 = omega arith in h) ∙ e

moved : (text j : ℕ) → suc text + j ≡ text + suc j
moved text j = omega arith

pub from-next : (k : Known) (n : Numbers) (text a b : ℕ) (o : Outline) (os : List Outline) → AreFrom k n text a b (o ∷ os)
    → AreFrom k n (suc text) (capped (a + length (names_of_run false o))) (capped (b + length (names_of_run true o))) os
from-next k n text a b o os h = record {
  outlines = λ j. ap (slice_get k.texts) (moved text j) ∙ h.outlines (suc j);
  numbers = λ j. ap (slice_get n.texts) (moved text j) ∙ h.numbers (suc j);
}

pub from-none : (k : Known) (n : Numbers) (text a b : ℕ) → AreFrom k n text a b [] → AreFrom k n (suc text) a b []
from-none k n text a b h = record {
  outlines = λ j. ap (slice_get k.texts) (moved text j) ∙ h.outlines (suc j);
  numbers = λ j. ap (slice_get n.texts) (moved text j) ∙ h.numbers (suc j);
}

texts-define : (plain : Bool) (k : Known) (n : Numbers) (text a b : ℕ) (os : List Outline) (ts : List Text) → AreFrom k n text a b os
    → list_all (fits_run plain) (definitions_from k n plain text ts) ≡ true
texts-define plain k n text a b os [] h = refl
texts-define plain k n text a b [] (t ∷ ts) h =
    ap (λ (m : Option NumberedText). list_all (fits_run plain) (definitions_in k plain text t m ++ definitions_from k n plain (suc text) ts)) (first-of n.texts text None (h.numbers 0))
    ∙ texts-define plain k n (suc text) a b [] ts (from-none k n text a b h)
texts-define plain k n text a b (o ∷ os) (t ∷ ts) h =
    ap (λ (m : Option NumberedText). list_all (fits_run plain) (definitions_in k plain text t m ++ definitions_from k n plain (suc text) ts)) (first-of n.texts text (Some (numbered_text a b o)) (h.numbers 0))
    ∙ list_all-append (fits_run plain) (definitions_in k plain text t (Some (numbered_text a b o))) (definitions_from k n plain (suc text) ts)
    ∙ two (list_all (fits_run plain) (definitions_in k plain text t (Some (numbered_text a b o)))) (list_all (fits_run plain) (definitions_from k n plain (suc text) ts))
    (text-defines plain k text t a b o (first-of k.texts text (Some o) (h.outlines 0)))
    (texts-define plain k n (suc text) (capped (a + length (names_of_run false o))) (capped (b + length (names_of_run true o))) os ts (from-next k n text a b o os h))

-- how many definitions the first run has: as many as its numbers count, or too many for numbers

text-length : (k : Known) (text : ℕ) (t : Text) (a b : ℕ) (o : Outline) (m : Option NumberedText) → m ≡ Some (numbered_text a b o) → length (definitions_in k false text t m) ≡ length (names_of_run false o)
text-length k text t a b o m e =
    ap (λ (x : Option NumberedText). length (definitions_in k false text t x)) e
    ∙ length-map (names_of_run false o) (definition k text (places_of space.Abbreviations t.specs) (places_of space.Abbreviations t.decls))

record AreCounted (first count many : ℕ) : Type 0 where
  most : count ≤ first + many
  least : min (first + many) (2 ^ 32 - 1) ≤ count

counted-next : (first more count many : ℕ) → AreCounted (capped (first + more)) count many → AreCounted first count (more + many)
counted-next first more count many h = record { most = let m = h.most in omega arith; least = let m = h.least in omega arith }

texts-count : (k : Known) (n : Numbers) (text a b : ℕ) (os : List Outline) (ts : List Text) → AreFrom k n text a b os → length ts ≡ length os
    → AreCounted a (count_from false a os) (length (definitions_from k n false text ts))
texts-count k n text a b [] [] h e = record { most = omega arith; least = omega arith }
texts-count k n text a b [] (t ∷ ts) h e = absurd (omega arith)
texts-count k n text a b (o ∷ os) [] h e = absurd (omega arith)
texts-count k n text a b (o ∷ os) (t ∷ ts) h e =
    subst (AreCounted a (count_from false a (o ∷ os)))
    (sym (length-append (definitions_in k false text t (slice_get n.texts text)) (definitions_from k n false (suc text) ts)
    ∙ ap (λ m. m + length (definitions_from k n false (suc text) ts)) (text-length k text t a b o (slice_get n.texts text) (first-of n.texts text (Some (numbered_text a b o)) (h.numbers 0)))))
    (counted-next a (length (names_of_run false o)) (count_from false a (o ∷ os)) (length (definitions_from k n false (suc text) ts))
    (texts-count k n (suc text) (capped (a + length (names_of_run false o))) (capped (b + length (names_of_run true o))) os ts (from-next k n text a b o os h) (omega arith)))

-- the two runs of a set

first-run : Known → List Text → List (Option Definition)
first-run k texts = map nothing (numbers_of k).given ++ definitions_from k (numbers_of k) false 0 texts

second-run : Known → List Text → List (Option Definition)
second-run k texts = definitions_from k (numbers_of k) true 0 texts

pub all-from : (k : Known) → AreFrom k (numbers_of k) 0 (capped (0 + length (given_names k))) (count_from false (capped (0 + length (given_names k))) k.texts) k.texts
unfolding numbers_of
all-from k = record {
  outlines = λ j. ap (slice_get k.texts) (let e : 0 + j ≡ j = omega arith in e);
  numbers = λ j. ap (slice_get (numbers_of k).texts) (let e : 0 + j ≡ j = omega arith in e);
}

nothing-fits : (names : List ℕ) → list_all (fits_run false) (map nothing names) ≡ true
nothing-fits [] = refl
nothing-fits (n ∷ ns) = nothing-fits ns

first-fits : (k : Known) (texts : List Text) → list_all (fits_run false) (first-run k texts) ≡ true
unfolding first-run
first-fits k texts =
    list_all-append (fits_run false) (map nothing (numbers_of k).given) (definitions_from k (numbers_of k) false 0 texts)
    ∙ two (list_all (fits_run false) (map nothing (numbers_of k).given)) (list_all (fits_run false) (definitions_from k (numbers_of k) false 0 texts)) (nothing-fits (numbers_of k).given)
    (texts-define false k (numbers_of k) 0 (capped (0 + length (given_names k))) (count_from false (capped (0 + length (given_names k))) k.texts) k.texts texts (all-from k))

second-fits : (k : Known) (texts : List Text) → list_all (fits_run true) (second-run k texts) ≡ true
unfolding second-run
second-fits k texts =
    texts-define true k (numbers_of k) 0 (capped (0 + length (given_names k))) (count_from false (capped (0 + length (given_names k))) k.texts) k.texts texts (all-from k)

-- the first run has as many as the numbers of the types that are kept, where these are not too many
first-counted : (k : Known) (texts : List Text) → length texts ≡ length k.texts → AreCounted 0 (numbers_of k).kept (length (first-run k texts))
unfolding first-run numbers_of
first-counted k texts e =
    subst (AreCounted 0 (count_from false (capped (0 + length (given_names k))) k.texts))
    (sym (length-append (map nothing (given_names k)) (definitions_from k (numbers_of k) false 0 texts)
    ∙ ap (λ m. m + length (definitions_from k (numbers_of k) false 0 texts)) (length-map (given_names k) nothing)))
    (counted-next 0 (length (given_names k)) (count_from false (capped (0 + length (given_names k))) k.texts) (length (definitions_from k (numbers_of k) false 0 texts))
    (texts-count k (numbers_of k) 0 (capped (0 + length (given_names k))) (count_from false (capped (0 + length (given_names k))) k.texts) k.texts texts (all-from k) e))

-- a name of the first run stands for no type in every text

stands-for-none : (w : KnownTypes) (texts : List Text) (o : Option Definition) → fits_run false o ≡ true → body_in w texts None o ≡ None
stands-for-none w texts None e = refl
stands-for-none w texts (Some d) e = go d.is_own e where
  go : (b : Bool) → b ≡ true → (if not b then body w texts d else None) ≡ None
  go true h = refl
  go false h = absurd (cc h)

means-none : (f : Option Definition → Option SchemeTree) → ((o : Option Definition) → fits_run false o ≡ true → f o ≡ None) → (xs ys : List (Option Definition)) (n : ℕ)
    → list_all (fits_run false) xs ≡ true → n < length xs → meaning_in (map f (xs ++ ys)) n ≡ None
means-none f each [] ys n h lt = absurd (omega arith)
means-none f each (x ∷ xs) ys zero h lt = each x (both (fits_run false x) (list_all (fits_run false) xs) h).0
means-none f each (x ∷ xs) ys (suc n) h lt = means-none f each xs ys n (both (fits_run false x) (list_all (fits_run false) xs) h).1 (omega arith)

pub kept-types : (k : Known) (texts : List Text) (n : ℕ) → length texts ≡ length k.texts → n < (numbers_of k).kept → meaning_in (bodies (types_of k texts) texts None) n ≡ None
unfolding first-run second-run
kept-types k texts n e lt =
    let c = first-counted k texts e in
    means-none (body_in (types_of k texts) texts None) (stands-for-none (types_of k texts) texts) (first-run k texts) (second-run k texts) n (first-fits k texts) (let m = c.most in omega arith)

-- a name of the second run is no abstype that a text defines

none-own : (ys : List (Option Definition)) (n : ℕ) → list_all (fits_run true) ys ≡ true → is_own ys n ≡ false
none-own [] n h = refl
none-own (None ∷ ys) zero h = refl
none-own (Some d ∷ ys) zero h = turned d.is_own (both (not d.is_own) (list_all (fits_run true) ys) h).0 where
  turned : (b : Bool) → not b ≡ true → b ≡ false
  turned true e = absurd (cc e)
  turned false e = refl
none-own (y ∷ ys) (suc n) h = none-own ys n (both (fits_run true y) (list_all (fits_run true) ys) h).1

own-behind : (xs ys : List (Option Definition)) (n : ℕ) → length xs ≤ n → list_all (fits_run true) ys ≡ true → is_own (xs ++ ys) n ≡ false
own-behind [] ys n le h = none-own ys n h
own-behind (x ∷ xs) ys zero le h = absurd (omega arith)
own-behind (x ∷ xs) ys (suc n) le h = own-behind xs ys n (omega arith) h

pub plain-types : (k : Known) (texts : List Text) (n : ℕ) → length texts ≡ length k.texts → (numbers_of k).kept < 2 ^ 32 - 1 → (numbers_of k).kept ≤ n
    → is_own (definitions_of k (numbers_of k) texts) n ≡ false
unfolding first-run second-run
plain-types k texts n e few le =
    let c = first-counted k texts e in
    own-behind (first-run k texts) (second-run k texts) n (let m = c.least in omega arith) (second-fits k texts)
