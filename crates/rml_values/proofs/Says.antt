-- What a name is in a program is of the kind that its meaning says.
use Rattle.std.proofs.Common.{◌≡◌, ℕ, zero, suc, ◌<◌, Bool, true, false, List, [], ◌∷◌, length, refl, arith, Some, None, Option}
use Rattle.std.specs.Prelude.{◌&&◌, nat_eq, slice_get}
use Rattle.std.specs.Map.{lookup}
use Rattle.std.specs.Option.{option_and_then, option_map_or, option_or}
use Rattle.std.proofs.lemmas.Bool.Decides.{nat_tests}
use Rattle.std.proofs.lemmas.Option.{slice_get_within}
use Rattle.rml_syntax.specs.declared.rules.Long.{Long}
use Rattle.rml_tables.specs.Words.{has}
use Rattle.rml_outlines.specs.Declarations as declared
use Rattle.rml_outlines.specs.Lookups.{exported_value, exporter, given_value, interface_value, own_value}
use Rattle.rml_outlines.specs.declared.entry.ValueEntry.{ValueEntry}
use Rattle.rml_outlines.specs.declared.entry.ValueEntry.TheVariants as entry
use Rattle.rml_outlines.specs.declared.known.Known.{Known}
use Rattle.rml_outlines.specs.declared.outline.Outline.{Outline}
use Rattle.rml_scopes.specs.Meaning.{declared, meaning, value_by}
use Rattle.rml_scopes.specs.declared.meaning.Meaning.TheVariants as meaning
use Rattle.rml_scopes.specs.declared.scope.Scope.{Scope}
use Rattle.rml_values.specs.Meant.{given_by, has_no_val, is_as, is_no_val, meant, meant_built, meant_by, meant_exported, meant_given, meant_in, meant_of, short_by}
use Rattle.rml_values.specs.declared.meant.Meant.TheVariants.{Variable, Nothing}
use Rattle.rml_values.specs.declared.numbers.TextValues.{TextValues}
use Rattle.rml_values.specs.declared.values.Values.{Values}

itself : (n : ℕ) → nat_eq n n ≡ true
itself n = grind (arith, nat_tests)

in-text : (t : TextValues) (name : ℕ) (e : ValueEntry) → is_as (meaning.Declared e) (meant_in t name e) ≡ true
unfolding is_as
in-text t name (entry.Constructor count) = itself count
in-text t name entry.Val = refl
in-text t name entry.Relation = refl

none-within : {X : Type 0} (xs : List X) (i : ℕ) → i < length xs → slice_get xs i ≡ None → ⊥
none-within [] i l n = absurd (omega (arith, l))
none-within (x ∷ xs) zero l n = cc n
none-within (x ∷ xs) (suc i) l n = none-within xs i (omega (arith, l)) n

-- a text of the set has its lists
of-text : (v : Values) (text name : ℕ) (e : ValueEntry) → text < length v.texts → is_as (meaning.Declared e) (meant_of v text name e) ≡ true
unfolding meant_of
of-text v text name e lt = go (slice_get v.texts text) refl where
  go : (t : Option TextValues) → slice_get v.texts text ≡ t → is_as (meaning.Declared e) (option_map_or (λ (t : TextValues). meant_in t name e) (slice_get v.texts text) Nothing) ≡ true
  go (Some t) h = rw h (in-text t name e)
  go None h = absurd (none-within v.texts text lt h)

-- what is built in

in-built : (v : Values) (name : ℕ) (e : ValueEntry) → is_no_val e ≡ true → is_as (meaning.Declared e) (meant_built v name e) ≡ true
unfolding is_as
in-built v name (entry.Constructor count) h = itself count
in-built v name entry.Val h = absurd (cc h)
in-built v name entry.Relation h = refl

first-of : (p q : Bool) → (p && q) ≡ true → p ≡ true
first-of true q h = refl
first-of false q h = absurd (cc h)

second-of : (p q : Bool) → (p && q) ≡ true → q ≡ true
second-of true q h = h
second-of false q h = absurd (cc h)

one : (y z : ValueEntry) → Some y ≡ Some z → y ≡ z
one y z q = cc q

no-val-by : (test : ℕ → Bool) (x : ℕ × ValueEntry) (xs : declared.Values) (e : ValueEntry) (b : Bool) → test x.0 ≡ b → (lookup test xs ≡ Some e → is_no_val e ≡ true) → has_no_val (x ∷ xs) ≡ true
    → lookup test (x ∷ xs) ≡ Some e → is_no_val e ≡ true
no-val-by test x xs e true t rest h l = (let is : x.1 ≡ e = one x.1 e (rw t at l) in rw (← is) (first-of (is_no_val x.1) (has_no_val xs) h))
no-val-by test x xs e false t rest h l = rest (rw t at l)

no-val : (test : ℕ → Bool) (xs : declared.Values) (e : ValueEntry) → has_no_val xs ≡ true → lookup test xs ≡ Some e → is_no_val e ≡ true
no-val test [] e h l = absurd (cc l)
no-val test (x ∷ xs) e h l = no-val-by test x xs e (test x.0) refl (λ q. no-val test xs e (second-of (is_no_val x.1) (has_no_val xs) h) q) h l

nothing : is_as meaning.Nothing Nothing ≡ true
unfolding is_as
nothing = refl

given-says : (v : Values) (name : ℕ) (p b : Option ValueEntry) → ((e : ValueEntry) → b ≡ Some e → is_no_val e ≡ true) → is_as (declared (option_or p b)) (given_by v name p b) ≡ true
given-says v name (Some e) b h = in-text v.prelude name e
given-says v name None (Some e) h = in-built v name e (h e refl)
given-says v name None None h = nothing

given : (k : Known) (v : Values) (name : ℕ) → has_no_val k.built.values ≡ true → is_as (declared (given_value k name)) (meant_given k v name) ≡ true
unfolding given_value meant_given
given k v name h =
    given-says v name (lookup (nat_eq name) k.prelude.values) (lookup (nat_eq name) k.built.values) (λ e l. no-val (nat_eq name) k.built.values e h l)

-- texts that declare a name are there

text-declares : (k : Known) (text name : ℕ) (e : ValueEntry) → own_value k text name ≡ Some e → text < length k.texts
unfolding own_value
text-declares k text name e h = go (slice_get k.texts text) refl where
  go : (o : Option Outline) → slice_get k.texts text ≡ o → text < length k.texts
  go (Some o) t = slice_get_within k.texts text o t
  go None t = absurd (cc (rw t at h))

text-exports : (k : Known) (text name : ℕ) (e : ValueEntry) → interface_value k text name ≡ Some e → text < length k.texts
unfolding interface_value
text-exports k text name e h = go (slice_get k.texts text) refl where
  go : (o : Option Outline) → slice_get k.texts text ≡ o → text < length k.texts
  go (Some o) t = slice_get_within k.texts text o t
  go None t = absurd (cc (rw t at h))

module _ (k : Known) (v : Values) (all : length v.texts ≡ length k.texts) (none : has_no_val k.built.values ≡ true) where
  short : (text name : ℕ) → is_as (declared (option_or (own_value k text name) (given_value k name))) (short_by k v text name (own_value k text name)) ≡ true
  short text name = go (own_value k text name) refl where
    go : (o : Option ValueEntry) → own_value k text name ≡ o → is_as (declared (option_or (own_value k text name) (given_value k name))) (short_by k v text name (own_value k text name)) ≡ true
    go (Some e) h = (let lt : text < length v.texts = omega (arith, all, text-declares k text name e h) in rw h (of-text v text name e lt))
    go None h = rw h (given k v name none)

  exports : (text name : ℕ) → is_as (declared (interface_value k text name)) (meant_exported k v name text) ≡ true
  unfolding meant_exported
  exports text name = go (interface_value k text name) refl where
    go : (o : Option ValueEntry) → interface_value k text name ≡ o → is_as (declared (interface_value k text name)) (option_map_or (meant_of v text name) (interface_value k text name) Nothing) ≡ true
    go (Some e) h = (let lt : text < length v.texts = omega (arith, all, text-exports k text name e h) in rw h (of-text v text name e lt))
    go None h = rw h nothing

  exported : (own : ℕ) (in_body : Bool) (m name : ℕ) → is_as (declared (exported_value k own in_body m name)) (option_map_or (meant_exported k v name) (exporter k own in_body m) Nothing) ≡ true
  unfolding exported_value
  exported own in_body m name = go (exporter k own in_body m) refl where
    go : (x : Option ℕ) → exporter k own in_body m ≡ x
        → is_as (declared (option_and_then (λ text. interface_value k text name) (exporter k own in_body m))) (option_map_or (meant_exported k v name) (exporter k own in_body m) Nothing) ≡ true
    go (Some text) h = rw h (exports text name)
    go None h = rw h nothing

  variable : is_as meaning.Variable Variable ≡ true
  unfolding is_as
  variable = refl

  by-module : (s : Scope) (name : ℕ) (m : Option ℕ) → is_as (value_by k s name m) (meant_by k v s name m) ≡ true
  by-module s name (Some m) = exported s.text s.in_body m name
  by-module s name None = go (has nat_eq name s.seen) refl where
    go : (b : Bool) → has nat_eq name s.seen ≡ b → is_as (value_by k s name None) (meant_by k v s name None) ≡ true
    go true h = rw h variable
    go false h = rw h (short s.text name)

pub says : (k : Known) (v : Values) (s : Scope) (l : Long) → length v.texts ≡ length k.texts → has_no_val k.built.values ≡ true → is_as (meaning k s l) (meant k v s l) ≡ true
unfolding meaning meant
says k v s l all none = by-module k v all none s l.name l.«module»
