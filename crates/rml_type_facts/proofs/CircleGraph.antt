-- The graph of abstypes that definitions name, and which of these lie on circles.
use Rattle.std.proofs.Common.{◌≡◌, ℕ, zero, suc, ◌<◌, ◌^◌, Bool, true, false, List, [], ◌∷◌, length, map, refl, sym, ap, ◌∙◌, arith, subst, Contains, Option, None, Some, inl, inr, Result}
use Rattle.std.specs.Prelude.{◌↔◌, IfOk, IsTrue, slice_index_or, if◌then◌else◌}
use Rattle.std.proofs.lemmas.List.{length-map}
use Rattle.std.proofs.lemmas.List.Elements.{Contains-append_cases}
use Rattle.std.proofs.lemmas.List.Folds.{Any-from_list_any, list_any-from_Any}
use Rattle.rml_base.specs.declared.memory.Memory.{Memory}
use Rattle.rml_syntax.specs.declared.texts.Text.{Text}
use Rattle.rml_types.specs.Labels.{Label, labels}
use Rattle.rml_types.specs.declared.form.TypeCon.{TypeCon}
use Rattle.rml_types.specs.declared.form.TypeCon.TheVariants as con
use Rattle.rml_types.specs.declared.tree.SchemeTree.{SchemeTree}
use Rattle.rml_reach.specs.Paths.{Holds, IsGraph, IsOnCircle, Path}
use Rattle.rml_reach.specs.Within.{reaches_within}
use Rattle.rml_type_facts.specs.Circles.{AreOnCircles, counted_number, edges, holds, mentions, mentions_by, on_circle, own_among, own_at, own_in}
use Rattle.rml_signatures.specs.Definitions.{is_own}
use Rattle.rml_signatures.specs.Types.{KnownTypes, body, fully}
use Rattle.rml_signatures.specs.declared.definitions.Definition.{Definition}
use Rattle.rml_type_facts.proofs.SameTypes.{one-answer}

-- what is found among the labels of a definition that is written out is what it mentions
pub mentions-are : (w : KnownTypes) (texts : List Text) (write : SchemeTree → SchemeTree) (body : Option SchemeTree) (b given t : SchemeTree) (ds : List (Option Definition)) (ls : List Label)
    (r : Result (List ℕ) Memory) → write ≡ fully w texts None → body ≡ Some b → given ≡ b → t ≡ write given → ls ≡ labels t → ds ≡ w.definitions
    → IfOk r (λ m. m ≡ own_among ds w.numbers.count ls) → IfOk r (λ m. m ≡ mentions_by w texts body)
mentions-are w texts write body b given t ds ls r writes some is written_is labels_are same h =
    subst (λ (xs : List ℕ). IfOk r (λ m. m ≡ xs))
    (ap (λ es. own_among es w.numbers.count ls) same
    ∙ ap (own_among w.definitions w.numbers.count) (labels_are ∙ ap labels (written_is ∙ ap write is ∙ ap (λ (f : SchemeTree → SchemeTree). f b) writes))
    ∙ ap (mentions_by w texts) (sym some))
    h

-- there is nothing in no list
none : (b : ℕ) → {X : Type 0} → Contains [] b → X
none b c = absurd (omega (arith, c.1))

-- an abstype that is defined is one of the types
own-within : (ds : List (Option Definition)) (n : ℕ) → is_own ds n ≡ true → n < length ds
own-within [] n e = absurd (cc e)
own-within (d ∷ ds) zero e = omega arith
own-within (d ∷ ds) (suc n) e = let h = own-within ds n e in omega arith

only-one : (n b : ℕ) → Contains (n ∷ []) b → n ≡ b
only-one n b (zero, lt, e) = e
only-one n b (suc k, lt, e) = absurd (omega arith)

at-within : (ds : List (Option Definition)) (n b : ℕ) → Contains (own_at ds n) b → b < length ds
at-within ds n b h = go (is_own ds n) refl h where
  go : (t : Bool) → is_own ds n ≡ t → Contains (if t then n ∷ [] else []) b → b < length ds
  go true e c = subst (λ k. k < length ds) (only-one n b c) (own-within ds n e)
  go false e c = none b c

in-within : (ds : List (Option Definition)) (count : ℕ) (c : TypeCon) (b : ℕ) → Contains (own_in ds count c) b → b < length ds
in-within ds count (con.Named c) b h = at-within ds (counted_number count c) b h
in-within ds count (con.Fixed k) b h = none b h
in-within ds count con.Tuple b h = none b h
in-within ds count (con.Rel k) b h = none b h

among-within : (ds : List (Option Definition)) (count : ℕ) (ls : List Label) (b : ℕ) → Contains (own_among ds count ls) b → b < length ds
among-within ds count [] b h = none b h
among-within ds count (l ∷ ls) b h = elim (Contains-append_cases (own_in ds count l.0) (own_among ds count ls) b h) [
  | inl c ↦ in-within ds count l.0 b c
  | inr c ↦ among-within ds count ls b c
]

mentions-by-within : (w : KnownTypes) (texts : List Text) (o : Option SchemeTree) (b : ℕ) → Contains (mentions_by w texts o) b → b < length w.definitions
mentions-by-within w texts None b h = none b h
mentions-by-within w texts (Some t) b h = among-within w.definitions w.numbers.count (labels (fully w texts None t)) b h

mentions-within : (w : KnownTypes) (texts : List Text) (o : Option Definition) (b : ℕ) → Contains (mentions w texts o) b → b < length w.definitions
mentions-within w texts None b h = none b h
mentions-within w texts (Some d) b h = go d.is_own h where
  go : (t : Bool) → Contains (if t then mentions_by w texts (body w texts d) else []) b → b < length w.definitions
  go true c = mentions-by-within w texts (body w texts d) b c
  go false c = none b c

-- what is so of what each item makes is so of each that is made
each-made : (f : Option Definition → List ℕ) (P : ℕ → Type 0) → ((o : Option Definition) (b : ℕ) → Contains (f o) b → P b) → (ds : List (Option Definition)) (a b : ℕ) → Contains (slice_index_or (map f ds) a []) b → P b
each-made f P each [] a b h = none b h
each-made f P each (d ∷ ds) zero b h = each d b h
each-made f P each (d ∷ ds) (suc a) b h = each-made f P each ds a b h

pub edges-graph : (w : KnownTypes) (texts : List Text) (all : List (List ℕ)) → all ≡ edges w texts → length w.definitions < 2 ^ 32 → IsGraph all
edges-graph w texts all is few = subst IsGraph (sym is) (record {
  within = λ a b h. subst (λ n. b < n) (sym (length-map w.definitions (mentions w texts)))
      (each-made (mentions w texts) (λ b. b < length w.definitions) (mentions-within w texts) w.definitions a b h);
  small = subst (λ n. n < 2 ^ 32) (sym (length-map w.definitions (mentions w texts))) few;
})

-- the laws of paths: short ones are enough
pub record Short : Type 0 where
  pub enough : (edges : List (List ℕ)) (a b : ℕ) → Path edges a b → reaches_within (length edges) edges a b ≡ true
  pub sound : (n : ℕ) (edges : List (List ℕ)) (a b : ℕ) → reaches_within n edges a b ≡ true → Path edges a b

-- so the test of circles is exact
pub circle-test : Short → (graph : List (List ℕ)) (n : ℕ) → IsTrue (on_circle graph n) ↔ IsOnCircle graph n
circle-test short graph n = (there, back) where
  there : IsTrue (on_circle graph n) → IsOnCircle graph n
  there e =
      let c = Any-from_list_any (λ m. reaches_within (length graph) graph m n) (slice_index_or graph n []) e in
      (c.1, (c.0, c.2, c.3), short.sound (length graph) graph c.1 n c.4)

  back : IsOnCircle graph n → IsTrue (on_circle graph n)
  back c =
      list_any-from_Any (λ m. reaches_within (length graph) graph m n) (slice_index_or graph n [])
      (c.1.0, c.0, c.1.1, c.1.2, short.enough graph c.0 n c.2)

-- and the answers for nodes are that test
pub circles-are : Short → (graph : List (List ℕ)) (answers : List Bool) → ((n : ℕ) → Holds answers n ↔ IsOnCircle graph n) → AreOnCircles graph answers
circles-are short graph answers exact = record {
  each = λ i n. one-answer (holds answers n) (on_circle graph n) (λ h. (circle-test short graph n).1 ((exact n).0 h)) (λ e. (exact n).1 ((circle-test short graph n).0 e)) i;
}
