-- Types that are written out: what that does to each form of type and to instances, and that it forgets which abstypes a text
-- had written out before.
use Rattle.std.proofs.Common.{◌≡◌, ℕ, zero, suc, ◌<◌, ◌⊎◌, inl, inr, List, [], ◌∷◌, length, map, get_or, Option, Some, None, refl, sym, subst, ap, ◌∙◌, arith, IsTrue}
use Rattle.std.specs.Prelude.{◌==◌, ◌++◌, if◌then◌else◌, Bool, true, false, option_map, slice_get, unwrap_or}
use Rattle.std.specs.Option.{option_map_or}
use Rattle.std.specs.List.{AllByRecursion, Contains, concat}
use Rattle.std.proofs.lemmas.List.{length-map}
use Rattle.std.proofs.lemmas.List.Elements.{Contains-append_left, Contains-append_right}
use Rattle.std.proofs.lemmas.Option.{slice_get-map, slice_get_cases}
use Rattle.rml_types.specs.declared.scheme.Scheme.{Scheme}
use Rattle.rml_types.specs.declared.tree.SchemeTree.{SchemeTree}
use Rattle.rml_types.specs.declared.tree.SchemeTree.TheVariants as tree
use Rattle.rml_types.specs.Schemes.{inst, unit}
use Rattle.rml_types.proofs.Callers.{fold-Named, fold-Rel, fold-Tuple, fold-Var, induct, inst-Named, inst-Rel, inst-Tuple, inst-Var, twice}
use Rattle.rml_resolved.specs.declared.tables.TypeDef.{TypeDef}
use Rattle.rml_resolved.specs.Circles.{Needs, has_no_circle, names_at, type_needs, types_in}
use Rattle.rml_resolved.proofs.Callers.{by_rounds}
use Rattle.rml_typed.specs.Own.{Meanings, written_at, written, definition_in, meanings_to, own}
use Rattle.rml_typed.proofs.Callers.{written-same}
use Rattle.rml_sound.specs.Full.{definition, full_meanings_to, full_meanings, full, Reads}

-- two ways to map twice are one, where they are at each item
maps-twice : (f g h k : SchemeTree → SchemeTree) (us : List SchemeTree) → AllByRecursion (λ u. f (g u) ≡ h (k u)) us → map f (map g us) ≡ map h (map k us)
maps-twice f g h k [] a = refl
maps-twice f g h k (u ∷ us) a = rw (a.0, maps-twice f g h k us a.1) refl

map-twice : (f g h : SchemeTree → SchemeTree) (us : List SchemeTree) → AllByRecursion (λ u. f (g u) ≡ h u) us → map f (map g us) ≡ map h us
map-twice f g h [] a = refl
map-twice f g h (u ∷ us) a = rw (a.0, map-twice f g h us a.1) refl

-- ---- each form of type

module _ (meanings : Meanings) where
  abbrev W : SchemeTree → SchemeTree
  W = written meanings

  pub written-Var : (k : ℕ) → W (tree.Var k) ≡ tree.Var k
  written-Var k = fold-Var SchemeTree (written_at meanings) k

  pub written-Named : (c : ℕ) (ts : List SchemeTree) → W (tree.Named c ts) ≡ option_map_or (inst (map W ts)) (meanings c) (tree.Named c (map W ts))
  written-Named c ts = fold-Named SchemeTree (written_at meanings) c ts

  pub written-Tuple : (ts : List SchemeTree) → W (tree.Tuple ts) ≡ tree.Tuple (map W ts)
  written-Tuple ts = fold-Tuple SchemeTree (written_at meanings) ts

  pub written-Rel : (ins outs : List SchemeTree) → W (tree.Rel ins outs) ≡ tree.Rel (map W ins) (map W outs)
  written-Rel ins outs = fold-Rel SchemeTree (written_at meanings) ins outs

  -- ---- an instance

  at-written : (ts : List SchemeTree) (k : ℕ) → W (get_or ts k unit) ≡ get_or (map W ts) k unit
  at-written [] k = written-Tuple []
  at-written (t ∷ ts) zero = refl
  at-written (t ∷ ts) (suc k) = at-written ts k

  meant : (rs us : List SchemeTree) (c : ℕ) (o : Option SchemeTree)
      → option_map_or (inst (map (inst rs) us)) o (tree.Named c (map (inst rs) us)) ≡ inst rs (option_map_or (inst us) o (tree.Named c us))
  meant rs us c None = sym (inst-Named rs c us)
  meant rs us c (Some body) = sym (twice rs us body)

  pub written-inst : (ts : List SchemeTree) (t : SchemeTree) → W (inst ts t) ≡ inst (map W ts) (W t)
  written-inst ts = induct (λ t. W (inst ts t) ≡ inst (map W ts) (W t))
      (λ k. ap W (inst-Var ts k) ∙ at-written ts k ∙ sym (inst-Var (map W ts) k) ∙ ap (inst (map W ts)) (sym (written-Var k)))
      (λ c us a. ap W (inst-Named ts c us) ∙ written-Named c (map (inst ts) us)
      ∙ ap (λ (x : List SchemeTree). option_map_or (inst x) (meanings c) (tree.Named c x)) (maps-twice W (inst ts) (inst (map W ts)) W us a)
      ∙ meant (map W ts) (map W us) c (meanings c) ∙ ap (inst (map W ts)) (sym (written-Named c us)))
      (λ us a. ap W (inst-Tuple ts us) ∙ written-Tuple (map (inst ts) us) ∙ ap tree.Tuple (maps-twice W (inst ts) (inst (map W ts)) W us a)
      ∙ sym (inst-Tuple (map W ts) (map W us)) ∙ ap (inst (map W ts)) (sym (written-Tuple us)))
      (λ us vs a b. ap W (inst-Rel ts us vs) ∙ written-Rel (map (inst ts) us) (map (inst ts) vs)
      ∙ ap (λ (x : List SchemeTree). tree.Rel x (map W (map (inst ts) vs))) (maps-twice W (inst ts) (inst (map W ts)) W us a)
      ∙ ap (tree.Rel (map (inst (map W ts)) (map W us))) (maps-twice W (inst ts) (inst (map W ts)) W vs b)
      ∙ sym (inst-Rel (map W ts) (map W us) (map W vs)) ∙ ap (inst (map W ts)) (sym (written-Rel us vs)))

-- ---- only the meanings of the names in a type matter

module _ (f g : Meanings) where
  abbrev AgreeOn : List ℕ → Type 0
  AgreeOn cs = (c : ℕ) → Contains cs c → f c ≡ g c

  abbrev Alike : SchemeTree → Type 0
  Alike t = AgreeOn (types_in t) → written f t ≡ written g t

  parts-alike : (ts : List SchemeTree) → AllByRecursion Alike ts → AgreeOn (concat (map types_in ts)) → map (written f) ts ≡ map (written g) ts
  parts-alike [] a agree = refl
  parts-alike (t ∷ ts) a agree =
      let rest = concat (map types_in ts) in
      let first : written f t ≡ written g t = a.0 (λ c there. agree c (Contains-append_left (types_in t) rest c there)) in
      let more : map (written f) ts ≡ map (written g) ts = parts-alike ts a.1 (λ c there. agree c (Contains-append_right (types_in t) rest c there)) in
      rw (first, more) refl

  read-in : (t : SchemeTree) (cs : List ℕ) → types_in t ≡ cs → AgreeOn (types_in t) → AgreeOn cs
  read-in t cs is agree = subst AgreeOn is agree

  pub written-alike : (t : SchemeTree) → Alike t
  written-alike = induct Alike
      (λ k agree. written-Var f k ∙ sym (written-Var g k))
      (λ c ts a agree.
      let all : AgreeOn (c ∷ concat (map types_in ts)) = read-in (tree.Named c ts) _ (fold-Named (List ℕ) names_at c ts) agree in
      let parts : map (written f) ts ≡ map (written g) ts = parts-alike ts a (λ d there. all d (Contains-append_right (c ∷ []) (concat (map types_in ts)) d there)) in
      written-Named f c ts ∙ ap (λ (x : List SchemeTree). option_map_or (inst x) (f c) (tree.Named c x)) parts
      ∙ ap (λ (o : Option SchemeTree). option_map_or (inst (map (written g) ts)) o (tree.Named c (map (written g) ts))) (all c (0, omega arith, refl)) ∙ sym (written-Named g c ts))
      (λ ts a agree. written-Tuple f ts ∙ ap tree.Tuple (parts-alike ts a (read-in (tree.Tuple ts) _ (fold-Tuple (List ℕ) names_at ts) agree)) ∙ sym (written-Tuple g ts))
      (λ us vs a b agree.
      let all : AgreeOn (concat (map types_in us) ++ concat (map types_in vs)) = read-in (tree.Rel us vs) _ (fold-Rel (List ℕ) names_at us vs) agree in
      written-Rel f us vs
      ∙ ap (λ (x : List SchemeTree). tree.Rel x (map (written f) vs)) (parts-alike us a (λ c there. all c (Contains-append_left (concat (map types_in us)) (concat (map types_in vs)) c there)))
      ∙ ap (tree.Rel (map (written g) us)) (parts-alike vs b (λ c there. all c (Contains-append_right (concat (map types_in us)) (concat (map types_in vs)) c there)))
      ∙ sym (written-Rel g us vs))

-- ---- what an abstype stands for, written out, is its definition written out: no depth stands in that

meaning-alike : (f g : Meanings) (m : Option Scheme) → ((c : ℕ) → Contains (option_map_or (λ (s : Scheme). types_in s.body) m []) c → f c ≡ g c)
    → option_map (λ (s : Scheme). written f s.body) m ≡ option_map (λ (s : Scheme). written g s.body) m
meaning-alike f g None agree = refl
meaning-alike f g (Some s) agree = ap Some (written-alike f g s.body agree)

definition-alike : (f g : Meanings) (o : Option TypeDef) → ((c : ℕ) → Contains (unwrap_or (option_map type_needs o) []) c → f c ≡ g c)
    → option_map (λ (s : Scheme). written f s.body) (definition o) ≡ option_map (λ (s : Scheme). written g s.body) (definition o)
definition-alike f g None agree = refl
definition-alike f g (Some d) agree = meaning-alike f g d.means agree

needs-at : (types : List TypeDef) (c j : ℕ) → Contains (unwrap_or (option_map type_needs (slice_get types c)) []) j → Needs (map type_needs types) c j
needs-at types c j there = subst (λ (o : Option (List ℕ)). Contains (unwrap_or o []) j) (sym (slice_get-map type_needs types c)) there

settled : (types : List TypeDef) → IsTrue (has_no_circle (map type_needs types)) → (c : ℕ) → c < length types
    → full_meanings_to types (length types) c ≡ full_meanings_to types (suc (length types)) c
settled types ends c inside =
    let count : length (map type_needs types) ≡ length types = length-map types type_needs in
    subst (λ (n : ℕ). full_meanings_to types n c ≡ full_meanings_to types (suc n) c) count
    (by_rounds (map type_needs types) (λ n i. full_meanings_to types n i ≡ full_meanings_to types (suc n) i) ends
    (λ n i less agree. definition-alike (full_meanings_to types n) (full_meanings_to types (suc n)) (slice_get types i) (λ j there. agree j (needs-at types i j there))) c (omega arith))

none-meant : (types : List TypeDef) (n c : ℕ) → definition (slice_get types c) ≡ None → full_meanings_to types n c ≡ None
none-meant types zero c none = refl
none-meant types (suc n) c none = ap (λ (o : Option Scheme). option_map (λ (s : Scheme). written (full_meanings_to types n) s.body) o) none

pub full-none : (types : List TypeDef) (c : ℕ) → definition (slice_get types c) ≡ None → full_meanings types c ≡ None
full-none types c none = none-meant types (length types) c none

pub full-meaning : (types : List TypeDef) → IsTrue (has_no_circle (map type_needs types)) → (c : ℕ)
    → full_meanings types c ≡ option_map (λ (s : Scheme). full types s.body) (definition (slice_get types c))
full-meaning types ends c =
    elim (slice_get_cases types c).1 [
      | inl w ↦ settled types ends c w.1
      | inr w ↦ (let none : definition (slice_get types c) ≡ None = ap definition w.1 in
          full-none types c none ∙ sym (ap (λ (o : Option Scheme). option_map (λ (s : Scheme). full types s.body) o) none))
    ]

-- ---- what a text has written out before

in-text : (text : ℕ) (o : Option TypeDef) → (definition_in text o ≡ None) ⊎ (definition_in text o ≡ definition o)
in-text text None = inl refl
in-text text (Some d) = on (d.«module» == text)
  where
    on : (b : Bool) → ((if b then d.means else None) ≡ None) ⊎ ((if b then d.means else None) ≡ d.means)
    on true = inr refl
    on false = inl refl

module _ (types : List TypeDef) (ends : IsTrue (has_no_circle (map type_needs types))) (text : ℕ) where
  abbrev F : SchemeTree → SchemeTree
  F = full types

  abbrev T : ℕ → SchemeTree → SchemeTree
  T depth = written (meanings_to types text depth)

  -- a name, where the text has a definition for it or none
  name-full : (depth c : ℕ) (ts : List SchemeTree) → ((t : SchemeTree) → F (T depth t) ≡ F t) → map F (map (T (suc depth)) ts) ≡ map F ts
      → (here x : Option Scheme) → (here ≡ None) ⊎ (here ≡ x) → full_meanings types c ≡ option_map (λ (s : Scheme). F s.body) x
      → F (option_map_or (inst (map (T (suc depth)) ts)) (option_map (λ (s : Scheme). T depth s.body) here) (tree.Named c (map (T (suc depth)) ts))) ≡ F (tree.Named c ts)
  name-full depth c ts less parts None x is means =
      written-Named (full_meanings types) c (map (T (suc depth)) ts)
      ∙ ap (λ (y : List SchemeTree). option_map_or (inst y) (full_meanings types c) (tree.Named c y)) parts ∙ sym (written-Named (full_meanings types) c ts)
  name-full depth c ts less parts (Some s) None is means = absurd (elim is [ inl e ↦ cc | inr e ↦ cc ])
  name-full depth c ts less parts (Some s) (Some r) is means =
      let same : s ≡ r = elim is [ inl e ↦ absurd (cc) | inr e ↦ cc ] in
      written-inst (full_meanings types) (map (T (suc depth)) ts) (T depth s.body) ∙ ap (λ (y : List SchemeTree). inst y (F (T depth s.body))) parts
      ∙ ap (inst (map F ts)) (less s.body) ∙ ap (λ (q : Scheme). inst (map F ts) (F q.body)) same
      ∙ sym (ap (λ (o : Option SchemeTree). option_map_or (inst (map F ts)) o (tree.Named c (map F ts))) means) ∙ sym (written-Named (full_meanings types) c ts)

  to-full : (depth : ℕ) (t : SchemeTree) → F (T depth t) ≡ F t
  to-full zero t = ap F (written-same (meanings_to types text zero) (λ c. refl) t)
  to-full (suc depth) t = induct (λ t. F (T (suc depth) t) ≡ F t)
      (λ k. ap F (written-Var (meanings_to types text (suc depth)) k))
      (λ c ts a. ap F (written-Named (meanings_to types text (suc depth)) c ts)
      ∙ name-full depth c ts (to-full depth) (map-twice F (T (suc depth)) F ts a) (definition_in text (slice_get types c)) (definition (slice_get types c)) (in-text text (slice_get types c)) (full-meaning types ends c))
      (λ ts a. ap F (written-Tuple (meanings_to types text (suc depth)) ts) ∙ written-Tuple (full_meanings types) (map (T (suc depth)) ts)
      ∙ ap tree.Tuple (map-twice F (T (suc depth)) F ts a) ∙ sym (written-Tuple (full_meanings types) ts))
      (λ us vs a b. ap F (written-Rel (meanings_to types text (suc depth)) us vs) ∙ written-Rel (full_meanings types) (map (T (suc depth)) us) (map (T (suc depth)) vs)
      ∙ ap (λ (x : List SchemeTree). tree.Rel x (map F (map (T (suc depth)) vs))) (map-twice F (T (suc depth)) F us a)
      ∙ ap (tree.Rel (map F us)) (map-twice F (T (suc depth)) F vs b) ∙ sym (written-Rel (full_meanings types) us vs))
      t

  pub full-own : (t : SchemeTree) → F (own types text t) ≡ F t
  full-own t = to-full (length types) t

  -- ---- how the types of a text are read, where type variables have these types

  at-each : (fixed ts : List SchemeTree) → AllByRecursion (λ t. inst fixed (F t) ≡ inst fixed (F t)) ts
  at-each fixed [] = tt
  at-each fixed (t ∷ ts) = (refl, at-each fixed ts)

  pub reads-full : (fixed : List SchemeTree) → Reads types text (λ t. inst fixed (F t))
  reads-full fixed = record {
    named = λ c ts none.
        ap (inst fixed) (written-Named (full_meanings types) c ts ∙ ap (λ (o : Option SchemeTree). option_map_or (inst (map F ts)) o (tree.Named c (map F ts))) (full-none types c none))
        ∙ inst-Named fixed c (map F ts) ∙ ap (tree.Named c) (map-twice (inst fixed) F (λ t. inst fixed (F t)) ts (at-each fixed ts));
    tuple = λ ts. ap (inst fixed) (written-Tuple (full_meanings types) ts) ∙ inst-Tuple fixed (map F ts) ∙ ap tree.Tuple (map-twice (inst fixed) F (λ t. inst fixed (F t)) ts (at-each fixed ts));
    relation = λ ins outs.
        ap (inst fixed) (written-Rel (full_meanings types) ins outs) ∙ inst-Rel fixed (map F ins) (map F outs)
        ∙ ap (λ (x : List SchemeTree). tree.Rel x (map (inst fixed) (map F outs))) (map-twice (inst fixed) F (λ t. inst fixed (F t)) ins (at-each fixed ins))
        ∙ ap (tree.Rel (map (λ t. inst fixed (F t)) ins)) (map-twice (inst fixed) F (λ t. inst fixed (F t)) outs (at-each fixed outs));
    instance = λ ts t.
        ap (inst fixed) (written-inst (full_meanings types) ts (own types text t)) ∙ ap (λ u. inst fixed (inst (map F ts) u)) (full-own t)
        ∙ twice fixed (map F ts) (F t) ∙ ap (λ (x : List SchemeTree). inst x (F t)) (map-twice (inst fixed) F (λ t. inst fixed (F t)) ts (at-each fixed ts));
  }
