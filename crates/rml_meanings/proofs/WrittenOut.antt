-- The definitions of a text, written out where they name one another so deep at most, are those that are written out so many times
-- over.
use Rattle.std.proofs.Common.{◌≡◌, ℕ, zero, suc, ◌+◌, ◌-◌, List, [], ◌∷◌, length, map, Option, Some, None, refl, sym, ap, ◌∙◌, arith}
use Rattle.std.specs.Prelude.{Err, IfOk, Ok, Result, Vec, is_some, option_map, slice_get}
use Rattle.std.specs.declared.alloc.Global.{Global}
use Rattle.rml_base.specs.declared.memory.Memory.{Memory}
use mathlib.Core.Path.{fun_ext}
use Rattle.rml_types.specs.declared.scheme.Scheme.{Scheme}
use Rattle.rml_types.specs.declared.tree.SchemeTree.{SchemeTree}
use Rattle.rml_resolved.specs.declared.tables.TypeDef.{TypeDef}
use Rattle.rml_typed.specs.Own.{Meanings, definition_in, meanings_to, own_meanings}
use Rattle.rml_equations.specs.Rebuilding.{meanings_in}
use Rattle.rml_abbreviations.specs.Written.{meaning_in, times, written, written_out}
use Rattle.rml_abbreviations.proofs.Callers.{times-more, written-both, written-nothing}
use Rattle.rml_meanings.specs.Bodies.{body_in}

module _ (types : List TypeDef) (text : ℕ) where
  -- what the definitions say of a name, each by itself
  abbrev body : ℕ → Option SchemeTree
  body c = option_map (λ (s : Scheme). s.body) (definition_in text (slice_get types c))

  -- the definitions written out to a depth
  abbrev deep : ℕ → Meanings
  deep = meanings_to types text

  deep-at : (depth : ℕ) (o : Option Scheme) → option_map (λ (s : Scheme). written (deep depth) s.body) o ≡ option_map (written (deep depth)) (option_map (λ (s : Scheme). s.body) o)
  deep-at depth None = refl
  deep-at depth (Some s) = refl

  pub deeper : (depth c : ℕ) → deep (suc depth) c ≡ option_map (written (deep depth)) (body c)
  deeper depth c = deep-at depth (definition_in text (slice_get types c))

  some-map : (f : SchemeTree → SchemeTree) (o : Option SchemeTree) → is_some (option_map f o) ≡ is_some o
  some-map f None = refl
  some-map f (Some t) = refl

  same-names : (depth c : ℕ) → is_some (body c) ≡ is_some (deep (suc depth) c)
  same-names depth c = sym (ap is_some (deeper depth c) ∙ some-map (written (deep depth)) (body c))

  nothing : (t : SchemeTree) → written (deep zero) t ≡ t
  nothing t = written-nothing (deep zero) (λ c. refl) t

  map-same : (f : SchemeTree → SchemeTree) → ((t : SchemeTree) → f t ≡ t) → (o : Option SchemeTree) → option_map f o ≡ o
  map-same f same None = refl
  map-same f same (Some t) = ap Some (same t)

  once : (t : SchemeTree) → written (deep 1) t ≡ written body t
  once t = ap (λ (ms : Meanings). written ms t) (fun_ext (λ c. deeper zero c ∙ map-same (written (deep zero)) nothing (body c)))

  pub out : (depth : ℕ) (t : SchemeTree) → written (deep depth) t ≡ written_out depth body t
  out zero t = nothing t
  out (suc zero) t = once t
  out (suc (suc depth)) t =
      let more : suc depth + 1 ≡ suc (suc depth) = omega arith in
      written-both body (deep (suc depth)) (deep (suc (suc depth))) (deeper (suc depth)) (same-names depth) t ∙ out (suc depth) (written body t)
      ∙ sym (times-more (suc depth) 1 (written body) t) ∙ ap (λ n. times n (written body) t) more

  -- ---- tables

  -- the definitions of all types, and what is made of each
  made-at : (f : SchemeTree → SchemeTree) (ts : List TypeDef) (c : ℕ)
      → meanings_in (map (option_map f) (map (body_in text) ts)) c ≡ option_map f (option_map (λ (s : Scheme). s.body) (definition_in text (slice_get ts c)))
  made-at f [] c = refl
  made-at f (d ∷ ts) zero = refl
  made-at f (d ∷ ts) (suc c) = made-at f ts c

  body-at : (ts : List TypeDef) (c : ℕ) → meaning_in (map (body_in text) ts) c ≡ option_map (λ (s : Scheme). s.body) (definition_in text (slice_get ts c))
  body-at [] c = refl
  body-at (d ∷ ts) zero = refl
  body-at (d ∷ ts) (suc c) = body-at ts c

  own-at : (f : SchemeTree → SchemeTree) (depth : ℕ) → ((t : SchemeTree) → f t ≡ written (deep depth) t) → (count c : ℕ) → count - 1 ≡ depth → (count ≡ 0 → body c ≡ None)
      → option_map f (body c) ≡ deep count c
  own-at f depth same zero c e none = ap (option_map f) (none refl)
  own-at f depth same (suc n) c e none =
      let is : n ≡ depth = omega arith in
      ap (λ (g : SchemeTree → SchemeTree). option_map g (body c)) (fun_ext same) ∙ sym (deeper depth c) ∙ ap (λ k. deep (suc k) c) (sym is)

  no-types : (ts : List TypeDef) (c : ℕ) → length ts ≡ 0 → slice_get ts c ≡ None
  no-types [] c e = refl
  no-types (d ∷ ts) c e = absurd (omega arith)

  pub meanings-made : (table bodies items : List (Option SchemeTree)) (depth : ℕ) → length types - 1 ≡ depth → bodies ≡ map (body_in text) types
      → ((t : SchemeTree) → written (meaning_in table) t ≡ written_out depth (meaning_in bodies) t) → items ≡ map (option_map (written (meaning_in table))) bodies
      → (c : ℕ) → meanings_in items c ≡ own_meanings types text c
  meanings-made table bodies items depth is all writes made c =
      let same : meaning_in bodies ≡ body = ap meaning_in all ∙ fun_ext (body-at types) in
      ap (λ (l : List (Option SchemeTree)). meanings_in l c) (made ∙ ap (map (option_map (written (meaning_in table)))) all)
      ∙ made-at (written (meaning_in table)) types c
      ∙ own-at (written (meaning_in table)) depth (λ t. writes t ∙ ap (λ (ms : Meanings). written_out depth ms t) same ∙ sym (out depth t)) (length types) c is
      (λ e. ap (λ (o : Option TypeDef). option_map (λ (s : Scheme). s.body) (definition_in text o)) (no-types types c e))

  -- the same of an answer
  pub made-of : (table bodies others : List (Option SchemeTree)) (depth : ℕ) (r : Result (Vec (Option SchemeTree) Global) Memory) → length types - 1 ≡ depth → bodies ≡ map (body_in text) types → others ≡ map (body_in text) types
      → ((t : SchemeTree) → written (meaning_in table) t ≡ written_out depth (meaning_in bodies) t) → IfOk r (λ v. v.items ≡ map (option_map (written (meaning_in table))) others)
      → IfOk r (λ v. (c : ℕ) → meanings_in v.items c ≡ own_meanings types text c)
  made-of table bodies others depth (Err e) is all also writes made = tt
  made-of table bodies others depth (Ok v) is all also writes made = meanings-made table bodies v.items depth is all writes (made ∙ ap (map (option_map (written (meaning_in table)))) (also ∙ sym all))
