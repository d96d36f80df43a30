-- No run of a typed program is Wrong, and its answer has an integer exactly where `main` gives one.
use Rattle.std.proofs.Common.{◌≡◌, ◌≢◌, ℕ, ℤ, ◌<◌, Bool, true, false, List, [], ◌∷◌, map, Option, Some, None, refl, sym, ap, ◌∙◌, arith}
use Rattle.std.specs.Prelude.{◌==◌, is_some, slice_get}
use Rattle.std.proofs.lemmas.Bool.{eqb-true}
use Rattle.rml_base.specs.Light.{NoWrong}
use Rattle.rml_base.specs.Run.{Answer as Answered, Wrong}
use Rattle.rml_types.specs.declared.scheme.Scheme.{Scheme}
use Rattle.rml_types.specs.declared.tree.SchemeTree.{SchemeTree, out-SchemeTree}
use Rattle.rml_types.specs.declared.tree.SchemeTree.TheOpen.{SchemeTree-F}
use Rattle.rml_types.specs.declared.tree.SchemeTree.TheVariants as tree
use Rattle.rml_types.specs.Schemes.{inst}
use Rattle.rml_types.proofs.Callers.{inst-Named, inst-Rel}
use Rattle.rml_simulation.specs.declared.partial.Partial.{Partial}
use Rattle.rml_simulation.specs.declared.partial.Partial.TheVariants.{Yes, No, CutOff, GoneWrong}
use Rattle.rml_value.specs.declared.value.Value.{Value}
use Rattle.rml_value.specs.declared.value.Value.TheVariants as value
use Rattle.rml_builtin.specs.declared.applied.Answer.{Answer}
use Rattle.rml_builtin.specs.declared.types.TheConstants.{INT, LIST, STRING}
use Rattle.rml_builtin.specs.Types.{int, list, string}
use Rattle.rml_resolved.specs.declared.parts.Parts.{Parts}
use Rattle.rml_resolved.specs.declared.program.Program.{Program}
use Rattle.rml_resolved.specs.declared.tables.RelDef.{RelDef}
use Rattle.rml_resolved.specs.Facts.{tables_of}
use Rattle.rml_resolved.specs.Typing.{gives_integer, is_constant, is_list_of_texts, is_main, is_main_scheme, is_main_type, takes_texts}
use Rattle.rml_resolved.proofs.Callers.{both, constant_at, opened}
use Rattle.rml_terms.specs.Running.{argument, integer_at, integer_in}
use Rattle.rml_search.specs.Runs.{main_called, run_from, run_of, runs_of}
use Rattle.rml_typed.specs.Checked.{IsTyped}
use Rattle.rml_typed.specs.Typed.{AreItems}
use Rattle.rml_sound.specs.Full.{full, full_meanings}
use Rattle.rml_sound.specs.Values.{RelationHas, StoreTypes, ValueHas, ValuesHave}
use Rattle.rml_sound.specs.Safe.{AnswerHas, Safe}
use Rattle.rml_sound.proofs.Basic.{int-value}
use Rattle.rml_sound.proofs.Begun.{stands-full}
use Rattle.rml_sound.proofs.Called.{search-safe}
use Rattle.rml_sound.proofs.Listed.{first-has, just, list-has, values-length}
use Rattle.rml_sound.proofs.Written.{written-Named, written-Rel}

-- ---- the type of `main`

-- what `main` gives
abbrev pub given : Bool → List SchemeTree
given true = int ∷ []
given false = []

texts-at : (t : SchemeTree) (z : SchemeTree-F SchemeTree) → out-SchemeTree t ≡ z → is_list_of_texts z ≡ true → t ≡ list string
texts-at t (SchemeTree-F.Named d []) e h = absurd (cc)
texts-at t (SchemeTree-F.Named d (u ∷ [])) e h =
    let two = both (d == LIST) (is_constant STRING (out-SchemeTree u)) h in
    let of : d ≡ LIST = eqb-true d LIST two.first in
    opened t (SchemeTree-F.Named d (u ∷ [])) e ∙ tree.rolls-Named d (u ∷ []) ∙ ap (λ (k : ℕ). tree.Named k (u ∷ [])) of ∙ ap list (constant_at STRING u (out-SchemeTree u) refl two.second)
texts-at t (SchemeTree-F.Named d (u ∷ w ∷ us)) e h = absurd (cc)
texts-at t (SchemeTree-F.Var k) e h = absurd (cc)
texts-at t (SchemeTree-F.Tuple us) e h = absurd (cc)
texts-at t (SchemeTree-F.Rel us ws) e h = absurd (cc)

takes-at : (ins : List SchemeTree) → takes_texts ins ≡ true → ins ≡ list string ∷ []
takes-at [] h = absurd (cc)
takes-at (t ∷ []) h = ap (λ u. u ∷ []) (texts-at t (out-SchemeTree t) refl h)
takes-at (t ∷ u ∷ us) h = absurd (cc)

gives-at : (gives : Bool) (outs : List SchemeTree) → gives_integer gives outs ≡ true → outs ≡ given gives
gives-at true [] h = absurd (cc)
gives-at true (t ∷ []) h = ap (λ u. u ∷ []) (constant_at INT t (out-SchemeTree t) refl h)
gives-at true (t ∷ u ∷ us) h = absurd (cc)
gives-at false [] h = refl
gives-at false (t ∷ us) h = absurd (cc)

main-at : (gives : Bool) (t : SchemeTree) (z : SchemeTree-F SchemeTree) → out-SchemeTree t ≡ z → is_main_type gives z ≡ true → t ≡ tree.Rel (list string ∷ []) (given gives)
main-at gives t (SchemeTree-F.Rel ins outs) e h =
    let two = both (takes_texts ins) (gives_integer gives outs) h in
    opened t (SchemeTree-F.Rel ins outs) e ∙ tree.rolls-Rel ins outs ∙ ap (λ us. tree.Rel us outs) (takes-at ins two.first) ∙ ap (tree.Rel (list string ∷ [])) (gives-at gives outs two.second)
main-at gives t (SchemeTree-F.Named d us) e h = absurd (cc)
main-at gives t (SchemeTree-F.Var k) e h = absurd (cc)
main-at gives t (SchemeTree-F.Tuple us) e h = absurd (cc)

record Main (p : Program) : Type 0 where
  rel : RelDef
  there : slice_get p.rels p.main ≡ Some rel
  scheme : Scheme
  declared : rel.scheme ≡ Some scheme
  is : scheme.body ≡ tree.Rel (list string ∷ []) (given p.gives)

main-scheme : (p : Program) (rel : RelDef) → slice_get p.rels p.main ≡ Some rel → (o : Option Scheme) → rel.scheme ≡ o → is_main_scheme p.gives o ≡ true → Main p
main-scheme p rel there None e h = absurd (cc)
main-scheme p rel there (Some s) e h =
    record { rel = rel; there = there; scheme = s; declared = e; is = main-at p.gives s.body (out-SchemeTree s.body) refl (both (s.vars == 0) (is_main_type p.gives (out-SchemeTree s.body)) h).second }

main-relation : (p : Program) (o : Option RelDef) → slice_get p.rels p.main ≡ o → is_main p.gives o ≡ true → Main p
main-relation p None e h = absurd (cc)
main-relation p (Some rel) e h = main-scheme p rel e rel.scheme refl h

module _ (p : Program) where
  abbrev P : Parts
  P = tables_of p

  -- types without variables and abstypes are read as they stand
  constant-reads : (c : ℕ) → c < 8 → inst [] (full p.types (tree.Named c [])) ≡ tree.Named c []
  constant-reads c lt = grind (arith, written-Named (full_meanings p.types) c [], stands-full p c lt, inst-Named [] c [])

  texts-read : inst [] (full p.types (list string)) ≡ list string
  texts-read = grind (arith, written-Named (full_meanings p.types) LIST (string ∷ []), stands-full p LIST (omega arith), inst-Named [] LIST (full p.types string ∷ []), constant-reads STRING (omega arith))

  given-reads : (gives : Bool) → map (inst []) (map (full p.types) (given gives)) ≡ given gives
  given-reads true = ap (λ t. t ∷ []) (constant-reads INT (omega arith))
  given-reads false = refl

  main-has : (m : Main p) → RelationHas P p.main (list string ∷ []) (given p.gives)
  main-has m =
      RelationHas.declared m.rel m.scheme [] m.there m.declared
      (sym (ap (λ t. inst [] (full p.types t)) m.is ∙ ap (inst []) (written-Rel (full_meanings p.types) (list string ∷ []) (given p.gives)) ∙ inst-Rel [] (map (full p.types) (list string ∷ [])) (map (full p.types) (given p.gives))
      ∙ ap (λ t. tree.Rel (t ∷ []) (map (inst []) (map (full p.types) (given p.gives)))) texts-read ∙ ap (tree.Rel (list string ∷ [])) (given-reads p.gives)))

  pub main-relation-has : RelationHas P p.main (list string ∷ []) (given p.gives)
  main-relation-has = main-has (main-relation p (slice_get p.rels p.main) refl p.main_fits)

  -- ---- its argument

  all-texts : (args : List (List ℕ)) → ValuesHave P [] (map value.Text args) (map (λ (t : List ℕ). string) args)
  all-texts [] = ValuesHave.none
  all-texts (t ∷ args) = ValuesHave.more (value.Text t) string (map value.Text args) (map (λ (t : List ℕ). string) args) (ValueHas.text t) (all-texts args)

  are-texts : (args : List (List ℕ)) → AreItems string (map (λ (t : List ℕ). string) args)
  are-texts [] = tt
  are-texts (t ∷ args) = (refl, are-texts args)

  argument-has : (args : List (List ℕ)) → ValuesHave P [] (argument args ∷ []) (list string ∷ [])
  argument-has args = just P [] (argument args) (list string) (list-has p [] string (map value.Text args) (map (λ (t : List ℕ). string) args) (are-texts args) (all-texts args))

  pub main-safe : IsTyped P → (args : List (List ℕ)) (n : ℕ) → Safe (AnswerHas P [] (given p.gives)) (main_called p args n)
  main-safe typed args n = search-safe p typed p.main (list string ∷ []) (given p.gives) (argument args ∷ []) n main-relation-has (argument-has args)

-- ---- runs

not-wrong : (Q : Answer → Type 0) (w : Partial Answer) → Safe Q w → (run_from w).outcome ≢ Wrong
not-wrong Q (Yes a t n) safe h = absurd (cc)
not-wrong Q (No t n) safe h = absurd (cc)
not-wrong Q (CutOff t) safe h = absurd (cc)
not-wrong Q (GoneWrong t) safe h = absurd safe

pub never-wrong : (p : Program) → IsTyped (tables_of p) → NoWrong (runs_of p)
never-wrong p typed = record { on = λ args cells bytes. record { at = λ n. not-wrong (AnswerHas (tables_of p) [] (given p.gives)) (main_called p args n) (main-safe p typed args n) } }

integer-there : (p : Program) (T : StoreTypes) (gives : Bool) (vs : List Value) → ValuesHave (tables_of p) T vs (given gives) → is_some (integer_in vs) ≡ gives
integer-there p T true [] h = absurd (let count = values-length (tables_of p) T [] (int ∷ []) h in omega arith)
integer-there p T true (v ∷ []) h = let i = int-value p T v (first-has (tables_of p) T v int [] [] h) in ap (λ o. is_some (integer_at o)) i.1
integer-there p T true (v ∷ w ∷ vs) h = absurd (let count = values-length (tables_of p) T (v ∷ w ∷ vs) (int ∷ []) h in omega arith)
integer-there p T false [] h = refl
integer-there p T false (v ∷ vs) h = absurd (let count = values-length (tables_of p) T (v ∷ vs) [] h in omega arith)

answer-fits : (p : Program) (w : Partial Answer) (o : Option ℤ) → Safe (AnswerHas (tables_of p) [] (given p.gives)) w → (run_from w).outcome ≡ Answered o → is_some o ≡ p.gives
answer-fits p (Yes a t n) o safe h =
    let same : integer_in a.values ≡ o = cc in
    ap (λ (x : Option ℤ). is_some x) (sym same) ∙ integer-there p safe.T p.gives a.values safe.values
answer-fits p (No t n) o safe h = absurd (cc)
answer-fits p (CutOff t) o safe h = absurd (cc)
answer-fits p (GoneWrong t) o safe h = absurd safe

pub answers-fit : (p : Program) (args : List (List ℕ)) (n : ℕ) (o : Option ℤ) → IsTyped (tables_of p) → (run_of p args n).outcome ≡ Answered o → is_some o ≡ p.gives
answers-fit p args n o typed h = answer-fits p (main_called p args n) o (main-safe p typed args n) h
