-- Relations of a typed program are not Wrong, to any depth of calls.
use Rattle.std.proofs.Common.{◌≡◌, ℕ, zero, suc, true, List, [], ◌∷◌, map, length, Option, Some, refl, sym, subst, arith}
use Rattle.std.specs.Prelude.{◌&&◌, nat_lt, slice_get}
use Rattle.std.specs.List.{Contains, list_all}
use Rattle.std.proofs.lemmas.List.Elements.{Contains-append_right, Contains-get_or}
use Rattle.std.proofs.lemmas.Option.{get_or_from_slice_get, slice_get_within}
use Rattle.rml_types.specs.declared.tree.SchemeTree.{SchemeTree}
use Rattle.rml_simulation.specs.Partial.{or_else}
use Rattle.rml_value.specs.declared.value.Value.{Value}
use Rattle.rml_builtin.specs.Applied.{Store}
use Rattle.rml_builtin.specs.Called.{Called}
use Rattle.rml_builtin.specs.declared.applied.Answer.{Answer}
use Rattle.rml_resolved.specs.declared.parts.Parts.{Parts}
use Rattle.rml_resolved.specs.declared.program.Program.{Program}
use Rattle.rml_resolved.specs.declared.tables.RelDef.{RelDef}
use Rattle.rml_resolved.specs.declared.tables.RRule.{RRule}
use Rattle.rml_resolved.specs.Facts.{tables_of}
use Rattle.rml_resolved.specs.Fits.{counts_of, rule_fits}
use Rattle.rml_resolved.specs.Typing.{scheme_fits}
use Rattle.rml_resolved.proofs.Callers.{both, passes}
use Rattle.rml_terms.specs.Calling.{RelationCalls}
use Rattle.rml_search.specs.Context.{Context}
use Rattle.rml_search.specs.Search.{by_rule, relations, relations_to, try}
use Rattle.rml_search.specs.Whole.{context_of, rules_in, rules_of, search_of}
use Rattle.rml_typed.specs.Typed.{Uses}
use Rattle.rml_typed.specs.Parts.{RelType, RuleTyped}
use Rattle.rml_typed.specs.Units.{declared}
use Rattle.rml_typed.specs.Checked.{IsTyped}
use Rattle.rml_sound.specs.Full.{Reads}
use Rattle.rml_sound.specs.Values.{RelationHas, StoreHas, StoreTypes, ValuesHave}
use Rattle.rml_sound.specs.Safe.{AnswerHas, CallsSafe, Safe}
use Rattle.rml_sound.proofs.Combined.{safe-else, safe-step}
use Rattle.rml_sound.proofs.Expressions.{UsesHave, ValsHave}
use Rattle.rml_sound.proofs.Sound.{rule-safe}
use Rattle.rml_sound.proofs.Used.{by-rules, relation-fits, rule-has, vals-have}

-- what stands at a number of a list is in the list
pub contained : {X : Type 0} (xs : List X) (k : ℕ) (x : X) → slice_get xs k ≡ Some x → Contains xs x
contained {X} xs k x h = subst (λ (y : X). Contains xs y) (get_or_from_slice_get xs k x x h) (Contains-get_or xs k x (slice_get_within xs k x h))

-- rules are tried, each of which is not Wrong
try-safe : (c : Context) (calls : RelationCalls) (Q : Answer → Type 0) (s : Called) (rules : List RRule) → ((rule : RRule) → Contains rules rule → (n : ℕ) → Safe Q (by_rule c calls rule s n)) → (n : ℕ) → Safe Q (try c calls rules s n)
try-safe c calls Q s [] each n = tt
try-safe c calls Q s (r ∷ rs) each n =
    safe-step Q c.step_weight (λ m. or_else (by_rule c calls r s m) (try c calls rs s)) n
    (λ m. safe-else Q (by_rule c calls r s m) (try c calls rs s) (each r (0, omega arith, refl) m)
    (try-safe c calls Q s rs (λ rule among. each rule (Contains-append_right (r ∷ []) rs rule among))))

module _ (p : Program) (typed : IsTyped (tables_of p)) where
  abbrev P : Parts
  P = tables_of p

  valued : ValsHave p (context_of p).vals
  valued = vals-have p typed (length p.vals)

  rule-fits : (r : ℕ) (rel : RelDef) (rule : RRule) → slice_get p.rels r ≡ Some rel → Contains rel.rules rule → rule_fits (counts_of p.names p.vals p.rels) p.cons rule ≡ true
  rule-fits r rel rule there among =
      passes (rule_fits (counts_of p.names p.vals p.rels) p.cons) rel.rules rule
      (both (nat_lt rel.«module» (length p.names) && nat_lt rel.name (length p.names) && scheme_fits p.types rel.scheme && nat_lt 0 (length rel.rules))
      (list_all (rule_fits (counts_of p.names p.vals p.rels) p.cons) rel.rules) (relation-fits p r rel there)).second among

  -- the rules of a relation, which are typed as those of a relation of some type that is read as this
  rules-safe : (calls : RelationCalls) → CallsSafe P calls → (r : ℕ) (ins outs : List SchemeTree) (S : StoreTypes) (vs : List Value) (store : Store) (n : ℕ) → ValuesHave P S vs ins → StoreHas P S store
      → (text : ℕ) (reads : SchemeTree → SchemeTree) → Reads p.types text reads → (uses : Uses) → UsesHave p reads uses → (k : RelType) (rel : RelDef) → slice_get p.rels r ≡ Some rel
      → ((rule : RRule) → Contains rel.rules rule → RuleTyped (declared P text) uses k rule) → map reads k.inputs ≡ ins → map reads k.outputs ≡ outs
      → Safe (AnswerHas P S outs) (try (context_of p) calls rel.rules (record { values = vs; store = store }) n)
  rules-safe calls safe r ins outs S vs store n h stored text reads rd uses used k rel there each takes gives =
      try-safe (context_of p) calls (AnswerHas P S outs) (record { values = vs; store = store }) rel.rules
      (λ rule among m.
      let t = rule-has (declared P text) uses k rule (each rule among) in
      subst (λ (ts : List SchemeTree). Safe (AnswerHas P S ts) (by_rule (context_of p) calls rule (record { values = vs; store = store }) m)) gives
      (rule-safe p valued calls safe text reads rd uses used rule.vars t.G rel rule (contained p.rels r rel there) among k t.inputs t.goals t.outputs (rule-fits r rel rule there among) refl S vs store stored
      (subst (ValuesHave P S vs) (sym takes) h) m))
      n

  pub calls-safe : (depth : ℕ) → CallsSafe P (relations_to (context_of p) (rules_of p.rels) depth)
  calls-safe zero r ins outs S vs store n has h stored = tt
  calls-safe (suc depth) r ins outs S vs store n has h stored =
      let calls : RelationCalls = relations_to (context_of p) (rules_of p.rels) depth in
      let b = by-rules p typed (λ rel. Safe (AnswerHas P S outs) (try (context_of p) calls rel.rules (record { values = vs; store = store }) n)) r ins outs has
      (rules-safe calls (calls-safe depth) r ins outs S vs store n h stored) in
      subst (λ (o : Option RelDef). Safe (AnswerHas P S outs) (try (context_of p) calls (rules_in o) (record { values = vs; store = store }) n)) (sym b.1) b.2

  -- ---- the search of a relation

  empty-has : StoreHas P [] []
  empty-has = record { long = refl; typed = λ k t v e there. absurd (cc) }

  pub search-safe : (r : ℕ) (ins outs : List SchemeTree) (vs : List Value) (n : ℕ) → RelationHas P r ins outs → ValuesHave P [] vs ins → Safe (AnswerHas P [] outs) (search_of p r vs n)
  search-safe r ins outs vs n has h =
      safe-step (AnswerHas P [] outs) (context_of p).step_weight (λ m. relations (context_of p) (rules_of p.rels) r (record { values = vs; store = [] }) m) n
      (λ m. calls-safe (suc m) r ins outs [] vs [] m has h empty-has)
