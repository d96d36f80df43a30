-- The rules of lines with an instruction that moves no more than a cell; and a call of a relation that a variable stands for.
use Rattle.std.proofs.Common.{◌≡◌, ℕ, ◌+◌, ◌<◌, List, ◌∷◌, length, Option, Some, None, refl, sym, ap, ◌∙◌, subst, arith}
use Rattle.std.specs.Prelude.{false, option_and_then}
use Rattle.rml_base.specs.Run.{Rest}
use Rattle.rml_simulation.specs.Simulates.{Simulates}
use Rattle.rml_simulation.proofs.Callers.{old_weigh, old_wrong}
use Rattle.rml_value.specs.declared.value.Value.{Value, out-Value}
use Rattle.rml_value.specs.declared.value.Value.TheOpen.{Value-F}
use Rattle.rml_builtin.specs.Applied.{Store}
use Rattle.rml_terms.specs.Env.{Env, bind, look}
use Rattle.rml_terms.specs.Calling.{relation_at, relation_in}
use Rattle.rml_fol.specs.declared.statements.Callee.TheVariants as callee
use Rattle.rml_fol.specs.Expressions.{Vals, value_of}
use Rattle.rml_fol.specs.Statements.{values_of, relation_of}
use Rattle.rml_cps.specs.declared.statements.Stmt.TheVariants as stmt
use Rattle.rml_cps.specs.Weights.{set_weight}
use Rattle.rml_cps.specs.Statements.{OnAnswer, RelationActs, Scope, with_known, call, block}
use Rattle.rml_heap.specs.declared.cell.Cell.{Cell}
use Rattle.rml_heap.specs.Form as form
use Rattle.rml_heap.specs.Form.{Form, form_of}
use Rattle.rml_heap.proofs.Callers.{IsPlain, outline, outline_of}
use Rattle.rml_prims.proofs.Callers.{plain-form, plain-stands, plain_value}
use Rattle.rml_code.specs.declared.instructions.Instr.{Instr}
use Rattle.rml_code.specs.declared.instructions.Instr.TheVariants as instr
use Rattle.rml_code.specs.declared.state.State.{State}
use Rattle.rml_code.specs.Frames.{register, constant, put}
use Rattle.rml_code.specs.Effects.{word_cell, entry_in}
use Rattle.rml_code.specs.Remaining.{remains, at_turn}
use Rattle.rml_code.proofs.Callers.{by-Word, by-Const, by-CallRegister}
use Rattle.rml_implements.specs.Layout.{Places, Layout, in_register, binding, lost, Moved}
use Rattle.rml_implements.specs.World.{credit, names_at, word_value, StandsFor, Meets}
use Rattle.rml_implements.specs.Rules as rule
use Rattle.rml_implements.proofs.Runs.{along, along-new, along-old}
use Rattle.rml_implements.proofs.Values.{stands-later}
use Rattle.rml_implements.proofs.Places.{none-some, some-same, put-there, at-moved, at-lost}
use Rattle.rml_implements.proofs.Meetings.{put-later, meets-put, meets-bind}
use Rattle.rml_implements.proofs.EndRules.{values-args, called-there}
use Rattle.rml_implements.proofs.Lines.{known, line-Set, line-Call}

same-plain : (f : Form) → plain_value f ≡ word_value f
same-plain (form.Int i) = refl
same-plain (form.Char c) = refl
same-plain (form.Rel r) = refl
same-plain (form.Con c) = refl
same-plain (form.Block at) = refl
same-plain (form.Text n) = refl
same-plain (form.ConBlock c n) = refl
same-plain (form.Tuple n) = refl
same-plain form.ConsBlock = refl
same-plain form.Lvar = refl
same-plain form.Unset = refl
same-plain (form.Vector n) = refl
same-plain form.Other = refl

-- the cell of a relation
relation-is : (x : Value-F Value) (r : ℕ) → relation_at x ≡ Some r → x ≡ Value-F.Rel r
relation-is (Value-F.Rel n) r e = ap Value-F.Rel (some-same e)
relation-is _ r e = none-some _ e

module _ (vals : Vals) (calls : RelationActs) (rels registers : ℕ) (constants : ℕ → Option Value) (blocks : List (List Instr)) where
  abbrev M : ℕ → Layout → Scope → Env → Store → State → Type 0
  M = Meets vals calls rels registers constants blocks

  -- a register gets a cell that stands for what a new variable stands for
  pub meets-set : (i : ℕ) (l : Layout) (new : Places) (scope : Scope) (env : Env) (store : Store) (t : State) (x a : ℕ) (c : Cell) (v : Value) → a < registers → l.names.variables x ≡ false → StandsFor rels t c v → Moved (lost a) l.places new
      → M i l scope env store t → M i (binding x (in_register a) new l) scope (bind x v env) store (put a c t)
  meets-set i l new scope env store t x a c v small fresh stands mv m =
      let u : State = put a c t in
      let size = m.sound.registers_are in
      let there : register u a ≡ c = put-there t.registers a c (omega (arith, small, size)) in
      let m1 : M i (record l { places = new }) scope env store u =
      meets-put vals calls rels registers constants blocks i l new scope env store t a c
      (at-moved rels t (lost a) l.places new env (register t) (register u) (at-lost rels t t.registers a c) mv m.places) m
      in
      meets-bind vals calls rels registers constants blocks i (record l { places = new }) scope env store u x (in_register a) v fresh
      (subst (λ d. StandsFor rels u d v) (sym there) (stands-later rels t u (put-later vals calls rels registers constants blocks t a c) c v stands)) m1

  pub word-rule : rule.WordRule vals calls rels registers constants blocks
  word-rule at l spare is x a w e v new rest small fresh worth is_word there mv next = record {
    by = λ i called n le scope env store t m.
        let u : State = put a (word_cell w) t in
        let go : Value → Rest = λ d. block vals calls rest scope (bind x d env) store in
        let stands : StandsFor rels t (word_cell w) v = record { stands = plain-stands t.heap.values (names_at t) (length t.heap.values) (word_cell w) v (same-plain (form_of (word_cell w)) ∙ is_word); there = there } in
        along i (credit spare) _ (block vals calls (stmt.Set x e ∷ rest) scope env store) (remains blocks n is u) (remains blocks n (instr.Word a w ∷ is) t)
        (λ s. line-Set vals calls rest scope env store s x e) (λ s. by-Word blocks n is t s a w)
        (old_weigh i (credit spare) (set_weight e) (with_known (value_of vals e env) go) (remains blocks n is u)
        (subst (λ (o : Option Value). Simulates i (credit (set_weight e + spare)) (with_known o go) (remains blocks n is u)) (sym (worth env))
        (next.by i called n le scope (bind x v env) store u (meets-set i l new scope env store t x a (word_cell w) v small fresh stands mv m))));
  }

  pub const-rule : rule.ConstRule vals calls rels registers constants blocks
  const-rule at l spare is x a k e v new rest small fresh worth known_is mv next = record {
    by = λ i called n le scope env store t m.
        let u : State = put a (constant t k) t in
        let go : Value → Rest = λ d. block vals calls rest scope (bind x d env) store in
        along i (credit spare) _ (block vals calls (stmt.Set x e ∷ rest) scope env store) (remains blocks n is u) (remains blocks n (instr.Const a k ∷ is) t)
        (λ s. line-Set vals calls rest scope env store s x e) (λ s. by-Const blocks n is t s a k)
        (old_weigh i (credit spare) (set_weight e) (with_known (value_of vals e env) go) (remains blocks n is u)
        (subst (λ (o : Option Value). Simulates i (credit (set_weight e + spare)) (with_known o go) (remains blocks n is u)) (sym (worth env))
        (next.by i called n le scope (bind x v env) store u (meets-set i l new scope env store t x a (constant t k) v small fresh (m.sound.constants_are k v known_is) mv m))));
  }

  relation-there : (t : State) (c : Cell) (v : Value) (r : ℕ) → StandsFor rels t c v → relation_in v ≡ Some r → form_of c ≡ form.Rel r
  relation-there t c v r s e =
      let out : out-Value v ≡ Value-F.Rel r = relation-is (out-Value v) r e in
      let is : outline v ≡ form.Rel r = ap outline_of out in
      let P : Form → Type 0 = IsPlain in
      plain-form t.heap.values (names_at t) (length t.heap.values) c v (subst P (sym is) tt) s.stands ∙ is

  pub call-value-rule : rule.CallValueRule vals calls rels registers constants blocks
  call-value-rule at l spare is x a xs k h fs rest has ready ek eh = record {
    by = λ i called n le scope env store t m.
        let new : Rest = remains blocks n (instr.CallRegister a ∷ is) t in
        let last : Option ℕ → List Value → OnAnswer → Rest → Rest = λ o vs go other. call calls o go other (record { values = vs; store = store }) in
        let middle : List Value → OnAnswer → Rest = λ vs go. with_known (scope.failure h) (last (relation_of (callee.Var x) env) vs go) in
        along-old i (credit spare) _ (block vals calls (stmt.Call (callee.Var x) xs k h ∷ rest) scope env store) new
        (λ s. line-Call vals calls rest scope env store s (callee.Var x) xs k h)
        (known i (credit spare) (values_of xs env) (λ vs. with_known (scope.success k) (middle vs)) new
        (λ vs e. known i (credit spare) (scope.success k) (middle vs) new
        (λ go d. known i (credit spare) (scope.failure h) (last (relation_of (callee.Var x) env) vs go) new
        (λ other o.
        by-value i (look x env) new (λ p. last p vs go other)
        (λ p z. old_wrong i (credit spare) (last p vs go other) new 1 (ap (λ q. (last q vs go other 1).outcome) z))
        (λ v r there named.
        let s : StandsFor rels t (register t a) v = m.places x (in_register a) v has there in
        let is_relation : form_of (register t a) ≡ form.Rel r = relation-there t (register t a) v r s named in
        along-new i (credit spare) (last (Some r) vs go other) (at_turn blocks (2 + r) t) new
        (λ q. by-CallRegister blocks n is t q a (2 + r) (ap entry_in is_relation))
        (called-there vals calls rels registers constants blocks i l spare r k h fs vs scope env store t go other (s.there r is_relation) ek eh d o (values-args rels t env l.places m.places xs vs ready e) called m))
        refl))));
  }
    where
      by-value : (i : ℕ) (looked : Option Value) (new : Rest) (does : Option ℕ → Rest) → ((p : Option ℕ) → p ≡ None → Simulates i (credit spare) (does p) new)
          → ((v : Value) (r : ℕ) → looked ≡ Some v → relation_in v ≡ Some r → Simulates i (credit spare) (does (Some r)) new) → {o : Option Value} → looked ≡ o → Simulates i (credit spare) (does (option_and_then relation_in looked)) new
      by-value i None new does none some e = none None refl
      by-value i (Some v) new does none some e = pick (relation_in v) refl
        where
          pick : (o : Option ℕ) → relation_in v ≡ o → Simulates i (credit spare) (does o) new
          pick None z = none None refl
          pick (Some r) z = some v r refl z
