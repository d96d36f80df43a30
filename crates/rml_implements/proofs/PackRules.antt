-- The rule of a tuple that keeps registers.
use Rattle.std.proofs.Common.{◌≡◌, ◌≢◌, ℕ, zero, suc, ◌+◌, ◌<◌, ◌≤◌, true, List, [], ◌∷◌, ◌++◌, length, Option, Some, None, refl, sym, ap, ◌∙◌, subst, arith, length-append}
use Rattle.std.specs.Prelude.{slice_get, option_map}
use Rattle.std.specs.List.{AllByRecursion}
use Rattle.std.proofs.lemmas.List.{length-map}
use Rattle.std.proofs.lemmas.Option.{slice_get-map, slice_get_within}
use Rattle.rml_simulation.specs.Simulates.{Simulates}
use Rattle.rml_value.specs.declared.value.Value.{Value}
use Rattle.rml_builtin.specs.Applied.{Store}
use Rattle.rml_terms.specs.Env.{Env, look}
use Rattle.rml_fol.specs.Expressions.{Vals}
use Rattle.rml_cps.specs.Statements.{RelationActs, Scope, block}
use Rattle.rml_heap.specs.declared.cell.Cell.{Cell}
use Rattle.rml_heap.specs.Form as form
use Rattle.rml_heap.specs.Form.{Form, form_of}
use Rattle.rml_heap.specs.Reading.{look as look_at, form_before}
use Rattle.rml_heap.proofs.Callers.{stands-no_lvar}
use Rattle.rml_prims.specs.Shapes.{block_cell}
use Rattle.rml_code.specs.declared.instructions.Instr.{Instr}
use Rattle.rml_code.specs.declared.instructions.Instr.TheVariants as instr
use Rattle.rml_code.specs.declared.state.State.{State}
use Rattle.rml_code.specs.Frames.{register, registers_of, put}
use Rattle.rml_code.specs.Effects.{parts_in, tuple_head}
use Rattle.rml_code.specs.Remaining.{remains, weigh_if_room}
use Rattle.rml_code.proofs.Callers.{by-Tuple}
use Rattle.rml_implements.specs.Layout.{Place, Places, at_path, in_block, packed, Names, AllKnown}
use Rattle.rml_implements.specs.World.{credit, names_at, Later, IsThere, Leads, Sound, Meets}
use Rattle.rml_implements.specs.Rules as rule
use Rattle.rml_implements.proofs.Runs.{along-new, room-there}
use Rattle.rml_implements.proofs.Values.{leads-later}
use Rattle.rml_implements.proofs.Places.{some-same, none-some, at-moved, at-copied, AllAt}
use Rattle.rml_implements.proofs.Meetings.{meets-next, meets-put}
use Rattle.rml_implements.proofs.Built.{built, NoHead, built-later, built-sound, look-built}

tuple-form : (n : ℕ) → form_of (tuple_head n) ≡ form.Tuple n
unfolding form.form
tuple-form n = refl

block-is : (at : ℕ) → form_of (block_cell at) ≡ form.Block at
unfolding form.form
block-is at = refl

module _ (rels : ℕ) (t : State) where
  -- what leads to a value is no head, and names relations that are there
  leads-no_head : (v : Value) (path : List ℕ) (c : Cell) → Leads rels t v path c → NoHead c
  leads-no_head v [] c h = stands-no_lvar t.heap.values (names_at t) (length t.heap.values) c v h.stands
  leads-no_head v (i ∷ path) c h = λ e. let both : form.Block h.0 ≡ form.Lvar = sym h.1 ∙ e in cc

  leads-there : (v : Value) (path : List ℕ) (c : Cell) → Leads rels t v path c → IsThere rels c
  leads-there v [] c h = h.there
  leads-there v (i ∷ path) c h = λ r e. let both : form.Block h.0 ≡ form.Rel r = sym h.1 ∙ e in absurd (cc)

  all-known : (P : Cell → Type 0) (env : Env) (n : Names) (ps : Places) → ((v : Value) (path : List ℕ) (c : Cell) → Leads rels t v path c → P c) → ((x : ℕ) → n.variables x ≡ true → (v : Value) × (look x env ≡ Some v)) → AllAt rels t (register t) env ps
      → (rs : List ℕ) → AllKnown rs n ps → AllByRecursion P (registers_of rs t)
  all-known P env n ps go bound all [] h = tt
  all-known P env n ps go bound all (r ∷ rs) h =
      let k = h.0 in
      let b = bound k.0 k.2 in
      (subst (λ z. P (register t z)) k.4 (go b.0 k.1.path (register t k.1.register) (all k.0 k.1 b.0 k.3 b.1)), all-known P env n ps go bound all rs h.1)

module _ (vals : Vals) (calls : RelationActs) (rels registers : ℕ) (constants : ℕ → Option Value) (blocks : List (List Instr)) where
  -- the parts of the new tuple are found in it
  in-tuple : (rs : List ℕ) (t : State) → form_before t.heap.values (length t.heap.values) ≢ form.Lvar → NoHead (tuple_head (length rs)) → AllByRecursion NoHead (registers_of rs t) → (v : Value) (path : List ℕ) (q : Place) → in_block rs path ≡ Some q
      → Leads rels (built (tuple_head (length rs)) (registers_of rs t) t) v q.path (register t q.register) → Leads rels (built (tuple_head (length rs)) (registers_of rs t) t) v path (block_cell (length t.heap.values))
  in-tuple rs t clear no_head no_heads v [] q e h = none-some _ e
  in-tuple rs t clear no_head no_heads v (zero ∷ path) q e h = none-some _ e
  in-tuple rs t clear no_head no_heads v (suc i ∷ path) q e h = pick (slice_get rs i) refl e
    where
      parts : List Cell
      parts = registers_of rs t

      head : Cell
      head = tuple_head (length rs)

      whole : List Cell
      whole = t.heap.values ++ head ∷ parts

      top : ℕ
      top = length t.heap.values

      pick : (o : Option ℕ) → slice_get rs i ≡ o → at_path o path ≡ Some q → Leads rels (built head parts t) v (suc i ∷ path) (block_cell top)
      pick None w d = none-some _ d
      pick (Some r) w d =
          let lt : i < length rs = slice_get_within rs i r w in
          let count : length parts ≡ length rs = length-map rs (register t) in
          let k : Leads rels (built head parts t) v path (register t r) = subst (λ (z : Place). Leads rels (built head parts t) v z.path (register t z.register)) (sym (some-same d)) h in
          let part : slice_get parts i ≡ Some (register t r) = slice_get-map (register t) rs i ∙ ap (option_map (register t)) w in
          let seen : look_at whole (top + suc i) ≡ register t r = look-built t.heap.values (head ∷ parts) (suc i) (register t r) clear (no_head, no_heads) part in
          let first : look_at whole (top + 0) ≡ head = look-built t.heap.values (head ∷ parts) 0 head clear (no_head, no_heads) refl in
          let here : top + 0 ≡ top = omega arith in
          let form_is : form_of (look_at whole top) ≡ form.Tuple (length rs) = ap (λ z. form_of (look_at whole z)) (sym here) ∙ ap form_of first ∙ tuple-form (length rs) in
          let long : length whole ≡ top + suc (length parts) = length-append t.heap.values (head ∷ parts) in
          let enough : suc i ≤ length rs = omega (arith, lt) in (
            top,
            block-is top,
            record { first = omega arith; last = subst (λ f. suc i ≤ parts_in f) (sym form_is) enough; inside = omega (arith, lt, count, long) },
            subst (λ c. Leads rels (built head parts t) v path c) (sym seen) k,
          )

  pub pack-rule : rule.PackRule vals calls rels registers constants blocks
  pack-rule at l spare is body a rs new small paid known mv next = record {
    by = λ i called n le scope env store t m.
        let parts : List Cell = registers_of rs t in
        let head : Cell = tuple_head (length rs) in
        let u : State = built head parts t in
        let w : State = put a (block_cell (length t.heap.values)) u in
        let count : length parts ≡ length rs = length-map rs (register t) in
        let no_head : NoHead head = λ e. let both : form.Tuple (length rs) ≡ form.Lvar = sym (tuple-form (length rs)) ∙ e in cc in
        let no_heads : AllByRecursion NoHead parts = all-known rels t NoHead env l.names l.places (leads-no_head rels t) m.covers.bound m.places rs known in
        let later : Later t u = built-later rels registers constants t store head parts no_head no_heads in
        let same : suc (length rs) ≡ suc (length parts) = ap suc (sym count) in
        along-new i (credit spare) (block vals calls body scope env store) (λ s. weigh_if_room (suc (length parts)) t (remains blocks n is w s)) (remains blocks n (instr.Tuple a rs ∷ is) t)
        (λ s. by-Tuple blocks n is t s a rs)
        (subst (λ (k : ℕ). Simulates i (credit spare) (block vals calls body scope env store) (λ s. weigh_if_room k t (remains blocks n is w s))) same
        (room-there (suc (length rs)) t i spare (block vals calls body scope env store) (remains blocks n is w) paid
        (λ room. next.by i called n le scope env store w (packed-meets i scope env store t m no_head no_heads later (omega (arith, room, count))))));
  }
    where
      packed-meets : (i : ℕ) (scope : Scope) (env : Env) (store : Store) (t : State) → Meets vals calls rels registers constants blocks i l scope env store t → NoHead (tuple_head (length rs)) → AllByRecursion NoHead (registers_of rs t)
          → Later t (built (tuple_head (length rs)) (registers_of rs t) t) → length t.heap.values + suc (length (registers_of rs t)) + length t.heap.frames ≤ t.heap.limit
          → Meets vals calls rels registers constants blocks i (record l { places = new }) scope env store (put a (block_cell (length t.heap.values)) (built (tuple_head (length rs)) (registers_of rs t) t))
      packed-meets i scope env store t m no_head no_heads later room =
          let u : State = built (tuple_head (length rs)) (registers_of rs t) t in
          let c : Cell = block_cell (length t.heap.values) in
          let size = m.sound.registers_are in
          let there : IsThere rels (tuple_head (length rs)) = λ r e. let both : form.Tuple (length rs) ≡ form.Rel r = sym (tuple-form (length rs)) ∙ e in absurd (cc) in
          let all : AllByRecursion (IsThere rels) (registers_of rs t) = all-known rels t (IsThere rels) env l.names l.places (leads-there rels t) m.covers.bound m.places rs known in
          let places : AllAt rels u (register t) env l.places = λ x p v has e. leads-later rels t u later v p.path (register t p.register) (m.places x p v has e) in
          let sound : Sound rels registers constants u store = built-sound rels registers constants t store (tuple_head (length rs)) (registers_of rs t) no_head no_heads room there all m.sound in
          let m1 : Meets vals calls rels registers constants blocks i l scope env store u = meets-next vals calls rels registers constants blocks i l l.places scope env store store t u later refl refl refl sound places (λ q p e. refl) m in
          meets-put vals calls rels registers constants blocks i l new scope env store u a c
          (at-moved rels u (packed a rs) l.places new env (register t) (register (put a c u))
          (λ v p q e h. at-copied rels u t.registers a c (in_block rs p.path) v p q e (omega (arith, small, size)) (λ d k. in-tuple rs t m.sound.binds.last no_head no_heads v p.path q d k) h) mv places) m1
