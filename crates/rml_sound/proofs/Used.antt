-- Relations and vals as the texts of a typed program use them: at types that they have.
use Rattle.std.proofs.Common.{◌≡◌, ℕ, zero, suc, true, List, [], ◌∷◌, ◌++◌, map, length, take, Option, Some, None, refl, sym, ap, subst, ◌∙◌, arith}
use Rattle.std.specs.Prelude.{◌&&◌, All, nat_lt, option_and_then, slice_get}
use Rattle.std.specs.List.{AllByRecursion, Contains, list_all}
use Rattle.rml_types.specs.declared.scheme.Scheme.{Scheme}
use Rattle.rml_types.specs.declared.tree.SchemeTree.{SchemeTree, out-SchemeTree}
use Rattle.rml_types.specs.declared.tree.SchemeTree.TheOpen.{SchemeTree-F}
use Rattle.rml_types.specs.declared.tree.SchemeTree.TheVariants as tree
use Rattle.rml_types.specs.Schemes.{inst}
use Rattle.rml_types.proofs.Callers.{inst-Rel}
use Rattle.rml_value.specs.declared.value.Value.TheVariants as value
use Rattle.rml_resolved.specs.declared.program.Program.{Program}
use Rattle.rml_resolved.specs.declared.parts.Parts.{Parts}
use Rattle.rml_resolved.specs.declared.tables.RelDef.{RelDef}
use Rattle.rml_resolved.specs.declared.tables.RRule.{RRule}
use Rattle.rml_resolved.specs.declared.tables.ValDef.{ValDef}
use Rattle.rml_resolved.specs.declared.trees.RGoal.{RGoal}
use Rattle.rml_resolved.specs.declared.trees.RExp.{RExp}
use Rattle.rml_resolved.specs.Facts.{tables_of}
use Rattle.rml_resolved.specs.Fits.{counts_of, relation_fits, rule_fits}
use Rattle.rml_resolved.specs.Typing.{is_relation_type, scheme_fits, type_fits}
use Rattle.rml_resolved.proofs.Callers.{both, opened}
use Rattle.rml_terms.specs.Evaluating.{vals_to}
use Rattle.rml_search.specs.Values.{meaning, meaning_of_val}
use Rattle.rml_typed.specs.Own.{own, own_meanings}
use Rattle.rml_typed.specs.Typed.{Assigned, Declared, Uses, PatternsOf, ExpsOf, GoalsOf}
use Rattle.rml_typed.specs.Parts.{RelType, as_type, sides, Piece, premise, results, pieces, PieceOf, RuleTyped}
use Rattle.rml_typed.specs.Units.{InGroup, GroupTypes, GroupTyped, Used, alone, declared, declared_type, inside}
use Rattle.rml_typed.specs.Checked.{IsTyped}
use Rattle.rml_sound.specs.Full.{full, full_meanings, Reads}
use Rattle.rml_sound.specs.Values.{RelationHas, StoreTypes, ValueHas}
use Rattle.rml_sound.proofs.Begun.{passed}
use Rattle.rml_sound.proofs.Canonical.{Opened, of-relation, out-Rel, out-rel, same-inputs, same-outputs}
use Rattle.rml_sound.proofs.Expressions.{exp-typed, UsesHave, ValsHave}
use Rattle.rml_sound.proofs.Written.{full-own, reads-full, written-Rel}

-- ---- the declared type of a relation

relation-type-at : (t : SchemeTree) (z : SchemeTree-F SchemeTree) → out-SchemeTree t ≡ z → is_relation_type z ≡ true → (k : RelType) × (t ≡ as_type k)
relation-type-at t (SchemeTree-F.Rel ins outs) e h = (record { inputs = ins; outputs = outs }, opened t (SchemeTree-F.Rel ins outs) e ∙ tree.rolls-Rel ins outs)
relation-type-at t (SchemeTree-F.Var k) e h = absurd (cc)
relation-type-at t (SchemeTree-F.Named c ts) e h = absurd (cc)
relation-type-at t (SchemeTree-F.Tuple ts) e h = absurd (cc)

pub relation-fits : (p : Program) (r : ℕ) (rel : RelDef) → slice_get p.rels r ≡ Some rel → relation_fits (counts_of p.names p.vals p.rels) p.types p.cons rel ≡ true
relation-fits p r rel there = passed (relation_fits (counts_of p.names p.vals p.rels) p.types p.cons) p.rels r rel p.relations_fit there

pub scheme-is : (p : Program) (r : ℕ) (rel : RelDef) (s : Scheme) → slice_get p.rels r ≡ Some rel → rel.scheme ≡ Some s → (k : RelType) × (s.body ≡ as_type k)
scheme-is p r rel s there is =
    let rules = list_all (rule_fits (counts_of p.names p.vals p.rels) p.cons) rel.rules in
    let named = nat_lt rel.«module» (length p.names) && nat_lt rel.name (length p.names) in
    let four = both (named && scheme_fits p.types rel.scheme && nat_lt 0 (length rel.rules)) rules (relation-fits p r rel there) in
    let three = both (named && scheme_fits p.types rel.scheme) (nat_lt 0 (length rel.rules)) four.first in
    let fits : scheme_fits p.types rel.scheme ≡ true = (both named (scheme_fits p.types rel.scheme) three.first).second in
    let fit : scheme_fits p.types (Some s) ≡ true = subst (λ (o : Option Scheme). scheme_fits p.types o ≡ true) is fits in
    relation-type-at s.body (out-SchemeTree s.body) refl (both (is_relation_type (out-SchemeTree s.body)) (type_fits p.types s.body) fit).first

module _ (p : Program) (fixed : List SchemeTree) where
  abbrev P : Parts
  P = tables_of p

  -- types as the program runs, where type variables have these
  abbrev reads : SchemeTree → SchemeTree
  reads t = inst fixed (full p.types t)

  -- ---- relations

  -- an instance of a declared type, written out
  pub type-full : (ts : List SchemeTree) (s : Scheme) (k : RelType) → s.body ≡ as_type k → inst ts (full p.types s.body) ≡ tree.Rel (map (inst ts) (map (full p.types) k.inputs)) (map (inst ts) (map (full p.types) k.outputs))
  type-full ts s k is =
      ap (λ u. inst ts (full p.types u)) is ∙ ap (inst ts) (written-Rel (full_meanings p.types) k.inputs k.outputs) ∙ inst-Rel ts (map (full p.types) k.inputs) (map (full p.types) k.outputs)

  as-relation : (S : StoreTypes) (r : ℕ) (t : SchemeTree) (ins outs : List SchemeTree) → RelationHas P r ins outs → reads t ≡ tree.Rel ins outs → ValueHas P S (value.Rel r) (reads t)
  as-relation S r t ins outs h e = subst (ValueHas P S (value.Rel r)) (sym e) (ValueHas.rel r ins outs h)

  declared-have : (text : ℕ) (S : StoreTypes) (r : ℕ) (t : SchemeTree) (rel : RelDef) (s : Scheme) (ts : List SchemeTree) → slice_get p.rels r ≡ Some rel → rel.scheme ≡ Some s → t ≡ inst ts (own p.types text s.body)
      → ValueHas P S (value.Rel r) (reads t)
  declared-have text S r t rel s ts there is e =
      let k = scheme-is p r rel s there is in
      let rs = map reads ts in
      let type : reads t ≡ inst rs (full p.types s.body) = ap reads e ∙ (reads-full p.types p.types_end text fixed).instance ts s.body in
      let whole = type-full rs s k.0 k.1 in
      as-relation S r t _ _ (RelationHas.declared rel s rs there is (sym whole)) (type ∙ whole)

  grouped-have : (text : ℕ) (S : StoreTypes) (r : ℕ) (t : SchemeTree) (types : GroupTypes) → InGroup P text r → GroupTyped P text types → t ≡ as_type (types r) → ValueHas P S (value.Rel r) (reads t)
  grouped-have text S r t types g typed e =
      let whole : reads (as_type (types r)) ≡ tree.Rel (map reads (types r).inputs) (map reads (types r).outputs) = (reads-full p.types p.types_end text fixed).relation (types r).inputs (types r).outputs in
      as-relation S r t _ _ (RelationHas.inferred text types fixed g typed (sym whole)) (ap reads e ∙ whole)

  pub alone-have : (text m : ℕ) → UsesHave p reads (alone P text m)
  alone-have text m S r t (Used.by_type rel s there is i) = declared-have m S r t rel s i.0 there is i.1
  alone-have text m S r t (Used.by_group g e) = grouped-have text S r t e.0 g e.1 e.2

  pub inside-have : (text m : ℕ) (types : GroupTypes) → GroupTyped P text types → UsesHave p reads (Used P text m (inside types))
  inside-have text m types typed S r t (Used.by_type rel s there is i) = declared-have m S r t rel s i.0 there is i.1
  inside-have text m types typed S r t (Used.by_group g e) = grouped-have text S r t types g typed e

-- ---- vals

pub vals-have : (p : Program) → IsTyped (tables_of p) → (depth : ℕ) → ValsHave p (vals_to (meaning_of_val p.names) p.vals depth)
vals-have p typed zero S k v def ts is there = absurd (cc)
vals-have p typed (suc depth) S k v def ts is there =
    let less = vals-have p typed depth in
    let r = reads-full p.types p.types_end def.«module» ts in
    let worth : meaning p.names (vals_to (meaning_of_val p.names) p.vals depth) def.value [] ≡ Some v =
    ap (λ (o : Option ValDef). option_and_then (λ (d : ValDef). meaning p.names (vals_to (meaning_of_val p.names) p.vals depth) d.value []) o) (sym there) ∙ is in
    let t = typed.vals k def there in
    subst (λ u. ValueHas (tables_of p) S v (inst ts u)) (full-own p.types p.types_end def.«module» def.scheme.body)
    (exp-typed p def.«module» (λ u. inst ts (full p.types u)) r (alone (tables_of p) def.place.text def.«module») (alone-have p ts def.place.text def.«module»)
    (vals_to (meaning_of_val p.names) p.vals depth) less S t.0 [] (λ x w e. absurd (cc)) def.value (own p.types def.«module» def.scheme.body) t.1 v worth)

-- ---- the parts of a rule that is typed

pub record RuleHas (d : Declared) (uses : Uses) (k : RelType) (rule : RRule) : Type 0 where
  pub G : Assigned
  pub inputs : PatternsOf d G rule.inputs k.inputs
  pub goals : GoalsOf d uses G rule.goals
  pub outputs : ExpsOf d uses G rule.results k.outputs

by-recursion : {X : Type 0} (Q : X → Type 0) (xs : List X) → All Q (take (length xs) xs) → AllByRecursion Q xs
by-recursion Q [] h = tt
by-recursion Q (x ∷ xs) h = (h 0 x (omega arith), by-recursion Q xs (λ j d l. h (suc j) d (omega arith)))

module _ (d : Declared) (uses : Uses) (k : RelType) (G : Assigned) where
  abbrev Fine : Piece → Type 0
  Fine = PieceOf d uses k G

  after-head : (gs : List RGoal) (es : List RExp) → AllByRecursion Fine (map premise gs ++ results es ∷ []) → GoalsOf d uses G gs × ExpsOf d uses G es k.outputs
  after-head [] es h = (GoalsOf.none, h.0)
  after-head (g ∷ gs) es h = let rest = after-head gs es h.1 in (GoalsOf.more g gs h.0 rest.0, rest.1)

pub rule-has : (d : Declared) (uses : Uses) (k : RelType) (rule : RRule) → RuleTyped d uses k rule → RuleHas d uses k rule
rule-has d uses k rule h =
    let all = by-recursion (PieceOf d uses k h.0) (pieces rule) h.1 in
    let rest = after-head d uses k h.0 rule.goals rule.results all.1 in
    record { G = h.0; inputs = all.0; goals = rest.0; outputs = rest.1 }

-- ---- the rules of a relation that has some types

module _ (p : Program) (typed : IsTyped (tables_of p)) where
  -- the declared type of a relation, as its text reads it
  own-type : (rel : RelDef) (s : Scheme) (k : RelType) → s.body ≡ as_type k → (o : RelType) × (own p.types rel.«module» s.body ≡ as_type o) × (declared_type (tables_of p) rel s ≡ o)
  own-type rel s k is =
      let o : RelType = record { inputs = map (own p.types rel.«module») k.inputs; outputs = map (own p.types rel.«module») k.outputs } in
      let e : own p.types rel.«module» s.body ≡ as_type o = ap (own p.types rel.«module») is ∙ written-Rel (own_meanings p.types rel.«module») k.inputs k.outputs in
      (o, e, ap (λ t. sides (out-SchemeTree t)) e ∙ ap sides (out-Rel o.inputs o.outputs))

  -- They are typed as those of a relation of some type that is read as these types. So what follows from that follows of a relation
  -- that is declared and of one of a group alike.
  pub by-rules : (C : RelDef → Type 0) (r : ℕ) (ins outs : List SchemeTree) → RelationHas (tables_of p) r ins outs
      → ((text : ℕ) (reads : SchemeTree → SchemeTree) → Reads p.types text reads → (uses : Uses) → UsesHave p reads uses → (k : RelType) (rel : RelDef) → slice_get p.rels r ≡ Some rel
      → ((rule : RRule) → Contains rel.rules rule → RuleTyped (declared (tables_of p) text) uses k rule) → map reads k.inputs ≡ ins → map reads k.outputs ≡ outs → C rel)
      → (rel : RelDef) × (slice_get p.rels r ≡ Some rel) × C rel
  by-rules C r ins outs (RelationHas.declared rel s fixed there is e) each =
      let k = scheme-is p r rel s there is in
      let o = own-type rel s k.0 k.1 in
      let text = rel.«module» in
      let rd = reads-full p.types p.types_end text fixed in
      let whole : tree.Rel (map (reads p fixed) o.0.inputs) (map (reads p fixed) o.0.outputs) ≡ tree.Rel ins outs =
      sym (rd.relation o.0.inputs o.0.outputs) ∙ ap (reads p fixed) (sym o.1) ∙ ap (inst fixed) (full-own p.types p.types_end text s.body) ∙ sym e in
      let take : map (reads p fixed) (declared_type (tables_of p) rel s).inputs ≡ ins = ap (λ (q : RelType). map (reads p fixed) q.inputs) o.2 ∙ same-inputs _ _ _ _ whole in
      let give : map (reads p fixed) (declared_type (tables_of p) rel s).outputs ≡ outs = ap (λ (q : RelType). map (reads p fixed) q.outputs) o.2 ∙ same-outputs _ _ _ _ whole in (
        rel,
        there,
        each text (reads p fixed) rd (alone (tables_of p) rel.place.text text) (alone-have p fixed rel.place.text text) (declared_type (tables_of p) rel s) rel there (λ rule among. typed.rules r rel s rule there is among) take give,
      )
  by-rules C r ins outs (RelationHas.inferred text types fixed g grouped e) each =
      let m = g.rel.«module» in
      let rd = reads-full p.types p.types_end m fixed in
      let whole : tree.Rel (map (reads p fixed) (types r).inputs) (map (reads p fixed) (types r).outputs) ≡ tree.Rel ins outs = sym (rd.relation (types r).inputs (types r).outputs) ∙ sym e in (
        g.rel,
        g.there,
        each m (reads p fixed) rd (Used (tables_of p) text m (inside types)) (inside-have p fixed text m types grouped) (types r) g.rel g.there (λ rule among. grouped r g rule among) (same-inputs _ _ _ _ whole) (same-outputs _ _ _ _ whole),
      )

  -- each relation has some types
  pub has-relation : (r : ℕ) (rel : RelDef) → slice_get p.rels r ≡ Some rel → (ins : List SchemeTree) × (outs : List SchemeTree) × RelationHas (tables_of p) r ins outs
  has-relation r rel there = on rel.scheme refl
    where
      on : (o : Option Scheme) → rel.scheme ≡ o → (ins : List SchemeTree) × (outs : List SchemeTree) × RelationHas (tables_of p) r ins outs
      on (Some s) is =
          let k = scheme-is p r rel s there is in
          (_, _, RelationHas.declared rel s [] there is (sym (type-full p [] [] s k.0 k.1)))
      on None is =
          let types = typed.groups rel.place.text in (
            _,
            _,
            RelationHas.inferred rel.place.text types.0 [] (record { rel = rel; there = there; undeclared = is; here = refl }) types.1
                (sym ((reads-full p.types p.types_end rel.place.text []).relation (types.0 r).inputs (types.0 r).outputs)),
          )

-- a relation that is used at a type has what that takes and gives, as it is read
pub relation-has : (p : Program) (text : ℕ) (reads : SchemeTree → SchemeTree) → Reads p.types text reads → (uses : Uses) → UsesHave p reads uses → (r : ℕ) (us ws : List SchemeTree) → uses r (tree.Rel us ws)
    → RelationHas (tables_of p) r (map reads us) (map reads ws)
relation-has p text reads rd uses used r us ws h =
    subst (Opened (tables_of p) [] (SchemeTree-F.Rel (map reads us) (map reads ws))) (out-rel r)
    (of-relation (tables_of p) [] (map reads us) (map reads ws) (value.Rel r) (subst (ValueHas (tables_of p) [] (value.Rel r)) (rd.relation us ws) (used [] r (tree.Rel us ws) h)))
