-- A constructor at an instance of its scheme: the datatype over some types, and the arguments over the same types.
use Rattle.std.proofs.Common.{◌≡◌, ℕ, zero, suc, ◌+◌, ◌<◌, Bool, true, List, [], ◌∷◌, map, length, get_or, Option, Some, None, refl, sym, ap, subst, ◌∙◌, arith, IsTrue}
use Rattle.std.specs.Prelude.{◌&&◌, ◌==◌, is_none, nat_lt, slice_get}
use Rattle.std.specs.Option.{option_map_or}
use Rattle.std.specs.List.{AllByRecursion}
use Rattle.std.proofs.lemmas.Bool.{eqb-true}
use Rattle.rml_types.specs.declared.scheme.Scheme.{Scheme}
use Rattle.rml_types.specs.declared.tree.SchemeTree.{SchemeTree, out-SchemeTree}
use Rattle.rml_types.specs.declared.tree.SchemeTree.TheOpen.{SchemeTree-F}
use Rattle.rml_types.specs.declared.tree.SchemeTree.TheVariants as tree
use Rattle.rml_types.specs.Schemes.{below_at, every, inst, unit, vars_below}
use Rattle.rml_types.proofs.Callers.{below-Named, below-Rel, below-Tuple, fold-Named, fold-Rel, fold-Tuple, induct, inst-Named, inst-Rel, inst-Tuple, inst-Var, named}
use Rattle.rml_resolved.specs.declared.limits.TheConstants.{CON_ARGUMENTS}
use Rattle.rml_resolved.specs.declared.program.Program.{Program}
use Rattle.rml_resolved.specs.declared.tables.ConDef.{ConDef}
use Rattle.rml_resolved.specs.declared.tables.TypeDef.{TypeDef}
use Rattle.rml_resolved.specs.Facts.{tables_of}
use Rattle.rml_resolved.specs.Typing.{stands_for_none, is_datatype, is_var, are_vars, is_whole, gives_whole, makes_whole, con_def_fits, type_fits}
use Rattle.rml_resolved.proofs.Callers.{both, opened, var_at}
use Rattle.rml_typed.specs.Own.{Meanings, written, own}
use Rattle.rml_typed.specs.Parts.{sides}
use Rattle.rml_sound.specs.Full.{definition, full, full_meanings, Reads}
use Rattle.rml_sound.specs.Values.{arguments_of}
use Rattle.rml_sound.proofs.Begun.{passed}
use Rattle.rml_sound.proofs.Canonical.{out-Rel}
use Rattle.rml_sound.proofs.Written.{full-none, written-Named, written-Rel, written-Tuple, written-Var}

-- ---- writing types out brings no variables

module _ (n : ℕ) where
  abbrev Below : SchemeTree → Type 0
  Below t = IsTrue (vars_below n t)

  abbrev AllBelow : List SchemeTree → Type 0
  AllBelow ts = IsTrue (every (map (vars_below n) ts))

  all-mapped : (f : SchemeTree → SchemeTree) (ts : List SchemeTree) → AllByRecursion (λ t. Below t → Below (f t)) ts → AllBelow ts → AllBelow (map f ts)
  all-mapped f [] a h = refl
  all-mapped f (t ∷ ts) a h =
      let two = both (vars_below n t) (every (map (vars_below n) ts)) h in
      let first : vars_below n (f t) ≡ true = a.0 two.first in
      let more : every (map (vars_below n) (map f ts)) ≡ true = all-mapped f ts a.1 two.second in
      rw (first, more) refl

  all-made : (f : SchemeTree → SchemeTree) (ts : List SchemeTree) → AllByRecursion (λ t. Below (f t)) ts → AllBelow (map f ts)
  all-made f [] a = refl
  all-made f (t ∷ ts) a =
      let first : vars_below n (f t) ≡ true = a.0 in
      let more : every (map (vars_below n) (map f ts)) ≡ true = all-made f ts a.1 in
      rw (first, more) refl

  named-below : (c : ℕ) (ts : List SchemeTree) → AllBelow ts → Below (tree.Named c ts)
  named-below c ts h = fold-Named Bool (below_at n) c ts ∙ h

  tuple-below : (ts : List SchemeTree) → AllBelow ts → Below (tree.Tuple ts)
  tuple-below ts h = fold-Tuple Bool (below_at n) ts ∙ h

  rel-below : (ins outs : List SchemeTree) → AllBelow ins → AllBelow outs → Below (tree.Rel ins outs)
  rel-below ins outs h k = fold-Rel Bool (below_at n) ins outs ∙ (let i : every (map (vars_below n) ins) ≡ true = h in let o : every (map (vars_below n) outs) ≡ true = k in rw (i, o) refl)

  at-below : (us : List SchemeTree) (k : ℕ) → AllBelow us → Below (get_or us k unit)
  at-below [] k h = tuple-below [] refl
  at-below (u ∷ us) zero h = (both (vars_below n u) (every (map (vars_below n) us)) h).first
  at-below (u ∷ us) (suc k) h = at-below us k (both (vars_below n u) (every (map (vars_below n) us)) h).second

  -- an instance has no variables but those of the types that it is made with
  inst-below : (us : List SchemeTree) → AllBelow us → (t : SchemeTree) → Below (inst us t)
  inst-below us h = induct (λ t. Below (inst us t))
      (λ k. subst Below (sym (inst-Var us k)) (at-below us k h))
      (λ c ts a. subst Below (sym (inst-Named us c ts)) (named-below c (map (inst us) ts) (all-made (inst us) ts a)))
      (λ ts a. subst Below (sym (inst-Tuple us ts)) (tuple-below (map (inst us) ts) (all-made (inst us) ts a)))
      (λ ins outs a b. subst Below (sym (inst-Rel us ins outs)) (rel-below (map (inst us) ins) (map (inst us) outs) (all-made (inst us) ins a) (all-made (inst us) outs b)))

  meant-below : (us : List SchemeTree) (c : ℕ) (o : Option SchemeTree) → AllBelow us → Below (option_map_or (inst us) o (tree.Named c us))
  meant-below us c None h = named-below c us h
  meant-below us c (Some body) h = inst-below us h body

  pub written-below : (meanings : Meanings) (t : SchemeTree) → Below t → Below (written meanings t)
  written-below meanings = induct (λ t. Below t → Below (written meanings t))
      (λ k h. subst Below (sym (written-Var meanings k)) h)
      (λ c ts a h. subst Below (sym (written-Named meanings c ts)) (meant-below (map (written meanings) ts) c (meanings c) (all-mapped (written meanings) ts a (below-Named n c ts h))))
      (λ ts a h. subst Below (sym (written-Tuple meanings ts)) (tuple-below (map (written meanings) ts) (all-mapped (written meanings) ts a (below-Tuple n ts h))))
      (λ ins outs a b h. (let (i, o) = below-Rel n ins outs h in
      subst Below (sym (written-Rel meanings ins outs)) (rel-below (map (written meanings) ins) (map (written meanings) outs) (all-mapped (written meanings) ins a i) (all-mapped (written meanings) outs b o))))

-- ---- what makes a constructor's scheme

-- a relation type from some types to a datatype over its parameters
record Makes (d : ConDef) : Type 0 where
  ins : List SchemeTree
  parameters : List SchemeTree
  scheme : d.scheme.body ≡ tree.Rel ins (tree.Named d.of parameters ∷ [])
  many : d.scheme.vars ≡ length parameters
  in_order : are_vars 0 parameters ≡ true

record Whole (c vars : ℕ) (t : SchemeTree) : Type 0 where
  parameters : List SchemeTree
  is : t ≡ tree.Named c parameters
  many : vars ≡ length parameters
  in_order : are_vars 0 parameters ≡ true

whole-at : (c vars : ℕ) (t : SchemeTree) (z : SchemeTree-F SchemeTree) → out-SchemeTree t ≡ z → is_whole c vars z ≡ true → Whole c vars t
whole-at c vars t (SchemeTree-F.Var j) e h = absurd (cc)
whole-at c vars t (SchemeTree-F.Named d us) e h =
    let two = both ((c == d) && (vars == length us)) (are_vars 0 us) h in
    let one = both (c == d) (vars == length us) two.first in
    record {
      parameters = us;
      is = opened t (SchemeTree-F.Named d us) e ∙ tree.rolls-Named d us ∙ ap (λ k. tree.Named k us) (sym (eqb-true c d one.first));
      many = eqb-true vars (length us) one.second;
      in_order = two.second;
    }
whole-at c vars t (SchemeTree-F.Tuple us) e h = absurd (cc)
whole-at c vars t (SchemeTree-F.Rel ins outs) e h = absurd (cc)

record Gives (c vars : ℕ) (outs : List SchemeTree) : Type 0 where
  out : SchemeTree
  is : outs ≡ out ∷ []
  whole : Whole c vars out

gives-at : (c vars : ℕ) (outs : List SchemeTree) → gives_whole c vars outs ≡ true → Gives c vars outs
gives-at c vars [] h = absurd (cc)
gives-at c vars (t ∷ []) h = record { out = t; is = refl; whole = whole-at c vars t (out-SchemeTree t) refl h }
gives-at c vars (t ∷ u ∷ us) h = absurd (cc)

makes-at : (d : ConDef) (z : SchemeTree-F SchemeTree) → out-SchemeTree d.scheme.body ≡ z → makes_whole d.of d.scheme.vars d.arity z ≡ true → Makes d
makes-at d (SchemeTree-F.Var j) e h = absurd (cc)
makes-at d (SchemeTree-F.Named c us) e h = absurd (cc)
makes-at d (SchemeTree-F.Tuple us) e h = absurd (cc)
makes-at d (SchemeTree-F.Rel ins outs) e h =
    let g = gives-at d.of d.scheme.vars outs (both (d.arity == length ins) (gives_whole d.of d.scheme.vars outs) h).second in
    record {
      ins = ins;
      parameters = g.whole.parameters;
      scheme = opened d.scheme.body (SchemeTree-F.Rel ins outs) e ∙ tree.rolls-Rel ins outs ∙ ap (tree.Rel ins) (g.is ∙ ap (λ t. t ∷ []) g.whole.is);
      many = g.whole.many;
      in_order = g.whole.in_order;
    }

stands-none : (o : Option TypeDef) → stands_for_none o ≡ true → definition o ≡ None
stands-none None h = absurd (cc)
stands-none (Some d) h = on d.means h
  where
    on : (m : Option Scheme) → is_none m ≡ true → m ≡ None
    on None e = refl
    on (Some s) e = absurd (cc)

module _ (p : Program) (c : ℕ) (d : ConDef) (there : slice_get p.cons c ≡ Some d) where
  fits : con_def_fits (length p.names) p.types d ≡ true
  fits = passed (con_def_fits (length p.names) p.types) p.cons c d p.cons_fit there

  makes : Makes d
  makes = makes-at d (out-SchemeTree d.scheme.body) refl
      (both (nat_lt d.name (length p.names) && is_datatype p.types d.of && nat_lt d.arity CON_ARGUMENTS && type_fits p.types d.scheme.body) (makes_whole d.of d.scheme.vars d.arity (out-SchemeTree d.scheme.body)) fits).second

  pub datatype-stands : definition (slice_get p.types d.of) ≡ None
  datatype-stands =
      let four = both (nat_lt d.name (length p.names) && is_datatype p.types d.of && nat_lt d.arity CON_ARGUMENTS && type_fits p.types d.scheme.body) (makes_whole d.of d.scheme.vars d.arity (out-SchemeTree d.scheme.body)) fits in
      let three = both (nat_lt d.name (length p.names) && is_datatype p.types d.of && nat_lt d.arity CON_ARGUMENTS) (type_fits p.types d.scheme.body) four.first in
      let two = both (nat_lt d.name (length p.names) && is_datatype p.types d.of) (nat_lt d.arity CON_ARGUMENTS) three.first in
      stands-none (slice_get p.types d.of) (both (nat_lt d.name (length p.names)) (is_datatype p.types d.of) two.first).second

  abbrev F : SchemeTree → SchemeTree
  F = full p.types

  arguments-are : arguments_of (tables_of p) d ≡ map F makes.ins
  arguments-are = ap (λ t. map F (sides (out-SchemeTree t)).inputs) makes.scheme ∙ ap (λ z. map F (sides z).inputs) (out-Rel makes.ins (tree.Named d.of makes.parameters ∷ []))

  body-full : F d.scheme.body ≡ tree.Rel (map F makes.ins) (tree.Named d.of (map F makes.parameters) ∷ [])
  body-full =
      ap F makes.scheme ∙ written-Rel (full_meanings p.types) makes.ins (tree.Named d.of makes.parameters ∷ [])
      ∙ ap (λ t. tree.Rel (map F makes.ins) (t ∷ []))
      (written-Named (full_meanings p.types) d.of makes.parameters
      ∙ ap (λ (o : Option SchemeTree). option_map_or (inst (map F makes.parameters)) o (tree.Named d.of (map F makes.parameters))) (full-none p.types d.of datatype-stands))

  -- the parameters, read and made an instance of, are the types of their numbers
  parameters-read : (us vs : List SchemeTree) (j k : ℕ) → are_vars j vs ≡ true → k < length vs → get_or (map (inst us) (map F vs)) k unit ≡ get_or us (j + k) unit
  parameters-read us [] j k h lt = absurd (omega arith)
  parameters-read us (t ∷ vs) j zero h lt =
      let is : t ≡ tree.Var j = var_at j t (out-SchemeTree t) refl (both (is_var j (out-SchemeTree t)) (are_vars (j + 1) vs) h).first in
      ap (λ x. inst us (F x)) is ∙ ap (inst us) (written-Var (full_meanings p.types) j) ∙ inst-Var us j ∙ ap (λ i. get_or us i unit) (omega arith)
  parameters-read us (t ∷ vs) j (suc k) h lt =
      parameters-read us vs (j + 1) k (both (is_var j (out-SchemeTree t)) (are_vars (j + 1) vs) h).second (omega arith) ∙ ap (λ i. get_or us i unit) (omega arith)

  same-all : (n : ℕ) (rs us : List SchemeTree) → ((k : ℕ) → k < n → get_or rs k unit ≡ get_or us k unit) → (ts : List SchemeTree) → IsTrue (every (map (vars_below n) ts)) → map (inst rs) (map F ts) ≡ map (inst us) (map F ts)
  same-all n rs us agree [] h = refl
  same-all n rs us agree (t ∷ ts) h =
      let two = both (vars_below n t) (every (map (vars_below n) ts)) h in
      let first : inst rs (F t) ≡ inst us (F t) = named n rs us (F t) (written-below n (full_meanings p.types) t two.first) agree in
      let more : map (inst rs) (map F ts) ≡ map (inst us) (map F ts) = same-all n rs us agree ts two.second in
      rw (first, more) refl

  ins-below : IsTrue (every (map (vars_below d.scheme.vars) makes.ins))
  ins-below =
      let (i, o) = below-Rel d.scheme.vars makes.ins (tree.Named d.of makes.parameters ∷ []) (subst (λ t. IsTrue (vars_below d.scheme.vars t)) makes.scheme d.scheme.vars_named) in i

  -- a use of the constructor, as its text reads it
  pub con-reads : (text : ℕ) (reads : SchemeTree → SchemeTree) → Reads p.types text reads → (us ts : List SchemeTree) (t : SchemeTree) → tree.Rel ts (t ∷ []) ≡ inst us (own p.types text d.scheme.body)
      → (ws : List SchemeTree) × (reads t ≡ tree.Named d.of ws) × (map reads ts ≡ map (inst ws) (arguments_of (tables_of p) d))
  con-reads text reads r us ts t is =
      let rs = map reads us in
      let ws = map (inst rs) (map F makes.parameters) in
      let whole : tree.Rel (map reads ts) (reads t ∷ []) ≡ tree.Rel (map (inst rs) (map F makes.ins)) (tree.Named d.of ws ∷ []) =
      sym (r.relation ts (t ∷ [])) ∙ ap reads is ∙ r.instance us d.scheme.body ∙ ap (inst rs) body-full
      ∙ inst-Rel rs (map F makes.ins) (tree.Named d.of (map F makes.parameters) ∷ [])
      ∙ ap (λ x. tree.Rel (map (inst rs) (map F makes.ins)) (x ∷ [])) (inst-Named rs d.of (map F makes.parameters)) in
      let opens : SchemeTree-F.Rel (map reads ts) (reads t ∷ []) ≡ SchemeTree-F.Rel (map (inst rs) (map F makes.ins)) (tree.Named d.of ws ∷ []) =
      sym (out-Rel (map reads ts) (reads t ∷ [])) ∙ ap out-SchemeTree whole ∙ out-Rel (map (inst rs) (map F makes.ins)) (tree.Named d.of ws ∷ []) in
      let ins : map reads ts ≡ map (inst rs) (map F makes.ins) = ap (λ z. (sides z).inputs) opens in
      let outs : reads t ∷ [] ≡ tree.Named d.of ws ∷ [] = ap (λ z. (sides z).outputs) opens in (
        ws,
        (cc),
        ins ∙ same-all d.scheme.vars rs ws (λ k lt. sym (parameters-read rs makes.parameters 0 k makes.in_order (let m = makes.many in omega arith) ∙ ap (λ i. get_or rs i unit) (omega arith))) makes.ins ins-below
            ∙ ap (map (inst ws)) (sym arguments-are),
      )
