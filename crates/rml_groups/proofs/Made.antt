-- Nodes that are made for a relation of the group: they may have any types of its counts.
use Rattle.std.proofs.Common.{◌≡◌, ℕ, suc, ◌<◌, List, [], ◌∷◌, map, length, get_or, None, refl, sym, ap, subst, ◌∙◌, arith}
use Rattle.std.specs.Prelude.{All, Vec, slice_get}
use Rattle.std.specs.declared.alloc.Global.{Global}
use Rattle.std.proofs.lemmas.List.Elements.{All-from_get_or}
use Rattle.rml_types.specs.declared.tree.SchemeTree.{SchemeTree}
use Rattle.rml_types.specs.declared.tree.SchemeTree.TheVariants as tree
use Rattle.rml_types.specs.Finite.{HasTypes}
use Rattle.rml_types.specs.Nodes.{Nodes}
use Rattle.rml_types.specs.Runs.{Fresh, Grows}
use Rattle.rml_types.specs.Schemes.{unit}
use Rattle.rml_types.proofs.Callers.{fold-Rel, grows-trans}
use Rattle.rml_equations.specs.declared.coding.Coding.TheVariants.{Plain, Packed}
use Rattle.rml_equations.specs.Coding.{coded, decoded, unpacked_at}
use Rattle.rml_equations.specs.Joins.{Extends, Makes}
use Rattle.rml_equations.proofs.Callers.{Solution, coded-Rel, coded-Tuple, extends-on, map-agree}
use Rattle.rml_generator.specs.declared.parts.Side.{Side}
use Rattle.rml_generator.specs.declared.parts.Side.TheVariants as side
use Rattle.rml_generator.specs.Sides.{AreGiven, given_by, side_nodes}
use Rattle.rml_generator.proofs.Callers.{within-longer}
use Rattle.rml_alone.proofs.Callers.{plain-all}
use Rattle.rml_groups.specs.declared.members.Member.{Member}
use Rattle.rml_groups.specs.Groups.{rule_inputs, rule_outputs}
use Rattle.rml_groups.specs.Members.{IsMade}
use Rattle.rml_groups.proofs.Held.{same-inputs, same-outputs}

all-at : (later : Solution) (vs : List ℕ) (ts : List SchemeTree) → length ts ≡ length vs → ((k : ℕ) → k < length vs → later (get_or vs k 0) ≡ get_or ts k unit) → map later vs ≡ ts
all-at later [] [] count at = refl
all-at later [] (t ∷ ts) count at = absurd (omega arith)
all-at later (v ∷ vs) [] count at = absurd (omega arith)
all-at later (v ∷ vs) (t ∷ ts) count at = ap (λ u. u ∷ map later vs) (at 0 (omega arith)) ∙ ap (λ us. t ∷ us) (all-at later vs ts (omega arith) (λ k lt. at (suc k) (omega arith)))

-- fresh nodes may have any types, as many
fresh-given : (g h : Nodes) (vs : List ℕ) → Fresh g h vs → (types : Solution) (ts : List SchemeTree) → HasTypes g types → length ts ≡ length vs → (later : Solution) × Extends g h types later × (map later vs ≡ ts)
fresh-given g h vs f types ts has count = (let p = f.each types ts has in (p.0, record { has = p.1; same = p.2 }, all-at p.0 vs ts count p.3))

fresh-below : (g h : Nodes) (vs : List ℕ) → Fresh g h vs → All (λ n. n < length h.forms) vs
fresh-below g h vs f = All-from_get_or (λ n. n < length h.forms) vs 0 f.within

both-are : (us vs ws xs : List SchemeTree) → us ≡ vs → ws ≡ xs → tree.Rel us ws ≡ tree.Rel vs xs
both-are us vs ws xs e f = ap (λ z. tree.Rel z ws) e ∙ ap (tree.Rel vs) f

-- ---- sides, plain

each-below : (count : ℕ) (held : Side) (ns : Vec ℕ Global) (xs : List ℕ) → held ≡ side.Each ns → ns.items ≡ xs → All (λ n. n < count) xs → All (λ n. n < count) (side_nodes held)
each-below count held ns xs is items a = subst (λ (x : Side). All (λ n. n < count) (side_nodes x)) (sym is) (subst (All (λ n. n < count)) (sym items) a)

given-each : (types : Solution) (held : Side) (ns : Vec ℕ Global) (xs : List ℕ) → held ≡ side.Each ns → ns.items ≡ xs → map types xs ≡ given_by Plain types held
given-each types held ns xs is items = ap (map types) (sym items) ∙ ap (given_by Plain types) (sym is)

each-given : (types : Solution) (held : Side) (ns : Vec ℕ Global) (xs : List ℕ) → held ≡ side.Each ns → ns.items ≡ xs → (ts : List SchemeTree) → map types xs ≡ ts → AreGiven Plain types held ts
each-given types held ns xs is items ts e = subst (λ (x : Side). AreGiven Plain types x ts) (sym is) (ap (map types) items ∙ e ∙ sym (plain-all ts))

-- ---- a relation over fresh nodes

module _ (g g1 g2 h : Nodes) (live : g.failed ≡ None) (vs us : List ℕ) (one : Grows g g1) (taken : Fresh g g1 vs) (two : Grows g1 g2) (given : Fresh g1 g2 us) (n : ℕ)
    (made : Makes g2 h (λ types. tree.Rel (map types vs) (map types us)) n) where
  grows : Grows g h
  grows = grows-trans g g1 h one (grows-trans g1 g2 h two (record {
    kept = record {
      failed = made.live ∙ sym (two.kept.failed ∙ one.kept.failed ∙ live);
      count = made.count;
      restricts = made.old;
      extends = λ types has. (let l = made.extends types has in (l.0, l.1.has, l.1.same));
    };
    unfixed = made.unfixed;
  }))

  any : (types : Solution) (ts ws : List SchemeTree) → HasTypes g types → length ts ≡ length vs → length ws ≡ length us → (later : Solution) × Extends g h types later × (later n ≡ tree.Rel ts ws)
  any types ts ws has ct cw =
      let p = fresh-given g g1 vs taken types ts has ct in
      let q = fresh-given g1 g2 us given p.0 ws p.1.has cw in
      let r = made.extends q.0 q.1.has in
      let vs-are : map r.0 vs ≡ ts = map-agree r.0 p.0 (length g1.forms) vs (fresh-below g g1 vs taken) (λ k lt. r.1.same k (let l = two.kept.count in omega arith) ∙ q.1.same k lt) ∙ p.2 in
      let us-are : map r.0 us ≡ ws = map-agree r.0 q.0 (length g2.forms) us (fresh-below g1 g2 us given) r.1.same ∙ q.2 in
      (r.0, extends-on g g1 h types p.0 r.0 one.kept.count p.1 (extends-on g1 g2 h p.0 q.0 r.0 two.kept.count q.1 r.1), made.is r.0 r.1.has ∙ both-are (map r.0 vs) ts (map r.0 us) ws vs-are us-are)

  vs-below : All (λ k. k < length h.forms) vs
  vs-below = within-longer g1 h vs (let p = two.kept.count in let q = made.count in omega arith) (fresh-below g g1 vs taken)

  us-below : All (λ k. k < length h.forms) us
  us-below = within-longer g2 h us made.count (fresh-below g1 g2 us given)

  -- ---- plain: each input and each output has a node

  pub plain-made : (m : Member) (ins outs : Vec ℕ Global) → m.node ≡ n → m.inputs ≡ side.Each ins → m.outputs ≡ side.Each outs → ins.items ≡ vs → outs.items ≡ us
      → length vs ≡ rule_inputs (slice_get m.rel.now.rules 0) → length us ≡ rule_outputs (slice_get m.rel.now.rules 0) → IsMade Plain g h m
  plain-made m ins outs is inputs-are outputs-are ins-are outs-are cv cu = record {
    grows = grows;
    held = record {
      node = subst (λ (k : ℕ). k < length h.forms) (sym is) made.within;
      inputs = each-below (length h.forms) m.inputs ins vs inputs-are ins-are vs-below;
      outputs = each-below (length h.forms) m.outputs outs us outputs-are outs-are us-below;
      sound = λ types has.
          ap types is ∙ made.is types has
          ∙ both-are (map types vs) (given_by Plain types m.inputs) (map types us) (given_by Plain types m.outputs) (given-each types m.inputs ins vs inputs-are ins-are)
          (given-each types m.outputs outs us outputs-are outs-are);
      back = λ types k has e. (
          let whole : tree.Rel (map types vs) (map types us) ≡ tree.Rel k.inputs k.outputs = sym (made.is types has) ∙ sym (ap types is) ∙ e in (
            each-given types m.inputs ins vs inputs-are ins-are k.inputs (same-inputs (map types vs) (map types us) k.inputs k.outputs whole),
            each-given types m.outputs outs us outputs-are outs-are k.outputs (same-outputs (map types vs) (map types us) k.inputs k.outputs whole),
          ));
    };
    any = λ types k has can. (let l = any types k.inputs k.outputs has (can.0 ∙ sym cv) (can.1 ∙ sym cu) in (l.0, l.1, ap l.0 is ∙ l.2));
  }

-- ---- packed: there is a node for all inputs, and one for all outputs

first : (t u : SchemeTree) → t ∷ [] ≡ u ∷ [] → t ≡ u
first t u e = cc

pub packed-made : (g g1 g2 h : Nodes) → g.failed ≡ None → (a b : ℕ) → Grows g g1 → Fresh g g1 (a ∷ []) → Grows g1 g2 → Fresh g1 g2 (b ∷ []) → (n : ℕ)
    → Makes g2 h (λ types. tree.Rel (map types (a ∷ [])) (map types (b ∷ []))) n → (m : Member) → m.node ≡ n → m.inputs ≡ side.Whole a → m.outputs ≡ side.Whole b → IsMade Packed g h m
packed-made g g1 g2 h live a b one taken two given n made m is inputs-are outputs-are = record {
  grows = grows g g1 g2 h live (a ∷ []) (b ∷ []) one taken two given n made;
  held = record {
    node = subst (λ (k : ℕ). k < length h.forms) (sym is) made.within;
    inputs = subst (λ (x : Side). All (λ k. k < length h.forms) (side_nodes x)) (sym inputs-are) (vs-below g g1 g2 h live (a ∷ []) (b ∷ []) one taken two given n made);
    outputs = subst (λ (x : Side). All (λ k. k < length h.forms) (side_nodes x)) (sym outputs-are) (us-below g g1 g2 h live (a ∷ []) (b ∷ []) one taken two given n made);
    sound = λ types has.
        ap (λ (k : ℕ). decoded Packed (types k)) is ∙ ap (decoded Packed) (made.is types has) ∙ fold-Rel SchemeTree unpacked_at (types a ∷ []) (types b ∷ [])
        ∙ both-are (given_by Packed types (side.Whole a)) (given_by Packed types m.inputs) (given_by Packed types (side.Whole b)) (given_by Packed types m.outputs) (ap (given_by Packed types) (sym inputs-are))
        (ap (given_by Packed types) (sym outputs-are));
    back = λ types k has e. (
        let whole : tree.Rel (types a ∷ []) (types b ∷ []) ≡ tree.Rel (tree.Tuple (map (coded Packed) k.inputs) ∷ []) (tree.Tuple (map (coded Packed) k.outputs) ∷ []) =
        sym (made.is types has) ∙ sym (ap types is) ∙ e ∙ coded-Rel Packed k.inputs k.outputs in (
          subst (λ (x : Side). AreGiven Packed types x k.inputs) (sym inputs-are) (first (types a) _ (same-inputs (types a ∷ []) (types b ∷ []) _ _ whole) ∙ sym (coded-Tuple Packed k.inputs)),
          subst (λ (x : Side). AreGiven Packed types x k.outputs) (sym outputs-are) (first (types b) _ (same-outputs (types a ∷ []) (types b ∷ []) _ _ whole) ∙ sym (coded-Tuple Packed k.outputs)),
        ));
  };
  any = λ types k has can. (
      let l = any g g1 g2 h live (a ∷ []) (b ∷ []) one taken two given n made types (coded Packed (tree.Tuple k.inputs) ∷ []) (coded Packed (tree.Tuple k.outputs) ∷ []) has refl refl in
      (l.0, l.1, ap l.0 is ∙ l.2 ∙ both-are _ _ _ _ (ap (λ t. t ∷ []) (coded-Tuple Packed k.inputs)) (ap (λ t. t ∷ []) (coded-Tuple Packed k.outputs)) ∙ sym (coded-Rel Packed k.inputs k.outputs)));
}
