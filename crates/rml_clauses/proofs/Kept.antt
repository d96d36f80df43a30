-- What a program in clause form keeps holds of the tables that are made of a program whose counts agree, fact by fact.
use Rattle.std.proofs.Common.{◌≡◌, ℕ, ◌*◌, ◌<◌, ◌≤◌, suc, Bool, true, List, [], ◌∷◌, map, length, refl, ap, ◌∙◌, arith}
use Rattle.std.specs.Prelude.{◌&&◌, ◌==◌, nat_lt, nat_le, sum_by, slice_get, slice_index_or}
use Rattle.std.specs.List.{list_all}
use Rattle.std.proofs.lemmas.Bool.{lt-ltb, le-leb, eqb-true}
use Rattle.std.proofs.lemmas.List.{length-map}
use Rattle.rml_base.specs.Bytes.{are_bytes}
use Rattle.rml_resolved.specs.declared.limits.TheConstants.{WEIGHT}
use Rattle.rml_resolved.specs.declared.parts.Counts.{Counts}
use Rattle.rml_resolved.specs.declared.program.Program.{Program}
use Rattle.rml_resolved.specs.declared.tables.TypeDef.{TypeDef}
use Rattle.rml_resolved.specs.declared.tables.ConDef.{ConDef}
use Rattle.rml_resolved.specs.declared.tables.ValDef.{ValDef}
use Rattle.rml_resolved.specs.declared.tables.RelDef.{RelDef}
use Rattle.rml_resolved.specs.declared.tables.RRule.{RRule}
use Rattle.rml_resolved.specs.Fits.{counts_of, exp_fits}
use Rattle.rml_resolved.specs.Size.{relation_tokens}
use Rattle.rml_resolved.proofs.Callers.{both}
use Rattle.rml_fol.specs.declared.limits.TheConstants.{PER_TOKEN}
use Rattle.rml_fol.specs.declared.parts.Constructor.{Constructor}
use Rattle.rml_fol.specs.declared.parts.Val.{Val}
use Rattle.rml_fol.specs.declared.parts.Relation.{Relation}
use Rattle.rml_fol.specs.declared.parts.Parts.{Parts}
use Rattle.rml_fol.specs.Ends.{relation_ends}
use Rattle.rml_fol.specs.Fits.{Signature, Signatures, signature_of, signatures_of, arity_of, stmt_fits, relation_fits, val_fits, main_fits, cons_begin, con_is_small, name_is_bytes}
use Rattle.rml_fol.specs.Gives.{relation_gives}
use Rattle.rml_fol.specs.Scoped.{relation_is_scoped}
use Rattle.rml_fol.specs.Paid.{relation_is_paid}
use Rattle.rml_fol.specs.Size.{size, relation_is_small, weight_of}
use Rattle.rml_clause.proofs.Callers.{body-ends, body-gives, body-is-paid, each-fresh, EachResults, joined}
use Rattle.rml_clauses.specs.Agrees.{shape, shapes_of, goal_agrees, rule_agrees, relation_agrees, counts_agree}
use Rattle.rml_clauses.specs.Facts.{KeepsFacts}
use Rattle.rml_clauses.specs.Tables.{name_of, module_in, constructor_of, val_of, IsRelationOf, AreRelationsOf, AreTablesOf}
use Rattle.rml_clauses.proofs.Rows.{row-more}
use Rattle.rml_clauses.proofs.Binding.{body-scoped}
use Rattle.rml_clauses.proofs.Ready.{IsKnown, known-rule, binding-rule, shape-few, is-known, weight-small, val-fits}
use Rattle.rml_clauses.proofs.Terms.{bytes-at, arity, Declares, expression-fits}
use Rattle.rml_clauses.proofs.Statements.{body-fits}
use Rattle.rml_clauses.proofs.Sizes.{body-size, enough}
use Rattle.rml_clauses.proofs.Beginning.{constructors-begin, constructors-small}
use Rattle.rml_clauses.proofs.Weighed.{weights-same, longest-few}

-- ---- names

name-bytes : (names : List (List ℕ)) → list_all are_bytes names ≡ true → (of name : ℕ) → name_is_bytes (name_of names of name) ≡ true
name-bytes names h of name = joined (are_bytes (slice_index_or names of [])) (are_bytes (slice_index_or names name [])) (bytes-at names h of) (bytes-at names h name)

module _ (names : List (List ℕ)) (bytes : list_all are_bytes names ≡ true) where
  cons-bytes : (types : List TypeDef) (cons : List ConDef) → list_all (λ (c : Constructor). name_is_bytes c.name) (map (constructor_of names types) cons) ≡ true
  cons-bytes types [] = refl
  cons-bytes types (d ∷ cons) =
      joined (name_is_bytes (constructor_of names types d).name) (list_all (λ (c : Constructor). name_is_bytes c.name) (map (constructor_of names types) cons))
      (name-bytes names bytes (module_in (slice_get types d.of)) d.name) (cons-bytes types cons)

  vals-bytes : (vals : List ValDef) → list_all (λ (v : Val). name_is_bytes v.name) (map (val_of names) vals) ≡ true
  vals-bytes [] = refl
  vals-bytes (d ∷ vals) =
      joined (name_is_bytes (val_of names d).name) (list_all (λ (v : Val). name_is_bytes v.name) (map (val_of names) vals)) (name-bytes names bytes d.«module» d.name) (vals-bytes vals)

  rels-bytes : (ds : List RelDef) (rs : List Relation) → AreRelationsOf names ds rs → list_all (λ (r : Relation). name_is_bytes r.name) rs ≡ true
  rels-bytes [] [] h = refl
  rels-bytes [] (r ∷ rs) h = absurd h
  rels-bytes (d ∷ ds) [] h = absurd h
  rels-bytes (d ∷ ds) (r ∷ rs) h =
      joined (name_is_bytes r.name) (list_all (λ (x : Relation). name_is_bytes x.name) rs) (ap name_is_bytes h.0.name ∙ name-bytes names bytes d.«module» d.name) (rels-bytes ds rs h.1)

-- ---- what is declared

arities-made : (names : List (List ℕ)) (types : List TypeDef) (cons : List ConDef) → map arity_of (map (constructor_of names types) cons) ≡ map arity cons
arities-made names types [] = refl
arities-made names types (d ∷ cons) = ap (λ (ks : List ℕ). d.arity ∷ ks) (arities-made names types cons)

signature-made : (names : List (List ℕ)) (d : RelDef) (r : Relation) → IsRelationOf names d r → signature_of r ≡ shape d
signature-made names d r h =
    let made : ℕ → ℕ → Signature = λ params results. record { params = params; results = results } in
    ap (λ (k : ℕ). made k r.results) h.params ∙ ap (λ (k : ℕ). made (shape d).params k) h.results

signatures-made : (names : List (List ℕ)) (ds : List RelDef) (rs : List Relation) → AreRelationsOf names ds rs → map signature_of rs ≡ shapes_of ds
signatures-made names [] [] h = refl
signatures-made names [] (r ∷ rs) h = absurd h
signatures-made names (d ∷ ds) [] h = absurd h
signatures-made names (d ∷ ds) (r ∷ rs) h =
    ap (λ (s : Signature). s ∷ map signature_of rs) (signature-made names d r h.0) ∙ ap (λ (ss : List Signature). shape d ∷ ss) (signatures-made names ds rs h.1)

declares : (p : Program) (q : Parts) → AreTablesOf p q → Declares p.names (counts_of p.names p.vals p.rels) p.cons (signatures_of q)
declares p q h = record {
  bytes = p.names_are_bytes;
  same_cons = ap (λ (cs : List Constructor). map arity_of cs) h.cons ∙ arities-made p.names p.types p.cons;
  same_vals = ap (λ (vs : List Val). length vs) h.vals ∙ length-map p.vals (val_of p.names);
  same_rels = ap (λ (ss : List Signature). length ss) (signatures-made p.names p.rels q.rels h.rels) ∙ length-map p.rels shape;
}

-- ---- each relation

relations-pass : (names : List (List ℕ)) (n : Counts) (cons : List ConDef) (shapes : List Signature) (test : Relation → Bool)
    → ((d : RelDef) (r : Relation) → IsKnown n cons shapes d → IsRelationOf names d r → test r ≡ true)
    → (ds : List RelDef) (rs : List Relation) → AreRelationsOf names ds rs → ((k : ℕ) (d : RelDef) → k < length ds → IsKnown n cons shapes (slice_index_or ds k d)) → list_all test rs ≡ true
relations-pass names n cons shapes test each [] [] h known = refl
relations-pass names n cons shapes test each [] (r ∷ rs) h known = absurd h
relations-pass names n cons shapes test each (d ∷ ds) [] h known = absurd h
relations-pass names n cons shapes test each (d ∷ ds) (r ∷ rs) h known =
    joined (test r) (list_all test rs) (each d r (known 0 d (omega arith)) h.0) (relations-pass names n cons shapes test each ds rs h.1 (λ k x less. known (suc k) x (omega arith)))

each-results : (names : List (List ℕ)) (params given : ℕ) (rules : List RRule) → list_all (λ (r : RRule). length r.results == given) rules ≡ true → EachResults names params given rules
each-results names params given [] h = EachResults.none
each-results names params given (r ∷ rules) h =
    let two = both (length r.results == given) (list_all (λ (x : RRule). length x.results == given) rules) h in
    EachResults.more r rules (eqb-true (length r.results) given two.first) (each-results names params given rules two.second)

module _ (names : List (List ℕ)) (n : Counts) (cons : List ConDef) (shapes : List Signature) (d : RelDef) (r : Relation) (known : IsKnown n cons shapes d) (h : IsRelationOf names d r) where
  ends : relation_ends r ≡ true
  ends = body-ends names r.params d.rules h.clauses.alternatives r.body.stmts h.clauses.each h.clauses.is

  is-scoped : relation_is_scoped r ≡ true
  is-scoped = body-scoped names r.params h.clauses.each h.clauses.is (binding-rule n cons shapes d known) (each-fresh r.params r.vars d.rules h.clauses.alternatives h.clauses.numbered)

  is-paid : relation_is_paid r ≡ true
  is-paid = body-is-paid names r.params d.rules h.clauses.alternatives r.body.stmts h.clauses.each h.clauses.is

  results-told : list_all (λ (x : RRule). length x.results == (shape d).results) d.rules ≡ true
  results-told =
      row-more (rule_agrees shapes (shape d)) (λ (x : RRule). length x.results == (shape d).results)
      (λ x agrees.
      let two = both ((length x.inputs == (shape d).params) && (length x.results == (shape d).results)) (list_all (goal_agrees shapes) x.goals) agrees in
      (both (length x.inputs == (shape d).params) (length x.results == (shape d).results) two.first).second)
      d.rules known.agrees

  gives : relation_gives r ≡ true
  gives =
      body-gives names r.params r.results d.rules h.clauses.alternatives r.body.stmts h.clauses.each
      (each-results names r.params r.results d.rules (ap (λ (k : ℕ). list_all (λ (x : RRule). length x.results == k) d.rules) h.results ∙ results-told)) h.clauses.is

  small-params : r.params ≤ 8 * relation_tokens d
  small-params =
      let few = shape-few d.rules (8 * relation_tokens d) (λ k x less. let it = known-rule n cons shapes d known k x less in omega (arith, it.size, it.few)) in
      omega (arith, few.0, h.params)

  some-tokens : 1 ≤ relation_tokens d
  some-tokens = some-in d.rules known.some (λ k x less. let it = known-rule n cons shapes d known k x less in omega (arith, it.tokens, it.few))
    where
      some-in : (rules : List RRule) → 0 < length rules → ((k : ℕ) (x : RRule) → k < length rules → 1 ≤ relation_tokens d) → 1 ≤ relation_tokens d
      some-in [] some each = absurd (omega arith)
      some-in (x ∷ rules) some each = each 0 x some

  small-relation : relation_is_small r ≡ true
  small-relation =
      let size-few = body-size names r.params h.clauses known.small in
      let vars-few = h.clauses.few (64 * relation_tokens d) (omega (arith, small-params)) (enough r.params (relation_tokens d) d.rules small-params (omega arith) known.small known.once) in
      joined (nat_le (sum_by size r.body.stmts) (PER_TOKEN * r.tokens) && nat_le r.vars (PER_TOKEN * r.tokens)) (nat_le r.bodies (PER_TOKEN * r.tokens))
      (joined (nat_le (sum_by size r.body.stmts) (PER_TOKEN * r.tokens)) (nat_le r.vars (PER_TOKEN * r.tokens))
      (le-leb (sum_by size r.body.stmts) (PER_TOKEN * r.tokens) (omega (arith, size-few, some-tokens, h.tokens)))
      (le-leb r.vars (PER_TOKEN * r.tokens) (omega (arith, vars-few, h.tokens))))
      (le-leb r.bodies (PER_TOKEN * r.tokens) (omega (arith, h.bodies)))

  fits : (all : Signatures) → Declares names n cons all → all.rels ≡ shapes → relation_fits all r ≡ true
  fits all same is =
      let agree = row-more (rule_agrees shapes (shape d)) (λ (x : RRule). list_all (goal_agrees shapes) x.goals)
      (λ x agrees. (both ((length x.inputs == (shape d).params) && (length x.results == (shape d).results)) (list_all (goal_agrees shapes) x.goals) agrees).second) d.rules known.agrees in
      let agrees = ap (λ (ss : List Signature). list_all (λ (x : RRule). list_all (goal_agrees ss) x.goals) d.rules) is ∙ agree in
      joined (nat_le r.params r.vars) (list_all (stmt_fits all r.vars r.bodies) r.body.stmts)
      (le-leb r.params r.vars h.clauses.params_below)
      (ap (λ (k : ℕ). list_all (stmt_fits all r.vars k) r.body.stmts) h.bodies ∙ body-fits names n cons all same r.params r.vars h.clauses known.fit agrees)

-- ---- each val

vals-pass : (names : List (List ℕ)) (n : Counts) (cons : List ConDef) (all : Signatures) → Declares names n cons all → (ds : List ValDef)
    → ((k : ℕ) (d : ValDef) → k < length ds → exp_fits n cons 0 (slice_index_or ds k d).value ≡ true) → list_all (val_fits all) (map (val_of names) ds) ≡ true
vals-pass names n cons all same [] fit = refl
vals-pass names n cons all same (d ∷ ds) fit =
    joined (val_fits all (val_of names d)) (list_all (val_fits all) (map (val_of names) ds))
    (expression-fits names n cons all same 0 0 0 (omega arith) d.value (fit 0 d (omega arith))) (vals-pass names n cons all same ds (λ k x less. fit (suc k) x (omega arith)))

-- ---- the tables

pub keeps : (p : Program) (q : Parts) → counts_agree p ≡ true → AreTablesOf p q → KeepsFacts q
keeps p q agree h =
    let n = counts_of p.names p.vals p.rels in
    let shapes = shapes_of p.rels in
    let known = is-known p agree in
    let same = declares p q h in
    let signatures = signatures-made p.names p.rels q.rels h.rels in
    let weighs = weights-same p.names p.vals q.vals p.rels q.rels h.vals h.rels in
    let small = weight-small p agree in
    let long = longest-few p.vals p.rels in
    record {
      names_are_bytes =
          joined (list_all (λ (c : Constructor). name_is_bytes c.name) q.cons && list_all (λ (v : Val). name_is_bytes v.name) q.vals) (list_all (λ (r : Relation). name_is_bytes r.name) q.rels)
          (joined (list_all (λ (c : Constructor). name_is_bytes c.name) q.cons) (list_all (λ (v : Val). name_is_bytes v.name) q.vals)
          (ap (λ (cs : List Constructor). list_all (λ (c : Constructor). name_is_bytes c.name) cs) h.cons ∙ cons-bytes p.names p.names_are_bytes p.types p.cons)
          (ap (λ (vs : List Val). list_all (λ (v : Val). name_is_bytes v.name) vs) h.vals ∙ vals-bytes p.names p.names_are_bytes p.vals))
          (rels-bytes p.names p.names_are_bytes p.rels q.rels h.rels);
      cons_first = ap cons_begin h.cons ∙ constructors-begin p.names p.types p.cons p.cons_first p.cons_fit;
      cons_small = ap (λ (cs : List Constructor). list_all con_is_small cs) h.cons ∙ constructors-small p.names p.types p.cons p.cons_fit;
      vals_fit = ap (λ (vs : List Val). list_all (val_fits (signatures_of q)) vs) h.vals ∙ vals-pass p.names n p.cons (signatures_of q) same p.vals (val-fits p);
      relations_fit =
          relations-pass p.names n p.cons shapes (relation_fits (signatures_of q)) (λ d r k i. fits p.names n p.cons shapes d r k i (signatures_of q) same signatures) p.rels q.rels h.rels known;
      main_fits =
          ap (λ (b : Bool). main_fits b (slice_get (signatures_of q).rels q.main)) h.gives
          ∙ ap (λ (k : ℕ). main_fits p.gives (slice_get (signatures_of q).rels k)) h.main
          ∙ ap (λ (ss : List Signature). main_fits p.gives (slice_get ss p.main)) signatures
          ∙ (both (list_all (relation_agrees shapes) p.rels) (main_fits p.gives (slice_get shapes p.main)) agree).second;
      blocks_end = relations-pass p.names n p.cons shapes relation_ends (λ d r k i. ends p.names n p.cons shapes d r k i) p.rels q.rels h.rels known;
      relations_scoped = relations-pass p.names n p.cons shapes relation_is_scoped (λ d r k i. is-scoped p.names n p.cons shapes d r k i) p.rels q.rels h.rels known;
      relations_paid = relations-pass p.names n p.cons shapes relation_is_paid (λ d r k i. is-paid p.names n p.cons shapes d r k i) p.rels q.rels h.rels known;
      gives_fit = relations-pass p.names n p.cons shapes relation_gives (λ d r k i. gives p.names n p.cons shapes d r k i) p.rels q.rels h.rels known;
      relations_small = relations-pass p.names n p.cons shapes relation_is_small (λ d r k i. small-relation p.names n p.cons shapes d r k i) p.rels q.rels h.rels known;
      light =
          joined (nat_le (weight_of q.vals q.rels) q.weight && nat_le q.longest q.weight) (nat_lt q.weight WEIGHT)
          (joined (nat_le (weight_of q.vals q.rels) q.weight) (nat_le q.longest q.weight)
          (le-leb (weight_of q.vals q.rels) q.weight (omega (arith, weighs, h.weight_is))) (le-leb q.longest q.weight (omega (arith, long, h.longest_is, h.weight_is))))
          (lt-ltb q.weight WEIGHT (omega (arith, small, h.weight_is)));
    }
