-- What is typed as is told of a text is typed as a program's tables say, and the other way round.
use Rattle.std.proofs.Common.{◌≡◌, ℕ, suc, ◌<◌, ◌≤◌, Bool, true, false, ◌==◌, if◌then◌else◌, List, take, Option, Some, None, IsTrue, refl, sym, ap, subst, ◌∙◌, arith, eq-eqb, eqb-true, lt-ltb}
use Rattle.std.specs.Prelude.{All, nat_lt, slice_get}
use mathlib.Core.Path.{fun_ext}
use Rattle.rml_types.specs.declared.scheme.Scheme.{Scheme}
use Rattle.rml_types.specs.declared.tree.SchemeTree.{SchemeTree}
use Rattle.rml_types.specs.Instances.{IsInstance}
use Rattle.rml_types.specs.Schemes.{unit}
use Rattle.rml_resolved.specs.declared.parts.Counts.{Counts}
use Rattle.rml_resolved.specs.declared.parts.Parts.{Parts}
use Rattle.rml_resolved.specs.declared.tables.ConDef.{ConDef}
use Rattle.rml_resolved.specs.declared.tables.ValDef.{ValDef}
use Rattle.rml_resolved.specs.declared.tables.RelDef.{RelDef}
use Rattle.rml_resolved.specs.declared.tables.RRule.{RRule}
use Rattle.rml_resolved.specs.declared.trees.RExp.{RExp}
use Rattle.rml_resolved.specs.Fits.{exp_fits, rule_fits}
use Rattle.rml_typed.specs.Own.{own, written}
use Rattle.rml_typed.specs.Typed.{Assigned, Declared, ExpOf}
use Rattle.rml_typed.specs.Parts.{RelType, PieceOf, pieces}
use Rattle.rml_typed.specs.Units.{InGroup, Used, alone, declared}
use Rattle.rml_alone.specs.declared.text.Text.{Text}
use Rattle.rml_alone.specs.Answers.{IsLeast}
use Rattle.rml_alone.specs.Texts.{ExpTypedAlone, FirstTypedAlone, IsOwn, IsTextOf, read, reads, reads_by, uses, used_at, used_by}
use Rattle.rml_alone.proofs.Variables.{exp-carried, rule-carried}

-- types of a rule's own variables, where there are types of all
pub own-types : ℕ → Assigned → Assigned
own-types vars G x = if nat_lt x vars then G x else unit

pub own-past : (vars : ℕ) (G : Assigned) → IsOwn vars (own-types vars G)
unfolding own-types
own-past vars G x le = ap (λ (b : Bool). if b then G x else unit) (ltb-false' x vars le)
  where
    ltb-false' : (x vars : ℕ) → vars ≤ x → nat_lt x vars ≡ false
    ltb-false' x vars le = on (nat_lt x vars) refl
      where
        on : (b : Bool) → nat_lt x vars ≡ b → b ≡ false
        on false e = refl
        on true e = absurd (let lt : x < vars = ltb-true' e in omega arith)
          where
            ltb-true' : nat_lt x vars ≡ true → x < vars
            ltb-true' e = grind arith

pub own-same : (vars : ℕ) (G : Assigned) (x : ℕ) → x < vars → G x ≡ own-types vars G x
unfolding own-types
own-same vars G x lt = sym (ap (λ (b : Bool). if b then G x else unit) (lt-ltb x vars lt))

module _ (p : Parts) (text m : ℕ) (t : Text) (is : IsTextOf p text m t) where
  pub read-is : read t ≡ own p.types m
  read-is = ap written (fun_ext is.meanings)

  pub reads-is : reads t ≡ declared p m
  reads-is =
      ap (λ (f : SchemeTree → SchemeTree). reads_by f t.cons.now t.vals.now) read-is ∙ ap (λ (cs : List ConDef). reads_by (own p.types m) cs t.vals.now) is.cons
      ∙ ap (λ (vs : List ValDef). reads_by (own p.types m) p.cons vs) is.vals

  -- ---- how relations may be used

  used-there : (r : ℕ) (u : SchemeTree) (rel : RelDef) → slice_get p.rels r ≡ Some rel → (o : Option Scheme) (here : Bool) → rel.scheme ≡ o → (rel.place.text == t.number) ≡ here
      → used_by t r o here u → alone p text m r u
  used-there r u rel there (Some s) here e f h = Used.by_type rel s there e (subst (λ (reading : SchemeTree → SchemeTree). IsInstance (reading s.body) u) read-is h)
  used-there r u rel there None true e f h =
      let g : InGroup p text r = record { rel = rel; there = there; undeclared = e; here = eqb-true rel.place.text t.number f ∙ is.number } in
      Used.by_group g ((is.general r u g).0 h)
  used-there r u rel there None false e f h = absurd h

  uses-there-at : (r : ℕ) (u : SchemeTree) (o : Option RelDef) → slice_get p.rels r ≡ o → used_at t r o u → alone p text m r u
  uses-there-at r u None e h = absurd h
  uses-there-at r u (Some rel) e h = used-there r u rel e rel.scheme (rel.place.text == t.number) refl refl h

  pub uses-there : (r : ℕ) (u : SchemeTree) → uses t r u → alone p text m r u
  uses-there r u h = uses-there-at r u (slice_get t.rels.now r) (sym (ap (λ (rs : List RelDef). slice_get rs r) is.rels)) h

  at-rel : (r : ℕ) (u : SchemeTree) (rel : RelDef) → slice_get p.rels r ≡ Some rel → used_by t r rel.scheme (rel.place.text == t.number) u → uses t r u
  at-rel r u rel there h = subst (λ (o : Option RelDef). used_at t r o u) (sym (ap (λ (rs : List RelDef). slice_get rs r) is.rels ∙ there)) h

  pub uses-back : (r : ℕ) (u : SchemeTree) → alone p text m r u → uses t r u
  uses-back r u (Used.by_type rel s there e i) =
      at-rel r u rel there
      (subst (λ (o : Option Scheme). used_by t r o (rel.place.text == t.number) u) (sym e) (subst (λ (reading : SchemeTree → SchemeTree). IsInstance (reading s.body) u) (sym read-is) i))
  uses-back r u (Used.by_group g out) =
      at-rel r u g.rel g.there
      (subst (λ (o : Option Scheme). used_by t r o (g.rel.place.text == t.number) u) (sym g.undeclared)
      (subst (λ (here : Bool). used_by t r None here u) (sym (eq-eqb g.rel.place.text t.number (g.here ∙ sym is.number))) ((is.general r u g).1 out)))

  -- ---- the first parts of a rule

  module _ (n : Counts) (k : RelType) (rule : RRule) (fits : IsTrue (rule_fits n p.cons rule)) (count : ℕ) where
    abbrev Told : Type 0
    Told = FirstTypedAlone t k rule count

    abbrev Said : Type 0
    Said = (G : Assigned) × All (PieceOf (declared p m) (alone p text m) k G) (take count (pieces rule))

    pub first-there : Told → Said
    first-there h = (
      h.0,
      subst (λ (d : Declared). All (PieceOf d (alone p text m) k h.0) (take count (pieces rule))) reads-is
          (rule-carried n p.cons (reads t) (uses t) (alone p text m) uses-there h.0 h.0 k rule count fits (λ x lt. refl) h.2),
    )

    pub first-back : Said → Told
    first-back h = (
      own-types rule.vars h.0,
      own-past rule.vars h.0,
      rule-carried n p.cons (reads t) (alone p text m) (uses t) uses-back h.0 (own-types rule.vars h.0) k rule count fits (own-same rule.vars h.0)
          (subst (λ (d : Declared). All (PieceOf d (alone p text m) k h.0) (take count (pieces rule))) (sym reads-is) h.1),
    )

  pub exp-there : (n : Counts) (e : RExp) (u : SchemeTree) → IsTrue (exp_fits n p.cons 0 e) → ExpTypedAlone t e u → (G : Assigned) × ExpOf (declared p m) (alone p text m) G e u
  exp-there n e u fits h = (
    h.0,
    subst (λ (d : Declared). ExpOf d (alone p text m) h.0 e u) reads-is (exp-carried n p.cons 0 (reads t) (uses t) (alone p text m) uses-there h.0 h.0 (λ x lt. refl) e u h.2 fits),
  )

  pub exp-back : (n : Counts) (e : RExp) (u : SchemeTree) → IsTrue (exp_fits n p.cons 0 e) → (G : Assigned) × ExpOf (declared p m) (alone p text m) G e u → ExpTypedAlone t e u
  exp-back n e u fits h = (
    own-types 0 h.0,
    own-past 0 h.0,
    exp-carried n p.cons 0 (reads t) (alone p text m) (uses t) uses-back h.0 (own-types 0 h.0) (own-same 0 h.0) e u
        (subst (λ (d : Declared). ExpOf d (alone p text m) h.0 e u) (sym reads-is) h.1) fits,
  )

-- ---- the least part, said otherwise

pub least-like : (P Q : ℕ → Type 0) → ((n : ℕ) → P n → Q n) → ((n : ℕ) → Q n → P n) → (count : ℕ) (o : Option ℕ) → IsLeast P count o → IsLeast Q count o
least-like P Q there back count None h = there count h
least-like P Q there back count (Some k) h = (h.0, record { before = there k h.1.before; not_with_it = λ q. h.1.not_with_it (back (suc k) q) })
