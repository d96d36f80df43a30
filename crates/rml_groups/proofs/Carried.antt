-- What is typed as is told of a group is typed as a program's tables say, and the other way round.
use Rattle.std.proofs.Common.{◌≡◌, ℕ, Bool, true, false, ◌==◌, List, length, take, get_or, Option, Some, None, IsTrue, refl, sym, ap, subst, ◌∙◌, eq-eqb, eqb-true}
use Rattle.std.specs.Prelude.{All, slice_get, nat_lt}
use Rattle.std.specs.List.{Contains, list_all}
use Rattle.std.specs.Cmp.Derive.{both_true}
use Rattle.std.specs.Option.{is_none}
use Rattle.std.proofs.lemmas.List.Elements.{All-contains, All-from_recursion, Contains-get_or, recursion_from_All}
use Rattle.std.proofs.lemmas.List.Sums.{AllPass-from_list_all}
use Rattle.std.proofs.lemmas.Option.{get_or_from_slice_get, slice_get_within}
use mathlib.Core.Path.{fun_ext}
use Rattle.rml_types.specs.declared.scheme.Scheme.{Scheme}
use Rattle.rml_types.specs.declared.tree.SchemeTree.{SchemeTree}
use Rattle.rml_types.specs.Instances.{IsInstance}
use Rattle.rml_types.specs.Nodes.{Nodes}
use Rattle.rml_types.proofs.Callers.{both}
use Rattle.rml_resolved.specs.declared.parts.Parts.{Parts}
use Rattle.rml_resolved.specs.declared.tables.ConDef.{ConDef}
use Rattle.rml_resolved.specs.declared.tables.ValDef.{ValDef}
use Rattle.rml_resolved.specs.declared.tables.RelDef.{RelDef}
use Rattle.rml_resolved.specs.declared.tables.RRule.{RRule}
use Rattle.rml_resolved.specs.Fits.{relation_fits, rule_fits}
use Rattle.rml_typed.specs.Own.{own, own_meanings, written}
use Rattle.rml_typed.specs.Typed.{Declared}
use Rattle.rml_typed.specs.Parts.{RelType, PieceOf, as_type, pieces}
use Rattle.rml_typed.specs.Units.{GroupFirstTyped, GroupTypes, InGroup, Used, declared, inside}
use Rattle.rml_equations.specs.declared.coding.Coding.{Coding}
use Rattle.rml_equations.specs.Rebuilding.{meanings_in}
use Rattle.rml_generator.specs.Entries.{entry}
use Rattle.rml_generator.specs.Scopes.{AtOwnType}
use Rattle.rml_alone.specs.Texts.{reads_by}
use Rattle.rml_alone.proofs.Callers.{own-past, own-same, own-types, rule-carried}
use Rattle.rml_groups.specs.declared.extent.Extent.{Extent}
use Rattle.rml_groups.specs.declared.members.Member.{Member}
use Rattle.rml_groups.specs.declared.unit.Unit.{Unit}
use Rattle.rml_groups.specs.Groups.{FirstTypedInside, IsGroupOf, definitions, is_member, parts_in, reads, used_at, used_by, uses}
use Rattle.rml_groups.specs.Members.{Begins, IsAmong, IsListed, MembersTyped, RelationTyped}

-- ---- relations of the group

pub no-scheme : (o : Option Scheme) → is_none o ≡ true → o ≡ None
no-scheme None e = refl
no-scheme (Some s) e = absurd (cc)

has-no-scheme : (o : Option Scheme) → o ≡ None → is_none o ≡ true
has-no-scheme o e = ap (is_none {T = Scheme}) e

pub member-of : (p : Parts) (text r : ℕ) (g : InGroup p text r) (number : ℕ) → number ≡ text → is_member number g.rel ≡ true
member-of p text r g number is = both_true (has-no-scheme g.rel.scheme g.undeclared) (eq-eqb g.rel.place.text number (g.here ∙ sym is))

abbrev pub in-group : (p : Parts) (text r : ℕ) (rel : RelDef) (number : ℕ) → number ≡ text → slice_get p.rels r ≡ Some rel → is_member number rel ≡ true → InGroup p text r
in-group p text r rel number is there member =
    let two = both (is_none rel.scheme) (rel.place.text == number) member in
    record { rel = rel; there = there; undeclared = no-scheme rel.scheme two.0; here = eqb-true rel.place.text number two.1 ∙ is }

-- ---- relations fit

pub relation-fit : (p : Parts) (text : ℕ) (u : Unit) (is : IsGroupOf p text u) (r : ℕ) (rel : RelDef) → slice_get p.rels r ≡ Some rel → (nat_lt 0 (length rel.rules) ≡ true) × (list_all (rule_fits is.counts p.cons) rel.rules ≡ true)
relation-fit p text u is r rel there =
    let pass = AllPass-from_list_all (relation_fits is.counts p.types p.cons) p.rels is.fit in
    let fits : relation_fits is.counts p.types p.cons rel ≡ true =
    subst (λ (x : RelDef). relation_fits is.counts p.types p.cons x ≡ true) (get_or_from_slice_get p.rels r rel rel there) (pass r rel (slice_get_within p.rels r rel there)) in
    let last = both _ (list_all (rule_fits is.counts p.cons) rel.rules) fits in
    let ruled = both _ (nat_lt 0 (length rel.rules)) last.0 in
    (ruled.1, last.1)

rule-fit : (p : Parts) (text : ℕ) (u : Unit) (is : IsGroupOf p text u) (r : ℕ) (rel : RelDef) → slice_get p.rels r ≡ Some rel → (rule : RRule) → Contains rel.rules rule → IsTrue (rule_fits is.counts p.cons rule)
rule-fit p text u is r rel there rule among =
    All-contains (λ (x : RRule). rule_fits is.counts p.cons x ≡ true) rel.rules rule (AllPass-from_list_all (rule_fits is.counts p.cons) rel.rules (relation-fit p text u is r rel there).1) among

module _ (p : Parts) (text : ℕ) (u : Unit) (is : IsGroupOf p text u) (c : Coding) (g : Nodes) (ms : List Member) (nodes : List (Option ℕ)) (b : Begins c u.rels.now u.number (length u.rels.now) g ms nodes) where
  pub among-of : (r : ℕ) (q : InGroup p text r) → IsAmong ms r q.rel
  among-of r q =
      let there : slice_get u.rels.now r ≡ Some q.rel = ap (λ (rs : List RelDef). slice_get rs r) is.rels ∙ q.there in
      b.every r q.rel (slice_get_within u.rels.now r q.rel there) there (member-of p text r q u.number is.number)

  pub listed-at : (m : Member) → Contains ms m → IsListed c u.rels.now u.number g nodes m
  listed-at m among = All-contains (IsListed c u.rels.now u.number g nodes) ms m b.listed among

  abbrev pub group-of : (m : Member) → Contains ms m → InGroup p text m.number
  group-of m among = (let l = listed-at m among in in-group p text m.number m.rel.now u.number is.number (sym (ap (λ (rs : List RelDef). slice_get rs m.number) is.rels) ∙ l.there) l.member)

  -- a relation of the group has a node
  noded : (r : ℕ) → InGroup p text r → (n : ℕ) × (entry nodes r ≡ Some n)
  noded r q = (let a = among-of r q in (a.member.node, subst (λ (k : ℕ). entry nodes k ≡ Some a.member.node) a.number (listed-at a.member a.among).noded))

  module _ (S : GroupTypes) (m0 : ℕ) (meanings : (x : ℕ) → meanings_in (definitions u.meanings.now m0) x ≡ own_meanings p.types m0 x) where
    reading : SchemeTree → SchemeTree
    reading = written (meanings_in (definitions u.meanings.now m0))

    read-is : written (meanings_in (definitions u.meanings.now m0)) ≡ own p.types m0
    read-is = ap written (fun_ext meanings)

    reads-is : reads u m0 ≡ declared p m0
    reads-is =
        ap (λ (f : SchemeTree → SchemeTree). reads_by f u.cons.now u.vals.now) read-is ∙ ap (λ (cs : List ConDef). reads_by (own p.types m0) cs u.vals.now) is.cons
        ∙ ap (λ (vs : List ValDef). reads_by (own p.types m0) p.cons vs) is.vals

    -- ---- how relations may be used

    own-type : (o : Option ℕ) (k : RelType) (t : SchemeTree) → AtOwnType o k t → t ≡ as_type k
    own-type None k t h = absurd h
    own-type (Some n) k t h = h

    used-there : (r : ℕ) (t : SchemeTree) (rel : RelDef) → slice_get p.rels r ≡ Some rel → (o : Option Scheme) (here : Bool) → rel.scheme ≡ o → (rel.place.text == u.number) ≡ here
        → used_by (written (meanings_in (definitions u.meanings.now m0))) (entry nodes r) (S r) o here t → Used p text m0 (inside S) r t
    used-there r t rel there (Some s) here e f h = Used.by_type rel s there e (subst (λ (f : SchemeTree → SchemeTree). IsInstance (f s.body) t) read-is h)
    used-there r t rel there None true e f h =
        Used.by_group (record { rel = rel; there = there; undeclared = e; here = eqb-true rel.place.text u.number f ∙ is.number }) (own-type (entry nodes r) (S r) t h)
    used-there r t rel there None false e f h = absurd h

    uses-there-at : (r : ℕ) (t : SchemeTree) (o : Option RelDef) → slice_get p.rels r ≡ o → used_at (written (meanings_in (definitions u.meanings.now m0))) u.number (entry nodes r) (S r) o t → Used p text m0 (inside S) r t
    uses-there-at r t None e h = absurd h
    uses-there-at r t (Some rel) e h = used-there r t rel e rel.scheme (rel.place.text == u.number) refl refl h

    uses-there : (r : ℕ) (t : SchemeTree) → uses u m0 nodes S r t → Used p text m0 (inside S) r t
    uses-there r t h = uses-there-at r t (slice_get u.rels.now r) (sym (ap (λ (rs : List RelDef). slice_get rs r) is.rels)) h

    at-rel : (r : ℕ) (t : SchemeTree) (rel : RelDef) → slice_get p.rels r ≡ Some rel → used_by (written (meanings_in (definitions u.meanings.now m0))) (entry nodes r) (S r) rel.scheme (rel.place.text == u.number) t → uses u m0 nodes S r t
    at-rel r t rel there h =
        subst (λ (o : Option RelDef). used_at (written (meanings_in (definitions u.meanings.now m0))) u.number (entry nodes r) (S r) o t) (sym (ap (λ (rs : List RelDef). slice_get rs r) is.rels ∙ there)) h

    uses-back : (r : ℕ) (t : SchemeTree) → Used p text m0 (inside S) r t → uses u m0 nodes S r t
    uses-back r t (Used.by_type rel s there e i) =
        at-rel r t rel there
        (subst (λ (o : Option Scheme). used_by (written (meanings_in (definitions u.meanings.now m0))) (entry nodes r) (S r) o (rel.place.text == u.number) t) (sym e)
        (subst (λ (f : SchemeTree → SchemeTree). IsInstance (f s.body) t) (sym read-is) i))
    uses-back r t (Used.by_group q out) =
        at-rel r t q.rel q.there
        (subst (λ (o : Option Scheme). used_by (written (meanings_in (definitions u.meanings.now m0))) (entry nodes r) (S r) o (q.rel.place.text == u.number) t) (sym q.undeclared)
        (subst (λ (here : Bool). used_by (written (meanings_in (definitions u.meanings.now m0))) (entry nodes r) (S r) None here t) (sym (eq-eqb q.rel.place.text u.number (q.here ∙ sym is.number)))
        (let n = noded r q in subst (λ (o : Option ℕ). AtOwnType o (S r) t) (sym n.1) out)))

    -- ---- the first parts of a rule

    module _ (k : RelType) (rule : RRule) (fits : IsTrue (rule_fits is.counts p.cons rule)) (count : ℕ) where
      abbrev Said : Type 0
      Said = (G : ℕ → SchemeTree) × All (PieceOf (declared p m0) (Used p text m0 (inside S)) k G) (take count (pieces rule))

      rule-there : FirstTypedInside u m0 nodes S k rule count → Said
      rule-there h = (
        h.0,
        subst (λ (d : Declared). All (PieceOf d (Used p text m0 (inside S)) k h.0) (take count (pieces rule))) reads-is
            (rule-carried is.counts p.cons (reads u m0) (uses u m0 nodes S) (Used p text m0 (inside S)) uses-there h.0 h.0 k rule count fits (λ x lt. refl) h.2),
      )

      rule-back : Said → FirstTypedInside u m0 nodes S k rule count
      rule-back h = (
        own-types rule.vars h.0,
        own-past rule.vars h.0,
        rule-carried is.counts p.cons (reads u m0) (Used p text m0 (inside S)) (uses u m0 nodes S) uses-back h.0 (own-types rule.vars h.0) k rule count fits (own-same rule.vars h.0)
            (subst (λ (d : Declared). All (PieceOf d (Used p text m0 (inside S)) k h.0) (take count (pieces rule))) (sym reads-is) h.1),
      )

  -- ---- all rules of the group

  module _ (S : GroupTypes) (extent : Extent) where
    abbrev RuleOf : Member → RRule → Type 0
    RuleOf m rule = FirstTypedInside u m.rel.now.«module» nodes S (S m.number) rule (parts_in extent rule)

    at-member : MembersTyped u nodes S extent ms → (m : Member) → Contains ms m → (rule : RRule) → Contains m.rel.now.rules rule → RuleOf m rule
    at-member all m among rule in-rules =
        All-contains (RuleOf m) m.rel.now.rules rule
        (All-from_recursion (RuleOf m) m.rel.now.rules (All-contains (RelationTyped u nodes S extent) ms m (All-from_recursion (RelationTyped u nodes S extent) ms all) among)) in-rules

    pub members-there : MembersTyped u nodes S extent ms → GroupFirstTyped p text S (parts_in extent)
    members-there all r q rule among =
        let a = among-of r q in
        let h = at-member all a.member a.among rule (subst (λ (rel : RelDef). Contains rel.rules rule) (sym a.is) among) in
        let at-rel : FirstTypedInside u q.rel.«module» nodes S (S a.member.number) rule (parts_in extent rule) =
        subst (λ (rel : RelDef). FirstTypedInside u rel.«module» nodes S (S a.member.number) rule (parts_in extent rule)) a.is h in
        let at-number : FirstTypedInside u q.rel.«module» nodes S (S r) rule (parts_in extent rule) =
        subst (λ (n : ℕ). FirstTypedInside u q.rel.«module» nodes S (S n) rule (parts_in extent rule)) a.number at-rel in
        rule-there S q.rel.«module» (is.meanings r q) (S r) rule (rule-fit p text u is r q.rel q.there rule among) (parts_in extent rule) at-number

    pub members-back : GroupFirstTyped p text S (parts_in extent) → MembersTyped u nodes S extent ms
    members-back typed =
        recursion_from_All (RelationTyped u nodes S extent) ms (λ k d lt. of-member (get_or ms k d) (Contains-get_or ms k d lt))
      where
        of-member : (m : Member) → Contains ms m → RelationTyped u nodes S extent m
        of-member m among =
            let q = group-of m among in
            recursion_from_All (RuleOf m) m.rel.now.rules (λ k d lt. (
            let rule = get_or m.rel.now.rules k d in
            let in-rules = Contains-get_or m.rel.now.rules k d lt in
            rule-back S m.rel.now.«module» (is.meanings m.number q) (S m.number) rule (rule-fit p text u is m.number m.rel.now q.there rule in-rules) (parts_in extent rule)
            (typed m.number q rule in-rules)))
