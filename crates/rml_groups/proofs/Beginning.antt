-- The graph with which a group begins, relation by relation.
use Rattle.std.proofs.Common.{◌≡◌, ℕ, zero, suc, ◌+◌, ◌<◌, ◌≤◌, Bool, true, false, List, [], ◌∷◌, ◌++◌, length, get_or, Option, Some, None, refl, sym, ap, subst, ◌∙◌, arith, length-append}
use Rattle.std.specs.Prelude.{All, slice_get}
use Rattle.std.specs.List.{Contains}
use Rattle.std.proofs.lemmas.List.{get_or_append_left}
use Rattle.std.proofs.lemmas.Option.{slice_get_past}
use Rattle.std.proofs.lemmas.List.Elements.{All-contains, All-nil, All-push, Contains-append_left, Contains-push}
use Rattle.rml_types.specs.declared.form.Form.{Form}
use Rattle.rml_types.specs.declared.tree.SchemeTree.{SchemeTree, out-SchemeTree}
use Rattle.rml_types.specs.Finite.{HasTypes}
use Rattle.rml_types.specs.Nodes.{Nodes}
use Rattle.rml_types.specs.Schemes.{unit}
use Rattle.rml_resolved.specs.declared.tables.RelDef.{RelDef}
use Rattle.rml_typed.specs.Parts.{as_type, sides}
use Rattle.rml_typed.specs.Units.{GroupTypes}
use Rattle.rml_equations.specs.declared.coding.Coding.{Coding}
use Rattle.rml_equations.specs.Coding.{coded, decoded}
use Rattle.rml_equations.proofs.Callers.{Solution}
use Rattle.rml_generator.specs.Adds.{IsWithin, Told, Tells}
use Rattle.rml_generator.specs.Entries.{entry, there}
use Rattle.rml_alone.proofs.Callers.{empty-types}
use Rattle.rml_groups.specs.declared.members.Member.{Member}
use Rattle.rml_groups.specs.Groups.{is_member}
use Rattle.rml_groups.specs.Members.{Begins, CanBe, IsAmong, IsListed, IsMade, empty, watch}
use Rattle.rml_groups.proofs.Held.{held-later, sides-of}

-- ---- tables that grow

data Where (r i : ℕ) : Type 0 where
  before : r < i → Where r i
  equals : r ≡ i → Where r i
  past : i < r → Where r i

where-is : (r i : ℕ) → Where r i
where-is zero zero = Where.equals refl
where-is zero (suc i) = Where.before (omega arith)
where-is (suc r) zero = Where.past (omega arith)
where-is (suc r) (suc i) = on (where-is r i) where
  on : Where r i → Where (suc r) (suc i)
  on (Where.before lt) = Where.before (omega arith)
  on (Where.equals e) = Where.equals (ap suc e)
  on (Where.past lt) = Where.past (omega arith)

slice-before : {X : Type 0} (xs ys : List X) (r : ℕ) → r < length xs → slice_get (xs ++ ys) r ≡ slice_get xs r
slice-before [] ys r lt = absurd (omega arith)
slice-before (x ∷ xs) ys zero lt = refl
slice-before (x ∷ xs) ys (suc r) lt = slice-before xs ys r (omega arith)

slice-at : {X : Type 0} (xs : List X) (y : X) (r : ℕ) → r ≡ length xs → slice_get (xs ++ y ∷ []) r ≡ Some y
slice-at [] y zero e = refl
slice-at [] y (suc r) e = absurd (omega arith)
slice-at (x ∷ xs) y zero e = absurd (omega arith)
slice-at (x ∷ xs) y (suc r) e = slice-at xs y r (omega arith)

entry-before : (xs ys : List (Option ℕ)) (r : ℕ) → r < length xs → entry (xs ++ ys) r ≡ entry xs r
entry-before xs ys r lt = ap (there {A = ℕ}) (slice-before xs ys r lt)

entry-at : (xs : List (Option ℕ)) (y : Option ℕ) (r : ℕ) → r ≡ length xs → entry (xs ++ y ∷ []) r ≡ y
entry-at xs y r e = ap (there {A = ℕ}) (slice-at xs y r e)

entry-past : (xs : List (Option ℕ)) (r : ℕ) → length xs ≤ r → entry xs r ≡ None
entry-past xs r le = ap (there {A = ℕ}) (slice_get_past xs r le)

entry-within : (xs : List (Option ℕ)) (r n : ℕ) → entry xs r ≡ Some n → r < length xs
entry-within [] r n e = absurd (cc)
entry-within (y ∷ xs) zero n e = omega arith
entry-within (y ∷ xs) (suc r) n e = (let l = entry-within xs r n e in omega arith)

some-none : {X : Type 0} (o : Option X) (x : X) → o ≡ Some x → o ≡ None → ⊥
some-none o x e f = cc

pub some-of : {X : Type 0} (x y : X) → Some x ≡ Some y → x ≡ y
some-of x y e = cc

-- what holds of all but the last, and of the last
all-front : {X : Type 0} (P : X → Type 0) (xs : List X) (x : X) → All P (xs ++ x ∷ []) → All P xs
all-front P xs x a k d lt = subst P (get_or_append_left xs (x ∷ []) d k lt) (a k d (let l = length-append xs (x ∷ []) in omega arith))

all-last : {X : Type 0} (P : X → Type 0) (xs : List X) (x : X) → All P (xs ++ x ∷ []) → P x
all-last P xs x a = All-contains P (xs ++ x ∷ []) x a (Contains-push xs x)

-- ---- the beginning

no-form : (f : Form) → None ≡ Some f → ⊥
no-form f e = cc

pub begins-none : (c : Coding) (rels : List RelDef) (text : ℕ) (g : Nodes) (ms : List Member) (nodes : List (Option ℕ)) → g ≡ empty → ms ≡ [] → nodes ≡ [] → Begins c rels text 0 g ms nodes
begins-none c rels text g ms nodes is ms-are nodes-are =
    subst (λ (n : Nodes). Begins c rels text 0 n ms nodes) (sym is)
    (subst (λ (xs : List Member). Begins c rels text 0 empty xs nodes) (sym ms-are) (subst (λ (xs : List (Option ℕ)). Begins c rels text 0 empty [] xs) (sym nodes-are) (record {
      live = refl;
      unfixed = λ n f k e q. no-form f e;
      count = refl;
      listed = All-nil (IsListed c rels text empty []);
      told = λ r n e. absurd (let l = entry-within [] r n e in omega arith);
      every = λ r rel lt e m. absurd (omega arith);
      any = λ S all. (λ n. unit, empty-types (λ n. unit), All-nil (λ (m : Member). unit ≡ coded c (as_type (S m.number))));
    })))

pub begins-same : (c : Coding) (rels : List RelDef) (text i : ℕ) (g h : Nodes) (ms all : List Member) (nodes : List (Option ℕ)) → h ≡ g → all ≡ ms → Begins c rels text i g ms nodes → Begins c rels text i h all nodes
begins-same c rels text i g h ms all nodes same are b =
    subst (λ (n : Nodes). Begins c rels text i n all nodes) (sym same) (subst (λ (xs : List Member). Begins c rels text i g xs nodes) (sym are) b)

-- what is read of it is the same
pub begins-read : (c : Coding) (rels : List RelDef) (text : ℕ) (g : Nodes) (ms read : List Member) (nodes noted : List (Option ℕ)) → read ≡ ms → noted ≡ nodes → Begins c rels text (length rels) g ms nodes
    → Begins c rels text (length rels) g read noted
begins-read c rels text g ms read nodes noted same are b =
    subst (λ (xs : List Member). Begins c rels text (length rels) g xs noted) (sym same) (subst (λ (xs : List (Option ℕ)). Begins c rels text (length rels) g ms xs) (sym are) b)

module _ (c : Coding) (rels : List RelDef) (text i : ℕ) (g : Nodes) (ms : List Member) (nodes : List (Option ℕ)) (b : Begins c rels text i g ms nodes) where
  -- a relation that is not of the group
  pub begins-other : (rel : RelDef) (later : List (Option ℕ)) → slice_get rels i ≡ Some rel → is_member text rel ≡ false → later ≡ nodes ++ None ∷ [] → Begins c rels text (i + 1) g ms later
  begins-other rel later at other later-is = subst (λ (xs : List (Option ℕ)). Begins c rels text (i + 1) g ms xs) (sym later-is) (record {
    live = b.live;
    unfixed = b.unfixed;
    count = (let l = length-append nodes (None ∷ []) in let k = b.count in omega arith);
    listed = λ k d lt. (
        let l = b.listed k d lt in
        record { there = l.there; member = l.member; noded = entry-before nodes (None ∷ []) (get_or ms k d).number (entry-within nodes (get_or ms k d).number (get_or ms k d).node l.noded) ∙ l.noded; held = l.held });
    told = told;
    every = every;
    any = b.any;
  })
    where
      told : (r n : ℕ) → entry (nodes ++ None ∷ []) r ≡ Some n → (m : Member) × Contains ms m × (m.number ≡ r) × (m.node ≡ n)
      told r n e = on (where-is r (length nodes)) where
        on : Where r (length nodes) → (m : Member) × Contains ms m × (m.number ≡ r) × (m.node ≡ n)
        on (Where.before lt) = b.told r n (sym (entry-before nodes (None ∷ []) r lt) ∙ e)
        on (Where.equals equal) = absurd (some-none (entry (nodes ++ None ∷ []) r) n e (entry-at nodes None r equal))
        on (Where.past lt) = absurd (some-none (entry (nodes ++ None ∷ []) r) n e (entry-past (nodes ++ None ∷ []) r (let l = length-append nodes (None ∷ []) in omega arith)))

      not-both : (q : RelDef) → Some q ≡ Some rel → is_member text q ≡ true → ⊥
      not-both q same m = (let e : is_member text rel ≡ true = subst (λ (x : RelDef). is_member text x ≡ true) (some-of q rel same) m in different (is_member text rel) e other) where
        different : (x : Bool) → x ≡ true → x ≡ false → ⊥
        different x e f = cc

      every : (r : ℕ) (q : RelDef) → r < i + 1 → slice_get rels r ≡ Some q → is_member text q ≡ true → IsAmong ms r q
      every r q lt e m = on (where-is r i) where
        on : Where r i → IsAmong ms r q
        on (Where.before less) = b.every r q less e m
        on (Where.equals equal) = absurd (not-both q (sym e ∙ ap (slice_get rels) equal ∙ at) m)
        on (Where.past more) = absurd (omega arith)

  module _ (h : Nodes) (m : Member) (made : IsMade c g h m) (number : m.number ≡ i) (at : slice_get rels i ≡ Some m.rel.now) (member : is_member text m.rel.now ≡ true) where
    old : (types : Solution) → HasTypes h types → HasTypes g types
    old = made.grows.kept.restricts

    listed-before : (k : ℕ) (d : Member) → k < length ms → IsListed c rels text h (nodes ++ Some m.node ∷ []) (get_or ms k d)
    listed-before k d lt =
        let l = b.listed k d lt in
        record {
          there = l.there;
          member = l.member;
          noded = entry-before nodes (Some m.node ∷ []) (get_or ms k d).number (entry-within nodes (get_or ms k d).number (get_or ms k d).node l.noded) ∙ l.noded;
          held = held-later c g h (get_or ms k d) made.grows.kept.count old l.held;
        }

    listed-now : IsListed c rels text h (nodes ++ Some m.node ∷ []) m
    listed-now = record {
      there = ap (slice_get rels) number ∙ at;
      member = member;
      noded = entry-at nodes (Some m.node) m.number (number ∙ sym b.count);
      held = made.held;
    }

    told-more : (r n : ℕ) → entry (nodes ++ Some m.node ∷ []) r ≡ Some n → (q : Member) × Contains (ms ++ m ∷ []) q × (q.number ≡ r) × (q.node ≡ n)
    told-more r n e = on (where-is r (length nodes)) where
      on : Where r (length nodes) → (q : Member) × Contains (ms ++ m ∷ []) q × (q.number ≡ r) × (q.node ≡ n)
      on (Where.before lt) = (let t = b.told r n (sym (entry-before nodes (Some m.node ∷ []) r lt) ∙ e) in (t.0, Contains-append_left ms (m ∷ []) t.0 t.1, t.2, t.3))
      on (Where.equals equal) = (m, Contains-push ms m, number ∙ sym b.count ∙ sym equal, some-of m.node n (sym (entry-at nodes (Some m.node) r equal) ∙ e))
      on (Where.past lt) = absurd (some-none (entry (nodes ++ Some m.node ∷ []) r) n e (entry-past (nodes ++ Some m.node ∷ []) r (let l = length-append nodes (Some m.node ∷ []) in omega arith)))

    every-more : (r : ℕ) (q : RelDef) → r < i + 1 → slice_get rels r ≡ Some q → is_member text q ≡ true → IsAmong (ms ++ m ∷ []) r q
    every-more r q lt e is = on (where-is r i) where
      on : Where r i → IsAmong (ms ++ m ∷ []) r q
      on (Where.before less) = (let a = b.every r q less e is in record { member = a.member; among = Contains-append_left ms (m ∷ []) a.member a.among; number = a.number; is = a.is })
      on (Where.equals equal) = record { member = m; among = Contains-push ms m; number = number ∙ sym equal; is = some-of m.rel.now q (sym at ∙ ap (slice_get rels) (sym equal) ∙ e) }
      on (Where.past more) = absurd (omega arith)

    any-more : (S : GroupTypes) → All (λ (q : Member). CanBe c q.rel.now (S q.number)) (ms ++ m ∷ [])
        → (types : Solution) × HasTypes h types × All (λ (q : Member). types q.node ≡ coded c (as_type (S q.number))) (ms ++ m ∷ [])
    any-more S all =
        let before = b.any S (all-front (λ (q : Member). CanBe c q.rel.now (S q.number)) ms m all) in
        let now = made.any before.0 (S m.number) before.1 (all-last (λ (q : Member). CanBe c q.rel.now (S q.number)) ms m all) in (
          now.0,
          now.1.has,
          All-push (λ (q : Member). now.0 q.node ≡ coded c (as_type (S q.number))) ms m (λ k d lt. now.1.same (get_or ms k d).node (b.listed k d lt).held.node ∙ before.2 k d lt) now.2,
        )

    -- and one of the group, with its nodes
    pub begins-member : (all : List Member) (later : List (Option ℕ)) → all ≡ ms ++ m ∷ [] → later ≡ nodes ++ Some m.node ∷ [] → Begins c rels text (i + 1) h all later
    begins-member all later all-are later-is =
        subst (λ (xs : List Member). Begins c rels text (i + 1) h xs later) (sym all-are) (subst (λ (xs : List (Option ℕ)). Begins c rels text (i + 1) h (ms ++ m ∷ []) xs) (sym later-is) (record {
          live = made.grows.kept.failed ∙ b.live;
          unfixed = made.grows.unfixed b.unfixed;
          count = (let l = length-append nodes (Some m.node ∷ []) in let k = b.count in omega arith);
          listed = All-push (IsListed c rels text h (nodes ++ Some m.node ∷ [])) ms m listed-before listed-now;
          told = told-more;
          every = every-more;
          any = any-more;
        }))

  -- ---- what the beginning tells

  none-there : (x n : ℕ) → slice_get [] x ≡ Some n → ⊥
  none-there x n e = cc

  listed-of : (r n : ℕ) → entry nodes r ≡ Some n → (m : Member) × IsListed c rels text g nodes m × (m.node ≡ n)
  listed-of r n e = (let t = b.told r n e in (t.0, All-contains (IsListed c rels text g nodes) ms t.0 b.listed t.1, t.3))

  pub begins-within : IsWithin c (watch nodes) g
  begins-within = record {
    vars = λ x n e. absurd (none-there x n e);
    group = λ r n e. (let t = listed-of r n e in subst (λ (k : ℕ). k < length g.forms) t.2 t.1.held.node);
    relations = λ r n e types has. (let t = listed-of r n e in subst (λ (k : ℕ). decoded c (types k) ≡ as_type (sides (out-SchemeTree (decoded c (types k))))) t.2 (own t.0 t.1 types has));
  }
    where
      own : (m : Member) → IsListed c rels text g nodes m → (types : Solution) → HasTypes g types → decoded c (types m.node) ≡ as_type (sides (out-SchemeTree (decoded c (types m.node))))
      own m l types has =
          let e = l.held.sound types has in
          e ∙ sym (ap as_type (ap (λ (t : SchemeTree). sides (out-SchemeTree t)) e ∙ sides-of _ _))

  abbrev pub untold : GroupTypes → Told
  untold S = record { vars = λ x. unit; group = S }

  -- types of the relations are told by types of their nodes
  pub begins-tells : (types : Solution) (S : GroupTypes) → All (λ (m : Member). types m.node ≡ coded c (as_type (S m.number))) ms → Tells c (watch nodes) types (untold S)
  begins-tells types S all = record {
    vars = λ x n e. absurd (none-there x n e);
    past = λ x e. refl;
    group = λ r n e. (
        let t = b.told r n e in
        sym (ap types t.3) ∙ All-contains (λ (m : Member). types m.node ≡ coded c (as_type (S m.number))) ms t.0 all t.1 ∙ ap (λ (k : ℕ). coded c (as_type (S k))) t.2);
  }
