-- The general types that are read off a graph in which a whole group is typed are those of its relations.
use Rattle.std.proofs.Common.{◌≡◌, ◌↔◌, ℕ, zero, suc, ◌+◌, ◌<◌, ◌≤◌, List, [], ◌∷◌, ◌++◌, length, get_or, take, Option, Some, None, refl, sym, ap, subst, ◌∙◌, arith}
use Rattle.std.specs.Prelude.{IfNone, IfSome, unwrap_or, Vec}
use Rattle.std.specs.declared.alloc.Global.{Global}
use Rattle.std.specs.List.{AllByRecursion, AllZip, Contains}
use Rattle.std.proofs.lemmas.List.Elements.{All-contains, All-from_recursion, Contains-get_or, recursion_from_All}
use Rattle.rml_base.specs.declared.limits.TheConstants.{TYPES}
use Rattle.rml_types.specs.declared.scheme.Scheme.{Scheme}
use Rattle.rml_types.specs.declared.tree.SchemeTree.{SchemeTree, out-SchemeTree}
use Rattle.rml_types.specs.Finite.{HasTypes, nodes as nodes_of}
use Rattle.rml_types.specs.General.{HasType, IsGeneral, IsNumbered, IsWide}
use Rattle.rml_types.specs.Nodes.{Nodes}
use Rattle.rml_types.proofs.Callers.{body-instance}
use Rattle.rml_resolved.specs.declared.parts.Parts.{Parts}
use Rattle.rml_typed.specs.Parts.{as_type, sides}
use Rattle.rml_typed.specs.Units.{GroupTyped, GroupTypes, InGroup, IsGeneralType, outside}
use Rattle.rml_equations.specs.declared.coding.Coding.TheVariants.{Plain}
use Rattle.rml_equations.specs.Coding.{decoded}
use Rattle.rml_equations.proofs.Callers.{Solution}
use Rattle.rml_generator.proofs.Callers.{take-next}
use Rattle.rml_generator.specs.Adds.{Adds, Bare, Refutes, told_by}
use Rattle.rml_groups.specs.declared.extent.Extent.TheVariants as extent
use Rattle.rml_groups.specs.declared.general.Inferred.{Inferred}
use Rattle.rml_groups.specs.declared.members.Member.{Member}
use Rattle.rml_groups.specs.declared.unit.Unit.{Unit}
use Rattle.rml_groups.specs.Found.{AreGeneral, AreInferred, IsReadOff, IsTypeOf, IsTypeOfRelation}
use Rattle.rml_groups.specs.Groups.{IsGroupOf}
use Rattle.rml_groups.specs.Members.{Begins, MembersTyped, watch}
use Rattle.rml_groups.specs.Spots.{CanBeTyped}
use Rattle.rml_groups.proofs.Beginning.{begins-tells, begins-within, untold}
use Rattle.rml_groups.proofs.Carried.{among-of, group-of, listed-at, members-back, members-there}
use Rattle.rml_groups.proofs.Counted.{counted}

-- ---- two lists side by side

module _ {X Y : Type 0} (R : X → Y → Type 0) where
  pub zip-push : (xs : List X) (x : X) (ys : List Y) (y : Y) → AllZip R xs ys → R x y → AllZip R (xs ++ x ∷ []) (ys ++ y ∷ [])
  zip-push [] x [] y z r = (r, tt)
  zip-push [] x (v ∷ ys) y z r = absurd z
  zip-push (u ∷ xs) x [] y z r = absurd z
  zip-push (u ∷ xs) x (v ∷ ys) y z r = (z.0, zip-push xs x ys y z.1 r)

  -- what holds of all on one side tells what holds of all on the other
  zip-right : (P : X → Type 0) (Q : Y → Type 0) → ((x : X) (y : Y) → P x → R x y → Q y) → (xs : List X) (ys : List Y) → AllByRecursion P xs → AllZip R xs ys → AllByRecursion Q ys
  zip-right P Q says [] [] a z = tt
  zip-right P Q says [] (y ∷ ys) a z = absurd z
  zip-right P Q says (x ∷ xs) [] a z = absurd z
  zip-right P Q says (x ∷ xs) (y ∷ ys) a z = (says x y a.0 z.0, zip-right P Q says xs ys a.1 z.1)

  zip-there : (xs : List X) (ys : List Y) (x : X) → AllZip R xs ys → Contains xs x → (y : Y) × Contains ys y × R x y
  zip-there [] ys x z (k, l, e) = absurd (omega arith)
  zip-there (u ∷ xs) [] x z c = absurd z
  zip-there (u ∷ xs) (y ∷ ys) x z (zero, l, e) = (y, (0, omega arith, refl), subst (λ v. R v y) e z.0)
  zip-there (u ∷ xs) (y ∷ ys) x z (suc k, l, e) = (let t = zip-there xs ys x z.1 (k, omega arith, e) in (t.0, (let lt = t.1.1 in (suc t.1.0, omega arith, t.1.2)), t.2))

-- ---- one node after another

pub type-of : (g h : Nodes) (node : ℕ) (o : Option Scheme) → h ≡ g → IfSome o (λ s. IsGeneral h node s.body) → IfSome o (λ s. IsNumbered s.vars s.body) → IfSome o (λ s. nodes_of s.body ≤ TYPES) → IfNone o (IsWide h node TYPES)
    → IsTypeOf g node o
type-of g h node (Some s) same general numbered narrow wide = (subst (λ (n : Nodes). IsGeneral n node s.body) same general, numbered, narrow)
type-of g h node None same general numbered narrow wide = subst (λ (n : Nodes). IsWide n node TYPES) same wide

pub read-next : (g : Nodes) (ms : List Member) (i : ℕ) (m : Member) (all later : List Inferred) (one : Inferred) → i < length ms → m ≡ get_or ms i m → later ≡ all ++ one ∷ [] → AllZip (IsReadOff g) (take i ms) all
    → IsReadOff g m one → AllZip (IsReadOff g) (take (i + 1) ms) later
read-next g ms i m all later one lt is later-is read off =
    subst (λ (xs : List Inferred). AllZip (IsReadOff g) (take (i + 1) ms) xs) (sym later-is)
    (subst (λ (xs : List Member). AllZip (IsReadOff g) xs (all ++ one ∷ [])) (sym (take-next ms i m lt is)) (zip-push (IsReadOff g) (take i ms) m all one read off))

module _ (p : Parts) (text : ℕ) (u : Unit) (is : IsGroupOf p text u) (g : Nodes) (ms : List Member) (nodes : List (Option ℕ)) (b : Begins Plain u.rels.now u.number (length u.rels.now) g ms nodes) where
  -- no finite types allow the equations of all rules, so none type the group
  pub refuted : Refutes Plain (watch nodes) g (Bare (λ told. MembersTyped u nodes told.group extent.All ms)) → CanBeTyped p text extent.All → ⊥
  refuted none typed =
      let S = typed.0 in
      let t = b.any S (counted p text u is g ms nodes b S typed.1) in
      none t.0 (untold Plain u.rels.now u.number (length u.rels.now) g ms nodes b S) [] t.1 (begins-tells Plain u.rels.now u.number (length u.rels.now) g ms nodes b t.0 S t.2)
      (refl, members-back p text u is Plain g ms nodes b S extent.All typed.1)

module _ (p : Parts) (text : ℕ) (u : Unit) (is : IsGroupOf p text u) (g h : Nodes) (ms : List Member) (nodes : List (Option ℕ)) (b : Begins Plain u.rels.now u.number (length u.rels.now) g ms nodes)
    (a : Adds Plain (watch nodes) g h (Bare (λ told. MembersTyped u nodes told.group extent.All ms)) []) where
  typed-by : (types : Solution) → HasTypes h types → GroupTyped p text ((told_by Plain (watch nodes) types).group)
  typed-by types has = members-there p text u is Plain g ms nodes b ((told_by Plain (watch nodes) types).group) extent.All (a.sound types has).1

  -- types of the group are types of a graph
  types-by : (S : GroupTypes) → GroupTyped p text S → (later : Solution) × HasTypes h later × ((m : Member) → Contains ms m → later m.node ≡ as_type (S m.number))
  types-by S typed =
      let t = b.any S (counted p text u is g ms nodes b S typed) in
      let l = a.complete t.0 (untold Plain u.rels.now u.number (length u.rels.now) g ms nodes b S) [] t.1 (begins-tells Plain u.rels.now u.number (length u.rels.now) g ms nodes b t.0 S t.2)
      (refl, members-back p text u is Plain g ms nodes b S extent.All typed) in
      (l.0, l.1.has, λ m among. l.1.same m.node (listed-at p text u is Plain g ms nodes b m among).held.node ∙ All-contains (λ (q : Member). t.0 q.node ≡ as_type (S q.number)) ms m t.2 among)

  pub no-types : (((types : Solution) × HasTypes h types) → ⊥) → CanBeTyped p text extent.All → ⊥
  no-types none typed = (let l = types-by typed.0 typed.1 in none (l.0, l.1))

  module _ (m : Member) (among : Contains ms m) where
    -- the types of a relation's node are those that it has outside the group
    types-are : (t : SchemeTree) → HasType h m.node t ↔ outside p text m.number t
    types-are t = (
      λ has. ((told_by Plain (watch nodes) has.0).group, typed-by has.0 has.1, sym has.2 ∙ own has.0 (a.old has.0 has.1)),
      λ out. (let l = types-by out.0 out.1 in (l.0, l.1, l.2 m among ∙ sym out.2)),
    )
      where
        own : (types : Solution) → HasTypes g types → types m.node ≡ as_type ((told_by Plain (watch nodes) types).group m.number)
        own types has =
            let l = listed-at p text u is Plain g ms nodes b m among in
            (begins-within Plain u.rels.now u.number (length u.rels.now) g ms nodes b).relations m.number m.node l.noded types has
            ∙ ap (λ (o : Option ℕ). as_type (sides (out-SchemeTree (decoded Plain (types (unwrap_or o 0)))))) (sym l.noded)

    general-is : (body : SchemeTree) → IsGeneral h m.node body → IsGeneralType p text m.number body
    general-is body general t = (λ i. (types-are t).0 ((general t).0 i), λ o. (general t).1 ((types-are t).1 o))

    type-is : (o : Option Scheme) → IsTypeOf h m.node o → IsTypeOfRelation p text m.number o
    type-is (Some s) i = (general-is s.body i.0, i.1, i.2)
    type-is None i = (i.general, general-is i.general i.is, i.wide i.general ((i.is i.general).0 (body-instance i.general)))

  -- the types that were read off are those of the relations of the group
  pub are-inferred : (all : List Inferred) → AllZip (IsReadOff h) ms all → AreInferred p text all
  are-inferred all z = record {
    each = All-from_recursion (λ (i : Inferred). InGroup p text i.rel × IsTypeOfRelation p text i.rel i.scheme) all
        (zip-right (IsReadOff h) (Contains ms) (λ (i : Inferred). InGroup p text i.rel × IsTypeOfRelation p text i.rel i.scheme) each ms all (recursion_from_All (Contains ms) ms (λ k d lt. Contains-get_or ms k d lt)) z);
    every = λ r q. (
        let m = among-of p text u is Plain g ms nodes b r q in
        let t = zip-there (IsReadOff h) ms all m.member z m.among in
        (t.0, t.1, t.2.0 ∙ m.number));
  }
    where
      each : (m : Member) (i : Inferred) → Contains ms m → IsReadOff h m i → InGroup p text i.rel × IsTypeOfRelation p text i.rel i.scheme
      each m i among r =
          subst (λ (n : ℕ). InGroup p text n × IsTypeOfRelation p text n i.scheme) (sym r.0) (group-of p text u is Plain g ms nodes b m among, type-is m among i.scheme r.1)

  pub general-found : ((types : Solution) × HasTypes h types) → (all : Vec Inferred Global) → AllZip (IsReadOff h) ms all.items → AreGeneral p text (Some all)
  general-found t all z = (((told_by Plain (watch nodes) t.0).group, typed-by t.0 t.1), are-inferred all.items z)
