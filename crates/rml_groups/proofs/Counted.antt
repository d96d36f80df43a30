-- A group that is typed is typed by relation types that have the counts of each relation's first rule.
use Rattle.std.proofs.Common.{◌≡◌, ℕ, suc, ◌<◌, List, [], ◌∷◌, ◌++◌, map, length, get_or, Option, refl, ap, subst, arith, ltb-true}
use Rattle.std.specs.Prelude.{All, slice_get}
use Rattle.std.specs.List.{Contains}
use Rattle.std.proofs.lemmas.List.{take_all}
use Rattle.std.proofs.lemmas.List.Elements.{All-contains, All-head, Contains-append_right, Contains-get_or}
use Rattle.rml_types.specs.declared.tree.SchemeTree.{SchemeTree}
use Rattle.rml_types.specs.Nodes.{Nodes}
use Rattle.rml_resolved.specs.declared.parts.Parts.{Parts}
use Rattle.rml_resolved.specs.declared.tables.RRule.{RRule}
use Rattle.rml_resolved.specs.declared.trees.RPat.{RPat}
use Rattle.rml_resolved.specs.declared.trees.RExp.{RExp}
use Rattle.rml_typed.specs.Typed.{Assigned, Declared, Uses, PatternsOf, ExpsOf}
use Rattle.rml_typed.specs.Parts.{RelType, Piece, PieceOf, RuleTyped, head, premise, results, pieces}
use Rattle.rml_typed.specs.Units.{GroupTyped, GroupTypes, Used, declared, inside}
use Rattle.rml_equations.specs.declared.coding.Coding.TheVariants.{Plain}
use Rattle.rml_groups.specs.declared.members.Member.{Member}
use Rattle.rml_groups.specs.declared.unit.Unit.{Unit}
use Rattle.rml_groups.specs.Groups.{IsGroupOf, rule_inputs, rule_outputs}
use Rattle.rml_groups.specs.Members.{Begins, CanBe}
use Rattle.rml_groups.proofs.Carried.{group-of, relation-fit}

patterns-count : (d : Declared) (G : Assigned) (ps : List RPat) (ts : List SchemeTree) → PatternsOf d G ps ts → length ts ≡ length ps
patterns-count d G ps ts PatternsOf.none = refl
patterns-count d G ps ts (PatternsOf.more p t qs us h k) = ap suc (patterns-count d G qs us k)

exps-count : (d : Declared) (may : Uses) (G : Assigned) (es : List RExp) (ts : List SchemeTree) → ExpsOf d may G es ts → length ts ≡ length es
exps-count d may G es ts ExpsOf.none = refl
exps-count d may G es ts (ExpsOf.more e t fs us h k) = ap suc (exps-count d may G fs us k)

-- a rule that is typed has as many inputs and results as its relation's type
rule-counts : (d : Declared) (may : Uses) (k : RelType) (rule : RRule) → RuleTyped d may k rule → (length k.inputs ≡ length rule.inputs) × (length k.outputs ≡ length rule.results)
rule-counts d may k rule h =
    let P : Piece → Type 0 = PieceOf d may k h.0 in
    let all : All P (pieces rule) = subst (All P) (take_all (length (pieces rule)) (pieces rule) (omega arith)) h.1 in
    let last : Contains (pieces rule) (results rule.results) = Contains-append_right (head rule.inputs ∷ map premise rule.goals) (results rule.results ∷ []) (results rule.results) (0, omega arith, refl) in (
      patterns-count d h.0 rule.inputs k.inputs (All-head P (head rule.inputs) (map premise rule.goals ++ results rule.results ∷ []) all),
      exps-count d may h.0 rule.results k.outputs (All-contains P (pieces rule) (results rule.results) all last),
    )

-- the first rule is one of the relation's
of-first : (rules : List RRule) (k : RelType) → 0 < length rules → ((rule : RRule) → Contains rules rule → (length k.inputs ≡ length rule.inputs) × (length k.outputs ≡ length rule.results))
    → (length k.inputs ≡ rule_inputs (slice_get rules 0)) × (length k.outputs ≡ rule_outputs (slice_get rules 0))
of-first [] k some all = absurd (omega arith)
of-first (rule ∷ rules) k some all = all rule (0, omega arith, refl)

pub counted : (p : Parts) (text : ℕ) (u : Unit) (is : IsGroupOf p text u) (g : Nodes) (ms : List Member) (nodes : List (Option ℕ)) → Begins Plain u.rels.now u.number (length u.rels.now) g ms nodes
    → (S : GroupTypes) → GroupTyped p text S → All (λ (m : Member). CanBe Plain m.rel.now (S m.number)) ms
counted p text u is g ms nodes b S typed k d lt =
    let m = get_or ms k d in
    let q = group-of p text u is Plain g ms nodes b m (Contains-get_or ms k d lt) in
    let some = (relation-fit p text u is m.number m.rel.now q.there).0 in
    of-first m.rel.now.rules (S m.number) (ltb-true 0 (length m.rel.now.rules) some)
    (λ rule among. rule-counts (declared p m.rel.now.«module») (Used p text m.rel.now.«module» (inside S)) (S m.number) rule (typed m.number q rule among))
