use Rattle.std.proofs.Common.{◌≡◌, ℕ, List, Option, ◌∙◌, ap, length, subst, sym, take}
use Rattle.std.specs.Prelude.{All}
use Rattle.rml_types.specs.declared.tree.SchemeTree.{SchemeTree}
use Rattle.rml_types.specs.Runs.{Fresh}
use Rattle.rml_typed.specs.Parts.{PieceOf, pieces}
use Rattle.rml_generator.specs.Adds.{Bare, Finds, Told, no_node}
use Rattle.rml_groups.specs.Groups.{FirstTypedWith, reads_with, uses_with}
use Rattle.rml_groups.specs.Members.{watch}
use Rattle.rml_groups.proofs.Forgotten.{Seen, forgotten}
use Rattle.rml_groups.proofs.Held.{gives-inputs, gives-outputs, held-later}
use Rattle.rml_groups.proofs.equations.rule_equations.Goals as goal

pub returns : goal.returns
returns c =
    let k = c.args.coding in let nodes = c.args.nodes.now in let m = c.args.member.now in let u = c.args.unit.now in let rule = c.args.rule.now in
    let g = c.args.graph.now in let h = c.fresh.new.graph in let i = c.first_parts.new.graph in let vs = c.deref.result.now in let table = c.of_module.result.now in
    let grows = c.in_ok-variables.ensures.grows in
    let fresh = subst (Fresh g h) (sym c.deref.ensures.value) c.in_ok-variables.ensures.ok in
    let count : length vs ≡ rule.vars = ap (λ (l : List ℕ). length l) c.deref.ensures.value ∙ c.in_ok-variables.ensures.count in
    let held = held-later k g h m grows.kept.count grows.kept.restricts c.requires.held in
    let P : Told → Type 0 = λ told. All (PieceOf (reads_with u table) (uses_with u table nodes told.group) (told.group m.number) told.vars) (take c.args.count (pieces rule)) in
    let seen = Seen k nodes vs rule.vars count g h grows fresh c.requires.within in
    subst (λ (t : List (Option SchemeTree)). Finds no_node k (watch nodes) g i (Bare (λ told. FirstTypedWith u t nodes told.group (told.group m.number) rule c.args.count)) c.first_parts.result) c.of_module.ensures
    (forgotten k nodes vs rule.vars count g h grows fresh c.requires.within i P c.first_parts.result
    (c.first_parts.ensures (λ told. told.group m.number) (gives-inputs k seen h m held c.requires.noded) (gives-outputs k seen h m held c.requires.noded)))
