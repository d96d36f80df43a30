use Rattle.std.proofs.Common.{◌≡◌, ◌+◌, ℕ, Option, Some, Vec, sym, ap, subst, ◌∙◌}
use Rattle.std.specs.Prelude.{slice_get}
use Rattle.std.specs.declared.alloc.Global.{Global}
use Rattle.std.proofs.lemmas.Option.{slice_get-get_or}
use Rattle.rml_types.specs.Nodes.{Nodes}
use Rattle.rml_groups.specs.declared.members.Member.{Member}
use Rattle.rml_groups.specs.Groups.{is_member}
use Rattle.rml_groups.specs.Members.{IsMade}
use Rattle.rml_groups.proofs.Beginning.{begins-member, begins-none, begins-other, begins-same}
use Rattle.rml_groups.proofs.members.begin.Goals as goal
use Rattle.rml_groups.proofs.members.begin.Goals.{then-is_member+in_ok-member+in_ok-push+in_ok-push-2, else-is_member+in_ok-push-3}

pub loop-number-init : goal.loop-number-init
loop-number-init c = begins-none c.args.coding c.args.unit.now.rels.now c.args.unit.now.number c.args.graph.now c.new-members.result.items c.new-nodes.result.items c.requires c.new-members.ensures.items c.new-nodes.ensures.items

pub loop-number-preserved : goal.loop-number-preserved
loop-number-preserved c =
    let k = c.args.coding in let rels = c.args.unit.now.rels.now in let text = c.args.unit.now.number in let i = c.loop-number.number in let g = c.loop-number.graph in let ms = c.loop-number.members.items in
    let nodes = c.loop-number.nodes.items in let rel = c.rel-item.result in
    let at : slice_get rels i ≡ Some rel = slice_get-get_or rels i rel c.loop-number-test.true ∙ ap Some (sym c.rel-item.is) in
    elim c.if-is_member.branch [
      | then-is_member+in_ok-member+in_ok-push+in_ok-push-2 w ↦
          let m = w.in_ok-member.member in
          let is : m.rel.now ≡ rel = w.in_ok-member.ensures.number.1 in
          begins-member k rels text i g ms nodes c.loop-number.invariant c.if-is_member.graph m (subst (λ (h : Nodes). IsMade k g h m) (sym w.graph-is) w.in_ok-member.ensures.made) w.in_ok-member.ensures.number.0
          (at ∙ ap Some (sym is)) (ap (is_member text) is ∙ sym c.is_member.ensures ∙ w.if-is_member.true) c.if-is_member.members.items c.if-is_member.nodes.items
          (ap (λ (v : Vec Member Global). v.items) w.members-is ∙ w.in_ok-push-2.ensures.items) (ap (λ (v : Vec (Option ℕ) Global). v.items) w.nodes-is ∙ w.in_ok-push.ensures.items)
      | else-is_member+in_ok-push-3 w ↦
          begins-same k rels text (i + 1) g c.if-is_member.graph ms c.if-is_member.members.items c.if-is_member.nodes.items w.graph-is (ap (λ (v : Vec Member Global). v.items) w.members-is)
          (begins-other k rels text i g ms nodes c.loop-number.invariant rel c.if-is_member.nodes.items at (sym c.is_member.ensures ∙ w.if-is_member.false)
          (ap (λ (v : Vec (Option ℕ) Global). v.items) w.nodes-is ∙ w.in_ok-push-3.ensures.items))
    ]
