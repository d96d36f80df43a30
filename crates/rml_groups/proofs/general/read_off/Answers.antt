use Rattle.std.proofs.Common.{ℕ, ◌∙◌, refl, sym, subst}
use Rattle.rml_types.specs.declared.tree.SchemeTree.{SchemeTree}
use Rattle.rml_types.specs.Finite.{HasTypes}
use Rattle.rml_types.specs.Nodes.{Nodes}
use Rattle.rml_groups.proofs.ReadOff.{read-next, type-of}
use Rattle.rml_groups.proofs.general.read_off.Goals as goal

pub general-requires-clause-finite : goal.general-requires-clause-finite
general-requires-clause-finite c = subst (λ (g : Nodes). (types : ℕ → SchemeTree) × HasTypes g types) (sym c.loop-member.invariant.same) c.requires.finite

pub loop-member-preserved : goal.loop-member-preserved
loop-member-preserved c =
    let e = c.in_ok-scheme.ensures in record {
      same = c.general.ensures.same ∙ c.loop-member.invariant.same;
      read = read-next c.args.graph.now c.args.members.now c.loop-member.member-index c.member-item.result c.loop-member.all.items c.push.new.self.items _ c.loop-member-test.true c.member-item.is c.in_ok-push.ensures.items
          c.loop-member.invariant.read (refl, type-of c.args.graph.now c.loop-member.graph c.member-item.result.node c.in_ok-scheme.scheme c.loop-member.invariant.same e.general e.numbered e.narrow e.wide);
    }
