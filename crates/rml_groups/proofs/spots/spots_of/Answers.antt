use Rattle.std.proofs.Common.{◌≡◌, ◌+◌, ◌++◌, List, Some, Vec, map, sym, ap, ◌∙◌}
use Rattle.std.specs.Prelude.{slice_get}
use Rattle.std.specs.declared.alloc.Global.{Global}
use Rattle.std.proofs.lemmas.Option.{slice_get-get_or}
use Rattle.rml_resolved.specs.declared.tables.RRule.{RRule}
use Rattle.rml_groups.specs.declared.spots.Spot.{Spot}
use Rattle.rml_groups.specs.Spots.{spot_of}
use Rattle.rml_groups.proofs.Spotted.{spots-all, spots-member, spots-none, spots-same, spots-other}
use Rattle.rml_groups.proofs.spots.spots_of.Goals as goal
use Rattle.rml_groups.proofs.spots.spots_of.Goals.{then-is_member+in_ok-add_spots, else-is_member}

pub loop-rel-init : goal.loop-rel-init
loop-rel-init c = spots-none c.args.unit.now.rels.now c.args.unit.now.number c.new-spots.result.items c.new-spots.ensures.items

pub loop-rel-preserved : goal.loop-rel-preserved
loop-rel-preserved c =
    let rels = c.args.unit.now.rels.now in let text = c.args.unit.now.number in let i = c.loop-rel.rel-index in let rel = c.rel-item.result in
    let at : slice_get rels i ≡ Some rel = slice_get-get_or rels i rel c.loop-rel-test.true ∙ ap Some (sym c.rel-item.is) in
    elim c.if-is_member.branch [
      | then-is_member+in_ok-add_spots w ↦
          spots-member rels text i rel at c.loop-rel.spots.items c.loop-rel.invariant (sym c.is_member.ensures ∙ w.if-is_member.true) c.if-is_member.spots.items
          (ap (λ (v : Vec Spot Global). v.items) w.spots-is ∙ w.in_ok-add_spots.ensures ∙ ap (λ (rules : List RRule). c.loop-rel.spots.items ++ map spot_of rules) w.as_slice.ensures)
      | else-is_member w ↦
          spots-same rels text (i + 1) c.loop-rel.spots.items c.if-is_member.spots.items (ap (λ (v : Vec Spot Global). v.items) w.spots-is)
          (spots-other rels text i rel at c.loop-rel.spots.items c.loop-rel.invariant (sym c.is_member.ensures ∙ w.if-is_member.false))
    ]

pub returns : goal.returns
returns c = spots-all c.args.unit.now.rels.now c.args.unit.now.number c.loop-rel.rel-index c.loop-rel.spots.items c.loop-rel-test.false c.loop-rel.invariant
