use Rattle.std.proofs.Common.{◌≡◌, ℕ, length, arith, sym, subst, ◌∙◌, ap, None, List, take}
use Rattle.std.specs.Prelude.{slice_index}
use Rattle.std.proofs.lemmas.List.{length-take-le}
use Rattle.rml_reach.specs.Components.{Closes, IsWay, start, way}
use Rattle.rml_reach.specs.declared.connected.Mark.{Mark}
use Rattle.rml_reach.specs.declared.connected.Part.{Part}
use Rattle.rml_reach.proofs.Closing.{left-open}
use Rattle.rml_reach.proofs.Counting.{left-after}
use Rattle.rml_reach.proofs.connected.Walk.leave.Goals as goal

module _ (c : goal.After-truncate-2) where
  abbrev marks : List Mark
  marks = c.args.self.now.marks.items

  abbrev nodes : List ℕ
  nodes = c.args.self.now.nodes.items

  abbrev parts : List Part
  parts = c.args.self.now.parts.items

  chosen-is : c.node_at-chosen.result ≡ slice_index nodes c.args.from
  chosen-is = c.node_at-chosen.ensures ∙ ap (λ (ns : List ℕ). slice_index ns c.args.from) c.as_slice.ensures.value

  closes : Closes marks c.close.new.marks.items nodes (start parts c.args.last) (length nodes) (slice_index nodes (start parts c.args.last))
  closes =
      let here = subst (λ (ns : List ℕ). Closes marks c.close.new.marks.items ns c.args.from (length ns) c.node_at-chosen.result) c.as_slice-2.ensures.value c.close.ensures in
      let root = subst (λ (n : ℕ). Closes marks c.close.new.marks.items nodes c.args.from (length nodes) n) chosen-is here in
      subst (λ (from : ℕ). Closes marks c.close.new.marks.items nodes from (length nodes) (slice_index nodes from)) c.requires.from root

  nodes-left : take (start parts c.args.last) nodes ≡ c.truncate.new.self.items
  nodes-left = ap (λ (n : ℕ). take n nodes) (sym c.requires.from) ∙ sym c.truncate.ensures.items

pub returns-clause-way : goal.returns-clause-way
returns-clause-way c =
    let left = left-open c.args.edges.now (marks c) (nodes c) c.args.self.now.waiting.items (parts c) c.requires.way c.args.last (omega (arith, c.requires.last)) c.requires.alone c.close.new.marks.items (closes c) in
    subst (λ (ps : List Part). IsWay c.args.edges.now (way c.close.new.marks.items c.truncate.new.self.items c.args.self.now.waiting.items ps) None) (sym c.truncate-2.ensures.items)
    (subst (λ (ns : List ℕ). IsWay c.args.edges.now (way c.close.new.marks.items ns c.args.self.now.waiting.items (take c.args.last (parts c))) None) (nodes-left c) left)

pub returns-clause-falls : goal.returns-clause-falls
returns-clause-falls c =
    let same = left-after (marks c) c.close.new.marks.items (nodes c) (start (parts c) c.args.last) (slice_index (nodes c) (start (parts c) c.args.last)) c.requires.way.laid (closes c) c.args.edges.now in
    let fewer : length c.truncate-2.new.self.items ≡ c.args.last = ap (λ (ps : List Part). length ps) c.truncate-2.ensures.items ∙ length-take-le c.args.last (parts c) (omega (arith, c.requires.last)) in
    omega (arith, same, fewer, c.requires.last)
