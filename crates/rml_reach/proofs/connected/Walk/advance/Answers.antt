use Rattle.std.proofs.Common.{◌≡◌, ◌≤◌, ◌-◌, ◌++◌, ◌∷◌, [], ℕ, suc, length, arith, subst, ◌∙◌, ap, None, List, length-append}
use Rattle.std.proofs.lemmas.List.Elements.{Contains-push}
use Rattle.rml_reach.specs.Components.{IsWay, wait, way}
use Rattle.rml_reach.specs.declared.connected.Part.{Part}
use Rattle.rml_reach.proofs.Ways.{all-reach, taken}
use Rattle.rml_reach.proofs.connected.Walk.advance.Goals as goal

module _ (c : goal.After-meet-arg-1) where
  abbrev at : ℕ
  at = c.len-last.result - 1

  abbrev parts : List Part
  parts = c.args.self.now.parts.items

  before : IsWay c.args.edges.now (way c.args.self.now.marks.items c.args.self.now.nodes.items (c.pop.new.self.items ++ c.in-Some.node ∷ []) parts) None
  before = subst (λ (ns : List ℕ). IsWay c.args.edges.now (way c.args.self.now.marks.items c.args.self.now.nodes.items ns parts) None) c.in-Some.ensures.items c.requires.way

  last : suc at ≡ length parts
  last = let l = c.args.self.now.parts.ok.0 in omega (arith, l, c.requires.some, c.len-last.ensures)

  above : wait parts at ≤ length c.pop.new.self.items
  above =
      let l = c.args.self.now.waiting.ok.0 in
      let w : c.part_at-part.result.waiting ≡ wait parts at = c.part_at-part.ensures.waiting ∙ ap (λ (ps : List Part). wait ps at) c.as_slice.ensures.value in
      let n = ap (λ (ns : List ℕ). length ns) c.in-Some.ensures.items in
      omega (arith, l, w, n, length-append c.pop.new.self.items (c.in-Some.node ∷ []), c.if-len-part.false, c.len.ensures)

pub meet-requires-clause-way : goal.meet-requires-clause-way
meet-requires-clause-way c = taken c.args.edges.now c.args.self.now.marks.items c.args.self.now.nodes.items c.pop.new.self.items (parts c) c.in-Some.node (at c) (before c) (last c) (above c)

pub meet-requires-clause-known : goal.meet-requires-clause-known
meet-requires-clause-known c = (before c).within c.in-Some.node (Contains-push c.pop.new.self.items c.in-Some.node)

pub meet-requires-clause-reach : goal.meet-requires-clause-reach
meet-requires-clause-reach c = all-reach c.args.edges.now c.args.self.now.marks.items c.args.self.now.nodes.items c.pop.new.self.items (parts c) c.in-Some.node (at c) (before c) (last c) (above c)
