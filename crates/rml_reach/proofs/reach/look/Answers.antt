use Rattle.std.proofs.Common.{◌≡◌, ◌≤◌, ◌+◌, ◌++◌, [], true, ap, sym, ◌∙◌, arith, subst, List, ℕ, length, get_or}
use Rattle.std.proofs.Math.ListN.{set}
use Rattle.rml_reach.specs.Left.{left}
use Rattle.rml_reach.specs.WorkList.{IsWorkList}
use Rattle.rml_reach.proofs.Lists.{read}
use Rattle.rml_reach.proofs.WorkListLemmas.{node-within, passed, looked, looked-falls}
use Rattle.rml_reach.proofs.reach.look.Goals as goal

pub bounds-seen-at : goal.bounds-seen-at
bounds-seen-at c = let a = node-within c.args.edges.now c.args.from.now c.args.seen.now c.args.waiting.now.items c.args.node c.requires.graph c.requires.work in let b = c.requires.work.count in omega arith

pub bounds-edges-at : goal.bounds-edges-at
bounds-edges-at c = node-within c.args.edges.now c.args.from.now c.args.seen.now c.args.waiting.now.items c.args.node c.requires.graph c.requires.work

pub bounds-seen-at-2 : goal.bounds-seen-at-2
bounds-seen-at-2 c = let a = node-within c.args.edges.now c.args.from.now c.args.seen.now c.args.waiting.now.items c.args.node c.requires.graph c.requires.work in let b = c.requires.work.count in omega arith

pub returns-then-seen-at-clause-work : goal.returns-then-seen-at-clause-work
returns-then-seen-at-clause-work c =
    passed c.args.edges.now c.args.from.now c.args.seen.now c.args.waiting.now.items c.args.node c.requires.graph c.requires.work
    c.if-seen-at.true

module _ (c : goal.In_ok-extend_from_slice) where
  waits : c.args.waiting.now.items ++ get_or c.args.edges.now c.args.node [] ≡ c.extend_from_slice.new.self.items
  waits =
      let within = node-within c.args.edges.now c.args.from.now c.args.seen.now c.args.waiting.now.items c.args.node c.requires.graph c.requires.work in
      let its : get_or c.args.edges.now c.args.node [] ≡ c.as_slice.result.now = read c.args.edges.now c.args.node c.index-edges-at.result [] c.as_slice.result.now within (sym c.index-edges-at.is ∙ sym c.as_slice.ensures) in
      ap (λ es. c.args.waiting.now.items ++ es) its ∙ sym c.in_ok-extend_from_slice.ensures.items

pub returns-clause-work : goal.returns-clause-work
returns-clause-work c = subst (IsWorkList c.args.edges.now c.args.from.now (set c.args.seen.now c.args.node true)) (waits c)
    (looked c.args.edges.now c.args.from.now c.args.seen.now c.args.waiting.now.items c.args.node c.requires.graph c.requires.work c.if-seen-at.false)

pub returns-clause-falls : goal.returns-clause-falls
returns-clause-falls c = subst (λ (l : List ℕ). left (set c.args.seen.now c.args.node true) c.args.edges.now + length l ≤ left c.args.seen.now c.args.edges.now + length c.args.waiting.now.items) (waits c)
    (looked-falls c.args.edges.now c.args.from.now c.args.seen.now c.args.waiting.now.items c.args.node c.requires.graph c.requires.work c.if-seen-at.false)
