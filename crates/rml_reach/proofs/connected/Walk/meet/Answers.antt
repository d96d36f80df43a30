use Rattle.std.proofs.Common.{◌≡◌, ◌≤◌, ◌<◌, ◌-◌, ℕ, length, sym, subst, None, List}
use Rattle.rml_reach.specs.Components.{IsWay, Way, mark_of, start, way, work}
use Rattle.rml_reach.specs.Walk.{way_of}
use Rattle.rml_reach.specs.declared.connected.Mark.{Mark}
use Rattle.rml_reach.specs.declared.connected.Mark.TheVariants as mark
use Rattle.rml_reach.specs.declared.connected.Part.{Part}
use Rattle.rml_reach.proofs.Ways.{merged, passed}
use Rattle.rml_reach.proofs.Opening.{opened}
use Rattle.rml_reach.proofs.Counting.{opened-work}
use Rattle.rml_reach.proofs.connected.Walk.meet.Goals as goal

pub returns-in_ok-open-in-New-clause-way : goal.returns-in_ok-open-in-New-clause-way
returns-in_ok-open-in-New-clause-way c =
    let w = way_of c.args.self.now in
    subst (λ (v : Way). IsWay c.args.edges.now v None) (sym c.in_ok-open-in-New.ensures)
    (opened c.args.edges.now w.marks w.nodes w.waiting w.parts c.args.node c.requires.way c.requires.graph (subst (λ (ms : List Mark). mark_of ms c.args.node ≡ mark.New) c.as_slice.ensures.value (sym c.in-New.ensures)) c.requires.known c.requires.reach)

pub returns-in_ok-open-in-New-clause-falls : goal.returns-in_ok-open-in-New-clause-falls
returns-in_ok-open-in-New-clause-falls c =
    let w = way_of c.args.self.now in
    subst (λ (v : Way). work c.args.edges.now v ≤ work c.args.edges.now w) (sym c.in_ok-open-in-New.ensures)
    (opened-work c.args.edges.now w c.args.node c.requires.way.count (subst (λ (ms : List Mark). mark_of ms c.args.node ≡ mark.New) c.as_slice.ensures.value (sym c.in-New.ensures)) c.requires.known)

pub returns-in-Open-clause-way : goal.returns-in-Open-clause-way
returns-in-Open-clause-way c =
    let w = way_of c.args.self.now in
    subst (λ (ps : List Part). IsWay c.args.edges.now (way w.marks w.nodes w.waiting ps) None) (sym c.truncate.ensures.items)
    (merged c.args.edges.now w.marks w.nodes w.waiting w.parts c.args.node c.in-Open.place c.parts_until-kept.result c.requires.way (subst (λ (ms : List Mark). mark_of ms c.args.node ≡ mark.Open c.in-Open.place) c.as_slice.ensures.value (sym c.in-Open.ensures)) c.requires.reach
    (subst (λ (ps : List Part). c.parts_until-kept.result ≤ length ps) c.as_slice-in-Open.ensures.value c.parts_until-kept.ensures.count)
    (subst (λ (ps : List Part). (b : ℕ) → c.parts_until-kept.result ≤ b → b < length ps → c.in-Open.place < start ps b) c.as_slice-in-Open.ensures.value c.parts_until-kept.ensures.behind)
    (subst (λ (ps : List Part). 0 < c.parts_until-kept.result → start ps (c.parts_until-kept.result - 1) ≤ c.in-Open.place) c.as_slice-in-Open.ensures.value c.parts_until-kept.ensures.last))

pub returns-in-Done-clause-way : goal.returns-in-Done-clause-way
returns-in-Done-clause-way c =
    let w = way_of c.args.self.now in
    passed c.args.edges.now w.marks w.nodes w.waiting w.parts c.args.node c.requires.way (c.in-Done.field-0, subst (λ (ms : List Mark). mark_of ms c.args.node ≡ mark.Done c.in-Done.field-0) c.as_slice.ensures.value (sym c.in-Done.ensures))
