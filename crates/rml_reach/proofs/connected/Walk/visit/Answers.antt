use Rattle.std.proofs.Common.{◌≡◌, ◌≢◌, ℕ, length, arith, sym, subst, ◌∙◌, ap, refl, None, true, List, inl, inr}
use Rattle.std.specs.Prelude.{not}
use Rattle.std.proofs.Math.ListN.{set}
use Rattle.std.proofs.lemmas.List.{get_or-set_other, get_or-set_same}
use Rattle.rml_reach.specs.Components.{IsWay, Way, is_met, mark_of}
use Rattle.rml_reach.specs.Walk.{way_of}
use Rattle.rml_reach.specs.declared.connected.Mark.{Mark}
use Rattle.rml_reach.specs.declared.connected.Mark.TheVariants as mark
use Rattle.rml_reach.proofs.Lists.{same-or-not}
use Rattle.rml_reach.proofs.Opening.{begun, opened}
use Rattle.rml_reach.proofs.connected.Walk.visit.Goals as goal

new-by : (m : Mark) → true ≡ not (is_met m) → m ≡ mark.New
new-by mark.New e = refl
new-by (mark.Open at) e = absurd (cc e)
new-by (mark.Done chosen) e = absurd (cc e)

module _ (c : goal.In_ok-open) where
  abbrev old : Way
  old = way_of c.args.self.now

  was-new : mark_of old.marks c.args.node ≡ mark.New
  was-new = new-by (mark_of old.marks c.args.node) (sym c.if-not-is_new.false ∙ c.is_new.ensures)

  no-node : length old.nodes ≡ 0
  no-node = c.requires.way.parted.none c.requires.empty

  marks-are : c.open.new.self.marks.items ≡ set old.marks c.args.node (mark.Open (length old.nodes))
  marks-are = ap (λ (w : Way). w.marks) c.in_ok-open.ensures

  older-by : (n : ℕ) → mark_of (set old.marks c.args.node (mark.Open (length old.nodes))) n ≡ mark.New → mark_of old.marks n ≡ mark.New
  older-by n e = elim (same-or-not n c.args.node) [
    | inl is ↦ subst (λ (m : ℕ). mark_of old.marks m ≡ mark.New) (sym is) was-new
    | inr ne ↦ sym (get_or-set_other old.marks c.args.node n (mark.Open (length old.nodes)) mark.New ne) ∙ e
  ]

  met-by : mark_of (set old.marks c.args.node (mark.Open (length old.nodes))) c.args.node ≢ mark.New
  met-by e = let o = get_or-set_same old.marks c.args.node (mark.Open (length old.nodes)) mark.New (omega (arith, c.requires.way.count, c.requires.known)) in cc (o, e)

pub loop-self-init : goal.loop-self-init
loop-self-init c = record {
  way = (let w = old c in subst (λ (v : Way). IsWay c.args.edges.now v None) (sym c.in_ok-open.ensures)
      (opened c.args.edges.now w.marks w.nodes w.waiting w.parts c.args.node (begun c.args.edges.now w.marks w.nodes w.waiting w.parts c.args.node c.requires.way) c.requires.graph (was-new c) c.requires.known
      (λ j lt. absurd (omega (arith, no-node c)))));
  older = λ n e. older-by c n (subst (λ (ms : List Mark). mark_of ms n ≡ mark.New) (marks-are c) e);
  met = λ e. met-by c (subst (λ (ms : List Mark). mark_of ms c.args.node ≡ mark.New) (marks-are c) e);
}
