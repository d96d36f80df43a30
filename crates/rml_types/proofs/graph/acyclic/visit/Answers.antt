use Rattle.std.proofs.Common.{◌≡◌, ◌<◌, ◌∙◌, ◌++◌, ◌∷◌, [], ℕ, length, sym, ap, arith, List, refl, subst}
use Rattle.std.specs.Prelude.{is_ok, if◌then◌else◌, false, not}
use Rattle.std.proofs.Math.ListN.{set}
use Rattle.std.proofs.lemmas.List.{length-set}
use Rattle.rml_types.specs.Kept.{known_by}
use Rattle.rml_types.specs.Nodes.{root_in}
use Rattle.rml_types.specs.Walks.{Walks, mark_of}
use denote.Enum.Bare.{sameb}
use Rattle.rml_types.specs.contracts.graph.Mark.{the_type}
use Rattle.rml_types.specs.declared.graph.Mark.{Mark}
use Rattle.rml_types.specs.declared.graph.Mark.TheVariants as mark
use Rattle.rml_types.proofs.Walks.{begun, begun-old, begun-stays}
use Rattle.rml_types.proofs.graph.acyclic.visit.Goals as goal

new-by : (m : Mark) → false ≡ not (sameb the_type m mark.New) → m ≡ mark.New
new-by mark.New e = refl
new-by mark.Open e = cc
new-by mark.Done e = cc

pub loop-at-init : goal.loop-at-init
loop-at-init c =
    let inside : c.args.class < length c.args.marks.now = (let m = c.requires.marked in let w = c.requires.within in omega (arith, m, w)) in
    let first : c.push.new.self.items ≡ c.args.path.now.items ++ (c.args.class, 0) ∷ [] =
    c.push.ensures.items ∙ ap (λ r. if is_ok r then c.args.path.now.items ++ (c.args.class, 0) ∷ [] else c.args.path.now.items) c.unwrap.ensures in
    let alone : c.push.new.self.items ≡ (c.args.class, 0) ∷ [] = first ∙ ap (λ (ps : List (ℕ × ℕ)). ps ++ (c.args.class, 0) ∷ []) c.requires.empty in
    record {
      same = refl;
      count = length-set c.args.marks.now c.args.class mark.Open ∙ c.requires.marked;
      room = (let k = length-set c.args.marks.now c.args.class mark.Open in let r = c.requires.room in let q = c.push.ensures.capacity in omega (arith, k, r, q));
      grown = c.push.ensures.capacity;
      walks = subst (Walks (root_in c.args.classes.now) (known_by c.args.forms.now c.args.shapes.now) (set c.args.marks.now c.args.class mark.Open)) (sym alone)
          (begun (root_in c.args.classes.now) (known_by c.args.forms.now c.args.shapes.now) c.args.marks.now c.args.class c.requires.walks inside c.requires.own (new-by (mark_of c.args.marks.now c.args.class) c.if-ne.ensures));
      stays = begun-stays (root_in c.args.classes.now) (known_by c.args.forms.now c.args.shapes.now) c.args.marks.now c.args.class c.requires.walks inside c.requires.own (new-by (mark_of c.args.marks.now c.args.class) c.if-ne.ensures);
      old = begun-old (root_in c.args.classes.now) (known_by c.args.forms.now c.args.shapes.now) c.args.marks.now c.args.class c.requires.walks inside c.requires.own (new-by (mark_of c.args.marks.now c.args.class) c.if-ne.ensures);
    }
