use Rattle.std.proofs.Common.{◌≡◌, ◌∙◌, ◌++◌, ◌∷◌, [], length, ap, arith, refl, length-append}
use Rattle.std.specs.Prelude.{is_ok, if◌then◌else◌, true, false}
use Rattle.std.proofs.lemmas.List.{length-set}
use denote.Enum.Bare.{sameb}
use Rattle.rml_types.specs.contracts.graph.Mark.{the_type}
use Rattle.rml_types.specs.Kept.{known_by}
use Rattle.rml_types.specs.Nodes.{root_in}
use Rattle.rml_types.specs.Walks.{mark_of}
use Rattle.rml_types.specs.declared.graph.Mark.{Mark}
use Rattle.rml_types.specs.declared.graph.Mark.TheVariants as mark
use Rattle.rml_types.proofs.Walks.{finished, last-root, last-within, next-circle, next-deeper}
use Rattle.rml_types.proofs.graph.acyclic.advance.Goals as goal

open-by : (m : Mark) → true ≡ sameb the_type m mark.Open → m ≡ mark.Open
open-by mark.New e = cc
open-by mark.Open e = refl
open-by mark.Done e = cc

new-by : (m : Mark) → false ≡ sameb the_type m mark.Open → (m ≡ mark.Done → ⊥) → m ≡ mark.New
new-by mark.New e ne = refl
new-by mark.Open e ne = cc
new-by mark.Done e ne = absurd (ne refl)

pub next_below-requires-clause-within : goal.next_below-requires-clause-within
next_below-requires-clause-within c =
    let w = last-within (root_in c.args.classes.now) (known_by c.args.forms.now c.args.shapes.now) c.args.marks.now c.args.path.now.items c.args.class c.args.from c.requires.walks in
    let m = c.requires.marked in omega (arith, w, m)

pub next_below-requires-clause-own : goal.next_below-requires-clause-own
next_below-requires-clause-own c = last-root (root_in c.args.classes.now) (known_by c.args.forms.now c.args.shapes.now) c.args.marks.now c.args.path.now.items c.args.class c.args.from c.requires.walks

pub bounds-marks-class : goal.bounds-marks-class
bounds-marks-class c = last-within (root_in c.args.classes.now) (known_by c.args.forms.now c.args.shapes.now) c.args.marks.now c.args.path.now.items c.args.class c.args.from c.requires.walks

pub returns-in_default-clause-on : goal.returns-in_default-clause-on
returns-in_default-clause-on c = λ _. finished (root_in c.args.classes.now) (known_by c.args.forms.now c.args.shapes.now) c.args.marks.now c.args.path.now.items c.args.class c.args.from c.requires.walks c.in_default.ensures.none

pub returns-then-eq-clause-circle : goal.returns-then-eq-clause-circle
returns-then-eq-clause-circle c = λ _. (
    next-circle (root_in c.args.classes.now) (known_by c.args.forms.now c.args.shapes.now) c.args.marks.now c.args.path.now.items c.args.class c.args.from c.in-Some.i c.in-Some.child c.requires.walks
    c.in-Some.ensures.found (open-by (mark_of c.args.marks.now c.in-Some.child) c.if-eq.ensures))

first : (c : goal.After-push-2) → c.push.new.self.items ≡ c.args.path.now.items ++ (c.args.class, c.in-Some.i) ∷ []
first c = c.push.ensures.items ∙ ap (λ r. if is_ok r then c.args.path.now.items ++ (c.args.class, c.in-Some.i) ∷ [] else c.args.path.now.items) c.unwrap.ensures

pub unwrap-requires-2 : goal.unwrap-requires-2
unwrap-requires-2 c =
    let went = next-deeper (root_in c.args.classes.now) (known_by c.args.forms.now c.args.shapes.now) c.args.marks.now c.args.path.now.items c.args.class c.args.from c.in-Some.i c.in-Some.child c.requires.walks
    c.in-Some.ensures.found (new-by (mark_of c.args.marks.now c.in-Some.child) c.if-eq.ensures c.in-Some.ensures.found.unfinished) in
    let w = went.walks.room in
    let a = length-append (c.args.path.now.items ++ (c.args.class, c.in-Some.i) ∷ []) ((c.in-Some.child, 0) ∷ []) in
    let b = ap length (first c) in
    let k = length-set c.args.marks.now c.in-Some.child mark.Open in
    let v = c.push.new.self.ok.0 in
    let r = c.requires.room in
    let q = c.push.ensures.capacity in
    c.push-2.ensures.succeeds (omega (arith, w, a, b, k, v, r, q))

pub returns-clause-on : goal.returns-clause-on
returns-clause-on c = λ _. (
    let went = next-deeper (root_in c.args.classes.now) (known_by c.args.forms.now c.args.shapes.now) c.args.marks.now c.args.path.now.items c.args.class c.args.from c.in-Some.i c.in-Some.child c.requires.walks
    c.in-Some.ensures.found (new-by (mark_of c.args.marks.now c.in-Some.child) c.if-eq.ensures c.in-Some.ensures.found.unfinished) in
    let first : c.push.new.self.items ≡ c.args.path.now.items ++ (c.args.class, c.in-Some.i) ∷ [] =
    c.push.ensures.items ∙ ap (λ r. if is_ok r then c.args.path.now.items ++ (c.args.class, c.in-Some.i) ∷ [] else c.args.path.now.items) c.unwrap.ensures in
    let second : c.push-2.new.self.items ≡ c.push.new.self.items ++ (c.in-Some.child, 0) ∷ [] =
    c.push-2.ensures.items ∙ ap (λ r. if is_ok r then c.push.new.self.items ++ (c.in-Some.child, 0) ∷ [] else c.push.new.self.items) c.unwrap-2.ensures in
    rw (second, first) went)
