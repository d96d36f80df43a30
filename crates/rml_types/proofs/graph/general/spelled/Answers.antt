use Rattle.std.proofs.Common.{◌≡◌, ◌<◌, ◌∷◌, ◌++◌, [], length, reverse, sym, ap, ◌∙◌, arith, subst}
use Rattle.std.specs.Prelude.{All, slice_index}
use Rattle.std.proofs.lemmas.List.{reverse-append, length-reverse, get_or_default}
use Rattle.rml_types.specs.Kept.{known_by}
use Rattle.rml_types.specs.Nodes.{root_in}
use Rattle.rml_types.specs.Spelled.{Spelling}
use Rattle.rml_types.proofs.FiniteTypes.{nil-of}
use Rattle.rml_types.proofs.Spelled.{all-last, known-fits, known-within, spelling-ended, spelling-next, spelling-wide}
use Rattle.rml_types.proofs.graph.general.spelled.Goals as goal

pub returns-then-args-room-clause-wide : goal.returns-then-args-room-clause-wide
returns-then-args-room-clause-wide c =
    let known = known_by c.args.forms.now c.args.shapes.now in
    let s : Spelling (root_in c.args.classes.now) known (length c.args.forms.now) c.args.node (c.pop.new.self.items ++ c.in-Some.node ∷ []) (reverse c.loop-node.spelled.items) =
    subst (λ xs. Spelling (root_in c.args.classes.now) known (length c.args.forms.now) c.args.node xs (reverse c.loop-node.spelled.items)) c.in-Some.ensures.items c.loop-node.invariant.spelling in
    let lt = all-last (λ n. n < length c.args.forms.now) c.pop.new.self.items c.in-Some.node s.waits in
    let is : c.find-class.result ≡ root_in c.args.classes.now c.in-Some.node =
    c.find-class.ensures.root ∙ ap (λ cs. slice_index cs c.in-Some.node) c.loop-node.invariant.same ∙ sym (get_or_default c.args.classes.now c.in-Some.node c.in-Some.node 0 (let k = c.requires.graph.count in omega arith)) in
    let a = c.args_of-args.ensures in
    spelling-wide (root_in c.args.classes.now) known (length c.args.forms.now) c.args.node (known-fits c.args.forms.now c.args.classes.now c.args.shapes.now c.requires.graph) c.requires.unfixed
    c.pop.new.self.items (reverse c.loop-node.spelled.items) c.in-Some.node c.find-class.result c.args.limit c.args_of-args.result.now s is a
    (let l = length-reverse c.loop-node.spelled.items in let m = c.if-args-room.true in let n = c.len.ensures in let o = c.len-in-Some.ensures in let p = c.loop-node.spelled.ok.0 in let q = c.pop.new.self.ok.0 in let r = c.saturating_sub-room.ensures in omega arith)

pub loop-node-preserved : goal.loop-node-preserved
loop-node-preserved c =
    let known = known_by c.args.forms.now c.args.shapes.now in
    let s : Spelling (root_in c.args.classes.now) known (length c.args.forms.now) c.args.node (c.pop.new.self.items ++ c.in-Some.node ∷ []) (reverse c.loop-node.spelled.items) =
    subst (λ xs. Spelling (root_in c.args.classes.now) known (length c.args.forms.now) c.args.node xs (reverse c.loop-node.spelled.items)) c.in-Some.ensures.items c.loop-node.invariant.spelling in
    let lt = all-last (λ n. n < length c.args.forms.now) c.pop.new.self.items c.in-Some.node s.waits in
    let is : c.find-class.result ≡ root_in c.args.classes.now c.in-Some.node =
    c.find-class.ensures.root ∙ ap (λ cs. slice_index cs c.in-Some.node) c.loop-node.invariant.same ∙ sym (get_or_default c.args.classes.now c.in-Some.node c.in-Some.node 0 (let k = c.requires.graph.count in omega arith)) in
    let next = spelling-next (root_in c.args.classes.now) known (length c.args.forms.now) c.args.node (known-fits c.args.forms.now c.args.classes.now c.args.shapes.now c.requires.graph) c.requires.unfixed
    c.pop.new.self.items c.extend_from_slice.new.self.items (reverse c.loop-node.spelled.items) c.in-Some.node c.find-class.result c.args_of-args.result.now s is
    (let w = c.find-class.ensures.within in let e = ap length c.loop-node.invariant.same in let k = c.requires.graph.count in omega arith)
    c.args_of-args.ensures (subst (λ xs. All (λ m. m < length c.args.forms.now) xs) (sym c.args_of-args.ensures) (known-within c.args.forms.now c.args.classes.now c.args.shapes.now c.requires.graph c.find-class.result))
    c.in_ok-extend_from_slice.ensures.items in
    record {
      same = c.find-class.ensures.same ∙ c.loop-node.invariant.same;
      narrow = (let m = c.if-args-room.false in let n = c.len.ensures in let l = c.in_ok-push-2.ensures.len in let p = c.push-in-Some.new.self.ok.0 in let r = c.saturating_sub-room.ensures in omega arith);
      spelling = subst (λ xs. Spelling (root_in c.args.classes.now) known (length c.args.forms.now) c.args.node c.extend_from_slice.new.self.items xs)
          (sym (ap reverse c.in_ok-push-2.ensures.items ∙ reverse-append c.loop-node.spelled.items (c.find-class.result ∷ []))) next;
    }

pub returns-clause-some : goal.returns-clause-some
returns-clause-some c =
    spelling-ended (root_in c.args.classes.now) (known_by c.args.forms.now c.args.shapes.now) (length c.args.forms.now) c.args.node
    (known-fits c.args.forms.now c.args.classes.now c.args.shapes.now c.requires.graph) c.requires.unfixed c.loop-node.waiting.items c.reverse.new.self.items
    (nil-of c.loop-node.waiting.items (let e = c.in_default.ensures.cases.0 in let p = c.loop-node.waiting.ok.0 in omega arith))
    (subst (λ xs. Spelling (root_in c.args.classes.now) (known_by c.args.forms.now c.args.shapes.now) (length c.args.forms.now) c.args.node c.loop-node.waiting.items xs) (sym c.reverse.ensures.items) c.loop-node.invariant.spelling)
