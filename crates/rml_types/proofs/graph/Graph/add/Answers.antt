use Rattle.std.proofs.Common.{◌≡◌, ℕ, suc, ◌+◌, ◌++◌, ◌∷◌, [], ◌∙◌, sym, ap, arith, length, subst, Some, None, Option, List, length-append}
use Rattle.std.specs.Prelude.{is_ok, is_some, if◌then◌else◌, true, false, vec_len}
use Rattle.rml_types.specs.declared.form.Form.{Form}
use Rattle.rml_types.specs.Nodes.{Nodes}
use Rattle.std.specs.Option.{ForSome}
use Rattle.rml_types.specs.Finite.{Adds}
use Rattle.rml_types.specs.Kept.{MayHave}
use Rattle.rml_types.proofs.Grown.{adds, grown-as, shape_of}
use Rattle.rml_types.proofs.graph.Graph.add.Goals as goal
use Rattle.rml_types.proofs.graph.Graph.add.Goals.{then-is_some, else-is_some}

abbrev before : (c : goal.After-unwrap-3) → Nodes
before c = record { forms = c.self.inside.forms.items; roots = c.self.inside.classes; failed = c.self.inside.failed }

forms : (c : goal.After-unwrap-3) → c.push.new.self.items ≡ c.self.inside.forms.items ++ c.args.form ∷ []
forms c = c.push.ensures.items ∙ ap (λ r. if is_ok r then c.reserve.new.self.items ++ c.args.form ∷ [] else c.reserve.new.self.items) c.unwrap.ensures ∙ ap (λ (xs : List (Option Form)). xs ++ c.args.form ∷ []) c.reserve.ensures.items

shapes : (c : goal.After-unwrap-3) → c.push-2.new.self.items ≡ c.self.inside.shapes.items ++ c.if-is_some.shape ∷ []
shapes c = c.push-2.ensures.items ∙ ap (λ r. if is_ok r then c.reserve-2.new.self.items ++ c.if-is_some.shape ∷ [] else c.reserve-2.new.self.items) c.unwrap-2.ensures ∙ ap (λ (xs : List (Option ℕ)). xs ++ c.if-is_some.shape ∷ []) c.reserve-2.ensures.items

roots : (c : goal.After-unwrap-3) → c.add.new.self ≡ c.self.inside.classes ++ length c.self.inside.forms.items ∷ []
roots c = c.in_ok-node.ensures.ok ∙ ap (λ n. c.self.inside.classes ++ n ∷ []) c.self.invariant.0.count

node : (c : goal.After-unwrap-3) → c.in_ok-node.node ≡ length c.self.inside.forms.items
node c = c.in_ok-node.ensures.node ∙ c.self.invariant.0.count

shape-then : (n : ℕ) (o : Option Form) (t : Option ℕ) → is_some o ≡ true → t ≡ Some n → t ≡ shape_of n o
shape-then n (Some f) t h e = e
shape-then n None t h e = cc

shape-else : (n : ℕ) (o : Option Form) (t : Option ℕ) → is_some o ≡ false → t ≡ None → t ≡ shape_of n o
shape-else n (Some f) t h e = cc
shape-else n None t h e = e

shape : (c : goal.After-unwrap-3) → c.if-is_some.shape ≡ shape_of (length c.self.inside.forms.items) c.args.form
shape c = elim c.if-is_some.branch [
  | then-is_some w ↦ shape-then (length c.self.inside.forms.items) c.args.form c.if-is_some.shape (sym w.if-is_some.ensures) (w.shape-is ∙ ap Some (node c))
  | else-is_some w ↦ shape-else (length c.self.inside.forms.items) c.args.form c.if-is_some.shape (sym w.if-is_some.ensures) w.shape-is
]

marks : (c : goal.After-unwrap-3) → vec_len c.push-3.new.self ≡ vec_len c.self.inside.marks + 1
marks c = c.push-3.ensures.len ∙ ap (λ r. if is_ok r then vec_len c.reserve-3.new.self + 1 else vec_len c.reserve-3.new.self) c.unwrap-3.ensures ∙ ap (λ n. n + 1) c.reserve-3.ensures.len

pub invariant_of-self-2 : goal.invariant_of-self-2
invariant_of-self-2 c =
    let may = subst (λ (n : Nodes). ForSome c.args.form (MayHave n)) (sym c.self.view_is) c.requires in
    let longer : length c.push.new.self.items ≡ suc (length c.self.inside.forms.items) = let a = ap length (forms c) in let l = length-append c.self.inside.forms.items (c.args.form ∷ []) in omega (arith, a, l) in (
      grown-as (before c) c.self.inside.shapes.items c.args.form c.self.invariant.0 may c.push.new.self.items c.add.new.self c.if-is_some.shape c.push-2.new.self.items (forms c) (roots c) (shapes c) (shape c),
      record {
        marked = (let m = marks c in let o = c.self.invariant.1.marked in omega (arith, m, o, longer));
        walked = (let r = c.in_ok-reserve-4.ensures.ok in let n = c.len-count.ensures in let v = c.self.inside.forms.ok.0 in omega (arith, r, n, v, longer));
      },
    )

pub returns-clause-types : goal.returns-clause-types
returns-clause-types c =
    let may = subst (λ (n : Nodes). ForSome c.args.form (MayHave n)) (sym c.self.view_is) c.requires in
    subst (λ (old : Nodes). Adds old (record { forms = c.push.new.self.items; roots = c.add.new.self; failed = c.self.inside.failed }) c.args.form) c.self.view_is
    (rw (forms c, roots c) (adds (before c) c.self.inside.shapes.items c.args.form c.self.invariant.0 may))
