use Rattle.std.proofs.Common.{◌≡◌, ◌++◌, ◌∷◌, [], ◌∙◌, sym, ap, get_or, drop, arith, ℕ, List, ◌+◌}
use Rattle.std.specs.Prelude.{is_ok, true}
use Rattle.rml_types.specs.Waiting.{argument_pairs}
use Rattle.rml_types.proofs.Pairs.{next-pair, no-pairs, past-pairs}
use Rattle.rml_types.proofs.graph.unify.meet.Goals as goal

pub loop-i-preserved : goal.loop-i-preserved
loop-i-preserved c =
    let xs : List ℕ = c.as_slice-args.result.now in
    let ys : List ℕ = c.as_slice-others.result.now in
    let ok : is_ok c.push.result ≡ true = c.if-is_err.ensures.negation in
    let pushed : c.push.new.self.items ≡ c.loop-i.work.items ++ (get_or xs c.loop-i.i 0, get_or ys c.loop-i.i 0) ∷ [] = rw ok at c.push.ensures.items in
    ap (λ (ps : List (ℕ × ℕ)). ps ++ argument_pairs (drop (c.loop-i.i + 1) xs) (drop (c.loop-i.i + 1) ys)) pushed
    ∙ next-pair c.loop-i.work.items xs ys c.loop-i.i (omega arith) (omega arith)
    ∙ c.loop-i.invariant

pub returns-clause-work : goal.returns-clause-work
returns-clause-work c =
    let xs : List ℕ = c.as_slice-args.result.now in
    let ys : List ℕ = c.as_slice-others.result.now in
    sym (no-pairs c.loop-i.work.items)
    ∙ ap (λ ps. c.loop-i.work.items ++ ps) (sym (past-pairs xs (drop c.loop-i.i ys) c.loop-i.i c.loop-i-test.false))
    ∙ c.loop-i.invariant
    ∙ ap (λ (zs : List ℕ). c.args.work.now.items ++ argument_pairs zs ys) c.as_slice-args.ensures
    ∙ ap (λ zs. c.args.work.now.items ++ argument_pairs c.args.form.now.args zs) c.as_slice-others.ensures
