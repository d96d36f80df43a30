use Rattle.std.proofs.Common.{◌≡◌, ◌∙◌, ◌-◌, List, Option, length, sym, subst, arith}
use Rattle.rml_types.specs.declared.tree.SchemeTree.{SchemeTree}
use Rattle.rml_abbreviations.specs.Written.{meaning_in, written, written_out}
use Rattle.rml_meanings.proofs.WrittenOut.{made-of}
use Rattle.rml_meanings.proofs.definitions.meanings.Goals as goal

pub returns : goal.returns
returns c =
    let depth : length c.args.types.now - 1 ≡ c.in-Ok.depth = omega arith in
    made-of c.args.types.now c.args.owner c.deref-2.result.now c.deref.result.now c.deref-3.result.now c.in-Ok.depth c.all_written.result depth
    (c.deref.ensures.value ∙ c.in_ok-bodies.ensures) (c.deref-3.ensures.value ∙ c.in_ok-bodies.ensures)
    (λ t. subst (λ (l : List (Option SchemeTree)). written (meaning_in l) t ≡ written_out c.in-Ok.depth (meaning_in c.deref.result.now) t) (sym c.deref-2.ensures.value) (c.in_ok-table.ensures t)) c.all_written.ensures
