use Rattle.std.proofs.Common.{◌≡◌, ℕ, sym, subst}
use Rattle.rml_types.specs.declared.tree.SchemeTree.{SchemeTree}
use Rattle.rml_abbreviations.specs.Written.{meaning_in, written, written_out}
use Rattle.rml_abbreviations.proofs.Doubling.{no-times}
use Rattle.rml_abbreviations.proofs.powers.written_out.Goals as goal

pub returns-then-count-eq0 : goal.returns-then-count-eq0
returns-then-count-eq0 c =
    subst (λ (n : ℕ). (t : SchemeTree) → written (meaning_in c.new.result.items) t ≡ written_out n (meaning_in c.args.bodies.now) t) (sym c.if-count-eq0.true)
    (no-times c.args.bodies.now c.new.result.items c.new.ensures.items)
