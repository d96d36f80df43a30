use Rattle.std.proofs.Common.{ap, sym, subst, ◌∙◌, Some, rules}
use Rattle.rml_heap.specs.declared.cell.Cell.{Cell}
use Rattle.rml_code.specs.Stretch as stretch
use Rattle.rml_code.specs.Stretch.{Stretch}
use Rattle.rml_code.specs.declared.instructions.Instr.TheVariants as instr
use Rattle.rml_code.specs.Effects.{effect}
use Rattle.rml_acts.specs.Did.{IsRight}
use Rattle.std.specs.Prelude.{ℤ}
use Rattle.std.specs.Int.{w64}
use Rattle.std.proofs.lemmas.Int.{to_z-of_z}
use Rattle.rml_acts.proofs.Looked.{gives}
use Rattle.rml_acts.proofs.leaving.halt.Goals as goal

pub returns-in-Integer : goal.returns-in-Integer
returns-in-Integer c =
    ap (λ (i : ℤ). stretch.Stop (stretch.Answer (Some i))) (to_z-of_z w64 c.get.result.number (search rules))
    ∙ ap (λ (d : Cell). stretch.Stop (stretch.Answer (Some d.number))) c.get.ensures
    ∙ ap (λ (a : Stretch). a.next) (gives c.args.state.now (subst (λ h. IsRight (effect (instr.Halt h) c.args.state.now)) c.in-Integer.is c.requires.right))
    ∙ ap (λ h. (effect (instr.Halt h) c.args.state.now).next) (sym c.in-Integer.is)
