use Rattle.std.proofs.Common.{◌≡◌, ◌-◌, ◌^◌, ◌∙◌, List, [], ℕ, arith, subst, sym}
use Rattle.rml_builtin.specs.Table.{name_of}
use Rattle.rml_builtin.specs.declared.row.Row.TheVariants as row
use Rattle.rml_builtin.specs.declared.row.TheConstants.{ROWS}
use Rattle.rml_given.specs.Built.{rows_of}
use Rattle.rml_given.proofs.Standing.{named}
use Rattle.rml_prelude.proofs.Callers.{Numbered, all-numbered, grown-one-more, next-numbered, none-numbered, room}
use Rattle.rml_given.proofs.giving.rows.Goals as goal

pub loop-number-init : goal.loop-number-init
loop-number-init c = subst (λ (l : List ℕ). Numbered c.args.names.now c.args.names.now l []) (sym c.new-numbers.ensures) (none-numbered c.args.names.now)

pub intern-requires : goal.intern-requires
intern-requires c = (let r = room name_of ROWS _ _ _ c.loop-number.number (2 ^ 32 - 65) c.loop-number.invariant (omega (arith, c.requires.room)) in omega (arith, r))

pub loop-number-preserved : goal.loop-number-preserved
loop-number-preserved c =
    rw c.in_ok-push.ensures.ok
    (next-numbered name_of ROWS c.loop-number.number _ _ _ _ _ _ _ c.loop-number-test.true (c.as_bytes.ensures.value ∙ named (λ r. c.builtin-row.result.name.now ≡ name_of r) ROWS _ row.IntAdd c.loop-number-test.true c.builtin-row.ensures.name) c.loop-number.invariant c.in_ok-intern.ensures.names c.in_ok-intern.ensures.number)

pub returns-clause-rows : goal.returns-clause-rows
unfolding rows_of
returns-clause-rows c = (all-numbered name_of ROWS _ _ _ c.loop-number.number c.loop-number-test.false c.loop-number.invariant).numbers

pub returns-in_err-push-clause-names : goal.returns-in_err-push-clause-names
returns-in_err-push-clause-names c = grown-one-more name_of ROWS _ _ _ c.loop-number.number _ _ c.loop-number-test.true c.loop-number.invariant c.in_ok-intern.ensures.names
