use Rattle.std.proofs.Common.{◌+◌, ◌≤◌, length, refl, ap, arith}
use Rattle.std.specs.Prelude.{ℤ}
use Rattle.std.proofs.lemmas.List.{get_or_past}
use Rattle.rml_heap.specs.Form.{Form, Other, forms, form}
use Rattle.rml_heap.proofs.laws.kinds.Goals as goal

pub returns-clause-int : goal.returns-clause-int
unfolding form
returns-clause-int c = refl

pub returns-clause-char : goal.returns-clause-char
unfolding form
returns-clause-char c = refl

pub returns-clause-rel : goal.returns-clause-rel
unfolding form
returns-clause-rel c = refl

pub returns-clause-block : goal.returns-clause-block
unfolding form
returns-clause-block c = refl

pub returns-clause-con : goal.returns-clause-con
unfolding form
returns-clause-con c = refl

pub returns-clause-text : goal.returns-clause-text
unfolding form
returns-clause-text c = refl

pub returns-clause-con_block : goal.returns-clause-con_block
unfolding form
returns-clause-con_block c = refl

pub returns-clause-tuple : goal.returns-clause-tuple
unfolding form
returns-clause-tuple c = refl

pub returns-clause-cons_block : goal.returns-clause-cons_block
unfolding form
returns-clause-cons_block c = refl

pub returns-clause-lvar : goal.returns-clause-lvar
unfolding form
returns-clause-lvar c = refl

pub returns-clause-unset : goal.returns-clause-unset
unfolding form
returns-clause-unset c = refl

pub returns-clause-vector : goal.returns-clause-vector
unfolding form
returns-clause-vector c = refl

pub returns-clause-other : goal.returns-clause-other
unfolding form
returns-clause-other c = λ kind number.
    let past : length forms ≤ 12 + kind = omega arith in
    ap (λ (read : ℤ → Form). read number) (get_or_past forms (12 + kind) (λ i. Other) past)
