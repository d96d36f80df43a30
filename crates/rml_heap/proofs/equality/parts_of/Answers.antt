use Rattle.std.proofs.Common.{arith, ◌+◌, ◌/◌, ◌%◌, ap, ◌∙◌}
use Rattle.rml_heap.proofs.Told.{count-5, count-6, count-7, count-8, count-9, count-11, count-none}
use Rattle.rml_heap.proofs.equality.parts_of.Goals as goal

pub returns-in-5 : goal.returns-in-5
returns-in-5 c = λ some. ap (λ n. (n + 7) / 8) c.count_of-number.ensures ∙ count-5 c.args.head c.in-5.is some

pub returns-in-6 : goal.returns-in-6
returns-in-6 c = λ some. ap (λ n. n % 1048576) c.count_of-number.ensures ∙ count-6 c.args.head c.in-6.is some

pub returns-in-7 : goal.returns-in-7
returns-in-7 c = λ some. c.count_of-number.ensures ∙ count-7 c.args.head c.in-7.is some

pub returns-in-11 : goal.returns-in-11
returns-in-11 c = λ some. c.count_of-number.ensures ∙ count-11 c.args.head c.in-11.is some

pub returns-in-8 : goal.returns-in-8
returns-in-8 c = λ some. count-8 c.args.head c.in-8.is some

pub returns-in-9 : goal.returns-in-9
returns-in-9 c = λ some. count-9 c.args.head c.in-9.is some

pub returns-in_default : goal.returns-in_default
returns-in_default c = λ some. count-none c.args.head.kind c.args.head.number (omega arith) (omega arith) (omega arith) (omega arith) (omega arith) (omega arith)
