use Rattle.std.proofs.Common.{◌≡◌, ◌<◌, ◌≤◌, rules, length, true, false}
use Rattle.rml_words.specs.View.{asked}
use Rattle.rml_top.specs.Line.{takes_texts, text_names, arguments_of}
use Rattle.rml_top.specs.Due.{unbuilt_command, many_texts, many_arguments}
use Rattle.rml_top.proofs.line.by_words.Goals as goal

pub returns-then-not-takes_texts-clause-due : goal.returns-then-not-takes_texts-clause-due
returns-then-not-takes_texts-clause-due c = let t : takes_texts (asked c.args.command.now) ≡ false = search rules in λ held words. unbuilt_command t

pub returns-then-len-gt-TEXTS-clause-due : goal.returns-then-len-gt-TEXTS-clause-due
returns-then-len-gt-TEXTS-clause-due c =
    let t : takes_texts (asked c.args.command.now) ≡ true = search rules in
    let many : 64 < length (text_names (asked c.args.command.now)) = search rules in
    λ held words. many_texts t many

pub returns-then-count_arguments-gt-ARGUMENTS-clause-due :
    goal.returns-then-count_arguments-gt-ARGUMENTS-clause-due
returns-then-count_arguments-gt-ARGUMENTS-clause-due c =
    let t : takes_texts (asked c.args.command.now) ≡ true = search rules in
    let few : length (text_names (asked c.args.command.now)) ≤ 64 = search rules in
    let many : 64 < length (arguments_of (asked c.args.command.now)) = search rules in
    λ held words. many_arguments t few many
