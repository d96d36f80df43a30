use Rattle.std.proofs.Common.{◌≡◌, ◌∙◌, List, ℕ, Some, None, ap, subst, sym}
use Rattle.std.specs.Prelude.{IfSome}
use Rattle.rml_words.specs.Forms.{Asks}
use Rattle.rml_words.specs.View.{asked, words_of}
use Rattle.rml_stages.specs.Shown.{ShowsTokens, ShowsTree}
use Rattle.rml_stages.specs.Sources.{contents}
use Rattle.rml_top.specs.Due.{AreAccepted, AreRefused, Outputs}
use Rattle.rml_top.proofs.Alone.{alone-answers, passes-on, run-answers, run-unbuilt}
use Rattle.rml_top.proofs.texts.output.Goals as goal

pub returns-in-ShowTokens-clause-answer : goal.returns-in-ShowTokens-clause-answer
returns-in-ShowTokens-clause-answer c =
    let words = words_of c.args.words.now in
    let texts = contents c.args.sources.now in
    alone-answers _ _ (λ v. ShowsTokens c.only_text.result.now v.items) (λ given. IfSome given (λ text. Outputs words (asked c.args.command.now) texts text.items)) Some _ _ c.only_text.ensures.alone c.show_tokens.ensures.answer
    (λ v shows. subst (λ (a : Asks). Outputs words a texts v.items) (sym (ap asked c.in-ShowTokens.is)) (c.only_text.result.now, c.only_text.ensures.alone, shows))
    c.with_output.ensures.ok c.with_output.ensures.err

pub returns-in-ShowTree-clause-answer : goal.returns-in-ShowTree-clause-answer
returns-in-ShowTree-clause-answer c =
    let words = words_of c.args.words.now in
    let texts = contents c.args.sources.now in
    alone-answers _ _ (λ v. ShowsTree c.only_text-in-ShowTree.result.now v.items) (λ given. IfSome given (λ text. Outputs words (asked c.args.command.now) texts text.items)) Some _ _ c.only_text-in-ShowTree.ensures.alone c.show_tree.ensures.answer
    (λ v shows. subst (λ (a : Asks). Outputs words a texts v.items) (sym (ap asked c.in-ShowTree.is)) (c.only_text-in-ShowTree.result.now, c.only_text-in-ShowTree.ensures.alone, shows))
    c.with_output-in-ShowTree.ensures.ok c.with_output-in-ShowTree.ensures.err

pub returns-in-Run-clause-answer : goal.returns-in-Run-clause-answer
returns-in-Run-clause-answer c =
    run-answers (words_of c.args.words.now) (contents c.args.sources.now) (asked c.args.command.now) _ _ _ _ (λ text. text.items) _ (ap asked c.in-Run.is) (sym c.is_plain_run.ensures ∙ c.if-is_plain_run.true) c.run_first_form.ensures.answer

pub returns-in-Run-clause-unbuilt : goal.returns-in-Run-clause-unbuilt
returns-in-Run-clause-unbuilt c = run-unbuilt (words_of c.args.words.now) (contents c.args.sources.now) (asked c.args.command.now) _ _ _ _ _ (ap asked c.in-Run.is) c.run_first_form.ensures.unbuilt

pub returns-in_default-clause-answer : goal.returns-in_default-clause-answer
returns-in_default-clause-answer c =
    passes-on (λ _. AreAccepted (contents c.args.sources.now)) (λ given. IfSome given (λ text. Outputs (words_of c.args.words.now) (asked c.args.command.now) (contents c.args.sources.now) text.items)) (AreRefused (contents c.args.sources.now)) (λ _. None) _ _ c.accept.ensures
    (λ v accepted. tt) c.without_output.ensures.ok c.without_output.ensures.err
