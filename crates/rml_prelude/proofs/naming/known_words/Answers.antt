use Rattle.std.proofs.Common.{◌-◌, ◌^◌, ◌∙◌, List, [], ℕ, arith, subst, sym}
use Rattle.rml_prelude.specs.Words.{text_of, words_of}
use Rattle.rml_prelude.specs.declared.word.TheConstants.{WORDS}
use Rattle.rml_prelude.proofs.Numbered.{Numbered, all-count, all-numbered, grown-one-more, next-numbered, none-numbered, room}
use Rattle.rml_prelude.proofs.naming.known_words.Goals as goal

pub loop-word-init : goal.loop-word-init
loop-word-init c = subst (λ (l : List ℕ). Numbered c.args.names.now c.args.names.now l []) (sym c.new-numbers.ensures) (none-numbered c.args.names.now)

pub intern-requires : goal.intern-requires
intern-requires c = (let r = room text_of WORDS _ _ _ c.loop-word.word-index (2 ^ 32 - 65) c.loop-word.invariant (omega (arith, c.requires.room)) in omega (arith, r))

pub loop-word-preserved : goal.loop-word-preserved
loop-word-preserved c =
    rw c.in_ok-push.ensures.ok
    (next-numbered text_of WORDS c.loop-word.word-index _ _ _ _ _ _ _ c.loop-word-test.true (c.as_bytes.ensures.value ∙ c.text.ensures) c.loop-word.invariant c.in_ok-intern.ensures.names c.in_ok-intern.ensures.number)

pub of-requires : goal.of-requires
of-requires c = all-count text_of WORDS _ _ _ c.loop-word.word-index c.loop-word-test.false c.loop-word.invariant

pub returns-clause-words : goal.returns-clause-words
unfolding words_of
returns-clause-words c = c.of.ensures ∙ (all-numbered text_of WORDS _ _ _ c.loop-word.word-index c.loop-word-test.false c.loop-word.invariant).numbers

pub returns-in_err-push-clause-names : goal.returns-in_err-push-clause-names
returns-in_err-push-clause-names c = grown-one-more text_of WORDS _ _ _ c.loop-word.word-index _ _ c.loop-word-test.true c.loop-word.invariant c.in_ok-intern.ensures.names
