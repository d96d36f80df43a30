use Rattle.std.proofs.Common.{arith, refl, ◌≡◌}
use Rattle.std.proofs.Common.{get_or}
use Rattle.rml_lex.specs.Comment.{comment_inside}
use Rattle.rml_lex.specs.Spelling.{round}
use Rattle.rml_lex.proofs.Longests.{front-longest}
use Rattle.rml_lex.proofs.next.after_round.Goals as goal

pub returns-in-42 : goal.returns-in-42
returns-in-42 c =
    let star : get_or c.args.bytes.now 0 0 ≡ 42 = omega arith in
    front-longest round comment_inside c.args.bytes.now _ _ (omega arith) (λ s. rw star refl) c.comment_end-n.ensures
