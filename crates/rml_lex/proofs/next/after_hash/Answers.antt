use Rattle.std.proofs.Common.{arith, refl, get_or, ◌≡◌}
use Rattle.rml_lex.specs.Literal.{char_inside}
use Rattle.rml_lex.specs.Spelling.{hash}
use Rattle.rml_lex.proofs.Longests.{front-longest}
use Rattle.rml_lex.proofs.next.after_hash.Goals as goal

pub returns-in-34 : goal.returns-in-34
returns-in-34 c =
    let quote : get_or c.args.bytes.now 0 0 ≡ 34 = omega arith in
    front-longest hash char_inside c.args.bytes.now _ _ (omega arith) (λ s. rw quote refl) c.char_end-n.ensures
