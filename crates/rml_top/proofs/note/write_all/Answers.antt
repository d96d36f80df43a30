use Rattle.std.proofs.Common.{List, ℕ, Bor}
use Rattle.std.proofs.lemmas.Result.{err_from_is_err_and}
use Rattle.rml_top.proofs.Notes.{wrote-piece}
use Rattle.rml_top.proofs.note.write_all.Goals as goal

pub returns-in_err-write_whole-clause-wrote : goal.returns-in_err-write_whole-clause-wrote
returns-in_err-write_whole-clause-wrote g c =
    let p = err_from_is_err_and c.from_residual.result c.from_residual.ensures.1 in
    rw p.1 (wrote-piece (λ (piece : Bor (List ℕ)). piece.now) c.args.pieces.now c.loop-piece.piece-index _ _ _ _ c.loop-piece-test.true c.loop-piece.invariant.written c.in_err-write_whole.ensures.err)
