use Rattle.std.proofs.Common.{arith, ◌≡◌, ◌++◌, append-nil, length, refl}
use Rattle.rml_lex.specs.Spells.{IsLongest}
use Rattle.rml_lex.proofs.SoFar.{reads-more, sound, spots_at, no_spot, longest-pos, more_names, numbers-more, shown-more}
use Rattle.rml_lex.proofs.tokens.read.Goals as goal
use Rattle.rml_lex.proofs.tokens.read.Goals.{in-Some-2+in_ok-push, in_default-2}

spots_are : (c : goal.After-further-place) → c.match-branch-2.spots.items ≡ c.loop-rest.spots.items ++ spots_at c.loop-rest.place c.in_ok-token.field-0
spots_are c = elim c.match-branch-2.branch [
  | in-Some-2+in_ok-push w ↦ rw (w.spots-is, w.in-Some-2.is) w.in_ok-push.ensures.items
  | in_default-2 w ↦ rw (w.spots-is, no_spot c.loop-rest.place c.in_ok-token.field-0 w.in_default-2.not-Some, append-nil) refl
]

pub loop-rest-preserved : goal.loop-rest-preserved
loop-rest-preserved c =
    let l : IsLongest c.loop-rest.rest.now (length c.split_at.result.0.now) c.in-Some.piece = rw c.split_at.ensures.front_len c.in-Some.ensures in
    record {
      read = reads-more c.args.text c.args.bytes.now c.args.names.now c.loop-rest.rest.now c.loop-rest.place c.loop-rest.spots.items c.loop-rest.names
          c.split_at.result.0.now c.split_at.result.1.now c.in-Some.piece c.in_ok-token.field-0 c.further-place.result c.match-branch-2.spots.items c.token_of.new.names
          c.loop-rest.invariant.read c.split_at.ensures.by_index.0 l (sound c.in-Some.piece c.in_default-piece.not-Faulty)
          c.in_ok-token.ensures.names c.in_ok-token.ensures.token c.further-place.ensures.value (spots_are c);
      numbers = numbers-more c.args.names.now c.loop-rest.names c.token_of.new.names c.loop-rest.spots.items c.match-branch-2.spots.items c.loop-rest.place (c.split_at.result.0.now, c.in-Some.piece)
          (shown-more c.loop-rest.names c.token_of.new.names c.loop-rest.spots.items c.match-branch-2.spots.items c.loop-rest.place (c.split_at.result.0.now, c.in-Some.piece) c.in_ok-token.field-0 c.loop-rest.invariant.read.given c.in_ok-token.ensures.names c.in_ok-token.ensures.token (spots_are c))
          c.loop-rest.invariant.numbers c.in_ok-token.ensures.numbers;
      line = omega (arith, c.loop-rest.invariant.line, c.further-place.ensures.line_within, c.split_at.ensures.back_len, c.split_at.ensures.front_len);
      column = omega (arith, c.loop-rest.invariant.column, c.further-place.ensures.column_within, c.split_at.ensures.back_len, c.split_at.ensures.front_len);
      room = more_names c.loop-rest.names c.token_of.new.names (length c.split_at.result.1.now) (length c.loop-rest.rest.now) (length c.args.bytes.now) c.in-Some.length c.in_ok-token.ensures.names c.split_at.ensures.back_len (longest-pos c.loop-rest.rest.now c.in-Some.length c.in-Some.piece c.in-Some.ensures) c.loop-rest.invariant.room;
    }
