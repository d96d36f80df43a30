-- A piece that is written by parts: what was written so far is a front of it.
use Rattle.std.proofs.Common.{◌≡◌, ℕ, ◌+◌, ◌-◌, List, [], ◌++◌, length, take, drop, None, Some, refl, sym, ap, ◌∙◌, append_assoc, append-nil, length-append, take-append-drop, take_all, length-drop, arith}
use Rattle.std.specs.declared.option.Option.{Option}
use Rattle.std.proofs.Math.Seq.{take-append-add}
use Rattle.rml_io.specs.Sink.{and_bytes, TookFront}

pub and_bytes-nil : (told : Option (List ℕ)) → and_bytes told [] ≡ told
and_bytes-nil None = refl
and_bytes-nil (Some text) = ap (λ t. Some t) (append-nil text)

pub and_bytes-twice : (told : Option (List ℕ)) (xs ys : List ℕ) → and_bytes (and_bytes told xs) ys ≡ and_bytes told (xs ++ ys)
and_bytes-twice None xs ys = refl
and_bytes-twice (Some text) xs ys = ap (λ t. Some t) (append_assoc text xs ys)

-- all of the piece but its rest was written
pub record WroteTo (before now : Option (List ℕ)) (piece rest : List ℕ) : Type 0 where
  pub front : List ℕ
  pub whole : piece ≡ front ++ rest
  pub written : now ≡ and_bytes before front

pub wrote_nothing : (told : Option (List ℕ)) (piece : List ℕ) → WroteTo told told piece piece
wrote_nothing told piece = record { front = []; whole = refl; written = sym (and_bytes-nil told) }

-- what `&rest[count..]` is
past : (count : ℕ) (rest : List ℕ) → take (length rest - count) (drop count rest) ≡ drop count rest
past count rest = take_all (length rest - count) (drop count rest) (omega (arith, length-drop count rest))

pub wrote_more : (before now after : Option (List ℕ)) (piece rest : List ℕ) (count : ℕ) → WroteTo before now piece rest
    → after ≡ and_bytes now (take count rest) → WroteTo before after piece (take (length rest - count) (drop count rest))
wrote_more before now after piece rest count wrote more = record {
  front = wrote.front ++ take count rest;
  whole = wrote.whole ∙ ap (λ r. wrote.front ++ r) (sym (take-append-drop count rest) ∙ ap (λ r. take count rest ++ r) (sym (past count rest)))
      ∙ sym (append_assoc wrote.front (take count rest) (take (length rest - count) (drop count rest)));
  written = more ∙ ap (λ t. and_bytes t (take count rest)) wrote.written ∙ and_bytes-twice before wrote.front (take count rest);
}

pub wrote_front : (before now after : Option (List ℕ)) (piece rest : List ℕ) → WroteTo before now piece rest
    → TookFront now after rest → TookFront before after piece
wrote_front before now after piece rest wrote took = record {
  count = length wrote.front + took.count;
  within = omega (arith, took.within, ap length wrote.whole, length-append wrote.front rest);
  taken = took.taken ∙ ap (λ t. and_bytes t (take took.count rest)) wrote.written
      ∙ and_bytes-twice before wrote.front (take took.count rest)
      ∙ ap (and_bytes before) (sym (take-append-add wrote.front rest took.count) ∙ ap (take (length wrote.front + took.count)) (sym wrote.whole));
}

-- a write that took nothing
pub wrote_no_more : (before now after : Option (List ℕ)) (piece rest : List ℕ) → WroteTo before now piece rest
    → after ≡ and_bytes now [] → TookFront before after piece
wrote_no_more before now after piece rest wrote none =
    wrote_front before now after piece rest wrote record { count = 0; within = omega arith; taken = none }

pub wrote_all : (before now : Option (List ℕ)) (piece rest : List ℕ) → WroteTo before now piece rest → rest ≡ [] → now ≡ and_bytes before piece
wrote_all before now piece rest wrote end =
    wrote.written ∙ ap (and_bytes before) (sym (wrote.whole ∙ ap (λ r. wrote.front ++ r) end ∙ append-nil wrote.front))
