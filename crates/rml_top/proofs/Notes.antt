-- Pieces written one after the other.
use Rattle.std.proofs.Common.{◌≡◌, ℕ, suc, ◌<◌, List, ◌++◌, length, take, drop, get_or, sym, ap, ◌∙◌, arith, length-append, take-append-drop, drop-cons}
use Rattle.std.specs.List.{flat_map}
use Rattle.std.specs.declared.option.Option.{Option}
use Rattle.std.proofs.lemmas.Grind.{flat_map-append}
use Rattle.std.proofs.lemmas.List.{take-append-le}
use Rattle.rml_io.specs.Sink.{and_bytes, TookFront}
use Rattle.rml_io.proofs.Callers.{wrote_front}

-- a front of a text is one of what goes on from it
front-longer : (before after : Option (List ℕ)) (text rest : List ℕ) → TookFront before after text → TookFront before after (text ++ rest)
front-longer before after text rest t = record {
  count = t.count;
  within = omega (arith, t.within, length-append text rest);
  taken = t.taken ∙ ap (λ (x : List ℕ). and_bytes before x) (sym (take-append-le t.count text rest t.within));
}

pieces-at : {X : Type 0} (f : X → List ℕ) (pieces : List X) (i : ℕ) (d : X) → i < length pieces → flat_map f pieces ≡ flat_map f (take i pieces) ++ (f (get_or pieces i d) ++ flat_map f (drop (suc i) pieces))
pieces-at f pieces i d lt =
    ap (λ ps. flat_map f ps) (sym (take-append-drop i pieces)) ∙ flat_map-append f (take i pieces) (drop i pieces)
    ∙ ap (λ ps. flat_map f (take i pieces) ++ flat_map f ps) (drop-cons pieces i d lt)

-- the pieces so far were written, and then a front of the next
pub wrote-piece : {X : Type 0} (f : X → List ℕ) (pieces : List X) (i : ℕ) (d : X) (before now after : Option (List ℕ)) → i < length pieces → now ≡ and_bytes before (flat_map f (take i pieces))
    → TookFront now after (f (get_or pieces i d)) → TookFront before after (flat_map f pieces)
wrote-piece f pieces i d before now after lt e t =
    let tail = flat_map f (drop (suc i) pieces) in
    wrote_front before now after (flat_map f pieces) (f (get_or pieces i d) ++ tail)
    record { front = flat_map f (take i pieces); whole = pieces-at f pieces i d lt; written = e }
    (front-longer now after (f (get_or pieces i d)) tail t)
