-- Gathering over joined lists of steps.
use Rattle.std.proofs.Common.{◌≡◌, ℕ, suc, ◌+◌, ◌<◌, List, [], ◌∷◌, ◌++◌, map, drop, length, get_or, refl, sym, ap, ◌∙◌, add-one, drop-cons}
use Rattle.rml_scopes.specs.declared.world.World.{World}
use Rattle.rml_scopes.specs.Steps.{Step, Enter, Leave, joined}
use Rattle.rml_values.specs.declared.values.Values.{Values}
use Rattle.rml_named.specs.Gathered.{gather, gather_each}
use Rattle.rml_named.specs.declared.gathering.Gathering.{Gathering}

pub gather_over : (w : World) (v : Values) (xs ys : List Step) (g : Gathering) → gather_each w v g (xs ++ ys) ≡ gather_each w v (gather_each w v g xs) ys
gather_over w v [] ys g = refl
gather_over w v (x ∷ xs) ys g = gather_over w v xs ys (gather w v g x)

-- a turn of a loop over parts of a tree: what was walked, then what is left
pub gather_more : {X : Type 0} (w : World) (v : Values) (f : X → List Step) (xs : List X) (i : ℕ) (x : X) (start here next : Gathering)
    → i < length xs → x ≡ get_or xs i x
    → gather_each w v start (joined (map f xs)) ≡ gather_each w v here (joined (map f (drop i xs)))
    → next ≡ gather_each w v here (f x)
    → gather_each w v start (joined (map f xs)) ≡ gather_each w v next (joined (map f (drop (i + 1) xs)))
gather_more w v f xs i x start here next within is before after =
    let split : drop i xs ≡ x ∷ drop (i + 1) xs = rw add-one (drop-cons xs i x within ∙ ap (λ y. y ∷ drop (suc i) xs) (sym is)) in
    before ∙ ap (λ ys. gather_each w v here (joined (map f ys))) split
    ∙ gather_over w v (f x) (joined (map f (drop (i + 1) xs))) here
    ∙ ap (λ z. gather_each w v z (joined (map f (drop (i + 1) xs)))) (sym after)

-- a `not` around some steps
pub gather_not : (w : World) (v : Values) (xs : List Step) (g opened walked closed : Gathering)
    → opened ≡ gather w v g Enter → walked ≡ gather_each w v opened xs → closed ≡ gather w v walked Leave
    → closed ≡ gather_each w v g (Enter ∷ (xs ++ Leave ∷ []))
gather_not w v xs g opened walked closed e h l =
    l ∙ ap (λ z. gather w v z Leave) (h ∙ ap (λ z. gather_each w v z xs) e) ∙ sym (gather_over w v xs (Leave ∷ []) (gather w v g Enter))
