-- Walks over joined lists of steps.
use Rattle.std.proofs.Common.{◌≡◌, ℕ, suc, ◌+◌, ◌<◌, List, [], ◌∷◌, ◌++◌, map, drop, length, get_or, refl, sym, ap, ◌∙◌, add-one, drop-cons}
use Rattle.rml_scopes.specs.declared.walk.Walk.{Walk}
use Rattle.rml_scopes.specs.declared.world.World.{World}
use Rattle.rml_syntax.specs.declared.rules.Long.{Long}
use Rattle.rml_scopes.specs.Steps.{Step, Enter, Leave, applied_steps, joined, type_names}
use Rattle.rml_scopes.specs.Walks.{run, walk_step}

pub run_over : (w : World) (xs ys : List Step) (walk : Walk) → run w walk (xs ++ ys) ≡ run w (run w walk xs) ys
run_over w [] ys walk = refl
run_over w (x ∷ xs) ys walk = run_over w xs ys (walk_step w walk x)

-- a turn of a loop over parts of a tree: what was walked, then what is left
pub run_more : {X : Type 0} (w : World) (f : X → List Step) (xs : List X) (i : ℕ) (x : X) (start here next : Walk)
    → i < length xs → x ≡ get_or xs i x
    → run w start (joined (map f xs)) ≡ run w here (joined (map f (drop i xs)))
    → next ≡ run w here (f x)
    → run w start (joined (map f xs)) ≡ run w next (joined (map f (drop (i + 1) xs)))
run_more w f xs i x start here next within is before after =
    let split : drop i xs ≡ x ∷ drop (i + 1) xs = rw add-one (drop-cons xs i x within ∙ ap (λ y. y ∷ drop (suc i) xs) (sym is)) in
    before ∙ ap (λ ys. run w here (joined (map f ys))) split
    ∙ run_over w (f x) (joined (map f (drop (i + 1) xs))) here
    ∙ ap (λ z. run w z (joined (map f (drop (i + 1) xs)))) (sym after)

-- a `not` around some steps
pub run_not : (w : World) (xs : List Step) (walk opened walked closed : Walk)
    → opened ≡ walk_step w walk Enter → walked ≡ run w opened xs → closed ≡ walk_step w walked Leave
    → closed ≡ run w walk (Enter ∷ (xs ++ Leave ∷ []))
run_not w xs walk opened walked closed e h l =
    l ∙ ap (λ z. walk_step w z Leave) (h ∙ ap (λ z. run w z xs) e) ∙ sym (run_over w xs (Leave ∷ []) (walk_step w walk Enter))

length-steps : {X : Type 0} (f : X → List Step) (xs : List X) → length (map f xs) ≡ length xs
length-steps f [] = refl
length-steps f (x ∷ xs) = ap suc (length-steps f xs)

-- arguments, and then the names behind them
pub run_applied : {X : Type 0} (w : World) (f : X → List Step) (xs : List X) (names : List Long) (walk mid end : Walk)
    → mid ≡ run w walk (joined (map f xs)) → end ≡ run w mid (type_names (length xs) names)
    → end ≡ run w walk (applied_steps (map f xs) names)
run_applied w f xs names walk mid end first then_names =
    then_names ∙ ap (λ z. run w z (type_names (length xs) names)) first
    ∙ sym (run_over w (joined (map f xs)) (type_names (length xs) names) walk)
    ∙ ap (λ n. run w walk (joined (map f xs) ++ type_names n names)) (sym (length-steps f xs))
