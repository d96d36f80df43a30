-- Turns of the loops over parts that are made one behind another.
use Rattle.std.proofs.Common.{◌≡◌, ℕ, ◌+◌, ◌<◌, List, [], ◌∷◌, ◌++◌, map, drop, length, get_or, sym, ap, ◌∙◌, append_assoc}
use Rattle.std.proofs.lemmas.List.{drop_more}
use Rattle.rml_scopes.specs.declared.scope.Scope.{Scope}
use Rattle.rml_rules.specs.Made.{Made, in_turn}

module _ {X Y : Type 0} (f : X → Scope → Made Y) where
  split : (xs : List X) (i : ℕ) (x : X) → i < length xs → x ≡ get_or xs i x → drop i xs ≡ x ∷ drop (i + 1) xs
  split xs i x lt is = drop_more xs i x lt ∙ ap (λ (y : X). y ∷ drop (i + 1) xs) (sym is)

  -- the tree that was made joins those before it
  pub made_more : (xs : List X) (i : ℕ) (x : X) (here next : Scope) (whole made pushed : List Y) (y : Y) → i < length xs → x ≡ get_or xs i x
      → whole ≡ made ++ (in_turn (map f (drop i xs)) here).tree → y ≡ (f x here).tree → next ≡ (f x here).after → pushed ≡ made ++ y ∷ []
      → whole ≡ pushed ++ (in_turn (map f (drop (i + 1) xs)) next).tree
  made_more xs i x here next whole made pushed y lt is before tree after there =
      let rest = map f (drop (i + 1) xs) in
      let parted : (in_turn (map f (drop i xs)) here).tree ≡ y ∷ (in_turn rest next).tree =
      ap (λ (l : List X). (in_turn (map f l) here).tree) (split xs i x lt is) ∙ ap (λ (z : Y). z ∷ (in_turn rest (f x here).after).tree) (sym tree)
      ∙ ap (λ (s : Scope). y ∷ (in_turn rest s).tree) (sym after) in
      before ∙ ap (λ (l : List Y). made ++ l) parted ∙ sym (append_assoc made (y ∷ []) (in_turn rest next).tree) ∙ ap (λ (l : List Y). l ++ (in_turn rest next).tree) (sym there)

  -- the scope goes on
  pub passed_more : (xs : List X) (i : ℕ) (x : X) (here next whole : Scope) → i < length xs → x ≡ get_or xs i x
      → whole ≡ (in_turn (map f (drop i xs)) here).after → next ≡ (f x here).after → whole ≡ (in_turn (map f (drop (i + 1) xs)) next).after
  passed_more xs i x here next whole lt is before after =
      let rest = map f (drop (i + 1) xs) in
      before ∙ ap (λ (l : List X). (in_turn (map f l) here).after) (split xs i x lt is) ∙ ap (λ (s : Scope). (in_turn rest s).after) (sym after)
