-- One item after the other behind a list is all of them behind it.
use Rattle.std.proofs.Common.{◌≡◌, List, [], ◌∷◌, ◌++◌, ap, ◌∙◌, append_assoc}

module _ {X : Type 0} (xs : List X) where
  pub two-behind : (a b : X) → (xs ++ a ∷ []) ++ b ∷ [] ≡ xs ++ a ∷ b ∷ []
  two-behind a b = append_assoc xs (a ∷ []) (b ∷ [])

  pub three-behind : (a b c : X) → ((xs ++ a ∷ []) ++ b ∷ []) ++ c ∷ [] ≡ xs ++ a ∷ b ∷ c ∷ []
  three-behind a b c = ap (λ (l : List X). l ++ c ∷ []) (two-behind a b) ∙ append_assoc xs (a ∷ b ∷ []) (c ∷ [])

  pub four-behind : (a b c d : X) → (((xs ++ a ∷ []) ++ b ∷ []) ++ c ∷ []) ++ d ∷ [] ≡ xs ++ a ∷ b ∷ c ∷ d ∷ []
  four-behind a b c d = ap (λ (l : List X). l ++ d ∷ []) (three-behind a b c) ∙ append_assoc xs (a ∷ b ∷ c ∷ []) (d ∷ [])
