-- Paths, put together.
use Rattle.std.proofs.Common.{ℕ, List}
use Rattle.rml_reach.specs.Paths.{HasEdge, Path, Here, Along}

module _ {edges : List (List ℕ)} where
  pub joined : (a b c : ℕ) → Path edges a b → Path edges b c → Path edges a c
  joined a b c (Here _) q = q
  joined a b c (Along _ m _ e p) q = Along a m c e (joined m b c p q)

  pub further : (a b c : ℕ) → Path edges a b → HasEdge edges b c → Path edges a c
  further a b c p e = joined a b c p (Along b c c e (Here c))
