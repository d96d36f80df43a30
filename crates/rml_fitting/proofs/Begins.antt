-- Where nothing is left and more is expected.
use Rattle.std.proofs.Common.{◌≡◌, ◌<◌, Bool, false, List, [], ◌∷◌, map, length, refl, arith}
use Rattle.rml_resolved.specs.Beginning.{begins}

pub nothing_left : {X A B : Type 0} (fits : A → B → Bool) (seen : X → A) (ks : List X) (items : List B) → 0 < length ks → length items ≡ 0
    → false ≡ begins fits (map seen ks) items
nothing_left fits seen [] items more none = absurd (omega arith)
nothing_left fits seen (k ∷ ks) [] more none = refl
nothing_left fits seen (k ∷ ks) (x ∷ xs) more none = absurd (omega arith)
