-- The walk over a signature.
use Rattle.std.proofs.Common.{◌≡◌, List, ◌++◌, map, sym, ap, ◌∙◌}
use Rattle.rml_syntax.specs.declared.types.TypeExp.{TypeExp}
use Rattle.rml_syntax.specs.declared.types.Sig.{Sig, fold-roll-Sig}
use Rattle.rml_scopes.specs.declared.walk.Walk.{Walk}
use Rattle.rml_scopes.specs.declared.world.World.{World}
use Rattle.rml_scopes.specs.Steps.{Step, joined, sig_at, sig_steps, type_at, type_steps}
use Rattle.rml_scopes.specs.Walks.{run}
use Rattle.rml_walks.proofs.Runs.{run_over}

sig_is : (s : Sig) → sig_steps s ≡ joined (map type_steps s.inputs) ++ joined (map type_steps s.outputs)
sig_is s = fold-roll-Sig (List Step) (List Step) type_at sig_at (record { inputs = s.inputs; outputs = s.outputs })

-- its inputs, and then its outputs
pub run_sig : (w : World) (s : Sig) (inputs outputs : List TypeExp) (walk mid end : Walk) → inputs ≡ s.inputs → outputs ≡ s.outputs
    → mid ≡ run w walk (joined (map type_steps inputs)) → end ≡ run w mid (joined (map type_steps outputs)) → end ≡ run w walk (sig_steps s)
run_sig w s inputs outputs walk mid end i o first second =
    second ∙ ap (λ z. run w z (joined (map type_steps outputs))) first
    ∙ sym (run_over w (joined (map type_steps inputs)) (joined (map type_steps outputs)) walk)
    ∙ ap (λ xs. run w walk (joined (map type_steps xs) ++ joined (map type_steps outputs))) i
    ∙ ap (λ ys. run w walk (joined (map type_steps s.inputs) ++ joined (map type_steps ys))) o
    ∙ ap (λ z. run w walk z) (sym (sig_is s))
