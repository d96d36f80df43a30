use Rattle.std.proofs.Common.{◌≡◌, ◌<◌, false, List, [], ◌∷◌, length, refl, arith}
use Rattle.std.proofs.lemmas.Bool.Decides.{nat_tests}
use Rattle.rml_types.specs.declared.tree.SchemeTree.{SchemeTree}
use Rattle.rml_resolved.specs.declared.expected.Word.{Word}
use Rattle.rml_resolved.specs.Beginning.{are_words}
use Rattle.rml_fitting.proofs.beginning.+are_of_words.Goals as goal

nothing_left : (ws : List Word) (ts : List SchemeTree) → 0 < length ws → length ts ≡ 0 → false ≡ are_words ws ts
nothing_left [] ts more none = absurd (omega arith)
nothing_left (w ∷ ws) [] more none = refl
nothing_left (w ∷ ws) (t ∷ ts) more none = absurd (omega arith)

pub returns-in-len1-up-empty : goal.returns-in-len1-up-empty
returns-in-len1-up-empty t c = nothing_left c.args.words.now c.args.trees.now (grind (arith, nat_tests)) (grind (arith, nat_tests))
