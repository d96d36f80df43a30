-- The tables as the code makes them, said of the program that they are made of.
use Rattle.std.proofs.Common.{◌≡◌, ℕ, ◌-◌, ◌^◌, ◌<◌, true, List, map, ap, subst, ◌∙◌, arith}
use Rattle.std.specs.Prelude.{min}
use Rattle.rml_resolved.specs.declared.program.Program.{Program}
use Rattle.rml_resolved.specs.declared.tables.TypeDef.{TypeDef}
use Rattle.rml_resolved.specs.declared.tables.ConDef.{ConDef}
use Rattle.rml_resolved.specs.declared.tables.ValDef.{ValDef}
use Rattle.rml_resolved.specs.declared.tables.RelDef.{RelDef}
use Rattle.rml_resolved.specs.Size.{weight}
use Rattle.rml_fol.specs.declared.parts.Constructor.{Constructor}
use Rattle.rml_fol.specs.declared.parts.Val.{Val}
use Rattle.rml_fol.specs.declared.parts.Relation.{Relation}
use Rattle.rml_fol.specs.Size.{weight_of}
use Rattle.rml_clauses.specs.Agrees.{counts_agree}
use Rattle.rml_clauses.specs.Tables.{constructor_of, val_of, AreRelationsOf}
use Rattle.rml_clauses.proofs.Ready.{weight-small}
use Rattle.rml_clauses.proofs.Weighed.{weights-same}

pub constructors-of : (p : Program) (names : List (List ℕ)) (types : List TypeDef) (defs : List ConDef) (cons : List Constructor) → names ≡ p.names → types ≡ p.types → defs ≡ p.cons
    → cons ≡ map (constructor_of names types) defs → cons ≡ map (constructor_of p.names p.types) p.cons
constructors-of p names types defs cons same_names same_types same made =
    made ∙ ap (λ (ns : List (List ℕ)). map (constructor_of ns types) defs) same_names ∙ ap (λ (ts : List TypeDef). map (constructor_of p.names ts) defs) same_types
    ∙ ap (λ (ds : List ConDef). map (constructor_of p.names p.types) ds) same

pub vals-of : (p : Program) (names : List (List ℕ)) (defs : List ValDef) (vals : List Val) → names ≡ p.names → defs ≡ p.vals → vals ≡ map (val_of names) defs → vals ≡ map (val_of p.names) p.vals
vals-of p names defs vals same_names same made = made ∙ ap (λ (ns : List (List ℕ)). map (val_of ns) defs) same_names ∙ ap (λ (ds : List ValDef). map (val_of p.names) ds) same

pub relations-of : (p : Program) (names : List (List ℕ)) (defs : List RelDef) (rels : List Relation) → names ≡ p.names → defs ≡ p.rels → AreRelationsOf names defs rels → AreRelationsOf p.names p.rels rels
relations-of p names defs rels same_names same made =
    subst (λ (ns : List (List ℕ)). AreRelationsOf ns p.rels rels) same_names (subst (λ (ds : List RelDef). AreRelationsOf names ds rels) same made)

-- the count of the code does not stand still
pub total-of : (p : Program) → counts_agree p ≡ true → (vals vs : List Val) (rels rs : List Relation) (total : ℕ) → vals ≡ map (val_of p.names) p.vals → AreRelationsOf p.names p.rels rels
    → vs ≡ vals → rs ≡ rels → total ≡ min (weight_of vs rs) (2 ^ 64 - 1) → (total ≡ weight p.vals p.rels) × (total < 2 ^ 27)
total-of p agree vals vs rels rs total made_vals made_rels same_vals same_rels is =
    let same = weights-same p.names p.vals vals p.rels rels made_vals made_rels in
    let seen = ap (λ (xs : List Val). weight_of xs rs) same_vals ∙ ap (λ (ys : List Relation). weight_of vals ys) same_rels in
    let small = weight-small p agree in
    (omega (arith, same, seen, small, is), omega (arith, same, seen, small, is))
