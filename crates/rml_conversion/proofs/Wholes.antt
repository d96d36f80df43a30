-- What is made of relations carries them, and of tables too.
use Rattle.std.proofs.Common.{◌≡◌, ℕ, zero, suc, true, List, [], ◌∷◌, map, refl, arith}
use Rattle.std.specs.Prelude.{slice_get}
use Rattle.std.specs.List.{list_all}
use Rattle.rml_fol.specs.declared.parts.Relation as clause
use Rattle.rml_fol.specs.declared.parts.Parts as clauses
use Rattle.rml_fol.specs.Ends.{relation_ends}
use Rattle.rml_fol.specs.Expressions.{Vals, values_of_vals}
use Rattle.rml_fol.specs.Fits.{Signatures, signatures_of, relation_fits}
use Rattle.rml_fol.specs.Paid.{relation_is_paid}
use Rattle.rml_fol.specs.Scoped.{relation_is_scoped}
use Rattle.rml_cps.specs.declared.statements.Continuation.TheVariants as continuation
use Rattle.rml_tocps.specs.Blocks.{RelationCarries, BothCarry, AreCarried}
use Rattle.rml_tocps.specs.Passing.{Passes, made}
use Rattle.rml_tocps.proofs.Callers.{relation-carried, two}
use Rattle.rml_conversion.specs.Tables.{body_made, relation_made, tables_made}
use Rattle.rml_conversion.proofs.MadeStatements.{stmts-pass}

pub body-passes : (r : clause.Relation) → Passes r.vars (body_made r).numbers.variable continuation.Own r.body.stmts (made (body_made r).lines)
body-passes r = stmts-pass r.vars r.body.stmts continuation.Own (record { variable = r.vars; name = r.bodies }) (omega arith) tt

pub relation-made : (vals : Vals) (n : Signatures) (r : clause.Relation) → relation_fits n r ≡ true → relation_is_scoped r ≡ true → relation_ends r ≡ true → relation_is_paid r ≡ true → RelationCarries vals r (relation_made r)
relation-made vals n r fit known ended enough =
    relation-carried vals n r (relation_made r) (body_made r).numbers.variable (body_made r).lines refl refl fit known ended enough (body-passes r)

each-carried : (vals : Vals) (n : Signatures) (rels : List clause.Relation) → list_all (relation_fits n) rels ≡ true → list_all relation_is_scoped rels ≡ true → list_all relation_ends rels ≡ true → list_all relation_is_paid rels ≡ true
    → (r : ℕ) → BothCarry vals (slice_get rels r) (slice_get (map relation_made rels) r)
each-carried vals n [] fit known ended enough r = tt
each-carried vals n (x ∷ xs) fit known ended enough zero =
    relation-made vals n x (two (relation_fits n x) (list_all (relation_fits n) xs) fit).first (two (relation_is_scoped x) (list_all relation_is_scoped xs) known).first
    (two (relation_ends x) (list_all relation_ends xs) ended).first (two (relation_is_paid x) (list_all relation_is_paid xs) enough).first
each-carried vals n (x ∷ xs) fit known ended enough (suc r) =
    each-carried vals n xs (two (relation_fits n x) (list_all (relation_fits n) xs) fit).second (two (relation_is_scoped x) (list_all relation_is_scoped xs) known).second
    (two (relation_ends x) (list_all relation_ends xs) ended).second (two (relation_is_paid x) (list_all relation_is_paid xs) enough).second r

pub tables-carried : (p : clauses.Parts) → list_all (relation_fits (signatures_of p)) p.rels ≡ true → list_all relation_is_scoped p.rels ≡ true → list_all relation_ends p.rels ≡ true → list_all relation_is_paid p.rels ≡ true
    → AreCarried p (tables_made p)
tables-carried p fit known ended enough = record {
  main = refl;
  vals = refl;
  each = each-carried (values_of_vals p.vals) (signatures_of p) p.rels fit known ended enough;
}
