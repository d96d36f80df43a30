-- The relation that begins with alternatives is carried: where a path begins, enough is to spare for two of them.
use Rattle.std.proofs.Common.{◌≡◌, ℕ, ◌≤◌, Bool, List, [], ◌∷◌, map, refl, ap, ◌∙◌, arith}
use Rattle.rml_terms.specs.Calling.{RelationCalls}
use Rattle.rml_fol.specs.declared.parts.Name.{Name}
use Rattle.rml_fol.specs.declared.statements.Stmt.{Stmt as Clause}
use Rattle.rml_fol.specs.declared.statements.Alternative.{roll-Alternative, fold-roll-Alternative}
use Rattle.rml_fol.specs.declared.statements.Stmt.TheOpen.{Stmt-F as Clause-F}
use Rattle.rml_fol.specs.Acts as clause_acts
use Rattle.rml_fol.specs.Expressions.{Vals}
use Rattle.rml_fol.specs.Statements as clauses
use Rattle.rml_fol.specs.Statements.{Scoped, alternative_at, choice_at}
use Rattle.rml_cps.specs.declared.statements.Continuation.TheVariants as continuation
use Rattle.rml_cps.specs.declared.statements.Stmt.TheOpen.{Stmt-F}
use Rattle.rml_cps.specs.Acts.{acts-Failure, acts-Answer, acts-Fail}
use Rattle.rml_cps.specs.Statements.{Action, block, in_turn}
use Rattle.rml_tocps.specs.Blocks.{BlockCarries, RelationCarries, first_taken, old_last, new_last, old_or, new_or}
use Rattle.rml_tocps.specs.Examples.{gives_on, fails_on, alternatives, answers, other, in_clauses, in_continuations}
use Rattle.rml_tocps.proofs.Choices.{both-as}
use Rattle.rml_tocps.proofs.Blocks.{fail_carries, give_carries, or_carries}
use Rattle.rml_tocps.proofs.Relations.{relation_carries}

first : (taken : ℕ → Bool) → BlockCarries (continuation.Named 0) 6 taken (λ vals olds. clauses.block vals olds gives_on) (λ vals news. block vals news answers)
first taken =
    both-as (continuation.Named 0) 6 taken (old_last (Clause-F.Give (0 ∷ []))) (λ vals olds. clauses.block vals olds gives_on) (new_last (Stmt-F.Answer continuation.Own (0 ∷ []))) (λ vals news. block vals news answers)
    (λ vals olds. ap (λ (a : clauses.Action). a (clauses.in_turn [])) (clause_acts.acts-Give vals olds (0 ∷ []))) (λ vals news. ap (λ (a : Action). a (in_turn [])) (acts-Answer vals news continuation.Own (0 ∷ [])))
    (give_carries (continuation.Named 0) 6 taken (0 ∷ []))

second : (taken : ℕ → Bool) → BlockCarries continuation.Own 12 taken (λ vals olds. clauses.block vals olds fails_on) (λ vals news. block vals news other)
second taken =
    both-as continuation.Own 12 taken (old_last Clause-F.Fail) (λ vals olds. clauses.block vals olds fails_on) (new_last (Stmt-F.Fail continuation.Own)) (λ vals news. block vals news other)
    (λ vals olds. ap (λ (a : clauses.Action). a (clauses.in_turn [])) (clause_acts.acts-Fail vals olds)) (λ vals news. ap (λ (a : Action). a (in_turn [])) (acts-Fail vals news continuation.Own))
    (fail_carries continuation.Own 12 taken)

alternative-is : (vals : Vals) (olds : RelationCalls) (b : List Clause) → clauses.alternative vals olds (roll-Alternative (record { block = b })) ≡ clauses.block vals olds b
alternative-is vals olds b = fold-roll-Alternative clauses.Action Scoped clauses.Choice (clauses.act vals olds) (alternative_at vals olds) (choice_at vals olds) (record { block = b })

old-is : (vals : Vals) (olds : RelationCalls) → map (clauses.alternative vals olds) alternatives ≡ clauses.block vals olds gives_on ∷ clauses.block vals olds fails_on ∷ []
old-is vals olds =
    ap (λ (a : Scoped). a ∷ clauses.alternative vals olds (roll-Alternative (record { block = fails_on })) ∷ []) (alternative-is vals olds gives_on)
    ∙ ap (λ (a : Scoped). clauses.block vals olds gives_on ∷ a ∷ []) (alternative-is vals olds fails_on)

whole : (name : Name) (taken : ℕ → Bool) → BlockCarries continuation.Own 12 taken (λ vals olds. clauses.block vals olds (in_clauses name).body.stmts) (λ vals news. block vals news (in_continuations name).body.stmts)
whole name taken =
    both-as continuation.Own 12 taken (old_or (λ vals olds. clauses.block vals olds gives_on) (λ vals olds. clauses.block vals olds fails_on) (λ vals olds. [])) (λ vals olds. clauses.block vals olds (in_clauses name).body.stmts)
    (new_or 0 (λ vals news. block vals news answers) (λ vals news. block vals news other)) (λ vals news. block vals news (in_continuations name).body.stmts)
    (λ vals olds. ap (λ (a : clauses.Action). a (clauses.in_turn [])) (clause_acts.acts-Or vals olds alternatives) ∙ ap (λ (all : List Scoped). clauses.in_order all) (old-is vals olds))
    (λ vals news. ap (λ (a : Action). a (block vals news answers)) (acts-Failure vals news 0 other))
    (or_carries continuation.Own 12 6 0 12 taken 0 (λ vals olds. clauses.block vals olds gives_on) (λ vals olds. clauses.block vals olds fails_on) (λ vals olds. []) (λ vals news. block vals news answers) (λ vals news. block vals news other)
    (omega arith) (omega arith) (first taken) (second taken))

pub alternatives_carry : (vals : Vals) (name : Name) → RelationCarries vals (in_clauses name) (in_continuations name)
alternatives_carry vals name = relation_carries vals (in_clauses name) (in_continuations name) 12 refl (omega arith) (whole name (first_taken 1))
