-- A `cond` and a named body, as the pass makes them, and a relation of which the block is carried.
use Rattle.std.proofs.Common.{◌≡◌, ℕ, ◌+◌, ◌-◌, ◌<◌, ◌≤◌, Bool, true, false, List, [], ◌∷◌, ◌++◌, map, length, refl, sym, ap, subst, ◌∙◌, reverse, arith}
use Rattle.std.specs.Prelude.{◌&&◌, nat_lt, nat_le, is_none}
use Rattle.std.specs.List.{list_all}
use Rattle.std.proofs.lemmas.Bool.{leb-true}
use Rattle.std.proofs.lemmas.Bool.Decides.{nat_tests}
use Rattle.rml_base.specs.Run.{step}
use Rattle.rml_simulation.specs.Partial.{followed}
use Rattle.rml_simulation.specs.Simulates.{Simulates}
use Rattle.rml_simulation.specs.Moves.{more_weighed}
use Rattle.rml_terms.specs.Calling.{RelationCalls}
use Rattle.rml_fol.specs.declared.parts.Relation as clause_relation
use Rattle.rml_fol.specs.declared.statements.Stmt.{Stmt as Clause}
use Rattle.rml_fol.specs.declared.statements.Stmt.TheOpen.{Stmt-F as Clause-F}
use Rattle.rml_fol.specs.declared.statements.Stmt.TheVariants as old_of
use Rattle.rml_fol.specs.Ends.{Standing, block_ends, goal_ends, naming, standing, relation_ends}
use Rattle.rml_fol.specs.Expressions.{Vals}
use Rattle.rml_fol.specs.Fits.{Signatures, every, stmt_fits, vars_fit, relation_fits}
use Rattle.rml_fol.specs.Paid as pays
use Rattle.rml_fol.specs.Paid.{Paid, nothing, paid, entry_spares, frame_cost, relation_is_paid}
use Rattle.rml_fol.specs.Scoped as scopes
use Rattle.rml_fol.specs.Scoped.{Checked, at_end, scoped, binding, knows_all, second_block, without_bodies, with_body as body_known, at_beginning, relation_is_scoped}
use Rattle.rml_fol.specs.Statements as clauses
use Rattle.rml_fol.specs.Statements.{Scoped, no_bodies}
use Rattle.rml_cps.specs.declared.parts.Relation.{Relation}
use Rattle.rml_cps.specs.declared.statements.Continuation.{Continuation}
use Rattle.rml_cps.specs.declared.statements.Continuation.TheVariants as continuation
use Rattle.rml_cps.specs.declared.statements.Stmt.{Stmt}
use Rattle.rml_cps.specs.declared.statements.Stmt.TheVariants as stmt
use Rattle.rml_cps.specs.Acts.{acts-Failure, acts-Body}
use Rattle.rml_cps.specs.Statements.{RelationActs, Doing, Action, block}
use Rattle.rml_tocps.specs.declared.pass.numbers.Numbers.{Numbers}
use Rattle.rml_tocps.specs.Carries.{done, take_all}
use Rattle.rml_tocps.specs.Blocks.{OldBlock, NewBlock, FirstCarries, RelationCarries, first_taken, old_before, new_before, old_last, new_or, old_cond, old_body, new_body}
use Rattle.rml_tocps.specs.Passing.{made, IsUnder, old_front, Before, Passes}
use Rattle.rml_tocps.proofs.Blocks.{first_carries, cond_carries, body_carries}
use Rattle.rml_tocps.proofs.Relations.{relation_carries}
use Rattle.rml_tocps.proofs.Passing.{two, opens, line-made, bound-there}
use Rattle.rml_tocps.proofs.Choices.{both-as, scoped-split, paid-split, goes-front, under-other, free-less, fits-front, fits-all, front-old, ending-true}

-- ---- a `cond`

first-renewed : (h inner : Continuation) (s : ℕ) (p : ℕ → Bool) (old old2 second : OldBlock) (new new2 : NewBlock) → ((vals : Vals) (olds : RelationCalls) → old2 vals olds ≡ old vals olds) → ((vals : Vals) (news : RelationActs) → new2 vals news ≡ new vals news)
    → FirstCarries h inner s p old second new → FirstCarries h inner s p old2 second new2
first-renewed h inner s p old old2 second new new2 same_old same_new b = record {
  by = λ vals olds news i below j ij c k f g bodies scope follows fails fails2 env env2 store agrees.
      subst (λ (y : Doing). Simulates j (more_weighed s c) (λ n. followed (old2 vals olds no_bodies env store n) (λ a m. followed (second vals olds bodies (env ++ a.env) a.store m) (done k) (step f)) (step g)) (y scope env2 store)) (sym (same_new vals news))
      (subst (λ (z : Scoped). Simulates j (more_weighed s c) (λ n. followed (z no_bodies env store n) (λ a m. followed (second vals olds bodies (env ++ a.env) a.store m) (done k) (step f)) (step g)) (new vals news scope env2 store)) (sym (same_old vals olds))
      (b.by vals olds news i below j ij c k f g bodies scope follows fails fails2 env env2 store agrees));
}

pub cond-passes : (own : ℕ) (low : ℕ) (mid to : Numbers) (h : Continuation) (n : ℕ) (first second third front : List Clause) (xs : List ℕ) (after : List Clause) (other answered tried new : List Stmt) → IsUnder h n → n < mid.name → low ≤ to.variable → mid.variable ≤ to.variable
    → first ≡ front ++ old_of.Give xs ∷ [] → Passes own low h third (made other) → Passes own mid.variable h second (made answered) → Before own mid to (continuation.Named n) front answered tried
    → new ≡ tried ++ stmt.Failure n (reverse other) ∷ [] → Passes own to.variable h (old_of.Cond first second third ∷ after) (made new)
cond-passes own low mid to h n first second third front xs after other answered tried new under less low_le mid_le is third_passes second_passes inner made_so = record {
  by = λ s c taken fit ended known enough free.
      let o = opens (old_of.Cond first second third) (Clause-F.Cond first second third) (old_of.rolls-Cond first second third) in
      let sig = fit.signatures in
      let last = old_of.Give xs ∷ [] in
      let fits_all = two (every (map (stmt_fits sig own fit.bodies) first) && every (map (stmt_fits sig own fit.bodies) second)) (every (map (stmt_fits sig own fit.bodies) third))
      (sym (o.fits sig own fit.bodies) ∙ (two _ (list_all (stmt_fits sig own fit.bodies) after) fit.fit).first) in
      let fits = two (every (map (stmt_fits sig own fit.bodies) first)) (every (map (stmt_fits sig own fit.bodies) second)) fits_all.first in
      let ends_all = two (goal_ends (map standing first) && block_ends (map standing second)) (block_ends (map standing third))
      (ending-true _ (map standing after) (ap (λ (z : Standing). block_ends (z ∷ map standing after)) (sym o.stands) ∙ ended)) in
      let ends = two (goal_ends (map standing first)) (block_ends (map standing second)) ends_all.first in
      let giving = second_block (scopes.in_turn (map scopes.scoped second)) at_end s in
      let known_all = two (scopes.in_turn (map scopes.scoped first) giving (without_bodies s)) (scopes.in_turn (map scopes.scoped third) at_end s)
      (ap (λ (a : scopes.Action). a at_end (scopes.in_turn (map scopes.scoped after) at_end) s) (sym o.scopes) ∙ known) in
      let paying = pays.in_turn (map pays.paid second) nothing in
      let paid_all = two (nat_le frame_cost c && pays.in_turn (map pays.paid first) paying (c - frame_cost)) (pays.in_turn (map pays.paid third) nothing entry_spares)
      (ap (λ (a : pays.Action). a nothing (pays.in_turn (map pays.paid after) nothing) c) (sym o.pays) ∙ enough) in
      let paid_here = two (nat_le frame_cost c) (pays.in_turn (map pays.paid first) paying (c - frame_cost)) paid_all.first in
      let some : frame_cost ≤ c = leb-true frame_cost c paid_here.first in
      let give = opens (old_of.Give xs) (Clause-F.Give xs) (old_of.rolls-Give xs) in
      let gone = inner.by less (without_bodies s) (c - frame_cost) taken giving (scopes.in_turn (map scopes.scoped last) giving) paying (pays.in_turn (map pays.paid last) paying)
      (fits-front own sig fit.bodies front last (ap (λ (ss : List Clause). every (map (stmt_fits sig own fit.bodies) ss)) (sym is) ∙ fits.first))
      (goes-front front (old_of.Give xs) (ap (λ (ss : List Clause). goal_ends (map standing ss)) (sym is) ∙ ends.first))
      (ap (λ (k : Checked). k (without_bodies s)) (sym (scoped-split front last giving) ∙ ap (λ (ss : List Clause). scopes.in_turn (map scopes.scoped ss) giving) (sym is)) ∙ known_all.first)
      (ap (λ (k : Paid). k (c - frame_cost)) (sym (paid-split front last paying) ∙ ap (λ (ss : List Clause). pays.in_turn (map pays.paid ss) paying) (sym is)) ∙ paid_here.second) free in
      let given = two (knows_all gone.scope.vars xs) (giving gone.scope) (ap (λ (a : scopes.Action). a giving (scopes.in_turn [] giving) gone.scope) (sym give.scopes) ∙ gone.scoped) in
      let second_carries = second_passes.by (record gone.scope { bodies = s.bodies }) gone.left gone.after (fits-all own sig fit.bodies second fits.second) ends.second given.second
      (ap (λ (a : pays.Action). a paying (pays.in_turn [] paying) gone.left) (sym give.pays) ∙ gone.paid) gone.free in
      let third_carries = third_passes.by s entry_spares taken (fits-all own sig fit.bodies third fits_all.second) ends_all.second known_all.second paid_all.second (free-less own low to.variable s.vars taken low_le free) in
      both-as h c taken (old_cond (λ vals olds. clauses.block vals olds first) (λ vals olds. clauses.block vals olds second) (λ vals olds. clauses.block vals olds third))
      (λ vals olds. clauses.block vals olds (old_of.Cond first second third ∷ after)) (new_or n (made tried) (made other)) (made new)
      (λ vals olds. ap (λ (a : clauses.Action). a (clauses.block vals olds after)) (o.acts vals olds))
      (λ vals news. ap (λ (ms : List Stmt). made ms vals news) made_so ∙ line-made tried (stmt.Failure n (reverse other)) vals news ∙ ap (λ (x : Action). x (made tried vals news)) (acts-Failure vals news n (reverse other)))
      (cond_carries h c (c - frame_cost) 0 entry_spares taken n (λ vals olds. clauses.block vals olds first) (λ vals olds. clauses.block vals olds second) (λ vals olds. clauses.block vals olds third) (made tried) (made other)
      (under-other h n under) (omega arith) (omega arith)
      (first-renewed h (continuation.Named n) (c - frame_cost) taken (old_before (old_front front) (old_last (Clause-F.Give xs))) (λ vals olds. clauses.block vals olds first) (λ vals olds. clauses.block vals olds second)
      (new_before inner.change (made answered)) (made tried) (λ vals olds. front-old vals olds front xs first is) inner.is
      (first_carries h (continuation.Named n) (c - frame_cost) gone.left taken gone.after (old_front front) inner.change xs (λ vals olds. clauses.block vals olds second) (made answered) gone.carries second_carries))
      third_carries);
}

-- ---- a named body

naming-true : (b : Bool) (rest : List Standing) → block_ends (naming b ∷ rest) ≡ true → (b ≡ true) × (block_ends rest ≡ true)
naming-true true rest h = (refl, h)
naming-true false rest h = absurd (cc)

pub body-passes : (own low to : ℕ) (h : Continuation) (j : ℕ) (ys : List ℕ) (m : ℕ) (inner rest : List Clause) (made_rest named new : List Stmt) → low ≤ to → Passes own low h rest (made made_rest) → Passes own to (continuation.Named m) inner (made named)
    → new ≡ made_rest ++ stmt.Body j ys m (reverse named) ∷ [] → Passes own to h (old_of.Body j ys inner ∷ rest) (made new)
body-passes own low to h j ys m inner rest made_rest named new le rest_passes inner_passes is = record {
  by = λ s c taken fit ended known enough free.
      let o = opens (old_of.Body j ys inner) (Clause-F.Body j ys inner) (old_of.rolls-Body j ys inner) in
      let sig = fit.signatures in
      let fits_row = two _ (list_all (stmt_fits sig own fit.bodies) rest) fit.fit in
      let fits_all = two (nat_lt j fit.bodies && vars_fit own ys) (every (map (stmt_fits sig own fit.bodies) inner)) (sym (o.fits sig own fit.bodies) ∙ fits_row.first) in
      let ends = naming-true _ (map standing rest) (ap (λ (z : Standing). block_ends (z ∷ map standing rest)) (sym o.stands) ∙ ended) in
      let known_all = two (is_none (s.bodies j) && binding ys (scopes.in_turn (map scopes.scoped inner) at_end) s) (scopes.in_turn (map scopes.scoped rest) at_end (body_known j (length ys) s))
      (ap (λ (a : scopes.Action). a at_end (scopes.in_turn (map scopes.scoped rest) at_end) s) (sym o.scopes) ∙ known) in
      let bound = bound-there own to ys taken (scopes.in_turn (map scopes.scoped inner) at_end) s (two (nat_lt j fit.bodies) (vars_fit own ys) fits_all.first).second (two (is_none (s.bodies j)) _ known_all.first).second free in
      let paid_all = two (pays.in_turn (map pays.paid inner) nothing entry_spares) (pays.in_turn (map pays.paid rest) nothing c) (ap (λ (a : pays.Action). a nothing (pays.in_turn (map pays.paid rest) nothing) c) (sym o.pays) ∙ enough) in
      both-as h c taken (old_body j ys (λ vals olds. clauses.block vals olds inner) (λ vals olds. clauses.block vals olds rest)) (λ vals olds. clauses.block vals olds (old_of.Body j ys inner ∷ rest))
      (new_body j ys m (made named) (made made_rest)) (made new) (λ vals olds. ap (λ (a : clauses.Action). a (clauses.block vals olds rest)) (o.acts vals olds))
      (λ vals news. ap (λ (ms : List Stmt). made ms vals news) is ∙ line-made made_rest (stmt.Body j ys m (reverse named)) vals news ∙ ap (λ (x : Action). x (made made_rest vals news)) (acts-Body vals news j ys m (reverse named)))
      (body_carries h c taken j ys m (λ vals olds. clauses.block vals olds inner) (λ vals olds. clauses.block vals olds rest) (made named) (made made_rest) bound.new
      (inner_passes.by bound.scope entry_spares (take_all ys taken) (fits-all own sig fit.bodies inner fits_all.second) ends.0 bound.passes paid_all.first bound.free)
      (rest_passes.by (body_known j (length ys) s) c taken (record { signatures = sig; bodies = fit.bodies; fit = fits_row.second }) ends.1 known_all.second paid_all.second (free-less own low to s.vars taken le free)));
}

-- ---- a relation

pub relation-carried : (vals : Vals) (n : Signatures) (old : clause_relation.Relation) (new : Relation) (to : ℕ) (ms : List Stmt) → new.params ≡ old.params → new.body.stmts ≡ reverse ms → relation_fits n old ≡ true → relation_is_scoped old ≡ true → relation_ends old ≡ true
    → relation_is_paid old ≡ true → Passes old.vars to continuation.Own old.body.stmts (made ms) → RelationCarries vals old new
relation-carried vals n old new to ms params is fit known ended enough p =
    let fits = two (nat_le old.params old.vars) (list_all (stmt_fits n old.vars old.bodies) old.body.stmts) fit in
    let below : old.params ≤ old.vars = leb-true old.params old.vars fits.first in
    relation_carries vals old new entry_spares params (omega arith)
    (both-as continuation.Own entry_spares (first_taken old.params) (λ vals2 olds. clauses.block vals2 olds old.body.stmts) (λ vals2 olds. clauses.block vals2 olds old.body.stmts) (made ms) (λ vals2 news. block vals2 news new.body.stmts) (λ vals2 olds. refl)
    (λ vals2 news. ap (λ (ss : List Stmt). block vals2 news ss) is)
    (p.by (at_beginning old.params) entry_spares (first_taken old.params) (record { signatures = n; bodies = old.bodies; fit = fits.second }) ended known enough
    (record { new = λ x low e. e; fresh = λ x far near. grind (arith, nat_tests) })))
