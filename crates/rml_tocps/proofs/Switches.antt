-- A `switch`, as the pass makes it.
use Rattle.std.proofs.Common.{◌≡◌, ℕ, Bool, true, List, [], ◌∷◌, map, length, refl, sym, ap, ◌∙◌, reverse}
use Rattle.std.specs.Prelude.{◌&&◌, nat_lt}
use Rattle.std.specs.List.{list_all}
use Rattle.rml_terms.specs.Calling.{RelationCalls}
use Rattle.rml_fol.specs.declared.statements.Stmt.{Stmt as Clause}
use Rattle.rml_fol.specs.declared.statements.Case.{Case, out-Case, roll-out-Case, fold-roll-Case}
use Rattle.rml_fol.specs.declared.statements.Tag.{Tag}
use Rattle.rml_fol.specs.declared.statements.Stmt.TheOpen.{Stmt-F as Clause-F}
use Rattle.rml_fol.specs.declared.statements.Stmt.TheVariants as old_of
use Rattle.rml_fol.specs.Ends.{Standing, block_ends, standing, standing_at, alternative_ends_at, case_ends_at}
use Rattle.rml_fol.specs.Expressions.{Vals}
use Rattle.rml_fol.specs.Fits.{Signatures, every, stmt_fits, stmt_fits_at, alternative_fits_at, case_fits_at, tag_fits, vars_fit}
use Rattle.rml_fol.specs.Paid as pays
use Rattle.rml_fol.specs.Paid.{nothing, paid, paid_at, alternative_paid_at, case_paid_at, all_paid}
use Rattle.rml_fol.specs.Scoped as scopes
use Rattle.rml_fol.specs.Scoped.{InScope, at_end, binding, scoped, scoped_at, alternative_scoped_at, case_scoped_at, all_scoped}
use Rattle.rml_fol.specs.Statements as clauses
use Rattle.rml_fol.specs.Statements.{Scoped, alternative_at, choice_at}
use Rattle.rml_cps.specs.declared.statements.Continuation.{Continuation}
use Rattle.rml_cps.specs.declared.statements.Stmt.{Stmt}
use Rattle.rml_cps.specs.declared.statements.Stmt.TheVariants as stmt
use Rattle.rml_cps.specs.declared.statements.Stmt.TheOpen.{Stmt-F}
use Rattle.rml_cps.specs.declared.statements.Case.{Case as NewCase, out-Case as out-NewCase, roll-out-Case as roll-out-NewCase, fold-roll-Case as fold-roll-NewCase}
use Rattle.rml_cps.specs.Acts.{acts-Switch}
use Rattle.rml_cps.specs.Statements as cps
use Rattle.rml_cps.specs.Statements.{RelationActs, Doing, Action, Choice, block, in_turn, action, choice, act}
use Rattle.rml_tocps.specs.Carries.{take_all}
use Rattle.rml_tocps.specs.Cases.{BothCase, EachCarries, old_case, new_case, old_switch, new_switch, new_fields}
use Rattle.rml_tocps.specs.Passing.{case_scoped, case_paid, case_ends, case_fits, made, IsFree, Passes, CaseMade, CasesMade}
use Rattle.rml_tocps.proofs.Cases.{switch_carries}
use Rattle.rml_tocps.proofs.Passing.{two, opens, bound-there}
use Rattle.rml_tocps.proofs.Choices.{both-as, fits-all, ending-true}

-- what a case does, and its tests
record OpensCase (k : Case) : Type 0 where
  acts : (vals : Vals) (olds : RelationCalls) → clauses.choice vals olds k ≡ record { tag = (out-Case k).tag; vars = (out-Case k).vars; block = clauses.block vals olds (out-Case k).block }
  scopes : case_scoped k ≡ (λ given. binding (out-Case k).vars (scopes.in_turn (map scoped (out-Case k).block) given))
  pays : case_paid k ≡ pays.in_turn (map paid (out-Case k).block)
  ends : case_ends k ≡ block_ends (map standing (out-Case k).block)
  fits : (n : Signatures) (vars bodies : ℕ) → case_fits n vars bodies k ≡ (tag_fits n (length (out-Case k).vars) (out-Case k).tag && vars_fit vars (out-Case k).vars && every (map (stmt_fits n vars bodies) (out-Case k).block))

opens-case : (k : Case) → OpensCase k
opens-case k = record {
  acts = λ vals olds. ap (clauses.choice vals olds) (sym (roll-out-Case k)) ∙ fold-roll-Case clauses.Action Scoped clauses.Choice (clauses.act vals olds) (alternative_at vals olds) (choice_at vals olds) (out-Case k);
  scopes = ap case_scoped (sym (roll-out-Case k)) ∙ fold-roll-Case scopes.Action scopes.Block scopes.Block scoped_at alternative_scoped_at case_scoped_at (out-Case k);
  pays = ap case_paid (sym (roll-out-Case k)) ∙ fold-roll-Case pays.Action pays.Block pays.Block paid_at alternative_paid_at case_paid_at (out-Case k);
  ends = ap case_ends (sym (roll-out-Case k)) ∙ fold-roll-Case Standing Bool Bool standing_at alternative_ends_at case_ends_at (out-Case k);
  fits = λ n vars bodies. ap (case_fits n vars bodies) (sym (roll-out-Case k)) ∙ fold-roll-Case Bool Bool Bool (stmt_fits_at n vars bodies) alternative_fits_at (case_fits_at n vars) (out-Case k);
}

module _ (own to : ℕ) (h : Continuation) (x : ℕ) where
  -- the cases in both forms
  boths : (ks : List Case) (cs : List NewCase) → CasesMade own to h x ks cs → List BothCase
  boths [] [] m = []
  boths [] (c ∷ cs) m = absurd m
  boths (k ∷ ks) [] m = absurd m
  boths (k ∷ ks) (c ∷ cs) m = record { tag = (out-Case k).tag; vars = (out-Case k).vars; old = λ vals olds. clauses.block vals olds (out-Case k).block; new = made m.0.lines } ∷ boths ks cs m.1

  olds-same : (vals : Vals) (olds : RelationCalls) (ks : List Case) (cs : List NewCase) (m : CasesMade own to h x ks cs) → map (clauses.choice vals olds) ks ≡ map (old_case vals olds) (boths ks cs m)
  unfolding boths
  olds-same vals olds [] [] m = refl
  olds-same vals olds [] (c ∷ cs) m = absurd m
  olds-same vals olds (k ∷ ks) [] m = absurd m
  olds-same vals olds (k ∷ ks) (c ∷ cs) m =
      ap (λ (z : clauses.Choice). z ∷ map (clauses.choice vals olds) ks) ((opens-case k).acts vals olds)
      ∙ ap (λ (zs : List clauses.Choice). record { tag = (out-Case k).tag; vars = (out-Case k).vars; block = clauses.block vals olds (out-Case k).block } ∷ zs) (olds-same vals olds ks cs m.1)

  new-same : (vals : Vals) (news : RelationActs) (k : Case) (c : NewCase) (m : CaseMade own to h x k c) → choice vals news c ≡ record { tag = (out-Case k).tag; block = new_fields x 1 (out-Case k).vars vals news (made m.lines vals news) }
  new-same vals news k c m =
      let both : Tag → Doing → Choice = λ t d. record { tag = t; block = d } in
      ap (choice vals news) (sym (roll-out-NewCase c)) ∙ fold-roll-NewCase Action Choice (act vals news) (cps.choice_at vals news) (out-NewCase c)
      ∙ ap (λ (t : Tag). both t (block vals news (out-NewCase c).block)) m.tag ∙ ap (λ (d : Doing). both (out-Case k).tag d) (m.taken vals news)

  news-same : (vals : Vals) (news : RelationActs) (ks : List Case) (cs : List NewCase) (m : CasesMade own to h x ks cs) → map (choice vals news) cs ≡ map (new_case x vals news) (boths ks cs m)
  unfolding boths
  news-same vals news [] [] m = refl
  news-same vals news [] (c ∷ cs) m = absurd m
  news-same vals news (k ∷ ks) [] m = absurd m
  news-same vals news (k ∷ ks) (c ∷ cs) m =
      ap (λ (z : Choice). z ∷ map (choice vals news) cs) (new-same vals news k c m.0)
      ∙ ap (λ (zs : List Choice). record { tag = (out-Case k).tag; block = new_fields x 1 (out-Case k).vars vals news (made m.0.lines vals news) } ∷ zs) (news-same vals news ks cs m.1)

  each-carries : (n : Signatures) (bodies : ℕ) (s : InScope) (c : ℕ) (taken : ℕ → Bool) (ks : List Case) (cs : List NewCase) (m : CasesMade own to h x ks cs) → every (map (case_fits n own bodies) ks) ≡ true → every (map case_ends ks) ≡ true
      → all_scoped (map case_scoped ks) at_end s ≡ true → all_paid (map case_paid ks) nothing c ≡ true → IsFree own to s.vars taken → EachCarries h c taken (boths ks cs m)
  unfolding boths
  each-carries n bodies s c taken [] [] m fit ended known enough free = tt
  each-carries n bodies s c taken [] (e ∷ cs) m fit ended known enough free = absurd m
  each-carries n bodies s c taken (k ∷ ks) [] m fit ended known enough free = absurd m
  each-carries n bodies s c taken (k ∷ ks) (e ∷ cs) m fit ended known enough free =
      let o = opens-case k in
      let fits = two (case_fits n own bodies k) (every (map (case_fits n own bodies) ks)) fit in
      let ends = two (case_ends k) (every (map case_ends ks)) ended in
      let knowns = two (case_scoped k at_end s) (all_scoped (map case_scoped ks) at_end s) known in
      let paids = two (case_paid k nothing c) (all_paid (map case_paid ks) nothing c) enough in
      let parts = two (tag_fits n (length (out-Case k).vars) (out-Case k).tag && vars_fit own (out-Case k).vars) (every (map (stmt_fits n own bodies) (out-Case k).block)) (sym (o.fits n own bodies) ∙ fits.first) in
      let bound = bound-there own to (out-Case k).vars taken (scopes.in_turn (map scoped (out-Case k).block) at_end) s (two (tag_fits n (length (out-Case k).vars) (out-Case k).tag) (vars_fit own (out-Case k).vars) parts.first).second
      (ap (λ (b : scopes.Block). b at_end s) (sym o.scopes) ∙ knowns.first) free in
      (bound.new, m.0.passes.by bound.scope c (take_all (out-Case k).vars taken) (fits-all own n bodies (out-Case k).block parts.second) (sym o.ends ∙ ends.first) bound.passes (ap (λ (b : pays.Block). b nothing c) (sym o.pays) ∙ paids.first) bound.free, each-carries n bodies s c taken ks cs m.1 fits.second ends.second knowns.second paids.second free)

pub switch-passes : (own to : ℕ) (h : Continuation) (x : ℕ) (ks : List Case) (cs : List NewCase) (otherwise xs : List Clause) (other : List Stmt) → CasesMade own to h x ks cs → Passes own to h otherwise (made other)
    → Passes own to h (old_of.Switch x ks otherwise ∷ xs) (made (stmt.Switch x cs (reverse other) ∷ []))
switch-passes own to h x ks cs otherwise xs other m p = record {
  by = λ s c taken fit ended known enough free.
      let o = opens (old_of.Switch x ks otherwise) (Clause-F.Switch x ks otherwise) (old_of.rolls-Switch x ks otherwise) in
      let sig = fit.signatures in
      let fits_all = two (nat_lt x own && every (map (case_fits sig own fit.bodies) ks)) (every (map (stmt_fits sig own fit.bodies) otherwise)) (sym (o.fits sig own fit.bodies) ∙ (two _ (list_all (stmt_fits sig own fit.bodies) xs) fit.fit).first) in
      let fits = two (nat_lt x own) (every (map (case_fits sig own fit.bodies) ks)) fits_all.first in
      let ends = two (every (map case_ends ks)) (block_ends (map standing otherwise)) (ending-true _ (map standing xs) (ap (λ (z : Standing). block_ends (z ∷ map standing xs)) (sym o.stands) ∙ ended)) in
      let known_all = two (s.vars x && all_scoped (map case_scoped ks) at_end s) (scopes.in_turn (map scoped otherwise) at_end s) (ap (λ (a : scopes.Action). a at_end (scopes.in_turn (map scopes.scoped xs) at_end) s) (sym o.scopes) ∙ known) in
      let known_cases = two (s.vars x) (all_scoped (map case_scoped ks) at_end s) known_all.first in
      let paid_all = two (all_paid (map case_paid ks) nothing c) (pays.in_turn (map pays.paid otherwise) nothing c) (ap (λ (a : pays.Action). a nothing (pays.in_turn (map pays.paid xs) nothing) c) (sym o.pays) ∙ enough) in
      let all = boths own to h x ks cs m in
      both-as h c taken (old_switch x all (λ vals olds. clauses.block vals olds otherwise)) (λ vals olds. clauses.block vals olds (old_of.Switch x ks otherwise ∷ xs)) (new_switch x all (made other)) (made (stmt.Switch x cs (reverse other) ∷ []))
      (λ vals olds.
      ap (λ (a : clauses.Action). a (clauses.block vals olds xs)) (o.acts vals olds)
      ∙ ap (λ (zs : List clauses.Choice). clauses.act vals olds (Clause-F.Switch x zs (map (clauses.action vals olds) otherwise)) (clauses.block vals olds xs)) (olds-same own to h x vals olds ks cs m))
      (λ vals news.
      ap (λ (a : Action). a (in_turn [])) (acts-Switch vals news x cs (reverse other))
      ∙ ap (λ (zs : List Choice). act vals news (Stmt-F.Switch x zs (map (action vals news) (reverse other))) (in_turn [])) (news-same own to h x vals news ks cs m))
      (switch_carries h c taken x all (λ vals olds. clauses.block vals olds otherwise) (made other)
      (each-carries own to h x sig fit.bodies s c taken ks cs m fits.second ends.first known_cases.second paid_all.first free)
      (p.by s c taken (fits-all own sig fit.bodies otherwise fits_all.second) ends.second known_all.second paid_all.second free));
}
