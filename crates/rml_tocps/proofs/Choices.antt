-- Statements with blocks, and those that nothing follows, as the pass makes them.
use Rattle.std.proofs.Common.{◌≡◌, ℕ, ◌+◌, ◌-◌, ◌<◌, ◌≤◌, Bool, true, false, List, [], ◌∷◌, ◌++◌, map, Option, Some, None, refl, sym, ap, subst, ◌∙◌, reverse, arith}
use Rattle.std.specs.Prelude.{◌&&◌, ◌==◌, nat_le}
use Rattle.std.specs.List.{list_all}
use Rattle.std.proofs.lemmas.Bool.{leb-true, ne_eqb}
use Rattle.std.proofs.lemmas.List.Folds.{list_all-append, list_all-map}
use Rattle.rml_base.specs.Run.{Rest, step}
use Rattle.rml_simulation.specs.declared.partial.Partial.TheVariants.{Yes, No}
use Rattle.rml_simulation.specs.Partial.{untraced, followed}
use Rattle.rml_simulation.specs.Simulates.{Credit, Simulates}
use Rattle.rml_simulation.specs.Moves.{more_weighed}
use Rattle.rml_simulation.proofs.Callers.{old_wrong}
use Rattle.rml_builtin.specs.Applied.{Store}
use Rattle.rml_terms.specs.Env.{Env}
use Rattle.rml_terms.specs.Calling.{RelationCalls, with_value}
use Rattle.rml_fol.specs.declared.statements.Stmt.{Stmt as Clause}
use Rattle.rml_fol.specs.declared.statements.Stmt.TheOpen.{Stmt-F as Clause-F}
use Rattle.rml_fol.specs.declared.statements.Stmt.TheVariants as old_of
use Rattle.rml_fol.specs.declared.statements.Alternative.{Alternative, out-Alternative, fold-roll-Alternative, roll-out-Alternative}
use Rattle.rml_fol.specs.Ends.{Standing, goes_on, names, ends, answers, broken, block_ends, goal_ends, going_on, ending, standing, standing_at, alternative_ends_at, case_ends_at}
use Rattle.rml_fol.specs.Expressions.{Vals}
use Rattle.rml_fol.specs.Fits.{Signatures, every, stmt_fits, stmt_fits_at, alternative_fits_at, case_fits_at}
use Rattle.rml_fol.specs.Paid as pays
use Rattle.rml_fol.specs.Paid.{Paid, nothing, paid, paid_at, alternative_paid_at, case_paid_at, entry_spares, frame_cost}
use Rattle.rml_fol.specs.Scoped as scopes
use Rattle.rml_fol.specs.Scoped.{InScope, Checked, at_end, scoped, scoped_at, alternative_scoped_at, case_scoped_at, without_bodies, all_scoped}
use Rattle.rml_fol.specs.Statements as clauses
use Rattle.rml_fol.specs.Statements.{Given, Scoped, no_bodies, bindings_of, alternative_at, choice_at}
use Rattle.rml_cps.specs.declared.statements.Continuation.{Continuation}
use Rattle.rml_cps.specs.declared.statements.Continuation.TheVariants as continuation
use Rattle.rml_cps.specs.declared.statements.Stmt.{Stmt}
use Rattle.rml_cps.specs.declared.statements.Stmt.TheVariants as stmt
use Rattle.rml_cps.specs.declared.statements.Stmt.TheOpen.{Stmt-F}
use Rattle.rml_cps.specs.Acts.{acts-Failure, acts-Answer, acts-Fail, acts-Goto}
use Rattle.rml_cps.specs.Statements.{RelationActs, Doing, Action, in_turn, action, is_named, fails_to}
use Rattle.rml_tocps.specs.declared.pass.numbers.Numbers.{Numbers}
use Rattle.rml_tocps.specs.Carries.{done, Goes, Carries}
use Rattle.rml_tocps.specs.Pass.{Old, New, new_not, GoalCarries}
use Rattle.rml_tocps.specs.Blocks.{OldBlock, NewBlock, BlockCarries, old_before, new_before, old_last, new_last, old_or, new_or}
use Rattle.rml_tocps.specs.Passing.{alternative_scoped, alternative_paid, alternative_ends, alternative_fits, AllPass, made, IsFree, IsUnder, AreFit, scoped_front, paid_front, old_front, all_go_on, Before, Passes}
use Rattle.rml_tocps.proofs.Moves.{both_fail, fails_lower}
use Rattle.rml_tocps.proofs.Statements.{not_carries}
use Rattle.rml_tocps.proofs.Blocks.{fail_carries, give_carries, goto_carries, or_carries}
use Rattle.rml_tocps.proofs.Passing.{two, opens, one, line-made, carries-as}

-- ---- statements in front, and what follows them

pub scoped-split : (xs ys : List Clause) (given : Checked) → scopes.in_turn (map scoped (xs ++ ys)) given ≡ scoped_front xs given (scopes.in_turn (map scoped ys) given)
scoped-split [] ys given = refl
scoped-split (x ∷ xs) ys given = ap (λ (n : Checked). scoped x given n) (scoped-split xs ys given)

pub paid-split : (xs ys : List Clause) (giving : Paid) → pays.in_turn (map paid (xs ++ ys)) giving ≡ paid_front xs giving (pays.in_turn (map paid ys) giving)
paid-split [] ys giving = refl
paid-split (x ∷ xs) ys giving = ap (λ (n : Paid). paid x giving n) (paid-split xs ys giving)

acts-split : (vals : Vals) (olds : RelationCalls) (xs ys : List Clause) → clauses.in_turn (map (clauses.action vals olds) (xs ++ ys)) ≡ old_front xs vals olds (clauses.in_turn (map (clauses.action vals olds) ys))
acts-split vals olds [] ys = refl
acts-split vals olds (x ∷ xs) ys = ap (λ (r : Scoped). clauses.action vals olds x r) (acts-split vals olds xs ys)

going-true : (b : Bool) → going_on b ≡ goes_on → b ≡ true
going-true true e = refl
going-true false e = absurd (cc)

never-answers : (x : Clause) (rest : List Clause) → goal_ends (answers ∷ map standing (rest ++ x ∷ [])) ≡ true → ⊥
never-answers x [] h = cc
never-answers x (y ∷ rest) h = cc

-- what stands before the `give` of a goal goes on
pub goes-front : (front : List Clause) (g : Clause) → goal_ends (map standing (front ++ g ∷ [])) ≡ true → all_go_on front
goes-front [] g h = tt
goes-front (x ∷ front) g h = kind (standing x) refl (goes-front front g) h
  where
    kind : (z : Standing) → standing x ≡ z → (goal_ends (map standing (front ++ g ∷ [])) ≡ true → all_go_on front) → goal_ends (z ∷ map standing (front ++ g ∷ [])) ≡ true → all_go_on (x ∷ front)
    kind goes_on e rest t = (e, rest t)
    kind names e rest t = absurd (cc)
    kind ends e rest t = absurd (cc)
    kind answers e rest t = absurd (never-answers g front t)
    kind broken e rest t = absurd (cc)

pub under-other : (h : Continuation) (n : ℕ) → IsUnder h n → is_named n h ≡ false
under-other continuation.Own n u = refl
under-other (continuation.Named m) n u = ne_eqb m n (λ e. omega arith)

pub free-less : (own from to : ℕ) (known taken : ℕ → Bool) → from ≤ to → IsFree own to known taken → IsFree own from known taken
free-less own from to known taken le h = record { new = h.new; fresh = λ x far near. h.fresh x far (omega arith) }

pub fits-front : (own : ℕ) (n : Signatures) (bodies : ℕ) (front : List Clause) (ys : List Clause) → every (map (stmt_fits n own bodies) (front ++ ys)) ≡ true → AreFit own front
fits-front own n bodies front ys h = record {
  signatures = n;
  bodies = bodies;
  fit = (two (list_all (stmt_fits n own bodies) front) (list_all (stmt_fits n own bodies) ys) (sym (list_all-append (stmt_fits n own bodies) front ys) ∙ sym (list_all-map (λ (b : Bool). b) (stmt_fits n own bodies) (front ++ ys)) ∙ h)).first;
}

pub fits-all : (own : ℕ) (n : Signatures) (bodies : ℕ) (xs : List Clause) → every (map (stmt_fits n own bodies) xs) ≡ true → AreFit own xs
fits-all own n bodies xs h = record { signatures = n; bodies = bodies; fit = sym (list_all-map (λ (b : Bool). b) (stmt_fits n own bodies) xs) ∙ h }

-- ---- a `not`

-- what a goal gives is not looked at
goal-gives : (h inner : Continuation) (s t : ℕ) (p q : ℕ → Bool) (a : Old) (x : New) (xs : List ℕ) → Carries inner s p t q a x → GoalCarries h inner s p (old_before a (old_last (Clause-F.Give xs))) (new_before x (new_last (Stmt-F.Fail h)))
goal-gives h inner s t p q a x xs first = record {
  by = λ vals olds news i below j ij c f g scope base fails fails2.
      first.by vals olds news i below j ij c (λ a. step f) g no_bodies scope base fails2 (old_last (Clause-F.Give xs) vals olds) (new_last (Stmt-F.Fail h) vals news)
      (λ l less env env2 store agrees. given (bindings_of xs env) l (more_weighed t c) f g store (fails_to (scope.failure h)) (both_fail l c t (λ (b : Given). step f) f scope h (fails_lower l j c f scope h less fails)));
}
  where
    given : (o : Option Env) (l : ℕ) (d : Credit) (f g : Rest) (store : Store) (u : Rest) → Simulates l d (λ n. followed (No untraced n) (λ (b : Given). step f) (step f)) u
        → Simulates l d (λ n. followed (with_value o (λ e. Yes (record { env = e; store = store }) untraced) n) (λ (b : Given). step f) (step g)) u
    given None l d f g store u h = old_wrong l d _ u 0 refl
    given (Some e) l d f g store u h = h

goal-renewed : (h inner : Continuation) (s : ℕ) (p : ℕ → Bool) (old old2 : OldBlock) (new new2 : NewBlock) → ((vals : Vals) (olds : RelationCalls) → old2 vals olds ≡ old vals olds) → ((vals : Vals) (news : RelationActs) → new2 vals news ≡ new vals news)
    → GoalCarries h inner s p old new → GoalCarries h inner s p old2 new2
goal-renewed h inner s p old old2 new new2 same_old same_new b = record {
  by = λ vals olds news i below j ij c f g scope base fails fails2.
      subst (λ (y : Doing). Goes j c (λ (a : Given). step f) g no_bodies scope base s p (old2 vals olds) y) (sym (same_new vals news))
      (subst (λ (z : Scoped). Goes j c (λ (a : Given). step f) g no_bodies scope base s p z (new vals news)) (sym (same_old vals olds)) (b.by vals olds news i below j ij c f g scope base fails fails2));
}

-- the statements of a goal, and the line that its answer comes to
pub front-old : (vals : Vals) (olds : RelationCalls) (front : List Clause) (xs : List ℕ) (goal : List Clause) → goal ≡ front ++ old_of.Give xs ∷ []
    → clauses.in_turn (map (clauses.action vals olds) goal) ≡ old_before (old_front front) (old_last (Clause-F.Give xs)) vals olds
front-old vals olds front xs goal is =
    ap (λ (ss : List Clause). clauses.in_turn (map (clauses.action vals olds) ss)) is ∙ acts-split vals olds front (old_of.Give xs ∷ [])
    ∙ ap (λ (a : clauses.Action). old_front front vals olds (a (clauses.in_turn []))) ((opens (old_of.Give xs) (Clause-F.Give xs) (old_of.rolls-Give xs)).acts vals olds)

fail-line : (h : Continuation) (vals : Vals) (news : RelationActs) → made (stmt.Fail h ∷ []) vals news ≡ new_last (Stmt-F.Fail h) vals news
fail-line h vals news = ap (λ (a : Action). a (in_turn [])) (acts-Fail vals news h)

pub not-before : (own : ℕ) (from mid to : Numbers) (h : Continuation) (n : ℕ) (goal front : List Clause) (xs : List ℕ) (rest tried new : List Stmt) → n ≡ from.name → from.name < mid.name → from.variable ≡ mid.variable → mid.variable ≤ to.variable
    → goal ≡ front ++ old_of.Give xs ∷ [] → Before own mid to (continuation.Named n) front (stmt.Fail h ∷ []) tried → new ≡ tried ++ stmt.Failure n (reverse rest) ∷ [] → Before own from to h (one (old_of.Not goal)) rest new
not-before own from mid to h n goal front xs rest tried new named less same rising is inner made_so = record {
  change = new_not n (λ vals news. made tried vals news);
  is = λ vals news.
      ap (λ (ms : List Stmt). made ms vals news) made_so ∙ line-made tried (stmt.Failure n (reverse rest)) vals news ∙ ap (λ (a : Action). a (made tried vals news)) (acts-Failure vals news n (reverse rest));
  by = λ under s c taken given next giving onward fit on scoped paid free.
      let o = opens (old_of.Not goal) (Clause-F.Not goal) (old_of.rolls-Not goal) in
      let last = old_of.Give xs ∷ [] in
      let ended : goal_ends (map standing goal) ≡ true = going-true (goal_ends (map standing goal)) (sym o.stands ∙ on.0) in
      let fits : every (map (stmt_fits fit.signatures own fit.bodies) goal) ≡ true = sym (o.fits fit.signatures own fit.bodies) ∙ (two _ true fit.fit).first in
      let known = two (scopes.in_turn (map scopes.scoped goal) at_end (without_bodies s)) (next s) (ap (λ (a : scopes.Action). a given next s) (sym o.scopes) ∙ scoped) in
      let enough = two (pays.in_turn (map pays.paid goal) nothing (2 + c)) (onward entry_spares) (ap (λ (a : pays.Action). a giving onward c) (sym o.pays) ∙ paid) in
      let gone = inner.by (omega (arith, named, less)) (without_bodies s) (2 + c) taken at_end (scopes.in_turn (map scopes.scoped last) at_end) nothing (pays.in_turn (map pays.paid last) nothing)
      (fits-front own fit.signatures fit.bodies front last (ap (λ (ss : List Clause). every (map (stmt_fits fit.signatures own fit.bodies) ss)) (sym is) ∙ fits))
      (goes-front front (old_of.Give xs) (ap (λ (ss : List Clause). goal_ends (map standing ss)) (sym is) ∙ ended))
      (ap (λ (k : Checked). k (without_bodies s)) (sym (scoped-split front last at_end) ∙ ap (λ (ss : List Clause). scopes.in_turn (map scopes.scoped ss) at_end) (sym is)) ∙ known.first)
      (ap (λ (k : Paid). k (2 + c)) (sym (paid-split front last nothing) ∙ ap (λ (ss : List Clause). pays.in_turn (map pays.paid ss) nothing) (sym is)) ∙ enough.first) free in
      record {
        scope = s;
        left = entry_spares;
        after = taken;
        scoped = known.second;
        paid = enough.second;
        free = free-less own from.variable to.variable s.vars taken (omega (arith, same, rising)) free;
        carries = carries-as h c entry_spares taken taken (old_of.Not goal) (λ vals olds. clauses.act vals olds (Clause-F.Not (map (clauses.action vals olds) goal))) (new_not n (λ vals news. made tried vals news)) (λ vals calls. o.acts vals calls)
            (not_carries h c (2 + c) 0 entry_spares taken n (λ vals olds. map (clauses.action vals olds) goal) (λ vals news. made tried vals news) (under-other h n (subst (λ (k : ℕ). IsUnder h k) (sym named) under)) (omega arith) (omega arith)
            (goal-renewed h (continuation.Named n) (2 + c) taken (old_before (old_front front) (old_last (Clause-F.Give xs))) (λ vals olds. clauses.in_turn (map (clauses.action vals olds) goal)) (new_before inner.change (new_last (Stmt-F.Fail h))) (λ vals news. made tried vals news)
            (λ vals olds. front-old vals olds front xs goal is) (λ vals news. inner.is vals news ∙ ap (λ (d : Doing). inner.change vals news d) (fail-line h vals news))
            (goal-gives h (continuation.Named n) (2 + c) gone.left taken gone.after (old_front front) inner.change xs gone.carries)));
      };
}

-- ---- statements that nothing follows

-- blocks that do the same
pub both-as : (h : Continuation) (c : ℕ) (taken : ℕ → Bool) (old old2 : OldBlock) (new new2 : NewBlock) → ((vals : Vals) (olds : RelationCalls) → old2 vals olds ≡ old vals olds) → ((vals : Vals) (news : RelationActs) → new2 vals news ≡ new vals news)
    → BlockCarries h c taken old new → BlockCarries h c taken old2 new2
both-as h c taken old old2 new new2 same_old same_new b = record {
  by = λ vals olds news i below j ij d k f bodies scope base follows fails.
      subst (λ (y : Doing). Goes j d (done k) f bodies scope base c taken (old2 vals olds) y) (sym (same_new vals news))
      (subst (λ (z : Scoped). Goes j d (done k) f bodies scope base c taken z (new vals news)) (sym (same_old vals olds)) (b.by vals olds news i below j ij d k f bodies scope base follows fails));
}

pub fail-passes : (own to : ℕ) (h : Continuation) (xs : List Clause) → Passes own to h (old_of.Fail ∷ xs) (made (stmt.Fail h ∷ []))
fail-passes own to h xs = record {
  by = λ s c taken fit ended scoped paid free.
      both-as h c taken (old_last Clause-F.Fail) (λ vals olds. clauses.block vals olds (old_of.Fail ∷ xs)) (new_last (Stmt-F.Fail h)) (made (stmt.Fail h ∷ []))
      (λ vals olds. ap (λ (a : clauses.Action). a (clauses.block vals olds xs)) ((opens old_of.Fail Clause-F.Fail old_of.rolls-Fail).acts vals olds)) (fail-line h) (fail_carries h c taken);
}

pub give-passes : (own to : ℕ) (h : Continuation) (ys : List ℕ) (xs : List Clause) → Passes own to h (old_of.Give ys ∷ xs) (made (stmt.Answer continuation.Own ys ∷ []))
give-passes own to h ys xs = record {
  by = λ s c taken fit ended scoped paid free.
      both-as h c taken (old_last (Clause-F.Give ys)) (λ vals olds. clauses.block vals olds (old_of.Give ys ∷ xs)) (new_last (Stmt-F.Answer continuation.Own ys)) (made (stmt.Answer continuation.Own ys ∷ []))
      (λ vals olds. ap (λ (a : clauses.Action). a (clauses.block vals olds xs)) ((opens (old_of.Give ys) (Clause-F.Give ys) (old_of.rolls-Give ys)).acts vals olds))
      (λ vals news. ap (λ (a : Action). a (in_turn [])) (acts-Answer vals news continuation.Own ys)) (give_carries h c taken ys);
}

pub goto-passes : (own to : ℕ) (h : Continuation) (j : ℕ) (ys : List ℕ) (xs : List Clause) → Passes own to h (old_of.Goto j ys ∷ xs) (made (stmt.Goto j ys h ∷ []))
goto-passes own to h j ys xs = record {
  by = λ s c taken fit ended scoped paid free.
      both-as h c taken (old_last (Clause-F.Goto j ys)) (λ vals olds. clauses.block vals olds (old_of.Goto j ys ∷ xs)) (new_last (Stmt-F.Goto j ys h)) (made (stmt.Goto j ys h ∷ []))
      (λ vals olds. ap (λ (a : clauses.Action). a (clauses.block vals olds xs)) ((opens (old_of.Goto j ys) (Clause-F.Goto j ys) (old_of.rolls-Goto j ys)).acts vals olds))
      (λ vals news. ap (λ (a : Action). a (in_turn [])) (acts-Goto vals news j ys h)) (goto_carries h c taken j ys);
}

-- ---- alternatives

-- what an alternative does, and its tests
record OpensAlternative (a : Alternative) : Type 0 where
  acts : (vals : Vals) (olds : RelationCalls) → clauses.alternative vals olds a ≡ clauses.block vals olds (out-Alternative a).block
  scopes : alternative_scoped a ≡ scopes.in_turn (map scoped (out-Alternative a).block)
  pays : alternative_paid a ≡ pays.in_turn (map paid (out-Alternative a).block)
  ends : alternative_ends a ≡ block_ends (map standing (out-Alternative a).block)
  fits : (n : Signatures) (vars bodies : ℕ) → alternative_fits n vars bodies a ≡ every (map (stmt_fits n vars bodies) (out-Alternative a).block)

opens-alternative : (a : Alternative) → OpensAlternative a
opens-alternative a = record {
  acts = λ vals olds. ap (clauses.alternative vals olds) (sym (roll-out-Alternative a)) ∙ fold-roll-Alternative clauses.Action Scoped clauses.Choice (clauses.act vals olds) (alternative_at vals olds) (choice_at vals olds) (out-Alternative a);
  scopes = ap alternative_scoped (sym (roll-out-Alternative a)) ∙ fold-roll-Alternative scopes.Action scopes.Block scopes.Block scoped_at alternative_scoped_at case_scoped_at (out-Alternative a);
  pays = ap alternative_paid (sym (roll-out-Alternative a)) ∙ fold-roll-Alternative pays.Action pays.Block pays.Block paid_at alternative_paid_at case_paid_at (out-Alternative a);
  ends = ap alternative_ends (sym (roll-out-Alternative a)) ∙ fold-roll-Alternative Standing Bool Bool standing_at alternative_ends_at case_ends_at (out-Alternative a);
  fits = λ n vars bodies. ap (alternative_fits n vars bodies) (sym (roll-out-Alternative a)) ∙ fold-roll-Alternative Bool Bool Bool (stmt_fits_at n vars bodies) alternative_fits_at (case_fits_at n vars) (out-Alternative a);
}

-- an alternative is carried where its block is
alternative-carries : (own to : ℕ) (h : Continuation) (a : Alternative) (new : NewBlock) → Passes own to h (out-Alternative a).block new → (n : Signatures) (bodies : ℕ) (s : InScope) (c : ℕ) (taken : ℕ → Bool) → alternative_fits n own bodies a ≡ true
    → alternative_ends a ≡ true → alternative_scoped a at_end s ≡ true → alternative_paid a nothing c ≡ true → IsFree own to s.vars taken → BlockCarries h c taken (λ vals olds. clauses.alternative vals olds a) new
alternative-carries own to h a new p n bodies s c taken fit ended known enough free =
    let o = opens-alternative a in
    both-as h c taken (λ vals olds. clauses.block vals olds (out-Alternative a).block) (λ vals olds. clauses.alternative vals olds a) new new o.acts (λ vals news. refl)
    (p.by s c taken (fits-all own n bodies (out-Alternative a).block (sym (o.fits n own bodies) ∙ fit)) (sym o.ends ∙ ended) (ap (λ (b : scopes.Block). b at_end s) (sym o.scopes) ∙ known)
    (ap (λ (b : pays.Block). b nothing c) (sym o.pays) ∙ enough) free)

pub all-one : (own to : ℕ) (h : Continuation) (a : Alternative) (new : NewBlock) → Passes own to h (out-Alternative a).block new → AllPass own to h (a ∷ []) new
all-one own to h a new p = record {
  by = λ n bodies s c taken fit ended known enough free.
      alternative-carries own to h a new p n bodies s c taken (two (alternative_fits n own bodies a) true fit).first (two (alternative_ends a) true ended).first (two (alternative_scoped a at_end s) true known).first enough free;
}

pub all-more : (own mid to : ℕ) (h : Continuation) (n : ℕ) (a b : Alternative) (rest : List Alternative) (other tried new : List Stmt) → mid ≤ to → Passes own to (continuation.Named n) (out-Alternative a).block (made tried)
    → AllPass own mid h (b ∷ rest) (made other) → new ≡ tried ++ stmt.Failure n (reverse other) ∷ [] → AllPass own to h (a ∷ b ∷ rest) (made new)
all-more own mid to h n a b rest other tried new le first others is = record {
  by = λ sig bodies s c taken fit ended known enough free.
      let fits = two (alternative_fits sig own bodies a) (every (map (alternative_fits sig own bodies) (b ∷ rest))) fit in
      let ends = two (alternative_ends a) (every (map alternative_ends (b ∷ rest))) ended in
      let scopes_here = two (alternative_scoped a at_end s) (all_scoped (map alternative_scoped (b ∷ rest)) at_end s) known in
      let paid_all = two (nat_le frame_cost c && alternative_paid a nothing (c - frame_cost)) (pays.in_order (map alternative_paid (b ∷ rest)) nothing entry_spares) enough in
      let paid_here = two (nat_le frame_cost c) (alternative_paid a nothing (c - frame_cost)) paid_all.first in
      let some : frame_cost ≤ c = leb-true frame_cost c paid_here.first in
      both-as h c taken (old_or (λ vals olds. clauses.alternative vals olds a) (λ vals olds. clauses.alternative vals olds b) (λ vals olds. map (clauses.alternative vals olds) rest))
      (λ vals olds. clauses.in_order (map (clauses.alternative vals olds) (a ∷ b ∷ rest))) (new_or n (made tried) (made other)) (made new) (λ vals olds. refl)
      (λ vals news. ap (λ (ms : List Stmt). made ms vals news) is ∙ line-made tried (stmt.Failure n (reverse other)) vals news ∙ ap (λ (x : Action). x (made tried vals news)) (acts-Failure vals news n (reverse other)))
      (or_carries h c (c - frame_cost) 0 entry_spares taken n (λ vals olds. clauses.alternative vals olds a) (λ vals olds. clauses.alternative vals olds b) (λ vals olds. map (clauses.alternative vals olds) rest) (made tried) (made other)
      (omega arith) (omega arith)
      (alternative-carries own to (continuation.Named n) a (made tried) first sig bodies s (c - frame_cost) taken fits.first ends.first scopes_here.first paid_here.second free)
      (others.by sig bodies s entry_spares taken fits.second ends.second scopes_here.second paid_all.second (free-less own mid to s.vars taken le free)));
}

pub ending-true : (b : Bool) (rest : List Standing) → block_ends (ending b ∷ rest) ≡ true → b ≡ true
ending-true true rest h = refl
ending-true false rest h = absurd (cc)

pub or-passes : (own to : ℕ) (h : Continuation) (all : List Alternative) (xs : List Clause) (new : NewBlock) → AllPass own to h all new → Passes own to h (old_of.Or all ∷ xs) new
or-passes own to h all xs new p = record {
  by = λ s c taken fit ended known enough free.
      let o = opens (old_of.Or all) (Clause-F.Or all) (old_of.rolls-Or all) in
      let fits : every (map (alternative_fits fit.signatures own fit.bodies) all) ≡ true = sym (o.fits fit.signatures own fit.bodies) ∙ (two _ (list_all (stmt_fits fit.signatures own fit.bodies) xs) fit.fit).first in
      both-as h c taken (λ vals olds. clauses.in_order (map (clauses.alternative vals olds) all)) (λ vals olds. clauses.block vals olds (old_of.Or all ∷ xs)) new new
      (λ vals olds. ap (λ (a : clauses.Action). a (clauses.block vals olds xs)) (o.acts vals olds)) (λ vals news. refl)
      (p.by fit.signatures fit.bodies s c taken fits (ending-true (every (map alternative_ends all)) (map standing xs) (ap (λ (z : Standing). block_ends (z ∷ map standing xs)) (sym o.stands) ∙ ended))
      (ap (λ (a : scopes.Action). a at_end (scopes.in_turn (map scopes.scoped xs) at_end) s) (sym o.scopes) ∙ known) (ap (λ (a : pays.Action). a nothing (pays.in_turn (map pays.paid xs) nothing) c) (sym o.pays) ∙ enough) free);
}
