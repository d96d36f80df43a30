-- Statements in front of what is made, and blocks: one after another, and each kind.
use Rattle.std.proofs.Common.{◌≡◌, ℕ, ◌+◌, ◌-◌, ◌*◌, ◌<◌, ◌≤◌, Bool, true, false, List, [], ◌∷◌, ◌++◌, map, length, refl, sym, ap, subst, ◌∙◌, reverse, arith}
use Rattle.std.specs.Prelude.{◌&&◌, ◌==◌, not, if◌then◌else◌, nat_lt, Option, Some, None, slice_get}
use Rattle.std.proofs.lemmas.Bool.{ltb-true, ne_eqb}
use Rattle.std.proofs.lemmas.List.{reverse-append}
use Rattle.rml_builtin.specs.declared.row.TheConstants.{ROWS}
use Rattle.rml_builtin.specs.declared.row.Row.{Row}
use Rattle.rml_builtin.specs.Table.{is_silent}
use Rattle.rml_terms.specs.Calling.{RelationCalls}
use Rattle.rml_fol.specs.declared.terms.Expression.{Expression, out-Expression}
use Rattle.rml_fol.specs.declared.terms.Expression.TheOpen.{Expression-F}
use Rattle.rml_fol.specs.declared.statements.Callee.{Callee}
use Rattle.rml_fol.specs.declared.statements.Stmt.{Stmt as Clause, map-Stmt, roll-Stmt, fold-roll-Stmt}
use Rattle.rml_fol.specs.declared.statements.Alternative.{Alternative}
use Rattle.rml_fol.specs.declared.statements.Case.{Case}
use Rattle.rml_fol.specs.declared.statements.Stmt.TheOpen.{Stmt-F as Clause-F}
use Rattle.rml_fol.specs.declared.statements.Stmt.TheVariants as old_of
use Rattle.rml_fol.specs.Expressions.{Vals, cells_of}
use Rattle.rml_fol.specs.Ends.{Standing, goes_on, block_ends, standing, standing_at, alternative_ends_at, case_ends_at}
use Rattle.rml_fol.specs.Fits.{Signatures, stmt_fits, stmt_fits_at, alternative_fits_at, case_fits_at, vars_fit, row_takes_and_gives}
use Rattle.rml_fol.specs.Paid as pays
use Rattle.rml_fol.specs.Paid.{nothing, paid, paid_at, alternative_paid_at, case_paid_at, set_spares, row_spares, built_in_spares, entry_spares}
use Rattle.rml_fol.specs.Scoped as scopes
use Rattle.rml_fol.specs.Scoped.{Known, with_var, knows, knows_all, knows_callee, InScope, Checked, at_end, binding, scoped, scoped_at, alternative_scoped_at, case_scoped_at}
use Rattle.rml_fol.specs.Statements as clauses
use Rattle.rml_fol.specs.Statements.{Scoped, Choice as ClauseChoice, alternative_at, choice_at}
use Rattle.rml_fol.specs.Weights as clause
use Rattle.rml_fol.proofs.Callers.{row-few}
use Rattle.rml_cps.specs.declared.statements.Continuation.{Continuation}
use Rattle.rml_cps.specs.declared.statements.Continuation.TheVariants as continuation
use Rattle.rml_cps.specs.declared.statements.Stmt.{Stmt}
use Rattle.rml_cps.specs.declared.statements.Stmt.TheVariants as stmt
use Rattle.rml_cps.specs.declared.statements.Stmt.TheOpen.{Stmt-F}
use Rattle.rml_cps.specs.Acts.{acts-Set, acts-Builtin, acts-Equal, acts-Success, acts-Call}
use Rattle.rml_cps.specs.Statements.{RelationActs, Doing, Action, block, in_turn, action, act}
use Rattle.rml_cps.specs.Weights as cps
use Rattle.rml_tocps.specs.declared.pass.numbers.Numbers.{Numbers}
use Rattle.rml_tocps.specs.Carries.{done, take, take_all, AreNew, Goes, Carries}
use Rattle.rml_tocps.specs.Pass.{Old, New, old_stmt, both_new, new_set, new_built_in, new_equal, new_call}
use Rattle.rml_tocps.specs.Blocks.{NewBlock, OldBlock, BlockCarries}
use Rattle.rml_tocps.specs.Passing.{alternative_scoped, case_scoped, alternative_paid, case_paid, alternative_ends, case_ends, alternative_fits, case_fits, made, IsFree, IsUnder, AreFit, scoped_front, paid_front, old_front, Before, Passes}
use Rattle.rml_tocps.proofs.Statements.{both_carry, set_carries, built_in_carries, equal_carries, call_carries}
use Rattle.rml_tocps.proofs.Blocks.{before_carries}

-- ---- what the tests and the meaning are of a statement

pub record Opens (s : Clause) (y : Clause-F Clause Alternative Case) : Type 0 where
  pub acts : (vals : Vals) (calls : RelationCalls) → clauses.action vals calls s ≡ clauses.act vals calls (map-Stmt Clause Alternative Case clauses.Action Scoped ClauseChoice (clauses.action vals calls) (clauses.alternative vals calls) (clauses.choice vals calls) y)
  pub scopes : scoped s ≡ scoped_at (map-Stmt Clause Alternative Case scopes.Action scopes.Block scopes.Block scoped alternative_scoped case_scoped y)
  pub pays : paid s ≡ paid_at (map-Stmt Clause Alternative Case pays.Action pays.Block pays.Block paid alternative_paid case_paid y)
  pub stands : standing s ≡ standing_at (map-Stmt Clause Alternative Case Standing Bool Bool standing alternative_ends case_ends y)
  pub fits : (n : Signatures) (vars bodies : ℕ) → stmt_fits n vars bodies s ≡ stmt_fits_at n vars bodies (map-Stmt Clause Alternative Case Bool Bool Bool (stmt_fits n vars bodies) (alternative_fits n vars bodies) (case_fits n vars bodies) y)

pub opens : (s : Clause) (y : Clause-F Clause Alternative Case) → roll-Stmt y ≡ s → Opens s y
opens s y e = record {
  acts = λ vals calls. ap (clauses.action vals calls) (sym e) ∙ fold-roll-Stmt clauses.Action Scoped ClauseChoice (clauses.act vals calls) (alternative_at vals calls) (choice_at vals calls) y;
  scopes = ap scoped (sym e) ∙ fold-roll-Stmt scopes.Action scopes.Block scopes.Block scoped_at alternative_scoped_at case_scoped_at y;
  pays = ap paid (sym e) ∙ fold-roll-Stmt pays.Action pays.Block pays.Block paid_at alternative_paid_at case_paid_at y;
  stands = ap standing (sym e) ∙ fold-roll-Stmt Standing Bool Bool standing_at alternative_ends_at case_ends_at y;
  fits = λ n vars bodies. ap (stmt_fits n vars bodies) (sym e) ∙ fold-roll-Stmt Bool Bool Bool (stmt_fits_at n vars bodies) alternative_fits_at (case_fits_at n vars) y;
}

-- both of what is said together
pub record Two (a b : Bool) : Type 0 where
  pub first : a ≡ true
  pub second : b ≡ true

pub two : (a b : Bool) → (a && b) ≡ true → Two a b
two true b h = record { first = refl; second = h }
two false b h = absurd (cc)

-- ---- one after another

fits-front : (own : ℕ) (x : Clause) (xs : List Clause) → AreFit own (x ∷ xs) → AreFit own (x ∷ [])
fits-front own x xs h = record { signatures = h.signatures; bodies = h.bodies; fit = ap (λ (b : Bool). b && true) (two _ _ h.fit).first }

fits-rest : (own : ℕ) (x : Clause) (xs : List Clause) → AreFit own (x ∷ xs) → AreFit own xs
fits-rest own x xs h = record { signatures = h.signatures; bodies = h.bodies; fit = (two _ _ h.fit).second }

-- a block that does the same
pub renewed : (h : Continuation) (c : ℕ) (taken : ℕ → Bool) (old : OldBlock) (new made : NewBlock) → ((vals : Vals) (news : RelationActs) → made vals news ≡ new vals news) → BlockCarries h c taken old new → BlockCarries h c taken old made
renewed h c taken old new made same b = record {
  by = λ vals olds news i below j ij d k f bodies scope base follows fails.
      subst (λ (z : Doing). Goes j d (done k) f bodies scope base c taken (old vals olds) z) (sym (same vals news)) (b.by vals olds news i below j ij d k f bodies scope base follows fails);
}

-- no statement changes nothing
none_carry : (h : Continuation) (c : ℕ) (taken : ℕ → Bool) → Carries h c taken c taken (old_front []) (λ vals news onward. onward)
none_carry h c taken = record { by = λ vals olds news i below j ij d k f bodies scope base fails rest onward goes. goes j (omega arith) }

pub under-more : (h : Continuation) (n m : ℕ) → n ≤ m → IsUnder h n → IsUnder h m
under-more continuation.Own n m le u = tt
under-more (continuation.Named k) n m le u = omega arith

-- a statement that goes on before a block
pub before-passes : (own : ℕ) (from to : Numbers) (h : Continuation) (x : Clause) (xs : List Clause) (rest new : List Stmt) → standing x ≡ goes_on → IsUnder h from.name
    → Before own from to h (x ∷ []) rest new → Passes own from.variable h xs (made rest) → Passes own to.variable h (x ∷ xs) (made new)
before-passes own from to h x xs rest new on under b p = record {
  by = λ s c taken fit ends scoped paid free.
      let gone = b.by under s c taken at_end (scopes.in_turn (map scopes.scoped xs) at_end) nothing (pays.in_turn (map pays.paid xs) nothing) (fits-front own x xs fit) (on, tt) scoped paid free in
      let after = p.by gone.scope gone.left gone.after (fits-rest own x xs fit) (ap (λ (z : Standing). block_ends (z ∷ map standing xs)) (sym on) ∙ ends) gone.scoped gone.paid gone.free in
      renewed h c taken (λ vals olds. clauses.block vals olds (x ∷ xs)) (λ vals news. b.change vals news (made rest vals news)) (made new) b.is
      (before_carries h c gone.left taken gone.after (old_front (x ∷ [])) b.change (λ vals olds. clauses.block vals olds xs) (made rest) gone.carries after);
}

-- one statement in front, and those in front of it
pub before-more : (own : ℕ) (from mid to : Numbers) (h : Continuation) (x : Clause) (xs : List Clause) (rest between new : List Stmt) → from.name ≤ mid.name → Before own from mid h xs rest between → Before own mid to h (x ∷ []) between new
    → Before own from to h (x ∷ xs) rest new
before-more own from mid to h x xs rest between new le b a = record {
  change = both_new a.change b.change;
  is = λ vals news. a.is vals news ∙ ap (λ (d : Doing). a.change vals news d) (b.is vals news);
  by = λ under s c taken given next giving onward fit on scoped paid free.
      let first = a.by (under-more h from.name mid.name le under) s c taken given (scoped_front xs given next) giving (paid_front xs giving onward) (fits-front own x xs fit) (on.0, tt) scoped paid free in
      let second = b.by under first.scope first.left first.after given next giving onward (fits-rest own x xs fit) on.1 first.scoped first.paid first.free in
      record {
        scope = second.scope;
        left = second.left;
        after = second.after;
        scoped = second.scoped;
        paid = second.paid;
        free = second.free;
        carries = both_carry h c first.left second.left taken first.after second.after (old_front (x ∷ [])) (old_front xs) a.change b.change first.carries second.carries;
      };
}

-- no statement
pub before-none : (own : ℕ) (from : Numbers) (h : Continuation) (rest : List Stmt) → Before own from from h [] rest rest
before-none own from h rest = record {
  change = λ vals news onward. onward;
  is = λ vals news. refl;
  by = λ under s c taken given next giving onward fit on scoped paid free. record {
    scope = s;
    left = c;
    after = taken;
    scoped = scoped;
    paid = paid;
    free = free;
    carries = none_carry h c taken;
  };
}

-- ---- what is bound

same-or-not : (t : Bool) (a b : Bool) → (t ≡ false → a ≡ false → b ≡ false) → (if t then true else a) ≡ false → (if t then true else b) ≡ false
same-or-not true a b each e = absurd (cc)
same-or-not false a b each e = each refl e

-- a variable of the relation
free-var : (own next x : ℕ) (known : Known) (taken : ℕ → Bool) → x < own → IsFree own next known taken → IsFree own next (with_var x known) (take x taken)
free-var own next x known taken less h = record {
  new = λ y low e. same-or-not (y == x) (known y) (taken y) (λ d k. h.new y low k) e;
  fresh = λ y far near. ap (λ (t : Bool). if t then true else taken y) (ne_eqb y x (λ e. omega arith)) ∙ h.fresh y far near;
}

-- what is known where variables are bound, and what is taken
pub record Bound (own next : ℕ) (xs : List ℕ) (taken : ℕ → Bool) (on : Checked) : Type 0 where
  pub scope : InScope
  pub passes : on scope ≡ true
  pub new : AreNew xs taken
  pub free : IsFree own next scope.vars (take_all xs taken)

not-true : (b : Bool) → not b ≡ true → b ≡ false
not-true true h = absurd (cc)
not-true false h = refl

pub bound-there : (own next : ℕ) (xs : List ℕ) (taken : ℕ → Bool) (on : Checked) (s : InScope) → vars_fit own xs ≡ true → binding xs on s ≡ true → IsFree own next s.vars taken → Bound own next xs taken on
bound-there own next [] taken on s fit h free = record { scope = s; passes = h; new = tt; free = free }
bound-there own next (x ∷ xs) taken on s fit h free =
    let fits = two (nat_lt x own) (vars_fit own xs) fit in
    let less : x < own = ltb-true x own fits.first in
    let both = two (not (s.vars x)) (binding xs on (record s { vars = with_var x s.vars })) h in
    let rest = bound-there own next xs (take x taken) on (record s { vars = with_var x s.vars }) fits.second both.second (free-var own next x s.vars taken less free) in
    record { scope = rest.scope; passes = rest.passes; new = (free.new x less (not-true (s.vars x) both.first), rest.new); free = rest.free }

-- ---- one line in front

pub line-made : (rest : List Stmt) (x : Stmt) (vals : Vals) (news : RelationActs) → made (rest ++ x ∷ []) vals news ≡ action vals news x (made rest vals news)
line-made rest x vals news = ap (λ (xs : List Stmt). block vals news xs) (reverse-append rest (x ∷ []))

-- ---- statement by statement

abbrev pub one : Clause → List Clause
one x = x ∷ []

at-one : (vals : Vals) (calls : RelationCalls) (x : Clause) (a : clauses.Action) → clauses.action vals calls x ≡ a → old_front (one x) vals calls ≡ a
at-one vals calls x a e = e

-- what is said of a statement is said of its line
pub carries-as : (h : Continuation) (s t : ℕ) (p q : ℕ → Bool) (x : Clause) (old : Old) (change : New) → ((vals : Vals) (calls : RelationCalls) → clauses.action vals calls x ≡ old vals calls) → Carries h s p t q old change
    → Carries h s p t q (old_front (one x)) change
carries-as h s t p q x old change e a = record {
  by = λ vals olds news i below j ij c k f bodies scope base fails rest onward goes.
      subst (λ (z : clauses.Action). Goes j c k f bodies scope base s p (z rest) (change vals news onward)) (sym (e vals olds)) (a.by vals olds news i below j ij c k f bodies scope base fails rest onward goes);
}

pub set-before : (own : ℕ) (from : Numbers) (h : Continuation) (x : ℕ) (e : Expression) (rest : List Stmt) → Before own from from h (one (old_of.Set x e)) rest (rest ++ stmt.Set x e ∷ [])
set-before own from h x e rest = record {
  change = new_set x e;
  is = λ vals news. line-made rest (stmt.Set x e) vals news ∙ ap (λ (a : Action). a (made rest vals news)) (acts-Set vals news x e);
  by = λ under s c taken given next giving onward fit on scoped paid free.
      let o = opens (old_of.Set x e) (Clause-F.Set x e) (old_of.rolls-Set x e) in
      let fits = two (nat_lt x own) _ (sym (o.fits fit.signatures own fit.bodies) ∙ (two _ true fit.fit).first) in
      let known = two (knows s.vars e) (binding (x ∷ []) next s) (ap (λ (a : scopes.Action). a given next s) (sym o.scopes) ∙ scoped) in
      let bound = bound-there own from.variable (x ∷ []) taken next s (ap (λ (b : Bool). b && true) fits.first) known.second free in
      record {
        scope = bound.scope;
        left = set_spares (out-Expression e) + c;
        after = take x taken;
        scoped = bound.passes;
        paid = ap (λ (a : pays.Action). a giving onward c) (sym o.pays) ∙ paid;
        free = bound.free;
        carries = carries-as h c (set_spares (out-Expression e) + c) taken (take x taken) (old_of.Set x e) (old_stmt (Clause-F.Set x e)) (new_set x e) (λ vals calls. o.acts vals calls)
            (set_carries h c (set_spares (out-Expression e) + c) taken x e bound.new.0 (set-paid (out-Expression e) (cells_of e) c));
      };
}
  where
    set-paid : (y : Expression-F Expression) (cells c : ℕ) → cps.set_weight_at y cells + (set_spares y + c) ≤ clause.set_weight cells + c
    set-paid (Expression-F.Var x) cells c = omega arith
    set-paid _ cells c = omega arith

pub equal-before : (own : ℕ) (from : Numbers) (h : Continuation) (x y : ℕ) (rest : List Stmt) → Before own from from h (one (old_of.Equal x y)) rest (rest ++ stmt.Equal x y h ∷ [])
equal-before own from h x y rest = record {
  change = new_equal x y h;
  is = λ vals news. line-made rest (stmt.Equal x y h) vals news ∙ ap (λ (a : Action). a (made rest vals news)) (acts-Equal vals news x y h);
  by = λ under s c taken given next giving onward fit on scoped paid free.
      let o = opens (old_of.Equal x y) (Clause-F.Equal x y) (old_of.rolls-Equal x y) in
      record {
        scope = s;
        left = clause.equal_weight + c;
        after = taken;
        scoped = (two (s.vars x && s.vars y) (next s) (ap (λ (a : scopes.Action). a given next s) (sym o.scopes) ∙ scoped)).second;
        paid = ap (λ (a : pays.Action). a giving onward c) (sym o.pays) ∙ paid;
        free = free;
        carries = carries-as h c (clause.equal_weight + c) taken taken (old_of.Equal x y) (old_stmt (Clause-F.Equal x y)) (new_equal x y h) (λ vals calls. o.acts vals calls)
            (equal_carries h c (clause.equal_weight + c) taken x y (omega arith));
      };
}

pub built-in-before : (own : ℕ) (from : Numbers) (h : Continuation) (k : ℕ) (xs ys : List ℕ) (rest : List Stmt) → Before own from from h (one (old_of.Builtin k xs ys)) rest (rest ++ stmt.Builtin k xs ys h ∷ [])
built-in-before own from h k xs ys rest = record {
  change = new_built_in k xs ys h;
  is = λ vals news. line-made rest (stmt.Builtin k xs ys h) vals news ∙ ap (λ (a : Action). a (made rest vals news)) (acts-Builtin vals news k xs ys h);
  by = λ under s c taken given next giving onward fit on scoped paid free.
      let o = opens (old_of.Builtin k xs ys) (Clause-F.Builtin k xs ys) (old_of.rolls-Builtin k xs ys) in
      let fits = two (row_takes_and_gives (length xs) (length ys) (slice_get ROWS k) && vars_fit own xs) (vars_fit own ys) (sym (o.fits fit.signatures own fit.bodies) ∙ (two _ true fit.fit).first) in
      let row = two (row_takes_and_gives (length xs) (length ys) (slice_get ROWS k)) (vars_fit own xs) fits.first in
      let known = two (knows_all s.vars xs) (binding ys next s) (ap (λ (a : scopes.Action). a given next s) (sym o.scopes) ∙ scoped) in
      let bound = bound-there own from.variable ys taken next s fits.second known.second free in
      record {
        scope = bound.scope;
        left = built_in_spares k (length ys) + c;
        after = take_all ys taken;
        scoped = bound.passes;
        paid = ap (λ (a : pays.Action). a giving onward c) (sym o.pays) ∙ paid;
        free = bound.free;
        carries = carries-as h c (built_in_spares k (length ys) + c) taken (take_all ys taken) (old_of.Builtin k xs ys) (old_stmt (Clause-F.Builtin k xs ys)) (new_built_in k xs ys h) (λ vals calls. o.acts vals calls)
            (built_in_carries h c (built_in_spares k (length ys) + c) taken k xs ys bound.new (row-paid (slice_get ROWS k) (length ys) c (row-few (slice_get ROWS k) (length xs) (length ys) row.first)));
      };
}
  where
    silent-paid : (b : Bool) (n c : ℕ) → n ≤ 1 → (if b then 2 + 3 * n else 0) + ((if b then 13 - n else 0) + c) ≤ (if b then 15 + 2 * n else 0) + c
    silent-paid true n c few = omega arith
    silent-paid false n c few = omega arith

    row-paid : (o : Option Row) (n c : ℕ) → n ≤ 1 → cps.row_weight o n + (row_spares o n + c) ≤ clause.row_weight o n + c
    row-paid None n c few = omega arith
    row-paid (Some row) n c few = silent-paid (is_silent row) n c few

-- a call, of which what is made is the success
pub call-before : (own : ℕ) (from to : Numbers) (h : Continuation) (n : ℕ) (f : Callee) (xs ys : List ℕ) (rest new : List Stmt) → to.variable ≡ from.variable
    → new ≡ stmt.Call f xs (continuation.Named n) h ∷ stmt.Success n ys (reverse rest) ∷ [] → Before own from to h (one (old_of.Call f xs ys)) rest new
call-before own from to h n f xs ys rest new same is = record {
  change = new_call n f xs ys h;
  is = λ vals news.
      ap (λ (ms : List Stmt). made ms vals news) is
      ∙ ap (λ (a : Action). a (in_turn (action vals news (stmt.Call f xs (continuation.Named n) h) ∷ []))) (acts-Success vals news n ys (reverse rest))
      ∙ ap (λ (a : Action). act vals news (Stmt-F.Success n ys (map (action vals news) (reverse rest))) (in_turn (a ∷ []))) (acts-Call vals news f xs (continuation.Named n) h);
  by = λ under s c taken given next giving onward fit on scoped paid free.
      let o = opens (old_of.Call f xs ys) (Clause-F.Call f xs ys) (old_of.rolls-Call f xs ys) in
      let fits = two _ (vars_fit own ys) (sym (o.fits fit.signatures own fit.bodies) ∙ (two _ true fit.fit).first) in
      let known = two (knows_callee s.vars f && knows_all s.vars xs) (binding ys next s) (ap (λ (a : scopes.Action). a given next s) (sym o.scopes) ∙ scoped) in
      let bound = bound-there own from.variable ys taken next s fits.second known.second (subst (λ (v : ℕ). IsFree own v s.vars taken) same free) in
      record {
        scope = bound.scope;
        left = entry_spares + (clause.call_weight + c);
        after = take_all ys taken;
        scoped = bound.passes;
        paid = ap (λ (a : pays.Action). a giving onward c) (sym o.pays) ∙ paid;
        free = bound.free;
        carries = carries-as h c (entry_spares + (clause.call_weight + c)) taken (take_all ys taken) (old_of.Call f xs ys) (old_stmt (Clause-F.Call f xs ys)) (new_call n f xs ys h) (λ vals calls. o.acts vals calls)
            (call_carries h c (entry_spares + (clause.call_weight + c)) taken n f xs ys bound.new (omega arith));
      };
}
