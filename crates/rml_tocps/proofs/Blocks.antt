-- Blocks: the statements that nothing follows, and what is named before others.
use Rattle.std.proofs.Common.{◌≡◌, ℕ, ◌+◌, ◌≤◌, Bool, true, false, List, [], ◌∷◌, ◌++◌, length, Option, Some, None, refl, sym, ap, subst, ◌∙◌, arith}
use Rattle.std.specs.Prelude.{◌==◌, if◌then◌else◌, option_map}
use Rattle.rml_base.specs.Run.{Rest, step, weigh}
use Rattle.rml_simulation.specs.declared.partial.Partial.{Partial}
use Rattle.rml_simulation.specs.declared.partial.Partial.TheVariants.{Yes, No, CutOff, GoneWrong}
use Rattle.rml_simulation.specs.Partial.{untraced, take_step, or_else, either, followed, traced}
use Rattle.rml_simulation.specs.Simulates.{Credit, Simulates}
use Rattle.rml_simulation.specs.Moves.{more_weighed}
use Rattle.rml_simulation.proofs.Callers.{both_step_here, equal, followed_after, followed_step, lower, new_weigh, old_wrong, traced_none, weaken}
use Rattle.rml_value.specs.declared.value.Value.{Value}
use Rattle.rml_builtin.specs.declared.applied.Answer.{Answer}
use Rattle.rml_builtin.specs.Applied.{Store}
use Rattle.std.proofs.lemmas.Bool.{eqb-true}
use Rattle.rml_terms.specs.Env.{Env, look, values_in}
use Rattle.rml_terms.specs.Evaluating.{with_first}
use Rattle.rml_terms.specs.Calling.{RelationCalls, with_value}
use Rattle.rml_fol.specs.declared.statements.Stmt.TheOpen.{Stmt-F as Clause-F}
use Rattle.rml_fol.specs.Expressions.{Vals}
use Rattle.rml_fol.specs.Weights as clause
use Rattle.rml_fol.specs.Statements as clauses
use Rattle.rml_fol.specs.Statements.{Given, Bodies, Scoped, no_bodies, weighing, bindings_of, values_of, bind_all}
use Rattle.rml_cps.specs.declared.statements.Continuation.{Continuation}
use Rattle.rml_cps.specs.declared.statements.Continuation.TheVariants as continuation
use Rattle.rml_cps.specs.declared.statements.Stmt.TheOpen.{Stmt-F}
use Rattle.rml_cps.specs.Weights as cps
use Rattle.rml_cps.specs.Statements.{OnAnswer, Jump, Scope, is_named, with_failure, with_body, with_known, failure_of, body_of}
use Rattle.rml_tocps.specs.Carries.{done, Agrees, take_all, AreNew, Carries}
use Rattle.rml_tocps.specs.Pass.{Old, New, GoalCarries}
use Rattle.rml_tocps.specs.Blocks.{OldBlock, NewBlock, goto_spare, JumpFollows, BothJump, Follows, BlockCarries, FirstCarries, old_before, new_before, old_last, new_last, old_or, old_others, new_or, old_cond, old_body, new_body}
use Rattle.rml_tocps.proofs.Environments.{bindings_worth, values_worth, bind_all_agrees}
use Rattle.rml_tocps.proofs.Moves.{with_spare, fails_lower, both_weights, both_known, both_bound, both_fail}
use Rattle.rml_tocps.proofs.Statements.{regroup, failure_found, failure_kept}

-- the same credit
ungroup : (j u v : ℕ) (c : Credit) (f g : Rest) → Simulates j (more_weighed (u + v) c) f g → Simulates j (more_weighed u (more_weighed v c)) f g
ungroup j u v c f g w = weaken j j _ _ f g (omega arith) (record { steps = omega arith; made = omega arith; weighed = omega arith }) w

-- a weight in continuation form, and none in clause form
new_weight : (i : ℕ) (c : Credit) (s b t : ℕ) (f g : Rest) → b + t ≤ s → Simulates i (more_weighed t c) f g → Simulates i (more_weighed s c) f (λ n. weigh b (g n))
new_weight i c s b t f g le u =
    new_weigh i (more_weighed s c) b f g (omega arith) (weaken i i (more_weighed t c) _ f g (omega arith) (record { steps = omega arith; made = omega arith; weighed = omega arith }) u)

-- ---- what follows

jump_lower : (l j : ℕ) (c : Credit) (k : OnAnswer) (o : Option (List Value → Store → ℕ → Partial Given)) (p : Option Jump) → l ≤ j → BothJump j c k o p → BothJump l c k o p
jump_lower l j c k None p le h = tt
jump_lower l j c k (Some does) None le h = h
jump_lower l j c k (Some does) (Some jump) le h = record { by = λ m less. h.by m (omega arith) }

pub follows_lower : (l j : ℕ) (c : Credit) (k : OnAnswer) (bodies : Bodies) (scope : Scope) → l ≤ j → Follows j c k bodies scope → Follows l c k bodies scope
follows_lower l j c k bodies scope le h = record {
  answered = h.answered;
  is = h.is;
  answers = λ a. lower j l c (k a) (h.answered a) le (h.answers a);
  jumps = λ n. jump_lower l j c k (bodies n) (scope.body n) le (h.jumps n);
}

jump_richer : (j : ℕ) (c : Credit) (v : ℕ) (k : OnAnswer) (o : Option (List Value → Store → ℕ → Partial Given)) (p : Option Jump) → BothJump j c k o p → BothJump j (more_weighed v c) k o p
jump_richer j c v k None p h = tt
jump_richer j c v k (Some does) None h = h
jump_richer j c v k (Some does) (Some jump) h = record {
  by = λ l less w vs store f g u.
      weaken l l _ _ _ _ (omega arith) (record { steps = omega arith; made = omega arith; weighed = omega arith }) (h.by l less (w + v) vs store f g (regroup l w v c f g u));
}

pub follows_richer : (j : ℕ) (c : Credit) (v : ℕ) (k : OnAnswer) (bodies : Bodies) (scope : Scope) → Follows j c k bodies scope → Follows j (more_weighed v c) k bodies scope
follows_richer j c v k bodies scope h = record {
  answered = h.answered;
  is = h.is;
  answers = λ a. with_spare j c v (k a) (h.answered a) (h.answers a);
  jumps = λ n. jump_richer j c v k (bodies n) (scope.body n) (h.jumps n);
}

-- a failure that is named changes nothing of it
named_follows : (j : ℕ) (c : Credit) (k : OnAnswer) (bodies : Bodies) (scope : Scope) (n : ℕ) (f : Rest) → Follows j c k bodies scope → Follows j c k bodies (with_failure n f scope)
named_follows j c k bodies scope n f h = record { answered = h.answered; is = h.is; answers = h.answers; jumps = h.jumps }

-- ---- blocks

pub before_carries : (h : Continuation) (s t : ℕ) (p q : ℕ → Bool) (a : Old) (x : New) (old : OldBlock) (new : NewBlock) → Carries h s p t q a x → BlockCarries h t q old new
    → BlockCarries h s p (old_before a old) (new_before x new)
before_carries h s t p q a x old new first rest = record {
  by = λ vals olds news i below j ij c k f bodies scope base follows fails.
      first.by vals olds news i below j ij c (done k) f bodies scope base fails (old vals olds) (new vals news)
      (λ l less. rest.by vals olds news i below l (omega arith) c k f bodies scope base (follows_lower l j c k bodies scope less follows) (fails_lower l j c f scope h less fails));
}

pub fail_carries : (h : Continuation) (s : ℕ) (p : ℕ → Bool) → BlockCarries h s p (old_last Clause-F.Fail) (new_last (Stmt-F.Fail h))
fail_carries h s p = record {
  by = λ vals olds news i below j ij c k f bodies scope base follows fails env env' store agrees. both_fail j c s (done k) f scope h fails;
}

-- statements that end in a `give` of nothing, as the block of a `not`
pub goal_carries : (h inner : Continuation) (s t : ℕ) (p q : ℕ → Bool) (a : Old) (x : New) → Carries inner s p t q a x
    → GoalCarries h inner s p (old_before a (old_last (Clause-F.Give []))) (new_before x (new_last (Stmt-F.Fail h)))
goal_carries h inner s t p q a x first = record {
  by = λ vals olds news i below j ij c f g scope base fails fails'.
      first.by vals olds news i below j ij c (λ a. step f) g no_bodies scope base fails' (old_last (Clause-F.Give []) vals olds) (new_last (Stmt-F.Fail h) vals news)
      (λ l less env env' store agrees. both_fail l c t (λ a. step f) f scope h (fails_lower l j c f scope h less fails));
}

known_mapped : {A C : Type 0} (g : A → C) (o : Option A) (on : C → Rest) (n : ℕ) → with_known o (λ a. on (g a)) n ≡ with_known (option_map g o) on n
known_mapped g None on n = refl
known_mapped g (Some a) on n = refl

pub give_carries : (h : Continuation) (s : ℕ) (p : ℕ → Bool) (xs : List ℕ) → BlockCarries h s p (old_last (Clause-F.Give xs)) (new_last (Stmt-F.Answer continuation.Own xs))
give_carries h s p xs = record {
  by = λ vals olds news i below j ij c k f bodies scope base follows fails env env' store agrees.
      let on : List Value → Rest = λ vs. with_known (scope.success continuation.Own) (λ answered. step (answered (record { values = vs; store = store }))) in
      equal j (more_weighed s c) _ (λ n. followed (with_value (bindings_of xs env) (λ g. Yes (record { env = g; store = store }) untraced) n) (done k) (step f))
      (with_known (bindings_of xs env') (λ g. on (values_in g))) (with_known (values_of xs env') on) (λ n. refl) (λ m le. known_mapped values_in (bindings_of xs env') on m)
      (both_known j c (done k) (step f) (more_weighed s c) (bindings_of xs env) (bindings_of xs env') (λ g. Yes (record { env = g; store = store }) untraced) (λ g. on (values_in g)) (bindings_worth p base env env' agrees xs)
      (λ g. let answer : Answer = record { values = values_in g; store = store } in
      subst (λ (o : Option OnAnswer). Simulates j (more_weighed s c) (λ n. traced untraced (step (k answer) n)) (with_known o (λ answered. step (answered answer)))) (sym follows.is)
      (equal j (more_weighed s c) (step (k answer)) (λ n. traced untraced (step (k answer) n)) (step (follows.answered answer)) (step (follows.answered answer)) (λ n. sym (traced_none (step (k answer) n))) (λ m le. refl)
      (both_step_here j (more_weighed s c) (k answer) (follows.answered answer) (with_spare j c s (k answer) (follows.answered answer) (follows.answers answer))))));
}

-- what takes the failure of an alternative
else_taken : (w : Partial Given) (go : ℕ → Partial Given) (k : Given → Rest) (h : Rest) → followed w k (step (λ l. followed (go l) k h)) ≡ followed (or_else w (take_step go)) k h
else_taken (Yes a t n) go k h = refl
else_taken (No t n) go k h = ap (traced t) (sym (followed_step go k h n)) ∙ sym (followed_after t (take_step go n) k h)
else_taken (CutOff t) go k h = refl
else_taken (GoneWrong t) go k h = refl

pub or_carries : (h : Continuation) (s u v t : ℕ) (p : ℕ → Bool) (n : ℕ) (a b : OldBlock) (rest : Vals → RelationCalls → List Scoped) (x y : NewBlock)
    → cps.failure_weight + (u + v) ≤ s → cps.entry_weight 0 + t ≤ clause.entry_weight 0 + v
    → BlockCarries (continuation.Named n) u p a x → BlockCarries h t p (old_others b rest) y → BlockCarries h s p (old_or a b rest) (new_or n x y)
or_carries h s u v t p n a b rest x y le enough first others = record {
  by = λ vals olds news i below j ij c k f bodies scope base follows fails env env' store agrees.
      let kept : Credit = more_weighed v c in
      let next : ℕ → Partial Given = λ m. weighing (clause.entry_weight 0) (old_others b rest vals olds bodies env store m) in
      let taker : Rest = λ m. followed (next m) (done k) (step f) in
      let back : Rest = failure_of (y vals news) scope env' store in
      let scope' : Scope = with_failure n back scope in
      new_weight j c s cps.failure_weight (u + v) _ (x vals news scope' env' store) le
      (equal j (more_weighed (u + v) c) (λ m. followed (a vals olds bodies env store m) (done k) (step taker)) _ (x vals news scope' env' store) (x vals news scope' env' store)
      (λ m. else_taken (a vals olds bodies env store m) next (done k) (step f)) (λ m less. refl)
      (regroup j u v c _ _
      (first.by vals olds news i below j ij kept k taker bodies scope' base (named_follows j kept k bodies scope n back (follows_richer j c v k bodies scope follows))
      (record {
        failed = back;
        is = failure_found n back scope;
        follows = both_weights j c (done k) (step f) v (clause.entry_weight 0) t (cps.entry_weight 0) (old_others b rest vals olds bodies env store) (y vals news scope env' store) enough
            (others.by vals olds news i below j ij c k f bodies scope base follows fails env env' store agrees);
      })
      env env' store agrees)));
}

-- ---- `cond`

given_looks : (xs : List ℕ) (env given : Env) → bindings_of xs env ≡ Some given → (x : ℕ) (v : Value) → look x given ≡ Some v → look x env ≡ Some v
given_looks [] env given e x v h = let d : [] ≡ given = cc in none_given (subst (λ (g : Env). look x g ≡ Some v) (sym d) h)
  where
    none_given : look x [] ≡ Some v → look x env ≡ Some v
    none_given e = absurd (cc)
given_looks (y ∷ xs) env given e x v h = in_case (look y env) (bindings_of xs env) refl e (λ rest d i. given_looks xs env rest d x v i)
  where
    pick : (b : Bool) (w : Value) (rest : Env) → (x == y) ≡ b → look y env ≡ Some w → (look x rest ≡ Some v → look x env ≡ Some v) → (if b then Some w else look x rest) ≡ Some v → look x env ≡ Some v
    pick true w rest t d later i = ap (λ z. look z env) (eqb-true x y t) ∙ d ∙ i
    pick false w rest t d later i = later i

    in_case : (o : Option Value) (p : Option Env) → look y env ≡ o → with_first (option_map (λ v. record { var = y; value = v }) o) p ≡ Some given
        → ((rest : Env) → p ≡ Some rest → look x rest ≡ Some v → look x env ≡ Some v) → look x env ≡ Some v
    in_case None p d e later = absurd (cc)
    in_case (Some w) None d e later = absurd (cc)
    in_case (Some w) (Some rest) d e later =
        let same : record { var = y; value = w } ∷ rest ≡ given = cc in
        pick (x == y) w rest refl d (later rest refl) (subst (λ (g : Env). look x g ≡ Some v) (sym same) h)

both_looks : (x : ℕ) (v : Value) (env more : Env) (R : Type 0) → ((w : Value) → look x env ≡ Some w → w ≡ v → R) → (look x more ≡ Some v → R) → look x (env ++ more) ≡ Some v → R
both_looks x v [] more R first second h = second h
both_looks x v (b ∷ env) more R first second h = pick (x == b.var) h first (λ f e. both_looks x v env more R f second e)
  where
    pick : (t : Bool) → (if t then Some b.value else look x (env ++ more)) ≡ Some v → ((w : Value) → (if t then Some b.value else look x env) ≡ Some w → w ≡ v → R)
        → (((w : Value) → look x env ≡ Some w → w ≡ v → R) → look x (env ++ more) ≡ Some v → R) → R
    pick true e first later = first b.value refl (cc)
    pick false e first later = later first e

given_agrees : (p : ℕ → Bool) (base env env' given : Env) (xs : List ℕ) → bindings_of xs env ≡ Some given → Agrees p base env env' → Agrees p [] (base ++ given) env'
given_agrees p base env env' given xs e h = record {
  keeps = λ x v i. absurd (cc);
  looks = λ x v i. both_looks x v base given (look x env' ≡ Some v) (λ w d same. h.looks x v (h.keeps x v (d ∙ ap Some same))) (λ d. h.looks x v (given_looks xs env given e x v d)) i;
  new = h.new;
}

-- what takes the failure of a first block
either_taken : (w : Partial Given) (go : Given → ℕ → Partial Given) (other : ℕ → Partial Given) (k : Given → Rest) (h : Rest)
    → followed w (λ a m. followed (go a m) k h) (step (λ l. followed (other l) k h)) ≡ followed (either w go (take_step other)) k h
either_taken (Yes a t n) go other k h = sym (followed_after t (go a n) k h)
either_taken (No t n) go other k h = ap (traced t) (sym (followed_step other k h n)) ∙ sym (followed_after t (take_step other n) k h)
either_taken (CutOff t) go other k h = refl
either_taken (GoneWrong t) go other k h = refl

-- the `give` of a first block
abbrev give_of : Option Env → Store → ℕ → Partial Given
give_of o st = with_value o (λ gs. Yes (record { env = gs; store = st }) untraced)

-- and then the second
given_second : (vals : Vals) (olds : RelationCalls) (second : OldBlock) (l : ℕ) (d : Credit) (k : OnAnswer) (f g : Rest) (bodies : Bodies) (env e : Env) (st : Store) (xs : List ℕ) (new : Rest) (o : Option Env)
    → ((gs : Env) → o ≡ Some gs → Simulates l d (λ n. followed (second vals olds bodies (env ++ gs) st n) (done k) (step f)) new)
    → Simulates l d (λ n. followed (give_of o st n) (λ a m. followed (second vals olds bodies (env ++ a.env) a.store m) (done k) (step f)) (step g)) new
given_second vals olds second l d k f g bodies env e st xs new None each = old_wrong l d _ new 0 refl
given_second vals olds second l d k f g bodies env e st xs new (Some gs) each =
    equal l d (λ n. followed (second vals olds bodies (env ++ gs) st n) (done k) (step f)) _ new new (λ n. sym (traced_none _)) (λ m le. refl) (each gs refl)

-- statements that end in a `give`, before the second block
pub first_carries : (h inner : Continuation) (s t : ℕ) (p q : ℕ → Bool) (a : Old) (x : New) (xs : List ℕ) (second : OldBlock) (new : NewBlock) → Carries inner s p t q a x → BlockCarries h t q second new
    → FirstCarries h inner s p (old_before a (old_last (Clause-F.Give xs))) second (new_before x new)
first_carries h inner s t p q a x xs second new first rest = record {
  by = λ vals olds news i below j ij c k f g bodies scope follows fails fails' env env' store agrees.
      first.by vals olds news i below j ij c (λ a m. followed (second vals olds bodies (env ++ a.env) a.store m) (done k) (step f)) g no_bodies scope env fails' (old_last (Clause-F.Give xs) vals olds) (new vals news)
      (λ l less e e' st ag. given_second vals olds second l (more_weighed t c) k f g bodies env e st xs (new vals news scope e' st) (bindings_of xs e)
      (λ gs is. rest.by vals olds news i below l (omega arith) c k f bodies scope [] (follows_lower l j c k bodies scope less follows) (fails_lower l j c f scope h less fails) (env ++ gs) e' st
      (given_agrees q env e e' gs xs is ag))) env env' store agrees;
}

pub cond_carries : (h : Continuation) (s u v t : ℕ) (p : ℕ → Bool) (n : ℕ) (a b c : OldBlock) (x z : NewBlock) → is_named n h ≡ false
    → cps.failure_weight + (u + v) ≤ s → cps.entry_weight 0 + t ≤ clause.entry_weight 0 + v
    → FirstCarries h (continuation.Named n) u p a b x → BlockCarries h t p c z → BlockCarries h s p (old_cond a b c) (new_or n x z)
cond_carries h s u v t p n a b c x z other le enough first third = record {
  by = λ vals olds news i below j ij d k f bodies scope base follows fails env env' store agrees.
      let kept : Credit = more_weighed v d in
      let next : ℕ → Partial Given = λ m. weighing (clause.entry_weight 0) (c vals olds bodies env store m) in
      let taker : Rest = λ m. followed (next m) (done k) (step f) in
      let back : Rest = failure_of (z vals news) scope env' store in
      let scope' : Scope = with_failure n back scope in
      let here : Agrees p env env env' = record { keeps = λ y w e. e; looks = agrees.looks; new = agrees.new } in
      new_weight j d s cps.failure_weight (u + v) _ (x vals news scope' env' store) le
      (equal j (more_weighed (u + v) d) (λ m. followed (a vals olds no_bodies env store m) (λ g m. followed (b vals olds bodies (env ++ g.env) g.store m) (done k) (step f)) (step taker)) _
      (x vals news scope' env' store) (x vals news scope' env' store)
      (λ m. either_taken (a vals olds no_bodies env store m) (λ g. b vals olds bodies (env ++ g.env) g.store) next (done k) (step f)) (λ m less. refl)
      (regroup j u v d _ _
      (first.by vals olds news i below j ij kept k f taker bodies scope' (named_follows j kept k bodies scope n back (follows_richer j d v k bodies scope follows))
      (record { failed = fails.failed; is = failure_kept n back fails.failed scope h other fails.is; follows = with_spare j d v f fails.failed fails.follows })
      (record {
        failed = back;
        is = failure_found n back scope;
        follows = both_weights j d (done k) (step f) v (clause.entry_weight 0) t (cps.entry_weight 0) (c vals olds bodies env store) (z vals news scope env' store) enough
            (third.by vals olds news i below j ij d k f bodies scope base follows fails env env' store agrees);
      })
      env env' store here)));
}

-- what is jumped to
jumped : (j : ℕ) (c : Credit) (s : ℕ) (k : OnAnswer) (o : Option (List Value → Store → ℕ → Partial Given)) (p : Option Jump) (vs : List Value) (store : Store) (f g : Rest) → BothJump j c k o p → Simulates j (more_weighed s c) f g
    → Simulates j (more_weighed (goto_spare + s) c) (λ n. followed (with_value o (λ does. does vs store) n) (done k) (step f)) (with_known p (λ does. does (record { values = vs; store = store }) g))
jumped j c s k None p vs store f g h u = old_wrong j (more_weighed (goto_spare + s) c) _ _ 0 refl
jumped j c s k (Some does) None vs store f g h u = absurd h
jumped j c s k (Some does) (Some jump) vs store f g h u = h.by j (omega arith) s vs store f g u

pub goto_carries : (h : Continuation) (s : ℕ) (p : ℕ → Bool) (n : ℕ) (xs : List ℕ) → BlockCarries h s p (old_last (Clause-F.Goto n xs)) (new_last (Stmt-F.Goto n xs h))
goto_carries h s p n xs = record {
  by = λ vals olds news i below j ij c k f bodies scope base follows fails env env' store agrees.
      let on : Option Rest → List Value → Rest = λ o vs. with_known (scope.body n) (λ does. with_known o (λ failed. does (record { values = vs; store = store }) failed)) in
      both_weights j c (done k) (step f) s (clause.goto_weight (length xs)) (goto_spare + s) (cps.goto_weight (length xs))
      (λ m. with_value (values_of xs env) (λ vs. with_value (bodies n) (λ does. does vs store)) m) (with_known (values_of xs env') (on (scope.failure h))) (omega arith)
      (both_known j c (done k) (step f) (more_weighed (goto_spare + s) c) (values_of xs env) (values_of xs env') (λ vs. with_value (bodies n) (λ does. does vs store)) (on (scope.failure h)) (values_worth p base env env' agrees xs)
      (λ vs.
      subst (λ (o : Option Rest). Simulates j (more_weighed (goto_spare + s) c) (λ m. followed (with_value (bodies n) (λ does. does vs store) m) (done k) (step f)) (on o vs)) (sym fails.is)
      (jumped j c s k (bodies n) (scope.body n) vs store f fails.failed (follows.jumps n) (with_spare j c s f fails.failed fails.follows))));
}

jump_choice : (b : Bool) (j : ℕ) (c : Credit) (k : OnAnswer) (does : List Value → Store → ℕ → Partial Given) (jump : Jump) (o : Option (List Value → Store → ℕ → Partial Given)) (p : Option Jump)
    → JumpFollows j c k does jump → BothJump j c k o p → BothJump j c k (if b then Some does else o) (if b then Some jump else p)
jump_choice true j c k does jump o p h i = h
jump_choice false j c k does jump o p h i = i

pub body_carries : (h : Continuation) (s : ℕ) (p : ℕ → Bool) (n : ℕ) (xs : List ℕ) (m : ℕ) (block rest : OldBlock) (x y : NewBlock) → AreNew xs p
    → BlockCarries (continuation.Named m) goto_spare (take_all xs p) block x → BlockCarries h s p rest y → BlockCarries h s p (old_body n xs block rest) (new_body n xs m x y)
body_carries h s p n xs m block rest x y fresh inner outer = record {
  by = λ vals olds news i below j ij c k f bodies scope base follows fails env env' store agrees.
      let does : List Value → Store → ℕ → Partial Given = clauses.body_of xs (block vals olds) bodies env in
      let jump : Jump = body_of xs m (x vals news) scope env' in
      let named : JumpFollows j c k does jump = record {
        by = λ l less v vs st g g' u.
            both_bound l (done k) (step g) (more_weighed (goto_spare + v) c) (take_all xs p) base (bind_all xs vs env) (bind_all xs vs env') st (block vals olds bodies) (x vals news (with_failure m g' scope))
            (bind_all_agrees xs vs p base env env' fresh agrees)
            (λ e e' ag. regroup l goto_spare v c _ _
            (inner.by vals olds news i below l (omega arith) (more_weighed v c) k g bodies (with_failure m g' scope) base
            (named_follows l (more_weighed v c) k bodies scope m g' (follows_richer l c v k bodies scope (follows_lower l j c k bodies scope less follows)))
            (record { failed = g'; is = failure_found m g' scope; follows = u }) e e' st ag));
      } in
      outer.by vals olds news i below j ij c k f (clauses.with_body n does bodies) (with_body n jump scope) base
      (record { answered = follows.answered; is = follows.is; answers = follows.answers; jumps = λ q. jump_choice (q == n) j c k does jump (bodies q) (scope.body q) named (follows.jumps q) })
      (record { failed = fails.failed; is = fails.is; follows = fails.follows }) env env' store agrees;
}
