-- The block of a rule, and the alternatives of rules.
use Rattle.std.proofs.Common.{◌≡◌, ℕ, ◌+◌, ◌≤◌, List, [], ◌∷◌, ◌++◌, length, get_or, take, ◌<◌, sym, ap, subst, ◌∙◌, append-nil, arith}
use Rattle.std.proofs.lemmas.List.{take_more}
use Rattle.std.specs.Prelude.{sum_by}
use Rattle.rml_resolved.specs.declared.tables.RRule.{RRule}
use Rattle.rml_resolved.specs.Size.{exp_size, goal_size, rule_size}
use Rattle.rml_fol.specs.declared.statements.Stmt.{Stmt, fold-roll-Stmt}
use Rattle.rml_fol.specs.declared.statements.Stmt.TheVariants as stmt
use Rattle.rml_fol.specs.declared.statements.Stmt.TheVariants.{rolls-Give}
use Rattle.rml_fol.specs.declared.statements.Stmt.TheOpen.{Stmt-F}
use Rattle.rml_fol.specs.declared.statements.Alternative.{Alternative, out-Alternative}
use Rattle.rml_clause.specs.declared.pass.making.Making.{Making}
use Rattle.rml_clause.specs.Fresh.{fresh, fresh_in, fresh_at, alternative_fresh_at, case_fresh_at}
use Rattle.rml_clause.specs.Plain.{numbers_from, AreIn, AreMatched, ArePremises, IsRule, AreRules}
use Rattle.rml_clause.specs.Added.{Adds}
use Rattle.rml_clause.specs.Clauses.{IsNumbered, IsBlock, EachNumbered, AreEnough}
use Rattle.rml_clause.proofs.Adding.{fresh-both, adds-both}

fresh-Give : (xs : List ℕ) → fresh (stmt.Give xs) ≡ []
fresh-Give xs = ap fresh (sym (rolls-Give xs)) ∙ fold-roll-Stmt (List ℕ) (List ℕ) (List ℕ) fresh_at alternative_fresh_at case_fresh_at (Stmt-F.Give xs)

pub fresh-before-give : (s : List Stmt) (xs : List ℕ) → fresh_in (s ++ stmt.Give xs ∷ []) ≡ fresh_in s
fresh-before-give s xs = fresh-both s (stmt.Give xs ∷ []) ∙ ap (λ z. fresh_in s ++ (z ++ [])) (fresh-Give xs) ∙ append-nil (fresh_in s)

-- the matches of the head, the premises, the sets of the results, and what is given
pub block-made : (names : List (List ℕ)) (params : ℕ) (r : RRule) (start headed searched set made : Making) (ys : List ℕ)
    → length r.inputs ≡ params → start.stmts ≡ [] → start.next ≡ params + r.vars
    → Adds start headed 0 (AreMatched names params r.inputs (numbers_from 0 (length r.inputs)))
    → Adds headed searched (sum_by goal_size r.goals) (ArePremises names params r.goals)
    → Adds searched set (sum_by exp_size r.results) (AreIn names params r.results ys)
    → made.stmts ≡ set.stmts ++ stmt.Give ys ∷ [] → made.next ≡ set.next → IsBlock names params r made
block-made names params r start headed searched set made ys counted empty from f g h given same =
    let Any : List Stmt → Type 0 = λ s. Unit {0} in
    let two : Adds start searched (0 + sum_by goal_size r.goals) Any = adds-both start headed searched 0 (sum_by goal_size r.goals) f g (λ s t p q. tt) in
    let all : Adds start set (0 + sum_by goal_size r.goals + sum_by exp_size r.results) Any =
    adds-both start searched set (0 + sum_by goal_size r.goals) (sum_by exp_size r.results) two h (λ s t p q. tt) in
    let added : set.stmts ≡ all.stmts = all.are_added ∙ ap (λ z. z ++ all.stmts) empty in
    record {
      rule = record {
        head = f.stmts;
        premises = g.stmts;
        sets = h.stmts;
        results = ys;
        matched = subst (λ n. AreMatched names params r.inputs (numbers_from 0 n) f.stmts) counted f.form;
        searched = g.form;
        given = h.form;
        is =
            given
            ∙ ap (λ z. z ++ stmt.Give ys ∷ [])
            (h.are_added ∙ ap (λ z. z ++ h.stmts) (g.are_added ∙ ap (λ z. z ++ g.stmts) (f.are_added ∙ ap (λ z. z ++ f.stmts) empty)));
      };
      numbered = record {
        count = all.count;
        in_order =
            ap fresh_in given ∙ fresh-before-give set.stmts ys ∙ ap fresh_in added ∙ all.in_order ∙ ap (λ x. numbers_from x all.count) from;
        few = omega (arith, all.few);
        below = omega (arith, all.next, same, from);
      };
      few = omega (arith, all.next, all.few, same, from);
    }

-- ---- one more rule

module _ (names : List (List ℕ)) (params : ℕ) where
  pub rules-last : {rs : List RRule} {alts : List Alternative} (r : RRule) (a : Alternative) → AreRules names params rs alts → IsRule names params r (out-Alternative a).block
      → AreRules names params (rs ++ r ∷ []) (alts ++ a ∷ [])
  rules-last r a AreRules.none i = AreRules.more r [] a [] i AreRules.none
  rules-last r a (AreRules.more q qs b rest j is) i = AreRules.more q (qs ++ r ∷ []) b (rest ++ a ∷ []) j (rules-last r a is i)

numbered-more : (from most end later : ℕ) (s : List Stmt) → end ≤ later → IsNumbered from most end s → IsNumbered from most later s
numbered-more from most end later s le i = record { count = i.count; in_order = i.in_order; few = i.few; below = omega (arith, i.below, le) }

pub numbered-last : (params end later : ℕ) (rs : List RRule) (alts : List Alternative) (r : RRule) (a : Alternative) → end ≤ later → EachNumbered params end rs alts
    → IsNumbered (params + r.vars) (rule_size r) later (out-Alternative a).block → EachNumbered params later (rs ++ r ∷ []) (alts ++ a ∷ [])
numbered-last params end later [] [] r a le h i = (i, tt)
numbered-last params end later [] (b ∷ alts) r a le h i = absurd h
numbered-last params end later (q ∷ rs) [] r a le h i = absurd h
numbered-last params end later (q ∷ rs) (b ∷ alts) r a le h i = (numbered-more _ _ end later _ le h.0, numbered-last params end later rs alts r a le h.1 i)

enough-last : (params most : ℕ) (rs : List RRule) (r : RRule) → AreEnough params most (rs ++ r ∷ []) → AreEnough params most rs × (params + r.vars + rule_size r ≤ most)
enough-last params most [] r h = (tt, h.0)
enough-last params most (q ∷ rs) r h = let rest = enough-last params most rs r h.1 in ((h.0, rest.0), rest.1)

-- ---- a turn of the loop over rules

module _ (names : List (List ℕ)) (params : ℕ) (rules : List RRule) (i : ℕ) (r d : RRule) (alts later : List Alternative) (a : Alternative) (m : Making)
    (less : i < length rules) (is : r ≡ get_or rules i d) (pushed : later ≡ alts ++ a ∷ []) (holds : (out-Alternative a).block ≡ m.stmts) (made : IsBlock names params r m) where
  taken : take (i + 1) rules ≡ take i rules ++ r ∷ []
  taken = take_more rules i d less ∙ ap (λ z. take i rules ++ z ∷ []) (sym is)

  pub each-pushed : AreRules names params (take i rules) alts → AreRules names params (take (i + 1) rules) later
  each-pushed h =
      subst (λ rs. AreRules names params rs later) (sym taken)
      (subst (λ all. AreRules names params (take i rules ++ r ∷ []) all) (sym pushed)
      (rules-last names params r a h (subst (λ s. IsRule names params r s) (sym holds) made.rule)))

  pub numbered-pushed : (end most : ℕ) → end ≤ most → m.next ≤ most → EachNumbered params end (take i rules) alts → EachNumbered params most (take (i + 1) rules) later
  numbered-pushed end most le below h =
      subst (λ rs. EachNumbered params most rs later) (sym taken)
      (subst (λ all. EachNumbered params most (take i rules ++ r ∷ []) all) (sym pushed)
      (numbered-last params end most (take i rules) alts r a le h
      (subst (λ s. IsNumbered (params + r.vars) (rule_size r) most s) (sym holds) (numbered-more (params + r.vars) (rule_size r) m.next most m.stmts below made.numbered))))

  pub few-pushed : (end most : ℕ) → params ≤ most → AreEnough params most (take (i + 1) rules) → (AreEnough params most (take i rules) → end ≤ most) → (end ≤ most) × (m.next ≤ most)
  few-pushed end most le h few =
      let parts = enough-last params most (take i rules) r (subst (λ rs. AreEnough params most rs) taken h) in
      (few parts.0, omega (arith, made.few, parts.1))
