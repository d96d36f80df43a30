-- What is made of patterns, one lemma a kind, and of their parts in a row.
use Rattle.std.proofs.Common.{◌≡◌, ℕ, suc, ◌+◌, ◌<◌, ◌≤◌, Bool, true, false, List, [], ◌∷◌, ◌++◌, map, refl, sym, ap, subst, ◌∙◌, inl, inr, reverse, append-nil, arith}
use Rattle.std.specs.Prelude.{◌&&◌, ◌==◌, ◌⊎◌, if◌then◌else◌, nat_lt}
use Rattle.std.proofs.lemmas.Bool.{ltb-true, ne_eqb}
use Rattle.rml_value.specs.declared.value.Value.{out-Value}
use Rattle.rml_value.specs.declared.value.TheConstants.{NIL, CONS}
use Rattle.rml_terms.specs.declared.state.Matched.TheVariants as matched
use Rattle.rml_terms.specs.Env.{bind}
use Rattle.rml_terms.specs.Matching.{Matcher, match_con, match_tuple_at, match_list}
use Rattle.rml_fol.specs.declared.terms.Literal.{Literal}
use Rattle.rml_fol.specs.declared.terms.Expression.TheVariants as expression
use Rattle.rml_fol.specs.declared.statements.Tag.{Tag}
use Rattle.rml_fol.specs.declared.statements.Tag.TheVariants as tag
use Rattle.rml_fol.specs.Expressions.{Vals}
use Rattle.rml_fol.specs.Fits.{vars_fit}
use Rattle.rml_fol.specs.Patterns.{match_literal}
use Rattle.rml_cps.specs.declared.statements.Continuation.{Continuation}
use Rattle.rml_cps.specs.declared.statements.Stmt.{Stmt}
use Rattle.rml_cps.specs.declared.statements.Stmt.TheVariants as stmt
use Rattle.rml_cps.specs.declared.statements.Stmt.TheOpen.{Stmt-F}
use Rattle.rml_cps.specs.declared.statements.Case.{Case, roll-Case, fold-roll-Case}
use Rattle.rml_cps.specs.Acts.{acts-Set, acts-Field, acts-Switch, acts-Fail}
use Rattle.rml_cps.specs.Statements.{RelationActs, Doing, Action, Choice, block, in_turn, action, choice, act, choice_at}
use Rattle.rml_base.specs.Run.{step}
use Rattle.rml_simulation.specs.Partial.{followed}
use Rattle.rml_simulation.specs.Simulates.{Simulates}
use Rattle.rml_fol.specs.Statements.{from_match}
use Rattle.rml_tocps.specs.Carries.{take, take_all, AreNew}
use Rattle.rml_tocps.specs.Pass.{New, both_new, new_set}
use Rattle.rml_tocps.specs.Matches.{Matches, PartOf, parts_taken, matchers, new_parts, new_test, new_field}
use Rattle.rml_tocps.specs.Passing.{made}
use Rattle.rml_tocps.specs.Matching.{Leaves, AreFree, MatchMade, PartMade, in_row, PartsMade, TestMade}
use Rattle.rml_tocps.proofs.Matches.{any_matches, var_matches, bind_matches, literal_matches, tuple_matches, con_matches, any_part, var_part, bind_part, fresh_part}
use Rattle.rml_tocps.proofs.Passing.{two, line-made}

-- ---- what is taken

leaves-itself : (from : ℕ) (taken : ℕ → Bool) → Leaves from from taken taken
leaves-itself from taken = record { at = λ x free apart. free }

not-taken : (t : Bool) (a b : Bool) → (a ≡ false → b ≡ false) → (if t then true else a) ≡ false → (if t then true else b) ≡ false
not-taken true a b each e = absurd (cc)
not-taken false a b each e = each e

leaves-take : (from to x : ℕ) (taken after : ℕ → Bool) → Leaves from to taken after → Leaves from to (take x taken) (take x after)
leaves-take from to x taken after h = record { at = λ y free apart. not-taken (y == x) (taken y) (after y) (λ e. h.at y e apart) free }

leaves-all : (from to : ℕ) (xs : List ℕ) (taken after : ℕ → Bool) → Leaves from to taken after → Leaves from to (take_all xs taken) (take_all xs after)
leaves-all from to [] taken after h = h
leaves-all from to (x ∷ xs) taken after h = leaves-all from to xs (take x taken) (take x after) (leaves-take from to x taken after h)

-- variables of the relation are new where they were, behind fresh ones
new-still : (own from to : ℕ) (xs : List ℕ) (taken after : ℕ → Bool) → own ≤ from → vars_fit own xs ≡ true → Leaves from to taken after → AreNew xs taken → AreNew xs after
new-still own from to [] taken after le fit h new = tt
new-still own from to (x ∷ xs) taken after le fit h new =
    let fits = two (nat_lt x own) (vars_fit own xs) fit in
    let less : x < own = ltb-true x own fits.first in
    (h.at x new.0 (inl (omega arith)), new-still own from to xs (take x taken) (take x after) le fits.second (leaves-take from to x taken after h) new.1)

new-first : (xs ys : List ℕ) (taken : ℕ → Bool) → AreNew (xs ++ ys) taken → AreNew xs taken
new-first [] ys taken h = tt
new-first (x ∷ xs) ys taken h = (h.0, new-first xs ys (take x taken) h.1)

new-second : (xs ys : List ℕ) (taken : ℕ → Bool) → AreNew (xs ++ ys) taken → AreNew ys (take_all xs taken)
new-second [] ys taken h = h
new-second (x ∷ xs) ys taken h = new-second xs ys (take x taken) h.1

taken-both : (xs ys : List ℕ) (taken : ℕ → Bool) → take_all (xs ++ ys) taken ≡ take_all ys (take_all xs taken)
taken-both [] ys taken = refl
taken-both (x ∷ xs) ys taken = taken-both xs ys (take x taken)

fit-first : (own : ℕ) (xs ys : List ℕ) → vars_fit own (xs ++ ys) ≡ true → vars_fit own xs ≡ true
fit-first own [] ys h = refl
fit-first own (x ∷ xs) ys h =
    let fits = two (nat_lt x own) (vars_fit own (xs ++ ys)) h in
    ap (λ (b : Bool). b && vars_fit own xs) fits.first ∙ fit-first own xs ys fits.second

fit-second : (own : ℕ) (xs ys : List ℕ) → vars_fit own (xs ++ ys) ≡ true → vars_fit own ys ≡ true
fit-second own [] ys h = h
fit-second own (x ∷ xs) ys h = fit-second own xs ys (two (nat_lt x own) (vars_fit own (xs ++ ys)) h).second

-- one beyond those of the relation is not taken by them
beyond : (own : ℕ) (xs : List ℕ) (taken : ℕ → Bool) (y : ℕ) → own ≤ y → vars_fit own xs ≡ true → taken y ≡ false → take_all xs taken y ≡ false
beyond own [] taken y le fit free = free
beyond own (x ∷ xs) taken y le fit free =
    let fits = two (nat_lt x own) (vars_fit own xs) fit in
    let less : x < own = ltb-true x own fits.first in
    beyond own xs (take x taken) y le fits.second (ap (λ (t : Bool). if t then true else taken y) (ne_eqb y x (λ e. omega arith)) ∙ free)

-- ---- changes that do the same

matches-as : (h : Continuation) (p q : ℕ → Bool) (m : Matcher) (x : ℕ) (new new2 : New) → ((vals : Vals) (news : RelationActs) (onward : Doing) → new2 vals news onward ≡ new vals news onward) → Matches h p q m x new → Matches h p q m x new2
matches-as h p q m x new new2 same u = record {
  by = λ v vals news j d k f scope base store fails go onward env env2 found agrees each.
      subst (λ (z : Doing). Simulates j d (λ n. followed (from_match (m v env) go n) k (step f)) (z scope env2 store)) (sym (same vals news onward))
      (u.by v vals news j d k f scope base store fails go onward env env2 found agrees each);
}

row-parts : (parts : List PartOf) (vals : Vals) (news : RelationActs) (onward : Doing) → in_row (map (λ (a : PartOf). a.new) parts) vals news onward ≡ new_parts parts vals news onward
row-parts [] vals news onward = refl
row-parts (a ∷ parts) vals news onward = ap (λ (d : Doing). a.new vals news d) (row-parts parts vals news onward)

-- ---- parts in a row

pub parts-none : (own from : ℕ) (h : Continuation) (x i : ℕ) (rest : List Stmt) → PartsMade own from from h [] [] x i rest rest
parts-none own from h x i rest = record {
  changes = [];
  is = λ vals news. refl;
  by = λ taken free fit new. record { parts = []; same = refl; changed = refl; each = tt; leaves = leaves-itself from taken };
}

pub parts-more : (own from mid to : ℕ) (h : Continuation) (m : Matcher) (ms : List Matcher) (xs ys : List ℕ) (x i : ℕ) (rest between new : List Stmt) → from ≤ mid → mid ≤ to → PartsMade own from mid h ms ys x (suc i) rest between
    → PartMade own mid to h m xs x i between new → PartsMade own from to h (m ∷ ms) (xs ++ ys) x i rest new
parts-more own from mid to h m ms xs ys x i rest between new low high others first = record {
  changes = first.change ∷ others.changes;
  is = λ vals news. first.is vals news ∙ ap (λ (d : Doing). first.change vals news d) (others.is vals news);
  by = λ taken free fit new_here.
      let here = first.by taken (record { behind = omega (arith, free.behind); rising = high; free = λ z far near. free.free z (omega arith) near }) (fit-first own xs ys fit) (new-first xs ys taken new_here) in
      let fit_rest = fit-second own xs ys fit in
      let there = others.by here.after (record {
        behind = free.behind;
        rising = low;
        free = λ z far near. here.leaves.at z (beyond own xs taken z (omega (arith, free.behind)) (fit-first own xs ys fit) (free.free z far (omega arith))) (inl near);
      }) fit_rest (new-still own mid to ys (take_all xs taken) here.after (omega (arith, free.behind)) fit_rest here.leaves (new-second xs ys taken new_here)) in
      record {
        parts = record { matcher = m; new = first.change; taken = here.after } ∷ there.parts;
        same = ap (λ (zs : List Matcher). m ∷ zs) there.same;
        changed = ap (λ (zs : List New). first.change ∷ zs) there.changed;
        each = (here.matches, there.each);
        leaves = record {
          at = λ z untaken apart.
              there.leaves.at z
              ((leaves-all mid to ys (take_all xs taken) here.after here.leaves).at z (ap (λ (p : ℕ → Bool). p z) (sym (taken-both xs ys taken)) ∙ untaken) (wider from mid to z low high apart))
              (narrower from mid to z low high apart);
        };
      };
}
  where
    wider : (a b c z : ℕ) → a ≤ b → b ≤ c → ((z < a) ⊎ (c ≤ z)) → (z < b) ⊎ (c ≤ z)
    wider a b c z ab bc (inl less) = inl (omega arith)
    wider a b c z ab bc (inr more) = inr more

    narrower : (a b c z : ℕ) → a ≤ b → b ≤ c → ((z < a) ⊎ (c ≤ z)) → (z < a) ⊎ (b ≤ z)
    narrower a b c z ab bc (inl less) = inl less
    narrower a b c z ab bc (inr more) = inr (omega arith)

-- ---- each kind of pattern

pub any-made : (own from : ℕ) (h : Continuation) (x : ℕ) (rest : List Stmt) → MatchMade own from from h (λ v env. matched.Yes env) [] x rest rest
any-made own from h x rest = record {
  change = λ vals news onward. onward;
  is = λ vals news. refl;
  by = λ taken free fit new. record { after = taken; leaves = leaves-itself from taken; matches = any_matches h taken x };
}

pub var-made : (own from : ℕ) (h : Continuation) (x y : ℕ) (rest : List Stmt) → MatchMade own from from h (λ v env. matched.Yes (bind y v env)) (y ∷ []) x rest (rest ++ stmt.Set y (expression.Var x) ∷ [])
var-made own from h x y rest = record {
  change = new_set y (expression.Var x);
  is = λ vals news. line-made rest (stmt.Set y (expression.Var x)) vals news ∙ ap (λ (a : Action). a (made rest vals news)) (acts-Set vals news y (expression.Var x));
  by = λ taken free fit new. record { after = take y taken; leaves = leaves-itself from (take y taken); matches = var_matches h taken x y new.0 };
}

-- behind a variable that is taken first
behind-one : (own from to y : ℕ) (taken : ℕ → Bool) → y < own → AreFree own from to taken → AreFree own from to (take y taken)
behind-one own from to y taken less h = record {
  behind = h.behind;
  rising = h.rising;
  free = λ z far near. let le : own ≤ from = h.behind in ap (λ (t : Bool). if t then true else taken z) (ne_eqb z y (λ e. omega arith)) ∙ h.free z far near;
}

pub bind-made : (own from to : ℕ) (h : Continuation) (m : Matcher) (xs : List ℕ) (x y : ℕ) (rest between : List Stmt) → MatchMade own from to h m xs x rest between
    → MatchMade own from to h (λ v env. m v (bind y v env)) (y ∷ xs) x rest (between ++ stmt.Set y (expression.Var x) ∷ [])
bind-made own from to h m xs x y rest between inner = record {
  change = both_new (new_set y (expression.Var x)) inner.change;
  is = λ vals news.
      line-made between (stmt.Set y (expression.Var x)) vals news ∙ ap (λ (a : Action). a (made between vals news)) (acts-Set vals news y (expression.Var x))
      ∙ ap (λ (d : Doing). new_set y (expression.Var x) vals news d) (inner.is vals news);
  by = λ taken free fit new.
      let fits = two (nat_lt y own) (vars_fit own xs) fit in
      let here = inner.by (take y taken) (behind-one own from to y taken (ltb-true y own fits.first) free) fits.second new.1 in
      record { after = here.after; leaves = here.leaves; matches = bind_matches h taken here.after m x y inner.change new.0 here.matches };
}

-- ---- parts, one by one

pub any-part-made : (own from : ℕ) (h : Continuation) (x i : ℕ) (rest : List Stmt) → PartMade own from from h (λ v env. matched.Yes env) [] x i rest rest
any-part-made own from h x i rest = record {
  change = λ vals news onward. onward;
  is = λ vals news. refl;
  by = λ taken free fit new. record { after = taken; leaves = leaves-itself from taken; matches = any_part h taken x i };
}

pub var-part-made : (own from : ℕ) (h : Continuation) (x i y : ℕ) (rest : List Stmt) → PartMade own from from h (λ v env. matched.Yes (bind y v env)) (y ∷ []) x i rest (rest ++ stmt.Field y x i ∷ [])
var-part-made own from h x i y rest = record {
  change = new_field y x i;
  is = λ vals news. line-made rest (stmt.Field y x i) vals news ∙ ap (λ (a : Action). a (made rest vals news)) (acts-Field vals news y x i);
  by = λ taken free fit new. record { after = take y taken; leaves = leaves-itself from (take y taken); matches = var_part h taken x i y new.0 };
}

pub bind-part-made : (own from to : ℕ) (h : Continuation) (m : Matcher) (xs : List ℕ) (x i y : ℕ) (rest between : List Stmt) → MatchMade own from to h m xs y rest between
    → PartMade own from to h (λ v env. m v (bind y v env)) (y ∷ xs) x i rest (between ++ stmt.Field y x i ∷ [])
bind-part-made own from to h m xs x i y rest between inner = record {
  change = both_new (new_field y x i) inner.change;
  is = λ vals news.
      line-made between (stmt.Field y x i) vals news ∙ ap (λ (a : Action). a (made between vals news)) (acts-Field vals news y x i) ∙ ap (λ (d : Doing). new_field y x i vals news d) (inner.is vals news);
  by = λ taken free fit new.
      let fits = two (nat_lt y own) (vars_fit own xs) fit in
      let here = inner.by (take y taken) (behind-one own from to y taken (ltb-true y own fits.first) free) fits.second new.1 in
      record { after = here.after; leaves = here.leaves; matches = bind_part h taken here.after m x i y inner.change new.0 here.matches };
}

-- a part in a fresh variable, the first of those in between
pub fresh-part-made : (own from to : ℕ) (h : Continuation) (m : Matcher) (xs : List ℕ) (x i : ℕ) (rest between : List Stmt) → suc from ≤ to → MatchMade own (suc from) to h m xs from rest between
    → PartMade own from to h m xs x i rest (between ++ stmt.Field from x i ∷ [])
fresh-part-made own from to h m xs x i rest between some inner = record {
  change = both_new (new_field from x i) inner.change;
  is = λ vals news.
      line-made between (stmt.Field from x i) vals news ∙ ap (λ (a : Action). a (made between vals news)) (acts-Field vals news from x i) ∙ ap (λ (d : Doing). new_field from x i vals news d) (inner.is vals news);
  by = λ taken free fit new.
      let le : own ≤ from = free.behind in
      let here = inner.by (take from taken) (record {
        behind = omega arith;
        rising = some;
        free = λ z far near. ap (λ (t : Bool). if t then true else taken z) (ne_eqb z from (λ e. omega arith)) ∙ free.free z (omega arith) near;
      }) fit (new-still own from (suc from) xs taken (take from taken) le fit (leaves-one from taken) new) in
      record {
        after = here.after;
        leaves = record {
          at = λ z untaken apart. here.leaves.at z ((leaves-all from (suc from) xs taken (take from taken) (leaves-one from taken)).at z untaken (just-one from to z some apart)) (one-more from to z some apart);
        };
        matches = fresh_part h taken here.after m x i from inner.change (free.free from (omega arith) (omega arith)) here.matches;
      };
}
  where
    leaves-one : (y : ℕ) (p : ℕ → Bool) → Leaves y (suc y) p (take y p)
    leaves-one y p = record { at = λ z untaken apart. ap (λ (t : Bool). if t then true else p z) (ne_eqb z y (other y z apart)) ∙ untaken }
      where
        other : (y z : ℕ) → ((z < y) ⊎ (suc y ≤ z)) → z ≡ y → ⊥
        other y z (inl less) e = omega arith
        other y z (inr more) e = omega arith

    just-one : (a c z : ℕ) → suc a ≤ c → ((z < a) ⊎ (c ≤ z)) → (z < a) ⊎ (suc a ≤ z)
    just-one a c z le (inl less) = inl less
    just-one a c z le (inr more) = inr (omega arith)

    one-more : (a c z : ℕ) → suc a ≤ c → ((z < a) ⊎ (c ≤ z)) → (z < suc a) ⊎ (c ≤ z)
    one-more a c z le (inl less) = inl (omega arith)
    one-more a c z le (inr more) = inr more

-- ---- tests

pub test-made : (t : Tag) (x : ℕ) (h : Continuation) (rest new : List Stmt) (k : Case) → k ≡ roll-Case (record { tag = t; block = reverse rest }) → new ≡ stmt.Switch x (k ∷ []) (stmt.Fail h ∷ []) ∷ [] → TestMade t x h rest new
test-made t x h rest new k holds is = record {
  by = λ vals news.
      let case_is : choice vals news k ≡ record { tag = t; block = made rest vals news } = ap (choice vals news) holds ∙ fold-roll-Case Action Choice (act vals news) (choice_at vals news) (record { tag = t; block = reverse rest }) in
      ap (λ (ms : List Stmt). made ms vals news) is
      ∙ ap (λ (a : Action). a (in_turn [])) (acts-Switch vals news x (k ∷ []) (stmt.Fail h ∷ []))
      ∙ ap (λ (c : Choice). act vals news (Stmt-F.Switch x (c ∷ []) (action vals news (stmt.Fail h) ∷ [])) (in_turn [])) case_is
      ∙ ap (λ (a : Action). act vals news (Stmt-F.Switch x (record { tag = t; block = made rest vals news } ∷ []) (a ∷ [])) (in_turn [])) (acts-Fail vals news h);
}

pub literal-made : (own from : ℕ) (h : Continuation) (l : Literal) (x : ℕ) (rest new : List Stmt) → TestMade (tag.Lit l) x h rest new → MatchMade own from from h (λ v env. match_literal l (out-Value v) env) [] x rest new
literal-made own from h l x rest new test = record {
  change = new_test (tag.Lit l) x h;
  is = test.by;
  by = λ taken free fit fresh. record { after = taken; leaves = leaves-itself from taken; matches = literal_matches h taken l x };
}

-- parts in a row are those of the laws
row-changed : (changes : List New) (parts : List PartOf) → map (λ (a : PartOf). a.new) parts ≡ changes → (vals : Vals) (news : RelationActs) (onward : Doing) → in_row changes vals news onward ≡ new_parts parts vals news onward
row-changed changes parts e vals news onward = ap (λ (cs : List New). in_row cs vals news onward) (sym e) ∙ row-parts parts vals news onward

pub tuple-made : (own from to : ℕ) (h : Continuation) (ms : List Matcher) (xs : List ℕ) (x : ℕ) (rest new : List Stmt) → PartsMade own from to h ms xs x 1 rest new
    → MatchMade own from to h (λ v env. match_tuple_at ms (out-Value v) env) xs x rest new
tuple-made own from to h ms xs x rest new inner = record {
  change = in_row inner.changes;
  is = inner.is;
  by = λ taken free fit fresh.
      let here = inner.by taken free fit fresh in
      record {
        after = parts_taken taken here.parts;
        leaves = here.leaves;
        matches =
            subst (λ (zs : List Matcher). Matches h taken (parts_taken taken here.parts) (λ v env. match_tuple_at zs (out-Value v) env) x (in_row inner.changes)) here.same
            (matches-as h taken (parts_taken taken here.parts) (λ v env. match_tuple_at (matchers here.parts) (out-Value v) env) x (new_parts here.parts) (in_row inner.changes) (row-changed inner.changes here.parts here.changed)
            (tuple_matches h taken x here.parts here.each));
      };
}

pub con-made : (own from to : ℕ) (h : Continuation) (c : ℕ) (ms : List Matcher) (xs : List ℕ) (x : ℕ) (rest between new : List Stmt) → PartsMade own from to h ms xs x 1 rest between → TestMade (tag.Con c) x h between new
    → MatchMade own from to h (match_con c ms) xs x rest new
con-made own from to h c ms xs x rest between new inner test = record {
  change = both_new (new_test (tag.Con c) x h) (in_row inner.changes);
  is = λ vals news. test.by vals news ∙ ap (λ (d : Doing). new_test (tag.Con c) x h vals news d) (inner.is vals news);
  by = λ taken free fit fresh.
      let here = inner.by taken free fit fresh in
      record {
        after = parts_taken taken here.parts;
        leaves = here.leaves;
        matches =
            subst (λ (zs : List Matcher). Matches h taken (parts_taken taken here.parts) (match_con c zs) x (both_new (new_test (tag.Con c) x h) (in_row inner.changes))) here.same
            (matches-as h taken (parts_taken taken here.parts) (match_con c (matchers here.parts)) x (both_new (new_test (tag.Con c) x h) (new_parts here.parts)) (both_new (new_test (tag.Con c) x h) (in_row inner.changes))
            (λ vals news onward. ap (λ (d : Doing). new_test (tag.Con c) x h vals news d) (row-changed inner.changes here.parts here.changed vals news onward))
            (con_matches h taken x c here.parts here.each));
      };
}

-- ---- cells of lists: an item and what comes after it

pub pair-made : (own from mid to : ℕ) (h : Continuation) (m tail : Matcher) (xs ys : List ℕ) (x : ℕ) (rest behind between new : List Stmt) → from ≤ mid → mid ≤ to → PartMade own from mid h tail ys x 2 rest behind
    → PartMade own mid to h m xs x 1 behind between → TestMade (tag.Con CONS) x h between new → MatchMade own from to h (match_con CONS (m ∷ tail ∷ [])) (xs ++ ys) x rest new
pair-made own from mid to h m tail xs ys x rest behind between new low high second first test =
    let last = parts-more own from from mid h tail [] ys [] x 2 rest rest behind (omega arith) low (parts-none own from h x 3 rest) second in
    let one : PartsMade own from mid h (tail ∷ []) ys x 2 rest behind = subst (λ (zs : List ℕ). PartsMade own from mid h (tail ∷ []) zs x 2 rest behind) (append-nil ys) last in
    con-made own from to h CONS (m ∷ tail ∷ []) (xs ++ ys) x rest between new (parts-more own from mid to h m (tail ∷ []) xs ys x 1 rest behind between low high one first) test

pub nil-made : (own from : ℕ) (h : Continuation) (x : ℕ) (rest new : List Stmt) → TestMade (tag.Con NIL) x h rest new → MatchMade own from from h (match_list []) [] x rest new
nil-made own from h x rest new test = con-made own from from h NIL [] [] x rest rest new (parts-none own from h x 1 rest) test

-- one more item in front of a list, of which the rest is in the first of the fresh variables
pub front-made : (own from mid to : ℕ) (h : Continuation) (m tail : Matcher) (xs ys : List ℕ) (x : ℕ) (rest inner behind between new : List Stmt) → suc from ≤ mid → mid ≤ to
    → MatchMade own (suc from) mid h tail ys from rest inner → behind ≡ inner ++ stmt.Field from x 2 ∷ [] → PartMade own mid to h m xs x 1 behind between → TestMade (tag.Con CONS) x h between new
    → MatchMade own from to h (match_con CONS (m ∷ tail ∷ [])) (xs ++ ys) x rest new
front-made own from mid to h m tail xs ys x rest inner behind between new low high made_tail is first test =
    pair-made own from mid to h m tail xs ys x rest behind between new (omega arith) high
    (subst (λ (zs : List Stmt). PartMade own from mid h tail ys x 2 rest zs) (sym is) (fresh-part-made own from mid h tail ys x 2 rest inner low made_tail)) first test
