-- What holds of each statement that a rule in plain form has before its `give`. From this: where its blocks end, what they give, and that
-- what is to spare pays for its frames.
use Rattle.std.proofs.Common.{◌≡◌, ℕ, suc, ◌+◌, ◌-◌, ◌≤◌, Bool, true, eq-eqb, List, [], ◌∷◌, ◌++◌, map, length, refl, sym, ap, ◌∙◌, arith}
use Rattle.std.specs.Prelude.{◌&&◌, nat_le, Option, Some}
use Rattle.std.proofs.lemmas.Bool.{le-leb}
use Rattle.rml_resolved.specs.declared.trees.RPat.{RPat}
use Rattle.rml_resolved.specs.declared.trees.RExp.{RExp}
use Rattle.rml_resolved.specs.declared.trees.RGoal.{RGoal}
use Rattle.rml_resolved.specs.declared.tables.RRule.{RRule}
use Rattle.rml_fol.specs.declared.terms.Pattern.{Pattern}
use Rattle.rml_fol.specs.declared.terms.Expression.{Expression, out-Expression}
use Rattle.rml_fol.specs.declared.statements.Callee.{Callee}
use Rattle.rml_fol.specs.declared.statements.Stmt.{Stmt, fold-roll-Stmt}
use Rattle.rml_fol.specs.declared.statements.Stmt.TheVariants as stmt
use Rattle.rml_fol.specs.declared.statements.Stmt.TheVariants.{rolls-Match, rolls-Set, rolls-Call, rolls-Builtin, rolls-Equal, rolls-Not, rolls-Or, rolls-Give}
use Rattle.rml_fol.specs.declared.statements.Stmt.TheOpen.{Stmt-F}
use Rattle.rml_fol.specs.declared.statements.Alternative.{Alternative, out-Alternative, fold-Alternative, fold-roll-Alternative, roll-out-Alternative}
use Rattle.rml_fol.specs.Ends.{Standing, goes_on, answers, going_on, ending, block_ends, goal_ends, standing, standing_at, alternative_ends_at, case_ends_at}
use Rattle.rml_fol.specs.Gives.{Gives, as_wanted, all_give, gives, gives_at, alternative_gives_at, case_gives_at}
use Rattle.rml_fol.specs.Fits.{every}
use Rattle.rml_fol.specs.Patterns.{binds}
use Rattle.rml_fol.specs.Weights.{match_weight, equal_weight, call_weight, not_weight}
use Rattle.rml_fol.specs.Paid as pays
use Rattle.rml_fol.specs.Paid.{frame_cost, entry_spares, set_spares, built_in_spares, Paid, nothing, paid, paid_at, alternative_paid_at, case_paid_at}
use Rattle.rml_clause.specs.Plain.{IsIn, AreIn, AreMatched, IsPremise, ArePremises, IsRule, AreRules}
use Rattle.rml_clause.proofs.Rows.{joined}

-- ---- each statement

pub data EachOf (P : Stmt → Type 0) : List Stmt → Type 0 where
  none : EachOf P []
  more : (s : Stmt) (ss : List Stmt) → P s → EachOf P ss → EachOf P (s ∷ ss)

pub each-both : {P : Stmt → Type 0} (xs ys : List Stmt) → EachOf P xs → EachOf P ys → EachOf P (xs ++ ys)
each-both xs ys EachOf.none h = h
each-both xs ys (EachOf.more s ss p ps) h = EachOf.more s (ss ++ ys) p (each-both ss ys ps h)

-- it holds of each kind, of a `not` where it holds of each statement of its goal
pub record OfKinds (P : Stmt → Type 0) : Type 0 where
  pub matches : (x : ℕ) (p : Pattern) → P (stmt.Match x p)
  pub sets : (x : ℕ) (e : Expression) → P (stmt.Set x e)
  pub calls : (f : Callee) (xs ys : List ℕ) → P (stmt.Call f xs ys)
  pub built_ins : (k : ℕ) (xs ys : List ℕ) → P (stmt.Builtin k xs ys)
  pub equals : (x y : ℕ) → P (stmt.Equal x y)
  pub nots : (block : List Stmt) → EachOf P block → P (stmt.Not (block ++ stmt.Give [] ∷ []))

module _ (P : Stmt → Type 0) (kinds : OfKinds P) (names : List (List ℕ)) (params : ℕ) where
  one : (s : Stmt) → P s → EachOf P (s ∷ [])
  one s p = EachOf.more s [] p EachOf.none

  in-each : {e : RExp} {y : ℕ} {s : List Stmt} → IsIn names params e y s → EachOf P s
  in-each (IsIn.own x) = EachOf.none
  in-each (IsIn.set e y other) = one _ (kinds.sets y _)

  pub all-in-each : {es : List RExp} {ys : List ℕ} {s : List Stmt} → AreIn names params es ys s → EachOf P s
  all-in-each AreIn.none = EachOf.none
  all-in-each (AreIn.more e es y ys first rest i is) = each-both first rest (in-each i) (all-in-each is)

  pub matched-each : {ps : List RPat} {ys : List ℕ} {s : List Stmt} → AreMatched names params ps ys s → EachOf P s
  matched-each AreMatched.none = EachOf.none
  matched-each (AreMatched.more p ps y ys rest m) = EachOf.more _ rest (kinds.matches y _) (matched-each m)

  mutual
    pub premise-each : {g : RGoal} {s : List Stmt} → IsPremise names params g s → EachOf P s
    premise-each (IsPremise.relation r es ps xs ys sets matches ins outs) =
        each-both sets _ (all-in-each ins) (EachOf.more _ matches (kinds.calls _ xs ys) (matched-each outs))
    premise-each (IsPremise.variable x es ps xs ys sets matches ins outs) =
        each-both sets _ (all-in-each ins) (EachOf.more _ matches (kinds.calls _ xs ys) (matched-each outs))
    premise-each (IsPremise.val k y es ps xs ys sets matches ins outs) =
        each-both sets _ (all-in-each ins) (EachOf.more _ _ (kinds.sets y _) (EachOf.more _ matches (kinds.calls _ xs ys) (matched-each outs)))
    premise-each (IsPremise.built_in k es ps xs ys sets matches ins outs) =
        each-both sets _ (all-in-each ins) (EachOf.more _ matches (kinds.built_ins k xs ys) (matched-each outs))
    premise-each (IsPremise.equality a b x y first second i j) =
        each-both (first ++ second) _ (each-both first second (in-each i) (in-each j)) (one _ (kinds.equals x y))
    premise-each (IsPremise.binding p e y first i) = each-both first _ (in-each i) (one _ (kinds.matches y _))
    premise-each (IsPremise.negation g block i) = one _ (kinds.nots block (premise-each i))
    premise-each (IsPremise.brackets gs block is) = premises-each is

    pub premises-each : {gs : List RGoal} {s : List Stmt} → ArePremises names params gs s → EachOf P s
    premises-each ArePremises.none = EachOf.none
    premises-each (ArePremises.more g gs first rest i is) = each-both first rest (premise-each i) (premises-each is)

-- ---- blocks end

abbrev alternative_ends : Alternative → Bool
alternative_ends = fold-Alternative Standing Bool Bool standing_at alternative_ends_at case_ends_at

abbrev GoesOn : Stmt → Type 0
GoesOn s = standing s ≡ goes_on

ends-behind : (xs ys : List Stmt) → EachOf GoesOn xs → block_ends (map standing (xs ++ ys)) ≡ block_ends (map standing ys)
ends-behind xs ys EachOf.none = refl
ends-behind xs ys (EachOf.more s ss e es) = ap (λ (z : Standing). block_ends (z ∷ map standing (ss ++ ys))) e ∙ ends-behind ss ys es

goal-ends-behind : (xs ys : List Stmt) → EachOf GoesOn xs → goal_ends (map standing (xs ++ ys)) ≡ goal_ends (map standing ys)
goal-ends-behind xs ys EachOf.none = refl
goal-ends-behind xs ys (EachOf.more s ss e es) = ap (λ (z : Standing). goal_ends (z ∷ map standing (ss ++ ys))) e ∙ goal-ends-behind ss ys es

give-answers : (xs : List ℕ) → standing (stmt.Give xs) ≡ answers
give-answers xs = ap standing (sym (rolls-Give xs)) ∙ fold-roll-Stmt Standing Bool Bool standing_at alternative_ends_at case_ends_at (Stmt-F.Give xs)

kinds-go-on : OfKinds GoesOn
kinds-go-on = record {
  matches = λ x p. ap standing (sym (rolls-Match x p)) ∙ fold-roll-Stmt Standing Bool Bool standing_at alternative_ends_at case_ends_at (Stmt-F.Match x p);
  sets = λ x e. ap standing (sym (rolls-Set x e)) ∙ fold-roll-Stmt Standing Bool Bool standing_at alternative_ends_at case_ends_at (Stmt-F.Set x e);
  calls = λ f xs ys. ap standing (sym (rolls-Call f xs ys)) ∙ fold-roll-Stmt Standing Bool Bool standing_at alternative_ends_at case_ends_at (Stmt-F.Call f xs ys);
  built_ins = λ k xs ys. ap standing (sym (rolls-Builtin k xs ys)) ∙ fold-roll-Stmt Standing Bool Bool standing_at alternative_ends_at case_ends_at (Stmt-F.Builtin k xs ys);
  equals = λ x y. ap standing (sym (rolls-Equal x y)) ∙ fold-roll-Stmt Standing Bool Bool standing_at alternative_ends_at case_ends_at (Stmt-F.Equal x y);
  nots = λ block h.
      ap standing (sym (rolls-Not (block ++ stmt.Give [] ∷ [])))
      ∙ fold-roll-Stmt Standing Bool Bool standing_at alternative_ends_at case_ends_at (Stmt-F.Not (block ++ stmt.Give [] ∷ []))
      ∙ ap going_on (goal-ends-behind block (stmt.Give [] ∷ []) h ∙ ap (λ (z : Standing). goal_ends (z ∷ [])) (give-answers []));
}

module _ (names : List (List ℕ)) (params : ℕ) where
  before-give : (P : Stmt → Type 0) → OfKinds P → {r : RRule} {block : List Stmt} (i : IsRule names params r block) → EachOf P ((i.head ++ i.premises) ++ i.sets)
  before-give P kinds i =
      each-both _ _ (each-both _ _ (matched-each P kinds names params i.matched) (premises-each P kinds names params i.searched)) (all-in-each P kinds names params i.given)

  rule-ends : {r : RRule} {block : List Stmt} → IsRule names params r block → block_ends (map standing block) ≡ true
  rule-ends i =
      ap (λ b. block_ends (map standing b)) i.is ∙ ends-behind ((i.head ++ i.premises) ++ i.sets) (stmt.Give i.results ∷ []) (before-give GoesOn kinds-go-on i)
      ∙ ap (λ (z : Standing). block_ends (z ∷ [])) (give-answers i.results)

  rules-end : {rules : List RRule} {alternatives : List Alternative} → AreRules names params rules alternatives → every (map alternative_ends alternatives) ≡ true
  rules-end AreRules.none = refl
  rules-end (AreRules.more r rs a rest i is) =
      ap (λ (z : Bool). z && every (map alternative_ends rest))
      (ap alternative_ends (sym (roll-out-Alternative a)) ∙ fold-roll-Alternative Standing Bool Bool standing_at alternative_ends_at case_ends_at (out-Alternative a) ∙ rule-ends i)
      ∙ rules-end is

  -- the one `or` of a body in plain form ends it
  pub body-ends : (rules : List RRule) (alternatives : List Alternative) (body : List Stmt) → AreRules names params rules alternatives → body ≡ stmt.Or alternatives ∷ []
      → block_ends (map standing body) ≡ true
  body-ends rules alternatives body each is =
      ap (λ b. block_ends (map standing b)) is
      ∙ ap (λ (z : Standing). block_ends (z ∷ []))
      (ap standing (sym (rolls-Or alternatives)) ∙ fold-roll-Stmt Standing Bool Bool standing_at alternative_ends_at case_ends_at (Stmt-F.Or alternatives) ∙ ap ending (rules-end each))

-- ---- what is given

abbrev alternative_gives : Alternative → Gives
alternative_gives = fold-Alternative Gives Gives Gives gives_at alternative_gives_at case_gives_at

abbrev GivesNothing : Stmt → Type 0
GivesNothing s = (wanted : Option ℕ) → gives s wanted ≡ true

gives-behind : (xs ys : List Stmt) (wanted : Option ℕ) → EachOf GivesNothing xs → all_give (map gives (xs ++ ys)) wanted ≡ all_give (map gives ys) wanted
gives-behind xs ys wanted EachOf.none = refl
gives-behind xs ys wanted (EachOf.more s ss e es) = ap (λ (z : Bool). z && all_give (map gives (ss ++ ys)) wanted) (e wanted) ∙ gives-behind ss ys wanted es

give-gives : (xs : List ℕ) (wanted : Option ℕ) → as_wanted (length xs) wanted ≡ true → all_give (map gives (stmt.Give xs ∷ [])) wanted ≡ true
give-gives xs wanted h =
    ap (λ (g : Gives). g wanted && true) (ap gives (sym (rolls-Give xs)) ∙ fold-roll-Stmt Gives Gives Gives gives_at alternative_gives_at case_gives_at (Stmt-F.Give xs))
    ∙ ap (λ (z : Bool). z && true) h

kinds-give-nothing : OfKinds GivesNothing
kinds-give-nothing = record {
  matches = λ x p wanted. ap (λ (g : Gives). g wanted) (ap gives (sym (rolls-Match x p)) ∙ fold-roll-Stmt Gives Gives Gives gives_at alternative_gives_at case_gives_at (Stmt-F.Match x p));
  sets = λ x e wanted. ap (λ (g : Gives). g wanted) (ap gives (sym (rolls-Set x e)) ∙ fold-roll-Stmt Gives Gives Gives gives_at alternative_gives_at case_gives_at (Stmt-F.Set x e));
  calls = λ f xs ys wanted. ap (λ (g : Gives). g wanted) (ap gives (sym (rolls-Call f xs ys)) ∙ fold-roll-Stmt Gives Gives Gives gives_at alternative_gives_at case_gives_at (Stmt-F.Call f xs ys));
  built_ins = λ k xs ys wanted. ap (λ (g : Gives). g wanted) (ap gives (sym (rolls-Builtin k xs ys)) ∙ fold-roll-Stmt Gives Gives Gives gives_at alternative_gives_at case_gives_at (Stmt-F.Builtin k xs ys));
  equals = λ x y wanted. ap (λ (g : Gives). g wanted) (ap gives (sym (rolls-Equal x y)) ∙ fold-roll-Stmt Gives Gives Gives gives_at alternative_gives_at case_gives_at (Stmt-F.Equal x y));
  nots = λ block h wanted.
      ap (λ (g : Gives). g wanted)
      (ap gives (sym (rolls-Not (block ++ stmt.Give [] ∷ []))) ∙ fold-roll-Stmt Gives Gives Gives gives_at alternative_gives_at case_gives_at (Stmt-F.Not (block ++ stmt.Give [] ∷ [])))
      ∙ gives-behind block (stmt.Give [] ∷ []) (Some 0) h ∙ give-gives [] (Some 0) refl;
}

-- ---- what is to spare

abbrev alternative_paid : Alternative → pays.Block
alternative_paid = fold-Alternative pays.Action pays.Block pays.Block paid_at alternative_paid_at case_paid_at

-- with whatever is to spare, where what follows is paid with whatever is
abbrev IsPaid : Stmt → Type 0
IsPaid s = (given next : Paid) → ((c : ℕ) → next c ≡ true) → (c : ℕ) → paid s given next c ≡ true

paid-behind : (xs ys : List Stmt) (given : Paid) → EachOf IsPaid xs → ((c : ℕ) → pays.in_turn (map paid ys) given c ≡ true) → (c : ℕ) → pays.in_turn (map paid (xs ++ ys)) given c ≡ true
paid-behind xs ys given EachOf.none h c = h c
paid-behind xs ys given (EachOf.more s ss e es) h c = e given (pays.in_turn (map paid (ss ++ ys)) given) (paid-behind ss ys given es h) c

give-paid : (xs : List ℕ) (given : Paid) → ((c : ℕ) → given c ≡ true) → (c : ℕ) → pays.in_turn (map paid (stmt.Give xs ∷ [])) given c ≡ true
give-paid xs given h c =
    ap (λ (a : pays.Action). a given (pays.in_turn [] given) c)
    (ap paid (sym (rolls-Give xs)) ∙ fold-roll-Stmt pays.Action pays.Block pays.Block paid_at alternative_paid_at case_paid_at (Stmt-F.Give xs))
    ∙ h c

kinds-paid : OfKinds IsPaid
kinds-paid = record {
  matches = λ x p given next h c.
      ap (λ (a : pays.Action). a given next c)
      (ap paid (sym (rolls-Match x p)) ∙ fold-roll-Stmt pays.Action pays.Block pays.Block paid_at alternative_paid_at case_paid_at (Stmt-F.Match x p))
      ∙ h (match_weight (binds p) + c);
  sets = λ x e given next h c.
      ap (λ (a : pays.Action). a given next c)
      (ap paid (sym (rolls-Set x e)) ∙ fold-roll-Stmt pays.Action pays.Block pays.Block paid_at alternative_paid_at case_paid_at (Stmt-F.Set x e))
      ∙ h (set_spares (out-Expression e) + c);
  calls = λ f xs ys given next h c.
      ap (λ (a : pays.Action). a given next c)
      (ap paid (sym (rolls-Call f xs ys)) ∙ fold-roll-Stmt pays.Action pays.Block pays.Block paid_at alternative_paid_at case_paid_at (Stmt-F.Call f xs ys))
      ∙ h (entry_spares + (call_weight + c));
  built_ins = λ k xs ys given next h c.
      ap (λ (a : pays.Action). a given next c)
      (ap paid (sym (rolls-Builtin k xs ys)) ∙ fold-roll-Stmt pays.Action pays.Block pays.Block paid_at alternative_paid_at case_paid_at (Stmt-F.Builtin k xs ys))
      ∙ h (built_in_spares k (length ys) + c);
  equals = λ x y given next h c.
      ap (λ (a : pays.Action). a given next c)
      (ap paid (sym (rolls-Equal x y)) ∙ fold-roll-Stmt pays.Action pays.Block pays.Block paid_at alternative_paid_at case_paid_at (Stmt-F.Equal x y))
      ∙ h (equal_weight + c);
  nots = λ block inside given next h c.
      ap (λ (a : pays.Action). a given next c)
      (ap paid (sym (rolls-Not (block ++ stmt.Give [] ∷ [])))
      ∙ fold-roll-Stmt pays.Action pays.Block pays.Block paid_at alternative_paid_at case_paid_at (Stmt-F.Not (block ++ stmt.Give [] ∷ [])))
      ∙ joined (pays.in_turn (map paid (block ++ stmt.Give [] ∷ [])) nothing (not_weight - frame_cost + c)) (next entry_spares)
      (paid-behind block (stmt.Give [] ∷ []) nothing inside (give-paid [] nothing (λ d. refl)) (not_weight - frame_cost + c)) (h entry_spares);
}

-- a block that is paid with whatever is to spare, as an alternative before others
first-paid : (a : pays.Block) (rest : List pays.Block) (given : Paid) (c : ℕ) → frame_cost ≤ c → ((d : ℕ) → a given d ≡ true) → ((d : ℕ) → frame_cost ≤ d → pays.in_order rest given d ≡ true)
    → pays.in_order (a ∷ rest) given c ≡ true
first-paid a [] given c le each others = each c
first-paid a (b ∷ rest) given c le each others =
    joined (nat_le frame_cost c && a given (c - frame_cost)) (pays.in_order (b ∷ rest) given entry_spares)
    (joined (nat_le frame_cost c) (a given (c - frame_cost)) (le-leb frame_cost c le) (each (c - frame_cost))) (others entry_spares (omega arith))

module _ (names : List (List ℕ)) (params : ℕ) where
  rule-paid : {r : RRule} {block : List Stmt} → IsRule names params r block → (c : ℕ) → pays.in_turn (map paid block) nothing c ≡ true
  rule-paid i c =
      ap (λ b. pays.in_turn (map paid b) nothing c) i.is
      ∙ paid-behind ((i.head ++ i.premises) ++ i.sets) (stmt.Give i.results ∷ []) nothing (before-give names params IsPaid kinds-paid i) (give-paid i.results nothing (λ d. refl)) c

  rules-paid : {rules : List RRule} {alternatives : List Alternative} → AreRules names params rules alternatives → (c : ℕ) → frame_cost ≤ c → pays.in_order (map alternative_paid alternatives) nothing c ≡ true
  rules-paid AreRules.none c le = refl
  rules-paid (AreRules.more r rs a rest i is) c le =
      first-paid (alternative_paid a) (map alternative_paid rest) nothing c le
      (λ d.
      ap (λ (b : pays.Block). b nothing d)
      (ap alternative_paid (sym (roll-out-Alternative a)) ∙ fold-roll-Alternative pays.Action pays.Block pays.Block paid_at alternative_paid_at case_paid_at (out-Alternative a))
      ∙ rule-paid i d)
      (rules-paid is)

  -- the frames of a body in plain form are paid: those of its alternatives by where the path begins, and those of a `not` by itself
  pub body-is-paid : (rules : List RRule) (alternatives : List Alternative) (body : List Stmt) → AreRules names params rules alternatives → body ≡ stmt.Or alternatives ∷ []
      → pays.in_turn (map paid body) nothing entry_spares ≡ true
  body-is-paid rules alternatives body each is =
      ap (λ b. pays.in_turn (map paid b) nothing entry_spares) is
      ∙ ap (λ (a : pays.Action). a nothing (pays.in_turn [] nothing) entry_spares)
      (ap paid (sym (rolls-Or alternatives)) ∙ fold-roll-Stmt pays.Action pays.Block pays.Block paid_at alternative_paid_at case_paid_at (Stmt-F.Or alternatives))
      ∙ rules-paid each entry_spares (omega arith)

-- ---- as many variables as expressions

pub in-length : {names : List (List ℕ)} {params : ℕ} {es : List RExp} {ys : List ℕ} {s : List Stmt} → AreIn names params es ys s → length ys ≡ length es
in-length AreIn.none = refl
in-length (AreIn.more e es y ys first rest i is) = ap suc (in-length is)

module _ (names : List (List ℕ)) (params : ℕ) (given : ℕ) where
  rule-gives : {r : RRule} {block : List Stmt} → IsRule names params r block → length r.results ≡ given → all_give (map gives block) (Some given) ≡ true
  rule-gives i counted =
      ap (λ b. all_give (map gives b) (Some given)) i.is
      ∙ gives-behind ((i.head ++ i.premises) ++ i.sets) (stmt.Give i.results ∷ []) (Some given) (before-give names params GivesNothing kinds-give-nothing i)
      ∙ give-gives i.results (Some given) (eq-eqb (length i.results) given (in-length i.given ∙ counted))

  -- each rule has so many results
  pub data EachResults : List RRule → Type 0 where
    none : EachResults []
    more : (r : RRule) (rs : List RRule) → length r.results ≡ given → EachResults rs → EachResults (r ∷ rs)

  rules-give : {rules : List RRule} {alternatives : List Alternative} → AreRules names params rules alternatives → EachResults rules → all_give (map alternative_gives alternatives) (Some given) ≡ true
  rules-give AreRules.none h = refl
  rules-give (AreRules.more r rs a rest i is) (EachResults.more q qs counted h) =
      ap (λ (z : Bool). z && all_give (map alternative_gives rest) (Some given))
      (ap (λ (g : Gives). g (Some given)) (ap alternative_gives (sym (roll-out-Alternative a)) ∙ fold-roll-Alternative Gives Gives Gives gives_at alternative_gives_at case_gives_at (out-Alternative a)) ∙ rule-gives i counted)
      ∙ rules-give is h

  -- a body in plain form gives as many values as each of its rules
  pub body-gives : (rules : List RRule) (alternatives : List Alternative) (body : List Stmt) → AreRules names params rules alternatives → EachResults rules → body ≡ stmt.Or alternatives ∷ []
      → all_give (map gives body) (Some given) ≡ true
  body-gives rules alternatives body each counted is =
      ap (λ b. all_give (map gives b) (Some given)) is
      ∙ ap (λ (g : Gives). g (Some given) && true) (ap gives (sym (rolls-Or alternatives)) ∙ fold-roll-Stmt Gives Gives Gives gives_at alternative_gives_at case_gives_at (Stmt-F.Or alternatives))
      ∙ ap (λ (z : Bool). z && true) (rules-give each counted)
