-- What reading from the left finds is the first form, and each text of the first form is found.
use Rattle.std.proofs.Common.{◌≡◌, ℕ, zero, suc, ◌<◌, Bool, true, false, ◌==◌, cond, List, [], ◌∷◌, ◌++◌, length, map, Option, Some, None, refl, sym, ap, subst, ◌∙◌, append_assoc, arith, length-append}
use Rattle.std.specs.Prelude.{codes, IfSome, IfNone, IfOk, Result, Ok, Err}
use Rattle.std.specs.Option.{option_map}
use Rattle.std.specs.Str.{bytes_eq}
use Rattle.std.specs.List.{AllByRecursion}
use Rattle.std.proofs.lemmas.Bool.{eqb-true}
use Rattle.rml_top.specs.FirstForm.{is_module_name, is_literal, is_dashes, signature, interface, opening, conclusion, Premise, premise, further, Parts, literals_of, IsFirstForm}
use Rattle.rml_top.specs.Matching.{◌>>=◌, after, after_one, next_is, after_type, after_rule, literal_at, bracketed_at, premise_at, premises_at, with_literal, ends, literals_in}
use Rattle.rml_top.proofs.Reading.{bind_some, guard_some, after-is}

-- ---- each text of the first form is found

literal-no-round : (l : List ℕ) → is_literal l ≡ true → bytes_eq l (codes "(") ≡ false
literal-no-round [] e = absurd cc
literal-no-round (b ∷ bs) e = let is : b ≡ 34 = eqb-true b 34 e in rw is refl

dashes-no-amp : (d : List ℕ) → is_dashes d ≡ true → bytes_eq d (codes "&") ≡ false
dashes-no-amp [] e = absurd cc
dashes-no-amp (b ∷ bs) e =
    elim (b == 45) as (λ v. (b == 45) ≡ v → bytes_eq (b ∷ bs) (codes "&") ≡ false) [
      | true ↦ λ h. (let is : b ≡ 45 = eqb-true b 45 h in rw is refl)
      | false ↦ λ h. absurd (let g = rw h at e in cc)
    ] refl

premise-found : (p : Premise) (rest : List (List ℕ)) → is_literal p.literal ≡ true → premise_at (premise p ++ rest) ≡ Some (p.literal, rest)
unfolding premise_at
premise-found p rest e = elim p.bracketed as (λ v. premise_at ((codes "print" ∷ (cond v (codes "(" ∷ p.literal ∷ codes ")" ∷ []) (p.literal ∷ []))) ++ rest) ≡ Some (p.literal, rest)) [
  | true ↦ rw e refl
  | false ↦ rw (literal-no-round p.literal e) (rw e refl)
]

-- the conclusion begins with no &
next-premise : (others : List Premise) (d : List ℕ) (rest : List (List ℕ)) → is_dashes d ≡ true → next_is (codes "&") (further others ++ d ∷ rest) ≡ (elim others [ [] ↦ false | q ∷ qs ↦ true ])
next-premise [] d rest e = dashes-no-amp d e
next-premise (q ∷ qs) d rest e = refl

abbrev AreLiterals : List (List ℕ) → Type 0
AreLiterals ls = AllByRecursion (λ l. is_literal l ≡ true) ls

one-more : (n : ℕ) (ts rest : List (List ℕ)) (l : List ℕ) → premise_at ts ≡ Some (l, rest) → next_is (codes "&") rest ≡ false → premises_at (suc n) ts ≡ Some (l ∷ [], rest)
unfolding premises_at
one-more n ts rest l e last = rw e (rw last refl)

one-then : (n : ℕ) (ts more rest : List (List ℕ)) (l : List ℕ) (ls : List (List ℕ)) → premise_at ts ≡ Some (l, codes "&" ∷ more) → premises_at n more ≡ Some (ls, rest) → premises_at (suc n) ts ≡ Some (l ∷ ls, rest)
unfolding premises_at
one-then n ts more rest l ls e f = rw e (rw f refl)

premises-found : (n : ℕ) (first : Premise) (others : List Premise) (d : List ℕ) (rest : List (List ℕ)) → length others < n → is_dashes d ≡ true → AreLiterals (first.literal ∷ map (λ q. q.literal) others)
    → premises_at n (premise first ++ (further others ++ d ∷ rest)) ≡ Some (first.literal ∷ map (λ q. q.literal) others, d ∷ rest)
premises-found zero first others d rest lt e ls = absurd (omega arith)
premises-found (suc n) first [] d rest lt e ls = one-more n _ (d ∷ rest) first.literal (premise-found first (d ∷ rest) ls.0) (dashes-no-amp d e)
premises-found (suc n) first (q ∷ qs) d rest lt e ls =
    let regrouped : (premise q ++ further qs) ++ d ∷ rest ≡ premise q ++ (further qs ++ d ∷ rest) = append_assoc (premise q) (further qs) (d ∷ rest) in
    one-then n _ (premise q ++ (further qs ++ d ∷ rest)) (d ∷ rest) first.literal (q.literal ∷ map (λ p. p.literal) qs)
    (premise-found first _ ls.0 ∙ ap (λ (x : List (List ℕ)). Some (first.literal, codes "&" ∷ x)) regrouped)
    (premises-found n q qs d rest (omega arith) e ls.1)

ends-found : (d : List ℕ) → is_dashes d ≡ true → ends (d ∷ conclusion) ≡ true
unfolding ends
ends-found d e = rw (e, ends) refl

after_type-found : (typed : Bool) (rest : List (List ℕ)) → after_type ((cond typed (codes ":" ∷ signature) [] ++ codes "=" ∷ codes "rule" ∷ []) ++ rest) ≡ Some (codes "=" ∷ codes "rule" ∷ rest)
after_type-found true rest = refl
after_type-found false rest = refl

rule-found : (name : List ℕ) (typed : Bool) (rest : List (List ℕ)) → is_module_name name ≡ true → after_rule (codes "module" ∷ name ∷ interface ++ (opening typed ++ rest)) ≡ Some rest
unfolding after_rule
rule-found name typed rest e = rw (e, after_type-found typed rest) refl

fuel-enough : (first : Premise) (others : List Premise) (rest : List (List ℕ)) → length others < length (premise first ++ (further others ++ rest))
fuel-enough first [] rest = omega arith
fuel-enough first (q ∷ qs) rest =
    let more = fuel-enough q qs rest in
    let regrouped : (premise q ++ further qs) ++ rest ≡ premise q ++ (further qs ++ rest) = append_assoc (premise q) (further qs) rest in
    let same = ap length regrouped in
    omega (arith, length-append (premise first) (further (q ∷ qs) ++ rest))

pub form-found : (tokens literals : List (List ℕ)) → IsFirstForm tokens literals → literals_in tokens ≡ Some literals
unfolding literals_in
form-found tokens literals f =
    let p = f.parts in
    let ls : AreLiterals (literals_of p) = subst (λ (x : List (List ℕ)). AreLiterals x) f.literals_are f.literals_fit in
    let rest = premise p.first ++ (further p.others ++ p.dashes ∷ conclusion) in
    let rule : after_rule tokens ≡ Some rest = ap after_rule f.tokens_are ∙ (rule-found p.name p.typed rest f.name_fits) in
    let prints = premises-found (length rest) p.first p.others p.dashes conclusion (fuel-enough p.first p.others (p.dashes ∷ conclusion)) f.dashes_fit ls in
    rw rule (rw prints (rw (ends-found p.dashes f.dashes_fit) (ap Some (sym f.literals_are))))

-- ---- what is found is the first form

after_one-is : (test : List ℕ → Bool) (ts r : List (List ℕ)) → after_one test ts ≡ Some r → (t : List ℕ) × (ts ≡ t ∷ r) × (test t ≡ true)
after_one-is test [] r e = absurd cc
after_one-is test (t ∷ ts) r e = let g = guard_some (test t) (Some ts) r e in let same : ts ≡ r = cc in (t, ap (λ (x : List (List ℕ)). t ∷ x) same, g.0)

after_type-is : (ts r : List (List ℕ)) → after_type ts ≡ Some r → (typed : Bool) × (ts ≡ (cond typed (codes ":" ∷ signature) []) ++ r)
after_type-is ts r e = elim (next_is (codes ":") ts) as (λ v. cond v (after (codes ":" ∷ signature) ts) (Some ts) ≡ Some r → (typed : Bool) × (ts ≡ (cond typed (codes ":" ∷ signature) []) ++ r)) [
  | true ↦ λ h. (true, after-is (codes ":" ∷ signature) ts r h)
  | false ↦ λ h. (false, (let same : ts ≡ r = cc in same))
] e

abbrev both : {A B : Type 0} → A → B → Option (A × B)
both a b = Some (a, b)

pair-fst : {A B : Type 0} (a c : A) (b d : B) → both a b ≡ both c d → a ≡ c
pair-fst {A} {B} a c b d e = ap (λ (o : Option (A × B)). elim o [ None ↦ a | Some q ↦ q.0 ]) e

pair-snd : {A B : Type 0} (a c : A) (b d : B) → both a b ≡ both c d → b ≡ d
pair-snd {A} {B} a c b d e = ap (λ (o : Option (A × B)). elim o [ None ↦ b | Some q ↦ q.1 ]) e

literal_at-is : (ts : List (List ℕ)) (l : List ℕ) (r : List (List ℕ)) → literal_at ts ≡ Some (l, r) → (ts ≡ l ∷ r) × (is_literal l ≡ true)
literal_at-is [] l r e = absurd cc
literal_at-is (t ∷ ts) l r e =
    let g = guard_some (is_literal t) (Some (t, ts)) (l, r) e in
    let a = pair-fst t l ts r g.1 in
    let b = pair-snd t l ts r g.1 in
    (rw (a, b) refl, rw a at g.0)

-- a premise with this literal, before the rest
record Premised (ts : List (List ℕ)) (l : List ℕ) (r : List (List ℕ)) : Type 0 where
  pub bracketed : Bool
  pub parts : ts ≡ premise (record { literal = l; bracketed = bracketed }) ++ r
  pub fits : is_literal l ≡ true

joined : (ts a k b r : List (List ℕ)) (m l : List ℕ) → ts ≡ codes "(" ∷ a → a ≡ m ∷ k → k ≡ codes ")" ∷ b → m ≡ l → b ≡ r → ts ≡ codes "(" ∷ l ∷ codes ")" ∷ r
joined ts a k b r m l e f g h i = cc

bracketed_at-is : (ts : List (List ℕ)) (l : List ℕ) (r : List (List ℕ)) → bracketed_at ts ≡ Some (l, r) → (ts ≡ codes "(" ∷ l ∷ codes ")" ∷ r) × (is_literal l ≡ true)
bracketed_at-is ts l r e =
    let a = bind_some (after (codes "(" ∷ []) ts) _ (l, r) e in
    let k = bind_some (literal_at a.0) _ (l, r) a.2 in
    let b = bind_some (after (codes ")" ∷ []) k.0.1) _ (l, r) k.2 in
    let first = after-is (codes "(" ∷ []) ts a.0 a.1 in
    let inner = literal_at-is a.0 k.0.0 k.0.1 k.1 in
    let last = after-is (codes ")" ∷ []) k.0.1 b.0 b.1 in
    let same = pair-fst k.0.0 l b.0 r b.2 in
    let rest = pair-snd k.0.0 l b.0 r b.2 in
    (joined ts a.0 k.0.1 b.0 r k.0.0 l first inner.0 last same rest, subst (λ (x : List ℕ). is_literal x ≡ true) same inner.1)

premise_at-is : (ts : List (List ℕ)) (l : List ℕ) (r : List (List ℕ)) → premise_at ts ≡ Some (l, r) → Premised ts l r
unfolding premise_at
premise_at-is ts l r e =
    let a = bind_some (after (codes "print" ∷ []) ts) _ (l, r) e in
    let first = after-is (codes "print" ∷ []) ts a.0 a.1 in
    elim (next_is (codes "(") a.0) as (λ v. cond v (bracketed_at a.0) (literal_at a.0) ≡ Some (l, r) → Premised ts l r) [
      | true ↦ λ h. (let k = bracketed_at-is a.0 l r h in record { bracketed = true; parts = first ∙ ap (λ (x : List (List ℕ)). codes "print" ∷ x) k.0; fits = k.1 })
      | false ↦ λ h. (let k = literal_at-is a.0 l r h in record { bracketed = false; parts = first ∙ ap (λ (x : List (List ℕ)). codes "print" ∷ x) k.0; fits = k.1 })
    ] a.2

pub record Premises (ts ls r : List (List ℕ)) : Type 0 where
  pub first : Premise
  pub others : List Premise
  pub parts : ts ≡ premise first ++ (further others ++ r)
  pub literals : ls ≡ first.literal ∷ map (λ q. q.literal) others
  pub fit : AreLiterals ls

with_literal-is : (l : List ℕ) (x : Option (List (List ℕ) × List (List ℕ))) (y : List (List ℕ) × List (List ℕ)) → with_literal l x ≡ Some y → (r : List (List ℕ) × List (List ℕ)) × (x ≡ Some r) × (both (l ∷ r.0) r.1 ≡ Some y)
with_literal-is l None y e = absurd cc
with_literal-is l (Some r) y e = (r, refl, e)

premises_at-is : (n : ℕ) (ts ls r : List (List ℕ)) → premises_at n ts ≡ Some (ls, r) → Premises ts ls r
unfolding premises_at
premises_at-is zero ts ls r e = absurd cc
premises_at-is (suc n) ts ls r e =
    let p = bind_some (premise_at ts) _ (ls, r) e in
    let k = premise_at-is ts p.0.0 p.0.1 p.1 in
    let first : Premise = record { literal = p.0.0; bracketed = k.bracketed } in
    elim (next_is (codes "&") p.0.1) as (λ v. cond v (after (codes "&" ∷ []) p.0.1 >>= λ a. with_literal p.0.0 (premises_at n a)) (both (p.0.0 ∷ []) p.0.1) ≡ both ls r → Premises ts ls r) [
      | true ↦ λ h. (
          let a = bind_some (after (codes "&" ∷ []) p.0.1) _ (ls, r) h in
          let ps = with_literal-is p.0.0 (premises_at n a.0) (ls, r) a.2 in
          let amp = after-is (codes "&" ∷ []) p.0.1 a.0 a.1 in
          let others = premises_at-is n a.0 ps.0.0 ps.0.1 ps.1 in
          let names = pair-fst (p.0.0 ∷ ps.0.0) ls ps.0.1 r ps.2 in
          let rest = pair-snd (p.0.0 ∷ ps.0.0) ls ps.0.1 r ps.2 in
          let regrouped : premise others.first ++ (further others.others ++ ps.0.1) ≡ (premise others.first ++ further others.others) ++ ps.0.1 = sym (append_assoc (premise others.first) (further others.others) ps.0.1) in
          record {
            first = first;
            others = others.first ∷ others.others;
            parts = k.parts ∙ ap (λ (x : List (List ℕ)). premise first ++ x) (amp ∙ ap (λ (x : List (List ℕ)). codes "&" ∷ x) (others.parts ∙ regrouped ∙ ap (λ (x : List (List ℕ)). (premise others.first ++ further others.others) ++ x) rest));
            literals = sym names ∙ ap (λ (x : List (List ℕ)). p.0.0 ∷ x) others.literals;
            fit = subst (λ (x : List (List ℕ)). AreLiterals x) names (k.fits, others.fit);
          })
      | false ↦ λ h. (
          let names = pair-fst (p.0.0 ∷ []) ls p.0.1 r h in
          let rest = pair-snd (p.0.0 ∷ []) ls p.0.1 r h in
          record {
            first = first;
            others = [];
            parts = k.parts ∙ ap (λ (x : List (List ℕ)). premise first ++ x) rest;
            literals = sym names;
            fit = subst (λ (x : List (List ℕ)). AreLiterals x) names (k.fits, tt);
          })
    ] p.2

-- the tokens before the premises
record Ruled (ts r : List (List ℕ)) : Type 0 where
  pub name : List ℕ
  pub typed : Bool
  pub parts : ts ≡ codes "module" ∷ name ∷ interface ++ (opening typed ++ r)
  pub fits : is_module_name name ≡ true

opening-is : (typed : Bool) (c d e r : List (List ℕ)) → c ≡ codes "relation" ∷ codes "main" ∷ d → d ≡ (cond typed (codes ":" ∷ signature) []) ++ e → e ≡ codes "=" ∷ codes "rule" ∷ r → c ≡ opening typed ++ r
opening-is true c d e r f g h = rw (f, g, h) refl
opening-is false c d e r f g h = rw (f, g, h) refl

after_rule-is : (ts r : List (List ℕ)) → after_rule ts ≡ Some r → Ruled ts r
unfolding after_rule
after_rule-is ts r h =
    let a = bind_some (after (codes "module" ∷ []) ts) _ r h in
    let b = bind_some (after_one is_module_name a.0) _ r a.2 in
    let c = bind_some (after interface b.0) _ r b.2 in
    let d = bind_some (after (codes "relation" ∷ codes "main" ∷ []) c.0) _ r c.2 in
    let e = bind_some (after_type d.0) _ r d.2 in
    let one = after_one-is is_module_name a.0 b.0 b.1 in
    let type = after_type-is d.0 e.0 e.1 in
    let opened : c.0 ≡ opening type.0 ++ r = opening-is type.0 c.0 d.0 e.0 r (after-is (codes "relation" ∷ codes "main" ∷ []) c.0 d.0 d.1) type.1 (after-is (codes "=" ∷ codes "rule" ∷ []) e.0 r e.2) in
    let named : b.0 ≡ interface ++ c.0 = after-is interface b.0 c.0 c.1 in
    record {
      name = one.0;
      typed = type.0;
      parts = after-is (codes "module" ∷ []) ts a.0 a.1 ∙ ap (λ (x : List (List ℕ)). codes "module" ∷ x) (one.1 ∙ ap (λ (x : List (List ℕ)). one.0 ∷ x) (named ∙ ap (λ (x : List (List ℕ)). interface ++ x) opened));
      fits = one.2;
    }

nothing-left : (rest : List (List ℕ)) → (elim rest as (λ _. Bool) [ [] ↦ true | t ∷ ts ↦ false ]) ≡ true → rest ≡ []
nothing-left [] e = refl
nothing-left (t ∷ ts) e = absurd cc

ends-is : (ts : List (List ℕ)) → ends ts ≡ true → (d : List ℕ) × (ts ≡ d ∷ conclusion) × (is_dashes d ≡ true)
unfolding ends
ends-is ts e = elim (after_one is_dashes ts) as (λ v. after_one is_dashes ts ≡ v → elim (v >>= after conclusion) as (λ _. Bool) [ None ↦ false | Some rest ↦ (elim rest as (λ _. Bool) [ [] ↦ true | t ∷ ts ↦ false ]) ] ≡ true → (d : List ℕ) × (ts ≡ d ∷ conclusion) × (is_dashes d ≡ true)) [
  | None ↦ λ h k. absurd cc
  | Some r ↦ λ h k. (
      let one = after_one-is is_dashes ts r h in
      let rest : (after conclusion r ≡ Some []) = elim (after conclusion r) as (λ v. after conclusion r ≡ v → elim v as (λ _. Bool) [ None ↦ false | Some rest ↦ (elim rest as (λ _. Bool) [ [] ↦ true | t ∷ ts ↦ false ]) ] ≡ true → after conclusion r ≡ Some []) [
        | None ↦ λ m n. absurd cc
        | Some q ↦ λ m n. m ∙ ap Some (nothing-left q n)
      ] refl k in
      let is : r ≡ conclusion = after-is conclusion r [] rest in
      (one.0, one.1 ∙ ap (λ (x : List (List ℕ)). one.0 ∷ x) is, one.2))
] refl e

pub some-is : (a b : List (List ℕ)) → Some a ≡ Some b → a ≡ b
some-is a b e = cc

pub form-is : (tokens literals : List (List ℕ)) → literals_in tokens ≡ Some literals → IsFirstForm tokens literals
unfolding literals_in
form-is tokens literals e =
    let rule = bind_some (after_rule tokens) _ literals e in
    let r = after_rule-is tokens rule.0 rule.1 in
    let ps = bind_some (premises_at (length rule.0) rule.0) _ literals rule.2 in
    let prints = premises_at-is (length rule.0) rule.0 ps.0.0 ps.0.1 ps.1 in
    let g = guard_some (ends ps.0.1) (Some ps.0.0) literals ps.2 in
    let end = ends-is ps.0.1 g.0 in
    let same : ps.0.0 ≡ literals = some-is ps.0.0 literals g.1 in
    let parts : Parts = record { name = r.name; typed = r.typed; first = prints.first; others = prints.others; dashes = end.0 } in
    let written : rule.0 ≡ premise prints.first ++ (further prints.others ++ end.0 ∷ conclusion) = prints.parts ∙ ap (λ (x : List (List ℕ)). premise prints.first ++ (further prints.others ++ x)) end.1 in
    record {
      parts = parts;
      tokens_are = r.parts ∙ ap (λ (x : List (List ℕ)). codes "module" ∷ r.name ∷ interface ++ (opening r.typed ++ x)) written;
      literals_are = sym same ∙ prints.literals;
      name_fits = r.fits;
      dashes_fit = end.2;
      literals_fit = subst (λ (x : List (List ℕ)). AreLiterals x) same prints.fit;
    }

-- ---- what the code gives, by the form

pub given : {X E : Type 0} (view : X → List (List ℕ)) (tokens : List (List ℕ)) (r : Result (Option X) E) → IfOk r (λ found. option_map view found ≡ literals_in tokens)
    → IfOk r (λ found. IfSome found (λ x. IsFirstForm tokens (view x))) × IfOk r (λ found. IfNone found ((literals : List (List ℕ)) → ¬ IsFirstForm tokens literals))
given view tokens (Ok None) e = (tt, λ literals f. let g = form-found tokens literals f in cc)
given view tokens (Ok (Some x)) e = (form-is tokens (view x) (sym e), tt)
given view tokens (Err x) e = (tt, tt)
