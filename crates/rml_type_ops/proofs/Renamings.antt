-- When labels with numbered variables are the same: exactly where a renaming makes one type the other.
use Rattle.std.proofs.Common.{◌≡◌, ℕ, suc, ◌+◌, ◌<◌, List, [], ◌∷◌, ◌++◌, length, map, take, drop, refl, sym, ap, ◌∙◌, arith, subst, get_or, append_assoc, length-append, Bool, true, false, Result, Ok, Err}
use Rattle.std.specs.Prelude.{max, nat_eq, if◌then◌else◌, ◌↔◌, Contains, All, IfOk, IsTrue}
use Rattle.std.specs.List.{AllByRecursion, list_any}
use Rattle.std.proofs.lemmas.Bool.Decides.{nat_tests}
use Rattle.std.proofs.lemmas.List.{append-nil, get_or_append_left, length-map, map-append, take-map, drop-map}
use Rattle.std.proofs.lemmas.List.Elements.{All-contains, All-contains_itself, All-from_recursion, recursion_from_All}
use Rattle.rml_base.specs.declared.memory.Memory.{Memory}
use Rattle.rml_types.specs.declared.form.TypeCon.{TypeCon}
use Rattle.rml_types.specs.declared.form.TypeCon.TheVariants as con
use Rattle.rml_types.specs.declared.tree.SchemeTree.{SchemeTree}
use Rattle.rml_types.specs.declared.tree.SchemeTree.TheVariants as tree
use Rattle.rml_types.specs.Finite.{built}
use Rattle.rml_types.specs.General.{variables_in}
use Rattle.rml_types.specs.Labels.{Label, all_labels, labels}
use Rattle.rml_types.specs.Nodes.{Fits}
use Rattle.rml_types.specs.Spelled.{number_of, numbers_in, place}
use Rattle.rml_types.proofs.Callers.{all-left, all-right, fold-Named, fold-Rel, fold-Tuple, fold-Var, induct-built, labels-built, labels-one, place-known, place-new, place-stays, variables-labels}
use Rattle.rml_type_ops.specs.Numbered.{numbered, numbered_con, vars_after}
use Rattle.rml_type_ops.specs.Renaming.{IsSameUpToNames, renamed, renamed_at}

-- a constructor and labels with variables renamed
abbrev renamed_con : (ℕ → ℕ) → TypeCon → TypeCon
renamed_con name (con.Named c) = con.Named c
renamed_con name (con.Fixed k) = con.Fixed (name k)
renamed_con name con.Tuple = con.Tuple
renamed_con name (con.Rel inputs) = con.Rel inputs

abbrev relabelled : (ℕ → ℕ) → Label → Label
relabelled name l = (renamed_con name l.0, l.1)

module _ (name : ℕ → ℕ) where
  fits-renamed : (c : TypeCon) (n : ℕ) → Fits c n → Fits (renamed_con name c) n
  fits-renamed (con.Named c) n fits = fits
  fits-renamed (con.Fixed k) n fits = fits
  fits-renamed con.Tuple n fits = fits
  fits-renamed (con.Rel inputs) n fits = fits

  renamed-built : (c : TypeCon) (ts : List SchemeTree) → renamed name (built c ts) ≡ built (renamed_con name c) (map (renamed name) ts)
  renamed-built (con.Named c) ts = fold-Named SchemeTree (renamed_at name) c ts
  renamed-built (con.Fixed k) ts = fold-Var SchemeTree (renamed_at name) k
  renamed-built con.Tuple ts = fold-Tuple SchemeTree (renamed_at name) ts
  renamed-built (con.Rel inputs) ts =
      fold-Rel SchemeTree (renamed_at name) (take inputs ts) (drop inputs ts)
      ∙ ap (λ us. tree.Rel us (map (renamed name) (drop inputs ts))) (sym (take-map (renamed name) inputs ts))
      ∙ ap (tree.Rel (take inputs (map (renamed name) ts))) (sym (drop-map (renamed name) inputs ts))

  abbrev IsRelabelled : SchemeTree → Type 0
  IsRelabelled t = labels (renamed name t) ≡ map (relabelled name) (labels t)

  all-relabelled : (ts : List SchemeTree) → AllByRecursion IsRelabelled ts → all_labels (map (renamed name) ts) ≡ map (relabelled name) (all_labels ts)
  all-relabelled [] a = refl
  all-relabelled (t ∷ ts) a =
      ap (λ ls. ls ++ all_labels (map (renamed name) ts)) a.0 ∙ ap (λ ls. map (relabelled name) (labels t) ++ ls) (all-relabelled ts a.1)
      ∙ sym (map-append (relabelled name) (labels t) (all_labels ts))

  labels-renamed : (t : SchemeTree) → labels (renamed name t) ≡ map (relabelled name) (labels t)
  labels-renamed = induct-built IsRelabelled (λ c ts fits a.
      ap labels (renamed-built c ts)
      ∙ labels-built (renamed_con name c) (map (renamed name) ts) (subst (Fits (renamed_con name c)) (sym (length-map ts (renamed name))) (fits-renamed c (length ts) fits))
      ∙ ap (λ n. all_labels (map (renamed name) ts) ++ (renamed_con name c, n) ∷ []) (length-map ts (renamed name))
      ∙ ap (λ ls. ls ++ (renamed_con name c, length ts) ∷ []) (all-relabelled ts a)
      ∙ sym (map-append (relabelled name) (all_labels ts) ((c, length ts) ∷ []))
      ∙ ap (map (relabelled name)) (sym (labels-built c ts fits)))

  number-renamed : (c : TypeCon) → number_of (renamed_con name c) ≡ map name (number_of c)
  number-renamed (con.Named c) = refl
  number-renamed (con.Fixed k) = refl
  number-renamed con.Tuple = refl
  number-renamed (con.Rel inputs) = refl

  numbers-renamed : (ls : List Label) → numbers_in (map (relabelled name) ls) ≡ map name (numbers_in ls)
  numbers-renamed [] = refl
  numbers-renamed (l ∷ ls) =
      ap (λ ks. ks ++ numbers_in (map (relabelled name) ls)) (number-renamed l.0) ∙ ap (λ ks. map name (number_of l.0) ++ ks) (numbers-renamed ls)
      ∙ sym (map-append name (number_of l.0) (numbers_in ls))

-- a variable behind some, where it is a further one, has its place there
abbrev with_var : List ℕ → ℕ → List ℕ
with_var vars k = vars_after vars (con.Fixed k)

pub record Added (vars : List ℕ) (k : ℕ) : Type 0 where
  pub count : length (with_var vars k) ≡ max (length vars) (place vars k + 1)
  pub same : place (with_var vars k) k ≡ place vars k
  pub within : place (with_var vars k) k < length (with_var vars k)

added : (vars : List ℕ) (k : ℕ) → Added vars k
added vars k = go (list_any (nat_eq k) vars) refl where
  go : (b : Bool) → list_any (nat_eq k) vars ≡ b → Added vars k
  go true e =
      let lt = place-known vars k e in
      let w : with_var vars k ≡ vars = rw e refl in
      record {
        count = (let n = ap length w in omega arith);
        same = ap (λ vs. place vs k) w;
        within = subst (λ vs. place vs k < length vs) (sym w) lt;
      }
  go false e =
      let p = place-new vars k e in
      let w : with_var vars k ≡ vars ++ k ∷ [] = rw e refl in
      let l = length-append vars (k ∷ []) in
      let a = p.0 in
      let b = p.1 in
      record {
        count = (let n = ap length w in omega arith);
        same = ap (λ vs. place vs k) w ∙ b ∙ sym a;
        within = subst (λ vs. place vs k < length vs) (sym w) (omega arith);
      }

-- what stands at the place of a variable is the variable
at-its-place : (vars : List ℕ) (k : ℕ) → place vars k < length vars → get_or vars (place vars k) 0 ≡ k
at-its-place [] k lt = absurd (omega arith)
at-its-place (v ∷ vs) k lt = go (nat_eq k v) refl (at-its-place vs k) where
  go : (b : Bool) → nat_eq k v ≡ b → (place vs k < length vs → get_or vs (place vs k) 0 ≡ k) → get_or (v ∷ vs) (place (v ∷ vs) k) 0 ≡ k
  go true e rest = let same : k ≡ v = grind (arith, nat_tests) in rw e (sym same)
  go false e rest =
      let p : place (v ∷ vs) k ≡ suc (place vs k) = rw e (omega arith) in
      let less : place vs k < length vs = omega arith in
      rw p (rest less)

-- the variable that stands in one list where another has its place in a second
abbrev named_by : List ℕ → List ℕ → ℕ → ℕ
named_by xs ys k = get_or ys (place xs k) 0

-- two constructors are the same up to the places of their variables
pub record Agree (xs ys : List ℕ) (c d : TypeCon) : Type 0 where
  pub count : length (vars_after xs c) ≡ length (vars_after ys d)
  pub named : (more rest : List ℕ) → renamed_con (named_by (vars_after xs c ++ more) (vars_after ys d ++ rest)) c ≡ d

fixed-of : {j k : ℕ} → con.Fixed j ≡ con.Fixed k → j ≡ k
fixed-of e = cc

agree : (xs ys : List ℕ) (c d : TypeCon) → length xs ≡ length ys → numbered_con xs c ≡ numbered_con ys d → Agree xs ys c d
agree xs ys (con.Fixed j) (con.Fixed k) n e =
    let places = fixed-of e in
    let a = added xs j in
    let b = added ys k in
    record {
      count = (let p = a.count in let q = b.count in omega arith);
      named = λ more rest. ap con.Fixed (
          ap (λ i. get_or (with_var ys k ++ rest) i 0) (place-stays (with_var xs j) more j a.within ∙ a.same ∙ places ∙ sym b.same)
          ∙ get_or_append_left (with_var ys k) rest 0 (place (with_var ys k) k) b.within
          ∙ at-its-place (with_var ys k) k b.within);
    }
agree xs ys (con.Fixed j) (con.Named d) n e = cc
agree xs ys (con.Fixed j) con.Tuple n e = cc
agree xs ys (con.Fixed j) (con.Rel outs) n e = cc
agree xs ys (con.Named c) (con.Named d) n e = record { count = n; named = λ more rest. e }
agree xs ys (con.Named c) (con.Fixed k) n e = cc
agree xs ys (con.Named c) con.Tuple n e = cc
agree xs ys (con.Named c) (con.Rel outs) n e = cc
agree xs ys con.Tuple (con.Named d) n e = cc
agree xs ys con.Tuple (con.Fixed k) n e = cc
agree xs ys con.Tuple con.Tuple n e = record { count = n; named = λ more rest. e }
agree xs ys con.Tuple (con.Rel outs) n e = cc
agree xs ys (con.Rel ins) (con.Named d) n e = cc
agree xs ys (con.Rel ins) (con.Fixed k) n e = cc
agree xs ys (con.Rel ins) con.Tuple n e = cc
agree xs ys (con.Rel ins) (con.Rel outs) n e = record { count = n; named = λ more rest. e }

-- all variables in the end
came : List ℕ → List Label → List ℕ
came vars [] = vars
came vars (l ∷ ls) = came (vars_after vars l.0) ls

after-grows : (vars : List ℕ) (c : TypeCon) → (more : List ℕ) × (vars_after vars c ≡ vars ++ more)
after-grows vars (con.Named c) = ([], sym (append-nil vars))
after-grows vars (con.Fixed k) = go (list_any (nat_eq k) vars) refl where
  go : (b : Bool) → list_any (nat_eq k) vars ≡ b → (more : List ℕ) × (with_var vars k ≡ vars ++ more)
  go true e = ([], rw e (sym (append-nil vars)))
  go false e = (k ∷ [], rw e refl)
after-grows vars con.Tuple = ([], sym (append-nil vars))
after-grows vars (con.Rel inputs) = ([], sym (append-nil vars))

came-grows : (vars : List ℕ) (ls : List Label) → (more : List ℕ) × (came vars ls ≡ vars ++ more)
unfolding came
came-grows vars [] = ([], sym (append-nil vars))
came-grows vars (l ∷ ls) =
    let a = after-grows vars l.0 in
    let c = came-grows (vars_after vars l.0) ls in
    (a.0 ++ c.0, c.1 ∙ ap (λ vs. vs ++ c.0) a.1 ∙ append_assoc vars a.0 c.0)

first-of : {X : Type 0} {x y : X} {xs ys : List X} → x ∷ xs ≡ y ∷ ys → x ≡ y
first-of e = cc

rest-of : {X : Type 0} {x y : X} {xs ys : List X} → x ∷ xs ≡ y ∷ ys → xs ≡ ys
rest-of e = cc

-- where the numbered labels are the same, one list of labels is the other renamed by places
by-places : (ls ms : List Label) (xs ys : List ℕ) → length xs ≡ length ys → numbered xs ls ≡ numbered ys ms → map (relabelled (named_by (came xs ls) (came ys ms))) ls ≡ ms
unfolding came
by-places [] [] xs ys n e = refl
by-places [] (m ∷ ms) xs ys n e = cc
by-places (l ∷ ls) [] xs ys n e = cc
by-places (l ∷ ls) (m ∷ ms) xs ys n e =
    let first = first-of e in
    let g = agree xs ys l.0 m.0 n (ap (λ (k : Label). k.0) first) in
    let p = came-grows (vars_after xs l.0) ls in
    let q = came-grows (vars_after ys m.0) ms in
    let c : renamed_con (named_by (came (vars_after xs l.0) ls) (came (vars_after ys m.0) ms)) l.0 ≡ m.0 = rw (p.1, q.1) (g.named p.0 q.0) in
    let same : relabelled (named_by (came (vars_after xs l.0) ls) (came (vars_after ys m.0) ms)) l ≡ m = ap (λ d. (d, l.1)) c ∙ ap (λ n. (m.0, n)) (ap (λ (k : Label). k.1) first) in
    ap (λ k. k ∷ map (relabelled (named_by (came (vars_after xs l.0) ls) (came (vars_after ys m.0) ms))) ls) same
    ∙ ap (λ ks. m ∷ ks) (by-places ls ms (vars_after xs l.0) (vars_after ys m.0) g.count (rest-of e))

-- numbers that two renamings give back stand for themselves
back : (f g : ℕ → ℕ) (ks : List ℕ) → map g (map f ks) ≡ ks → AllByRecursion (λ k. g (f k) ≡ k) ks
back f g [] e = tt
back f g (k ∷ ks) e = (first-of e, back f g ks (rest-of e))

-- types whose numbered labels are the same are one up to names
pub by-numbers : (a b : SchemeTree) → numbered [] (labels a) ≡ numbered [] (labels b) → IsSameUpToNames a b
by-numbers a b e =
    let f = named_by (came [] (labels a)) (came [] (labels b)) in
    let g = named_by (came [] (labels b)) (came [] (labels a)) in
    let there = by-places (labels a) (labels b) [] [] refl e in
    let here = by-places (labels b) (labels a) [] [] refl (sym e) in
    let numbers : map g (map f (numbers_in (labels a))) ≡ numbers_in (labels a) =
    ap (map g) (sym (numbers-renamed f (labels a)) ∙ ap numbers_in there) ∙ sym (numbers-renamed g (labels b)) ∙ ap numbers_in here in
    let each : All (λ k. g (f k) ≡ k) (variables_in a) = All-from_recursion (λ k. g (f k) ≡ k) (variables_in a)
    (subst (AllByRecursion (λ k. g (f k) ≡ k)) (sym (variables-labels a)) (back f g (numbers_in (labels a)) numbers)) in
    record {
      name = f;
      one_to_one = λ j k in_j in_k same. sym (All-contains (λ i. g (f i) ≡ i) (variables_in a) j each in_j) ∙ ap g same ∙ All-contains (λ i. g (f i) ≡ i) (variables_in a) k each in_k;
      is = labels-one (renamed f a) b (labels-renamed f a ∙ there);
    }

module _ (name : ℕ → ℕ) (P : ℕ → Type 0) (apart : (j k : ℕ) → P j → P k → name j ≡ name k → j ≡ k) where
  same-test : (j k : ℕ) → P j → P k → nat_eq (name j) (name k) ≡ nat_eq j k
  same-test j k p q = go (nat_eq j k) refl (nat_eq (name j) (name k)) refl where
    go : (b : Bool) → nat_eq j k ≡ b → (d : Bool) → nat_eq (name j) (name k) ≡ d → nat_eq (name j) (name k) ≡ nat_eq j k
    go true e true h = h ∙ sym e
    go false e false h = h ∙ sym e
    go true e false h = let same : j ≡ k = grind (arith, nat_tests) in let names = ap name same in grind (arith, nat_tests)
    go false e true h = let names : name j ≡ name k = grind (arith, nat_tests) in let same = apart j k p q names in grind (arith, nat_tests)

  place-renamed : (vars : List ℕ) (k : ℕ) → AllByRecursion P vars → P k → place (map name vars) (name k) ≡ place vars k
  place-renamed [] k a p = refl
  place-renamed (v ∷ vs) k a p = rw (same-test k v p a.0, place-renamed vs k a.1 p) refl

  any-renamed : (vars : List ℕ) (k : ℕ) → AllByRecursion P vars → P k → list_any (nat_eq (name k)) (map name vars) ≡ list_any (nat_eq k) vars
  any-renamed [] k a p = refl
  any-renamed (v ∷ vs) k a p = rw (same-test k v p a.0, any-renamed vs k a.1 p) refl

  con-renamed : (vars : List ℕ) (c : TypeCon) → AllByRecursion P vars → AllByRecursion P (number_of c) → numbered_con (map name vars) (renamed_con name c) ≡ numbered_con vars c
  con-renamed vars (con.Named c) a p = refl
  con-renamed vars (con.Fixed k) a p = ap con.Fixed (place-renamed vars k a p.0)
  con-renamed vars con.Tuple a p = refl
  con-renamed vars (con.Rel inputs) a p = refl

  after-renamed : (vars : List ℕ) (c : TypeCon) → AllByRecursion P vars → AllByRecursion P (number_of c) → vars_after (map name vars) (renamed_con name c) ≡ map name (vars_after vars c)
  after-renamed vars (con.Named c) a p = refl
  after-renamed vars (con.Fixed k) a p = rw (any-renamed vars k a p.0) (go (list_any (nat_eq k) vars)) where
    go : (b : Bool) → (if b then map name vars else map name vars ++ name k ∷ []) ≡ map name (if b then vars else vars ++ k ∷ [])
    go true = refl
    go false = sym (map-append name vars (k ∷ []))
  after-renamed vars con.Tuple a p = refl
  after-renamed vars (con.Rel inputs) a p = refl

  all-more : (vars : List ℕ) (k : ℕ) → AllByRecursion P vars → P k → AllByRecursion P (vars ++ k ∷ [])
  all-more [] k a p = (p, tt)
  all-more (v ∷ vs) k a p = (a.0, all-more vs k a.1 p)

  after-all : (vars : List ℕ) (c : TypeCon) → AllByRecursion P vars → AllByRecursion P (number_of c) → AllByRecursion P (vars_after vars c)
  after-all vars (con.Named c) a p = a
  after-all vars (con.Fixed k) a p = go (list_any (nat_eq k) vars) where
    go : (b : Bool) → AllByRecursion P (if b then vars else vars ++ k ∷ [])
    go true = a
    go false = all-more vars k a p.0
  after-all vars con.Tuple a p = a
  after-all vars (con.Rel inputs) a p = a

  -- a renaming that tells the variables apart changes no number
  numbered-renamed : (ls : List Label) (vars : List ℕ) → AllByRecursion P vars → AllByRecursion P (numbers_in ls) → numbered (map name vars) (map (relabelled name) ls) ≡ numbered vars ls
  numbered-renamed [] vars a p = refl
  numbered-renamed (l ∷ ls) vars a p =
      let here = all-left P (number_of l.0) (numbers_in ls) p in
      let there = all-right P (number_of l.0) (numbers_in ls) p in
      let c = con-renamed vars l.0 a here in
      let v = after-renamed vars l.0 a here in
      let rest = numbered-renamed ls (vars_after vars l.0) (after-all vars l.0 a here) there in
      ap (λ d. (d, l.1) ∷ numbered (vars_after (map name vars) (renamed_con name l.0)) (map (relabelled name) ls)) c
      ∙ ap (λ vs. (numbered_con vars l.0, l.1) ∷ numbered vs (map (relabelled name) ls)) v
      ∙ ap (λ ms. (numbered_con vars l.0, l.1) ∷ ms) rest

-- types that are one up to names have the same numbered labels
pub by-renaming : (a b : SchemeTree) → IsSameUpToNames a b → numbered [] (labels a) ≡ numbered [] (labels b)
by-renaming a b s =
    let all = recursion_from_All (Contains (variables_in a)) (variables_in a) (All-contains_itself (variables_in a)) in
    sym (numbered-renamed s.name (Contains (variables_in a)) s.one_to_one (labels a) [] tt (subst (AllByRecursion (Contains (variables_in a))) (variables-labels a) all))
    ∙ ap (numbered []) (sym (labels-renamed s.name a) ∙ ap labels s.is)

-- so the numbered labels decide
pub up-to-names : (r : Result Bool Memory) (ls ms : List Label) (a b : SchemeTree) → ls ≡ labels a → ms ≡ labels b → IfOk r (λ same. IsTrue same ↔ (numbered [] ls ≡ numbered [] ms))
    → IfOk r (λ same. IsTrue same ↔ IsSameUpToNames a b)
up-to-names (Err e) ls ms a b is_a is_b h = tt
up-to-names (Ok same) ls ms a b is_a is_b h = (
  λ t. by-numbers a b (ap (numbered []) (sym is_a) ∙ h.0 t ∙ ap (numbered []) is_b),
  λ s. h.1 (ap (numbered []) is_a ∙ by-renaming a b s ∙ ap (numbered []) (sym is_b)),
)

pub length-numbered : (vars : List ℕ) (ls : List Label) → length (numbered vars ls) ≡ length ls
length-numbered vars [] = refl
length-numbered vars (l ∷ ls) = ap suc (length-numbered (vars_after vars l.0) ls)

pub reflexive : (a : SchemeTree) → IsSameUpToNames a a
reflexive a = by-numbers a a refl

pub symmetric : (a b : SchemeTree) → IsSameUpToNames a b → IsSameUpToNames b a
symmetric a b s = by-numbers b a (sym (by-renaming a b s))

pub transitive : (a b c : SchemeTree) → IsSameUpToNames a b → IsSameUpToNames b c → IsSameUpToNames a c
transitive a b c s t = by-numbers a c (by-renaming a b s ∙ by-renaming b c t)
