-- How the variables among the labels of classes are numbered.
use Rattle.std.proofs.Common.{◌≡◌, ℕ, suc, ◌+◌, ◌<◌, ◌≤◌, List, [], ◌∷◌, ◌++◌, length, map, refl, sym, ap, ◌∙◌, arith, subst, get_or, length-append, append_assoc, Option, Some, None, Bool, true, false}
use Rattle.std.specs.Prelude.{max, nat_eq, if◌then◌else◌}
use Rattle.std.specs.List.{list_any}
use Rattle.std.proofs.lemmas.Bool.Decides.{nat_tests}
use Rattle.std.proofs.lemmas.List.{append-nil}
use Rattle.rml_types.specs.declared.form.Form.{Form}
use Rattle.rml_types.specs.declared.form.TypeCon.{TypeCon}
use Rattle.rml_types.specs.declared.form.TypeCon.TheVariants as con
use Rattle.rml_types.specs.General.{InOrder}
use Rattle.rml_types.specs.Labels.{Label}
use Rattle.rml_types.specs.Spelled.{IsName, Names, Unfixed, label_by, number_of, numbers_in, place, vars_with}

-- the place of a class that is among some stays where more follow
pub place-stays : (vars more : List ℕ) (c : ℕ) → place vars c < length vars → place (vars ++ more) c ≡ place vars c
place-stays [] more c lt = absurd (omega arith)
place-stays (v ∷ vs) more c lt = go (nat_eq c v) refl (place-stays vs more c) where
  go : (b : Bool) → nat_eq c v ≡ b → (place vs c < length vs → place (vs ++ more) c ≡ place vs c) → place ((v ∷ vs) ++ more) c ≡ place (v ∷ vs) c
  go true e rest = rw e refl
  go false e rest =
      let less : place vs c < length vs = (let p : place (v ∷ vs) c ≡ 1 + place vs c = rw e refl in omega arith) in
      rw e (ap (λ k. 1 + k) (rest less))

-- what stands at the place of a class is the class
pub at-place : {X : Type 0} (f : ℕ → X) (d : X) (vars : List ℕ) (c : ℕ) → place vars c < length vars → get_or (map f vars) (place vars c) d ≡ f c
at-place f d [] c lt = absurd (omega arith)
at-place f d (v ∷ vs) c lt = go (nat_eq c v) refl (at-place f d vs c) where
  go : (b : Bool) → nat_eq c v ≡ b → (place vs c < length vs → get_or (map f vs) (place vs c) d ≡ f c) → get_or (map f (v ∷ vs)) (place (v ∷ vs) c) d ≡ f c
  go true e rest = let same : c ≡ v = grind (arith, nat_tests) in rw e (ap f (sym same))
  go false e rest =
      let more : 1 + place vs c ≡ suc (place vs c) = omega arith in
      let p : place (v ∷ vs) c ≡ 1 + place vs c = rw e refl in
      let less : place vs c < length vs = omega arith in
      rw (e, more) (rest less)

-- a class that is among some has a place below their number, and another the place behind them
pub place-known : (vars : List ℕ) (c : ℕ) → list_any (nat_eq c) vars ≡ true → place vars c < length vars
place-known [] c e = cc
place-known (v ∷ vs) c e = go (nat_eq c v) refl (place-known vs c) where
  go : (b : Bool) → nat_eq c v ≡ b → (list_any (nat_eq c) vs ≡ true → place vs c < length vs) → place (v ∷ vs) c < length (v ∷ vs)
  go true t rest = rw t (omega arith)
  go false t rest = let h : list_any (nat_eq c) vs ≡ true = rw t at e in let p = rest h in rw t (omega arith)

pub place-new : (vars : List ℕ) (c : ℕ) → list_any (nat_eq c) vars ≡ false → (place vars c ≡ length vars) × (place (vars ++ c ∷ []) c ≡ length vars)
place-new [] c e = (refl, (let t : nat_eq c c ≡ true = grind (arith, nat_tests) in rw t refl))
place-new (v ∷ vs) c e = go (nat_eq c v) refl (place-new vs c) where
  go : (b : Bool) → nat_eq c v ≡ b → (list_any (nat_eq c) vs ≡ false → (place vs c ≡ length vs) × (place (vs ++ c ∷ []) c ≡ length vs))
      → (place (v ∷ vs) c ≡ length (v ∷ vs)) × (place ((v ∷ vs) ++ c ∷ []) c ≡ length (v ∷ vs))
  go true t rest = let h : true ≡ false = rw t at e in cc
  go false t rest =
      let h : list_any (nat_eq c) vs ≡ false = rw t at e in
      let p = rest h in
      let a = p.0 in
      let b = p.1 in
      rw t (omega arith, omega arith)

name-grows : (vars more : List ℕ) (o : Option Form) (c : ℕ) (l : Label) → IsName vars o c l → IsName (vars ++ more) o c l
name-grows vars more None c l n = (n.0 ∙ ap (λ k. (con.Fixed k, 0)) (sym (place-stays vars more c n.1)), (let p = place-stays vars more c n.1 in let w = n.1 in let k = length-append vars more in omega arith))
name-grows vars more (Some f) c l n = n

names-grow : (known : ℕ → Option Form) (vars more cs : List ℕ) (ls : List Label) → Names known vars cs ls → Names known (vars ++ more) cs ls
names-grow known vars more [] [] n = tt
names-grow known vars more [] (l ∷ ls) n = n
names-grow known vars more (c ∷ cs) [] n = n
names-grow known vars more (c ∷ cs) (l ∷ ls) n = (name-grows vars more (known c) c l n.0, names-grow known vars more cs ls n.1)

names-push : (known : ℕ → Option Form) (vars cs : List ℕ) (ls : List Label) (c : ℕ) (l : Label) → Names known vars cs ls → IsName vars (known c) c l → Names known vars (cs ++ c ∷ []) (ls ++ l ∷ [])
names-push known vars [] [] c l n is = (is, tt)
names-push known vars [] (m ∷ ls) c l n is = absurd n
names-push known vars (d ∷ cs) [] c l n is = absurd n
names-push known vars (d ∷ cs) (m ∷ ls) c l n is = (n.0, names-push known vars cs ls c l n.1 is)

numbers-push : (ls : List Label) (l : Label) → numbers_in (ls ++ l ∷ []) ≡ numbers_in ls ++ number_of l.0
numbers-push [] l = append-nil (number_of l.0)
numbers-push (m ∷ ls) l = ap (λ ks. number_of m.0 ++ ks) (numbers-push ls l) ∙ sym (append_assoc (number_of m.0) (numbers_in ls) (number_of l.0))

order-push : (next : ℕ) (ks : List ℕ) (count k : ℕ) → InOrder next ks count → k ≤ count → InOrder next (ks ++ k ∷ []) (max count (k + 1))
order-push next [] count k o le = (omega arith, ap (λ n. max n (k + 1)) o)
order-push next (j ∷ ks) count k o le = (o.0, order-push (max next (j + 1)) ks count k o.1 le)

-- a further class with a form
pub formed : (known : ℕ → Option Form) (cs : List ℕ) (ls : List Label) (vars : List ℕ) (c : ℕ) (f : Form) (l : Label) → Unfixed known → known c ≡ Some f → l ≡ (f.con, length f.args)
    → Names known vars cs ls → InOrder 0 (numbers_in ls) (length vars) → Names known vars (cs ++ c ∷ []) (ls ++ l ∷ []) × InOrder 0 (numbers_in (ls ++ l ∷ [])) (length vars)
formed known cs ls vars c f l unfixed e el n o = (
  names-push known vars cs ls c l n (subst (λ x. IsName vars x c l) (sym e) el),
  subst (λ ks. InOrder 0 ks (length vars)) (sym (numbers-push ls l ∙ ap (λ ks. numbers_in ls ++ ks) (ap (λ (m : Label). number_of m.0) el ∙ other f.con (λ k q. unfixed c f k e q)) ∙ append-nil (numbers_in ls))) o,
) where
  other : (d : TypeCon) → ((k : ℕ) → d ≡ con.Fixed k → ⊥) → number_of d ≡ []
  other (con.Fixed k) not = absurd (not k refl)
  other (con.Named c) not = refl
  other con.Tuple not = refl
  other (con.Rel k) not = refl

-- a further class without one
pub varied : (known : ℕ → Option Form) (cs : List ℕ) (ls : List Label) (vars later : List ℕ) (c : ℕ) (l : Label) → known c ≡ None → l ≡ (con.Fixed (place vars c), 0)
    → later ≡ (if list_any (nat_eq c) vars then vars else vars ++ c ∷ []) → Names known vars cs ls → InOrder 0 (numbers_in ls) (length vars)
    → Names known later (cs ++ c ∷ []) (ls ++ l ∷ []) × InOrder 0 (numbers_in (ls ++ l ∷ [])) (length later)
varied known cs ls vars later c l e el grown n o = go (list_any (nat_eq c) vars) refl where
  numbers : numbers_in (ls ++ l ∷ []) ≡ numbers_in ls ++ place vars c ∷ []
  numbers = numbers-push ls l ∙ ap (λ (m : Label). numbers_in ls ++ number_of m.0) el

  go : (b : Bool) → list_any (nat_eq c) vars ≡ b → Names known later (cs ++ c ∷ []) (ls ++ l ∷ []) × InOrder 0 (numbers_in (ls ++ l ∷ [])) (length later)
  go true t =
      let same : later ≡ vars = grown ∙ rw t refl in
      let lt = place-known vars c t in
      let m : max (length vars) (place vars c + 1) ≡ length later = (let k = ap length same in omega arith) in (
        subst (λ vs. Names known vs (cs ++ c ∷ []) (ls ++ l ∷ [])) (sym same) (names-push known vars cs ls c l n (subst (λ x. IsName vars x c l) (sym e) (el, lt))),
        subst (λ k. InOrder 0 (numbers_in (ls ++ l ∷ [])) k) m (subst (λ ks. InOrder 0 ks (max (length vars) (place vars c + 1))) (sym numbers) (order-push 0 (numbers_in ls) (length vars) (place vars c) o (omega arith))),
      )
  go false t =
      let same : later ≡ vars ++ c ∷ [] = grown ∙ rw t refl in
      let p = place-new vars c t in
      let k = length-append vars (c ∷ []) in
      let m : max (length vars) (place vars c + 1) ≡ length later = (let a = ap length same in let b = p.0 in omega arith) in
      let is : IsName (vars ++ c ∷ []) None c l = (el ∙ ap (λ j. (con.Fixed j, 0)) (p.0 ∙ sym p.1), (let b = p.1 in omega arith)) in (
        subst (λ vs. Names known vs (cs ++ c ∷ []) (ls ++ l ∷ [])) (sym same) (names-push known (vars ++ c ∷ []) cs ls c l (names-grow known vars (c ∷ []) cs ls n) (subst (λ x. IsName (vars ++ c ∷ []) x c l) (sym e) is)),
        subst (λ j. InOrder 0 (numbers_in (ls ++ l ∷ [])) j) m (subst (λ ks. InOrder 0 ks (max (length vars) (place vars c + 1))) (sym numbers) (order-push 0 (numbers_in ls) (length vars) (place vars c) o (let b = p.0 in omega arith))),
      )

-- a further class
pub numbered-next : (known : ℕ → Option Form) (cs : List ℕ) (ls : List Label) (vars later : List ℕ) (c : ℕ) (o : Option Form) (l : Label) → Unfixed known → known c ≡ o → l ≡ label_by (place vars c) o
    → later ≡ vars_with vars c o → Names known vars cs ls → InOrder 0 (numbers_in ls) (length vars)
    → Names known later (cs ++ c ∷ []) (ls ++ l ∷ []) × InOrder 0 (numbers_in (ls ++ l ∷ [])) (length later)
numbered-next known cs ls vars later c None l unfixed e el grown n o = varied known cs ls vars later c l e el grown n o
numbered-next known cs ls vars later c (Some f) l unfixed e el grown n o =
    subst (λ vs. Names known vs (cs ++ c ∷ []) (ls ++ l ∷ []) × InOrder 0 (numbers_in (ls ++ l ∷ [])) (length vs)) (sym grown) (formed known cs ls vars c f l unfixed e el n o)

pub vars-more : (vars : List ℕ) (c : ℕ) (o : Option Form) → length (vars_with vars c o) ≤ length vars + 1
vars-more vars c None = go (list_any (nat_eq c) vars) refl where
  go : (b : Bool) → list_any (nat_eq c) vars ≡ b → length (vars_with vars c None) ≤ length vars + 1
  go true t = rw t (omega arith)
  go false t = rw t (let l = length-append vars (c ∷ []) in omega arith)
vars-more vars c (Some f) = omega arith
