-- Types that are dropped piece by piece: where the parts of one come to wait in its place, fewer nodes wait.
use Rattle.std.proofs.Common.{◌≡◌, ◌+◌, ◌<◌, suc, List, ◌∷◌, [], ◌++◌, map, ap, ◌∙◌, arith, Result, Ok, Err}
use Rattle.std.specs.Prelude.{Bool, true, IsTrue, OnOk, is_ok}
use Rattle.rml_types.specs.declared.tree.SchemeTree.{SchemeTree}
use Rattle.rml_types.specs.declared.tree.SchemeTree.TheVariants as tree
use Rattle.rml_types.specs.Finite.{nodes, nodes_at, sum_of}
use Rattle.rml_types.proofs.Spelled.{sum-joined}
use Rattle.rml_types.proofs.Trees.{fold-Rel}

pub where-ok : {X E : Type 0} (r : Result X E) (P : Type 0) → OnOk r P → is_ok r ≡ true → P
where-ok (Ok x) P h e = h
where-ok (Err x) P h e = cc

pub taken : {X E : Type 0} (r : Result X E) (b : Bool) (old new parts : List SchemeTree) (t : SchemeTree) → OnOk r (new ≡ old ++ parts) → b ≡ is_ok r → nodes t ≡ suc (sum_of (map nodes parts))
    → IsTrue b → sum_of (map nodes new) < sum_of (map nodes old) + nodes t
taken r b old new parts t ok is more e =
    let grown : new ≡ old ++ parts = where-ok r (new ≡ old ++ parts) ok (cc) in
    let s = ap (λ ts. sum_of (map nodes ts)) grown in
    let j = sum-joined old parts in
    omega arith

pub taken-Rel : {X E : Type 0} (r s : Result X E) (a b : Bool) (old mid new ins outs : List SchemeTree) (t : SchemeTree) → OnOk r (mid ≡ old ++ ins) → OnOk s (new ≡ mid ++ outs) → a ≡ is_ok r → b ≡ is_ok s
    → t ≡ tree.Rel ins outs → IsTrue a → IsTrue b → sum_of (map nodes new) < sum_of (map nodes old) + nodes t
taken-Rel r s a b old mid new ins outs t first second is_a is_b is ea eb =
    let to_mid : mid ≡ old ++ ins = where-ok r (mid ≡ old ++ ins) first (cc) in
    let to_new : new ≡ mid ++ outs = where-ok s (new ≡ mid ++ outs) second (cc) in
    let n = ap nodes is ∙ fold-Rel _ nodes_at ins outs in
    let p = ap (λ ts. sum_of (map nodes ts)) to_mid in
    let q = ap (λ ts. sum_of (map nodes ts)) to_new in
    let j = sum-joined old ins in
    let k = sum-joined mid outs in
    omega arith

pub popped : (old rest later : List SchemeTree) (t : SchemeTree) → old ≡ rest ++ t ∷ [] → sum_of (map nodes later) < sum_of (map nodes rest) + nodes t → sum_of (map nodes later) < sum_of (map nodes old)
popped old rest later t e lt = let s = ap (λ ts. sum_of (map nodes ts)) e in let j = sum-joined rest (t ∷ []) in omega arith
