-- The laws of substitution, by induction over the type.
use Rattle.std.proofs.Common.{◌≡◌, ℕ, ◌<◌, List, [], ◌∷◌, map, sym, ap, ◌∙◌, refl, get_or, zero, suc, Bool, true, false, ◌&&◌, IsTrue}
use Rattle.std.specs.List.{AllByRecursion}
use Rattle.rml_types.specs.declared.tree.SchemeTree.{SchemeTree}
use Rattle.rml_types.specs.declared.tree.SchemeTree.TheVariants as tree
use Rattle.rml_types.specs.Schemes.{below_at, every, inst, inst_at, unit, vars_below}
use Rattle.rml_types.specs.Instances.{IsInstance}
use Rattle.rml_types.proofs.Trees.{induct, fold-Var, fold-Named, fold-Tuple, fold-Rel}
use borrow.Author.Tests.{ltb-true}

pub inst-Var : (ts : List SchemeTree) (k : ℕ) → inst ts (tree.Var k) ≡ get_or ts k unit
inst-Var ts k = fold-Var SchemeTree (inst_at ts) k

pub inst-Named : (ts : List SchemeTree) (c : ℕ) (us : List SchemeTree) → inst ts (tree.Named c us) ≡ tree.Named c (map (inst ts) us)
inst-Named ts c us = fold-Named SchemeTree (inst_at ts) c us

pub inst-Tuple : (ts : List SchemeTree) (us : List SchemeTree) → inst ts (tree.Tuple us) ≡ tree.Tuple (map (inst ts) us)
inst-Tuple ts us = fold-Tuple SchemeTree (inst_at ts) us

pub inst-Rel : (ts : List SchemeTree) (ins outs : List SchemeTree) → inst ts (tree.Rel ins outs) ≡ tree.Rel (map (inst ts) ins) (map (inst ts) outs)
inst-Rel ts ins outs = fold-Rel SchemeTree (inst_at ts) ins outs

pub below-Var : (n k : ℕ) → IsTrue (vars_below n (tree.Var k)) → k < n
below-Var n k h = ltb-true k n (sym (fold-Var Bool (below_at n) k) ∙ h)

pub below-Named : (n c : ℕ) (us : List SchemeTree) → IsTrue (vars_below n (tree.Named c us)) → IsTrue (every (map (vars_below n) us))
below-Named n c us h = sym (fold-Named Bool (below_at n) c us) ∙ h

pub below-Tuple : (n : ℕ) (us : List SchemeTree) → IsTrue (vars_below n (tree.Tuple us)) → IsTrue (every (map (vars_below n) us))
below-Tuple n us h = sym (fold-Tuple Bool (below_at n) us) ∙ h

pub both : (a b : Bool) → (a && b) ≡ true → (a ≡ true) × (b ≡ true)
both true b h = (refl, h)
both false b h = cc

pub below-Rel : (n : ℕ) (ins outs : List SchemeTree) → IsTrue (vars_below n (tree.Rel ins outs)) → IsTrue (every (map (vars_below n) ins)) × IsTrue (every (map (vars_below n) outs))
below-Rel n ins outs h = both (every (map (vars_below n) ins)) (every (map (vars_below n) outs)) (sym (fold-Rel Bool (below_at n) ins outs) ∙ h)

inst-unit : (ts : List SchemeTree) → inst ts unit ≡ unit
inst-unit ts = inst-Tuple ts []

at-mapped : (rs ts : List SchemeTree) (k : ℕ) → inst rs (get_or ts k unit) ≡ get_or (map (inst rs) ts) k unit
at-mapped rs [] k = inst-unit rs
at-mapped rs (t ∷ ts) zero = refl
at-mapped rs (t ∷ ts) (suc k) = at-mapped rs ts k

-- mapping twice is mapping once, where it is so at each item
twice-all : (f g h : SchemeTree → SchemeTree) (us : List SchemeTree) → AllByRecursion (λ u. f (g u) ≡ h u) us → map f (map g us) ≡ map h us
twice-all f g h [] a = refl
twice-all f g h (u ∷ us) a = rw (a.0, twice-all f g h us a.1) refl

pub twice : (rs ts : List SchemeTree) (t : SchemeTree) → inst rs (inst ts t) ≡ inst (map (inst rs) ts) t
twice rs ts = induct (λ t. inst rs (inst ts t) ≡ inst (map (inst rs) ts) t)
    (λ k. ap (inst rs) (inst-Var ts k) ∙ at-mapped rs ts k ∙ sym (inst-Var (map (inst rs) ts) k))
    (λ c us a. ap (inst rs) (inst-Named ts c us) ∙ inst-Named rs c (map (inst ts) us) ∙ ap (tree.Named c) (twice-all (inst rs) (inst ts) (inst (map (inst rs) ts)) us a) ∙ sym (inst-Named (map (inst rs) ts) c us))
    (λ us a. ap (inst rs) (inst-Tuple ts us) ∙ inst-Tuple rs (map (inst ts) us) ∙ ap tree.Tuple (twice-all (inst rs) (inst ts) (inst (map (inst rs) ts)) us a) ∙ sym (inst-Tuple (map (inst rs) ts) us))
    (λ us vs a b. ap (inst rs) (inst-Rel ts us vs) ∙ inst-Rel rs (map (inst ts) us) (map (inst ts) vs)
    ∙ ap (λ x. tree.Rel x (map (inst rs) (map (inst ts) vs))) (twice-all (inst rs) (inst ts) (inst (map (inst rs) ts)) us a)
    ∙ ap (tree.Rel (map (inst (map (inst rs) ts)) us)) (twice-all (inst rs) (inst ts) (inst (map (inst rs) ts)) vs b) ∙ sym (inst-Rel (map (inst rs) ts) us vs))

-- two functions of types agree on a list, where they agree on each item whose variables are below a number
agree-all : (n : ℕ) (f g : SchemeTree → SchemeTree) (us : List SchemeTree) → AllByRecursion (λ u. IsTrue (vars_below n u) → f u ≡ g u) us → IsTrue (every (map (vars_below n) us)) → map f us ≡ map g us
agree-all n f g [] a h = refl
agree-all n f g (u ∷ us) a h = let (p, q) = both (vars_below n u) (every (map (vars_below n) us)) h in rw (a.0 p, agree-all n f g us a.1 q) refl

pub named : (n : ℕ) (rs ts : List SchemeTree) (t : SchemeTree) → IsTrue (vars_below n t) → ((k : ℕ) → k < n → get_or rs k unit ≡ get_or ts k unit) → inst rs t ≡ inst ts t
named n rs ts t below e = induct (λ t. IsTrue (vars_below n t) → inst rs t ≡ inst ts t)
    (λ k h. inst-Var rs k ∙ e k (below-Var n k h) ∙ sym (inst-Var ts k))
    (λ c us a h. inst-Named rs c us ∙ ap (tree.Named c) (agree-all n (inst rs) (inst ts) us a (below-Named n c us h)) ∙ sym (inst-Named ts c us))
    (λ us a h. inst-Tuple rs us ∙ ap tree.Tuple (agree-all n (inst rs) (inst ts) us a (below-Tuple n us h)) ∙ sym (inst-Tuple ts us))
    (λ us vs a b h. (let (p, q) = below-Rel n us vs h in
    inst-Rel rs us vs ∙ ap (λ x. tree.Rel x (map (inst rs) vs)) (agree-all n (inst rs) (inst ts) us a p) ∙ ap (tree.Rel (map (inst ts) us)) (agree-all n (inst rs) (inst ts) vs b q) ∙ sym (inst-Rel ts us vs)))
    t below

map-same : (us : List SchemeTree) → map (λ u. u) us ≡ us
map-same [] = refl
map-same (u ∷ us) = ap (λ x. u ∷ x) (map-same us)

pub same : (n : ℕ) (ts : List SchemeTree) (t : SchemeTree) → IsTrue (vars_below n t) → ((k : ℕ) → k < n → get_or ts k unit ≡ tree.Var k) → inst ts t ≡ t
same n ts t below e = induct (λ t. IsTrue (vars_below n t) → inst ts t ≡ t)
    (λ k h. inst-Var ts k ∙ e k (below-Var n k h))
    (λ c us a h. inst-Named ts c us ∙ ap (tree.Named c) (agree-all n (inst ts) (λ u. u) us a (below-Named n c us h) ∙ map-same us))
    (λ us a h. inst-Tuple ts us ∙ ap tree.Tuple (agree-all n (inst ts) (λ u. u) us a (below-Tuple n us h) ∙ map-same us))
    (λ us vs a b h. (let (p, q) = below-Rel n us vs h in
    inst-Rel ts us vs ∙ ap (λ x. tree.Rel x (map (inst ts) vs)) (agree-all n (inst ts) (λ u. u) us a p ∙ map-same us) ∙ ap (tree.Rel us) (agree-all n (inst ts) (λ u. u) vs b q ∙ map-same vs)))
    t below

pub instance-instance : (body t : SchemeTree) (ts : List SchemeTree) → IsInstance body t → IsInstance body (inst ts t)
instance-instance body t ts i = (map (inst ts) i.0, ap (inst ts) i.1 ∙ twice ts i.0 body)
