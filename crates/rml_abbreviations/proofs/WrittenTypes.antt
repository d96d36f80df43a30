-- Types written out: at each form, after substitution, and by two tables one after the other.
use Rattle.std.proofs.Common.{◌≡◌, ℕ, zero, suc, ◌+◌, List, [], ◌∷◌, length, map, take, drop, get_or, refl, sym, ap, ◌∙◌, Option, Some, None, arith}
use Rattle.std.specs.Prelude.{is_some}
use Rattle.std.specs.Option.{option_map, option_map_or}
use Rattle.std.specs.List.{AllByRecursion}
use Rattle.std.proofs.lemmas.List.{drop-map, take-map}
use Rattle.rml_types.specs.declared.form.TypeCon.{TypeCon}
use Rattle.rml_types.specs.declared.form.TypeCon.TheVariants as con
use Rattle.rml_types.specs.declared.tree.SchemeTree.{SchemeTree}
use Rattle.rml_types.specs.declared.tree.SchemeTree.TheVariants as tree
use Rattle.rml_types.specs.Finite.{built}
use Rattle.rml_types.specs.Nodes.{Fits}
use Rattle.rml_types.specs.Schemes.{inst, unit}
use Rattle.rml_types.proofs.Callers.{fold-Named, fold-Rel, fold-Tuple, fold-Var, induct, inst-Named, inst-Rel, inst-Tuple, inst-Var, twice}
use Rattle.rml_abbreviations.specs.Written.{Meanings, times, written, written_at, written_by}

pub written-Var : (ms : Meanings) (k : ℕ) → written ms (tree.Var k) ≡ tree.Var k
written-Var ms k = fold-Var SchemeTree (written_at ms) k

pub written-Named : (ms : Meanings) (c : ℕ) (ts : List SchemeTree) → written ms (tree.Named c ts) ≡ option_map_or (inst (map (written ms) ts)) (ms c) (tree.Named c (map (written ms) ts))
written-Named ms c ts = fold-Named SchemeTree (written_at ms) c ts

pub written-Tuple : (ms : Meanings) (ts : List SchemeTree) → written ms (tree.Tuple ts) ≡ tree.Tuple (map (written ms) ts)
written-Tuple ms ts = fold-Tuple SchemeTree (written_at ms) ts

pub written-Rel : (ms : Meanings) (ins outs : List SchemeTree) → written ms (tree.Rel ins outs) ≡ tree.Rel (map (written ms) ins) (map (written ms) outs)
written-Rel ms ins outs = fold-Rel SchemeTree (written_at ms) ins outs

-- a constructor over types
pub written-built : (ms : Meanings) (c : TypeCon) (ts : List SchemeTree) → Fits c (length ts) → written ms (built c ts) ≡ written_by ms c (map (written ms) ts)
written-built ms (con.Named c) ts fits = written-Named ms c ts
written-built ms (con.Fixed k) ts fits = written-Var ms k
written-built ms con.Tuple ts fits = written-Tuple ms ts
written-built ms (con.Rel k) ts fits =
    written-Rel ms (take k ts) (drop k ts) ∙ ap (λ xs. tree.Rel xs (map (written ms) (drop k ts))) (sym (take-map (written ms) k ts)) ∙ ap (tree.Rel (take k (map (written ms) ts))) (sym (drop-map (written ms) k ts))

-- two functions, one after the other, where they are a third at each item
pub twice-all : (f g h : SchemeTree → SchemeTree) (ts : List SchemeTree) → AllByRecursion (λ t. f (g t) ≡ h t) ts → map f (map g ts) ≡ map h ts
twice-all f g h [] a = refl
twice-all f g h (t ∷ ts) a = rw (a.0, twice-all f g h ts a.1) refl

-- two ways round, where they are one at each item
square-all : (f g h k : SchemeTree → SchemeTree) (ts : List SchemeTree) → AllByRecursion (λ t. f (g t) ≡ h (k t)) ts → map f (map g ts) ≡ map h (map k ts)
square-all f g h k [] a = refl
square-all f g h k (t ∷ ts) a = rw (a.0, square-all f g h k ts a.1) refl

written-unit : (ms : Meanings) → written ms unit ≡ unit
written-unit ms = written-Tuple ms []

at-mapped : (ms : Meanings) (ts : List SchemeTree) (k : ℕ) → written ms (get_or ts k unit) ≡ get_or (map (written ms) ts) k unit
at-mapped ms [] k = written-unit ms
at-mapped ms (t ∷ ts) zero = refl
at-mapped ms (t ∷ ts) (suc k) = at-mapped ms ts k

-- the meaning of a name over arguments that are substituted in
named-inst : (o : Option SchemeTree) (us vs : List SchemeTree) (c : ℕ) → option_map_or (inst (map (inst us) vs)) o (tree.Named c (map (inst us) vs)) ≡ inst us (option_map_or (inst vs) o (tree.Named c vs))
named-inst None us vs c = sym (inst-Named us c vs)
named-inst (Some m) us vs c = sym (twice us vs m)

-- what is substituted in may be written out before
pub written-inst : (ms : Meanings) (us : List SchemeTree) (t : SchemeTree) → written ms (inst us t) ≡ inst (map (written ms) us) (written ms t)
written-inst ms us = induct (λ t. written ms (inst us t) ≡ inst (map (written ms) us) (written ms t))
    (λ k. ap (written ms) (inst-Var us k) ∙ at-mapped ms us k ∙ sym (inst-Var (map (written ms) us) k) ∙ ap (inst (map (written ms) us)) (sym (written-Var ms k)))
    (λ c ts a. ap (written ms) (inst-Named us c ts) ∙ written-Named ms c (map (inst us) ts)
    ∙ ap (λ xs. option_map_or (inst xs) (ms c) (tree.Named c xs)) (square-all (written ms) (inst us) (inst (map (written ms) us)) (written ms) ts a)
    ∙ named-inst (ms c) (map (written ms) us) (map (written ms) ts) c ∙ ap (inst (map (written ms) us)) (sym (written-Named ms c ts)))
    (λ ts a. ap (written ms) (inst-Tuple us ts) ∙ written-Tuple ms (map (inst us) ts)
    ∙ ap tree.Tuple (square-all (written ms) (inst us) (inst (map (written ms) us)) (written ms) ts a)
    ∙ sym (inst-Tuple (map (written ms) us) (map (written ms) ts)) ∙ ap (inst (map (written ms) us)) (sym (written-Tuple ms ts)))
    (λ ins outs a b. ap (written ms) (inst-Rel us ins outs) ∙ written-Rel ms (map (inst us) ins) (map (inst us) outs)
    ∙ ap (λ xs. tree.Rel xs (map (written ms) (map (inst us) outs))) (square-all (written ms) (inst us) (inst (map (written ms) us)) (written ms) ins a)
    ∙ ap (tree.Rel (map (inst (map (written ms) us)) (map (written ms) ins))) (square-all (written ms) (inst us) (inst (map (written ms) us)) (written ms) outs b)
    ∙ sym (inst-Rel (map (written ms) us) (map (written ms) ins) (map (written ms) outs)) ∙ ap (inst (map (written ms) us)) (sym (written-Rel ms ins outs)))

-- the meaning of a name by two tables, of which both have it or none
named-both : (first next : Meanings) (o p : Option SchemeTree) (ts : List SchemeTree) (c : ℕ) → is_some o ≡ is_some p → next c ≡ p
    → option_map_or (inst (map (written next) ts)) (option_map (written next) o) (tree.Named c (map (written next) ts)) ≡ written next (option_map_or (inst ts) o (tree.Named c ts))
named-both first next None None ts c same is = sym (written-Named next c ts ∙ ap (λ x. option_map_or (inst (map (written next) ts)) x (tree.Named c (map (written next) ts))) is)
named-both first next None (Some m) ts c same is = absurd (cc same)
named-both first next (Some m) p ts c same is = sym (written-inst next ts m)

-- to write a type out by one table and then by another, which has the same names
pub written-both : (first next both : Meanings) → ((c : ℕ) → both c ≡ option_map (written next) (first c)) → ((c : ℕ) → is_some (first c) ≡ is_some (next c))
    → (t : SchemeTree) → written both t ≡ written next (written first t)
written-both first next both is same = induct (λ t. written both t ≡ written next (written first t))
    (λ k. written-Var both k ∙ sym (ap (written next) (written-Var first k) ∙ written-Var next k))
    (λ c ts a. written-Named both c ts
    ∙ ap (λ xs. option_map_or (inst xs) (both c) (tree.Named c xs)) (sym (twice-all (written next) (written first) (written both) ts (turned ts a)))
    ∙ ap (λ x. option_map_or (inst (map (written next) (map (written first) ts))) x (tree.Named c (map (written next) (map (written first) ts)))) (is c)
    ∙ named-both first next (first c) (next c) (map (written first) ts) c (same c) refl ∙ ap (written next) (sym (written-Named first c ts)))
    (λ ts a. written-Tuple both ts ∙ ap tree.Tuple (sym (twice-all (written next) (written first) (written both) ts (turned ts a)))
    ∙ sym (ap (written next) (written-Tuple first ts) ∙ written-Tuple next (map (written first) ts)))
    (λ ins outs a b. written-Rel both ins outs
    ∙ ap (λ xs. tree.Rel xs (map (written both) outs)) (sym (twice-all (written next) (written first) (written both) ins (turned ins a)))
    ∙ ap (tree.Rel (map (written next) (map (written first) ins))) (sym (twice-all (written next) (written first) (written both) outs (turned outs b)))
    ∙ sym (ap (written next) (written-Rel first ins outs) ∙ written-Rel next (map (written first) ins) (map (written first) outs))) where
      turned : (ts : List SchemeTree) → AllByRecursion (λ t. written both t ≡ written next (written first t)) ts → AllByRecursion (λ t. written next (written first t) ≡ written both t) ts
      turned [] a = tt
      turned (t ∷ ts) a = (sym a.0, turned ts a.1)

-- a table without names changes nothing
map-same : (ms : Meanings) (ts : List SchemeTree) → AllByRecursion (λ t. written ms t ≡ t) ts → map (written ms) ts ≡ ts
map-same ms [] a = refl
map-same ms (t ∷ ts) a = rw (a.0, map-same ms ts a.1) refl

pub written-nothing : (ms : Meanings) → ((c : ℕ) → ms c ≡ None) → (t : SchemeTree) → written ms t ≡ t
written-nothing ms none = induct (λ t. written ms t ≡ t)
    (λ k. written-Var ms k)
    (λ c ts a. written-Named ms c ts ∙ ap (λ x. option_map_or (inst (map (written ms) ts)) x (tree.Named c (map (written ms) ts))) (none c) ∙ ap (tree.Named c) (map-same ms ts a))
    (λ ts a. written-Tuple ms ts ∙ ap tree.Tuple (map-same ms ts a))
    (λ ins outs a b. written-Rel ms ins outs ∙ ap (λ xs. tree.Rel xs (map (written ms) outs)) (map-same ms ins a) ∙ ap (tree.Rel ins) (map-same ms outs b))

-- so many times, and so many more
pub times-more : (a b : ℕ) (f : SchemeTree → SchemeTree) (t : SchemeTree) → times (a + b) f t ≡ times a f (times b f t)
times-more zero b f t = let e : zero + b ≡ b = omega arith in ap (λ n. times n f t) e
times-more (suc a) b f t = let e : suc a + b ≡ suc (a + b) = omega arith in ap (λ n. times n f t) e ∙ ap f (times-more a b f t)
