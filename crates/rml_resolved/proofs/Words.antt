-- A type that goes by a word of the prelude's interface is the type that the word stands for.
use Rattle.std.proofs.Common.{◌≡◌, ℕ, zero, suc, Bool, true, false, List, [], ◌∷◌, map, length, Option, Some, None, eqb, refl, sym, ap, ◌∙◌, subst, arith}
use Rattle.std.specs.Prelude.{◌&&◌, ◌==◌, IsSomeAnd, slice_get}
use Rattle.std.proofs.lemmas.Bool.{eqb-true}
use Rattle.rml_types.specs.declared.scheme.Scheme.{Scheme}
use Rattle.rml_types.specs.declared.tree.SchemeTree.{SchemeTree, out-SchemeTree, roll-SchemeTree, ind-SchemeTree}
use Rattle.rml_types.specs.declared.tree.SchemeTree.TheOpen.{SchemeTree-F}
use Rattle.rml_types.specs.declared.tree.SchemeTree.TheViews.{out-roll-SchemeTree}
use Rattle.rml_types.specs.declared.tree.SchemeTree.TheVariants as tree
use Rattle.rml_types.specs.declared.tree.SchemeTree.TheVariants.{rolls-Var, rolls-Named, rolls-Rel}
use Rattle.rml_builtin.specs.declared.types.TheConstants.{INT, LIST, BOOL}
use Rattle.rml_builtin.specs.Types.{a, list}
use Rattle.rml_resolved.specs.declared.expected.Word.{Word}
use Rattle.rml_resolved.specs.declared.expected.Word.TheVariants.{Item, ItemList, Integer, Truth}
use Rattle.rml_resolved.specs.declared.program.Program.{Program}
use Rattle.rml_resolved.specs.declared.tables.RelDef.{RelDef}
use Rattle.rml_resolved.specs.Beginning.{begins, in_prelude, is_name, type_of, is_word, are_words, goes_by_words, is_declared, KnownRelation, is_known_relation, known_relations, relations_begin, HasType}
use Rattle.rml_resolved.specs.Typing.{is_var, are_vars, is_whole, is_constant}
use Rattle.rml_resolved.proofs.Facts.{both}

-- each type is made of what it opens to
made : (t : SchemeTree) → t ≡ roll-SchemeTree (out-SchemeTree t)
made = ind-SchemeTree (λ t. t ≡ roll-SchemeTree (out-SchemeTree t)) (λ x y is. ap roll-SchemeTree (sym (out-roll-SchemeTree x)))

pub opened : (t : SchemeTree) (z : SchemeTree-F SchemeTree) → out-SchemeTree t ≡ z → t ≡ roll-SchemeTree z
opened t z e = made t ∙ ap roll-SchemeTree e

pub var_at : (k : ℕ) (t : SchemeTree) (z : SchemeTree-F SchemeTree) → out-SchemeTree t ≡ z → is_var k z ≡ true → t ≡ tree.Var k
var_at k t (SchemeTree-F.Var j) e h = opened t (SchemeTree-F.Var j) e ∙ rolls-Var j ∙ ap tree.Var (sym (eqb-true k j h))
var_at k t (SchemeTree-F.Named c ts) e h = absurd (cc)
var_at k t (SchemeTree-F.Tuple ts) e h = absurd (cc)
var_at k t (SchemeTree-F.Rel ins outs) e h = absurd (cc)

pub constant_at : (c : ℕ) (t : SchemeTree) (z : SchemeTree-F SchemeTree) → out-SchemeTree t ≡ z → is_constant c z ≡ true → t ≡ tree.Named c []
constant_at c t (SchemeTree-F.Var j) e h = absurd (cc)
constant_at c t (SchemeTree-F.Named d []) e h = opened t (SchemeTree-F.Named d []) e ∙ rolls-Named d [] ∙ ap (λ k. tree.Named k []) (sym (eqb-true c d h))
constant_at c t (SchemeTree-F.Named d (u ∷ us)) e h = absurd (cc)
constant_at c t (SchemeTree-F.Tuple ts) e h = absurd (cc)
constant_at c t (SchemeTree-F.Rel ins outs) e h = absurd (cc)

pub list_at : (t : SchemeTree) (z : SchemeTree-F SchemeTree) → out-SchemeTree t ≡ z → is_whole LIST 1 z ≡ true → t ≡ list a
list_at t (SchemeTree-F.Var j) e h = absurd (cc)
list_at t (SchemeTree-F.Named d []) e h = absurd (let two = both (eqb LIST d && eqb 1 0) (are_vars 0 []) h in let one = both (eqb LIST d) (eqb 1 0) two.first in cc (one.second))
list_at t (SchemeTree-F.Named d (u ∷ [])) e h =
    let two = both (eqb LIST d && eqb 1 (length (u ∷ []))) (is_var 0 (out-SchemeTree u) && true) h in
    let one = both (eqb LIST d) (eqb 1 (length (u ∷ []))) two.first in
    let item : u ≡ a = var_at 0 u (out-SchemeTree u) refl (both (is_var 0 (out-SchemeTree u)) true two.second).first in
    opened t (SchemeTree-F.Named d (u ∷ [])) e ∙ rolls-Named d (u ∷ []) ∙ ap (λ k. tree.Named k (u ∷ [])) (sym (eqb-true LIST d one.first)) ∙ ap list item
list_at t (SchemeTree-F.Named d (u ∷ v ∷ us)) e h =
    let two = both (eqb LIST d && eqb 1 (length (u ∷ v ∷ us))) (are_vars 0 (u ∷ v ∷ us)) h in
    let one = both (eqb LIST d) (eqb 1 (length (u ∷ v ∷ us))) two.first in
    let count : 1 ≡ length (u ∷ v ∷ us) = eqb-true 1 (length (u ∷ v ∷ us)) one.second in
    absurd (omega arith)
list_at t (SchemeTree-F.Tuple ts) e h = absurd (cc)
list_at t (SchemeTree-F.Rel ins outs) e h = absurd (cc)

word_is : (w : Word) (t : SchemeTree) → is_word w (out-SchemeTree t) ≡ true → t ≡ type_of w
word_is Item t h = var_at 0 t (out-SchemeTree t) refl h
word_is ItemList t h = list_at t (out-SchemeTree t) refl h
word_is Integer t h = constant_at INT t (out-SchemeTree t) refl h
word_is Truth t h = constant_at BOOL t (out-SchemeTree t) refl h

words_are : (ws : List Word) (ts : List SchemeTree) → are_words ws ts ≡ true → ts ≡ map type_of ws
words_are [] [] h = refl
words_are [] (t ∷ ts) h = absurd (cc)
words_are (w ∷ ws) [] h = absurd (cc)
words_are (w ∷ ws) (t ∷ ts) h =
    let two = both (is_word w (out-SchemeTree t)) (are_words ws ts) h in
    let first : t ≡ type_of w = word_is w t two.first in
    let rest : ts ≡ map type_of ws = words_are ws ts two.second in
    cc

relation_at : (ins outs : List Word) (t : SchemeTree) (z : SchemeTree-F SchemeTree) → out-SchemeTree t ≡ z → goes_by_words ins outs z ≡ true
    → t ≡ tree.Rel (map type_of ins) (map type_of outs)
relation_at ins outs t (SchemeTree-F.Var j) e h = absurd (cc)
relation_at ins outs t (SchemeTree-F.Named d ts) e h = absurd (cc)
relation_at ins outs t (SchemeTree-F.Tuple ts) e h = absurd (cc)
relation_at ins outs t (SchemeTree-F.Rel is os) e h =
    let two = both (are_words ins is) (are_words outs os) h in
    let taken : is ≡ map type_of ins = words_are ins is two.first in
    let given : os ≡ map type_of outs = words_are outs os two.second in
    opened t (SchemeTree-F.Rel is os) e ∙ rolls-Rel is os ∙ (ap (λ x. tree.Rel x os) taken ∙ ap (λ x. tree.Rel (map type_of ins) x) given)

declared_so : (vars : ℕ) (ins outs : List Word) (o : Option Scheme) → is_declared vars ins outs o ≡ true
    → IsSomeAnd o (λ s. (s.vars ≡ vars) × (s.body ≡ tree.Rel (map type_of ins) (map type_of outs)))
declared_so vars ins outs None h = absurd (cc)
declared_so vars ins outs (Some s) h =
    let two = both (eqb s.vars vars) (goes_by_words ins outs (out-SchemeTree s.body)) h in
    (eqb-true s.vars vars two.first, relation_at ins outs s.body (out-SchemeTree s.body) refl two.second)

known_so : (names : List (List ℕ)) (known : KnownRelation) (r : RelDef) → is_known_relation names known r ≡ true → HasType known r
known_so names known r h =
    declared_so known.1 known.2 known.3 r.scheme (both (in_prelude names r.«module» && is_name names known.0 r.name) (is_declared known.1 known.2 known.3 r.scheme) h).second

-- what comes first passes the test of its place
pub first_so : {A B : Type 0} (fits : A → B → Bool) (P : A → B → Type 0) → ((k : A) (x : B) → fits k x ≡ true → P k x)
    → (ks : List A) (xs : List B) (n : ℕ) (k : A) → begins fits ks xs ≡ true → slice_get ks n ≡ Some k → IsSomeAnd (slice_get xs n) (P k)
first_so fits P each [] xs n k h e = absurd (cc)
first_so fits P each (j ∷ ks) [] n k h e = absurd (cc)
first_so {A = A} fits P each (j ∷ ks) (x ∷ xs) zero k h e =
    let two = both (fits j x) (begins fits ks xs) h in
    let alike : j ≡ k = cc in
    subst (λ (y : A). P y x) alike (each j x two.first)
first_so fits P each (j ∷ ks) (x ∷ xs) (suc n) k h e =
    first_so fits P each ks xs n k (both (fits j x) (begins fits ks xs) h).second e

pub typed : (p : Program) (k : ℕ) (known : KnownRelation) → slice_get known_relations k ≡ Some known → IsSomeAnd (slice_get p.rels k) (HasType known)
unfolding relations_begin
typed p k known e = first_so (is_known_relation p.names) HasType (known_so p.names) known_relations p.rels k known p.relations_first e
