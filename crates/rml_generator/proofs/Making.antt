-- Nodes over nodes: those that may be of any type, and those whose types are made of others.
use Rattle.std.proofs.Common.{◌≡◌, ℕ, ◌<◌, List, [], ◌∷◌, ◌++◌, map, length, Some, None, Result, Ok, Err, refl, sym, ap, subst, ◌∙◌, arith}
use Rattle.std.specs.Prelude.{All}
use Rattle.std.proofs.lemmas.List.Elements.{All-cons, All-head, All-nil, All-tail}
use Rattle.rml_syntax.specs.declared.token.Lit.{Lit}
use Rattle.rml_syntax.specs.declared.token.Lit.TheVariants as literal
use Rattle.rml_types.specs.declared.form.Form.{Form}
use Rattle.rml_types.specs.declared.form.UnifyErr.{UnifyErr}
use Rattle.rml_types.specs.declared.form.UnifyErr.TheVariants as refused
use Rattle.rml_types.specs.declared.tree.SchemeTree.{SchemeTree}
use Rattle.rml_types.specs.declared.tree.SchemeTree.TheVariants as tree
use Rattle.rml_types.specs.Finite.{CannotEquateTypes, EquatesTypes, Adds as AddsNode, with_type}
use Rattle.rml_types.specs.Nodes.{Nodes, with_node}
use Rattle.rml_types.proofs.Callers.{no-form}
use Rattle.rml_builtin.specs.declared.types.TheConstants.{INT, CHAR, STRING}
use Rattle.rml_typed.specs.Typed.{type_of_literal}
use Rattle.rml_equations.specs.declared.coding.Coding.{Coding}
use Rattle.rml_equations.specs.declared.stop.Stop.{Stop}
use Rattle.rml_equations.specs.declared.stop.Stop.TheVariants as stop
use Rattle.rml_equations.specs.Coding.{coded, decoded}
use Rattle.rml_equations.specs.Joins.{Joins, Links, Makes, Prevents}
use Rattle.rml_equations.specs.Stops.{stop_of}
use Rattle.rml_equations.proofs.Callers.{Solution, IsChainOf, coded-Named, coded-Tuple, decoded-Named, decoded-Tuple, links-no-memory, links-stop, longer, map-agree, map-through, unfixed-with, with-at, with-other}
use Rattle.rml_generator.specs.Adds.{Equals}
use Rattle.rml_generator.proofs.Adding.{Left, err-is, ok-untyped}

-- what was left early for want of memory, or where nothing is possible
pub links-left-no-memory : (c : Coding) (g h : Nodes) (xs : List ℕ) (Q : List SchemeTree → SchemeTree → Type 0) (r : Result ℕ Stop) → Left r stop.Memory → Links c g h xs Q r
links-left-no-memory c g h xs Q r l = subst (Links c g h xs Q) (sym l.1) (links-no-memory c g h xs Q l.0 l.2)

pub links-left : (c : Coding) (g h : Nodes) (xs : List ℕ) (Q : List SchemeTree → SchemeTree → Type 0) (r : Result ℕ Stop) {e : Stop} → Left r e → (e ≡ stop.Untyped → Prevents c g xs Q) → Links c g h xs Q r
links-left c g h xs Q r {e = e} l prevented = subst (Links c g h xs Q) (sym (l.1 ∙ ap Err l.2)) (links-stop c g h xs Q e prevented)

-- where nothing is possible at all
pub links-none : (c : Coding) (g h : Nodes) (xs : List ℕ) (Q : List SchemeTree → SchemeTree → Type 0) (r : Result ℕ Stop) → r ≡ Err stop.Untyped → ((ts : List SchemeTree) (t : SchemeTree) → Q ts t → ⊥) → Links c g h xs Q r
links-none c g h xs Q r is never = subst (Links c g h xs Q) (sym is) (links-stop c g h xs Q stop.Untyped (λ e types ts t has same q. never ts t q))

pub none-form : {A : Type 0} (f : Form) → None ≡ Some f → A
none-form f e = cc

pub joins-any : (c : Coding) (g h : Nodes) (n : ℕ) → g.failed ≡ None → n ≡ length g.forms → h ≡ with_node g None → AddsNode g h None → Joins c g h [] (λ ts t. Unit {0}) n
joins-any c g h n live at is adds = record {
  live = ap (λ (m : Nodes). m.failed) is ∙ live;
  unfixed = unfixed-with g h None no-form is adds;
  count = (let l = longer g h None is in omega arith);
  within = (let l = longer g h None is in omega arith);
  old = adds.restricts;
  sound = λ types has. tt;
  complete = λ types ts t has e u. (
    with_type types (length g.forms) (coded c t),
    record { has = adds.extends types (coded c t) has (λ f q. none-form f q); same = with-other types (length g.forms) (coded c t) },
    ap (with_type types (length g.forms) (coded c t)) at ∙ with-at types (length g.forms) (coded c t),
  );
}

-- a node of a type that is made alike of types as they are and as they stand in the graph
pub joins-of : (c : Coding) (g h : Nodes) (xs : List ℕ) (n : ℕ) (make : List SchemeTree → SchemeTree) → All (λ m. m < length g.forms) xs → ((us : List SchemeTree) → decoded c (make us) ≡ make (map (decoded c) us))
    → ((us : List SchemeTree) → coded c (make us) ≡ make (map (coded c) us)) → Makes g h (λ types. make (map types xs)) n → Joins c g h xs (λ ts t. t ≡ make ts) n
joins-of c g h xs n make inside out into m = record {
  live = m.live;
  unfixed = m.unfixed;
  count = m.count;
  within = m.within;
  old = m.old;
  sound = λ types has. ap (decoded c) (m.is types has) ∙ out (map types xs) ∙ ap make (map-through (decoded c) types xs);
  complete = λ types ts t has e is. (
      let l = m.extends types has in
      (l.0, l.1, m.is l.0 l.1.has ∙ ap make (map-agree l.0 types (length g.forms) xs inside l.1.same ∙ e) ∙ sym (into ts) ∙ sym (ap (coded c) is)));
}

pub joins-tuple : (c : Coding) (g h : Nodes) (xs : List ℕ) (n : ℕ) → All (λ m. m < length g.forms) xs → Makes g h (λ types. tree.Tuple (map types xs)) n → Joins c g h xs (λ ts t. t ≡ tree.Tuple ts) n
joins-tuple c g h xs n inside m = joins-of c g h xs n tree.Tuple inside (decoded-Tuple c) (coded-Tuple c) m

decoded-literal : (c : Coding) (lit : Lit) → decoded c (type_of_literal lit) ≡ type_of_literal lit
decoded-literal c (literal.Int n) = decoded-Named c INT []
decoded-literal c (literal.Char n) = decoded-Named c CHAR []
decoded-literal c (literal.Text k) = decoded-Named c STRING []

coded-literal : (c : Coding) (lit : Lit) → coded c (type_of_literal lit) ≡ type_of_literal lit
coded-literal c (literal.Int n) = coded-Named c INT []
coded-literal c (literal.Char n) = coded-Named c CHAR []
coded-literal c (literal.Text k) = coded-Named c STRING []

pub joins-literal : (c : Coding) (g h : Nodes) (n : ℕ) (lit : Lit) → All (λ m. m < length g.forms) [] → Makes g h (λ types. type_of_literal lit) n → Joins c g h [] (λ ts t. t ≡ type_of_literal lit) n
joins-literal c g h n lit inside m = joins-of c g h [] n (λ ts. type_of_literal lit) inside (λ us. decoded-literal c lit) (λ us. coded-literal c lit) m

-- ---- chains

no-items : (f g : SchemeTree → SchemeTree) (types : Solution) (ts : List SchemeTree) → [] ≡ map g ts → ts ≡ []
no-items f g types [] e = refl
no-items f g types (t ∷ ts) e = cc

no-length : (xs : List ℕ) → length xs ≡ 0 → xs ≡ []
no-length [] e = refl
no-length (x ∷ xs) e = absurd (omega arith)

empty-chain : (ts : List SchemeTree) (t : SchemeTree) → ts ≡ [] → IsChainOf ts t → ⊥
empty-chain [] t e chain = chain.1
empty-chain (u ∷ ts) t e chain = cc

-- there is no chain of nothing
pub links-no-chain : (c : Coding) (g : Nodes) (xs : List ℕ) (r : Result ℕ Stop) → r ≡ Err stop.Untyped → length xs ≡ 0 → Links c g g xs IsChainOf r
links-no-chain c g xs r is empty =
    subst (Links c g g xs IsChainOf) (sym is)
    (links-stop c g g xs IsChainOf stop.Untyped (λ e types ts t has same chain. empty-chain ts t (no-items (coded c) (coded c) types ts (sym (ap (map types) (no-length xs empty)) ∙ same)) chain))

pub links-chain : (c : Coding) (g h : Nodes) (xs ys : List ℕ) (r : Result ℕ Stop) → ys ≡ xs → Links c g h ys IsChainOf r → Links c g h xs IsChainOf r
links-chain c g h xs ys r is l = subst (λ zs. Links c g h zs IsChainOf r) is l

parts-within : (count : ℕ) (rest : List ℕ) (x : ℕ) → All (λ n. n < count) (rest ++ x ∷ []) → All (λ n. n < count) rest × (x < count)
parts-within count [] x a = (All-nil (λ n. n < count), All-head (λ n. n < count) x [] a)
parts-within count (y ∷ rest) x a =
    let r = parts-within count rest x (All-tail (λ n. n < count) y (rest ++ x ∷ []) a) in
    (All-cons (λ n. n < count) y rest (All-head (λ n. n < count) y (rest ++ x ∷ []) a) r.0, r.1)

-- the items of a chain and its tail are nodes, where all are
pub chain-within : (count : ℕ) (xs rest : List ℕ) (x : ℕ) → xs ≡ rest ++ x ∷ [] → All (λ n. n < count) xs → All (λ n. n < count) rest × (x < count)
chain-within count xs rest x is a = parts-within count rest x (subst (All (λ n. n < count)) is a)

-- ---- nodes made equal

clashed : (e : UnifyErr) → stop_of e ≡ stop.Untyped → e ≡ refused.Clash
clashed refused.Clash e = refl
clashed refused.Memory e = cc

pub equals-made : (g h : Nodes) (a b : ℕ) (u : Unit {0}) → h.failed ≡ None → h.forms ≡ g.forms → EquatesTypes g h a b → Equals g h a b (Ok u)
equals-made g h a b u live forms types = record { ok = record { live = live; forms = forms; types = types }; none = λ q. absurd (ok-untyped (Ok u) u refl q) }

pub equals-left : (g h : Nodes) (a b : ℕ) (r : Result (Unit {0}) Stop) (e : UnifyErr) → Left r (stop_of e) → (e ≡ refused.Clash → CannotEquateTypes g a b) → Equals g h a b r
equals-left g h a b r e l refuses = subst (Equals g h a b) (sym (l.1 ∙ ap Err l.2)) (record { ok = tt; none = λ q. refuses (clashed e (err-is (Err (stop_of e)) (stop_of e) refl q)) })
