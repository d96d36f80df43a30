-- Equations of parts that were made, or could not be, and the test of their graph: together they say whether finite types of the
-- graph before allow the parts.
use Rattle.std.proofs.Common.{◌≡◌, ℕ, Bool, true, false, [], ◌∷◌, Result, Ok, Err, IsTrue, refl, sym, ap, subst, ◌∙◌, arith}
use Rattle.std.proofs.lemmas.List.Elements.{All-nil}
use Rattle.std.specs.Prelude.{◌<◌, length, map}
use Rattle.rml_types.specs.declared.tree.SchemeTree.{SchemeTree}
use Rattle.rml_types.specs.Finite.{HasTypes, CannotEquateTypes}
use Rattle.rml_types.specs.Nodes.{Nodes}
use Rattle.rml_types.specs.declared.form.UnifyErr.{UnifyErr}
use Rattle.rml_types.specs.declared.form.UnifyErr.TheVariants as refused
use Rattle.rml_equations.specs.declared.coding.Coding.{Coding}
use Rattle.rml_equations.specs.declared.stop.Stop.{Stop}
use Rattle.rml_equations.specs.declared.stop.Stop.TheVariants as stop
use Rattle.rml_equations.specs.Coding.{coded, decoded}
use Rattle.rml_equations.specs.Stops.{stop_of}
use Rattle.rml_equations.proofs.Callers.{Solution, decoded-coded, unfixed-same}
use Rattle.rml_generator.specs.Adds.{Watched, Told, told_by, Tells, Adds, Refutes, Finds, Alone, Bare, Equates, no_node}
use Rattle.rml_alone.specs.Answers.{IsAnswer}

module _ (c : Coding) (w : Watched) (g h : Nodes) (P : Told → Type 0) where
  no-answer : {X : Type 0} (b : Bool) → b ≡ false → b ≡ true → X
  no-answer b e f = absurd (cc)

  pub solved : (made : Result (Unit {0}) Stop) (b : Bool) → Finds no_node c w g h (Bare P) made → IsAnswer h made b → IsTrue b → (types : Solution) × HasTypes g types × P (told_by c w types)
  solved (Ok done) b f a is = let t = a.0 is in (t.0, f.ok.old t.0 t.1, (f.ok.sound t.0 t.1).1)
  solved (Err stop.Untyped) b f a is = no-answer b a is
  solved (Err stop.Memory) b f a is = absurd a

  pub answered : (made : Result (Unit {0}) Stop) (b : Bool) → Finds no_node c w g h (Bare P) made → IsAnswer h made b → (types : Solution) (told : Told) → HasTypes g types → Tells c w types told → P told → IsTrue b
  answered (Ok done) b f a types told has tells p = let l = f.ok.complete types told [] has tells (refl, p) in a.1 (l.0, l.1.has)
  answered (Err stop.Untyped) b f a types told has tells p = absurd (f.none refl types told [] has tells (refl, p))
  answered (Err stop.Memory) b f a types told has tells p = absurd a

pub clashed : (e : UnifyErr) → stop_of e ≡ stop.Untyped → e ≡ refused.Clash
clashed refused.Clash e = refl
clashed refused.Memory e = cc

-- ---- a node that is held to one whose type is known

first : (t u : SchemeTree) → t ∷ [] ≡ u ∷ [] → t ≡ u
first t u e = cc

module _ (c : Coding) (w : Watched) (g h : Nodes) (P : Told → SchemeTree → Type 0) (n wanted : ℕ) (t : SchemeTree) (is : (types : Solution) → HasTypes g types → types wanted ≡ coded c t)
    (a : Adds c w g h (Alone P) (n ∷ [])) where
  pub adds-held : (i : Nodes) → Equates h i n wanted → Adds c w g i (Bare (λ told. P told t)) []
  adds-held i e = record {
    live = e.live;
    unfixed = λ none. unfixed-same h i e.forms (a.unfixed none);
    count = (let l = a.count in let f = ap length e.forms in omega arith);
    within = All-nil (λ k. k < length i.forms);
    old = λ types has. a.old types ((e.types types).0 has).0;
    sound = λ types has. (
        let b = (e.types types).0 has in
        (refl, subst (P (told_by c w types)) (ap (decoded c) (b.1 ∙ is types (a.old types b.0)) ∙ decoded-coded c t) (a.sound types b.0)));
    complete = λ types told ts has tells u. (
        let l = a.complete types told (t ∷ []) has tells u.1 in
        (l.0, record { has = (e.types l.0).1 (l.1.has, first _ _ l.2 ∙ sym (is l.0 (a.old l.0 l.1.has))); same = l.1.same }, ap (map (coded c)) (sym u.0)));
  }

  pub refutes-held : CannotEquateTypes h n wanted → Refutes c w g (Bare (λ told. P told t))
  refutes-held cannot types told ts has tells u =
      let l = a.complete types told (t ∷ []) has tells u.1 in
      cannot l.0 l.1.has (first _ _ l.2 ∙ sym (is l.0 (a.old l.0 l.1.has)))
