-- A rule's variables are forgotten: what was found with their nodes watched is found for some types of them.
use Rattle.std.proofs.Common.{◌≡◌, ℕ, zero, suc, ◌+◌, ◌<◌, List, [], ◌∷◌, map, length, get_or, Option, Result, Ok, Err, refl, sym, ap, subst, ◌∙◌, arith}
use Rattle.std.proofs.lemmas.List.Elements.{All-nil}
use Rattle.rml_types.specs.declared.tree.SchemeTree.{SchemeTree}
use Rattle.rml_types.specs.Finite.{HasTypes}
use Rattle.rml_types.specs.Nodes.{Nodes}
use Rattle.rml_types.specs.Runs.{Fresh, Grows}
use Rattle.rml_types.specs.Schemes.{unit}
use Rattle.rml_typed.specs.Typed.{Assigned}
use Rattle.rml_equations.specs.declared.coding.Coding.{Coding}
use Rattle.rml_equations.specs.declared.stop.Stop.{Stop}
use Rattle.rml_equations.specs.Coding.{coded}
use Rattle.rml_equations.specs.Joins.{Extends}
use Rattle.rml_equations.proofs.Callers.{Solution, extends-on}
use Rattle.rml_generator.specs.Adds.{Watched, IsWithin, Told, told_at, told_by, Tells, Adds, Finds, Bare, no_node}
use Rattle.rml_generator.specs.Entries.{entry}
use Rattle.rml_generator.proofs.Callers.{found}
use Rattle.rml_alone.specs.Texts.{IsOwn}
use Rattle.rml_alone.proofs.Callers.{past-slice, slice-past, there}
use Rattle.rml_groups.specs.Members.{watch}

-- so many types of variables, from one on, as they stand in a graph
coded-from : Coding → Assigned → ℕ → ℕ → List SchemeTree
coded-from c G from zero = []
coded-from c G from (suc n) = coded c (G from) ∷ coded-from c G (suc from) n

coded-type : (c : Coding) (G : Assigned) (from n k : ℕ) → k < n → get_or (coded-from c G from n) k unit ≡ coded c (G (from + k))
unfolding coded-from
coded-type c G from zero k lt = absurd (omega arith)
coded-type c G from (suc n) zero lt = ap (λ (x : ℕ). coded c (G x)) (omega arith)
coded-type c G from (suc n) (suc k) lt = coded-type c G (suc from) n k (omega arith) ∙ ap (λ (x : ℕ). coded c (G x)) (omega arith)

module _ (c : Coding) (nodes : List (Option ℕ)) (vs : List ℕ) (vars : ℕ) (count : length vs ≡ vars) (g h : Nodes) (grows : Grows g h) (fresh : Fresh g h vs) (inside : IsWithin c (watch nodes) g) where
  -- the variables' nodes are watched too
  abbrev pub Seen : Watched
  Seen = record { vars = vs; node = λ r. entry nodes r }

  pub seen-within : IsWithin c Seen h
  seen-within = record {
    vars = λ x n e. (let r = there vs x n e in subst (λ (m : ℕ). m < length h.forms) r.1 (fresh.within x r.0));
    group = λ r n e. (let l = inside.group r n e in let k = grows.kept.count in omega arith);
    relations = λ r n e types has. inside.relations r n e types (grows.kept.restricts types has);
  }

  abbrev told-of : Told → Assigned → Told
  told-of told G = record { vars = G; group = told.group }

  coded-at : (G : Assigned) (x : ℕ) → x < length vs → get_or (coded-from c G 0 (length vs)) x unit ≡ coded c (G x)
  coded-at G x lt = coded-type c G 0 (length vs) x lt ∙ ap (λ (y : ℕ). coded c (G y)) (omega arith)

  -- finite types that give the variables theirs
  seen : (types : Solution) (told : Told) (G : Assigned) → HasTypes g types → Tells c (watch nodes) types told → IsOwn vars G → (later : Solution) × Extends g h types later × Tells c Seen later (told-of told G)
  seen types told G has tells own =
      let p = fresh.each types (coded-from c G 0 (length vs)) has in (
        p.0,
        record { has = p.1; same = p.2 },
        record {
          vars = λ x n e. (let r = there vs x n e in sym (ap p.0 r.1) ∙ p.3 x r.0 ∙ coded-at G x r.0);
          past = λ x e. own x (let l = past-slice vs x e in omega arith);
          group = λ r n e. p.2 n (inside.group r n e) ∙ tells.group r n e;
        },
      )

  -- for some types of the variables
  abbrev pub ForSome : (Told → Type 0) → Told → Type 0
  ForSome P told = (G : Assigned) × IsOwn vars G × P (told-of told G)

  module _ (i : Nodes) (P : Told → Type 0) where
    adds-forgotten : Adds c Seen h i (Bare P) [] → Adds c (watch nodes) g i (Bare (ForSome P)) []
    adds-forgotten a = record {
      live = a.live;
      unfixed = λ none. a.unfixed (grows.unfixed none);
      count = (let p = grows.kept.count in let q = a.count in omega arith);
      within = All-nil (λ n. n < length i.forms);
      old = λ types has. grows.kept.restricts types (a.old types has);
      sound = λ types has. (
        refl,
        ((told_by c Seen types).vars, λ x le. ap (told_at c types) (slice-past vs x (omega arith)), (a.sound types has).1),
      );
      complete = λ types told ts has tells u. (
          let one = seen types told u.1.0 has tells u.1.1 in
          let two = a.complete one.0 (told-of told u.1.0) [] one.1.has one.2 (refl, u.1.2) in
          (two.0, extends-on g h i types one.0 two.0 grows.kept.count one.1 two.1, ap (map (coded c)) (sym u.0)));
    }

    pub forgotten : (r : Result (Prim.Unit {0}) Stop) → Finds no_node c Seen h i (Bare P) r → Finds no_node c (watch nodes) g i (Bare (ForSome P)) r
    forgotten (Ok done) f = found c (watch nodes) no_node g i (Bare (ForSome P)) done (adds-forgotten f.ok)
    forgotten (Err e) f = record {
      ok = tt;
      none = λ q types told ts has tells u. (let one = seen types told u.1.0 has tells u.1.1 in f.none q one.0 (told-of told u.1.0) [] one.1.has one.2 (refl, u.1.2));
    }
