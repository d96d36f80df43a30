-- Whether the first parts of a group can be typed, told by the equations that were made of them and the test of their graph.
use Rattle.std.proofs.Common.{◌≡◌, ◌↔◌, ℕ, Bool, List, length, Option, Result, Ok, Err, IsTrue, IfOk, OnOk}
use Rattle.std.specs.Prelude.{All, None}
use Rattle.rml_base.specs.declared.memory.Memory.{Memory}
use Rattle.rml_types.specs.Nodes.{Nodes}
use Rattle.rml_resolved.specs.declared.parts.Parts.{Parts}
use Rattle.rml_equations.specs.declared.coding.Coding.{Coding}
use Rattle.rml_equations.specs.declared.coding.Coding.TheVariants.{Packed}
use Rattle.rml_equations.specs.declared.stop.Stop.{Stop}
use Rattle.rml_generator.specs.Adds.{Watched, Told, told_by, Finds, Bare, no_node}
use Rattle.rml_alone.specs.Answers.{IsAnswer}
use Rattle.rml_alone.proofs.Callers.{answered, solved}
use Rattle.rml_groups.specs.declared.extent.Extent.{Extent}
use Rattle.rml_groups.specs.declared.members.Member.{Member}
use Rattle.rml_groups.specs.declared.unit.Unit.{Unit}
use Rattle.rml_groups.specs.Groups.{IsGroupOf}
use Rattle.rml_groups.specs.Members.{Begins, CanBe, MembersTyped, watch}
use Rattle.rml_groups.specs.Spots.{CanBeTyped}
use Rattle.rml_groups.proofs.Beginning.{begins-tells, untold}
use Rattle.rml_groups.proofs.Carried.{members-back, members-there}

-- equations that were made leave a graph in which none was refused
pub made-live : (c : Coding) (w : Watched) (g h : Nodes) (P : Told → Type 0) (r : Result (Prim.Unit {0}) Stop) → Finds no_node c w g h (Bare P) r → OnOk r (h.failed ≡ None)
made-live c w g h P (Ok done) f = f.ok.live
made-live c w g h P (Err e) f = tt

module _ (p : Parts) (text : ℕ) (u : Unit) (is : IsGroupOf p text u) (c : Coding) (g h : Nodes) (ms : List Member) (nodes : List (Option ℕ)) (b : Begins c u.rels.now u.number (length u.rels.now) g ms nodes) (extent : Extent)
    (made : Result (Prim.Unit {0}) Stop) (f : Finds no_node c (watch nodes) g h (Bare (λ told. MembersTyped u nodes told.group extent ms)) made) (x : Bool) (a : IsAnswer h made x) where
  abbrev Typed : Told → Type 0
  Typed told = MembersTyped u nodes told.group extent ms

  pub decided-there : IsTrue x → CanBeTyped p text extent
  decided-there e =
      let s = solved c (watch nodes) g h Typed made x f a e in
      ((told_by c (watch nodes) s.0).group, members-there p text u is c g ms nodes b ((told_by c (watch nodes) s.0).group) extent s.2)

  pub decided-back : (typed : CanBeTyped p text extent) → All (λ (m : Member). CanBe c m.rel.now (typed.0 m.number)) ms → IsTrue x
  decided-back typed can =
      let t = b.any typed.0 can in
      answered c (watch nodes) g h Typed made x f a t.0 (untold c u.rels.now u.number (length u.rels.now) g ms nodes b typed.0) t.1 (begins-tells c u.rels.now u.number (length u.rels.now) g ms nodes b t.0 typed.0 t.2)
      (members-back p text u is c g ms nodes b typed.0 extent typed.1)

-- with open counts, any types will do
pub decided : (p : Parts) (text : ℕ) (u : Unit) → IsGroupOf p text u → (g h : Nodes) (ms : List Member) (nodes : List (Option ℕ)) → Begins Packed u.rels.now u.number (length u.rels.now) g ms nodes → (extent : Extent)
    → (made : Result (Prim.Unit {0}) Stop) → Finds no_node Packed (watch nodes) g h (Bare (λ told. MembersTyped u nodes told.group extent ms)) made → (r : Result Bool Memory) → IfOk r (IsAnswer h made)
    → IfOk r (λ x. IsTrue x ↔ CanBeTyped p text extent)
decided p text u is g h ms nodes b extent made f (Err e) a = tt
decided p text u is g h ms nodes b extent made f (Ok x) a =
    (decided-there p text u is Packed g h ms nodes b extent made f x a, λ typed. decided-back p text u is Packed g h ms nodes b extent made f x a typed (λ k d lt. tt))
