-- What the heads and results of a relation's rules are held to, as the types of its node tell.
use Rattle.std.proofs.Common.{◌≡◌, ℕ, ◌≤◌, List, length, Option, Some, sym, ap, ◌∙◌, arith}
use Rattle.std.specs.Prelude.{All, unwrap_or}
use Rattle.std.proofs.lemmas.List.Elements.{All-weaker}
use Rattle.rml_types.specs.declared.tree.SchemeTree.{SchemeTree, out-SchemeTree, out-roll-SchemeTree}
use Rattle.rml_types.specs.declared.tree.SchemeTree.TheOpen.{SchemeTree-F}
use Rattle.rml_types.specs.declared.tree.SchemeTree.TheVariants as tree
use Rattle.rml_types.specs.Finite.{HasTypes}
use Rattle.rml_types.specs.Nodes.{Nodes}
use Rattle.rml_typed.specs.Parts.{RelType, sides}
use Rattle.rml_equations.specs.declared.coding.Coding.{Coding}
use Rattle.rml_equations.specs.Coding.{decoded}
use Rattle.rml_equations.proofs.Callers.{Solution}
use Rattle.rml_generator.specs.Adds.{Watched, told_by}
use Rattle.rml_generator.specs.Sides.{Gives, given_by, side_nodes}
use Rattle.rml_generator.proofs.Callers.{within-longer}
use Rattle.rml_groups.specs.declared.members.Member.{Member}
use Rattle.rml_resolved.specs.declared.tables.RelDef.{RelDef}
use Rattle.rml_groups.specs.Members.{IsHeld, IsListed}

abbrev pub sided : List SchemeTree → List SchemeTree → RelType
sided us ws = record { inputs = us; outputs = ws }

pub sides-of : (us ws : List SchemeTree) → sides (out-SchemeTree (tree.Rel us ws)) ≡ sided us ws
sides-of us ws = ap sides (ap out-SchemeTree (sym (tree.rolls-Rel us ws)) ∙ out-roll-SchemeTree (SchemeTree-F.Rel us ws))

-- relation types that are one have the same inputs and outputs
pub same-inputs : (us ws vs xs : List SchemeTree) → tree.Rel us ws ≡ tree.Rel vs xs → us ≡ vs
same-inputs us ws vs xs e = ap (λ (k : RelType). k.inputs) (sym (sides-of us ws) ∙ ap (λ (t : SchemeTree). sides (out-SchemeTree t)) e ∙ sides-of vs xs)

pub same-outputs : (us ws vs xs : List SchemeTree) → tree.Rel us ws ≡ tree.Rel vs xs → ws ≡ xs
same-outputs us ws vs xs e = ap (λ (k : RelType). k.outputs) (sym (sides-of us ws) ∙ ap (λ (t : SchemeTree). sides (out-SchemeTree t)) e ∙ sides-of vs xs)

module _ (c : Coding) (w : Watched) (g : Nodes) (m : Member) (held : IsHeld c g m) (at : w.node m.number ≡ Some m.node) where
  told-type : (types : Solution) → HasTypes g types → (told_by c w types).group m.number ≡ sided (given_by c types m.inputs) (given_by c types m.outputs)
  told-type types has =
      ap (λ (o : Option ℕ). sides (out-SchemeTree (decoded c (types (unwrap_or o 0))))) at ∙ ap (λ (t : SchemeTree). sides (out-SchemeTree t)) (held.sound types has)
      ∙ sides-of (given_by c types m.inputs) (given_by c types m.outputs)

  pub gives-inputs : Gives c w g m.inputs (λ told. (told.group m.number).inputs)
  gives-inputs = record {
    sound = λ types has. ap (λ (k : RelType). k.inputs) (told-type types has);
    complete = λ types told has tells. (held.back types (told.group m.number) has (tells.group m.number m.node at)).0;
  }

  pub gives-outputs : Gives c w g m.outputs (λ told. (told.group m.number).outputs)
  gives-outputs = record {
    sound = λ types has. ap (λ (k : RelType). k.outputs) (told-type types has);
    complete = λ types told has tells. (held.back types (told.group m.number) has (tells.group m.number m.node at)).1;
  }

-- what is held stays so in a later graph
pub held-later : (c : Coding) (g h : Nodes) (m : Member) → length g.forms ≤ length h.forms → ((types : Solution) → HasTypes h types → HasTypes g types) → IsHeld c g m → IsHeld c h m
held-later c g h m le old held = record {
  node = (let l = held.node in omega arith);
  inputs = within-longer g h (side_nodes m.inputs) le held.inputs;
  outputs = within-longer g h (side_nodes m.outputs) le held.outputs;
  sound = λ types has. held.sound types (old types has);
  back = λ types k has e. held.back types k (old types has) e;
}

pub listed-later : (c : Coding) (rels : List RelDef) (text : ℕ) (g h : Nodes) (nodes : List (Option ℕ)) (m : Member) → length g.forms ≤ length h.forms → ((types : Solution) → HasTypes h types → HasTypes g types)
    → IsListed c rels text g nodes m → IsListed c rels text h nodes m
listed-later c rels text g h nodes m le old l = record { there = l.there; member = l.member; noded = l.noded; held = held-later c g h m le old l.held }

pub all-listed-later : (c : Coding) (rels : List RelDef) (text : ℕ) (g h : Nodes) (nodes : List (Option ℕ)) (ms : List Member) → length g.forms ≤ length h.forms → ((types : Solution) → HasTypes h types → HasTypes g types)
    → All (IsListed c rels text g nodes) ms → All (IsListed c rels text h nodes) ms
all-listed-later c rels text g h nodes ms le old a = All-weaker (IsListed c rels text g nodes) (IsListed c rels text h nodes) (λ m l. listed-later c rels text g h nodes m le old l) ms a
