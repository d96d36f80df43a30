-- What is found as is told of a text, for a relation that is declared with a scheme, and for a val.
use Rattle.std.proofs.Common.{◌≡◌, ◌↔◌, ℕ, Bool, List, length, Option, Result, Ok, Err, IsTrue, IfOk, ap, subst, ◌∙◌}
use Rattle.rml_base.specs.declared.memory.Memory.{Memory}
use Rattle.rml_types.specs.declared.scheme.Scheme.{Scheme}
use Rattle.rml_types.specs.declared.tree.SchemeTree.{SchemeTree, out-SchemeTree}
use Rattle.rml_resolved.specs.declared.parts.Counts.{Counts}
use Rattle.rml_resolved.specs.declared.parts.Parts.{Parts}
use Rattle.rml_resolved.specs.declared.tables.RelDef.{RelDef}
use Rattle.rml_resolved.specs.declared.tables.RRule.{RRule}
use Rattle.rml_resolved.specs.declared.tables.ValDef.{ValDef}
use Rattle.rml_resolved.specs.Fits.{exp_fits, rule_fits}
use Rattle.rml_typed.specs.Own.{own}
use Rattle.rml_typed.specs.Parts.{RelType, pieces, sides}
use Rattle.rml_typed.specs.Units.{DeclaredFirstTyped, ValTyped, declared_type}
use Rattle.rml_alone.specs.declared.text.Text.{Text}
use Rattle.rml_alone.specs.Answers.{IsLeast}
use Rattle.rml_alone.specs.Texts.{ExpTypedAlone, FirstTypedAlone, IsTextOf, held, read}
use Rattle.rml_alone.proofs.Texts.{exp-back, exp-there, first-back, first-there, least-like, read-is}

pub declared-verdict : (p : Parts) (rel : RelDef) (n : Counts) (t : Text) (s : Scheme) (rule : RRule) (tree : SchemeTree) (ins outs : List SchemeTree) (r : Result (Option ℕ) Memory)
    → IsTextOf p rel.place.text rel.«module» t → IsTrue (rule_fits n p.cons rule) → tree ≡ read t s.body → ins ≡ (sides (out-SchemeTree tree)).inputs → outs ≡ (sides (out-SchemeTree tree)).outputs
    → IfOk r (IsLeast (FirstTypedAlone t (held ins outs) rule) (length (pieces rule))) → IfOk r (IsLeast (DeclaredFirstTyped p rel s rule) (length (pieces rule)))
declared-verdict p rel n t s rule tree ins outs (Err e) is fits reads-as ins-are outs-are h = tt
declared-verdict p rel n t s rule tree ins outs (Ok o) is fits reads-as ins-are outs-are h =
    let m = rel.«module» in
    let type-is : held ins outs ≡ declared_type p rel s =
    ap (λ (xs : List SchemeTree). held xs outs) ins-are ∙ ap (λ (ys : List SchemeTree). held (sides (out-SchemeTree tree)).inputs ys) outs-are
    ∙ ap (λ (u : SchemeTree). sides (out-SchemeTree u)) (reads-as ∙ ap (λ (f : SchemeTree → SchemeTree). f s.body) (read-is p rel.place.text m t is)) in
    least-like (FirstTypedAlone t (declared_type p rel s) rule) (DeclaredFirstTyped p rel s rule) (first-there p rel.place.text m t is n (declared_type p rel s) rule fits)
    (first-back p rel.place.text m t is n (declared_type p rel s) rule fits) (length (pieces rule)) o
    (subst (λ (k : RelType). IsLeast (FirstTypedAlone t k rule) (length (pieces rule)) o) type-is h)

pub val-verdict : (p : Parts) (v : ValDef) (n : Counts) (t : Text) (tree : SchemeTree) (r : Result Bool Memory) → IsTextOf p v.place.text v.«module» t → IsTrue (exp_fits n p.cons 0 v.value) → tree ≡ read t v.scheme.body
    → IfOk r (λ b. IsTrue b ↔ ExpTypedAlone t v.value tree) → IfOk r (λ b. IsTrue b ↔ ValTyped p v)
val-verdict p v n t tree (Err e) is fits reads-as h = tt
val-verdict p v n t tree (Ok b) is fits reads-as h =
    let m = v.«module» in
    let type-is : tree ≡ own p.types m v.scheme.body = reads-as ∙ ap (λ (f : SchemeTree → SchemeTree). f v.scheme.body) (read-is p v.place.text m t is) in
    let same : IsTrue b ↔ ExpTypedAlone t v.value (own p.types m v.scheme.body) = subst (λ (u : SchemeTree). IsTrue b ↔ ExpTypedAlone t v.value u) type-is h in
    (λ e. exp-there p v.place.text m t is n v.value (own p.types m v.scheme.body) fits (same.0 e), λ typed. same.1 (exp-back p v.place.text m t is n v.value (own p.types m v.scheme.body) fits typed))
