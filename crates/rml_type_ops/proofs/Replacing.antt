-- The labels of a type with types in place of its variables.
use Rattle.std.proofs.Common.{◌≡◌, ℕ, List, [], ◌∷◌, ◌++◌, length, map, refl, sym, ap, ◌∙◌, append_assoc, subst, get_or, ◌<◌, ◌+◌, drop}
use Rattle.std.specs.List.{AllByRecursion}
use Rattle.std.proofs.lemmas.List.{append-nil, drop_more, length-map}
use Rattle.rml_types.specs.declared.form.TypeCon.{TypeCon}
use Rattle.rml_types.specs.declared.form.TypeCon.TheVariants as con
use Rattle.rml_types.specs.declared.tree.SchemeTree.{SchemeTree}
use Rattle.rml_types.specs.Finite.{built}
use Rattle.rml_types.specs.Labels.{Label, all_labels, labels, labels_at}
use Rattle.rml_types.specs.Nodes.{Fits}
use Rattle.rml_types.specs.Schemes.{inst, unit}
use Rattle.rml_types.proofs.Callers.{fold-Var, induct-built, inst-Var, labels-built, make-inst, make-other}
use Rattle.rml_type_ops.specs.Replaced.{labels_for, replaced}

replaced-append : (ts : List SchemeTree) (ls ms : List Label) → replaced ts (ls ++ ms) ≡ replaced ts ls ++ replaced ts ms
replaced-append ts [] ms = refl
replaced-append ts (l ∷ ls) ms = ap (λ ks. labels_for ts l.0 l.1 ++ ks) (replaced-append ts ls ms) ∙ sym (append_assoc (labels_for ts l.0 l.1) (replaced ts ls) (replaced ts ms))

abbrev IsReplaced : List SchemeTree → SchemeTree → Type 0
IsReplaced ts t = labels (inst ts t) ≡ replaced ts (labels t)

all-replaced : (ts us : List SchemeTree) → AllByRecursion (IsReplaced ts) us → all_labels (map (inst ts) us) ≡ replaced ts (all_labels us)
all-replaced ts [] a = refl
all-replaced ts (u ∷ us) a =
    ap (λ ls. ls ++ all_labels (map (inst ts) us)) a.0 ∙ ap (λ ls. replaced ts (labels u) ++ ls) (all-replaced ts us a.1) ∙ sym (replaced-append ts (labels u) (all_labels us))

built-replaced : (ts : List SchemeTree) (c : TypeCon) (us : List SchemeTree) → Fits c (length us) → ((k : ℕ) → c ≡ con.Fixed k → ⊥) → labels_for ts c (length us) ≡ (c, length us) ∷ []
    → AllByRecursion (IsReplaced ts) us → IsReplaced ts (built c us)
built-replaced ts c us fits other one a =
    ap labels (sym (make-inst ts c us) ∙ make-other ts c (map (inst ts) us) other)
    ∙ labels-built c (map (inst ts) us) (subst (Fits c) (sym (length-map us (inst ts))) fits)
    ∙ ap (λ n. all_labels (map (inst ts) us) ++ (c, n) ∷ []) (length-map us (inst ts))
    ∙ ap (λ ls. ls ++ (c, length us) ∷ []) (all-replaced ts us a)
    ∙ ap (λ ls. replaced ts (all_labels us) ++ ls) (sym (append-nil (labels_for ts c (length us)) ∙ one))
    ∙ sym (replaced-append ts (all_labels us) ((c, length us) ∷ []))
    ∙ ap (replaced ts) (sym (labels-built c us fits))

-- the labels of an instance are what stands in place of the labels
pub labels-inst : (ts : List SchemeTree) (t : SchemeTree) → labels (inst ts t) ≡ replaced ts (labels t)
labels-inst ts = induct-built (IsReplaced ts) step where
  step : (c : TypeCon) (us : List SchemeTree) → Fits c (length us) → AllByRecursion (IsReplaced ts) us → IsReplaced ts (built c us)
  step (con.Fixed k) us fits a = ap labels (inst-Var ts k) ∙ sym (append-nil (labels (get_or ts k unit))) ∙ ap (replaced ts) (sym (fold-Var (List Label) labels_at k))
  step (con.Named c) us fits a = built-replaced ts (con.Named c) us fits (λ k e. cc) refl a
  step con.Tuple us fits a = built-replaced ts con.Tuple us fits (λ k e. cc) refl a
  step (con.Rel inputs) us fits a = built-replaced ts (con.Rel inputs) us fits (λ k e. cc) refl a

-- one label more has what stands in its place
pub replaced-next : (ts : List SchemeTree) (all : List Label) (i : ℕ) (l : Label) (old new : List Label) → i < length all → get_or all i l ≡ l → new ≡ old ++ labels_for ts l.0 l.1
    → old ++ replaced ts (drop i all) ≡ replaced ts all → new ++ replaced ts (drop (i + 1) all) ≡ replaced ts all
replaced-next ts all i l old new lt at e before =
    ap (λ ls. ls ++ replaced ts (drop (i + 1) all)) e
    ∙ append_assoc old (labels_for ts l.0 l.1) (replaced ts (drop (i + 1) all))
    ∙ ap (λ ls. old ++ replaced ts ls) (ap (λ m. m ∷ drop (i + 1) all) (sym at) ∙ sym (drop_more all i l lt))
    ∙ before
