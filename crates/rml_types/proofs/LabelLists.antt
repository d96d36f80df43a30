-- The labels of types, and how a walk lists them.
use Rattle.std.proofs.Common.{◌≡◌, ℕ, ◌+◌, ◌-◌, ◌<◌, ◌≤◌, List, [], ◌∷◌, ◌++◌, length, map, take, drop, reverse, refl, sym, ap, ◌∙◌, arith, append_assoc, length-append, subst}
use Rattle.std.proofs.Math.Seq.{take-append_seam}
use Rattle.std.proofs.lemmas.List.{append-nil, map-append, length-drop, length-map, length-take-le, reverse-append, take-append-drop}
use Rattle.rml_types.specs.declared.form.TypeCon.{TypeCon}
use Rattle.rml_types.specs.declared.form.TypeCon.TheVariants as con
use Rattle.rml_types.specs.declared.tree.SchemeTree.{SchemeTree}
use Rattle.rml_types.specs.declared.tree.SchemeTree.TheVariants as tree
use Rattle.rml_types.specs.Finite.{built}
use Rattle.rml_types.specs.Nodes.{Fits}
use Rattle.rml_types.specs.Labels.{Label, all_labels, joined, labels, labels_at}
use Rattle.rml_types.proofs.FiniteTypes.{drop-seam, map-parts, nil-of}
use Rattle.rml_types.proofs.Trees.{fold-Var, fold-Named, fold-Tuple, fold-Rel}

joined-append : (xs ys : List (List Label)) → joined (xs ++ ys) ≡ joined xs ++ joined ys
joined-append [] ys = refl
joined-append (x ∷ xs) ys = ap (λ zs. x ++ zs) (joined-append xs ys) ∙ sym (append_assoc x (joined xs) (joined ys))

pub all-labels-append : (ts us : List SchemeTree) → all_labels (ts ++ us) ≡ all_labels ts ++ all_labels us
all-labels-append ts us = ap joined (map-append labels ts us) ∙ joined-append (map labels ts) (map labels us)

-- the labels of a constructor over types
pub labels-built : (c : TypeCon) (ts : List SchemeTree) → Fits c (length ts) → labels (built c ts) ≡ all_labels ts ++ (c, length ts) ∷ []
labels-built (con.Named c) ts fits = fold-Named (List Label) labels_at c ts ∙ ap (λ n. all_labels ts ++ (con.Named c, n) ∷ []) (length-map ts labels)
labels-built (con.Fixed k) ts fits = fold-Var (List Label) labels_at k ∙ ap (λ us. all_labels us ++ (con.Fixed k, length us) ∷ []) (sym (nil-of ts fits))
labels-built con.Tuple ts fits = fold-Tuple (List Label) labels_at ts ∙ ap (λ n. all_labels ts ++ (con.Tuple, n) ∷ []) (length-map ts labels)
labels-built (con.Rel k) ts fits =
    let whole : map labels (take k ts) ++ map labels (drop k ts) ≡ map labels ts = map-parts labels k ts in
    let n : length (map labels (take k ts)) ≡ k = length-map (take k ts) labels ∙ length-take-le k ts fits in
    fold-Rel (List Label) labels_at (take k ts) (drop k ts)
    ∙ ap (λ m. joined (map labels (take k ts) ++ map labels (drop k ts)) ++ (con.Rel m, length (map labels (take k ts) ++ map labels (drop k ts))) ∷ []) n
    ∙ ap (λ (ls : List (List Label)). joined ls ++ (con.Rel k, length ls) ∷ []) whole
    ∙ ap (λ m. all_labels ts ++ (con.Rel k, m) ∷ []) (length-map ts labels)

-- a type is taken apart: its parts wait
pub apart : (c : TypeCon) (ts old new : List SchemeTree) (n : ℕ) → Fits c (length ts) → new ≡ old ++ ts → n ≡ length ts → all_labels old ++ labels (built c ts) ≡ all_labels new ++ (c, n) ∷ []
apart c ts old new n fits grown count =
    ap (λ ls. all_labels old ++ ls) (labels-built c ts fits) ∙ sym (append_assoc (all_labels old) (all_labels ts) ((c, length ts) ∷ []))
    ∙ ap (λ ls. ls ++ (c, length ts) ∷ []) (sym (all-labels-append old ts)) ∙ ap (λ us. all_labels us ++ (c, length ts) ∷ []) (sym grown) ∙ ap (λ m. all_labels new ++ (c, m) ∷ []) (sym count)

rel-built : (ins outs : List SchemeTree) → built (con.Rel (length ins)) (ins ++ outs) ≡ tree.Rel ins outs
rel-built ins outs = ap (λ x. tree.Rel x (drop (length ins) (ins ++ outs))) (take-append_seam ins outs) ∙ ap (tree.Rel ins) (drop-seam ins outs)

pub apart-Rel : (ins outs old mid new : List SchemeTree) (k n : ℕ) → mid ≡ old ++ ins → new ≡ mid ++ outs → k ≡ length ins → n ≡ length ins + length outs
    → all_labels old ++ labels (tree.Rel ins outs) ≡ all_labels new ++ (con.Rel k, n) ∷ []
apart-Rel ins outs old mid new k n first second inputs count =
    ap (λ t. all_labels old ++ labels t) (sym (rel-built ins outs))
    ∙ apart (con.Rel (length ins)) (ins ++ outs) old new n (let l = length-append ins outs in omega arith) (second ∙ ap (λ us. us ++ outs) first ∙ append_assoc old ins outs) (let l = length-append ins outs in omega arith)
    ∙ ap (λ m. all_labels new ++ (con.Rel m, n) ∷ []) (sym inputs)

-- one turn of the walk
pub walked : (old new : List SchemeTree) (t : SchemeTree) (label : Label) (made : List Label) → all_labels old ++ labels t ≡ all_labels new ++ label ∷ []
    → all_labels new ++ reverse (made ++ label ∷ []) ≡ all_labels (old ++ t ∷ []) ++ reverse made
walked old new t label made e =
    ap (λ ls. all_labels new ++ ls) (reverse-append made (label ∷ []))
    ∙ sym (append_assoc (all_labels new) (label ∷ []) (reverse made)) ∙ ap (λ ls. ls ++ reverse made) (sym e)
    ∙ ap (λ ls. ls ++ reverse made) (ap (λ ls. all_labels old ++ ls) (sym (one t)) ∙ sym (all-labels-append old (t ∷ []))) where
      one : (t : SchemeTree) → all_labels (t ∷ []) ≡ labels t
      one t = nothing (labels t) where
        nothing : (ls : List Label) → ls ++ [] ≡ ls
        nothing [] = refl
        nothing (l ∷ ls) = ap (λ x. l ∷ x) (nothing ls)

pub walk-falls : (old new : List SchemeTree) (t : SchemeTree) (label : Label) → all_labels old ++ labels t ≡ all_labels new ++ label ∷ []
    → length (all_labels new) < length (all_labels (old ++ t ∷ []))
walk-falls old new t label e =
    let a = ap length (walked old new t label [] e) in
    let b = length-append (all_labels new) (label ∷ []) in
    let c = length-append (all_labels (old ++ t ∷ [])) [] in
    omega (arith, a, b, c)

one-type : (t : SchemeTree) → all_labels (t ∷ []) ≡ labels t
one-type t = append-nil (labels t)

-- the last types give way to the type that a label makes of them
pub together : (c : TypeCon) (n : ℕ) (old parts new : List SchemeTree) (t : SchemeTree) → n ≤ length old → Fits c n → parts ≡ drop (length old - n) old → t ≡ built c parts
    → new ≡ take (length old - n) old ++ t ∷ [] → all_labels new ≡ all_labels old ++ (c, n) ∷ []
together c n old parts new t le fits ep et en =
    let count : length parts ≡ n = (let a = ap length ep in let b = length-drop (length old - n) old in omega (arith, a, b)) in
    ap all_labels en ∙ all-labels-append (take (length old - n) old) (t ∷ [])
    ∙ ap (λ ls. all_labels (take (length old - n) old) ++ ls) (one-type t ∙ ap labels et ∙ labels-built c parts (subst (Fits c) (sym count) fits))
    ∙ sym (append_assoc (all_labels (take (length old - n) old)) (all_labels parts) ((c, length parts) ∷ []))
    ∙ ap (λ ls. ls ++ (c, length parts) ∷ []) (sym (all-labels-append (take (length old - n) old) parts) ∙ ap (λ us. all_labels (take (length old - n) old ++ us)) ep ∙ ap all_labels (take-append-drop (length old - n) old))
    ∙ ap (λ m. all_labels old ++ (c, m) ∷ []) count
