-- Types that a text reads as they stand, since it defines none of them by `type`.
use Rattle.std.proofs.Common.{◌≡◌, ℕ, zero, suc, List, [], ◌∷◌, length, map, Option, None, refl, ap, ◌∙◌}
use Rattle.std.specs.Prelude.{option_map, slice_get}
use Rattle.std.specs.Option.{option_map_or}
use Rattle.std.specs.List.{AllByRecursion}
use Rattle.rml_types.specs.declared.scheme.Scheme.{Scheme}
use Rattle.rml_types.specs.declared.tree.SchemeTree.{SchemeTree}
use Rattle.rml_types.specs.declared.tree.SchemeTree.TheVariants as tree
use Rattle.rml_types.specs.Schemes.{inst}
use Rattle.rml_types.proofs.Callers.{fold-Named, fold-Rel, fold-Tuple, fold-Var, induct}
use Rattle.rml_resolved.specs.declared.tables.TypeDef.{TypeDef}
use Rattle.rml_typed.specs.Own.{Meanings, written_at, written, definition_in, meanings_to, own_meanings, own}

map-same : (f : SchemeTree → SchemeTree) (ts : List SchemeTree) → AllByRecursion (λ t. f t ≡ t) ts → map f ts ≡ ts
map-same f [] a = refl
map-same f (t ∷ ts) a = ap (λ u. u ∷ map f ts) a.0 ∙ ap (λ us. t ∷ us) (map-same f ts a.1)

pub written-same : (meanings : Meanings) → ((c : ℕ) → meanings c ≡ None) → (t : SchemeTree) → written meanings t ≡ t
written-same meanings no_meaning = induct (λ t. written meanings t ≡ t)
    (λ k. fold-Var SchemeTree (written_at meanings) k)
    (λ c ts a. fold-Named SchemeTree (written_at meanings) c ts
    ∙ ap (λ (o : Option SchemeTree). option_map_or (inst (map (written meanings) ts)) o (tree.Named c (map (written meanings) ts))) (no_meaning c) ∙ ap (tree.Named c) (map-same (written meanings) ts a))
    (λ ts a. fold-Tuple SchemeTree (written_at meanings) ts ∙ ap tree.Tuple (map-same (written meanings) ts a))
    (λ us ws a b. fold-Rel SchemeTree (written_at meanings) us ws
    ∙ ap (λ x. tree.Rel x (map (written meanings) ws)) (map-same (written meanings) us a) ∙ ap (tree.Rel us) (map-same (written meanings) ws b))

pub meaning-none : (types : List TypeDef) (text depth c : ℕ) → definition_in text (slice_get types c) ≡ None → meanings_to types text depth c ≡ None
meaning-none types text zero c none = refl
meaning-none types text (suc depth) c none = ap (λ (o : Option Scheme). option_map (λ (s : Scheme). written (meanings_to types text depth) s.body) o) none

pub own-same : (types : List TypeDef) (text : ℕ) (t : SchemeTree) → ((c : ℕ) → definition_in text (slice_get types c) ≡ None) → own types text t ≡ t
own-same types text t none = written-same (own_meanings types text) (λ c. meaning-none types text (length types) c (none c)) t
