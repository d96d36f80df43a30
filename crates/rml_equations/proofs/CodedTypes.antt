-- What is coded is decoded, and instances are coded and decoded to instances.
use Rattle.std.proofs.Common.{◌≡◌, ℕ, zero, suc, List, [], ◌∷◌, map, get_or, refl, sym, ap, ◌∙◌}
use Rattle.std.specs.List.{AllByRecursion}
use Rattle.std.proofs.lemmas.List.{map-id}
use Rattle.rml_types.specs.declared.tree.SchemeTree.{SchemeTree, out-SchemeTree, out-roll-SchemeTree}
use Rattle.rml_types.specs.declared.tree.SchemeTree.TheOpen.{SchemeTree-F}
use Rattle.rml_types.specs.declared.tree.SchemeTree.TheVariants as tree
use Rattle.rml_types.specs.declared.tree.SchemeTree.TheVariants.{rolls-Tuple}
use Rattle.rml_types.specs.Schemes.{inst, unit}
use Rattle.rml_types.proofs.Callers.{fold-Named, fold-Rel, fold-Tuple, fold-Var, induct, inst-Named, inst-Rel, inst-Tuple, inst-Var}
use Rattle.rml_equations.specs.declared.coding.Coding.{Coding}
use Rattle.rml_equations.specs.declared.coding.Coding.TheVariants.{Plain, Packed}
use Rattle.rml_equations.specs.Coding.{packed_at, packed, parts_at, parts_of, unpacked_at, unpacked, coded, decoded, relation_as}

abbrev Types : Type 0
Types = List SchemeTree

-- two ways along a list are one, where they are at each item
same-ways : (f g h k : SchemeTree → SchemeTree) (ts : Types) → AllByRecursion (λ t. f (g t) ≡ h (k t)) ts → map f (map g ts) ≡ map h (map k ts)
same-ways f g h k [] a = refl
same-ways f g h k (t ∷ ts) a = ap (λ u. u ∷ map f (map g ts)) a.0 ∙ ap (λ us. h (k t) ∷ us) (same-ways f g h k ts a.1)

back-again : (f g : SchemeTree → SchemeTree) (ts : Types) → AllByRecursion (λ t. f (g t) ≡ t) ts → map f (map g ts) ≡ ts
back-again f g [] a = refl
back-again f g (t ∷ ts) a = ap (λ u. u ∷ map f (map g ts)) a.0 ∙ ap (λ us. t ∷ us) (back-again f g ts a.1)

three-ways : (f g h k : SchemeTree → SchemeTree) (ts : Types) → AllByRecursion (λ t. f (g (h t)) ≡ k t) ts → map f (map g (map h ts)) ≡ map k ts
three-ways f g h k [] a = refl
three-ways f g h k (t ∷ ts) a = ap (λ u. u ∷ map f (map g (map h ts))) a.0 ∙ ap (λ us. k t ∷ us) (three-ways f g h k ts a.1)

at-mapped : (f : SchemeTree → SchemeTree) → f unit ≡ unit → (ts : Types) (k : ℕ) → f (get_or ts k unit) ≡ get_or (map f ts) k unit
at-mapped f closed [] k = closed
at-mapped f closed (t ∷ ts) zero = refl
at-mapped f closed (t ∷ ts) (suc k) = at-mapped f closed ts k

both-sides : (us vs ws xs : Types) → us ≡ vs → ws ≡ xs → tree.Rel us ws ≡ tree.Rel vs xs
both-sides us vs ws xs e f = ap (λ z. tree.Rel z ws) e ∙ ap (tree.Rel vs) f

-- a packed relation type
abbrev pack : Types → Types → SchemeTree
pack us ws = tree.Rel (tree.Tuple us ∷ []) (tree.Tuple ws ∷ [])

both-packed : (us vs ws xs : Types) → us ≡ vs → ws ≡ xs → pack us ws ≡ pack vs xs
both-packed us vs ws xs e f = ap (λ z. pack z ws) e ∙ ap (pack vs) f

packed-Rel : (us ws : Types) → packed (tree.Rel us ws) ≡ pack (map packed us) (map packed ws)
packed-Rel us ws = fold-Rel SchemeTree packed_at us ws

out-tuple : (us : Types) → parts_at (out-SchemeTree (tree.Tuple us)) ≡ us
out-tuple us = ap parts_at (ap out-SchemeTree (sym (rolls-Tuple us)) ∙ out-roll-SchemeTree (SchemeTree-F.Tuple us))

parts-unpacked : (us : Types) → parts_of (map unpacked (tree.Tuple us ∷ [])) ≡ map unpacked us
parts-unpacked us = ap (λ t. parts_at (out-SchemeTree t)) (fold-Tuple SchemeTree unpacked_at us) ∙ out-tuple (map unpacked us)

unpacked-pack : (us ws : Types) → unpacked (pack us ws) ≡ tree.Rel (map unpacked us) (map unpacked ws)
unpacked-pack us ws =
    fold-Rel SchemeTree unpacked_at (tree.Tuple us ∷ []) (tree.Tuple ws ∷ [])
    ∙ both-sides _ (map unpacked us) _ (map unpacked ws) (parts-unpacked us) (parts-unpacked ws)

inst-pack : (rs us ws : Types) → inst rs (pack us ws) ≡ pack (map (inst rs) us) (map (inst rs) ws)
inst-pack rs us ws =
    inst-Rel rs (tree.Tuple us ∷ []) (tree.Tuple ws ∷ [])
    ∙ ap (λ t. tree.Rel (t ∷ []) (inst rs (tree.Tuple ws) ∷ [])) (inst-Tuple rs us) ∙ ap (λ t. tree.Rel (tree.Tuple (map (inst rs) us) ∷ []) (t ∷ [])) (inst-Tuple rs ws)

unpacked-packed : (t : SchemeTree) → unpacked (packed t) ≡ t
unpacked-packed = induct (λ t. unpacked (packed t) ≡ t)
    (λ k. ap unpacked (fold-Var SchemeTree packed_at k) ∙ fold-Var SchemeTree unpacked_at k)
    (λ c us a. ap unpacked (fold-Named SchemeTree packed_at c us) ∙ fold-Named SchemeTree unpacked_at c (map packed us) ∙ ap (tree.Named c) (back-again unpacked packed us a))
    (λ us a. ap unpacked (fold-Tuple SchemeTree packed_at us) ∙ fold-Tuple SchemeTree unpacked_at (map packed us) ∙ ap tree.Tuple (back-again unpacked packed us a))
    (λ us ws a b. ap unpacked (packed-Rel us ws) ∙ unpacked-pack (map packed us) (map packed ws)
    ∙ both-sides (map unpacked (map packed us)) us (map unpacked (map packed ws)) ws (back-again unpacked packed us a) (back-again unpacked packed ws b))

packed-inst : (ts : Types) (t : SchemeTree) → packed (inst ts t) ≡ inst (map packed ts) (packed t)
packed-inst ts = induct (λ t. packed (inst ts t) ≡ inst (map packed ts) (packed t))
    (λ k. ap packed (inst-Var ts k) ∙ at-mapped packed (fold-Tuple SchemeTree packed_at []) ts k ∙ sym (inst-Var (map packed ts) k) ∙ sym (ap (inst (map packed ts)) (fold-Var SchemeTree packed_at k)))
    (λ c us a. ap packed (inst-Named ts c us) ∙ fold-Named SchemeTree packed_at c (map (inst ts) us) ∙ ap (tree.Named c) (same-ways packed (inst ts) (inst (map packed ts)) packed us a)
    ∙ sym (inst-Named (map packed ts) c (map packed us)) ∙ sym (ap (inst (map packed ts)) (fold-Named SchemeTree packed_at c us)))
    (λ us a. ap packed (inst-Tuple ts us) ∙ fold-Tuple SchemeTree packed_at (map (inst ts) us) ∙ ap tree.Tuple (same-ways packed (inst ts) (inst (map packed ts)) packed us a)
    ∙ sym (inst-Tuple (map packed ts) (map packed us)) ∙ sym (ap (inst (map packed ts)) (fold-Tuple SchemeTree packed_at us)))
    (λ us ws a b. ap packed (inst-Rel ts us ws) ∙ packed-Rel (map (inst ts) us) (map (inst ts) ws)
    ∙ both-packed (map packed (map (inst ts) us)) (map (inst (map packed ts)) (map packed us)) (map packed (map (inst ts) ws)) (map (inst (map packed ts)) (map packed ws))
    (same-ways packed (inst ts) (inst (map packed ts)) packed us a) (same-ways packed (inst ts) (inst (map packed ts)) packed ws b)
    ∙ sym (inst-pack (map packed ts) (map packed us) (map packed ws)) ∙ sym (ap (inst (map packed ts)) (packed-Rel us ws)))

-- substituting in a packed type and unpacking is substituting unpacked types
unpacked-inst : (ts : Types) (t : SchemeTree) → unpacked (inst ts (packed t)) ≡ inst (map unpacked ts) t
unpacked-inst ts = induct (λ t. unpacked (inst ts (packed t)) ≡ inst (map unpacked ts) t)
    (λ k. ap (λ t. unpacked (inst ts t)) (fold-Var SchemeTree packed_at k) ∙ ap unpacked (inst-Var ts k) ∙ at-mapped unpacked (fold-Tuple SchemeTree unpacked_at []) ts k ∙ sym (inst-Var (map unpacked ts) k))
    (λ c us a. ap (λ t. unpacked (inst ts t)) (fold-Named SchemeTree packed_at c us) ∙ ap unpacked (inst-Named ts c (map packed us)) ∙ fold-Named SchemeTree unpacked_at c (map (inst ts) (map packed us))
    ∙ ap (tree.Named c) (three-ways unpacked (inst ts) packed (inst (map unpacked ts)) us a) ∙ sym (inst-Named (map unpacked ts) c us))
    (λ us a. ap (λ t. unpacked (inst ts t)) (fold-Tuple SchemeTree packed_at us) ∙ ap unpacked (inst-Tuple ts (map packed us)) ∙ fold-Tuple SchemeTree unpacked_at (map (inst ts) (map packed us))
    ∙ ap tree.Tuple (three-ways unpacked (inst ts) packed (inst (map unpacked ts)) us a) ∙ sym (inst-Tuple (map unpacked ts) us))
    (λ us ws a b. ap (λ t. unpacked (inst ts t)) (packed-Rel us ws) ∙ ap unpacked (inst-pack ts (map packed us) (map packed ws)) ∙ unpacked-pack (map (inst ts) (map packed us)) (map (inst ts) (map packed ws))
    ∙ both-sides (map unpacked (map (inst ts) (map packed us))) (map (inst (map unpacked ts)) us) (map unpacked (map (inst ts) (map packed ws))) (map (inst (map unpacked ts)) ws)
    (three-ways unpacked (inst ts) packed (inst (map unpacked ts)) us a) (three-ways unpacked (inst ts) packed (inst (map unpacked ts)) ws b) ∙ sym (inst-Rel (map unpacked ts) us ws))

pub decoded-coded : (c : Coding) (t : SchemeTree) → decoded c (coded c t) ≡ t
decoded-coded Plain t = refl
decoded-coded Packed t = unpacked-packed t

pub coded-inst : (c : Coding) (ts : Types) (t : SchemeTree) → coded c (inst ts t) ≡ inst (map (coded c) ts) (coded c t)
coded-inst Plain ts t = ap (λ (us : Types). inst us t) (sym (map-id ts))
coded-inst Packed ts t = packed-inst ts t

pub decoded-inst : (c : Coding) (ts : Types) (t : SchemeTree) → decoded c (inst ts (coded c t)) ≡ inst (map (decoded c) ts) t
decoded-inst Plain ts t = ap (λ (us : Types). inst us t) (sym (map-id ts))
decoded-inst Packed ts t = unpacked-inst ts t

pub decoded-Tuple : (c : Coding) (ts : Types) → decoded c (tree.Tuple ts) ≡ tree.Tuple (map (decoded c) ts)
decoded-Tuple Plain ts = ap tree.Tuple (sym (map-id ts))
decoded-Tuple Packed ts = fold-Tuple SchemeTree unpacked_at ts

pub coded-Tuple : (c : Coding) (ts : Types) → coded c (tree.Tuple ts) ≡ tree.Tuple (map (coded c) ts)
coded-Tuple Plain ts = ap tree.Tuple (sym (map-id ts))
coded-Tuple Packed ts = fold-Tuple SchemeTree packed_at ts

pub decoded-Named : (c : Coding) (n : ℕ) (ts : Types) → decoded c (tree.Named n ts) ≡ tree.Named n (map (decoded c) ts)
decoded-Named Plain n ts = ap (tree.Named n) (sym (map-id ts))
decoded-Named Packed n ts = fold-Named SchemeTree unpacked_at n ts

pub coded-Named : (c : Coding) (n : ℕ) (ts : Types) → coded c (tree.Named n ts) ≡ tree.Named n (map (coded c) ts)
coded-Named Plain n ts = ap (tree.Named n) (sym (map-id ts))
coded-Named Packed n ts = fold-Named SchemeTree packed_at n ts

pub decoded-Rel : (c : Coding) (us ws : Types) → decoded c (relation_as c us ws) ≡ tree.Rel (map (decoded c) us) (map (decoded c) ws)
decoded-Rel Plain us ws = both-sides us (map (λ t. t) us) ws (map (λ t. t) ws) (sym (map-id us)) (sym (map-id ws))
decoded-Rel Packed us ws = unpacked-pack us ws

pub coded-Rel : (c : Coding) (us ws : Types) → coded c (tree.Rel us ws) ≡ relation_as c (map (coded c) us) (map (coded c) ws)
coded-Rel Plain us ws = both-sides us (map (λ t. t) us) ws (map (λ t. t) ws) (sym (map-id us)) (sym (map-id ws))
coded-Rel Packed us ws = packed-Rel us ws
