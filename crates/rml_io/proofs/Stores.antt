-- The map that contracts see of a stored map from texts to vectors.
use Rattle.std.proofs.Common.{◌≡◌, ℕ, Bool, true, false, cond, List, [], ◌∷◌, ◌++◌, map, Some, refl, sym, ap, ◌∙◌, string_bytes, vec_items}
use Rattle.std.specs.declared.option.Option.{Option}
use Rattle.std.specs.declared.string.String.{String}
use Rattle.std.specs.declared.vec.Vec.{Vec}
use Rattle.std.specs.Option.{option_map}
use Rattle.std.specs.Ordering.{nat_cmp, is_eq, eq_by_cmp}
use Rattle.std.specs.Cmp.{eq_by_cmp_equiv, nat_cmp_total}
use Rattle.std.specs.Cmp.Lexicographic.{slice_cmp, nat_list_cmp_total}
use Rattle.std.specs.String.{string_cmp}
use Rattle.std.specs.Str.{bytes_eq}
use Rattle.std.specs.Map.{lookup}
use Rattle.std.specs.BTreeMap.{BTreeMap, UpdatesBy, get_by_text, is_at}
use Rattle.std.specs.FinMap.{get, insert, find, get-insert, get-from_entries, same_map, slice_cmp-IsAntisymmetric, nat_cmp-IsAntisymmetric}
use Rattle.std.specs.FinSet.{from_list, from_list_push, contains-from_list_nat, insert as insert_number}
use Rattle.std.proofs.lemmas.Map.Text.{btree_map_updates_text, is_eq-slice_cmp}
use Rattle.rml_io.specs.Store.{entry_of, held_in}

find_held : {Y Z : Type 0} (name : List ℕ) (es : List (String Y × Vec ℕ Z)) →
    find (slice_cmp nat_cmp) name (map entry_of es) ≡ option_map vec_items (lookup (is_at (λ k. slice_cmp nat_cmp name (string_bytes k))) es)
find_held name [] = refl
find_held name (e ∷ es) =
    elim (is_eq (slice_cmp nat_cmp name (string_bytes e.0)))
    as (λ b. cond b (Some (vec_items e.1)) (find (slice_cmp nat_cmp) name (map entry_of es))
    ≡ option_map vec_items (cond b (Some e.1) (lookup (is_at (λ k. slice_cmp nat_cmp name (string_bytes k))) es))) [
      | true ↦ refl
      | false ↦ find_held name es
    ]

-- what is held under a name is what the stored map has there
pub get-held_in : {Y Z : Type 0} (m : BTreeMap (String Y) (Vec ℕ Z)) (name : List ℕ) → get (held_in m) name ≡ option_map vec_items (get_by_text m name)
get-held_in m name = get-from_entries nat_list_cmp_total (map entry_of m.entries) name ∙ find_held name m.entries

mapped : {Z : Type 0} (b : Bool) (x : Vec ℕ Z) (o : Option (Vec ℕ Z)) → option_map vec_items (cond b (Some x) o) ≡ cond b (Some (vec_items x)) (option_map vec_items o)
mapped true x o = refl
mapped false x o = refl

-- to insert into the stored map is to insert into what is held
pub held_in-insert : {Y Z : Type 0} (name : List ℕ) (old new : BTreeMap (String Y) (Vec ℕ Z)) (bytes : Vec ℕ Z) →
    UpdatesBy string_cmp (λ k. slice_cmp nat_cmp name (string_bytes k)) old new (Some bytes) →
    held_in new ≡ insert (held_in old) name (vec_items bytes)
held_in-insert {Y} {Z} name old new bytes updates =
    same_map nat_list_cmp_total (slice_cmp-IsAntisymmetric nat_cmp-IsAntisymmetric) (held_in new) (insert (held_in old) name (vec_items bytes)) (λ q.
    let same : bytes_eq name q ≡ eq_by_cmp (slice_cmp nat_cmp) q name =
    sym (is_eq-slice_cmp name q) ∙ (eq_by_cmp_equiv nat_list_cmp_total).symm name q in
    get-held_in new q
    ∙ ap (option_map vec_items) (btree_map_updates_text name old new (Some bytes) updates q)
    ∙ mapped (bytes_eq name q) bytes (get_by_text old q)
    ∙ ap (λ o. cond (bytes_eq name q) (Some (vec_items bytes)) o) (sym (get-held_in old q))
    ∙ ap (λ b. cond b (Some (vec_items bytes)) (get (held_in old) q)) same
    ∙ sym (get-insert nat_list_cmp_total (held_in old) name (vec_items bytes) q))

-- to push a number is to insert it
pub listed_more : (numbers : List ℕ) (call : ℕ) → from_list {R = nat_cmp} (numbers ++ call ∷ []) ≡ insert_number (from_list numbers) call
listed_more numbers call = from_list_push nat_cmp_total nat_cmp-IsAntisymmetric numbers call

pub ruleset listing = (contains-from_list_nat)

pub ruleset storing = (get-held_in, held_in-insert)
