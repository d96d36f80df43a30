-- The texts that interfaces name make a graph.
use Rattle.std.proofs.Common.{◌≡◌, ℕ, zero, suc, ◌<◌, ◌^◌, true, false, List, [], ◌∷◌, ◌++◌, length, get_or, map, refl, sym, ap, ◌∙◌, arith, cond, subst}
use Rattle.std.specs.Prelude.{Option, None, Some, is_some, nat_eq, nat_lt, slice_index_or}
use Rattle.std.specs.List.{position_or_len}
use Rattle.std.specs.Map.{lookup}
use Rattle.std.proofs.lemmas.Bool.Decides.{nat_tests}
use Rattle.rml_base.specs.Numbering.{same}
use Rattle.rml_reach.specs.Paths.{IsGraph}
use Rattle.rml_syntax.specs.declared.texts.Text.{Text}
use Rattle.rml_syntax.specs.declared.texts.Uses.{Uses}
use Rattle.rml_tables.specs.Words.{with_first}
use Rattle.rml_outlines.specs.Files.{Targets, last_part, text_named, with_named, with_target, with_targets, with_targets_of}
use Rattle.rml_outlines.specs.Outlines.{and_found, links_of, named_by}

-- each of some texts is below a count, by recursion
AreBelow : ℕ → List ℕ → Type 0
AreBelow n [] = Unit {0}
AreBelow n (x ∷ xs) = (x < n) × AreBelow n xs

below-at : (n : ℕ) (xs : List ℕ) (k x : ℕ) → AreBelow n xs → k < length xs → get_or xs k x ≡ x → x < n
unfolding AreBelow
below-at n [] k x h lt e = absurd (omega arith)
below-at n (y ∷ ys) zero x h lt e = subst (λ (z : ℕ). z < n) e h.0
below-at n (y ∷ ys) (suc k) x h lt e = below-at n ys k x h.1 (omega arith) e

-- what targets name is below a count
NameBelow : ℕ → Targets → Type 0
NameBelow n [] = Unit {0}
NameBelow n (e ∷ es) = (e.1 < n) × NameBelow n es

found-below : (n file text : ℕ) (ts : Targets) → NameBelow n ts → lookup (nat_eq file) ts ≡ Some text → text < n
unfolding NameBelow
found-below n file text [] h e = absurd (cc e)
found-below n file text (t ∷ ts) h e = elim (nat_eq file t.0) as (λ v. nat_eq file t.0 ≡ v → text < n) [
  | true ↦ λ g. (let k : Some t.1 ≡ Some text = rw g at e in let q : t.1 ≡ text = cc in subst (λ (z : ℕ). z < n) q h.0)
  | false ↦ λ g. (let k : lookup (nat_eq file) ts ≡ Some text = rw g at e in found-below n file text ts h.1 k)
] refl

behind-below : (n file text : ℕ) (ts : Targets) → NameBelow n ts → text < n → NameBelow n (ts ++ (file, text) ∷ [])
unfolding NameBelow
behind-below n file text [] h lt = (lt, tt)
behind-below n file text (t ∷ ts) h lt = (h.0, behind-below n file text ts h.1 lt)

first-below : (n file text : ℕ) (ts : Targets) → NameBelow n ts → text < n → NameBelow n (with_first nat_eq ts file text)
first-below n file text ts h lt = elim (is_some (lookup (nat_eq file) ts)) as (λ v. NameBelow n (cond v ts (ts ++ (file, text) ∷ []))) [
  | true ↦ h
  | false ↦ behind-below n file text ts h lt
]

named-below : (parts : List (List ℕ)) (name : List ℕ) (text : ℕ) → text_named parts name ≡ Some text → text < length parts
unfolding text_named
named-below parts name text e =
    let at : ℕ = position_or_len (λ part. same part (last_part name)) parts in
    elim (nat_lt at (length parts)) as (λ v. nat_lt at (length parts) ≡ v → text < length parts) [
      | true ↦ λ g. (let k : Some at ≡ Some text = rw g at e in let q : at ≡ text = cc in grind (arith, nat_tests))
      | false ↦ λ g. (let k : None ≡ Some text = rw g at e in absurd (cc k))
    ] refl

and-named-below : (n file : ℕ) (o : Option ℕ) (ts : Targets) → NameBelow n ts → ((text : ℕ) → o ≡ Some text → text < n) → NameBelow n (with_named ts file o)
and-named-below n file None ts h k = h
and-named-below n file (Some text) ts h k = first-below n file text ts h (k text refl)

target-below : (names parts : List (List ℕ)) (ts : Targets) (u : Uses) → NameBelow (length parts) ts → NameBelow (length parts) (with_target names parts ts u)
unfolding with_target
target-below names parts ts u h = and-named-below (length parts) u.file (text_named parts (slice_index_or names u.file [])) ts h (λ text e. named-below parts (slice_index_or names u.file []) text e)

targets-below : (names parts : List (List ℕ)) (us : List Uses) (ts : Targets) → NameBelow (length parts) ts → NameBelow (length parts) (with_targets names parts ts us)
targets-below names parts [] ts h = h
targets-below names parts (u ∷ us) ts h = targets-below names parts us (with_target names parts ts u) (target-below names parts ts u h)

all-targets-below : (names parts : List (List ℕ)) (texts : List Text) (ts : Targets) → NameBelow (length parts) ts → NameBelow (length parts) (with_targets_of names parts ts texts)
all-targets-below names parts [] ts h = h
all-targets-below names parts (t ∷ rest) ts h =
    all-targets-below names parts rest (with_targets names parts (with_targets names parts ts t.uses) t.body_uses)
    (targets-below names parts t.body_uses (with_targets names parts ts t.uses) (targets-below names parts t.uses ts h))

and-found-below : (n : ℕ) (o : Option ℕ) (xs : List ℕ) → AreBelow n xs → ((text : ℕ) → o ≡ Some text → text < n) → AreBelow n (and_found o xs)
unfolding AreBelow
and-found-below n None xs h k = h
and-found-below n (Some text) xs h k = (k text refl, h)

uses-below : (n : ℕ) (ts : Targets) (us : List Uses) → NameBelow n ts → AreBelow n (named_by ts us)
unfolding AreBelow
uses-below n ts [] h = tt
uses-below n ts (u ∷ us) h = and-found-below n (lookup (nat_eq u.file) ts) (named_by ts us) (uses-below n ts us h) (λ text e. found-below n u.file text ts h e)

links-below : (n : ℕ) (ts : Targets) (texts : List Text) (a : ℕ) → NameBelow n ts → AreBelow n (get_or (links_of ts texts) a [])
unfolding AreBelow
links-below n ts [] a h = tt
links-below n ts (t ∷ rest) zero h = uses-below n ts t.uses h
links-below n ts (t ∷ rest) (suc a) h = links-below n ts rest a h

length-links : (ts : Targets) (texts : List Text) → length (links_of ts texts) ≡ length texts
length-links ts [] = refl
length-links ts (t ∷ rest) = ap suc (length-links ts rest)

length-parts : (files : List (List ℕ)) → length (map last_part files) ≡ length files
length-parts [] = refl
length-parts (f ∷ fs) = ap suc (length-parts fs)

-- of each text the texts that its interface names, where there is one file a text
links_graph : (names files : List (List ℕ)) (texts : List Text) → length files ≡ length texts → length texts < 2 ^ 32
    → IsGraph (links_of (with_targets_of names (map last_part files) [] texts) texts)
unfolding NameBelow
links_graph names files texts count small =
    let parts : List (List ℕ) = map last_part files in
    let targets : Targets = with_targets_of names parts [] texts in
    let few : length (links_of targets texts) ≡ length texts = length-links targets texts in
    let many : length parts ≡ length files = length-parts files in
    record {
      within = λ a b edge. (let lt : b < length parts = below-at (length parts) (get_or (links_of targets texts) a []) edge.0 b (links-below (length parts) targets texts a (all-targets-below names parts texts [] tt)) edge.1 edge.2 in omega arith);
      small = omega arith;
    }

-- the same as it is read
pub read_links_graph : (names files : List (List ℕ)) (texts : List Text) (targets : Targets) (links edges : List (List ℕ)) → length files ≡ length texts → length texts < 2 ^ 32
    → targets ≡ with_targets_of names (map last_part files) [] texts → links ≡ links_of targets texts → edges ≡ links → IsGraph edges
read_links_graph names files texts targets links edges count small named linked same =
    let e : edges ≡ links_of (with_targets_of names (map last_part files) [] texts) texts = same ∙ linked ∙ ap (λ (t : Targets). links_of t texts) named in
    subst (λ (l : List (List ℕ)). IsGraph l) (sym e) (links_graph names files texts count small)
