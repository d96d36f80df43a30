-- The tree of few tokens is small: what the grammar's laws say of sizes, as tests.
use Rattle.std.proofs.Common.{◌≡◌, ℕ, ◌+◌, ◌≤◌, Bool, true, List, [], ◌∷◌, Some, None, length, refl, sym, ◌∙◌, arith, sum_by}
use Rattle.std.specs.Prelude.{All, nat_le}
use Rattle.std.specs.List.{flat_map, list_all}
use Rattle.std.proofs.lemmas.Bool.{le-leb, lt-ltb}
use Rattle.std.proofs.lemmas.List.Sums.{sum_by-append, sum_by-cons}
use Rattle.std.proofs.lemmas.List.Concat.{flat_map-cons}
use Rattle.std.proofs.lemmas.List.Elements.{All-head, All-tail}
use Rattle.std.proofs.lemmas.List.Folds.{list_all-append}
use Rattle.rml_base.specs.declared.limits.TheConstants.{BYTES}
use Rattle.rml_syntax.specs.declared.rules.Rule.{Rule}
use Rattle.rml_syntax.specs.declared.types.ConBind.{ConBind}
use Rattle.rml_syntax.specs.declared.types.DataBind.{DataBind}
use Rattle.rml_syntax.specs.declared.token.Spot.{Spot}
use Rattle.rml_syntax.specs.declared.texts.Decl.{Decl}
use Rattle.rml_syntax.specs.declared.texts.Decl.TheVariants as decl
use Rattle.rml_syntax.specs.declared.texts.Text.{Text}
use Rattle.rml_base.specs.declared.place.Place.{Place}
use Rattle.rml_grammar.specs.Sizes.{HasPartsBelow, IsSmallRule, constructors_in, declarations, exp_size, rules_in, weight}
use Rattle.rml_grammar.specs.SpelledTexts.{Derives}
use Rattle.rml_grammar.proofs.Callers.{text-size}
use Rattle.rml_whole.specs.Sizes.{con_is_small, decl_is_small, decl_weight, rule_is_small, text_is_small}
use Rattle.rml_whole_trees.proofs.Words.{and-left, and-right, cons-of}

-- what follows of each element, of all
each : {X : Type 0} (P : X → Type 0) (f : X → Bool) → ((x : X) → P x → f x ≡ true) → (xs : List X) → All P xs → list_all f xs ≡ true
each P f tells [] h = refl
each P f tells (x ∷ xs) h = cons-of f x xs (tells x (All-head P x xs h)) (each P f tells xs (All-tail P x xs h))

rule-small : (r : Rule) → IsSmallRule r → rule_is_small r ≡ true
rule-small r h = lt-ltb _ _ h

-- the constructors of a datatype, binding by binding
bindings-small : (ds : List DataBind) → list_all con_is_small (flat_map (λ (d : DataBind). d.cons) ds) ≡ true → list_all (λ (d : DataBind). list_all con_is_small d.cons) ds ≡ true
bindings-small [] h = refl
bindings-small (d ∷ ds) h =
    let cut = sym (list_all-append con_is_small d.cons (flat_map (λ (d : DataBind). d.cons) ds)) ∙ rw (sym (flat_map-cons (λ (d : DataBind). d.cons) d ds)) h in
    cons-of (λ (d : DataBind). list_all con_is_small d.cons) d ds (and-left _ _ cut) (bindings-small ds (and-right _ _ cut))

module _ (m : ℕ) (few : m ≤ BYTES) where
  con-small : (c : ConBind) → HasPartsBelow m c → con_is_small c ≡ true
  con-small c h = lt-ltb _ _ (omega (arith, h, few))

  decl-small : (d : Decl) → All IsSmallRule (rules_in d) → All (HasPartsBelow m) (constructors_in d) → decl_is_small d ≡ true
  decl-small (decl.Datatype ds) r c = bindings-small ds (each (HasPartsBelow m) con_is_small con-small (flat_map (λ (d : DataBind). d.cons) ds) c)
  decl-small (decl.Abbrev h t) r c = refl
  decl-small (decl.Abstype h) r c = refl
  decl-small (decl.Val n p t e) r c = refl
  decl-small (decl.Relation n p s rs) r c = each IsSmallRule rule_is_small rule-small rs r

  decls-small : (ds : List Decl) → All (λ d. All IsSmallRule (rules_in d)) ds → All (λ d. All (HasPartsBelow m) (constructors_in d)) ds → list_all decl_is_small ds ≡ true
  decls-small [] r c = refl
  decls-small (d ∷ ds) r c =
      let one = decl-small d (All-head (λ d. All IsSmallRule (rules_in d)) d ds r) (All-head (λ d. All (HasPartsBelow m) (constructors_in d)) d ds c) in
      let more = decls-small ds (All-tail (λ d. All IsSmallRule (rules_in d)) d ds r) (All-tail (λ d. All (HasPartsBelow m) (constructors_in d)) d ds c) in
      cons-of decl_is_small d ds one more

-- the two say one weight
one-weight : (d : Decl) → decl_weight d ≡ weight d
one-weight (decl.Datatype ds) = omega arith
one-weight (decl.Abbrev h t) = omega arith
one-weight (decl.Abstype h) = omega arith
one-weight (decl.Val n p t None) = omega arith
one-weight (decl.Val n p t (Some e)) = omega (arith, sum_by-cons exp_size e [])
one-weight (decl.Relation n p s rs) = omega arith

weights : (ds : List Decl) → sum_by decl_weight ds ≡ sum_by weight ds
weights [] = refl
weights (d ∷ ds) = omega (arith, sum_by-cons decl_weight d ds, sum_by-cons weight d ds, one-weight d, weights ds)

pub text-small : (end : Place) (us : List Spot) (t : Text) → length us ≤ BYTES → Derives end us t → text_is_small t ≡ true
text-small end us t few h =
    let s = text-size h in
    let small = sym (list_all-append decl_is_small t.specs t.decls) ∙ decls-small (length us) few (declarations t) s.rules s.constructors in
    let light : nat_le (sum_by decl_weight t.specs + sum_by decl_weight t.decls) BYTES ≡ true =
    le-leb _ _ (omega (arith, weights t.specs, weights t.decls, sum_by-append weight t.specs t.decls, s.weighs, few)) in
    let above : list_all decl_is_small t.specs ≡ true = and-left _ _ small in
    let below : list_all decl_is_small t.decls ≡ true = and-right _ _ small in
    rw (above, below, light) refl
