-- What is typed stays so with fewer parts.
use Rattle.std.proofs.Common.{◌≡◌, inl, inr, ℕ, ◌<◌, ◌≤◌, Bool, true, false, List, length, take, get_or, if◌then◌else◌, sym, subst, refl, ◌∙◌, arith}
use Rattle.std.specs.Prelude.{All}
use Rattle.std.proofs.lemmas.List.{length-take, get_or-take}
use Rattle.rml_base.specs.declared.place.Place.{Place}
use Rattle.rml_base.specs.Order.{is_before}
use Rattle.rml_resolved.specs.declared.parts.Parts.{Parts}
use Rattle.rml_resolved.specs.declared.tables.RelDef.{RelDef}
use Rattle.rml_resolved.specs.declared.tables.RRule.{RRule}
use Rattle.rml_types.specs.declared.scheme.Scheme.{Scheme}
use Rattle.rml_typed.specs.Typed.{Declared, Uses}
use Rattle.rml_typed.specs.Parts.{RelType, pieces, PieceOf, FirstTyped}
use Rattle.rml_typed.specs.Units.{GroupTypes, GroupFirstTyped, GroupCanBeTyped, up_to, alone, declared, declared_type, DeclaredFirstTyped, Used, inside}
use Rattle.rml_typed.specs.Untyped.{IsNotPast}
use Rattle.rml_base.proofs.Callers.{before-follows}

-- of a list each of the first m items is among the first n
abbrev pub Within : ℕ → ℕ → ℕ → Type 0
Within m n count = (k : ℕ) → k < m → k < count → k < n

pub All-fewer : {X : Type 0} (P : X → Type 0) (xs : List X) (m n : ℕ) → Within m n (length xs) → All P (take n xs) → All P (take m xs)
All-fewer {X} P xs m n within all k d lt = there (omega (arith, length-take m xs)) (omega (arith, length-take m xs))
  where
    there : k < m → k < length xs → P (get_or (take m xs) k d)
    there here inside =
        let less : k < n = within k here inside in
        let among : k < length (take n xs) = omega (arith, length-take n xs) in
        subst P (get_or-take n xs k d less ∙ sym (get_or-take m xs k d here)) (all k d among)

pub first-fewer : (d : Declared) (uses : Uses) (t : RelType) (rule : RRule) (m n : ℕ) → Within m n (length (pieces rule)) → FirstTyped d uses t rule n → FirstTyped d uses t rule m
first-fewer d uses t rule m n within h = (h.0, All-fewer (PieceOf d uses t h.0) (pieces rule) m n within h.1)

pub declared-fewer : (p : Parts) (rel : RelDef) (s : Scheme) (rule : RRule) (m n : ℕ) → m ≤ n → DeclaredFirstTyped p rel s rule n → DeclaredFirstTyped p rel s rule m
declared-fewer p rel s rule m n le = first-fewer (declared p rel.«module») (alone p rel.place.text rel.«module») (declared_type p rel s) rule m n (λ k a b. omega arith)

pub group-fewer : (p : Parts) (text : ℕ) (S : GroupTypes) (few many : RRule → ℕ) → ((rule : RRule) → Within (few rule) (many rule) (length (pieces rule))) → GroupFirstTyped p text S many → GroupFirstTyped p text S few
group-fewer p text S few many within h r g rule among =
    first-fewer (declared p g.rel.«module») (Used p text g.rel.«module» (inside S)) (S r) rule (few rule) (many rule) (within rule) (h r g rule among)

at-one-place : (before after : Bool) (count m n : ℕ) → m ≤ n
    → Within (if before then 0 else if after then count else m) (if before then 0 else if after then count else n) count
at-one-place true after count m n le k a b = a
at-one-place false true count m n le k a b = a
at-one-place false false count m n le k a b = omega arith

-- before the earlier place there is nothing, and what stands at it or before it stands before the later one
at-earlier-place : (bq qb aq qa : Bool) (count m n : ℕ) → (bq ≡ false → (qa ≡ true) × (aq ≡ false))
    → Within (if bq then 0 else if qb then count else m) (if aq then 0 else if qa then count else n) count
at-earlier-place true qb aq qa count m n rest k a b = absurd (omega arith)
at-earlier-place false qb aq qa count m n rest k a b =
    let both = rest refl in
    subst (λ (z : Bool). k < (if z then 0 else if qa then count else n)) (sym both.1) (subst (λ (z : Bool). k < (if z then count else n)) (sym both.0) b)

up-to-within : (earlier place : Place) (m n : ℕ) → IsNotPast earlier m place n → (rule : RRule) → Within (up_to earlier m rule) (up_to place n rule) (length (pieces rule))
up-to-within earlier place m n (inl before) rule =
    at-earlier-place (is_before earlier rule.place) (is_before rule.place earlier) (is_before place rule.place) (is_before rule.place place) (length (pieces rule)) m n (before-follows earlier place rule.place before)
up-to-within earlier place m n (inr same) rule =
    subst (λ (q : Place). Within (up_to q m rule) (up_to place n rule) (length (pieces rule))) (sym same.0)
    (at-one-place (is_before place rule.place) (is_before rule.place place) (length (pieces rule)) m n same.1)

pub group-parts-fewer : (p : Parts) (text : ℕ) (earlier place : Place) (m n : ℕ) → IsNotPast earlier m place n → GroupCanBeTyped p text place n → GroupCanBeTyped p text earlier m
group-parts-fewer p text earlier place m n past h = (h.0, group-fewer p text h.0 (up_to earlier m) (up_to place n) (up-to-within earlier place m n past) h.1)
