-- The search for the least part of a rule, by halving, and that part.
use Rattle.std.proofs.Common.{◌≡◌, ◌==◌, if◌then◌else◌, ℕ, zero, suc, ◌+◌, ◌<◌, ◌≤◌, Bool, true, false, refl, sym, ap, subst, ◌∙◌, arith, eq-eqb, eqb-true, ltb-true}
use Rattle.std.specs.Prelude.{length, nat_lt}
use Rattle.std.proofs.lemmas.Bool.Decides.{nat_tests}
use Rattle.rml_resolved.specs.declared.parts.Parts.{Parts}
use Rattle.rml_resolved.specs.declared.tables.RRule.{RRule}
use Rattle.rml_typed.specs.declared.answers.Part.{Part}
use Rattle.rml_typed.specs.declared.answers.Part.TheVariants.{Premise, Results}
use Rattle.rml_typed.specs.Parts.{part_at, pieces}
use Rattle.rml_typed.specs.Units.{GroupCanBeTyped}
use Rattle.rml_typed.specs.Untyped.{UntypedGroup}
use Rattle.rml_alone.proofs.Callers.{pieces-length}
use Rattle.rml_groups.specs.declared.spots.Spot.{Spot}
use Rattle.rml_groups.specs.Spots.{IsLeastAt, IsSpotOf, IsUntypedAt, part_by}
use Rattle.rml_groups.proofs.Carried.{in-group}

-- what comes before one part of a rule can be typed, and what comes before a later one cannot
pub record IsBetween (p : Parts) (text : ℕ) (rule : Spot) (typed untyped : ℕ) : Type 0 where
  pub less : typed < untyped
  pub before : GroupCanBeTyped p text rule.place typed
  pub never : GroupCanBeTyped p text rule.place untyped → ⊥

-- a rule has parts
has-parts : (p : Parts) (text : ℕ) (s : Spot) → IsSpotOf p.rels text s → 0 < s.parts
has-parts p text s o =
    let e : s.parts ≡ length (pieces o.rule) = ap (λ (x : Spot). x.parts) o.is in
    let l : length (pieces o.rule) ≡ length o.rule.goals + 2 = pieces-length o.rule o.rule.goals refl in
    omega arith

pub between-begun : (p : Parts) (text : ℕ) (s : Spot) → IsUntypedAt p text s → IsBetween p text s 0 s.parts
between-begun p text s u = record { less = has-parts p text s u.of; before = u.before; never = u.never }

pub between-ended : (p : Parts) (text : ℕ) (s : Spot) (typed untyped : ℕ) → IsUntypedAt p text s → untyped ≤ s.parts → untyped ≤ typed + 1 → IsBetween p text s typed untyped → IsLeastAt p text s typed
between-ended p text s typed untyped u within ended b =
    let l = b.less in
    let next : untyped ≡ suc typed = omega arith in
    record {
      of = u.of;
      within = omega arith;
      least = record { before = b.before; not_with_it = λ h. b.never (subst (GroupCanBeTyped p text s.place) (sym next) h) };
    }

-- ---- the part of a number

past-last : (k goals parts : ℕ) → parts ≡ goals + 2 → suc k < parts → nat_lt k goals ≡ false → (suc (suc k) == parts) ≡ false → ⊥
past-last k goals parts many lt e f =
    let le : goals ≤ k = grind (arith, nat_tests) in
    let same : (suc (suc k) == parts) ≡ true = eq-eqb (suc (suc k)) parts (omega arith) in
    cc

part-is : (rule : RRule) (parts number : ℕ) → parts ≡ length rule.goals + 2 → number < parts → part_at rule number ≡ part_by parts number
part-is rule parts zero many lt = refl
part-is rule parts (suc k) many lt = on (nat_lt k (length rule.goals)) (suc (suc k) == parts) refl refl where
  on : (a b : Bool) → nat_lt k (length rule.goals) ≡ a → (suc (suc k) == parts) ≡ b → (if a then Premise (k + 1) else Results) ≡ (if b then Results else Premise (suc k))
  on true true e f = (let l = ltb-true k (length rule.goals) e in let q = eqb-true (suc (suc k)) parts f in absurd (omega arith))
  on true false e f = ap Premise (omega arith)
  on false true e f = refl
  on false false e f = absurd (past-last k (length rule.goals) parts many lt e f)

pub untyped-at : (p : Parts) (text : ℕ) (s : Spot) (number : ℕ) (part : Part) → IsLeastAt p text s number → part ≡ part_by s.parts number → UntypedGroup p text s.place part
untyped-at p text s number part l is =
    let o = l.of in
    let lt = l.within in
    let whole : s.parts ≡ length (pieces o.rule) = ap (λ (x : Spot). x.parts) o.is in
    let many = pieces-length o.rule o.rule.goals refl in
    record {
      r = o.r;
      group = in-group p text o.r o.rel text refl o.there o.member;
      rule = o.rule;
      among = o.among;
      has = record { number = number; within = omega arith; is = part-is o.rule s.parts number (whole ∙ many) lt ∙ sym is; at = sym (ap (λ (x : Spot). x.place) o.is) };
      least = l.least;
    }
