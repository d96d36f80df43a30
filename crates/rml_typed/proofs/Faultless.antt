-- Programs that are typed have no fault.
use Rattle.std.proofs.Common.{◌≡◌, ℕ, suc, ◌<◌, ◌≤◌, ap, arith, length}
use Rattle.rml_base.specs.declared.limits.TheConstants.{TYPES}
use Rattle.rml_base.specs.declared.place.Place.{Place}
use Rattle.rml_types.specs.Finite.{nodes}
use Rattle.rml_types.specs.Instances.{IsInstance}
use Rattle.rml_types.specs.Schemes.{inst}
use Rattle.rml_types.proofs.Callers.{body-instance, widens}
use Rattle.rml_resolved.specs.declared.parts.Parts.{Parts}
use Rattle.rml_typed.specs.declared.answers.TypeErr.{TypeErr}
use Rattle.rml_typed.specs.Parts.{pieces}
use Rattle.rml_typed.specs.Units.{up_to, outside}
use Rattle.rml_typed.specs.Untyped.{IsFault, Rank, TooWideAt}
use Rattle.rml_typed.specs.Checked.{IsTyped, HasNarrowType}
use Rattle.rml_typed.proofs.Fewer.{group-fewer, declared-fewer}

-- a general type has no more nodes than another of the same relation, since it is one of the types of which that is general
not-wide : (p : Parts) (text : ℕ) (place : Place) (u : TooWideAt p text place) → HasNarrowType p text u.r → ⊥
not-wide p text place u n =
    let type_of_it : outside p text u.r n.body = (n.general n.body).0 (body-instance n.body) in
    let i : IsInstance u.body n.body = (u.general n.body).1 type_of_it in
    let w : nodes u.body ≤ nodes (inst i.0 u.body) = widens i.0 u.body in
    let e : nodes n.body ≡ nodes (inst i.0 u.body) = ap nodes i.1 in
    let few : nodes n.body ≤ TYPES = n.narrow in
    let many : TYPES < nodes u.body = u.wide in
    omega arith

pub no-fault : (p : Parts) (at : Rank) (e : TypeErr) → IsTyped p → IsFault p at e → ⊥
no-fault p at e typed (IsFault.group text place part u) =
    let types = typed.groups text in
    u.least.not_with_it (types.0, group-fewer p text types.0 (up_to place (suc u.has.number)) (λ rule. length (pieces rule)) (λ rule k a b. b) types.1)
no-fault p at e typed (IsFault.wide text place u) = not-wide p text place u (typed.narrow text u.r u.group)
no-fault p at e typed (IsFault.rule text place part u) =
    u.least.not_with_it (declared-fewer p u.rel u.scheme u.rule (suc u.has.number) (length (pieces u.rule)) (let within = u.has.within in omega arith) (typed.rules u.r u.rel u.scheme u.rule u.there u.declared u.among))
no-fault p at e typed (IsFault.val text place u) = u.never (typed.vals u.v u.val u.there)
