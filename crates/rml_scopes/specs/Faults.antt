-- The order of faults, by place and then by number, and the least of some.
use Rattle.std.specs.Prelude.{◌≡◌, ℕ, Bool, false, ◌&&◌, ◌||◌, not, nat_lt, List, [], ◌∷◌, Contains, Option, None, Some, if◌then◌else◌}
use Rattle.rml_base.specs.Order.{is_before}
use Rattle.rml_scopes.specs.declared.fault.Found.{Found}
use Rattle.rml_scopes.specs.declared.fault.ModFault.{ModFault}
use Rattle.rml_scopes.specs.declared.fault.ModFault.TheVariants as fault

abbrev pub number_of : ModFault → ℕ
number_of fault.DuplicateModule = 1
number_of fault.NoSuchText = 2
number_of fault.CircularInterfaces = 3
number_of fault.DuplicateName = 4
number_of fault.UnknownName = 5
number_of fault.WrongCount = 6
number_of fault.RepeatedVariable = 7
number_of fault.Rebound = 8
number_of fault.NotDefined = 9
number_of fault.InterfaceMismatch = 10
number_of fault.NoMain = 11

-- the first stands before the second, or at its place and has a lesser number
unfoldable pub comes_first : Found → Found → Bool
comes_first a b = is_before a.place b.place || (not (is_before b.place a.place) && nat_lt (number_of a.fault) (number_of b.fault))

-- a fault is one of some, and none of them comes before it
pub record IsLeast (found : Found) (faults : List Found) : Type 0 where
  pub among : Contains faults found
  pub first : (other : Found) → Contains faults other → comes_first other found ≡ false

-- the least of some faults, as it is found

abbrev pub lesser : Option Found → Found → Option Found
lesser None b = Some b
lesser (Some a) b = if comes_first b a then Some b else Some a

abbrev pub lesser_of : Option Found → List Found → Option Found
lesser_of a [] = a
lesser_of a (b ∷ bs) = lesser_of (lesser a b) bs

abbrev pub least_of : List Found → Option Found
least_of = lesser_of None
