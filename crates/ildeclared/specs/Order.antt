-- Which of two faults is reported: the one at the lesser place, and there the one with the lesser cause (profile).
use Rattle.std.specs.Prelude.{Option, Some, None, Bool, ◌&&◌, ◌||◌, ◌==◌, nat_lt, if◌then◌else◌}
use Rattle.ildeclared.specs.Causes.{name_fault_number}
use Rattle.ildeclared.specs.declared.found.Found.{Found}

-- the first is reported before the second
abbrev pub comes_before : Found → Found → Bool
comes_before f g = nat_lt f.at g.at ||
    ((f.at == g.at) && nat_lt (name_fault_number f.cause) (name_fault_number g.cause))

-- the one that is reported of what was found in two parts
abbrev pub lesser_of_two : Option Found → Option Found → Option Found
lesser_of_two one None = one
lesser_of_two None (Some other) = Some other
lesser_of_two (Some one) (Some other) = Some (if comes_before other one then other else one)
