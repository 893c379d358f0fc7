-- How faults are printed (profile).
use Rattle.std.specs.Prelude.{ℕ, List, codes}
use Rattle.wordlines.specs.LineFaults.{printed_fault}
use Rattle.wordlines.specs.Bindings.{BindFault}

-- a fault of a binding
abbrev pub printed_bind_fault : BindFault → List ℕ
printed_bind_fault fault = printed_fault (codes "bind") fault
