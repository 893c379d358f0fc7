use Rattle.std.proofs.Common.{◌≡◌, drop}
use Rattle.std.specs.Prelude.{find}
use Rattle.plantevents.specs.Plants.{is_count_at}
use Rattle.plant.proofs.first_counts.first_count.Given as goal

-- no variable so far is located there
abbrev pub invariant-loop-global : goal.invariant-loop-global
invariant-loop-global l =
    find (λ g. is_count_at l.bus l.number g.location) (drop l.global l.plan.globals)
    ≡ find (λ g. is_count_at l.bus l.number g.location) l.plan.globals
