use Rattle.std.proofs.Common.{pos}
use Rattle.iltypes.specs.declared.value.Value.TheVariants.{Int}
use Rattle.refusalscode.proofs.known.number_beyond_the_type_is_refused.Goals as goal

pub returns-in-Ok : goal.returns-in-Ok
returns-in-Ok c =
    c.in-Ok.ensures.known.some (Int (pos 300)) (record { low = record { le = tt }; high = record { le = tt } })
