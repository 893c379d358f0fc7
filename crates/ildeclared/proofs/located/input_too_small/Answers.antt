use Rattle.std.proofs.Common.{◌≡◌, rules}
use Rattle.std.specs.Prelude.{IsTrue}
use Rattle.ildeclared.specs.Faults.{IsInputTooSmallIn}
use Rattle.ildeclared.specs.Kept.{types_in}
use Rattle.ildeclared.specs.declared.fault.NameCause.TheVariants.{InputRangeTooSmall}
use Rattle.ildeclared.proofs.OneCause.{found_same}
use Rattle.ildeclared.proofs.located.input_too_small.Goals as goal

pub returns : goal.returns
returns c =
    found_same c.args.after InputRangeTooSmall (λ place. IsTrue c.lacks_input-lacks.result ×
    (place ≡ c.in_ok-address.address.at))
    (λ place. IsInputTooSmallIn (types_in c.args.lower.now c.args.types.now) place c.args.global.now)
    c.found_where.result
    (λ place. search rules) c.found_where.ensures
