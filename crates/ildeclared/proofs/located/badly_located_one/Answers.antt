use Rattle.std.proofs.Common.{◌≡◌, rules}
use Rattle.std.specs.Prelude.{IsTrue}
use Rattle.ildeclared.specs.Faults.{IsBadlyLocatedIn}
use Rattle.ildeclared.specs.Kept.{types_in}
use Rattle.ildeclared.specs.declared.fault.NameCause.TheVariants.{BadDeclaration}
use Rattle.ildeclared.proofs.OneCause.{found_same}
use Rattle.ildeclared.proofs.located.badly_located_one.Goals as goal

pub returns : goal.returns
returns c =
    found_same c.args.after BadDeclaration (λ place. IsTrue c.is_other_area-other.result ×
    (place ≡ c.in_ok-name.name.now.from))
    (λ place. IsBadlyLocatedIn (types_in c.args.lower.now c.args.types.now) place c.args.global.now)
    c.found_where.result
    (λ place. search rules) c.found_where.ensures
