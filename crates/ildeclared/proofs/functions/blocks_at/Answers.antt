use Rattle.std.proofs.Common.{◌≡◌, rules}
use Rattle.std.specs.Prelude.{IsTrue}
use Rattle.ildeclared.specs.Faults.{AreBlocksIn}
use Rattle.ildeclared.specs.declared.fault.NameCause.TheVariants.{BadDeclaration}
use Rattle.ildeclared.proofs.OneCause.{found_same}
use Rattle.ildeclared.proofs.functions.blocks_at.Goals as goal

pub returns : goal.returns
returns c =
    found_same c.args.after BadDeclaration (λ place. IsTrue c.are_blocks.result × (place ≡ c.in_ok-name.name.now.from))
    (λ place. AreBlocksIn place c.args.declaration.now) c.found_where.result (λ place. search rules)
    c.found_where.ensures
