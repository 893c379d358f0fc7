use Rattle.std.proofs.Common.{sym}
use Rattle.ilsource.proofs.Spelled.{spelled_back}
use Rattle.ilsource.proofs.nested.Nested.new.Goals as goal

pub invariant_of-result : goal.invariant_of-result
invariant_of-result g c = spelled_back c.args.pieces.items c.requires.0 (record { is = c.requires.1 })

pub returns : goal.returns
returns g c = sym (spelled_back c.args.pieces.items c.requires.0 (record { is = c.requires.1 }))
