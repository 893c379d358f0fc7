use Rattle.std.proofs.Common.{arith, sym, ◌∙◌}
use Rattle.ilsyms.proofs.NumberingPorts.{port_below}
use Rattle.ilsyms.specs.NumberingSteps.{program_at}
use Rattle.ilsyms.proofs.NumberingBodies.{is_there}
use Rattle.ilsyms.proofs.numbering.Numbering.port.Goals as goal

pub overflow_cast-result : goal.overflow_cast-result
overflow_cast-result c =
    let inside = c.self.inside in
    let tree = inside.scope.now.tree in
    let program = program_at tree inside.body in
    let here = is_there tree inside.body c.self.invariant.there in
    let is = sym (c.port_of.ensures program here) ∙ c.in-Some.is in
    let below = port_below tree.text program c.args.block c.args.port _ is in
    omega (arith, below, c.in-Some.number-is)
