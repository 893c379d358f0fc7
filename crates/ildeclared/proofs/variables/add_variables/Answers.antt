use Rattle.std.proofs.Common.{◌∙◌, [], ◌∷◌, ◌++◌}
use Rattle.ildeclared.specs.Declarations.{variable}
use Rattle.ildeclared.proofs.Collected.{each_more, each_of_all}
use Rattle.ildeclared.proofs.variables.add_variables.Goals as goal

pub loop-name-preserved : goal.loop-name-preserved
loop-name-preserved c =
    each_more (variable c.args.declared) c.args.names.now c.loop-name.name-index
    (record { from = 0; to = 0 }) c.args.variables.now.items c.loop-name.variables.items c.push.new.self.items
    c.loop-name-test.true c.loop-name.invariant
    (c.in_ok-push.ensures.items ∙ (λ i. c.loop-name.variables.items ++ c.variable_of.ensures i ∷ []))

pub returns : goal.returns
returns c =
    each_of_all (variable c.args.declared) c.args.names.now c.loop-name.name-index
    c.args.variables.now.items c.loop-name.variables.items c.loop-name-test.false c.loop-name.invariant
