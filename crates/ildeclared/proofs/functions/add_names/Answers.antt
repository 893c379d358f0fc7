use Rattle.std.proofs.Common.{◌∙◌, ◌++◌}
use Rattle.ilsource.specs.Programs.{DeclaredNames}
use Rattle.ildeclared.proofs.Collected.{those_added, those_of_all_added}
use Rattle.ildeclared.proofs.functions.add_names.Goals as goal

pub loop-declaration-preserved : goal.loop-declaration-preserved
loop-declaration-preserved c =
    those_added (λ (d : DeclaredNames). d.names) c.args.declarations.now c.loop-declaration.declaration-index
    c.declaration-item.result c.args.names.now.items c.loop-declaration.names.items c.extend_from_slice.new.self.items
    c.loop-declaration-test.true c.declaration-item.is c.loop-declaration.invariant
    (c.in_ok-extend_from_slice.ensures.items ∙ (λ i. c.loop-declaration.names.items ++ c.names.ensures i))

pub returns : goal.returns
returns c =
    those_of_all_added (λ (d : DeclaredNames). d.names) c.args.declarations.now c.loop-declaration.declaration-index
    c.args.names.now.items c.loop-declaration.names.items c.loop-declaration-test.false c.loop-declaration.invariant
