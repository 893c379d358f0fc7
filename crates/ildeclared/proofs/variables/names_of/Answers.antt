use Rattle.std.proofs.Common.{◌∙◌, ◌++◌, List, ap}
use Rattle.std.specs.Prelude.{flat_map}
use Rattle.ilsource.specs.Programs.{DeclaredNames}
use Rattle.ildeclared.proofs.Collected.{those_more, those_of_all}
use Rattle.ildeclared.proofs.variables.names_of.Goals as goal

pub loop-declaration-preserved : goal.loop-declaration-preserved
loop-declaration-preserved c =
    those_more (λ (d : DeclaredNames). d.names) c.declarations-declaration-items.result.now
    c.loop-declaration.declaration-index c.declaration-item.result c.loop-declaration.names.items
    c.extend_from_slice.new.self.items c.loop-declaration-test.true c.declaration-item.is c.loop-declaration.invariant
    (c.in_ok-extend_from_slice.ensures.items ∙ (λ i. c.loop-declaration.names.items ++ c.names.ensures i))

pub returns : goal.returns
returns c =
    those_of_all (λ (d : DeclaredNames). d.names) c.declarations-declaration-items.result.now
    c.loop-declaration.declaration-index c.loop-declaration.names.items c.loop-declaration-test.false
    c.loop-declaration.invariant
    ∙ ap (λ (ds : List DeclaredNames). flat_map (λ (d : DeclaredNames). d.names) ds)
    c.declarations-declaration-items.ensures
