use Rattle.std.proofs.Common.{◌∙◌, ◌++◌, map}
use Rattle.ildeclared.specs.Globals.{global, globals_in}
use Rattle.ildeclared.specs.Kept.{types_in}
use Rattle.ildeclared.proofs.Collected.{those_more, those_of_all}
use Rattle.ildeclared.proofs.globals.globals_of.Goals as goal

pub loop-declaration-preserved : goal.loop-declaration-preserved
loop-declaration-preserved c =
    let before = c.loop-declaration.globals.items in
    those_more (globals_in (types_in c.args.lower.now c.args.types.now)) c.args.declarations.now
    c.loop-declaration.declaration-index c.declaration-item.result before c.add_globals.new.globals.items
    c.loop-declaration-test.true c.declaration-item.is c.loop-declaration.invariant
    (c.in_ok-add_globals.ensures
    ∙ (λ i. before ++ map (global (c.address-address.ensures.value i) (c.global_type-declared.ensures i))
    (c.names.ensures.value i)))

pub returns : goal.returns
returns c =
    those_of_all (globals_in (types_in c.args.lower.now c.args.types.now)) c.args.declarations.now
    c.loop-declaration.declaration-index c.loop-declaration.globals.items c.loop-declaration-test.false
    c.loop-declaration.invariant
