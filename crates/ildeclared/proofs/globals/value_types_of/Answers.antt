use Rattle.std.proofs.Common.{◌∙◌, ◌++◌, map, ap}
use Rattle.ilsource.specs.declared.declaration.Specification.{Specification}
use Rattle.ildeclared.specs.Declarations.{values_of}
use Rattle.ildeclared.specs.Globals.{type_of_each, value_types_in}
use Rattle.ildeclared.specs.Kept.{types_in}
use Rattle.ildeclared.proofs.Collected.{those_more, those_of_all}
use Rattle.ildeclared.proofs.globals.value_types_of.Goals as goal

pub loop-declaration-preserved : goal.loop-declaration-preserved
loop-declaration-preserved c =
    let types = types_in c.args.lower.now c.args.types.now in
    let before = c.loop-declaration.value_types.items in
    let type = c.values_of-value_type.ensures
    ∙ ap (λ (s : Specification). values_of types s) c.specification.ensures.value
    in
    those_more (value_types_in types) c.args.declarations.now
    c.loop-declaration.declaration-index c.declaration-item.result before c.add_value_types.new.value_types.items
    c.loop-declaration-test.true c.declaration-item.is c.loop-declaration.invariant
    (c.in_ok-add_value_types.ensures ∙ (λ i. before ++ map (type_of_each (type i)) (c.names.ensures.value i)))

pub returns : goal.returns
returns c =
    those_of_all (value_types_in (types_in c.args.lower.now c.args.types.now)) c.args.declarations.now
    c.loop-declaration.declaration-index c.loop-declaration.value_types.items c.loop-declaration-test.false
    c.loop-declaration.invariant
