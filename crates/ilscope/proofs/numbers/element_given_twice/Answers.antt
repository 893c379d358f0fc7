use Rattle.std.proofs.Common.{refl, ◌∙◌, map}
use Rattle.ilscope.specs.Declarations.{name_of}
use Rattle.ilscope.proofs.FilledTables.{moved_twice}
use Rattle.ilscope.proofs.numbers.element_given_twice.Goals as goal

pub returns : goal.returns
returns c =
    moved_twice c.args.after c.args.lower.now c.args.lower.now c.deref.result.now (map name_of c.args.elements.now)
    c.in_ok-twice.twice refl (c.deref.ensures.value ∙ c.in_ok-names.ensures) c.in_ok-twice.ensures.twice
