use Rattle.std.proofs.Common.{refl, ◌∙◌}
use Rattle.ildeclared.specs.Declarations.{function_names}
use Rattle.ilscope.proofs.FilledTables.{moved_twice}
use Rattle.ilscope.proofs.function_tables.own_name_given_twice.Goals as goal

pub returns : goal.returns
returns c =
    moved_twice c.args.after c.args.lower.now c.args.lower.now c.deref.result.now (function_names c.args.function.now)
    c.in_ok-twice.twice refl (c.deref.ensures.value ∙ c.in_ok-names.ensures) c.in_ok-twice.ensures.twice
