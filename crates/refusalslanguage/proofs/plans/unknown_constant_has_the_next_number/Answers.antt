use Rattle.std.proofs.Common.{◌∙◌, List, pos, ap}
use Rattle.std.specs.List.{position_or_len}
use Rattle.iltypes.specs.declared.value.Value.{Value}
use Rattle.iltypes.specs.declared.value.Value.TheVariants.{Int}
use Rattle.ilplan.specs.Constants.{same_value}
use Rattle.refusalslanguage.proofs.plans.unknown_constant_has_the_next_number.Goals as goal

pub returns : goal.returns
returns c =
    c.number_of.ensures.value ∙ ap (λ (known : List Value). position_or_len (same_value (Int (pos 5))) known) c.requires
