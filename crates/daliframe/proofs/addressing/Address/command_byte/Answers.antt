use Rattle.std.proofs.Common.{◌∙◌, ap, bit_or}
use Rattle.daliframe.proofs.Selectors.{address_byte-selected}
use Rattle.daliframe.proofs.addressing.Address.command_byte.Goals as goal

pub returns-clause-value : goal.returns-clause-value
returns-clause-value c = ap (λ n. bit_or n 1) c.level_byte.ensures.value ∙ address_byte-selected c.args.self
