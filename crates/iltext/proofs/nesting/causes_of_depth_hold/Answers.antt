use Rattle.iltext.proofs.Causes.{none_too_deep, only_port}
use Rattle.iltext.proofs.nesting.causes_of_depth_hold.Goals as goal

pub returns : goal.returns
returns c = record { too_deep = none_too_deep; not_nested = only_port }
