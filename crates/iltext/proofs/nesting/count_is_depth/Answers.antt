use Rattle.iltext.proofs.Following.{one_more}
use Rattle.iltext.proofs.Texts.{count_is, has_depth}
use Rattle.iltext.proofs.nesting.count_is_depth.Goals as goal

pub returns : goal.returns
returns c = record { counted = count_is; inside = has_depth; opens = one_more }
