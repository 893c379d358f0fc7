use Rattle.std.proofs.Common.{[], ◌∷◌}
use Rattle.ilcodefile.specs.declared.fault.FileCause.TheVariants.{Magic}
use Rattle.refusalscode.proofs.FileFaults.{other_head, refused_with}
use Rattle.refusalscode.proofs.files.wrong_head_is_reported.Goals as goal

pub returns : goal.returns
returns c =
    refused_with (88 ∷ []) Magic c.decode.result other_head (λ shape. other_head shape.head.0) c.decode.ensures.found
    c.decode.ensures.fault
