use Rattle.ilcodefile.specs.declared.fault.FileCause.TheVariants.{Magic}
use Rattle.refusalscode.proofs.FileFaults.{third, version_3, refused_with}
use Rattle.refusalscode.proofs.files.version_3_is_refused.Goals as goal

pub returns : goal.returns
returns c =
    refused_with third Magic c.decode.result version_3 (λ shape. version_3 shape.head.0) c.decode.ensures.found
    c.decode.ensures.fault
