use Rattle.std.proofs.Common.{arith}
use Rattle.ilcodefile.specs.declared.fault.FileCause.TheVariants.{Trailing}
use Rattle.refusalscode.proofs.FileFaults.{byte_more, with_a_byte_more, refused_with}
use Rattle.refusalscode.proofs.files.byte_after_the_end_is_reported.Goals as goal

pub returns : goal.returns
returns c =
    refused_with with_a_byte_more Trailing c.decode.result byte_more (λ shape. let long = shape.long in let more = byte_more.3 in omega arith) c.decode.ensures.found
    c.decode.ensures.fault
