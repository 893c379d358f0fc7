use Rattle.std.proofs.Common.{arith}
use Rattle.ilcodefile.specs.declared.fault.FileCause.TheVariants.{Cut}
use Rattle.refusalscode.proofs.FileFaults.{half_a_function, with_half_a_function, refused_with}
use Rattle.refusalscode.proofs.files.function_has_16_bytes.Goals as goal

pub returns : goal.returns
returns c =
    refused_with with_half_a_function Cut c.decode.result half_a_function (λ shape. let long = shape.long in omega arith) c.decode.ensures.found
    c.decode.ensures.fault
