use Rattle.std.proofs.Common.{◌≤◌}
use Rattle.std.specs.List.{All}
use Rattle.ilcode.specs.Listings.{end_of}
use Rattle.ilcodefile.specs.Files.{IsFileOf}
use Rattle.refusalscode.proofs.Results.{if_ok}
use Rattle.refusalscode.proofs.files.programs_begin_before_functions.Goals as goal

pub returns : goal.returns
returns c =
    if_ok (IsFileOf c.args.bytes.now) (λ code. All (λ start. start ≤ end_of code 0) code.starts) c.decode.result
    c.decode.ensures.found (λ code is. is.0.lawful.functions.programs)
