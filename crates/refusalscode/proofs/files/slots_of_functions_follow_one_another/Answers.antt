use Rattle.std.proofs.Common.{◌≡◌, ℕ, ◌+◌, Some, slice_get}
use Rattle.ilcode.specs.Listings.{slots_end}
use Rattle.ilcode.specs.declared.function.FunctionBody.{FunctionBody}
use Rattle.ilcodefile.specs.Files.{IsFileOf}
use Rattle.refusalscode.proofs.Results.{if_ok}
use Rattle.refusalscode.proofs.files.slots_of_functions_follow_one_another.Goals as goal

pub returns : goal.returns
returns c =
    if_ok (IsFileOf c.args.bytes.now) (λ code. (number : ℕ) (f : FunctionBody)
    → slice_get code.functions number ≡ Some f → f.first + f.slots ≡ slots_end code (number + 1)) c.decode.result
    c.decode.ensures.found (λ code is. λ number f at.
    (is.0.lawful.functions.each number f at).slots)
