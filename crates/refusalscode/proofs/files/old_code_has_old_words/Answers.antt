use Rattle.std.proofs.Common.{◌≡◌, [], refl}
use Rattle.std.specs.List.{AllByRecursion}
use Rattle.ilcode.specs.Words.{IsOldWord}
use Rattle.ilcodefile.specs.Files.{IsFileOf}
use Rattle.refusalscode.proofs.Results.{if_ok}
use Rattle.refusalscode.proofs.files.old_code_has_old_words.Goals as goal

pub returns : goal.returns
returns c =
    if_ok (IsFileOf c.args.bytes.now) (λ code. code.buses ≡ 16 → code.functions ≡ []
    → AllByRecursion IsOldWord code.instructions) c.decode.result
    c.decode.ensures.found (λ code is. λ buses functions.
    is.0.lawful.old (rw (buses, functions) refl))
