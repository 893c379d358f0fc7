use Rattle.std.proofs.Common.{◌≡◌, ◌∙◌, ℕ, List, [], refl, sym, ap}
use Rattle.std.specs.Prelude.{slice_index}
use Rattle.ilcode.specs.Listings.{Listing}
use Rattle.ilcodefile.specs.Files.{IsFileOf, file}
use Rattle.refusalscode.proofs.Results.{if_ok}
use Rattle.refusalscode.proofs.files.file_of_16_buses_is_of_version_1.Goals as goal

of_version : (code : Listing) → code.buses ≡ 16 → code.functions ≡ [] → slice_index (file code) 4 ≡ 1
of_version code buses functions = rw (buses, functions) refl

pub returns : goal.returns
returns c =
    let code = c.args.code.now in
    if_ok (λ bytes. IsFileOf bytes.items code) (λ bytes. slice_index bytes.items 4 ≡ 1) c.encode.result
    c.encode.ensures (λ bytes is.
    ap (λ (b : List ℕ). slice_index b 4) (sym is.1) ∙ of_version code c.requires.buses c.requires.functions)
