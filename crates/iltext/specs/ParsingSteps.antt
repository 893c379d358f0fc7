-- What the private functions of the parser return.
use Rattle.std.specs.Prelude.{◌≡◌, ℕ, ◌-◌, List, length, take, Option, Result, Ok, Err, ⊤}
use Rattle.iltokens.specs.Stops.{whole_read}
use Rattle.ilsource.specs.Configurations.{Configured}
use Rattle.ilsource.specs.declared.source.Element.{Element}
use Rattle.ilsource.specs.SourceTrees.{Tree}
use Rattle.iltext.specs.declared.token.Token.{Token}
use Rattle.iltext.specs.declared.fault.TextFault.{TextFault}
use Rattle.iltext.specs.declared.fault.TextFault.TheVariants as faults
use Rattle.iltext.specs.Faults.{Reports}
use Rattle.iltext.specs.Texts.{text}

-- what reading the tokens gives, of bytes that they were cut from
abbrev pub IsParsed : List ℕ → List Token → Result Tree TextFault → Type 0
IsParsed bytes tokens (Ok tree) =
    (tree.text ≡ bytes) × (whole_read text tokens ≡ Ok (tree.elements, tree.configuration))
IsParsed bytes tokens (Err faults.Memory) = ⊤
IsParsed bytes tokens (Err (faults.At line col cause)) =
    (rest : List Token) × (whole_read text tokens ≡ Err rest)
    × Reports bytes (take (length tokens - length rest) tokens) rest (faults.At line col cause)

abbrev pub IsSourceOf : List ℕ → List Element → Option Configured → Result Tree TextFault → Type 0
IsSourceOf bytes elements configuration (Ok tree) =
    (tree.text ≡ bytes) × (tree.elements ≡ elements) × (tree.configuration ≡ configuration)
IsSourceOf bytes elements configuration (Err faults.Memory) = ⊤
IsSourceOf bytes elements configuration (Err (faults.At line col cause)) = ⊥
