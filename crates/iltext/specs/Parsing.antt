-- Texts and their source programs.
use Rattle.std.specs.Prelude.{◌≡◌, ℕ, ◌≤◌, ◌<◌, List, ◌⊎◌, length, Result, Ok, Err, ⊤}
use Rattle.iltokens.specs.Stops.{StopsBefore}
use Rattle.limits.specs.Limits.{most_bytes}
use Rattle.ilsource.specs.SourceTrees.{Tree}
use Rattle.iltext.specs.declared.token.Token.{Token}
use Rattle.iltext.specs.declared.fault.TextFault.{TextFault}
use Rattle.iltext.specs.declared.fault.TextFault.TheVariants as faults
use Rattle.iltext.specs.declared.fault.TextCause.TheVariants.{TooLong}
use Rattle.iltext.specs.Cutting.{Cuts}
use Rattle.iltext.specs.Faults.{Reports}
use Rattle.iltext.specs.Texts.{text}

-- the bytes spell the source program: their tokens are those of its types, functions and programs and of its
-- configuration
pub record IsText (bytes : List ℕ) (tree : Tree) : Type 0 where
  pub short : length bytes ≤ most_bytes
  pub same : tree.text ≡ bytes
  pub tokens : List Token
  pub cut : Cuts bytes 0 tokens
  pub whole : text.whole tokens (tree.elements, tree.configuration)

-- the source program is answered, or memory ran out
abbrev pub IsReadAs : Tree → Result Tree TextFault → Type 0
IsReadAs tree (Ok source) = source ≡ tree
IsReadAs tree (Err faults.Memory) = ⊤
IsReadAs tree (Err (faults.At line col cause)) = ⊥

-- the fault is that of the first token such that the tokens up to and including it are no front of a text
pub record IsFirstFault (bytes : List ℕ) (fault : TextFault) : Type 0 where
  pub short : length bytes ≤ most_bytes
  pub tokens : List Token
  pub cut : Cuts bytes 0 tokens
  pub before : List Token
  pub rest : List Token
  pub stops : StopsBefore text tokens before rest
  pub reports : Reports bytes before rest fault

-- a text that is too long is refused at its first byte
abbrev pub IsTooLong : List ℕ → TextFault → Type 0
IsTooLong bytes fault = (most_bytes < length bytes) × (fault ≡ faults.At 1 1 TooLong)

-- a fault of the text
abbrev pub IsTextFault : List ℕ → TextFault → Type 0
IsTextFault bytes fault = IsTooLong bytes fault ⊎ IsFirstFault bytes fault

abbrev pub IsFault : List ℕ → TextFault → Type 0
IsFault bytes faults.Memory = ⊤
IsFault bytes (faults.At line col cause) = IsTextFault bytes (faults.At line col cause)
