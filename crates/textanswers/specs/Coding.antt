-- The code file of a task of a text, and what is answered to bytes that may be a code file (profile).
use Rattle.std.specs.Prelude.{◌≡◌, ℕ, List, length, Option, Some, slice_get, ⊤}
use Rattle.wordlines.specs.Wirings.{Wiring}
use Rattle.ilcode.specs.Listings.{Listing}
use Rattle.ilcode.specs.Paths.{IsBound}
use Rattle.ilcodefile.specs.Faults.{IsFirst, IsShaped}
use Rattle.ilcodefile.specs.Files.{HasFile, file}
use Rattle.ilverify.specs.Certificates.{IsAccepted, IsRefusal}
use Rattle.ilverify.specs.Verdicts.{Accepted as AcceptedCode}
use Rattle.ilcompile.specs.Loaded.{Loaded}
use Rattle.textanswers.specs.Answered.{IsFound}
use Rattle.textanswers.specs.declared.code_answer.CodeAnswer.{CodeAnswer}
use Rattle.textanswers.specs.declared.code_answer.CodeAnswer.TheVariants.{Accepted, Faulty, Memory, Refused}

-- the bytes are the file of the code that the text's setup has for the task that is meant
pub record IsCodeFile (wiring : Wiring) (text : List ℕ) (name : Option (List ℕ)) (bytes : List ℕ) : Type 0 where
  pub setup : Loaded
  pub task : ℕ
  pub found : IsFound wiring text name setup task
  pub code : AcceptedCode
  pub is : slice_get setup.codes task ≡ Some code
  pub written : bytes ≡ file code.code

-- what is answered to a code: its words and the bound, where it is accepted, else its refusal; and the allocator may be
-- out of memory at any time
abbrev pub IsVerdict : Listing → CodeAnswer → Type 0
IsVerdict code (Accepted words bound) =
    IsAccepted code × (words ≡ length code.instructions) × IsBound code bound
IsVerdict code (Refused refusal) = IsRefusal code refusal
IsVerdict code (Faulty cause) = ⊥
IsVerdict code Memory = ⊤

-- the bytes are the file of a code, and this is the answer to it
abbrev pub IsOfSome : List ℕ → CodeAnswer → Type 0
IsOfSome bytes answer = (code : Listing) × HasFile code × (file code ≡ bytes) × IsVerdict code answer

-- what is answered to bytes: to the file of a code what is answered to the code, and else the first fault of the bytes;
-- a head and a length that are wrong are told whatever memory there is
abbrev pub IsJudged : List ℕ → CodeAnswer → Type 0
IsJudged bytes (Accepted words bound) = IsOfSome bytes (Accepted words bound)
IsJudged bytes (Refused refusal) = IsOfSome bytes (Refused refusal)
IsJudged bytes (Faulty cause) = IsFirst bytes cause
IsJudged bytes Memory = IsShaped bytes

-- where the bytes are the file of a code, there is no other answer
pub record IsCodeAnswer (bytes : List ℕ) (answer : CodeAnswer) : Type 0 where
  pub is : IsJudged bytes answer
  pub only : (code : Listing) → HasFile code → file code ≡ bytes → IsVerdict code answer
