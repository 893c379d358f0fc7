-- How an inquiry is served: what the disk gave for the files that it names, and the report of an answer to that
-- (profile). The disk is two relations: at a path it gives bytes, and at a path it fails for a reason.
use Rattle.std.specs.Prelude.{◌≡◌, ℕ, List, Option, Some, None, ◌⊎◌, ⊤}
use Rattle.std.specs.Option.{option_copied}
use Rattle.commandfiles.specs.declared.reading.DiskFault.{DiskFault}
use Rattle.commandoptions.specs.declared.files.Files.{Files}
use Rattle.commandoptions.specs.declared.inquiry.Inquiry.{Inquiry}
use Rattle.exitstatus.specs.declared.exit_status.ExitStatus.{ExitStatus}
use Rattle.commandfiles.specs.declared.serving.Unserved.{Unserved}
use Rattle.commandfiles.specs.declared.serving.Unserved.TheVariants.{NotRead, NotWritten, NotPrinted}
use Rattle.commandfiles.specs.Reports.{IsReport}
use Rattle.commandoptions.specs.Inquiries.{files_of}

-- what is given for a path, and nothing where there is none
abbrev pub IsGiven : (List ℕ → List ℕ → Type 0) → Option (List ℕ) → Option (List ℕ) → Type 0
IsGiven gives None None = ⊤
IsGiven gives (Some path) (Some bytes) = gives path bytes
IsGiven gives _ _ = ⊥

-- the writer has the report of an answer to what the disk gave
pub record IsServed (gives : List ℕ → List ℕ → Type 0) (inquiry : Inquiry) (before after : Option (List ℕ))
    (status : ExitStatus) : Type 0 where
  pub binding : Option (List ℕ)
  pub bytes : List ℕ
  pub binding_given : IsGiven gives (option_copied (files_of inquiry).binding) binding
  pub text_given : gives (files_of inquiry).text.now bytes
  pub report : IsReport inquiry binding bytes before after status

-- the binding at this path is not read; or it is, and the text at this path is not
abbrev pub IsFirstUnread : (List ℕ → List ℕ → Type 0) → (List ℕ → DiskFault → Type 0) → Files → List ℕ → DiskFault → Type 0
IsFirstUnread gives fails files path why =
    ((option_copied files.binding ≡ Some path) × fails path why)
    ⊎ (((binding : Option (List ℕ)) × IsGiven gives (option_copied files.binding) binding)
    × (path ≡ files.text.now) × fails path why)

-- the first of the named files that is not read is reported; of a failure of the writer nothing is said
abbrev pub IsUnserved : (List ℕ → List ℕ → Type 0) → (List ℕ → DiskFault → Type 0) → Inquiry → Unserved → Type 0
IsUnserved gives fails inquiry (NotRead path why) = IsFirstUnread gives fails (files_of inquiry) path.now why
IsUnserved gives fails inquiry (NotWritten path why) = ⊥
IsUnserved gives fails inquiry (NotPrinted error) = ⊤

-- that the file at a path is not read is reported
abbrev pub IsNotRead : (List ℕ → DiskFault → Type 0) → List ℕ → Unserved → Type 0
IsNotRead fails path (NotRead named why) = (named.now ≡ path) × fails path why
IsNotRead fails path (NotWritten named why) = ⊥
IsNotRead fails path (NotPrinted error) = ⊥

-- that the file at a path is not written is reported
abbrev pub IsNotWritten : (List ℕ → DiskFault → Type 0) → List ℕ → Unserved → Type 0
IsNotWritten refuses path (NotWritten named why) = (named.now ≡ path) × refuses path why
IsNotWritten refuses path (NotRead named why) = ⊥
IsNotWritten refuses path (NotPrinted error) = ⊥
