-- What stands against bytes that are no code file: the first that holds, in this order. Bytes that begin otherwise, as
-- far as they go; fewer than the head; a number of buses other than 1 to 16 in version 1 or 1 to 64 in version 2, or a
-- byte after it that is not 0; a count beyond its limit; a length other than the counts say; and any other field. Among
-- these are a word GIVE or CALL in a file of version 1, and the version of a file of version 2 that has 16 buses at
-- most and no function.
use Rattle.std.specs.Prelude.{◌≡◌, ℕ, ◌+◌, ◌*◌, ◌≤◌, ◌<◌, ◌==◌, ◌⊎◌, if◌then◌else◌, List, length, take, drop}
use Rattle.std.specs.Prelude.{slice_index, Result, Ok, Err, ⊤}
use Rattle.std.specs.Int.{w32, from_le_bytes}
use Rattle.limits.specs.Limits as limits
use Rattle.ilcode.specs.Listings.{Listing}
use Rattle.ilcodefile.specs.Files.{IsFileOf, magic, version_number}
use Rattle.ilcodefile.specs.declared.fault.FileCause.{FileCause}
use Rattle.ilcodefile.specs.declared.fault.FileCause.TheVariants.{Magic, Cut, Trailing, BadField, TooMany}
use Rattle.ilcodefile.specs.declared.fault.FileFault.{FileFault}
use Rattle.ilcodefile.specs.declared.fault.FileFault.TheVariants as faults
use Rattle.ilcodefile.specs.declared.version.FileVersion.{FileVersion}
use Rattle.ilcodefile.specs.declared.version.FileVersion.TheVariants.{One, Two}

-- as far as they go they begin as a file of the version
abbrev pub BeginsAs : FileVersion → List ℕ → Type 0
BeginsAs v bytes = take 5 bytes ≡ take (length bytes) (magic v)

abbrev pub BeginsWell : List ℕ → Type 0
BeginsWell bytes = BeginsAs One bytes ⊎ BeginsAs Two bytes

-- the version of bytes that begin well; where they end before they tell it, it is 1
abbrev pub version_in : List ℕ → FileVersion
version_in bytes = if slice_index bytes 4 == version_number Two then Two else One

-- the bytes before the tables
abbrev pub head_size : FileVersion → ℕ
head_size One = 28
head_size Two = 32

abbrev pub HasHead : List ℕ → Type 0
HasHead bytes = BeginsWell bytes × (head_size (version_in bytes) ≤ length bytes)

abbrev pub most_buses_of : FileVersion → ℕ
most_buses_of One = limits.few_buses
most_buses_of Two = limits.most_buses

-- buses, and two zeros
pub record AreBuses (bytes : List ℕ) : Type 0 where
  pub least : 1 ≤ slice_index bytes 5
  pub most : slice_index bytes 5 ≤ most_buses_of (version_in bytes)
  pub first : slice_index bytes 6 ≡ 0
  pub second : slice_index bytes 7 ≡ 0

-- the version, and the counts: the numbers from byte 8 on, of which version 1 has five, and version 2 has that of
-- functions too
pub record Counts : Type 0 where
  pub version : FileVersion
  pub constants : ℕ
  pub slots : ℕ
  pub blocks : ℕ
  pub starts : ℕ
  pub words : ℕ
  pub functions : ℕ

abbrev pub number_at : List ℕ → ℕ → ℕ
number_at bytes place = from_le_bytes w32 (take 4 (drop place bytes))

abbrev pub functions_in : FileVersion → List ℕ → ℕ
functions_in One bytes = 0
functions_in Two bytes = number_at bytes 28

abbrev pub counts_in : List ℕ → Counts
counts_in bytes =
    record {
      version = version_in bytes;
      constants = number_at bytes 8;
      slots = number_at bytes 12;
      blocks = number_at bytes 16;
      starts = number_at bytes 20;
      words = number_at bytes 24;
      functions = functions_in (version_in bytes) bytes;
    }

pub record AreFew (c : Counts) : Type 0 where
  pub constants : c.constants ≤ limits.most_constants
  pub slots : c.slots ≤ limits.most_slots
  pub blocks : c.blocks ≤ limits.most_blocks
  pub starts : c.starts ≤ limits.most_instances
  pub words : c.words ≤ limits.most_words
  pub functions : c.functions ≤ limits.most_functions

-- the length that they ask for
abbrev pub size : Counts → ℕ
size c =
    head_size c.version + 16 * c.constants + 24 * c.slots + c.blocks + 4 * c.starts + 16 * c.functions + 8 * c.words

-- nothing stands against the head and the length
pub record IsShaped (bytes : List ℕ) : Type 0 where
  pub head : HasHead bytes
  pub buses : AreBuses bytes
  pub few : AreFew (counts_in bytes)
  pub long : length bytes ≡ size (counts_in bytes)

-- the bytes of a code
abbrev pub IsFile : List ℕ → Type 0
IsFile bytes = (code : Listing) × IsFileOf bytes code

-- ---- the first fault

abbrev pub IsFirst : List ℕ → FileCause → Type 0
IsFirst bytes Magic = ¬ BeginsWell bytes
IsFirst bytes Cut =
    (BeginsWell bytes × (length bytes < head_size (version_in bytes)))
    ⊎ (HasHead bytes × AreBuses bytes × AreFew (counts_in bytes) × (length bytes < size (counts_in bytes)))
IsFirst bytes TooMany = HasHead bytes × AreBuses bytes × (¬ AreFew (counts_in bytes))
IsFirst bytes Trailing =
    HasHead bytes × AreBuses bytes × AreFew (counts_in bytes) × (size (counts_in bytes) < length bytes)
IsFirst bytes BadField =
    (HasHead bytes × (¬ AreBuses bytes))
    ⊎ (HasHead bytes × AreBuses bytes × AreFew (counts_in bytes) × (length bytes ≡ size (counts_in bytes))
    × (¬ IsFile bytes))

-- what is told: the first fault; or that memory ran out, which no head and no length that are wrong wait for
abbrev pub IsFault : List ℕ → FileFault → Type 0
IsFault bytes faults.Memory = IsShaped bytes
IsFault bytes (faults.Of cause) = IsFirst bytes cause

-- the code is read, or memory ran out
abbrev pub IsReadAs : Listing → Result Listing FileFault → Type 0
IsReadAs code (Ok read) = read ≡ code
IsReadAs code (Err faults.Memory) = ⊤
IsReadAs code (Err (faults.Of cause)) = ⊥

-- ---- numbers of causes

abbrev pub cause_number : FileCause → ℕ
cause_number Magic = 2
cause_number Cut = 3
cause_number Trailing = 4
cause_number BadField = 5
cause_number TooMany = 6

abbrev pub fault_number : FileFault → ℕ
fault_number faults.Memory = 1
fault_number (faults.Of cause) = cause_number cause
