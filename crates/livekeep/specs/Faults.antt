-- Why bytes are no file of kept values (profile).
use Rattle.std.specs.Prelude.{◌≡◌, ◌≢◌, ℕ, List, [], Result, Ok, Err, ⊤}
use Rattle.wordlines.specs.declared.fault.LineFault.{LineFault}
use Rattle.wordlines.specs.declared.fault.LineFault.TheVariants as lines
use Rattle.livekeep.specs.KeptFiles.{IsKeptFile, IsSealed, KeptState, SoFar, last_stage, whole}
use Rattle.livekeep.specs.declared.fault.KeptFault.{KeptFault}
use Rattle.livekeep.specs.declared.fault.KeptFault.TheVariants.{Memory, Empty, Torn}

-- there are bytes, and they are no file of any values
pub record AreTorn (bytes : List ℕ) : Type 0 where
  pub some : bytes ≢ []
  pub none : (kept : KeptState) → ¬ IsKeptFile bytes kept

-- what is wrong with the bytes
abbrev pub IsKeptFault : List ℕ → KeptFault → Type 0
IsKeptFault bytes Empty = bytes ≡ []
IsKeptFault bytes Torn = AreTorn bytes
IsKeptFault bytes Memory = ⊥

-- what the bytes are, as a file of kept values
abbrev pub IsReadAs : List ℕ → Result KeptState KeptFault → Type 0
IsReadAs bytes (Ok kept) = IsKeptFile bytes kept
IsReadAs bytes (Err fault) = IsKeptFault bytes fault

-- the same, or the allocator is out of memory, which may be at any time
abbrev pub IsKeptFaultOrMemory : List ℕ → KeptFault → Type 0
IsKeptFaultOrMemory bytes Memory = ⊤
IsKeptFaultOrMemory bytes Empty = IsKeptFault bytes Empty
IsKeptFaultOrMemory bytes Torn = IsKeptFault bytes Torn

-- a bad line is one of a torn file
abbrev pub of_line : {Of : Type 0} → LineFault Of → KeptFault
of_line lines.Memory = Memory
of_line (lines.At line cause) = Torn

-- the lines of the bytes, which were read to the end, are those of a whole file, which is sealed
pub record IsEnded (bytes : List ℕ) (read : SoFar) : Type 0 where
  pub stage : read.stage ≡ last_stage read.at
  pub sealed : IsSealed read.at bytes read.sum

-- what is made of lines that were read to the end
abbrev pub IsJudged : List ℕ → SoFar → Result KeptState KeptFault → Type 0
IsJudged bytes read (Ok kept) = (read ≡ whole kept read.sum) × IsSealed kept.at bytes read.sum
IsJudged bytes read (Err Memory) = ⊤
IsJudged bytes read (Err Empty) = ⊥
IsJudged bytes read (Err Torn) = ¬ IsEnded bytes read
