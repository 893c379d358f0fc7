-- Code files (profile): the bytes of a code, field after field. Numbers are little-endian. There are two versions, and
-- a code has one file, of one of them.
use Rattle.std.specs.Prelude.{◌≡◌, ℕ, ℤ, pos, Bool, true, false, if◌then◌else◌, List, [], ◌∷◌, ◌++◌, flat_map}
use Rattle.std.specs.Prelude.{length, FitsSigned, ⊤}
use Rattle.std.specs.Int.{w32, w64, cast_unsigned, to_le_bytes}
use Rattle.std.specs.List.{AllByRecursion}
use Rattle.iltypes.specs.declared.value.IlType.{IlType}
use Rattle.iltypes.specs.declared.value.IlType.TheVariants as types
use Rattle.iltypes.specs.declared.value.Value.{Value}
use Rattle.iltypes.specs.declared.value.Value.TheVariants as values
use Rattle.ilblocks.specs.declared.kind.BlockKind.{BlockKind}
use Rattle.ilblocks.specs.declared.kind.BlockKind.TheVariants as kinds
use Rattle.ilcode.specs.Words.{spelling}
use Rattle.ilcode.specs.declared.function.FunctionBody.{FunctionBody}
use Rattle.ilcode.specs.declared.word.Word.{Word}
use Rattle.ilcode.specs.Listings.{Listing, IsLawful, is_old}
use Rattle.ilcodefile.specs.declared.version.FileVersion.{FileVersion}
use Rattle.ilcodefile.specs.declared.version.FileVersion.TheVariants.{One, Two}

-- ---- fields

-- a count, a start, a number of a function, the bits of a word, or a line: 4 bytes
abbrev pub number : ℕ → List ℕ
number n = to_le_bytes w32 n

-- a whole number of 64 signed bits: 8 bytes, in two's complement
abbrev pub whole : ℤ → List ℕ
whole z = to_le_bytes w64 (cast_unsigned w64 z)

-- what a constant or a slot is, 0 of BOOL and 1 of whole numbers: a byte, and seven zeros
abbrev pub tag : ℕ → List ℕ
tag kind = kind ∷ 0 ∷ 0 ∷ 0 ∷ 0 ∷ 0 ∷ 0 ∷ 0 ∷ []

-- FALSE is 0 and TRUE is 1
abbrev pub truth : Bool → ℤ
truth false = pos 0
truth true = pos 1

-- 16 bytes
abbrev pub constant : Value → List ℕ
constant (values.Bool b) = tag 0 ++ whole (truth b)
constant (values.Int z) = tag 1 ++ whole z

-- 24 bytes: the least and the greatest value
abbrev pub slot : IlType → List ℕ
slot types.Bool = tag 0 ++ (whole (pos 0) ++ whole (pos 1))
slot (types.Int range) = tag 1 ++ (whole range.lo ++ whole range.hi)

-- one byte
abbrev pub block_number : BlockKind → ℕ
block_number kinds.RTrig = 0
block_number kinds.Ctu = 1
block_number kinds.Ton = 2
block_number kinds.GearLevel = 3
block_number kinds.GearDo = 4
block_number kinds.GearSet = 5
block_number kinds.GearPair = 6
block_number kinds.GearAsk = 7
block_number kinds.GearRead = 8
block_number kinds.DevDo = 9
block_number kinds.DevScheme = 10
block_number kinds.DevAsk = 11

abbrev pub block : BlockKind → List ℕ
block kind = block_number kind ∷ []

-- 16 bytes: where its words begin, its first slot, and how many inputs and slots it has
abbrev pub function : FunctionBody → List ℕ
function f = number f.start ++ (number f.first ++ (number f.inputs ++ number f.slots))

abbrev pub word : Word → List ℕ
word w = number (spelling w)

-- ---- files

abbrev pub version_number : FileVersion → ℕ
version_number One = 1
version_number Two = 2

-- `DLIL`, and the version
abbrev pub magic : FileVersion → List ℕ
magic v = 68 ∷ 76 ∷ 73 ∷ 76 ∷ version_number v ∷ []

abbrev pub constants : List Value → List ℕ
constants xs = flat_map constant xs

abbrev pub slots : List IlType → List ℕ
slots xs = flat_map slot xs

abbrev pub blocks : List BlockKind → List ℕ
blocks xs = flat_map block xs

abbrev pub numbers : List ℕ → List ℕ
numbers xs = flat_map number xs

abbrev pub functions : List FunctionBody → List ℕ
functions xs = flat_map function xs

abbrev pub words : List Word → List ℕ
words xs = flat_map word xs

-- how many there are of each
abbrev pub counts : Listing → List ℕ → List ℕ
counts code rest =
    number (length code.constants)
    ++ (number (length code.slots)
    ++ (number (length code.kinds)
    ++ (number (length code.starts) ++ (number (length code.instructions) ++ rest))))

-- the number of functions, which version 1 does not have
abbrev pub function_count : FileVersion → List FunctionBody → List ℕ
function_count One fs = []
function_count Two fs = number (length fs)

abbrev pub tables : Listing → List ℕ
tables code =
    constants code.constants
    ++ (slots code.slots
    ++ (blocks code.kinds
    ++ (numbers code.starts ++ (functions code.functions ++ (words code.instructions ++ numbers code.lines)))))

-- the bytes of a code in a version
abbrev pub file_in : FileVersion → Listing → List ℕ
file_in v code = magic v ++ (code.buses ∷ 0 ∷ 0 ∷ counts code (function_count v code.functions ++ tables code))

-- a code for few buses that has no functions has a file of version 1, and any other has one of version 2
abbrev pub version : Listing → FileVersion
version code = if is_old code.buses code.functions then One else Two

-- the file of a code
abbrev pub file : Listing → List ℕ
file code = file_in (version code) code

-- ---- which codes have one

-- whole numbers have 64 signed bits
abbrev pub FitsValue : Value → Type 0
FitsValue (values.Bool b) = ⊤
FitsValue (values.Int z) = FitsSigned w64 z

abbrev pub FitsType : IlType → Type 0
FitsType types.Bool = ⊤
FitsType (types.Int range) = FitsSigned w64 range.lo × FitsSigned w64 range.hi

pub record HasFile (code : Listing) : Type 0 where
  pub lawful : IsLawful code
  pub constants : AllByRecursion FitsValue code.constants
  pub slots : AllByRecursion FitsType code.slots

-- these bytes are the file of the code
abbrev pub IsFileOf : List ℕ → Listing → Type 0
IsFileOf bytes code = HasFile code × (file code ≡ bytes)
