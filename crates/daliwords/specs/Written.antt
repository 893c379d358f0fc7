-- What an installer writes of a request: the name of its block, and the numbers of the block's ports but for REQ and BUS,
-- in their order (profile).
use Rattle.std.specs.Prelude.{◌≡◌, ℕ, Bool, IsTrue, List, codes, Option, Some, None}
use Rattle.std.specs.Str.{str_eq_ignore_ascii_case}
use Rattle.daliframe.specs.Addresses.{address_number}
use Rattle.daliframe.specs.EventSchemes.{scheme_number}
use Rattle.gearcmd.specs.declared.requests.Command.{Command}
use Rattle.gearcmd.specs.declared.requests.Command.TheVariants as command
use Rattle.daliwords.specs.declared.blocks.Block.{Block}
use Rattle.daliwords.specs.declared.blocks.Block.TheVariants as block

abbrev pub block_name : Block → List ℕ
block_name block.GearLevel = codes "GEAR_LEVEL"
block_name block.GearDo = codes "GEAR_DO"
block_name block.GearSet = codes "GEAR_SET"
block_name block.GearPair = codes "GEAR_PAIR"
block_name block.GearAsk = codes "GEAR_ASK"
block_name block.GearRead = codes "GEAR_READ"
block_name block.DevDo = codes "DEV_DO"
block_name block.DevScheme = codes "DEV_SCHEME"
block_name block.DevAsk = codes "DEV_ASK"

-- the text is the block's name, in any letter case
abbrev pub is_named : List ℕ → Block → Bool
is_named text block = str_eq_ignore_ascii_case (block_name block) text

abbrev pub IsNamed : Block → List ℕ → Type 0
IsNamed block text = IsTrue (is_named text block)

-- the block whose ports a command has
abbrev pub block_of : Command → Block
block_of (command.GearLevel _ _) = block.GearLevel
block_of (command.GearDo _ _) = block.GearDo
block_of (command.GearSet _ _ _) = block.GearSet
block_of (command.GearPair _ _) = block.GearPair
block_of (command.GearAsk _ _) = block.GearAsk
block_of (command.GearRead _ _ _) = block.GearRead
block_of (command.DevDo _ _ _) = block.DevDo
block_of (command.DevScheme _ _ _) = block.DevScheme
block_of (command.DevAsk _ _ _) = block.DevAsk

-- a command's ports are these: the address, and one or two numbers behind it
abbrev pub HasPorts : ℕ → Option ℕ → Option ℕ → Command → Type 0
HasPorts adr first second (command.GearLevel address level) =
    (adr ≡ address_number address) × (first ≡ Some level) × (second ≡ None)
HasPorts adr first second (command.GearDo address cmd) =
    (adr ≡ address_number address) × (first ≡ Some cmd) × (second ≡ None)
HasPorts adr first second (command.GearSet address cmd value) =
    (adr ≡ address_number address) × (first ≡ Some cmd) × (second ≡ Some value)
HasPorts adr first second (command.GearPair address cmd) =
    (adr ≡ address_number address) × (first ≡ Some cmd) × (second ≡ None)
HasPorts adr first second (command.GearAsk address cmd) = (adr ≡ address) × (first ≡ Some cmd) × (second ≡ None)
HasPorts adr first second (command.GearRead address bank offset) =
    (adr ≡ address) × (first ≡ Some bank) × (second ≡ Some offset)
HasPorts adr first second (command.DevDo address instance cmd) =
    (adr ≡ address) × (first ≡ Some instance) × (second ≡ Some cmd)
HasPorts adr first second (command.DevScheme address instance scheme) =
    (adr ≡ address) × (first ≡ Some instance) × (second ≡ Some (scheme_number scheme))
HasPorts adr first second (command.DevAsk address instance cmd) =
    (adr ≡ address) × (first ≡ Some instance) × (second ≡ Some cmd)

-- the name of a command's block, and its ports
abbrev pub IsWritten : List ℕ → ℕ → Option ℕ → Option ℕ → Command → Type 0
IsWritten name adr first second c = IsNamed (block_of c) name × HasPorts adr first second c
