-- What the private functions of `reading` find: a command of one block that has these ports, or none.
use Rattle.std.specs.Prelude.{◌≡◌, ℕ, Option}
use Rattle.daliframe.specs.declared.addressing.Address.{Address}
use Rattle.daliframe.specs.declared.schemes.EventScheme.{EventScheme}
use Rattle.gearcmd.specs.declared.requests.Command.{Command}
use Rattle.gearcmd.specs.declared.requests.Command.TheVariants as command
use Rattle.gearcmd.specs.Requests.{IsCommand}
use Rattle.daliwords.specs.declared.blocks.Block.{Block}
use Rattle.daliwords.specs.declared.blocks.Block.TheVariants as block
use Rattle.daliwords.specs.Written.{block_of, HasPorts}

-- a legal command of the block that has these ports
abbrev pub Fits : ℕ → Option ℕ → Option ℕ → Block → Command → Type 0
Fits adr first second block c = (block_of c ≡ block) × IsCommand c × HasPorts adr first second c

abbrev pub IsNot : ℕ → Option ℕ → Option ℕ → Command → Type 0
IsNot adr first second c = IsCommand c → ¬ HasPorts adr first second c

-- no legal command of the block has these ports
abbrev pub NoneFits : ℕ → Option ℕ → Option ℕ → Block → Type 0
NoneFits adr first second block.GearLevel = (a : Address) (l : ℕ) → IsNot adr first second (command.GearLevel a l)
NoneFits adr first second block.GearDo = (a : Address) (k : ℕ) → IsNot adr first second (command.GearDo a k)
NoneFits adr first second block.GearSet = (a : Address) (k v : ℕ) → IsNot adr first second (command.GearSet a k v)
NoneFits adr first second block.GearPair = (a : Address) (k : ℕ) → IsNot adr first second (command.GearPair a k)
NoneFits adr first second block.GearAsk = (a k : ℕ) → IsNot adr first second (command.GearAsk a k)
NoneFits adr first second block.GearRead = (a b o : ℕ) → IsNot adr first second (command.GearRead a b o)
NoneFits adr first second block.DevDo = (a i k : ℕ) → IsNot adr first second (command.DevDo a i k)
NoneFits adr first second block.DevScheme =
    (a i : ℕ) (s : EventScheme) → IsNot adr first second (command.DevScheme a i s)
NoneFits adr first second block.DevAsk = (a i k : ℕ) → IsNot adr first second (command.DevAsk a i k)
