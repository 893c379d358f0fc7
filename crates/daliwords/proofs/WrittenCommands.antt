-- What fits a block's ports is written so, and words are written of one command at most.
use mathlib.Core.Path.{subst}
use Rattle.std.proofs.Common.{◌≡◌, ◌∙◌, ℕ, zero, suc, ◌-◌, List, refl, sym, ap, arith, MatchOption, Option, Some, None, if◌then◌else◌, nat_lt}
use Rattle.std.proofs.lemmas.Grind.{common_steps}
use Rattle.daliframe.specs.declared.addressing.Address.{Address}
use Rattle.daliframe.specs.declared.addressing.Address.TheVariants as to
use Rattle.daliframe.specs.declared.schemes.EventScheme.{EventScheme}
use Rattle.daliframe.specs.declared.schemes.EventScheme.TheVariants as scheme
use Rattle.daliframe.specs.Addresses.{IsAddress, address_number}
use Rattle.daliframe.specs.EventSchemes.{scheme_number}
use Rattle.gearcmd.specs.declared.requests.Command.{Command}
use Rattle.gearcmd.specs.declared.requests.Command.TheVariants as command
use Rattle.gearcmd.specs.Requests.{IsCommand}
use Rattle.daliwords.specs.declared.blocks.Block.{Block}
use Rattle.daliwords.specs.declared.blocks.Block.TheVariants as block
use Rattle.daliwords.specs.Written.{block_of, IsNamed, HasPorts, IsWritten}
use Rattle.daliwords.specs.WrittenSteps.{Fits, NoneFits}
use Rattle.daliwords.proofs.NamedBlocks.{one_block}

none_fits : (adr : ℕ) (first second : Option ℕ) (c : Command) → NoneFits adr first second (block_of c)
    → IsCommand c → ¬ HasPorts adr first second c
none_fits adr first second (command.GearLevel a l) none = none a l
none_fits adr first second (command.GearDo a k) none = none a k
none_fits adr first second (command.GearSet a k v) none = none a k v
none_fits adr first second (command.GearPair a k) none = none a k
none_fits adr first second (command.GearAsk a k) none = none a k
none_fits adr first second (command.GearRead a b o) none = none a b o
none_fits adr first second (command.DevDo a i k) none = none a i k
none_fits adr first second (command.DevScheme a i s) none = none a i s
none_fits adr first second (command.DevAsk a i k) none = none a i k

-- what fits a block of this name is written so, and where nothing fits, nothing is
pub written : (text : List ℕ) (adr : ℕ) (first second : Option ℕ) (b : Block) → IsNamed b text
    → (r : Option Command) → MatchOption r (NoneFits adr first second b) (Fits adr first second b)
    → MatchOption r ((c : Command) → IsCommand c → ¬ IsWritten text adr first second c)
    (λ c. IsCommand c × IsWritten text adr first second c)
written text adr first second b named None none = λ c is w.
    let same : b ≡ block_of c = one_block b (block_of c) text named w.0 in
    none_fits adr first second c (subst (NoneFits adr first second) same none) is w.1
written text adr first second b named (Some c) fits =
    (fits.1, (subst (λ x. IsNamed x text) (sym fits.0) named, fits.2))

-- ---- the command of ports

abbrev to_address : ℕ → Address
to_address n = if nat_lt n 64 then to.Short n else (if nat_lt n 80 then to.Group (n - 64) else to.Broadcast)

address_again : (a : Address) → IsAddress a → to_address (address_number a) ≡ a
address_again (to.Short n) is = grind (arith, common_steps)
address_again (to.Group n) is = grind (arith, common_steps)
address_again to.Broadcast is = refl

abbrev to_scheme : ℕ → EventScheme
to_scheme zero = scheme.Instance
to_scheme (suc zero) = scheme.Device
to_scheme (suc (suc zero)) = scheme.DeviceInstance
to_scheme (suc (suc (suc zero))) = scheme.DeviceGroup
to_scheme (suc (suc (suc (suc n)))) = scheme.InstanceGroup

scheme_again : (s : EventScheme) → to_scheme (scheme_number s) ≡ s
scheme_again scheme.Instance = refl
scheme_again scheme.Device = refl
scheme_again scheme.DeviceInstance = refl
scheme_again scheme.DeviceGroup = refl
scheme_again scheme.InstanceGroup = refl

abbrev value : Option ℕ → ℕ
value None = 0
value (Some n) = n

abbrev from_ports : Block → ℕ → Option ℕ → Option ℕ → Command
from_ports block.GearLevel adr x y = command.GearLevel (to_address adr) (value x)
from_ports block.GearDo adr x y = command.GearDo (to_address adr) (value x)
from_ports block.GearSet adr x y = command.GearSet (to_address adr) (value x) (value y)
from_ports block.GearPair adr x y = command.GearPair (to_address adr) (value x)
from_ports block.GearAsk adr x y = command.GearAsk adr (value x)
from_ports block.GearRead adr x y = command.GearRead adr (value x) (value y)
from_ports block.DevDo adr x y = command.DevDo adr (value x) (value y)
from_ports block.DevScheme adr x y = command.DevScheme adr (value x) (to_scheme (value y))
from_ports block.DevAsk adr x y = command.DevAsk adr (value x) (value y)

gear : (adr : ℕ) (a : Address) → IsAddress a → adr ≡ address_number a → to_address adr ≡ a
gear adr a is e = ap to_address e ∙ address_again a is

is_from : (adr : ℕ) (x y : Option ℕ) (c : Command) → IsCommand c → HasPorts adr x y c
    → from_ports (block_of c) adr x y ≡ c
is_from adr x y (command.GearLevel a l) is p =
    let e : to_address adr ≡ a = gear adr a is.0 p.0 in let f : value x ≡ l = ap value p.1 in cc
is_from adr x y (command.GearDo a k) is p =
    let e : to_address adr ≡ a = gear adr a is.0 p.0 in let f : value x ≡ k = ap value p.1 in cc
is_from adr x y (command.GearSet a k v) is p =
    let e : to_address adr ≡ a = gear adr a is.0 p.0 in let f : value x ≡ k = ap value p.1 in
    let g : value y ≡ v = ap value p.2 in cc
is_from adr x y (command.GearPair a k) is p =
    let e : to_address adr ≡ a = gear adr a is.0 p.0 in let f : value x ≡ k = ap value p.1 in cc
is_from adr x y (command.GearAsk a k) is p = let f : value x ≡ k = ap value p.1 in let e : adr ≡ a = p.0 in cc
is_from adr x y (command.GearRead a b o) is p =
    let e : adr ≡ a = p.0 in let f : value x ≡ b = ap value p.1 in let g : value y ≡ o = ap value p.2 in cc
is_from adr x y (command.DevDo a i k) is p =
    let e : adr ≡ a = p.0 in let f : value x ≡ i = ap value p.1 in let g : value y ≡ k = ap value p.2 in cc
is_from adr x y (command.DevScheme a i s) is p =
    let e : adr ≡ a = p.0 in let f : value x ≡ i = ap value p.1 in
    let g : to_scheme (value y) ≡ s = ap (λ o. to_scheme (value o)) p.2 ∙ scheme_again s in cc
is_from adr x y (command.DevAsk a i k) is p =
    let e : adr ≡ a = p.0 in let f : value x ≡ i = ap value p.1 in let g : value y ≡ k = ap value p.2 in cc

pub one_command : (text : List ℕ) (adr : ℕ) (x y : Option ℕ) (a b : Command) → IsCommand a → IsCommand b
    → IsWritten text adr x y a → IsWritten text adr x y b → a ≡ b
one_command text adr x y a b first second v w =
    let same : block_of a ≡ block_of b = one_block (block_of a) (block_of b) text v.0 w.0 in
    sym (is_from adr x y a first v.1) ∙ ap (λ k. from_ports k adr x y) same ∙ is_from adr x y b second w.1
