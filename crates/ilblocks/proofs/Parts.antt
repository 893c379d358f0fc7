-- Addresses and event schemes are those of their numbers.
use Rattle.std.proofs.Common.{◌≡◌, ℕ, ◌+◌, ◌<◌, Some, refl, subst, arith}
use Rattle.std.proofs.lemmas.Bool.Decides.{nat_tests}
use Rattle.gearcmd.specs.Address.{Address}
use Rattle.gearcmd.specs.Address.TheVariants.{Short, Group, Broadcast}
use Rattle.gearcmd.specs.EventScheme.{EventScheme}
use Rattle.gearcmd.specs.EventScheme.TheVariants as schemes
use Rattle.gearcmd.specs.Addresses.{IsAddress, address_number}
use Rattle.gearcmd.specs.EventSchemes.{scheme_number}
use Rattle.ilblocks.specs.Calls.{address_of, scheme_of}

short_of : (n : ℕ) → n < 64 → Some (Short n) ≡ address_of n
short_of n h = grind (arith, nat_tests)

group_of : (g n : ℕ) → g < 16 → 64 + g ≡ n → Some (Group g) ≡ address_of n
group_of g n h e = grind (arith, nat_tests)

numbered : (a : Address) → IsAddress a → Some a ≡ address_of (address_number a)
numbered (Short n) h = short_of n h
numbered (Group g) h = group_of g (64 + g) h refl
numbered Broadcast h = refl

pub address_is : (a : Address) (n : ℕ) → IsAddress a → address_number a ≡ n → Some a ≡ address_of n
address_is a n h e = subst (λ (m : ℕ). Some a ≡ address_of m) e (numbered a h)

scheme_numbered : (s : EventScheme) → Some s ≡ scheme_of (scheme_number s)
scheme_numbered schemes.Instance = refl
scheme_numbered schemes.Device = refl
scheme_numbered schemes.DeviceInstance = refl
scheme_numbered schemes.DeviceGroup = refl
scheme_numbered schemes.InstanceGroup = refl

pub scheme_is : (s : EventScheme) (n : ℕ) → scheme_number s ≡ n → Some s ≡ scheme_of n
scheme_is s n e = subst (λ (m : ℕ). Some s ≡ scheme_of m) e (scheme_numbered s)
