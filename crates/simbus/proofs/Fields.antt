-- What a frame says by the equations on its number is what the function of its number gives.
use Rattle.std.proofs.Common.{◌≡◌, ℕ, ◌+◌, ◌-◌, ◌*◌, ◌/◌, ◌%◌, ◌^◌, ◌<◌, ◌≤◌, refl, arith}
use Rattle.std.proofs.lemmas.Bool.Decides.{nat_tests}
use Rattle.daliframe.specs.declared.addressing.Address.{Address}
use Rattle.daliframe.specs.declared.addressing.Address.TheVariants.{Short, Group, Broadcast}
use Rattle.daliframe.specs.declared.forward16.Fields16.{Fields16}
use Rattle.daliframe.specs.declared.forward16.Fields16.TheVariants as gear
use Rattle.daliframe.specs.declared.forward24.Fields24.{Fields24}
use Rattle.daliframe.specs.declared.forward24.Fields24.TheVariants as device
use Rattle.daliframe.specs.Addresses.{IsAddress, address_byte}
use Rattle.daliframe.specs.Frames.{frame16, HasFields16, HasFields24}
use Rattle.simbus.specs.FrameFields.{selected, addressed_at, fields_at, fields_of, device_fields_at, device_fields_of}

dtr0-at : (v : ℕ) → gear.Dtr0 v ≡ fields_at 0xA3 v
unfolding fields_at
dtr0-at v = refl

dtr1-at : (v : ℕ) → gear.Dtr1 v ≡ fields_at 0xC3 v
unfolding fields_at
dtr1-at v = refl

not_special : (first v : ℕ) → (first ≡ 0xA3 → ⊥) → (first ≡ 0xC3 → ⊥)
    → fields_at first v ≡ addressed_at (first / 2) (first % 2) v
unfolding fields_at
not_special first v a b = grind (arith, nat_tests)

short-at : (a s v : ℕ) → a < 64 → selected s (Short a) v ≡ addressed_at a s v
unfolding addressed_at
short-at a s v h = grind (arith, nat_tests)

group-at : (g s v : ℕ) → g < 16 → selected s (Group g) v ≡ addressed_at (64 + g) s v
unfolding addressed_at
group-at g s v h =
    let e : 64 + g - 64 ≡ g = omega arith in
    rw e (grind (arith, nat_tests))

broadcast-at : (s v : ℕ) → selected s Broadcast v ≡ addressed_at 127 s v
unfolding addressed_at
broadcast-at s v = refl

-- the fields of an address byte and the byte after it
address-at : (address : Address) (s v : ℕ) → s < 2 → IsAddress address
    → selected s address v ≡ fields_at (address_byte address s) v
address-at (Short a) s v small h =
    let q : (2 * a + s) / 2 ≡ a = omega arith in
    let r : (2 * a + s) % 2 ≡ s = omega arith in
    rw (not_special (2 * a + s) v (λ e. omega arith) (λ e. omega arith), q, r) (short-at a s v h)
address-at (Group g) s v small h =
    let q : (128 + 2 * g + s) / 2 ≡ 64 + g = omega arith in
    let r : (128 + 2 * g + s) % 2 ≡ s = omega arith in
    rw (not_special (128 + 2 * g + s) v (λ e. omega arith) (λ e. omega arith), q, r) (group-at g s v h)
address-at Broadcast s v small h =
    let q : (254 + s) / 2 ≡ 127 = omega arith in
    let r : (254 + s) % 2 ≡ s = omega arith in
    rw (not_special (254 + s) v (λ e. omega arith) (λ e. omega arith), q, r) (broadcast-at s v)

-- the bytes of a frame
bytes-of : (fields : Fields16) (first v frame : ℕ) → v < 2 ^ 8 → frame ≡ frame16 first v → fields ≡ fields_at first v
    → fields ≡ fields_of frame
bytes-of fields first v frame small e h =
    let q : frame / 2 ^ 8 ≡ first = omega arith in
    let r : frame % 2 ^ 8 ≡ v = omega arith in
    rw (q, r) h

other-half : (half s v : ℕ) → (half < 64 → ⊥) → (64 ≤ half → half < 80 → ⊥) → (half ≡ 127 → ⊥)
    → gear.Other ≡ addressed_at half s v
unfolding addressed_at
other-half half s v a b c = grind (arith, nat_tests)

other-at : (first v : ℕ) → (first ≡ 0xA3 → ⊥) → (first ≡ 0xC3 → ⊥)
    → ((address : Address) (s : ℕ) → IsAddress address → s < 2 → first ≡ address_byte address s → ⊥)
    → gear.Other ≡ fields_at first v
other-at first v a b none =
    rw (not_special first v a b) (other-half (first / 2) (first % 2) v
    (λ h. none (Short (first / 2)) (first % 2) h (omega arith) (omega arith))
    (λ l h. none (Group (first / 2 - 64)) (first % 2) (omega arith) (omega arith) (omega arith))
    (λ h. none Broadcast (first % 2) tt (omega arith) (omega arith)))

pub fields_of-is : (fields : Fields16) (frame : ℕ) → HasFields16 fields frame → fields ≡ fields_of frame
fields_of-is (gear.Level address level) frame h =
    bytes-of (gear.Level address level) (address_byte address 0) level frame h.1 h.2
    (address-at address 0 level (omega arith) h.0)
fields_of-is (gear.Command address opcode) frame h =
    bytes-of (gear.Command address opcode) (address_byte address 1) opcode frame h.1 h.2
    (address-at address 1 opcode (omega arith) h.0)
fields_of-is (gear.Dtr0 value) frame h = bytes-of (gear.Dtr0 value) 0xA3 value frame h.0 h.1 (dtr0-at value)
fields_of-is (gear.Dtr1 value) frame h = bytes-of (gear.Dtr1 value) 0xC3 value frame h.0 h.1 (dtr1-at value)
fields_of-is gear.Other frame h =
    let first : ℕ = frame / 2 ^ 8 in
    let v : ℕ = frame % 2 ^ 8 in
    let small : v < 2 ^ 8 = omega arith in
    let whole : frame ≡ 2 ^ 8 * first + v = omega arith in
    other-at first v
    (λ e. h.1 v small (omega arith))
    (λ e. h.2 v small (omega arith))
    (λ address s legal low e. h.0 address s v legal low small (rw (← e) whole))

-- the same of 24-bit frames
event-at : (first second third : ℕ) → first % 2 ≡ 0 → device.Event ≡ device_fields_at first second third
unfolding device_fields_at
event-at first second third h = rw h refl

device-dtr0-at : (v : ℕ) → device.Dtr0 v ≡ device_fields_at 0xC1 0x30 v
unfolding device_fields_at
device-dtr0-at v = refl

command-at : (a i o first : ℕ) → a < 64 → i < 32 → first ≡ 2 * a + 1 → device.Command a i o ≡ device_fields_at first i o
unfolding device_fields_at
command-at a i o first small low e =
    let q : first / 2 ≡ a = omega arith in
    let r : first % 2 ≡ 1 = omega arith in
    rw (q, r) (grind (arith, nat_tests))

other-device-at : (first second third : ℕ) → first % 2 ≡ 1 → (first ≡ 0xC1 → second ≡ 0x30 → ⊥)
    → (first < 128 → second < 32 → ⊥)
    → device.OtherCommand ≡ device_fields_at first second third
unfolding device_fields_at
other-device-at first second third r a b = rw r (grind (arith, nat_tests))

pub device_fields_of-is : (fields : Fields24) (frame : ℕ) → HasFields24 fields frame → fields ≡ device_fields_of frame
device_fields_of-is device.Event frame h = event-at (frame / 2 ^ 16) (frame / 2 ^ 8 % 2 ^ 8) (frame % 2 ^ 8) h
device_fields_of-is (device.Command a i o) frame h =
    let first : frame / 2 ^ 16 ≡ 2 * a + 1 = omega arith in
    let second : frame / 2 ^ 8 % 2 ^ 8 ≡ i = omega arith in
    let third : frame % 2 ^ 8 ≡ o = omega arith in
    rw (second, third) (command-at a i o (frame / 2 ^ 16) h.0 h.1 first)
device_fields_of-is (device.Dtr0 value) frame h =
    let first : frame / 2 ^ 16 ≡ 0xC1 = omega arith in
    let second : frame / 2 ^ 8 % 2 ^ 8 ≡ 0x30 = omega arith in
    let third : frame % 2 ^ 8 ≡ value = omega arith in
    rw (first, second, third) (device-dtr0-at value)
device_fields_of-is device.OtherCommand frame h =
    let first : ℕ = frame / 2 ^ 16 in
    let second : ℕ = frame / 2 ^ 8 % 2 ^ 8 in
    let third : ℕ = frame % 2 ^ 8 in
    let small : third < 2 ^ 8 = omega arith in
    let whole : frame ≡ 2 ^ 16 * first + 2 ^ 8 * second + third = omega arith in
    other-device-at first second third h.0
    (λ e d. h.2 third small (omega arith))
    (λ l m. h.1 (first / 2) second third (omega arith) m small (omega (arith, h.0)))
