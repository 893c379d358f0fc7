-- Fields that are read again as they were printed.
use Rattle.std.proofs.Common.{◌≡◌, ℕ, ℤ, pos, negsuc, ◌<◌, ◌^◌, List, ◌++◌, take, drop}
use Rattle.std.proofs.Common.{refl, sym, ap, ◌∙◌, arith, lit<, Bool, true, false}
use Rattle.std.specs.Prelude.{FitsSigned, slice_index}
use Rattle.std.specs.Int.{w32, w64, cast_signed, cast_unsigned, from_le_bytes}
use Rattle.std.proofs.lemmas.Int.{to_z-of_z}
use Rattle.std.proofs.lemmas.Nat.{from_le_bytes-to_le_bytes_4, from_le_bytes-to_le_bytes_8}
use Rattle.iltypes.specs.declared.value.IlType.{IlType}
use Rattle.iltypes.specs.declared.value.IlType.TheVariants as types
use Rattle.iltypes.specs.declared.value.Value.{Value}
use Rattle.iltypes.specs.declared.value.Value.TheVariants as values
use Rattle.ilcode.specs.declared.function.FunctionBody.{FunctionBody}
use Rattle.ilcodefile.specs.Files.{FitsType, FitsValue, constant, function, number, slot, tag, truth, whole}
use Rattle.ilcodefile.specs.BodySteps.{IsSmall}
use Rattle.ilcodefile.specs.FieldSteps.{Holds, HoldsType}
use Rattle.ilcodefile.proofs.Lengths.{split}

pub number_read : (bytes more after : List ℕ) (n m : ℕ) → m ≡ from_le_bytes w32 (take 4 bytes) → after ≡ drop 4 bytes
    → n < 2 ^ 32 → bytes ≡ number n ++ more → (m ≡ n) × (after ≡ more)
number_read bytes more after n m is rest small e =
    let cut = split bytes (number n) more 4 e refl in (
      is ∙ ap (from_le_bytes w32) cut.taken ∙ from_le_bytes-to_le_bytes_4 n small,
      rest ∙ cut.dropped,
    )

pub bits_small : (z : ℤ) → FitsSigned w64 z → cast_unsigned w64 z < 2 ^ 64
bits_small (pos n) fits = let h = fits.sfits in omega arith
bits_small (negsuc n) fits = let h = fits.sfits in omega arith

pub whole_read : (bytes more after : List ℕ) (z y : ℤ) → y ≡ cast_signed w64 (from_le_bytes w64 (take 8 bytes))
    → after ≡ drop 8 bytes → FitsSigned w64 z → bytes ≡ whole z ++ more → (y ≡ z) × (after ≡ more)
whole_read bytes more after z y is rest fits e =
    let cut = split bytes (whole z) more 8 e refl in (
      is ∙ ap (λ (bs : List ℕ). cast_signed w64 (from_le_bytes w64 bs)) cut.taken
          ∙ ap (cast_signed w64) (from_le_bytes-to_le_bytes_8 (cast_unsigned w64 z) (bits_small z fits))
          ∙ to_z-of_z w64 z fits,
      rest ∙ cut.dropped,
    )

pub tag_read : (bytes more after : List ℕ) (kind k : ℕ) → k ≡ slice_index bytes 0 → after ≡ drop 8 bytes
    → bytes ≡ tag kind ++ more → (k ≡ kind) × (after ≡ more)
tag_read bytes more after kind k is rest e =
    (is ∙ ap (λ (bs : List ℕ). slice_index bs 0) e, rest ∙ ap (drop 8) e)

-- ---- constants

truth_fits : (b : Bool) → FitsSigned w64 (truth b)
truth_fits false = record { sfits = lit< tt }
truth_fits true = record { sfits = lit< tt }

module _ (bytes more first last : List ℕ) (k : ℕ) (y : ℤ) (kind : k ≡ slice_index bytes 0)
    (next : first ≡ drop 8 bytes) (is : y ≡ cast_signed w64 (from_le_bytes w64 (take 8 first)))
    (rest : last ≡ drop 8 first) where
  tagged : (t : ℕ) (z : ℤ) → FitsSigned w64 z → bytes ≡ (tag t ++ whole z) ++ more
      → (k ≡ t) × (y ≡ z) × (last ≡ more)
  tagged t z fits e =
      let front = tag_read bytes (whole z ++ more) first t k kind next e in
      let back = whole_read first more last z y is rest fits front.1 in
      (front.0, back.0, back.1)

  pub constant_read : (v : Value) → FitsValue v → bytes ≡ constant v ++ more → Holds v k y × (last ≡ more)
  constant_read (values.Bool b) fits e =
      let read = tagged 0 (truth b) (truth_fits b) e in ((read.0, read.1), read.2)
  constant_read (values.Int z) fits e = let read = tagged 1 z fits e in ((read.0, read.1), read.2)

-- ---- slots

module _ (bytes more first second last : List ℕ) (k : ℕ) (lo hi : ℤ) (kind : k ≡ slice_index bytes 0)
    (next : first ≡ drop 8 bytes) (low : lo ≡ cast_signed w64 (from_le_bytes w64 (take 8 first)))
    (then : second ≡ drop 8 first) (high : hi ≡ cast_signed w64 (from_le_bytes w64 (take 8 second)))
    (rest : last ≡ drop 8 second) where
  limited : (t : ℕ) (a b : ℤ) → FitsSigned w64 a → FitsSigned w64 b
      → bytes ≡ (tag t ++ (whole a ++ whole b)) ++ more → (k ≡ t) × (lo ≡ a) × (hi ≡ b) × (last ≡ more)
  limited t a b fit fits e =
      let front = tag_read bytes (whole a ++ (whole b ++ more)) first t k kind next e in
      let middle = whole_read first (whole b ++ more) second a lo low then fit front.1 in
      let back = whole_read second more last b hi high rest fits middle.1 in
      (front.0, middle.0, back.0, back.1)

  pub slot_read : (t : IlType) → FitsType t → bytes ≡ slot t ++ more → HoldsType t k lo hi × (last ≡ more)
  slot_read types.Bool fits e =
      let read = limited 0 (pos 0) (pos 1) (truth_fits false) (truth_fits true) e in (read.0, read.3)
  slot_read (types.Int range) fits e =
      let read = limited 1 range.lo range.hi fits.0 fits.1 e in
      ((read.0, sym read.1, sym read.2), read.3)

-- ---- functions

module _ (bytes more one two three last : List ℕ) (start first inputs slots : ℕ)
    (at_start : start ≡ from_le_bytes w32 (take 4 bytes)) (after_start : one ≡ drop 4 bytes)
    (at_first : first ≡ from_le_bytes w32 (take 4 one)) (after_first : two ≡ drop 4 one)
    (at_inputs : inputs ≡ from_le_bytes w32 (take 4 two)) (after_inputs : three ≡ drop 4 two)
    (at_slots : slots ≡ from_le_bytes w32 (take 4 three)) (after_slots : last ≡ drop 4 three) where
  pub function_read : (f : FunctionBody) → IsSmall f → bytes ≡ function f ++ more
      → (record { start = start; first = first; inputs = inputs; slots = slots } ≡ f) × (last ≡ more)
  function_read f small e =
      let a = number_read bytes (number f.first ++ (number f.inputs ++ (number f.slots ++ more))) one f.start start
      at_start after_start small.start e in
      let b = number_read one (number f.inputs ++ (number f.slots ++ more)) two f.first first
      at_first after_first small.first a.1 in
      let c = number_read two (number f.slots ++ more) three f.inputs inputs at_inputs after_inputs small.inputs b.1 in
      let d = number_read three more last f.slots slots at_slots after_slots small.slots c.1 in (
        λ i. record { start = a.0 i; first = b.0 i; inputs = c.0 i; slots = d.0 i },
        d.1,
      )
