-- Bytes of which the first fault is known.
use Rattle.std.proofs.Common.{◌≡◌, ◌<◌, ℕ, List, [], ◌∷◌, Result, Ok, Err, IfOk, IfErr, ap, refl}
use Rattle.std.proofs.Common.{arith, inl, inr, lit≤, lit<}
use Rattle.std.specs.Prelude.{slice_index}
use Rattle.ilcode.specs.Listings.{Listing}
use Rattle.ilcodefile.specs.Faults.{BeginsWell, IsFault, IsFirst, IsShaped}
use Rattle.ilcodefile.specs.Files.{IsFileOf}
use Rattle.ilcodefile.specs.declared.fault.FileCause.{FileCause}
use Rattle.ilcodefile.specs.declared.fault.FileCause.TheVariants.{Cut, Trailing}
use Rattle.ilcodefile.specs.declared.fault.FileFault.{FileFault}
use Rattle.ilcodefile.specs.declared.fault.FileFault.TheVariants as faults
use Rattle.ilcodefile.proofs.FirstFaults.{no_fault, one_fault}

-- bytes that are not even shaped as a file are refused with their first fault
pub refused_with : (bytes : List ℕ) (cause : FileCause) (given : Result Listing FileFault)
    → IsFirst bytes cause → ¬ IsShaped bytes → IfOk given (IsFileOf bytes) → IfErr given (IsFault bytes)
    → given ≡ Err (faults.Of cause)
refused_with bytes cause (Ok code) first shapeless is fault = absurd (no_fault bytes cause first (code, is))
refused_with bytes cause (Err faults.Memory) first shapeless is fault = absurd (shapeless fault)
refused_with bytes cause (Err (faults.Of other)) first shapeless is fault =
    ap (λ (c : FileCause). Err (faults.Of c)) (one_fault bytes other cause fault first)

-- a file of another version, and one that begins otherwise
abbrev pub third : List ℕ
third = 68 ∷ 76 ∷ 73 ∷ 76 ∷ 3 ∷ []

not_equal : (a b : ℕ) → b < a → ¬ (a ≡ b)
not_equal a b less is = omega (arith, less, is)

pub version_3 : ¬ BeginsWell third
version_3 (inl begins) = not_equal 3 1 (lit< tt) (ap (λ (b : List ℕ). slice_index b 4) begins)
version_3 (inr begins) = not_equal 3 2 (lit< tt) (ap (λ (b : List ℕ). slice_index b 4) begins)

pub other_head : ¬ BeginsWell (88 ∷ [])
other_head (inl begins) = not_equal 88 68 (lit< tt) (ap (λ (b : List ℕ). slice_index b 0) begins)
other_head (inr begins) = not_equal 88 68 (lit< tt) (ap (λ (b : List ℕ). slice_index b 0) begins)

-- a file of version 1 with nothing in it, and a byte more
abbrev pub with_a_byte_more : List ℕ
with_a_byte_more =
    68 ∷ 76 ∷ 73 ∷ 76 ∷ 1 ∷ 1 ∷ 0 ∷ 0 ∷ 0 ∷ 0 ∷ 0 ∷ 0 ∷ 0 ∷ 0 ∷ 0 ∷ 0 ∷ 0 ∷ 0 ∷ 0 ∷ 0 ∷ 0 ∷ 0 ∷ 0 ∷ 0 ∷ 0 ∷ 0 ∷ 0 ∷ 0 ∷ 88 ∷ []

pub byte_more : IsFirst with_a_byte_more Trailing
byte_more = (
  (inl refl, lit≤ tt),
  record { least = lit≤ tt; most = lit≤ tt; first = refl; second = refl },
  record {
    constants = omega arith;
    slots = omega arith;
    blocks = omega arith;
    starts = omega arith;
    words = omega arith;
    functions = omega arith;
  },
  lit< tt,
)

-- one of version 2 with a function, and 8 bytes of that
abbrev pub with_half_a_function : List ℕ
with_half_a_function =
    68 ∷ 76 ∷ 73 ∷ 76 ∷ 2 ∷ 1 ∷ 0 ∷ 0 ∷ 0 ∷ 0 ∷ 0 ∷ 0 ∷ 0 ∷ 0 ∷ 0 ∷ 0 ∷ 0 ∷ 0 ∷ 0 ∷ 0 ∷ 0 ∷ 0 ∷ 0 ∷ 0 ∷ 0 ∷ 0 ∷ 0 ∷ 0 ∷ 1 ∷ 0 ∷ 0 ∷ 0
    ∷ 70 ∷ 85 ∷ 78 ∷ 67 ∷ 84 ∷ 73 ∷ 79 ∷ 78 ∷ []

pub half_a_function : IsFirst with_half_a_function Cut
half_a_function = inr (
  (inr refl, lit≤ tt),
  record { least = lit≤ tt; most = lit≤ tt; first = refl; second = refl },
  record {
    constants = omega arith;
    slots = omega arith;
    blocks = omega arith;
    starts = omega arith;
    words = omega arith;
    functions = lit≤ tt;
  },
  lit< tt,
)
