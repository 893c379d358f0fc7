-- When values in a row are known within others.
use Rattle.std.specs.Prelude.{◌≡◌, ℕ, List, length, Some, slice_get}
use Rattle.ilverify.specs.declared.known.Known.{Known}
use Rattle.ilverify.specs.Knowns.{IsKnownWithin}

-- each of the first list says no less than that of the second at its place
pub record AreWithin (knowns wider : List Known) : Type 0 where
  pub long : length knowns ≡ length wider
  pub each : (place : ℕ) (known other : Known) → slice_get knowns place ≡ Some known
      → slice_get wider place ≡ Some other
      → IsKnownWithin known other
