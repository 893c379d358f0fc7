-- A file says one binding at most, its fault is one, and a binding has none.
use Rattle.std.proofs.Common.{◌≡◌, ℕ, ◌≤◌, List, Some, None, length, sym, ◌∙◌, inl, inr}
use Rattle.limits.specs.Limits.{most_bytes}
use Rattle.wordlines.proofs.LineReading as reading
use Rattle.wordlines.specs.Bindings.{binding_rules, IsBinding, IsBadBinding}
use Rattle.wordlines.specs.Wirings.{Wiring}
use Rattle.wordlines.proofs.Spelled.{says_one}

pub one_wiring : (bytes : List ℕ) (a b : Wiring) → IsBinding bytes a → IsBinding bytes b → a ≡ b
one_wiring bytes a b f g =
    let same = reading.led_one binding_rules says_one None bytes (Some a) (Some b) f g in cc

pub no_fault : (bytes : List ℕ) (line : ℕ) (wiring : Wiring) → IsBadBinding bytes line → ¬ IsBinding bytes wiring
no_fault bytes line wiring (inl f) b = reading.led_not_bad binding_rules says_one None bytes line (Some wiring) f b
no_fault bytes line wiring (inr f) b =
    let same = reading.led_one binding_rules says_one None bytes None (Some wiring) f.0 b in cc

pub fault_one : (bytes : List ℕ) (j k : ℕ) → IsBadBinding bytes j → IsBadBinding bytes k → j ≡ k
fault_one bytes j k (inl f) (inl g) = reading.bad_line_one binding_rules says_one None bytes j k f g
fault_one bytes j k (inl f) (inr g) = absurd (reading.led_not_bad binding_rules says_one None bytes j None f g.0)
fault_one bytes j k (inr f) (inl g) = absurd (reading.led_not_bad binding_rules says_one None bytes k None g f.0)
fault_one bytes j k (inr f) (inr g) = f.1 ∙ sym g.1

pub fault_short : (bytes : List ℕ) (line : ℕ) → IsBadBinding bytes line → length bytes ≤ most_bytes
fault_short bytes line (inl f) = f.short
fault_short bytes line (inr f) = f.0.short
