-- What a ledger's number and the token of the newest cell say of a role's receipts.
use Rattle.std.specs.Prelude.{◌≡◌, ℕ, ◌+◌, ◌*◌, ◌-◌, ◌<◌, Bool, if◌then◌else◌, List, []}
use Rattle.std.specs.Prelude.{Option, Some, None, slice_index_or}
use Rattle.std.specs.Sync.OnceLock.{Named}
use Rattle.std.specs.declared.sync.OnceToken.{OnceToken}
use Rattle.plantevents.specs.Parts.{Placed}
use Rattle.plantreceipts.specs.declared.receipt.NotedPart.{NotedPart}

-- as a number
abbrev pub one_if : Bool → ℕ
one_if b = if b then 1 else 0

abbrev pub no_lock : Named
no_lock = record { id = 0 }

abbrev pub id_at : List Named → ℕ → ℕ
id_at cells k = (slice_index_or cells k no_lock).id

-- n is one more than the place of the newest receipt, and the token is that of its cell, the first of which is that of
-- the place `base`; or there is none
abbrev pub Held : ℕ → List Named → ℕ → Option (OnceToken NotedPart) → List Placed → Type 0
Held base cells n (Some t) receipts = (base < n) × (t.of ≡ id_at cells (n - 1 - base)) × (t.value ≡ receipts)
Held base cells n None receipts = (n ≡ 0) × (receipts ≡ [])

-- a ledger's number, with the token, says how far the receipts reach, whether a place is kept back, and the receipts
pub record Says (base : ℕ) (cells : List Named) (number : ℕ) (token : Option (OnceToken NotedPart)) (reach : ℕ)
    (reserved : Bool) (receipts : List Placed) : Type 0 where
  pub numbered : number ≡ 2 * reach + one_if reserved
  pub held : Held base cells reach token receipts
