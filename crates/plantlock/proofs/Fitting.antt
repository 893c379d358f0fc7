-- What is known where an event is filed: its place is the last one of the history, there is a cell for it, and no
-- number says a later place.
use Rattle.std.proofs.Common.{◌≡◌, ℕ, suc, ◌+◌, ◌-◌, ◌*◌, ◌<◌, ◌≤◌, List, length, Option, ap, arith}
use Rattle.std.proofs.lemmas.List.{length-append}
use Rattle.std.specs.Sync.OnceLock.{Named}
use Rattle.std.specs.declared.sync.OnceToken.{OnceToken}
use Rattle.limits.specs.Limits.{most_total}
use Rattle.plantevents.specs.declared.event.Event.{Event}
use Rattle.plantevents.specs.declared.role.Role.{Role}
use Rattle.plant.specs.Shown.{Shown, grown, is_reserved}
use Rattle.plantreceipts.specs.declared.receipt.NotedPart.{NotedPart}
use Rattle.plantreceipts.specs.Receipts.{IsRole, seat_of}
use Rattle.plantreceipts.proofs.Noting.{one_if_most}
use Rattle.plantlock.specs.Tied.{AreTied, IsFront}

-- the place of the newest event
pub place_of : (p q : Shown) (e : Event) (n : ℕ) → q ≡ grown p e → n ≡ length q.history
    → (1 ≤ n) × (n - 1 ≡ length p.history)
place_of p q e n is value =
    let long : length q.history ≡ suc (length p.history) = ap (λ (x : Shown). length x.history) is in
    (omega (arith, value, long), omega (arith, value, long))

front_below : (start h : List Event) → IsFront start h → length start ≤ length h
front_below start h front =
    let long = length-append front.later start in let same = ap length front.is in omega (arith, long, same)

-- where an event is filed
pub record HasCell (start : Shown) (cells index : ℕ) : Type 0 where
  pub from : length start.history ≤ index
  pub within : index < length start.history + cells
  pub small : index < most_total

pub has_cell : (cells : List Named) (start p q : Shown) (numbers : ℕ × ℕ → ℕ)
    (tokens : List (Option (OnceToken NotedPart))) (e : Event) (n kept : ℕ)
    → AreTied cells start p numbers tokens → q ≡ grown p e → n ≡ length q.history → length q.history + kept ≤ q.limit
    → q.limit ≤ most_total → HasCell start (length cells) (n - 1)
has_cell cells start p q numbers tokens e n kept tied is value within most =
    let place = place_of p q e n is value in
    let long : length q.history ≡ suc (length p.history) = ap (λ (x : Shown). length x.history) is in
    let same : q.limit ≡ p.limit = ap (λ (x : Shown). x.limit) is in
    let enough = tied.enough in let front = front_below start.history p.history tied.front in
    record { from = omega arith; within = omega arith; small = omega arith }

-- the number of a role says no place after the history
pub not_later : (cells : List Named) (start p : Shown) (numbers : ℕ × ℕ → ℕ)
    (tokens : List (Option (OnceToken NotedPart))) (r : Role) → IsRole start.plant r → AreTied cells start p numbers tokens
    → numbers (seat_of r) ≤ 2 * length p.history + 1
not_later cells start p numbers tokens r known tied =
    let was = tied.each r known in
    let most = one_if_most (is_reserved r p) in let is = was.says.numbered in let low = was.below in omega arith
