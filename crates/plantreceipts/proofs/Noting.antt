-- What is so of a Share when an event is noted: its number grows, and it has one receipt more.
use Rattle.std.proofs.Common.{◌≡◌, ◌≢◌, ℕ, ◌+◌, ◌*◌, ◌-◌, ◌<◌, ◌≤◌, Bool, true, false, Fits, w64}
use Rattle.std.proofs.Common.{List, [], ◌∷◌, Option, Some, refl, sym, ap, subst, ◌∙◌, arith}
use Rattle.limits.specs.Limits.{most_total}
use Rattle.std.specs.Sync.OnceLock.{Named}
use Rattle.std.specs.declared.sync.OnceToken.{OnceToken}
use Rattle.plantevents.specs.declared.event.Event.{Event}
use Rattle.plantevents.specs.Parts.{Placed, placed}
use Rattle.plantreceipts.specs.declared.receipt.NotedPart.{NotedPart}
use Rattle.plantreceipts.specs.Receipts.{ShareParts, IsNoted, reach_of, seat_of, reserved_after}
use Rattle.plantreceipts.specs.Tokens.{Says, Held, one_if, id_at}

-- ---- numbers

pub one_if_most : (b : Bool) → one_if b ≤ 1
one_if_most true = omega arith
one_if_most false = omega arith

-- the number says no place after this one
pub not_later : (number : ℕ × ℕ → ℕ) (base : ℕ) (cells : List Named) (seat : ℕ × ℕ) (amount index reach bit : ℕ)
    (newest : Option (OnceToken NotedPart)) (s t : ShareParts) → s ≡ t → number seat ≡ amount → seat ≡ seat_of s.role
    → Says base cells amount newest reach s.reserved s.receipts → bit ≡ one_if s.reserved
    → number (seat_of t.role) ≤ 2 * index + 1 → 2 * reach + bit ≤ 2 * index + 1
not_later number base cells seat amount index reach bit newest s t same counted seated says kept order =
    let is : number (seat_of t.role) ≡ 2 * reach + bit =
    ap (λ (x : ShareParts). number (seat_of x.role)) (sym same) ∙ ap number (sym seated) ∙ counted ∙ says.numbered
    ∙ ap (λ (b : ℕ). 2 * reach + b) (sym kept) in
    subst (λ (n : ℕ). n ≤ 2 * index + 1) is order

pub twice_fits : (index reach bit : ℕ) → index < most_total → 2 * reach + bit ≤ 2 * index + 1 → Fits w64 (2 * reach)
twice_fits index reach bit small order = omega arith

pub was_fits : (index reach bit : ℕ) → index < most_total → 2 * reach + bit ≤ 2 * index + 1 → Fits w64 (2 * reach + bit)
was_fits index reach bit small order = omega arith

pub next_fits : (index : ℕ) → index < most_total → Fits w64 (index + 1)
next_fits index small = omega arith

pub next_twice_fits : (index : ℕ) → index < most_total → Fits w64 (2 * (index + 1))
next_twice_fits index small = omega arith

pub is_fits : (index bit : ℕ) (reserved : Bool) → index < most_total → bit ≡ one_if reserved
    → Fits w64 (2 * (index + 1) + bit)
is_fits index bit reserved small is = let most = one_if_most reserved in omega arith

pub grows : (was index bit : ℕ) → was ≤ 2 * index + 1 → was ≤ 2 * (index + 1) + bit
grows was index bit order = omega arith

-- what it grows to
pub grown : (amount then reach index bit next after : ℕ) (reserved kept : Bool) → then ≡ amount
    → amount ≡ 2 * reach + one_if reserved → bit ≡ one_if reserved → next ≡ one_if kept
    → 2 * reach + bit ≤ 2 * (index + 1) + next → after ≡ then + (2 * (index + 1) + next - (2 * reach + bit))
    → after ≡ 2 * (index + 1) + one_if kept
grown amount then reach index bit next after reserved kept same is was will order more = omega arith

pub others_stay : (after then before : ℕ × ℕ → ℕ) (seat at : ℕ × ℕ) → seat ≡ at
    → ((k : ℕ × ℕ) → k ≢ seat → after k ≡ then k) → ((k : ℕ × ℕ) → then k ≡ before k) → (k : ℕ × ℕ) → k ≢ at
    → after k ≡ before k
others_stay after then before seat at same others still k apart = others k (λ e. apart (e ∙ same)) ∙ still k

-- ---- receipts

pub one_more : (receipts after : List Placed) (receipt p : Placed) → after ≡ receipt ∷ receipts → receipt ≡ p
    → after ≡ p ∷ receipts
one_more receipts after receipt p pushed is = pushed ∙ ap (λ (r : Placed). r ∷ receipts) is

pub is_noted : (index : ℕ) (event : Event) (s t u : ShareParts) → s ≡ t → u.role ≡ s.role
    → u.receipts ≡ placed index event ∷ s.receipts → u.before ≡ s.before
    → u.reserved ≡ reserved_after event s.reserved → IsNoted index event t u
is_noted index event s t u same role receipts before reserved =
    subst (λ (x : ShareParts). IsNoted index event x u) same (record {
      role = role;
      receipts = receipts;
      before = before;
      reserved = reserved;
    })

-- where there is a receipt, they reach above 0
pub reaches : (receipts : List Placed) (reach : ℕ) → receipts ≢ [] → reach ≡ reach_of receipts → 1 ≤ reach
reaches [] reach some is = absurd (some refl)
reaches (newest ∷ older) reach some is = omega (arith, is)

pub one_less : (receipts : List Placed) (reach : ℕ) → receipts ≢ [] → reach ≡ reach_of receipts
    → reach_of receipts ≡ reach - 1 + 1
one_less receipts reach some is = let low = reaches receipts reach some is in omega (arith, is, low)

-- the token is that of the cell, which has the receipts
pub noted_held : (cells all : List Named) (index base start : ℕ) (cell : Named) (token : OnceToken NotedPart)
    (receipts : List Placed) → cells ≡ all → base ≡ start → start ≤ index → cell.id ≡ id_at cells (index - base)
    → token.of ≡ cell.id → token.value ≡ receipts → Held start all (index + 1) (Some token) receipts
noted_held cells all index base start cell token receipts same based from is of value =
    let here : index - base ≡ index + 1 - 1 - start = omega arith in (
      omega arith,
      of ∙ is ∙ ap (λ (xs : List Named). id_at xs (index - base)) same ∙ ap (λ (k : ℕ). id_at all k) here,
      value,
    )
