-- What the receipts of a role say of the history.
use Rattle.std.proofs.Common.{◌≡◌, ℕ, ◌+◌, false, List, ◌∷◌, ◌++◌, Some, Result, Ok, Err, OnOk, slice_get, refl, ap, sym, ◌∙◌, arith}
use Rattle.plantevents.specs.declared.role.Role.{Role}
use Rattle.plantevents.specs.declared.role.Role.TheVariants.{Clock}
use Rattle.plantevents.specs.declared.event.Event.{Event}
use Rattle.plantevents.specs.declared.event.Event.TheVariants.{Tick, Up}
use Rattle.plantevents.specs.Members.{Has}
use Rattle.plantevents.specs.Parts.{Placed, part, placed, shown_down, shown_moment}
use Rattle.plantreceipts.specs.Receipts.{ShareParts, HasPart, IsLastPlace, IsNoted, reach_of, whole}

pub on_ok : {A E P Q : Type 0} (given : Result A E) → OnOk given P → (P → Q) → OnOk given Q
on_ok (Ok x) holds gives = gives holds
on_ok (Err e) holds gives = tt

-- the newest event of the clock is that of the newest receipt
newest_of_clock : (h : List Event) (old new last : ShareParts) (n m : ℕ) → old.role ≡ Clock → IsNoted n (Tick m) old new
    → last ≡ new → HasPart last h → part Clock h ≡ placed n (Tick m) ∷ (old.receipts ++ last.before)
newest_of_clock h old new last n m role noted same has =
    let is_clock : Clock ≡ last.role = sym (ap (λ (s : ShareParts). s.role) same ∙ (noted.role ∙ role)) in
    let newest : last.receipts ≡ placed n (Tick m) ∷ old.receipts =
    ap (λ (s : ShareParts). s.receipts) same ∙ noted.receipts in
    ap (λ (r : Role). part r h) is_clock
    ∙ (sym has.is ∙ ap (λ (receipts : List Placed). receipts ++ last.before) newest)

pub in_plant : (h : List Event) (old new last : ShareParts) (n m : ℕ) → old.role ≡ Clock → IsNoted n (Tick m) old new
    → last ≡ new → HasPart last h → shown_moment (part Clock h) ≡ m
in_plant h old new last n m role noted same has =
    ap shown_moment (newest_of_clock h old new last n m role noted same has)

pub last_is : (old new : ShareParts) (n m place : ℕ) → IsNoted n (Tick m) old new → IsLastPlace place new.receipts
    → place ≡ n
last_is old new n m place noted is = let newest = ap reach_of noted.receipts in omega (arith, newest, is)

pub has_tick : (h : List Event) (old new last : ShareParts) (n m place : ℕ) → old.role ≡ Clock
    → IsNoted n (Tick m) old new → last ≡ new → HasPart last h → place ≡ n → Has (part Clock h) (placed place (Tick m))
has_tick h old new last n m place role noted same has at = (
  0,
  ap (λ (events : List Placed). slice_get events 0) (newest_of_clock h old new last n m role noted same has)
      ∙ ap (λ (k : ℕ). Some (placed k (Tick m))) (sym at),
)

pub shows_moment : (old new : ShareParts) (n m : ℕ) → IsNoted n (Tick m) old new → shown_moment (whole new) ≡ m
shows_moment old new n m noted =
    ap (λ (receipts : List Placed). shown_moment (receipts ++ new.before)) noted.receipts

pub shows_up : (old new : ShareParts) (n b : ℕ) → IsNoted n (Up b) old new → shown_down (whole new) ≡ false
shows_up old new n b noted = ap (λ (receipts : List Placed). shown_down (receipts ++ new.before)) noted.receipts
