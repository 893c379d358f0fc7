-- What the lock knows of each role, when an event is filed.
use Rattle.std.proofs.Common.{◌≡◌, ◌≢◌, ⊎_elim, ℕ, zero, suc, ◌+◌, ◌*◌, ◌<◌, ◌≤◌, Bool, true, false}
use Rattle.std.proofs.Common.{List, [], ◌∷◌, ◌++◌, length, get_or, set, Option, None, refl, sym, ap, ◌∙◌, subst, arith}
use Rattle.std.proofs.Math.ListN.{length-set}
use Rattle.std.proofs.lemmas.List.{get_or-set_same, get_or-set_other}
use Rattle.std.specs.Prelude.{slice_index_or}
use Rattle.std.specs.Sync.OnceLock.{Named}
use Rattle.std.specs.declared.sync.OnceToken.{OnceToken}
use Rattle.limits.specs.Limits.{most_seats}
use Rattle.plantevents.specs.declared.role.Role.{Role}
use Rattle.plantevents.specs.declared.event.Event.{Event}
use Rattle.plantevents.specs.Parts.{Placed, placed, part, role_of, is_same_role}
use Rattle.plantevents.proofs.Parting.{part_mine, part_other, role_tells}
use Rattle.plant.specs.Shown.{Shown, grown, reserving, is_reserved}
use Rattle.plantreceipts.specs.declared.receipt.NotedPart.{NotedPart}
use Rattle.plantreceipts.specs.Receipts.{IsRole, index_of, seat_of, reserved_after}
use Rattle.plantreceipts.specs.Seats.{AreCounted}
use Rattle.plantreceipts.specs.Tokens.{Held, Says, one_if}
use Rattle.plantreceipts.proofs.Roles.{index_below, index_apart, seat_apart}
use Rattle.plantlock.specs.Tied.{IsTied, AreTied, HasPlace}
use Rattle.plantlock.proofs.Places.{reserved_mine, reserved_other, reserved_now, reserved_then}

pub said_at : (base : ℕ) (cells : List Named) (n m r : ℕ) (t u : Option (OnceToken NotedPart)) (x y : Bool)
    (rs : List Placed) → n ≡ m → t ≡ u → x ≡ y → Says base cells n t r x rs → Says base cells m u r y rs
said_at base cells n m r t u x y rs a b c says = record {
  numbered = sym a ∙ says.numbered ∙ ap (λ (z : Bool). 2 * r + one_if z) c;
  held = subst (λ (v : Option (OnceToken NotedPart)). Held base cells r v rs) b says.held;
}

module _
    (cells : List Named) (start p : Shown) (numbers after : ℕ × ℕ → ℕ) (tokens : List (Option (OnceToken NotedPart)))
    (t : Option (OnceToken NotedPart)) (e : Event) (rs : List Placed) where
  abbrev mine : Role
  mine = role_of e

  abbrev n : ℕ
  n = length p.history

  pub files : AreTied cells start p numbers tokens → IsRole start.plant mine
      → rs ++ part mine start.history ≡ part mine p.history
      → Held (length start.history) cells (n + 1) t (placed n e ∷ rs)
      → after (seat_of mine) ≡ 2 * (n + 1) + one_if (reserved_after e (is_reserved mine p))
      → ((k : ℕ × ℕ) → k ≢ seat_of mine → after k ≡ numbers k)
      → AreTied cells start (grown p e) after (set tokens (index_of mine) t)
  files tied known since held here others = record {
    same_plant = tied.same_plant;
    same_limit = tied.same_limit;
    front = record { later = e ∷ tied.front.later; is = ap (λ h. e ∷ h) tied.front.is };
    enough = tied.enough;
    slots = length-set tokens (index_of mine) t ∙ tied.slots;
    each = λ q low. ⊎_elim (own q) (other q low) (role_tells mine q);
  }
    where
      Fine : Role → Type 0
      Fine q = IsTied cells start (grown p e) after (set tokens (index_of mine) t) q

      own : (q : Role) → (is_same_role mine q ≡ true) × (mine ≡ q) → Fine q
      own q is =
          let room : index_of mine < length tokens =
          let a = tied.slots in let b = index_below start.plant mine known in omega arith in
          subst Fine is.1 (record {
            reach = n + 1;
            receipts = placed n e ∷ rs;
            says = record {
              numbered = here ∙ ap (λ (x : Bool). 2 * (n + 1) + one_if x) (sym (reserved_mine p e));
              held = subst
                  (λ (v : Option (OnceToken NotedPart)).
                  Held (length start.history) cells (n + 1) v (placed n e ∷ rs))
                  (sym (get_or-set_same tokens (index_of mine) t None room)) held;
            };
            since = ap (λ (x : List Placed). placed n e ∷ x) since ∙ sym (part_mine e p.history);
            below = omega arith;
          })

      other : (q : Role) → IsRole start.plant q → (is_same_role mine q ≡ false) × (mine ≢ q) → Fine q
      other q low is =
          let was = tied.each q low in
          let away : index_of q ≢ index_of mine =
          λ (same : index_of q ≡ index_of mine). is.1 (index_apart start.plant mine q known low (sym same)) in
          record {
            reach = was.reach;
            receipts = was.receipts;
            says = said_at (length start.history) cells _ _ was.reach _ _ _ _ was.receipts
                (sym (others (seat_of q) (seat_apart start.plant mine q known low is.1)))
                (sym (get_or-set_other tokens (index_of mine) (index_of q) t None away))
                (sym (reserved_other p q e is.1)) was.says;
            since = was.since ∙ sym (part_other q e p.history is.0);
            below = let b = was.below in omega arith;
          }

pub get_or_any : {A : Type 0} → (xs : List A) (i : ℕ) (d e : A) → i < length xs → get_or xs i d ≡ get_or xs i e
get_or_any [] i d e h = absurd (omega arith)
get_or_any (x ∷ xs) zero d e h = refl
get_or_any (x ∷ xs) (suc i) d e h = get_or_any xs i d e (omega arith)

-- the same under the role's own name
pub filed : (cells : List Named) (start p : Shown) (numbers after : ℕ × ℕ → ℕ)
    (tokens : List (Option (OnceToken NotedPart))) (t : Option (OnceToken NotedPart)) (e : Event) (rs : List Placed)
    (r : Role) → role_of e ≡ r → AreTied cells start p numbers tokens → IsRole start.plant r
    → rs ++ part r start.history ≡ part r p.history
    → Held (length start.history) cells (length p.history + 1) t (placed (length p.history) e ∷ rs)
    → after (seat_of r) ≡ 2 * (length p.history + 1) + one_if (reserved_after e (is_reserved r p))
    → ((k : ℕ × ℕ) → k ≢ seat_of r → after k ≡ numbers k)
    → AreTied cells start (grown p e) after (set tokens (index_of r) t)
filed cells start p numbers after tokens t e rs r is tied =
    rw (← is) (files cells start p numbers after tokens t e rs tied)

-- a place is kept back for one role
pub keeps : (cells : List Named) (start p : Shown) (numbers after : ℕ × ℕ → ℕ)
    (tokens : List (Option (OnceToken NotedPart))) (r : Role) → AreTied cells start p numbers tokens
    → IsRole start.plant r → HasPlace r p → after (seat_of r) + one_if (is_reserved r p) ≡ numbers (seat_of r) + 1
    → ((k : ℕ × ℕ) → k ≢ seat_of r → after k ≡ numbers k)
    → AreTied cells start (reserving r p) after tokens
keeps cells start p numbers after tokens r tied known has here others = record {
  same_plant = tied.same_plant;
  same_limit = tied.same_limit;
  front = tied.front;
  enough = tied.enough;
  slots = tied.slots;
  each = λ q low. ⊎_elim (own q) (other q low) (role_tells r q);
}
  where
    Fine : Role → Type 0
    Fine q = IsTied cells start (reserving r p) after tokens q

    own : (q : Role) → (is_same_role r q ≡ true) × (r ≡ q) → Fine q
    own q is =
        let was = tied.each r known in
        subst Fine is.1 (record {
          reach = was.reach;
          receipts = was.receipts;
          says = record {
            numbered = let n = was.says.numbered in
                omega (arith, n, here) ∙ ap (λ (x : Bool). 2 * was.reach + one_if x) (sym (reserved_now r p has));
            held = was.says.held;
          };
          since = was.since;
          below = was.below;
        })

    other : (q : Role) → IsRole start.plant q → (is_same_role r q ≡ false) × (r ≢ q) → Fine q
    other q low is =
        let was = tied.each q low in
        record {
          reach = was.reach;
          receipts = was.receipts;
          says = said_at (length start.history) cells _ _ was.reach _ _ _ _ was.receipts
              (sym (others (seat_of q) (seat_apart start.plant r q known low is.1))) refl
              (sym (reserved_then r q p is.1)) was.says;
          since = was.since;
          below = was.below;
        }

-- what lies under the lock at the start
pub starts : (cells : List Named) (start : Shown) (numbers : ℕ × ℕ → ℕ) (tokens : List (Option (OnceToken NotedPart)))
    → start.limit ≤ length start.history + length cells → length tokens ≡ most_seats
    → ((k : ℕ) → k < most_seats → slice_index_or tokens k None ≡ None)
    → AreCounted start numbers most_seats
    → AreTied cells start start numbers tokens
starts cells start numbers tokens enough slots none numbered = record {
  same_plant = refl;
  same_limit = refl;
  front = record { later = []; is = refl };
  enough = enough;
  slots = slots;
  each = λ r known. record {
    reach = 0;
    receipts = [];
    says = record {
      numbered = let e = numbered r known (index_below start.plant r known) in omega (arith, e);
      held = subst (λ (v : Option (OnceToken NotedPart)). Held (length start.history) cells 0 v [])
          (sym (none (index_of r) (index_below start.plant r known))) (refl, refl);
    };
    since = refl;
    below = omega arith;
  };
}
