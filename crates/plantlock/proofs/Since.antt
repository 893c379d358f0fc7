-- The receipts of a Share are its role's events since the start.
use Rattle.std.proofs.Common.{◌≡◌, ◌∙◌, ℕ, ◌+◌, Bool, true, false, List, [], ◌∷◌, ◌++◌, length, refl, sym, ap, arith}
use Rattle.std.proofs.lemmas.List.{append_cancel_right, length-append}
use Rattle.std.specs.Prelude.{if◌then◌else◌, map}
use Rattle.plantevents.specs.declared.event.Event.{Event}
use Rattle.plantevents.specs.declared.role.Role.{Role}
use Rattle.plantevents.specs.Parts.{Placed, placed, part, is_same_role, role_of}
use Rattle.plantreceipts.specs.Each.{Each}
use Rattle.plantreceipts.specs.Receipts.{ShareParts, HasReceipts, HaveParts, moved, part_after}
use Rattle.plantlock.specs.Tied.{IsMet}

one_since : (b : Bool) (e : Event) (n m k : ℕ) (x y z : List Placed) → k ≡ n + m → x ≡ map (moved n) y ++ z
    → (if b then placed k e ∷ x else x) ≡ map (moved n) (if b then placed m e ∷ y else y) ++ z
one_since true e n m k x y z place is =
    ap (λ (i : ℕ). placed i e ∷ x) place ∙ ap (λ (l : List Placed). placed (n + m) e ∷ l) is
one_since false e n m k x y z place is = is

part_since : (role : Role) (later start : List Event)
    → part role (later ++ start) ≡ part_after (length start) role later ++ part role start
part_since role [] start = refl
part_since role (e ∷ h) start =
    let long = length-append h start in
    one_since (is_same_role (role_of e) role) e (length start) (length h) (length (h ++ start)) (part role (h ++ start))
    (part role h) (part role start) (omega (arith, long)) (part_since role h start)

pub has_receipts : (start later h : List Event) (s : ShareParts) → h ≡ later ++ start → IsMet start s h
    → HasReceipts s (length start) later
has_receipts start later h s is met = record {
  is = append_cancel_right s.receipts (part_after (length start) s.role later) (part s.role start)
      (ap (λ (b : List Placed). s.receipts ++ b) (sym met.before) ∙ met.now ∙ ap (part s.role) is
      ∙ part_since s.role later start);
}

pub have_parts : (start h : List Event) (shares : List ShareParts) → Each (λ k s. IsMet start s h) 0 shares
    → HaveParts shares h
have_parts start h shares met k s is = record { is = (met k s is).now }

pub have_receipts : (start later h : List Event) (shares : List ShareParts) → h ≡ later ++ start
    → Each (λ k s. IsMet start s h) 0 shares → Each (λ k s. HasReceipts s (length start) later) 0 shares
have_receipts start later h shares since met k s is = has_receipts start later h s since (met k s is)
