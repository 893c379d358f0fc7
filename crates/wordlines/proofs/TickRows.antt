-- Ticks of one line: each of them follows those before it, where the first does, and the clock comes to the last.
use Rattle.std.proofs.Common.{◌≡◌, ◌∙◌, ◌↔◌, ℕ, zero, suc, ◌+◌, ◌≤◌, List, [], ◌∷◌, ◌++◌, map, length, Option, Some}
use Rattle.std.proofs.Common.{Bool, true, ap, sym, subst, append_assoc, arith}
use Rattle.std.specs.Prelude.{IfSome, IsTrue}
use Rattle.std.specs.List.{fold, range_with_len}
use Rattle.std.proofs.Math.Nat.{add-mul}
use Rattle.std.proofs.lemmas.List.FromFn.{map-range_with_len_more}
use Rattle.std.proofs.lemmas.List.Sums.{fold-append}
use Rattle.wordlines.specs.Entries.{first_ticks, statements_of}
use Rattle.wordlines.specs.Following.{FollowOneAnother, MayStand, clock, clock_after, most_statements}
use Rattle.wordlines.specs.TickRows.{TickRow, further, moment_at}
use Rattle.wordlines.specs.declared.entries.ScenarioEntry.{ScenarioEntry}
use Rattle.wordlines.specs.declared.entries.ScenarioEntry.TheVariants.{Ticks}
use Rattle.wordlines.specs.declared.statements.Statement.{Statement}
use Rattle.wordlines.specs.declared.statements.Statement.TheVariants.{Tick}
use Rattle.wordlines.proofs.Orders.{clock-push}

-- each comes later than the one before
later : (row : TickRow) (place : ℕ) → moment_at row place ≤ moment_at row (place + 1)
later row place = let more = add-mul place 1 row.every in omega (arith, more)

-- ticks from a place on follow one another where the first one does
from_place : (row : TickRow) (before : List Statement) (place count : ℕ)
    → IfSome (clock before) (λ last. last ≤ moment_at row place)
    → FollowOneAnother before (map (λ place. Tick (moment_at row place)) (range_with_len place count))
from_place row before place zero in_time = tt
from_place row before place (suc count) in_time =
    let tick : Statement = Tick (moment_at row place) in (
      record { known = tt; in_time = in_time },
      from_place row (before ++ tick ∷ []) (place + 1) count
          (subst (λ (now : Option ℕ). IfSome now (λ last. last ≤ moment_at row (place + 1)))
          (sym (clock-push before tick)) (later row place)),
    )

counted : (count : ℕ) → count + 1 ≡ suc count
counted count = omega arith

first_moment : (row : TickRow) → moment_at row 0 ≡ row.from
first_moment row = omega arith

-- those of a row follow where the first one is not before the clock
row_follows : (row : TickRow) (before : List Statement)
    → IfSome (clock before) (λ last. last ≤ row.from) ↔ FollowOneAnother before (statements_of (Ticks row))
row_follows row before = (
  λ in_time. from_place row before 0 (further row + 1)
      (subst (λ (moment : ℕ). IfSome (clock before) (λ last. last ≤ moment)) (sym (first_moment row)) in_time),
  λ order.
      let first : FollowOneAnother before (first_ticks row (suc (further row))) =
      subst (λ (count : ℕ). FollowOneAnother before (first_ticks row count)) (counted (further row)) order in
      subst (λ (moment : ℕ). IfSome (clock before) (λ last. last ≤ moment)) (first_moment row) first.0.in_time,
)

-- they may stand where the first one is not before the clock, and there is room
pub row_stands : (row : TickRow) (before : List Statement) (now : Option ℕ) (entry : ScenarioEntry) (moment : ℕ)
    (upto room : Bool) → entry ≡ Ticks row → moment ≡ row.from → now ≡ clock before → upto ≡ true
    → IsTrue upto ↔ IfSome now (λ last. last ≤ moment)
    → IsTrue room ↔ (length before + (further row + 1) ≤ most_statements)
    → IsTrue room ↔ MayStand before entry
row_stands row before now entry moment upto room is first clocked up in_time has_room =
    let here : IfSome now (λ last. last ≤ row.from) =
    subst (λ (m : ℕ). IfSome now (λ last. last ≤ m)) first (in_time.0 up) in
    let there = subst (λ (n : Option ℕ). IfSome n (λ last. last ≤ row.from)) clocked here in (
      λ has. subst (MayStand before) (sym is)
          (record { order = (row_follows row before).0 there; room = has_room.0 has }),
      λ stands. has_room.1 (subst (MayStand before) is stands).room,
    )

-- one tick more
pub ticks_more : (row : TickRow) (count : ℕ)
    → first_ticks row (count + 1) ≡ first_ticks row count ++ Tick (moment_at row count) ∷ []
ticks_more row count = map-range_with_len_more (λ place. Tick (moment_at row place)) 0 count count (omega arith)

pub one_tick_more : (row : TickRow) (count : ℕ) (before known more : List Statement)
    → known ≡ before ++ first_ticks row count → more ≡ known ++ Tick (moment_at row count) ∷ []
    → more ≡ before ++ first_ticks row (count + 1)
one_tick_more row count before known more is then =
    then
    ∙ ap (λ (es : List Statement). es ++ Tick (moment_at row count) ∷ []) is
    ∙ append_assoc before (first_ticks row count) (Tick (moment_at row count) ∷ [])
    ∙ ap (λ (es : List Statement). before ++ es) (sym (ticks_more row count))

-- the clock comes to the last one
pub row_clock : (row : TickRow) (now : Option ℕ)
    → Some (moment_at row (further row)) ≡ fold clock_after now (statements_of (Ticks row))
row_clock row now =
    sym (ap (fold clock_after now) (ticks_more row (further row))
    ∙ fold-append clock_after now (first_ticks row (further row)) (Tick (moment_at row (further row)) ∷ []))
