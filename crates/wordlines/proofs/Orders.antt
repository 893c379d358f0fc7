-- Statements one after another: one more statement, and that ticks never fall.
use Rattle.std.proofs.Common.{◌≡◌, ℕ, ◌≤◌, List, [], ◌∷◌, ◌++◌, Option, Some, None, sym, subst, append_assoc}
use Rattle.std.proofs.Common.{append-nil, arith}
use Rattle.std.specs.Prelude.{IfSome, unwrap_or, All}
use Rattle.std.specs.List.{AllPairs, cons_option, fold}
use Rattle.std.proofs.lemmas.List.Elements.{All-nil, All-cons, All-weaker}
use Rattle.std.proofs.lemmas.List.Kept.{AllPairs-cons}
use Rattle.std.proofs.lemmas.List.Sums.{fold-append}
use Rattle.wordlines.specs.Following.{FollowOneAnother, IsInTime, clock, clock_after}
use Rattle.wordlines.specs.Happenings.{tick_in, ticks}
use Rattle.wordlines.specs.declared.statements.Statement.{Statement}
use Rattle.wordlines.specs.declared.statements.Statement.TheVariants.{Gear, LampFailure, Memory, Device}
use Rattle.wordlines.specs.declared.statements.Statement.TheVariants.{InputInstance, Reply, HearFault, Tick, Event}

-- more statements
pub follow-append : (before statements more : List Statement) → FollowOneAnother before statements
    → FollowOneAnother (before ++ statements) more
    → FollowOneAnother before (statements ++ more)
follow-append before [] more order follow =
    subst (λ (es : List Statement). FollowOneAnother es more) (append-nil before) follow
follow-append before (first ∷ statements) more order follow = (
  order.0,
  follow-append (before ++ first ∷ []) statements more order.1
      (subst (λ (es : List Statement). FollowOneAnother es more) (sym (append_assoc before (first ∷ []) statements))
      follow),
)

pub clock-append : (before statements : List Statement)
    → clock (before ++ statements) ≡ fold clock_after (clock before) statements
clock-append before statements = fold-append clock_after None before statements

pub clock-push : (statements : List Statement) (statement : Statement)
    → clock (statements ++ statement ∷ []) ≡ clock_after (clock statements) statement
clock-push statements statement = fold-append clock_after None statements (statement ∷ [])

-- no moment is before the clock
abbrev NoneBefore : Option ℕ → List ℕ → Type 0
NoneBefore now moments = IfSome now (λ low. All (λ moment. low ≤ moment) moments)

abbrev NeverFall : List ℕ → Type 0
NeverFall moments = AllPairs (λ earlier later. earlier ≤ later) moments

from_tick : (now : Option ℕ) (moment : ℕ) (more : List ℕ) → IfSome now (λ last. last ≤ moment)
    → All (λ later. moment ≤ later) more
    → NoneBefore now (moment ∷ more)
from_tick None moment more in_time rest = tt
from_tick (Some last) moment more in_time rest =
    All-cons (λ later. last ≤ later) moment more in_time
    (All-weaker (λ later. moment ≤ later) (λ later. last ≤ later) (λ later up. omega (arith, in_time, up)) more rest)

from_event : (now : Option ℕ) (more : List ℕ) → NoneBefore (Some (unwrap_or now 0)) more → NoneBefore now more
from_event None more rest = tt
from_event (Some last) more rest = rest

one_statement_more : (now : Option ℕ) (statement : Statement) (more : List ℕ) → IsInTime now statement
    → NoneBefore (clock_after now statement) more → NeverFall more
    → NoneBefore now (cons_option (tick_in statement) more) × NeverFall (cons_option (tick_in statement) more)
one_statement_more now (Gear bus short start) more in_time rest rise = (rest, rise)
one_statement_more now (LampFailure bus short) more in_time rest rise = (rest, rise)
one_statement_more now (Memory bus short bank offset value) more in_time rest rise = (rest, rise)
one_statement_more now (Device bus short) more in_time rest rise = (rest, rise)
one_statement_more now (InputInstance bus short number kind scheme value) more in_time rest rise = (rest, rise)
one_statement_more now (Reply bus place fate) more in_time rest rise = (rest, rise)
one_statement_more now (HearFault bus) more in_time rest rise = (rest, rise)
one_statement_more now (Event bus frame) more in_time rest rise = (from_event now more rest, rise)
one_statement_more now (Tick moment) more in_time rest rise =
    (from_tick now moment more in_time rest, AllPairs-cons (λ earlier later. earlier ≤ later) moment more rest rise)

none_before_none : (now : Option ℕ) → NoneBefore now []
none_before_none None = tt
none_before_none (Some low) = All-nil (λ moment. low ≤ moment)

ticks_after : (before statements : List Statement) → FollowOneAnother before statements
    → NoneBefore (clock before) (ticks statements) × NeverFall (ticks statements)
ticks_after before [] order = (none_before_none (clock before), λ i j d less within. absurd (omega arith))
ticks_after before (statement ∷ statements) order =
    let rest = ticks_after (before ++ statement ∷ []) statements order.1 in
    let later = subst (λ (now : Option ℕ). NoneBefore now (ticks statements)) (clock-push before statement) rest.0 in
    one_statement_more (clock before) statement (ticks statements) order.0.in_time later rest.1

-- the ticks of a scenario never fall
pub ticks_never_fall : (statements : List Statement) → FollowOneAnother [] statements
    → AllPairs (λ earlier later. earlier ≤ later) (ticks statements)
ticks_never_fall statements order = (ticks_after [] statements order).1
