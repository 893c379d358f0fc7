-- What turns come to by their answers.
use Rattle.std.proofs.Common.{◌≡◌, ◌⊎◌, ⊎_elim, ℕ, ◌<◌, Bool, true, false, Result, Ok, Err, IfOk, OnOk, ap, arith, refl, subst}
use Rattle.buslink.specs.BusLog.{BusLog, one_more}
use Rattle.buslink.specs.ClockLog.{ClockLog}
use Rattle.plantdriving.specs.declared.halt.Halt.{Halt}
use Rattle.plantdriving.specs.Links.{HasGrown}
use Rattle.plantreceipts.specs.Receipts.{ShareParts}
use Rattle.plantturns.specs.declared.turn.Turn.{Turn}
use Rattle.plantturns.specs.declared.turn.Turn.TheVariants as turns
use Rattle.plantturns.specs.Logs.{HasEnded}
use Rattle.plantturns.specs.Outcomes.{ComesUp}

more : (before after : ℕ) → before ≡ 7 → HasGrown before after → 7 < after
more before after seven grown =
    ⊎_elim (λ (above : before < after). omega (arith, seven)) (λ most. omega (arith, most)) grown.1

-- a bus that was asked seven times was asked once more
pub asked : {down : Bool} (given : Result Turn Halt) (before after : ℕ) → before ≡ 7 → down ≡ false
    → OnOk given (down ≡ false → HasGrown before after) → OnOk given (7 < after)
asked (Ok turn) before after seven up grown = more before after seven (grown up)
asked (Err halt) before after seven up grown = tt

pub taken_up : (bus : ℕ) (s t : ShareParts) (log after : BusLog) (given : Result Turn Halt)
    → ComesUp bus s t log after given → given ≡ Ok turns.Busy → after.mends ≡ one_more log.mends
taken_up bus s t log after given comes busy =
    let up = subst (λ (r : Result Turn Halt). ComesUp bus s t log after r) busy comes in
    ap (λ (l : BusLog). l.mends) up.line

pub asked_where_idle : (bus : ℕ) (s t : ShareParts) (log after : BusLog) (given : Result Turn Halt)
    → ComesUp bus s t log after given → given ≡ Ok turns.Idle → after.is_mended ≡ true
asked_where_idle bus s t log after given comes idle =
    let alone = subst (λ (r : Result Turn Halt). ComesUp bus s t log after r) idle comes in
    ap (λ (l : BusLog). l.is_mended) alone.1.line

pub silent_where_down : (bus : ℕ) (s t : ShareParts) (log after : BusLog) (given : Result Turn Halt)
    → ComesUp bus s t log after given → given ≡ Ok turns.Down → after.is_mended ≡ false
silent_where_down bus s t log after given comes down =
    let alone = subst (λ (r : Result Turn Halt). ComesUp bus s t log after r) down comes in
    ap (λ (l : BusLog). l.is_mended) alone.line

pub ended : (first log : ClockLog) (given : Result Bool Halt) → IfOk given (λ gave. gave ≡ false → HasEnded first log)
    → given ≡ Ok false → log.gave_none ≡ true
ended first log (Ok true) has none = absurd cc
ended first log (Ok false) has none = (has refl).none
ended first log (Err halt) has none = absurd cc
