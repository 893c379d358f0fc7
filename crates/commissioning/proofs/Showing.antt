-- Gear is asked for its status, and then blinks.
use Rattle.std.specs.Prelude.{Result, Ok, Err, IfOk, IfErr}
use Rattle.std.proofs.Common.{◌≡◌, ℕ, ◌++◌, refl, subst}
use Rattle.gearcmd.specs.declared.requests.Command.{Command}
use Rattle.gearcmd.specs.declared.requests.Command.TheVariants.{GearAsk}
use Rattle.buslink.specs.declared.marks.Outcome.{Outcome}
use Rattle.buslink.specs.declared.marks.Outcome.TheVariants.{Done}
use Rattle.buslink.specs.declared.marks.Reply.TheVariants.{Quiet}
use Rattle.buslink.specs.BusLog.{BusLog}
use Rattle.commissioning.specs.declared.asking.AskFault.{AskFault}
use Rattle.commissioning.specs.declared.blinking.Blinked.{Blinked}
use Rattle.commissioning.specs.declared.blinking.Blinked.TheVariants.{NoLevel}
use Rattle.commissioning.specs.declared.blinking.Shown.{Shown}
use Rattle.commissioning.specs.Asking.{IsBrokenOff, IsUnanswered}
use Rattle.commissioning.specs.Blinking.{Asks, HasBlinked, IsBlink, IsOne, IsShown, IsSomeBlink, IsSomeShown}
use Rattle.commissioning.specs.Surveys.{IsSomeQuestion}
use Rattle.commissioning.proofs.Breaking.{begins_whole, broken_as, broken_one, broken_then, silent}
use Rattle.commissioning.proofs.Flashing.{asks_both}

pub shown : (address : ℕ) (query : Command) (status : Outcome) (blinked : Blinked) (old middle new : BusLog)
    → query ≡ GearAsk address 0 → Asks (IsOne query status) old middle → Asks (IsBlink address blinked) middle new
    → Asks (IsShown address (record { status = status; blinked = blinked })) old new
shown address query status blinked old middle new is =
    asks_both (IsOne query status) (IsBlink address blinked)
    (IsShown address (record { status = status; blinked = blinked })) old middle new
    (λ xs ys one blink. record {
      first = xs;
      rest = ys;
      is = refl;
      status_asked = subst (λ q. IsOne q status xs) is one;
      blinked = blink;
    })

pub unshown : (address : ℕ) (query : Command) (fault : AskFault) (old new : BusLog) → query ≡ GearAsk address 0
    → IsUnanswered query fault old new → IsBrokenOff (IsSomeShown address) fault old new
unshown address query fault old new is unanswered =
    broken_as (IsSomeQuestion query) (IsSomeShown address) fault old new
    (λ xs some. record {
      rest = silent (GearAsk address 16);
      whole = (
        record { status = some.outcome; blinked = NoLevel (Done Quiet) },
        record {
          first = xs;
          rest = silent (GearAsk address 16);
          is = refl;
          status_asked = subst (λ q. IsOne q some.outcome xs) is some.question.is;
          blinked = (refl, λ level known. cc known.answered);
        },
      );
    })
    (broken_one query fault old new unanswered)

pub shown_in_part : (address : ℕ) (query : Command) (status : Outcome) (fault : AskFault) (old middle new : BusLog)
    → query ≡ GearAsk address 0 → Asks (IsOne query status) old middle
    → IsBrokenOff (IsSomeBlink address) fault middle new → IsBrokenOff (IsSomeShown address) fault old new
shown_in_part address query status fault old middle new is =
    broken_then (IsOne query status) (IsSomeBlink address) (IsSomeShown address) fault old middle new
    (λ xs ys one blink. begins_whole (IsSomeShown address) (xs ++ ys) (
      record { status = status; blinked = blink.0 },
      record {
        first = xs;
        rest = ys;
        is = refl;
        status_asked = subst (λ q. IsOne q status xs) is one;
        blinked = blink.1;
      },
    ))

pub has_blinked : (address : ℕ) (r : Result Shown AskFault) (old new : BusLog)
    → IfOk r (λ shown. Asks (IsShown address shown) old new)
    → IfErr r (λ fault. IsBrokenOff (IsSomeShown address) fault old new) → HasBlinked address r old new
has_blinked address (Ok shown) old new whole broken = whole
has_blinked address (Err fault) old new whole broken = broken
