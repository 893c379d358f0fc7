-- What gear is asked that blinks, one command after another.
use Rattle.std.proofs.Common.{◌≡◌, ℕ, suc, ◌+◌, ◌≤◌, ◌<◌, List, [], ◌∷◌, ◌++◌, refl, sym, ap}
use Rattle.std.proofs.Common.{subst, arith}
use Rattle.daliframe.specs.declared.addressing.Address.TheVariants.{Short}
use Rattle.gearcmd.specs.declared.requests.Command.{Command}
use Rattle.gearcmd.specs.declared.requests.Command.TheVariants.{GearAsk, GearDo, GearLevel}
use Rattle.buslink.specs.declared.marks.Outcome.{Outcome}
use Rattle.buslink.specs.declared.marks.Outcome.TheVariants as outcome
use Rattle.buslink.specs.declared.marks.Reply.TheVariants.{Quiet}
use Rattle.buslink.specs.BusLog.{BusLog}
use Rattle.commissioning.specs.declared.asking.AskFault.{AskFault}
use Rattle.commissioning.specs.declared.asking.AskFault.TheVariants.{Memory, Failed}
use Rattle.commissioning.specs.declared.asking.Asked.{Asked}
use Rattle.commissioning.specs.declared.blinking.Blinked.TheVariants.{Back, NoLevel}
use Rattle.commissioning.specs.Asking.{IsBrokenOff, IsUnanswered}
use Rattle.commissioning.specs.Blinking.{Asks, IsBlink, IsFlash, IsLevel, IsOne, IsSomeBlink}
use Rattle.commissioning.specs.Surveys.{AreParts, IsSomeQuestion}
use Rattle.commissioning.proofs.Answering.{answered_append, answered_none, whole_none}
use Rattle.commissioning.proofs.Breaking.{EachHas, begins_whole, broken_as, broken_one, broken_part, broken_then}
use Rattle.commissioning.proofs.Breaking.{silent}

pub asks_none : (P : List Asked → Type 0) (log : BusLog) → P [] → Asks P log log
asks_none P log none = record { asked = []; are = answered_none log; those = none }

pub asks_both : (P Q R : List Asked → Type 0) (old middle new : BusLog)
    → ((xs ys : List Asked) → P xs → Q ys → R (xs ++ ys)) → Asks P old middle → Asks Q middle new → Asks R old new
asks_both P Q R old middle new joined first more =
    record {
      asked = first.asked ++ more.asked;
      are = answered_append first.asked more.asked old middle new first.are more.are;
      those = joined first.asked more.asked first.those more.those;
    }

-- one flash: two commands that ended somehow
pub flashed : (address : ℕ) (one other : Command) (first second : Outcome) (old middle new : BusLog)
    → one ≡ GearDo (Short address) 5 → other ≡ GearDo (Short address) 0
    → Asks (IsOne one first) old middle → Asks (IsOne other second) middle new → Asks (IsFlash address) old new
flashed address one other first second old middle new up down =
    asks_both (IsOne one first) (IsOne other second) (IsFlash address) old middle new
    (λ xs ys is then_is. record { commands = rw is (rw then_is (rw up (rw down refl))) })

-- one flash more
pub flash_more : (address count : ℕ) (old middle new : BusLog) → Asks (AreParts (λ time. IsFlash address) count) old middle
    → Asks (IsFlash address) middle new → Asks (AreParts (λ time. IsFlash address) (count + 1)) old new
flash_more address count old middle new first more =
    let one : count + 1 ≡ suc count = omega arith in
    let both : Asks (AreParts (λ time. IsFlash address) (suc count)) old new =
    asks_both (AreParts (λ time. IsFlash address) count) (IsFlash address)
    (AreParts (λ time. IsFlash address) (suc count)) old middle new
    (λ xs ys before part. (xs, (ys, (refl, (before, part))))) first more in
    subst (λ n. Asks (AreParts (λ time. IsFlash address) n) old new) (sym one) both

pub flash_all : (address count whole : ℕ) (old new : BusLog) → count ≤ whole → whole ≤ count
    → Asks (AreParts (λ time. IsFlash address) count) old new → Asks (AreParts (λ time. IsFlash address) whole) old new
flash_all address count whole old new most least flashes =
    let there : count ≡ whole = omega arith in
    subst (λ n. Asks (AreParts (λ time. IsFlash address) n) old new) there flashes

-- flashes, and then the level
record IsTail (address level : ℕ) (outcome : Outcome) (asked : List Asked) : Type 0 where
  flashes : List Asked
  last : List Asked
  are : asked ≡ flashes ++ last
  three : AreParts (λ time. IsFlash address) 3 flashes
  sent_back : IsOne (GearLevel (Short address) level) outcome last

pub blinked : (address level : ℕ) (query : Command) (answered back : Outcome) (old first second new : BusLog)
    → query ≡ GearAsk address 16 → IsLevel answered level
    → Asks (IsOne query answered) old first → Asks (AreParts (λ time. IsFlash address) 3) first second
    → Asks (IsOne (GearLevel (Short address) level) back) second new → Asks (IsBlink address (Back level back)) old new
blinked address level query answered back old first second new is known asked flashes last =
    let tail : Asks (IsTail address level back) first new =
    asks_both (AreParts (λ time. IsFlash address) 3) (IsOne (GearLevel (Short address) level) back)
    (IsTail address level back) first second new
    (λ xs ys three sent_back. record {
      flashes = xs;
      last = ys;
      are = refl;
      three = three;
      sent_back = sent_back;
    }) flashes last in
    asks_both (IsOne query answered) (IsTail address level back) (IsBlink address (Back level back)) old first new
    (λ xs ys one rest. record {
      first = xs;
      flashes = rest.flashes;
      last = rest.last;
      are = ap (λ (zs : List Asked). xs ++ zs) rest.are;
      level_asked = subst (λ o. IsOne (GearAsk address 16) o xs) known.answered
          (subst (λ q. IsOne q answered xs) is one);
      is_level = known.is_level;
      three = rest.three;
      sent_back = rest.sent_back;
    }) asked tail

-- ---- where it is broken off
pub unflashed : (address : ℕ) (one : Command) (fault : AskFault) (old new : BusLog) → one ≡ GearDo (Short address) 5
    → IsUnanswered one fault old new → IsBrokenOff (IsFlash address) fault old new
unflashed address one fault old new up unanswered =
    broken_as (IsSomeQuestion one) (IsFlash address) fault old new
    (λ xs some. record {
      rest = silent (GearDo (Short address) 0);
      whole = record { commands = rw some.question.is (rw up refl) };
    })
    (broken_one one fault old new unanswered)

pub half_flashed : (address : ℕ) (one other : Command) (first : Outcome) (fault : AskFault) (old middle new : BusLog)
    → one ≡ GearDo (Short address) 5 → other ≡ GearDo (Short address) 0 → Asks (IsOne one first) old middle
    → IsUnanswered other fault middle new → IsBrokenOff (IsFlash address) fault old new
half_flashed address one other first fault old middle new up down asked unanswered =
    broken_then (IsOne one first) (IsSomeQuestion other) (IsFlash address) fault old middle new
    (λ xs ys is some. begins_whole (IsFlash address) (xs ++ ys) (record {
      commands = rw is (rw some.question.is (rw up (rw down refl)));
    })) asked (broken_one other fault middle new unanswered)

some_flash : (address : ℕ) → EachHas (λ time. IsFlash address)
some_flash address time =
    (silent (GearDo (Short address) 5) ++ silent (GearDo (Short address) 0), record { commands = refl })

pub flashes_cut : (address count : ℕ) (fault : AskFault) (old middle new : BusLog) → count < 3
    → Asks (AreParts (λ time. IsFlash address) count) old middle → IsBrokenOff (IsFlash address) fault middle new
    → IsBrokenOff (AreParts (λ time. IsFlash address) 3) fault old new
flashes_cut address count fault old middle new fewer =
    broken_part (λ time. IsFlash address) (some_flash address) count 3 fault old middle new fewer

-- gear whose level is not known gives none
no_level : (address : ℕ) → IsSomeBlink address (silent (GearAsk address 16))
no_level address = (NoLevel (outcome.Done Quiet), (refl, λ level known. cc known.answered))

pub unblinked : (address : ℕ) (query : Command) (fault : AskFault) (old new : BusLog) → query ≡ GearAsk address 16
    → IsUnanswered query fault old new → IsBrokenOff (IsSomeBlink address) fault old new
unblinked address query Memory old new is nothing = record {
  asked = [];
  are = nothing;
  begins = record { rest = silent (GearAsk address 16); whole = no_level address };
  ends = whole_none;
}
unblinked address query Failed old new is (report, (asked, failed)) = record {
  asked = record { command = query; outcome = outcome.Failed } ∷ [];
  are = (new, (record { report = report; asked = asked; outcome = sym failed }, refl));
  begins = record {
    rest = [];
    whole = (NoLevel outcome.Failed, (rw is refl, λ level known. cc known.answered));
  };
  ends = record { before = []; command = query; is = refl; whole = whole_none };
}

-- the level was asked and answered, and the rest is broken off
abbrev IsSomeTail : ℕ → ℕ → List Asked → Type 0
IsSomeTail address level asked = (back : Outcome) × IsTail address level back asked

tail_cut : (address level : ℕ) (query : Command) (answered : Outcome) (fault : AskFault) (old first new : BusLog)
    → query ≡ GearAsk address 16 → IsLevel answered level → Asks (IsOne query answered) old first
    → IsBrokenOff (IsSomeTail address level) fault first new → IsBrokenOff (IsSomeBlink address) fault old new
tail_cut address level query answered fault old first new is known =
    broken_then (IsOne query answered) (IsSomeTail address level) (IsSomeBlink address) fault old first new
    (λ xs ys one tail. begins_whole (IsSomeBlink address) (xs ++ ys) (
      Back level tail.0,
      record {
        first = xs;
        flashes = tail.1.flashes;
        last = tail.1.last;
        are = ap (λ (zs : List Asked). xs ++ zs) tail.1.are;
        level_asked = subst (λ o. IsOne (GearAsk address 16) o xs) known.answered
            (subst (λ q. IsOne q answered xs) is one);
        is_level = known.is_level;
        three = tail.1.three;
        sent_back = tail.1.sent_back;
      },
    ))

pub blink_cut : (address level : ℕ) (query : Command) (answered : Outcome) (fault : AskFault) (old first new : BusLog)
    → query ≡ GearAsk address 16 → IsLevel answered level → Asks (IsOne query answered) old first
    → IsBrokenOff (AreParts (λ time. IsFlash address) 3) fault first new
    → IsBrokenOff (IsSomeBlink address) fault old new
blink_cut address level query answered fault old first new is known asked broken =
    tail_cut address level query answered fault old first new is known asked
    (broken_as (AreParts (λ time. IsFlash address) 3) (IsSomeTail address level) fault first new
    (λ xs three. record {
      rest = silent (GearLevel (Short address) level);
      whole = (
        outcome.Done Quiet,
        record {
          flashes = xs;
          last = silent (GearLevel (Short address) level);
          are = refl;
          three = three;
          sent_back = refl;
        },
      );
    }) broken)

pub not_sent_back : (address level : ℕ) (query : Command) (answered : Outcome) (fault : AskFault)
    (old first second new : BusLog) → query ≡ GearAsk address 16 → IsLevel answered level
    → Asks (IsOne query answered) old first → Asks (AreParts (λ time. IsFlash address) 3) first second
    → IsUnanswered (GearLevel (Short address) level) fault second new → IsBrokenOff (IsSomeBlink address) fault old new
not_sent_back address level query answered fault old first second new is known asked flashes unanswered =
    tail_cut address level query answered fault old first new is known asked
    (broken_then (AreParts (λ time. IsFlash address) 3) (IsSomeQuestion (GearLevel (Short address) level))
    (IsSomeTail address level) fault first second new
    (λ xs ys three some. begins_whole (IsSomeTail address level) (xs ++ ys) (
      some.outcome,
      record { flashes = xs; last = ys; are = refl; three = three; sent_back = some.question.is },
    )) flashes (broken_one (GearLevel (Short address) level) fault second new unanswered))
