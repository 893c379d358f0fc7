-- What is broken off: the beginning of a course, with a rest that makes it whole.
use Rattle.std.specs.Prelude.{Result, Ok, Err, IfOk, MatchResult}
use Rattle.std.proofs.lemmas.Result.{IfOk-at_ok}
use Rattle.buslink.specs.Attempts.{ReportParts}
use Rattle.std.proofs.Common.{◌≡◌, ℕ, zero, suc, ◌≤◌, ◌<◌, List, [], ◌∷◌, ◌++◌, refl, sym, ◌∙◌, ap, subst}
use Rattle.std.proofs.Common.{append_assoc, eq-or-lt_of_le, ⊎_elim, arith}
use Rattle.std.proofs.lemmas.List.{append-nil}
use Rattle.gearcmd.specs.declared.requests.Command.{Command}
use Rattle.buslink.specs.declared.marks.Outcome.TheVariants as outcome
use Rattle.buslink.specs.declared.marks.Reply.TheVariants.{Quiet}
use Rattle.buslink.specs.BusLog.{BusLog}
use Rattle.commissioning.specs.declared.asking.AskFault.{AskFault}
use Rattle.commissioning.specs.declared.asking.AskFault.TheVariants.{Memory, Failed}
use Rattle.commissioning.specs.declared.asking.Asked.{Asked}
use Rattle.commissioning.specs.declared.serving.Served.{Served}
use Rattle.commissioning.specs.declared.serving.Served.TheVariants.{Done, NoMemory}
use Rattle.commissioning.specs.declared.serving.Served.TheVariants as served
use Rattle.commissioning.specs.Asking.{AreAnswered, Begins, HasAsked, IsAnswered, IsBrokenOff, IsUnanswered}
use Rattle.commissioning.specs.Blinking.{Asks}
use Rattle.commissioning.specs.Serving.{served_as}
use Rattle.commissioning.specs.Surveys.{AreParts, IsSomeQuestion}
use Rattle.commissioning.proofs.Answering.{asked_append, ends_later, whole_none}

-- a question that is met by silence
abbrev pub silent : Command → List Asked
silent command = record { command = command; outcome = outcome.Done Quiet } ∷ []

pub silent_question : (command : Command) → IsSomeQuestion command (silent command)
silent_question command = record { outcome = outcome.Done Quiet; question = record { is = refl } }

-- the whole is a beginning of itself
pub begins_whole : (P : List Asked → Type 0) (asked : List Asked) → P asked → Begins P asked
begins_whole P asked whole = record { rest = []; whole = subst P (sym (append-nil asked)) whole }

-- a command that is not answered
pub broken_one : (command : Command) (fault : AskFault) (old new : BusLog) → IsUnanswered command fault old new
    → IsBrokenOff (IsSomeQuestion command) fault old new
broken_one command Memory old new nothing = record {
  asked = [];
  are = nothing;
  begins = record { rest = silent command; whole = silent_question command };
  ends = whole_none;
}
broken_one command Failed old new (report, (asked, failed)) = record {
  asked = record { command = command; outcome = outcome.Failed } ∷ [];
  are = (new, (record { report = report; asked = asked; outcome = sym failed }, refl));
  begins = record { rest = []; whole = record { outcome = outcome.Failed; question = record { is = refl } } };
  ends = record { before = []; command = command; is = refl; whole = whole_none };
}

-- there is no memory behind what was answered
pub broken_behind : (P : List Asked → Type 0) (asked : List Asked) (old new : BusLog) → AreAnswered asked old new
    → P asked → IsBrokenOff P Memory old new
broken_behind P asked old new answered those =
    record { asked = asked; are = answered.are; begins = begins_whole P asked those; ends = answered.whole }

-- what is the beginning of a part is the beginning of what begins with the part
pub broken_as : (P Q : List Asked → Type 0) (fault : AskFault) (old new : BusLog)
    → ((xs : List Asked) → P xs → Begins Q xs) → IsBrokenOff P fault old new → IsBrokenOff Q fault old new
broken_as P Q fault old new turn broken =
    let more : Begins Q (broken.asked ++ broken.begins.rest) =
    turn (broken.asked ++ broken.begins.rest) broken.begins.whole in
    record {
      asked = broken.asked;
      are = broken.are;
      begins = record {
        rest = broken.begins.rest ++ more.rest;
        whole = subst Q (append_assoc broken.asked broken.begins.rest more.rest) more.whole;
      };
      ends = broken.ends;
    }

-- .. and behind what was answered
pub broken_then : (P Q R : List Asked → Type 0) (fault : AskFault) (old middle new : BusLog)
    → ((xs ys : List Asked) → P xs → Q ys → Begins R (xs ++ ys)) → Asks P old middle → IsBrokenOff Q fault middle new
    → IsBrokenOff R fault old new
broken_then P Q R fault old middle new joined first broken =
    let rest : List Asked = broken.begins.rest in
    let more : Begins R (first.asked ++ (broken.asked ++ rest)) =
    joined first.asked (broken.asked ++ rest) first.those broken.begins.whole in
    record {
      asked = first.asked ++ broken.asked;
      are = asked_append first.asked broken.asked old middle new first.are.are broken.are;
      begins = record {
        rest = rest ++ more.rest;
        whole = subst R
            (ap (λ (zs : List Asked). zs ++ more.rest) (sym (append_assoc first.asked broken.asked rest))
            ∙ append_assoc (first.asked ++ broken.asked) rest more.rest)
            more.whole;
      };
      ends = ends_later fault first.asked broken.asked first.are.whole broken.ends;
    }

-- ---- parts of which each can be asked
abbrev pub EachHas : (ℕ → List Asked → Type 0) → Type 0
EachHas P = (n : ℕ) → ((part : List Asked) × P n part)

-- some parts are the beginning of more
pub parts_begin : (P : ℕ → List Asked → Type 0) → EachHas P → (count whole : ℕ) (xs : List Asked) → count ≤ whole
    → AreParts P count xs → Begins (AreParts P whole) xs
parts_begin P some count zero xs most parts =
    let none : count ≡ 0 = omega arith in
    begins_whole (AreParts P 0) xs (subst (λ n. AreParts P n xs) none parts)
parts_begin P some count (suc whole) xs most parts =
    ⊎_elim
    (λ (all : count ≡ suc whole). begins_whole (AreParts P (suc whole)) xs (subst (λ n. AreParts P n xs) all parts))
    (λ (fewer : count < suc whole).
    let before : Begins (AreParts P whole) xs = parts_begin P some count whole xs (omega arith) parts in
    let part : List Asked = (some whole).0 in
    record {
      rest = before.rest ++ part;
      whole = (
        xs ++ before.rest,
        (part, (sym (append_assoc xs before.rest part), (before.whole, (some whole).1))),
      );
    })
    (eq-or-lt_of_le most)

-- .. and with the next part behind them
pub parts_then : (P : ℕ → List Asked → Type 0) → EachHas P → (count whole : ℕ) (xs ys : List Asked) → count < whole
    → AreParts P count xs → P count ys → Begins (AreParts P whole) (xs ++ ys)
parts_then P some count whole xs ys fewer parts part =
    parts_begin P some (suc count) whole (xs ++ ys) (omega arith) (xs, (ys, (refl, (parts, part))))

-- asking parts is broken off in one of them
pub broken_part : (P : ℕ → List Asked → Type 0) → EachHas P → (count whole : ℕ) (fault : AskFault)
    (old middle new : BusLog) → count < whole → Asks (AreParts P count) old middle
    → IsBrokenOff (P count) fault middle new → IsBrokenOff (AreParts P whole) fault old new
broken_part P some count whole fault old middle new fewer =
    broken_then (AreParts P count) (P count) (AreParts P whole) fault old middle new
    (λ xs ys parts part. parts_then P some count whole xs ys fewer parts part)

-- ---- whether it succeeded or not
pub has_asked : (command : Command) (r : Result ReportParts AskFault) (old new : BusLog)
    → MatchResult r (λ report. IsAnswered command report old new) (λ fault. IsUnanswered command fault old new)
    → HasAsked command r old new
has_asked command (Ok report) old new answered = answered
has_asked command (Err fault) old new unanswered = unanswered

pub not_starved : {A E : Type 0} (r : Result A AskFault) (result : Result Served E)
    → IfOk result (λ s. s ≡ served_as r) → ¬ (r ≡ Err Memory) → ¬ (result ≡ Ok NoMemory)
not_starved (Ok answer) result told room is = cc (IfOk-at_ok (λ s. s ≡ Done) is told)
not_starved (Err Memory) result told room is = room refl
not_starved (Err Failed) result told room is = cc (IfOk-at_ok (λ s. s ≡ served.Failed) is told)
