-- What was sent on a bus that was asked, and how often its interface failed.
use Rattle.std.proofs.Common.{◌≡◌, ◌≢◌, ◌∙◌, ℕ, zero, suc, ◌+◌, ◌-◌, ◌<◌, List, [], ◌∷◌, ◌++◌, length, Option, Some, Result, Ok}
use Rattle.std.proofs.Common.{Err, IfOk, refl, sym, ap, arith, subst, append_assoc}
use Rattle.std.specs.Prelude.{IfErr, MatchResult, replicate, slice_get, option_map}
use Rattle.std.proofs.lemmas.List.{append-nil}
use Rattle.std.proofs.lemmas.List.Elements.{All-head, All-tail}
use Rattle.daliframe.specs.declared.forward.Frame.{Frame}
use Rattle.daliframe.specs.declared.forward.Frame.TheVariants.{Forward16}
use Rattle.gearcmd.specs.declared.requests.Command.{Command}
use Rattle.gearcmd.specs.declared.requests.Command.TheVariants.{GearAsk}
use Rattle.gearcmd.specs.FrameLists.{FrameList}
use Rattle.buslink.specs.declared.marks.Mark.{Mark}
use Rattle.buslink.specs.declared.marks.Mark.TheVariants.{Quiet, Answer, Damaged, Lost, Failed}
use Rattle.buslink.specs.declared.marks.Sent.{Sent}
use Rattle.buslink.specs.declared.marks.Outcome.{Outcome}
use Rattle.buslink.specs.declared.marks.Outcome.TheVariants as outcome
use Rattle.buslink.specs.Attempts.{Attempt, IsAttempt, IsReport, ReportParts, all_sent, last_mark, marks_of, sent_with}
use Rattle.buslink.specs.Marks.{outcome_of}
use Rattle.buslink.specs.BusLog.{BusLog}
use Rattle.buslink.specs.Performing.{failures_after}
use Rattle.commissioning.specs.declared.asking.AskFault.{AskFault}
use Rattle.commissioning.specs.declared.asking.AskFault.TheVariants as faults
use Rattle.commissioning.specs.declared.asking.Asked.{Asked}
use Rattle.commissioning.specs.declared.blinking.Shown.{Shown}
use Rattle.commissioning.specs.declared.serving.Served.{Served}
use Rattle.commissioning.specs.declared.serving.Served.TheVariants as served
use Rattle.commissioning.specs.Asking.{AreAsked, HasAsked, IsAnswered, IsBrokenOff}
use Rattle.commissioning.specs.Asking.{IsSent, IsUnanswered, IsWhole, transaction_of}
use Rattle.commissioning.specs.Blinking.{Asks, IsShown}
use Rattle.commissioning.specs.Serving.{IsServed, served_as}
use Rattle.commissioning.specs.Unaddressed.{IsMissingAnswered, missing_query}

-- ---- one command

pub answer_is : (command : Command) (given : Result ReportParts AskFault) (old new : BusLog)
    → MatchResult given (λ report. IsAnswered command report old new) (λ fault. IsUnanswered command fault old new)
    → IfOk given (λ report. report.transaction ≡ transaction_of command)
answer_is command (Ok report) old new answered = answered.asked.transaction
answer_is command (Err fault) old new answered = tt

-- ---- failures

failures_kept : (ending : Outcome) (failures : ℕ) → ¬ (ending ≡ outcome.Failed)
    → failures_after ending failures ≡ failures
failures_kept (outcome.Done reply) failures whole = refl
failures_kept outcome.GaveUp failures whole = refl
failures_kept outcome.Failed failures whole = absurd (whole refl)

sent_failures : (list : FrameList) (report : ReportParts) (old new : BusLog) → IsSent list report old new
    → new.failures ≡ failures_after report.outcome old.failures
sent_failures list report old new sent = ap (λ (l : BusLog). l.failures) sent.bus

abbrev pub IsFine : Asked → Type 0
IsFine a = ¬ (a.outcome ≡ outcome.Failed)

whole_failures : (asked : List Asked) (old new : BusLog) → AreAsked asked old new → IsWhole asked
    → new.failures ≡ old.failures
whole_failures [] old new are whole = ap (λ (l : BusLog). l.failures) are
whole_failures (a ∷ more) old new (middle, (one, rest)) whole =
    let fine : ¬ (one.report.outcome ≡ outcome.Failed) =
    (λ failed. All-head IsFine a more whole (one.outcome ∙ failed)) in
    whole_failures more middle new rest (All-tail IsFine a more whole)
    ∙ (sent_failures (transaction_of a.command) one.report old middle one.asked
    ∙ failures_kept one.report.outcome old.failures fine)

last_failures : (before : List Asked) (command : Command) (old new : BusLog)
    → AreAsked (before ++ record { command = command; outcome = outcome.Failed } ∷ []) old new → IsWhole before
    → new.failures ≡ failures_after outcome.Failed old.failures
last_failures [] command old new (middle, (one, rest)) whole =
    let failed : one.report.outcome ≡ outcome.Failed = sym one.outcome in
    ap (λ (l : BusLog). l.failures) rest
    ∙ (sent_failures (transaction_of command) one.report old middle one.asked
    ∙ ap (λ (o : Outcome). failures_after o old.failures) failed)
last_failures (a ∷ before) command old new (middle, (one, rest)) whole =
    let fine : ¬ (one.report.outcome ≡ outcome.Failed) =
    (λ failed. All-head IsFine a before whole (one.outcome ∙ failed)) in
    last_failures before command middle new rest (All-tail IsFine a before whole)
    ∙ ap (λ n. failures_after outcome.Failed n)
    (sent_failures (transaction_of a.command) one.report old middle one.asked
    ∙ failures_kept one.report.outcome old.failures fine)

-- what was broken off since the interface failed has one failure more
pub broken_once : (P : List Asked → Type 0) (fault : AskFault) (old new : BusLog) → IsBrokenOff P fault old new
    → old.failures ≡ 0 → fault ≡ faults.Failed → new.failures ≡ 1
broken_once P faults.Memory old new broken none failed = absurd (cc)
broken_once P faults.Failed old new broken none failed =
    let ends = broken.ends in
    let are = subst (λ (xs : List Asked). AreAsked xs old new) ends.is broken.are in
    last_failures ends.before ends.command old new are ends.whole ∙ ap (λ n. failures_after outcome.Failed n) none

pub fails_once : {X : Type 0} (P : List Asked → Type 0) (given : Result X AskFault) (old new : BusLog)
    → IfErr given (λ fault. IsBrokenOff P fault old new) → old.failures ≡ 0
    → IfErr given (λ fault. fault ≡ faults.Failed → new.failures ≡ 1)
fails_once P (Ok x) old new broken none = tt
fails_once P (Err fault) old new broken none = λ failed. broken_once P fault old new broken none failed

served_done : {A : Type 0} (asked : Result A AskFault) → served_as asked ≡ served.Done → IfErr asked (λ fault. ⊥)
served_done (Ok answer) done = tt
served_done (Err faults.Memory) done = absurd (cc)
served_done (Err faults.Failed) done = absurd (cc)

done_asked : (command : Command) (asked : Result ReportParts AskFault) (old new : BusLog)
    → HasAsked command asked old new → IfErr asked (λ fault. ⊥) → new.failures ≡ old.failures
done_asked command (Ok report) old new has done =
    sent_failures (transaction_of command) report old new has.asked
    ∙ failures_kept report.outcome old.failures has.whole
done_asked command (Err fault) old new has done = absurd done

pub done_is_whole : {E : Type 0} (command : Command) (given : Result Served E) (old new : BusLog)
    → IsServed (λ asked. HasAsked command asked old new) given → old.failures ≡ 0 → given ≡ Ok served.Done
    → new.failures ≡ 0
done_is_whole command (Ok how) old new is none done =
    let told : how ≡ served_as is.result = is.told in
    let one : how ≡ served.Done = cc in
    done_asked command is.result old new is.has (served_done is.result (sym told ∙ one)) ∙ none
done_is_whole command (Err e) old new is none done = absurd (cc)

-- ---- the query to all

abbrev pub marked_by : Mark → Sent
marked_by mark = record { frame = Forward16 0xFF96; priority = 5; mark = mark }

abbrev pub lost : Sent
lost = marked_by Lost

lost_of : (before : List Mark) (final : Mark) → length before < 1 → final ≡ Lost
    → sent_with missing_query.frames missing_query.first_priority (before ++ final ∷ []) ≡ lost ∷ []
lost_of [] final within is = ap (λ (m : Mark). marked_by m ∷ []) is
lost_of (mark ∷ before) final within is = absurd (omega (arith, within))

lost_alone : (a : Attempt) → IsAttempt 1 a → a.last ≡ Lost
    → sent_with missing_query.frames missing_query.first_priority (marks_of a) ≡ lost ∷ []
lost_alone a legal last = lost_of a.before a.last legal.within last

is_lost : (last : Mark) → outcome_of last ≡ outcome.GaveUp → last ≡ Lost
is_lost Quiet gave_up = absurd (cc)
is_lost (Answer byte) gave_up = absurd (cc)
is_lost Damaged gave_up = absurd (cc)
is_lost Lost gave_up = refl
is_lost Failed gave_up = absurd (cc)

lost_thrice : (attempts : List Attempt) → IsReport 2 1 attempts → last_mark attempts ≡ Lost
    → all_sent missing_query attempts ≡ replicate 3 lost
lost_thrice [] legal last = absurd legal
lost_thrice (a ∷ []) legal last = let none = legal.1 last in absurd (omega (arith, none))
lost_thrice (a ∷ b ∷ []) legal last = let none = legal.2.1 last in absurd (omega (arith, none))
lost_thrice (a ∷ b ∷ c ∷ []) legal last =
    let one = lost_alone a legal.0 legal.1 in
    let two = lost_alone b legal.2.0 legal.2.1 in
    let three = lost_alone c legal.2.2.0 last in
    rw (one, two, three) refl
lost_thrice (a ∷ b ∷ c ∷ d ∷ more) legal last = absurd legal.2.2

pub given_up : (given : Result Outcome AskFault) (old new : BusLog)
    → IfOk given (λ ending. IsMissingAnswered ending old new) → old.sent ≡ []
    → IfOk given (λ ending. ending ≡ outcome.GaveUp → new.sent ≡ replicate 3 lost)
given_up (Err fault) old new answered none = tt
given_up (Ok ending) old new answered none = λ gave_up.
    let report = answered.asked.report in
    let sent = answered.asked.sent in
    let spelled = sent.legal.spelled in
    let is : outcome_of (last_mark spelled.attempts) ≡ outcome.GaveUp =
    sym spelled.outcome ∙ (sym answered.asked.ends ∙ gave_up) in
    let of_three = subst (λ n. IsReport (n - 1) (length report.transaction.frames) spelled.attempts) sent.tries
    spelled.legal in
    let legal : IsReport 2 1 spelled.attempts =
    subst (λ (list : FrameList). IsReport 2 (length list.frames) spelled.attempts) sent.transaction of_three in
    let all = lost_thrice spelled.attempts legal (is_lost (last_mark spelled.attempts) is) in
    ap (λ (l : BusLog). l.sent) sent.bus
    ∙ (ap (λ xs. xs ++ report.attempts) none
    ∙ (spelled.sent ∙ (ap (λ list. all_sent list spelled.attempts) sent.transaction ∙ all)))

-- ---- what is sent first

-- what was sent, and then more
pub record GoesOn (old new : BusLog) : Type 0 where
  pub more : List Sent
  pub are : new.sent ≡ old.sent ++ more

asked_more : (asked : List Asked) (old new : BusLog) → AreAsked asked old new → GoesOn old new
asked_more [] old new are =
    record { more = []; are = ap (λ (l : BusLog). l.sent) are ∙ sym (append-nil old.sent) }
asked_more (a ∷ rest) old new (middle, (one, are)) =
    let later = asked_more rest middle new are in
    record {
      more = one.report.attempts ++ later.more;
      are = later.are
          ∙ (ap (λ (l : BusLog). l.sent ++ later.more) one.asked.bus
          ∙ append_assoc old.sent one.report.attempts later.more);
    }

-- the first of what is sent has this frame
abbrev pub BeginsBy : Frame → List Sent → Type 0
BeginsBy frame sent = option_map (λ (s : Sent). s.frame) (slice_get sent 0) ≡ Some frame

marked : (frame : Frame) (frames : List Frame) (priority : ℕ) (before : List Mark) (last : Mark) (rest : List Sent)
    → BeginsBy frame (sent_with (frame ∷ frames) priority (before ++ last ∷ []) ++ rest)
marked frame frames priority [] last rest = refl
marked frame frames priority (mark ∷ before) last rest = refl

tried_first : (frame : Frame) (list : FrameList) (frames : List Frame) (retries count : ℕ) (attempts : List Attempt)
    (rest : List Sent) → list.frames ≡ frame ∷ frames → IsReport retries count attempts
    → BeginsBy frame (all_sent list attempts ++ rest)
tried_first frame list frames retries count [] rest are legal = absurd legal
tried_first frame list frames retries count (a ∷ more) rest are legal =
    let first = marked frame frames list.first_priority a.before a.last (all_sent list more ++ rest) in
    let whole = append_assoc (sent_with list.frames list.first_priority (marks_of a)) (all_sent list more) rest in
    let spelled = subst (λ (fs : List Frame).
    BeginsBy frame (sent_with fs list.first_priority (marks_of a) ++ (all_sent list more ++ rest))) (sym are) first in
    subst (λ (xs : List Sent). BeginsBy frame xs) (sym whole) spelled

-- where a command is asked first its first frame is sent first
pub asked_first : (command : Command) (ending : Outcome) (frame : Frame) (frames : List Frame) (rest : List Asked)
    (old new : BusLog) → (transaction_of command).frames ≡ frame ∷ frames → old.sent ≡ []
    → AreAsked (record { command = command; outcome = ending } ∷ rest) old new → BeginsBy frame new.sent
asked_first command ending frame frames rest old new are none (middle, (one, asked)) =
    let later = asked_more rest middle new asked in
    let spelled = one.asked.legal.spelled in
    let list : one.report.transaction.frames ≡ frame ∷ frames =
    ap (λ (l : FrameList). l.frames) one.asked.transaction ∙ are in
    let first = tried_first frame one.report.transaction frames (one.report.tries - 1)
    (length one.report.transaction.frames) spelled.attempts later.more list spelled.legal in
    let middle_sent : middle.sent ≡ all_sent one.report.transaction spelled.attempts =
    ap (λ (l : BusLog). l.sent) one.asked.bus ∙ (ap (λ xs. xs ++ one.report.attempts) none ∙ spelled.sent) in
    let is : new.sent ≡ all_sent one.report.transaction spelled.attempts ++ later.more =
    later.are ∙ ap (λ xs. xs ++ later.more) middle_sent in
    subst (λ (xs : List Sent). BeginsBy frame xs) (sym is) first

-- gear that is to blink is first asked for its status
pub shown_first : (address : ℕ) (given : Result Shown AskFault) (old new : BusLog) (frame : Frame)
    → (transaction_of (GearAsk address 0)).frames ≡ frame ∷ [] → old.sent ≡ []
    → IfOk given (λ shown. Asks (IsShown address shown) old new) → IfOk given (λ shown. BeginsBy frame new.sent)
shown_first address (Err fault) old new frame are none asks = tt
shown_first address (Ok shown) old new frame are none asks =
    let those = asks.those in
    let whole : asks.asked ≡ record { command = GearAsk address 0; outcome = shown.status } ∷ those.rest =
    those.is ∙ ap (λ xs. xs ++ those.rest) those.status_asked in
    asked_first (GearAsk address 0) shown.status frame [] those.rest old new are none
    (subst (λ (xs : List Asked). AreAsked xs old new) whole asks.are.are)
