-- What trying a transaction once, and again after a loss, does to a bus.
use Rattle.std.proofs.Common.{◌≡◌, ℕ, ◌⊎◌, inl, inr, zero, suc, ◌+◌, ◌-◌, ◌<◌, ◌≤◌, List, [], ◌∷◌, ◌++◌, length, take}
use Rattle.std.proofs.Common.{drop, slice_index_or, refl, sym, ◌∙◌, ap, append_assoc, arith}
use Rattle.std.specs.Prelude.{All, IsTrue, Result, Ok, Err, ◌==◌, true, false}
use Rattle.std.proofs.lemmas.Bool.{eqb-true}
use Rattle.std.proofs.lemmas.List.{append-nil, length-append, take_all}
use Rattle.daliframe.specs.declared.forward.Frame.{Frame}
use Rattle.buslink.specs.declared.marks.Mark.{Mark}
use Rattle.buslink.specs.declared.marks.Mark.TheVariants.{Quiet, Answer, Damaged, Lost, Failed}
use Rattle.buslink.specs.declared.marks.Reply.{Reply}
use Rattle.buslink.specs.declared.marks.Reply.TheVariants as reply
use Rattle.buslink.specs.declared.marks.Sent.{Sent}
use Rattle.buslink.specs.Marks.{IsBroken, outcome_of}
use Rattle.gearcmd.specs.FrameLists.{FrameList}
use Rattle.buslink.specs.Attempts.{Attempt, IsAttempt, IsReport, ReportParts, Spells, marks_of}
use Rattle.buslink.specs.Attempts.{all_marks, sent_with, all_sent, last_mark}
use Rattle.buslink.specs.declared.faults.Fault.{Fault}
use Rattle.buslink.specs.BusLog.{BusLog, mark_of_send, after_send}
use Rattle.buslink.specs.Performing.{failures_after, after_report}
use Rattle.buslink.specs.PerformingSteps.{failures_with, after_frames, IsTriedOnce, IsTried}

-- ---- frames, one after another
abbrev frame_sent : Frame → ℕ → Mark → Sent
frame_sent frame priority mark = record { frame = frame; priority = priority; mark = mark }

after_one : (frame : Frame) (priority : ℕ) (r : Result Reply Fault) (log : BusLog)
    → after_send frame priority r log ≡ after_frames (frame_sent frame priority (mark_of_send r) ∷ [])
    (mark_of_send r) log
after_one frame priority (Ok reply.Quiet) log = refl
after_one frame priority (Ok (reply.Answer byte)) log = refl
after_one frame priority (Ok reply.Damaged) log = refl
after_one frame priority (Ok reply.Lost) log = refl
after_one frame priority (Err fault) log = refl

none_failed : (mark : Mark) (failures : ℕ) → (mark ≡ Failed → ⊥) → failures_with mark failures ≡ failures
none_failed Quiet failures h = refl
none_failed (Answer byte) failures h = refl
none_failed Damaged failures h = refl
none_failed Lost failures h = refl
none_failed Failed failures h = absurd (h refl)

unbroken_not_failed : (mark : Mark) → (IsBroken mark → ⊥) → mark ≡ Failed → ⊥
unbroken_not_failed mark h e = h (rw e tt)

lost_not_failed : (mark : Mark) → mark ≡ Lost → mark ≡ Failed → ⊥
lost_not_failed mark lost failed = let e : Lost ≡ Failed = sym lost ∙ failed in cc

spare_left : (spare : ℕ) (xs ys : List Sent) → (spare - length xs) - length ys ≡ spare - length (xs ++ ys)
spare_left spare xs ys = let e : length (xs ++ ys) ≡ length xs + length ys = length-append xs ys in omega arith

joined : (xs ys : List Sent) (m last : Mark) (log : BusLog) → (m ≡ Failed → ⊥)
    → after_frames ys last (after_frames xs m log) ≡ after_frames (xs ++ ys) last log
joined xs ys m last log h =
    ap (λ (s : List Sent). record log {
      sent = s;
      spare = (log.spare - length xs) - length ys;
      failures =
          failures_with last (failures_with m log.failures);
    }) (append_assoc log.sent xs ys)
    ∙ ap (λ (n : ℕ). record log {
      sent = log.sent ++ (xs ++ ys);
      spare = n;
      failures =
          failures_with last (failures_with m log.failures);
    }) (spare_left log.spare xs ys)
    ∙ ap (λ (n : ℕ). record log {
      sent = log.sent ++ (xs ++ ys);
      spare = log.spare - length (xs ++ ys);
      failures =
          failures_with last n;
    }) (none_failed m log.failures h)

-- ---- one attempt
pub not_true : IsTrue false → ⊥
not_true h = let e : false ≡ true = h in cc

-- nothing is sent with no marks
nothing_sent : (frames : List Frame) (first : ℕ) → sent_with frames first [] ≡ []
nothing_sent [] first = refl
nothing_sent (f ∷ frames) first = refl

-- no retry is left where not even one is
pub none_left : (retries : ℕ) → (0 < retries → ⊥) → retries ≡ 0
none_left zero none = refl
none_left (suc retries) none = absurd (none (omega arith))

-- a frame with no frame behind it
pub one_left : (frames : List Frame) → 0 < length frames
    → true ≡ (length (take (length frames - 1) (drop 1 frames)) == 0) → length frames ≡ 1
one_left [] some empty = absurd (omega arith)
one_left (f ∷ frames) some empty =
    let tail : take (suc (length frames) - 1) frames ≡ frames =
    take_all (suc (length frames) - 1) frames (omega arith) in
    let none : length frames ≡ 0 =
    eqb-true (length frames) 0 (sym (empty ∙ ap (λ (xs : List Frame). length xs == 0) tail)) in
    omega arith

pub once_last : (frames : List Frame) (frame : Frame) (priority : ℕ) (before after : List Mark) (old new : BusLog)
    (mark : Mark) (r : Result Reply Fault)
    → 0 < length frames → frame ≡ slice_index_or frames 0 frame → mark ≡ mark_of_send r
    → new ≡ after_send frame priority r old
    → after ≡ before ++ mark ∷ [] → IsBroken mark ⊎ (length frames ≡ 1)
    → IsTriedOnce frames priority before after old new mark
once_last [] frame priority before after old new mark r some is marked sends pushed ends = absurd (omega arith)
once_last (f ∷ frames) frame priority before after old new mark r some is marked sends pushed ends = record {
  attempt = record { before = []; last = mark };
  legal = record {
    within = some;
    unbroken = λ k d lt. absurd (omega arith);
    cut = λ more. elim ends as (λ _. IsBroken mark) [ inl broken ↦ broken | inr one ↦ absurd (omega arith) ];
  };
  ends = refl;
  marks = pushed;
  bus = sends ∙ after_one frame priority r old
      ∙ ap (λ (m : Mark). after_frames (frame_sent frame priority m ∷ []) m old) (sym marked)
      ∙ ap (λ (one : Frame). after_frames (frame_sent one priority mark ∷ []) mark old) is
      ∙ ap (λ (xs : List Sent). after_frames (frame_sent f priority mark ∷ xs) mark old) (sym (nothing_sent frames 1));
}

-- the frames behind the first were tried too
pub once_more : (frames rest : List Frame) (frame : Frame) (priority : ℕ) (before middle after : List Mark)
    (old mid new : BusLog) (mark last : Mark) (r : Result Reply Fault)
    → 0 < length frames → frame ≡ slice_index_or frames 0 frame → rest ≡ take (length frames - 1) (drop 1 frames)
    → mark ≡ mark_of_send r → mid ≡ after_send frame priority r old
    → middle ≡ before ++ mark ∷ [] → (IsBroken mark → ⊥)
    → IsTriedOnce rest 1 middle after mid new last → IsTriedOnce frames priority before after old new last
once_more [] rest frame priority before middle after old mid new mark _ r some is behind marked sends pushed whole t =
    absurd (omega arith)
once_more (f ∷ frames) rest frame priority before middle after old mid new mark _ r some is behind marked sends pushed
    whole t =
    let at : frame ≡ f = is in
    let tail : rest ≡ frames = behind ∙ take_all (suc (length frames) - 1) frames (omega arith) in
    let legal : IsAttempt (length frames) t.attempt = rw tail at t.legal in
    let inner : new ≡ after_frames (sent_with frames 1 (marks_of t.attempt)) t.attempt.last mid = rw tail at t.bus in
    let one : mid ≡ after_frames (frame_sent frame priority mark ∷ []) mark old =
    rw marked (sends ∙ after_one frame priority r old) in
    let both : after_frames (sent_with frames 1 (marks_of t.attempt)) t.attempt.last
    (after_frames (frame_sent frame priority mark ∷ []) mark old)
    ≡ after_frames ((frame_sent frame priority mark ∷ []) ++ sent_with frames 1
    (marks_of t.attempt)) t.attempt.last old =
    joined (frame_sent frame priority mark ∷ []) (sent_with frames 1 (marks_of t.attempt)) mark t.attempt.last old
    (unbroken_not_failed mark whole) in
    record {
      attempt = record { before = mark ∷ t.attempt.before; last = t.attempt.last };
      legal = record {
        within = let h : length t.attempt.before < length frames = legal.within in omega arith;
        unbroken = elim_all mark t.attempt.before whole legal.unbroken;
        cut = λ more. legal.cut (omega arith);
      };
      ends = t.ends;
      marks = t.marks ∙ ap (λ (xs : List Mark). xs ++ marks_of t.attempt) pushed ∙ append_assoc before (mark ∷ [])
          (marks_of t.attempt);
      bus = inner ∙ ap (after_frames (sent_with frames 1 (marks_of t.attempt)) t.attempt.last) one ∙ both
          ∙ ap (λ (one : Frame). after_frames (frame_sent one priority mark ∷ sent_with frames 1
          (marks_of t.attempt)) t.attempt.last old) at;
    }
  where
    elim_all : (m : Mark) (xs : List Mark) → (IsBroken m → ⊥) → All (λ mark. IsBroken mark → ⊥) xs
        → All (λ mark. IsBroken mark → ⊥) (m ∷ xs)
    elim_all m xs whole h zero d lt = whole
    elim_all m xs whole h (suc k) d lt = h k d (omega arith)

-- ---- all attempts
-- the last attempt
pub tried_last : (list : FrameList) (frames : List Frame) (first retries : ℕ) (before after : List Mark)
    (old new : BusLog) (last : Mark)
    → frames ≡ list.frames → first ≡ list.first_priority → IsTriedOnce frames first before after old new last
    → (last ≡ Lost → retries ≡ 0)
    → IsTried list retries before after old new
tried_last list frames first retries before after old new _ same priority t settled = record {
  attempts = t.attempt ∷ [];
  legal = (rw same at t.legal, λ lost. settled (t.ends ∙ lost));
  marks = t.marks ∙ ap (λ (xs : List Mark). before ++ xs) (sym (append-nil (marks_of t.attempt)));
  bus = t.bus ∙ cc_sent same priority ∙ ap (λ (xs : List Sent). after_frames xs t.attempt.last old)
      (sym (append-nil (sent_with list.frames list.first_priority (marks_of t.attempt))));
}
  where
    cc_sent : frames ≡ list.frames → first ≡ list.first_priority
        → after_frames (sent_with frames first (marks_of t.attempt)) t.attempt.last old ≡ after_frames
        (sent_with list.frames list.first_priority (marks_of t.attempt)) t.attempt.last old
    cc_sent a b = cc

-- an attempt that was lost, and those behind it
pub tried_more : (list : FrameList) (frames : List Frame) (first retries : ℕ) (before middle after : List Mark)
    (old mid new : BusLog) (last : Mark)
    → frames ≡ list.frames → first ≡ list.first_priority → IsTriedOnce frames first before middle old mid last
    → last ≡ Lost → 0 < retries
    → IsTried list (retries - 1) middle after mid new → IsTried list retries before after old new
tried_more list frames first zero before middle after old mid new _ same priority t lost left u = absurd (omega arith)
tried_more list frames first (suc retries) before middle after old mid new _ same priority t lost left u =
    let fewer : suc retries - 1 ≡ retries = omega arith in
    behind u.attempts (rw fewer at u.legal) u.marks u.bus
  where
    behind : (attempts : List Attempt) → IsReport retries (length list.frames) attempts
        → after ≡ middle ++ all_marks attempts
        → new ≡ after_frames (all_sent list attempts) (last_mark attempts) mid
        → IsTried list (suc retries) before after old new
    behind [] legal marks bus = absurd legal
    behind (b ∷ more) legal marks bus =
        let ends : t.attempt.last ≡ Lost = sym t.ends ∙ lost in
        let one : mid ≡ after_frames (sent_with list.frames list.first_priority
        (marks_of t.attempt)) t.attempt.last old = rw same at (rw priority at t.bus) in
        record {
          attempts = t.attempt ∷ b ∷ more;
          legal = (rw same at t.legal, ends, legal);
          marks = marks ∙ ap (λ (xs : List Mark). xs ++ all_marks (b ∷ more)) t.marks
              ∙ append_assoc before (marks_of t.attempt) (all_marks (b ∷ more));
          bus = bus ∙ ap (after_frames (all_sent list (b ∷ more)) (last_mark (b ∷ more))) one
              ∙ joined (sent_with list.frames list.first_priority (marks_of t.attempt))
              (all_sent list (b ∷ more)) t.attempt.last (last_mark (b ∷ more)) old
              (lost_not_failed t.attempt.last ends);
        }

-- ---- the report
failures_of_last : (last : Mark) (failures : ℕ)
    → failures_with last failures ≡ failures_after (outcome_of last) failures
failures_of_last Quiet failures = refl
failures_of_last (Answer byte) failures = refl
failures_of_last Damaged failures = refl
failures_of_last Lost failures = refl
failures_of_last Failed failures = refl

record IsReported (list : FrameList) (r : ReportParts) (start new : BusLog) : Type 0 where
  pub bus : new ≡ record start {
    sent = start.sent ++ r.attempts;
    spare = start.spare - length r.attempts;
    failures =
        failures_after r.outcome start.failures;
  }

-- the marks spell one report, where the bus is given at most so many attempts
abbrev pub SpellOne : FrameList → ℕ → List Mark → Type 0
SpellOne list most marks = (a b : ReportParts) → Spells list most marks a → Spells list most marks b → a ≡ b

reported : (list : FrameList) (most : ℕ) (marks : List Mark) (r : ReportParts) (start new : BusLog)
    → SpellOne list most marks → IsTried list (most - 1) [] marks start new → Spells list most marks r
    → IsReported list r start new
reported list most marks r start new one t s =
    let own : ReportParts = record {
      transaction = list;
      tries = most;
      attempts = all_sent list t.attempts;
      outcome =
          outcome_of (last_mark t.attempts);
    } in
    let spells : Spells list most marks own = record {
      attempts = t.attempts;
      legal = t.legal;
      spelled = t.marks;
      transaction = refl;
      tries = refl;
      sent = refl;
      outcome = refl;
    } in
    let same : own ≡ r = one own r spells s in
    let sent : all_sent list t.attempts ≡ r.attempts = ap (λ (x : ReportParts). x.attempts) same in
    let outcome : outcome_of (last_mark t.attempts) ≡ r.outcome = ap (λ (x : ReportParts). x.outcome) same in
    let failures : failures_with (last_mark t.attempts) start.failures ≡ failures_after r.outcome start.failures =
    failures_of_last (last_mark t.attempts) start.failures ∙ ap (λ o. failures_after o start.failures) outcome in
    record {
      bus = t.bus ∙ ap (λ (xs : List Sent). record start {
        sent = start.sent ++ xs;
        spare =
            start.spare - length xs;
        failures = failures_with (last_mark t.attempts) start.failures;
      }) sent
          ∙ ap (λ (n : ℕ). record start {
            sent = start.sent ++ r.attempts;
            spare =
                start.spare - length r.attempts;
            failures = n;
          }) failures;
    }

pub performed : (list : FrameList) (most : ℕ) (marks : List Mark) (r : ReportParts) (old new : BusLog)
    → SpellOne list most marks → IsTried list (most - 1) [] marks old new → Spells list most marks r
    → new ≡ after_report r new.spare old
performed list most marks r old new one t s =
    let told : new ≡ record old {
      sent = old.sent ++ r.attempts;
      spare = old.spare - length r.attempts;
      failures =
          failures_after r.outcome old.failures;
    } = (reported list most marks r old new one t s).bus in
    let left : old.spare - length r.attempts ≡ new.spare = sym (ap (λ (log : BusLog). log.spare) told) in
    told ∙ ap (λ (n : ℕ). record old {
      sent = old.sent ++ r.attempts;
      spare = n;
      failures =
          failures_after r.outcome old.failures;
    }) left

-- a spare place is taken by a frame of the report alone
pub spare_kept : (list : FrameList) (most : ℕ) (marks : List Mark) (r : ReportParts) (old new : BusLog)
    → SpellOne list most marks → IsTried list (most - 1) [] marks old new → Spells list most marks r
    → old.spare ≤ new.spare + length r.attempts
spare_kept list most marks r old new one t s =
    let left : new.spare ≡ old.spare - length r.attempts =
    ap (λ (log : BusLog). log.spare) (reported list most marks r old new one t s).bus in
    omega arith
