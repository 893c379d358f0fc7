-- The query to all, tried once, and again after a loss.
use Rattle.std.specs.Prelude.{Result, Ok, Err, IfErr, IfOk, IsTrue, true, false}
use Rattle.std.proofs.Common.{◌≡◌, ℕ, zero, suc, ◌-◌, ◌<◌, List, [], ◌∷◌, ◌++◌, refl, sym, ◌∙◌, ap, append_assoc}
use Rattle.std.proofs.Common.{arith, inl, inr, subst}
use Rattle.std.proofs.lemmas.List.Elements.{All-nil}
use Rattle.daliframe.specs.declared.addressing.Address.TheVariants.{Broadcast}
use Rattle.gearcmd.specs.FrameLists.{IsLegal}
use Rattle.buslink.specs.declared.marks.Mark.{Mark}
use Rattle.buslink.specs.declared.marks.Mark.TheVariants.{Quiet, Answer, Damaged, Lost, Failed}
use Rattle.buslink.specs.declared.marks.Reply.{Reply}
use Rattle.buslink.specs.declared.marks.Reply.TheVariants as reply
use Rattle.buslink.specs.declared.marks.Sent.{Sent}
use Rattle.buslink.specs.declared.marks.Outcome.{Outcome}
use Rattle.buslink.specs.Marks.{IsBroken, outcome_of}
use Rattle.buslink.specs.Attempts.{Attempt, IsAttempt, IsReport, all_marks, all_sent, last_mark}
use Rattle.buslink.specs.declared.faults.Fault.{Fault}
use Rattle.buslink.specs.BusLog.{BusLog, after_send, mark_of_send, with_spare}
use Rattle.buslink.specs.Performing.{failures_after}
use Rattle.buslink.specs.PerformingSteps.{IsSent, failures_with}
use Rattle.commissioning.specs.declared.asking.AskFault.{AskFault}
use Rattle.commissioning.specs.Unaddressed.{IsMissingAnswered, IsMissingAsked, IsMissingUnanswered, missing_frame}
use Rattle.commissioning.specs.Unaddressed.{missing_query}
use Rattle.commissioning.specs.UnaddressedSteps.{EndsAs, IsTriedAlone, after_attempts}

pub not_true : ¬ IsTrue false
not_true h = let e : false ≡ true = h in cc

-- no retry is left where not even one is
pub none_left : (retries : ℕ) → ¬ (0 < retries) → retries ≡ 0
none_left zero none = refl
none_left (suc retries) none = absurd (none (omega arith))

-- one frame alone is an attempt, whatever becomes of it
abbrev alone : Mark → Attempt
alone mark = record { before = []; last = mark }

alone_legal : (mark : Mark) → IsAttempt 1 (alone mark)
alone_legal mark = record {
  within = let h : 0 < 1 = omega arith in h;
  unbroken = All-nil (λ m. ¬ IsBroken m);
  cut = λ more. absurd (omega arith);
}

as_attempt : (r : Result Reply Fault) (old : BusLog)
    → after_send missing_frame 5 r old ≡ after_attempts (alone (mark_of_send r) ∷ []) (old.spare - 1) old
as_attempt (Ok reply.Quiet) old = refl
as_attempt (Ok (reply.Answer byte)) old = refl
as_attempt (Ok reply.Damaged) old = refl
as_attempt (Ok reply.Lost) old = refl
as_attempt (Err fault) old = refl

one_sent : (mark : Mark) (r : Result Reply Fault) (old new : BusLog) → mark ≡ mark_of_send r
    → new ≡ after_send missing_frame 5 r old → new ≡ after_attempts (alone mark ∷ []) new.spare old
one_sent mark r old new marked sends =
    let told : new ≡ after_attempts (alone (mark_of_send r) ∷ []) (old.spare - 1) old = sends ∙ as_attempt r old in
    let left : old.spare - 1 ≡ new.spare = sym (ap (λ (log : BusLog). log.spare) told) in
    subst (λ m. new ≡ after_attempts (alone m ∷ []) new.spare old) (sym marked)
    (told ∙ ap (λ (n : ℕ). after_attempts (alone (mark_of_send r) ∷ []) n old) left)

pub tried_last : (retries : ℕ) (mark : Mark) (old new : BusLog) → IsSent missing_frame 5 mark old new
    → (mark ≡ Lost → retries ≡ 0) → IsTriedAlone retries mark old new
tried_last retries mark old new sent settled = record {
  attempts = alone mark ∷ [];
  legal = (alone_legal mark, settled);
  ends = refl;
  bus = one_sent mark sent.reply old new sent.marked sent.bus;
}

-- what comes behind an attempt that was lost
behind_lost : (retries : ℕ) (last : Mark) (old middle new : BusLog) (attempts : List Attempt)
    → middle ≡ after_attempts (alone Lost ∷ []) middle.spare old → IsReport retries 1 attempts
    → last ≡ last_mark attempts → new ≡ after_attempts attempts new.spare middle → IsTriedAlone (suc retries) last old new
behind_lost retries last old middle new [] first legal ends bus = absurd legal
behind_lost retries last old middle new (a ∷ more) first legal ends bus = record {
  attempts = alone Lost ∷ a ∷ more;
  legal = (alone_legal Lost, refl, legal);
  ends = ends;
  bus = bus ∙ ap (after_attempts (a ∷ more) new.spare) first
      ∙ ap (λ (sent : List Sent). record old {
        sent = sent;
        spare = new.spare;
        failures = failures_with (last_mark (a ∷ more)) old.failures;
      }) (append_assoc old.sent (all_sent missing_query (alone Lost ∷ [])) (all_sent missing_query (a ∷ more)));
}

pub tried_more : (retries : ℕ) (mark last : Mark) (old middle new : BusLog) → IsSent missing_frame 5 mark old middle
    → mark ≡ Lost → 0 < retries → IsTriedAlone (retries - 1) last middle new → IsTriedAlone retries last old new
tried_more zero mark last old middle new sent lost left tried = absurd (omega arith)
tried_more (suc retries) mark last old middle new sent lost left tried =
    let fewer : suc retries - 1 ≡ retries = omega arith in
    let first : middle ≡ after_attempts (alone Lost ∷ []) middle.spare old =
    subst (λ m. middle ≡ after_attempts (alone m ∷ []) middle.spare old) lost
    (one_sent mark sent.reply old middle sent.marked sent.bus) in
    behind_lost retries last old middle new tried.attempts first (rw fewer at tried.legal) tried.ends tried.bus

failures_of_last : (last : Mark) (failures : ℕ) → failures_with last failures ≡ failures_after (outcome_of last) failures
failures_of_last Quiet failures = refl
failures_of_last (Answer byte) failures = refl
failures_of_last Damaged failures = refl
failures_of_last Lost failures = refl
failures_of_last Failed failures = refl

-- .. and the report of it, behind a call that made room
pub asked : (last : Mark) (old middle new : BusLog) → middle ≡ with_spare middle.spare old
    → IsTriedAlone 2 last middle new → IsMissingAsked (outcome_of last) old new
asked last old middle new room tried = record {
  report = record {
    transaction = missing_query;
    tries = 3;
    attempts = all_sent missing_query tried.attempts;
    outcome = outcome_of last;
  };
  sent = record {
    transaction = refl;
    tries = refl;
    legal = record {
      tries = record { first = omega arith; last = omega arith };
      marks = all_marks tried.attempts;
      spelled = record {
        attempts = tried.attempts;
        legal = tried.legal;
        spelled = refl;
        transaction = refl;
        tries = refl;
        sent = refl;
        outcome = ap outcome_of tried.ends;
      };
    };
    bus = tried.bus ∙ ap (after_attempts tried.attempts new.spare) room
        ∙ ap (λ (failures : ℕ). record old {
          sent = old.sent ++ all_sent missing_query tried.attempts;
          spare = new.spare;
          failures = failures;
        }) (failures_of_last (last_mark tried.attempts) old.failures
        ∙ ap (λ (m : Mark). failures_after (outcome_of m) old.failures) (sym tried.ends));
  };
  ends = refl;
}

pub answered : (last : Mark) (r : Result Outcome AskFault) (old middle new : BusLog)
    → middle ≡ with_spare middle.spare old → IsTriedAlone 2 last middle new → EndsAs last r
    → IfOk r (λ o. IsMissingAnswered o old new)
answered last (Ok o) old middle new room tried ends = record {
  asked = subst (λ x. IsMissingAsked x old new) (sym ends.0) (asked last old middle new room tried);
  whole = ends.1;
}
answered last (Err fault) old middle new room tried ends = tt

pub unanswered : (last : Mark) (r : Result Outcome AskFault) (old middle new : BusLog)
    → middle ≡ with_spare middle.spare old → IsTriedAlone 2 last middle new → EndsAs last r
    → IfErr r (λ fault. IsMissingUnanswered fault old new)
unanswered last (Ok o) old middle new room tried ends = tt
unanswered last (Err fault) old middle new room tried ends =
    subst (λ f. IsMissingUnanswered f old new) (sym ends.0)
    (subst (λ x. IsMissingAsked x old new) ends.1 (asked last old middle new room tried))

-- the query is a legal list of frames, with the priority of queries
pub query_is_legal : IsLegal missing_query.frames missing_query.first_priority
query_is_legal = inr (refl, inl (Broadcast, 0x96, tt, inl (omega arith, omega arith), refl))
