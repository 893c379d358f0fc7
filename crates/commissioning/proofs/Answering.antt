-- What is asked one after another, and answered.
use Rattle.std.proofs.Common.{◌≡◌, List, [], ◌∷◌, ◌++◌, refl, sym, ◌∙◌, ap, append_assoc}
use Rattle.std.proofs.lemmas.List.Elements.{All-nil, All-cons, All-append}
use Rattle.gearcmd.specs.declared.requests.Command.{Command}
use Rattle.buslink.specs.declared.marks.Outcome.{Outcome}
use Rattle.buslink.specs.declared.marks.Outcome.TheVariants as outcome
use Rattle.buslink.specs.Attempts.{ReportParts}
use Rattle.buslink.specs.BusLog.{BusLog, with_spare}
use Rattle.buslink.specs.Performing.{after_report}
use Rattle.commissioning.specs.declared.asking.AskFault.{AskFault}
use Rattle.commissioning.specs.declared.asking.AskFault.TheVariants.{Memory, Failed}
use Rattle.commissioning.specs.declared.asking.Asked.{Asked}
use Rattle.commissioning.specs.Asking.{IsAnswered, AreAsked, AreAnswered, EndsBy, IsWhole}

abbrev IsMet : Asked → Type 0
IsMet a = ¬ (a.outcome ≡ outcome.Failed)

pub whole_none : IsWhole []
whole_none = All-nil IsMet

pub asked_append : (xs ys : List Asked) (a b c : BusLog) → AreAsked xs a b → AreAsked ys b c → AreAsked (xs ++ ys) a c
asked_append [] [] a b c first more = more ∙ ap (with_spare c.spare) first
asked_append [] (y ∷ ys) a b c first (middle, (one, rest)) = (
  middle,
  (
    record {
      report = one.report;
      asked = record {
        transaction = one.asked.transaction;
        tries = one.asked.tries;
        legal = one.asked.legal;
        bus = one.asked.bus ∙ ap (after_report one.report middle.spare) first;
      };
      outcome = one.outcome;
    },
    rest,
  ),
)
asked_append (x ∷ xs) ys a b c (middle, (one, rest)) more =
    (middle, (one, asked_append xs ys middle b c rest more))

pub answered_none : (log : BusLog) → AreAnswered [] log log
answered_none log = record { are = refl; whole = whole_none }

pub answered_append : (xs ys : List Asked) (a b c : BusLog) → AreAnswered xs a b → AreAnswered ys b c
    → AreAnswered (xs ++ ys) a c
answered_append xs ys a b c first more = record {
  are = asked_append xs ys a b c first.are more.are;
  whole = All-append IsMet xs ys first.whole more.whole;
}

-- a command that was answered
pub answered_one : (command : Command) (outcome : Outcome) (report : ReportParts) (old new : BusLog)
    → outcome ≡ report.outcome → IsAnswered command report old new
    → AreAnswered (record { command = command; outcome = outcome } ∷ []) old new
answered_one command outcome report old new is answered = record {
  are = (new, (record { report = report; asked = answered.asked; outcome = is }, refl));
  whole = All-cons IsMet (record { command = command; outcome = outcome }) []
      (λ failed. answered.whole (sym is ∙ failed)) whole_none;
}

-- what ends by a fault does so behind what was answered, too
pub ends_later : (fault : AskFault) (xs ys : List Asked) → IsWhole xs → EndsBy fault ys → EndsBy fault (xs ++ ys)
ends_later Memory xs ys whole ends = All-append IsMet xs ys whole ends
ends_later Failed xs ys whole ends = record {
  before = xs ++ ends.before;
  command = ends.command;
  is = ap (λ (zs : List Asked). xs ++ zs) ends.is
      ∙ sym (append_assoc xs ends.before (record { command = ends.command; outcome = outcome.Failed } ∷ []));
  whole = All-append IsMet xs ends.before whole ends.whole;
}
