-- Where two ways meet, each leads into what is known then, and it leads into all that both lead into: of the current
-- result, of its mark, and of all.
use Rattle.std.proofs.Common.{◌≡◌, ◌↔◌, Option, Some, None, [], List, refl, sym, ap, ◌∙◌, subst}
use Rattle.std.specs.Prelude.{IfSome, IsNone}
use Rattle.std.specs.List.{AllZip}
use Rattle.ilverify.specs.declared.entry.Entry.{Entry}
use Rattle.ilverify.specs.declared.known.Known.{Known}
use Rattle.ilverify.specs.declared.mark.ResultMark.{ResultMark}
use Rattle.ilverify.specs.declared.nesting.KnownOpened.{KnownOpened}
use Rattle.ilverify.specs.Entries.{IsResultInto, IsOpenedInto, IsMeeting}
use Rattle.ilverify.specs.EntrySteps.{IsResultMeeting, IsMarkMeeting}
use Rattle.ilverify.specs.Joins.{IsJoin, IsHeld, AreJoins}
use Rattle.ilverify.specs.Marks.{IsMarkInto}
use Rattle.ilverify.proofs.OrderMarks.{mark_self}
use Rattle.ilverify.proofs.JoinValues.{one_in, other_in, least_in, held_in}
use Rattle.ilverify.proofs.JoinRows.{ones_in, others_in, all_in}

-- ---- the current result

least_of_none : (one other : Known) (wider : Option Known) → ¬ IsHeld one other → IsResultInto (Some one) wider
    → IsResultInto (Some other) wider → IsResultInto None wider
least_of_none one other None n h g = tt
least_of_none one other (Some wider) n h g = absurd (n (held_in one other wider h g))

least_of_some : (one other known : Known) (wider : Option Known) → IsJoin one other known
    → IsResultInto (Some one) wider → IsResultInto (Some other) wider → IsResultInto (Some known) wider
least_of_some one other known None j h g = tt
least_of_some one other known (Some wider) j h g = least_in one other known wider j h g

pub results_meet : (one other : Known) (meeting : Option Known) → (IsNone meeting ↔ ¬ IsHeld one other)
    → IfSome meeting (IsJoin one other) → IsResultMeeting (Some one) (Some other) meeting
results_meet one other None n j =
    record { from_one = tt; from_other = tt; least = λ wider. least_of_none one other wider (n.0 refl) }
results_meet one other (Some known) n j =
    record {
      from_one = one_in one other known j;
      from_other = other_in one other known j;
      least = λ wider. least_of_some one other known wider j;
    }

-- ---- the mark

pub marks_agree : (one other : Option ResultMark) → one ≡ other → IsMarkMeeting one other one
marks_agree one other e =
    record {
      from_one = mark_self one;
      from_other = subst (λ (m : Option ResultMark). IsMarkInto m one) e (mark_self one);
      least = λ wider h g. h;
    }

least_of_marks : (one other wider : Option ResultMark) → ¬ (one ≡ other) → IsMarkInto one wider → IsMarkInto other wider
    → IsMarkInto None wider
least_of_marks one other None n h g = tt
least_of_marks None other (Some wider) n h g = absurd h
least_of_marks (Some one) None (Some wider) n h g = absurd g
least_of_marks (Some one) (Some other) (Some wider) n h g = absurd (n (ap (λ (m : ResultMark). Some m) (h ∙ sym g)))

pub marks_differ : (one other : Option ResultMark) → ¬ (one ≡ other) → IsMarkMeeting one other None
marks_differ one other n =
    record { from_one = tt; from_other = tt; least = λ wider. least_of_marks one other wider n }

-- ---- all

nothing_open : (one other : List KnownOpened) → one ≡ [] → other ≡ [] → AllZip IsOpenedInto one other
nothing_open one other e f = rw (e, f) tt

pub meeting_of : (one other meeting : Entry) → one.nesting ≡ [] → other.nesting ≡ []
    → meeting.nesting ≡ one.nesting → AreJoins one.slots other.slots meeting.slots
    → IsResultMeeting one.result other.result meeting.result → IsMarkMeeting one.mark other.mark meeting.mark
    → IsMeeting one other meeting
meeting_of one other meeting e f same slots result mark =
    record {
      from_one = record {
        slots = ones_in one.slots other.slots meeting.slots slots;
        result = result.from_one;
        mark = mark.from_one;
        nesting = nothing_open one.nesting meeting.nesting e (same ∙ e);
      };
      from_other = record {
        slots = others_in one.slots other.slots meeting.slots slots;
        result = result.from_other;
        mark = mark.from_other;
        nesting = nothing_open other.nesting meeting.nesting f (same ∙ e);
      };
      least = λ wider h g. record {
        slots = all_in one.slots other.slots meeting.slots wider.slots slots h.slots g.slots;
        result = result.least wider.result h.result g.result;
        mark = mark.least wider.mark h.mark g.mark;
        nesting = subst (λ (n : List KnownOpened). AllZip IsOpenedInto n wider.nesting) (sym same) h.nesting;
      };
    }
