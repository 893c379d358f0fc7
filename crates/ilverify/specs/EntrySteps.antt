-- What is known of the current result and of its mark where two ways meet.
use Rattle.std.specs.Prelude.{Option}
use Rattle.ilverify.specs.declared.known.Known.{Known}
use Rattle.ilverify.specs.declared.mark.ResultMark.{ResultMark}
use Rattle.ilverify.specs.Entries.{IsResultInto}
use Rattle.ilverify.specs.Marks.{IsMarkInto}

-- of the current result, what is known on either way and no less
pub record IsResultMeeting (one other meeting : Option Known) : Type 0 where
  pub from_one : IsResultInto one meeting
  pub from_other : IsResultInto other meeting
  pub least : (wider : Option Known) → IsResultInto one wider → IsResultInto other wider → IsResultInto meeting wider

-- the same of its mark
pub record IsMarkMeeting (one other meeting : Option ResultMark) : Type 0 where
  pub from_one : IsMarkInto one meeting
  pub from_other : IsMarkInto other meeting
  pub least : (wider : Option ResultMark) → IsMarkInto one wider → IsMarkInto other wider → IsMarkInto meeting wider
