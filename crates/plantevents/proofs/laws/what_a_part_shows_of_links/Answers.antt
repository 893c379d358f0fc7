use Rattle.plantevents.proofs.Linking.{sent_shown, heard_shown, downs_shown, ups_shown, given_shown}
use Rattle.plantevents.proofs.laws.what_a_part_shows_of_links.Goals as goal

pub returns-clause-sent : goal.returns-clause-sent
returns-clause-sent c = sent_shown

pub returns-clause-heard : goal.returns-clause-heard
returns-clause-heard c = heard_shown

pub returns-clause-downs : goal.returns-clause-downs
returns-clause-downs c = downs_shown

pub returns-clause-ups : goal.returns-clause-ups
returns-clause-ups c = ups_shown

pub returns-clause-given : goal.returns-clause-given
returns-clause-given c = given_shown
