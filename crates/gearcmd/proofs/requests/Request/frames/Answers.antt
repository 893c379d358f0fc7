use Rattle.gearcmd.proofs.Spellings.{frames_of_legal, frames_of_count}
use Rattle.gearcmd.proofs.requests.Request.frames.Goals as goal

pub returns-clause-legal : goal.returns-clause-legal
returns-clause-legal c = λ task. rw c.spelled.ensures.spelled
    (frames_of_legal c.args.self.now.command task c.spelled.ensures.in_range)

pub returns-clause-count : goal.returns-clause-count
returns-clause-count c = rw c.spelled.ensures.spelled (frames_of_count c.args.self.now.command)
