use Rattle.std.proofs.Common.{◌≡◌, ◌≢◌, [], Option, Some, None, IsSomeAnd, refl, lit<}
use Rattle.gearcmd.specs.declared.requests.Request.{Request}
use Rattle.busqueue.specs.declared.class.Class.{Class}
use Rattle.busqueue.specs.declared.class.Class.TheVariants.{UserAction, Configuration, AutomaticAction, Query}
use Rattle.busqueue.specs.Queues.{BusQueues, IsNext}
use Rattle.refusalsbus.proofs.frames.user_actions_go_first.Goals as goal

first : (queues : BusQueues) (next : Option (Class × Request)) → IsNext queues next
    → (queues.user_action.waiting ≢ []) → IsSomeAnd next (λ n. n.0 ≡ UserAction)
first queues None next waits = absurd (waits (next UserAction))
first queues (Some (UserAction, request)) next waits = refl
first queues (Some (Configuration, request)) next waits = absurd (waits (next.0.1 UserAction (lit< tt)))
first queues (Some (AutomaticAction, request)) next waits = absurd (waits (next.0.1 UserAction (lit< tt)))
first queues (Some (Query, request)) next waits = absurd (waits (next.0.1 UserAction (lit< tt)))

pub returns : goal.returns
returns c = first c.args.queues.now c.next.result c.next.ensures.next c.requires
