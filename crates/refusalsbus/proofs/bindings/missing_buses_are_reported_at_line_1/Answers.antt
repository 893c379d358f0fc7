use Rattle.std.proofs.Common.{refl, inr, lit≤}
use Rattle.refusalsbus.proofs.bindings.missing_buses_are_reported_at_line_1.Goals as goal

pub returns : goal.returns
returns c = c.parse.ensures.bad_is_reported 1 (inr (record { short = lit≤ tt; lead = refl }, refl))
