use Rattle.ilcode.proofs.Bodies.{rising, within, slots_rising, slots_within, there, one_body}
use Rattle.ilcode.proofs.laws.bodies_lie_in_order.Goals as goal

pub returns : goal.returns
returns c = record {
  rising = rising;
  within = within;
  slots_rising = slots_rising;
  slots_within = slots_within;
  there = λ code lawful place lt. there code place lt;
  one = one_body;
}
