use Rattle.std.proofs.Common.{inl}
use Rattle.refusalsload.proofs.texts.period_is_no_longer_than_an_interval.Goals as goal

pub returns : goal.returns
returns c = (c.period_of.ensures.value.cyclic 20 c.requires).least 20 (inl c.requires)
