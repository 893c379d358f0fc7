use Rattle.ilplan.proofs.Used.{uses_among}
use Rattle.ilplan.proofs.EachOnce.{any_each_once, each_once_more, each_once_distinct}
use Rattle.ilplan.proofs.constants.each_value_stands_once.Goals as goal

pub returns-clause-same : goal.returns-clause-same
returns-clause-same c = λ values value. any_each_once value values

pub returns-clause-distinct : goal.returns-clause-distinct
returns-clause-distinct c = λ values. each_once_distinct values

pub returns-clause-more : goal.returns-clause-more
returns-clause-more c = λ values value. each_once_more values value

pub returns-clause-used : goal.returns-clause-used
returns-clause-used c = λ lines. uses_among lines
