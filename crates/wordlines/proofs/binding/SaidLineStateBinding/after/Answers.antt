use Rattle.wordlines.proofs.binding.SaidLineStateBinding.after.Goals as goal

-- no line can follow
pub returns-in-None-clause-leads : goal.returns-in-None-clause-leads
returns-in-None-clause-leads c =
    let bad = rw c.in-None.is at c.in_ok-next.ensures.leads in
    rw (← c.self.view_is) bad
