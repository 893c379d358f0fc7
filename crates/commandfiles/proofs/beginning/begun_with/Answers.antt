use Rattle.commandfiles.proofs.beginning.begun_with.Goals as goal

pub returns-clause-begun : goal.returns-clause-begun
returns-clause-begun c = λ binding text is.
    (is.0, is.1, c.in_ok-setup.ensures.setup is.0 text is.2)
