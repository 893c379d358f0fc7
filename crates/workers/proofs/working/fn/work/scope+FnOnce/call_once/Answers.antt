use Rattle.workers.proofs.working.fn.work.scope+FnOnce.call_once.Goals as goal

pub scope-requires : goal.scope-requires
scope-requires g c =
    let all = c.requires.1.1.1.1.1.1.1 in
    let bounds = all.1 in
    (bounds.0, (bounds.1, (bounds.2, (bounds.3, (bounds.4, (bounds.5, (bounds.6, (bounds.7, all.0))))))))
