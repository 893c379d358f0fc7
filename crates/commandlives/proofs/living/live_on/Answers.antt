use Rattle.commandlives.proofs.LivesOut.{if_left, told_before}
use Rattle.commandlives.proofs.living.live_on.Goals as goal

pub returns-then-not-is_empty-clause-lived : goal.returns-then-not-is_empty-clause-lived
returns-then-not-is_empty-clause-lived g c =
    let pages = c.args.pages.now in
    if_left _ _ (λ left lived. lived pages.binding pages.text pages.file c.in_ok-begun.ensures.begun)
    c.live_with-end.result c.live_with-end.ensures.lived

pub returns-clause-lived : goal.returns-clause-lived
returns-clause-lived g c =
    let pages = c.args.pages.now in
    if_left _ _ (λ left lived. lived pages.binding pages.text pages.file c.in_ok-begun.ensures.begun)
    c.live_with.result c.live_with.ensures.lived

pub returns-then-not-is_empty-clause-told : goal.returns-then-not-is_empty-clause-told
returns-then-not-is_empty-clause-told g c =
    let pages = c.args.pages.now in let begun = c.in_ok-begun.begun in
    told_before (g.N.Notice.is_told c.args.grounds.now.notice.now) pages.binding pages.text pages.file
    c.live_with-end.result (begun.note, (begun.kept, c.in_ok-begun.ensures.begun.noted), c.begins-told.ensures)

pub returns-clause-told : goal.returns-clause-told
returns-clause-told g c =
    let pages = c.args.pages.now in let begun = c.in_ok-begun.begun in
    told_before (g.N.Notice.is_told c.args.grounds.now.notice.now) pages.binding pages.text pages.file
    c.live_with.result (begun.note, (begun.kept, c.in_ok-begun.ensures.begun.noted), c.begins-told.ensures)
