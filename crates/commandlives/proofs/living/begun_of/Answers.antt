use Rattle.std.proofs.Common.{rules, ◌≡◌, ℕ, List, Option, option_map}
use Rattle.commandfiles.proofs.KeptNotes.{has_begun}
use Rattle.commandlives.proofs.living.begun_of.Goals as goal

pub returns-clause-begun : goal.returns-clause-begun
returns-clause-begun c =
    let pages = c.args.pages.now in
    let binding : c.deref.result.now ≡ pages.binding = search rules in
    let text : c.deref-2.result.now ≡ pages.text = search rules in
    let file : option_map (λ bytes. bytes.now.items) c.as_ref.result ≡ pages.file = search rules in
    has_begun c.deref.result.now pages.binding c.deref-2.result.now pages.text
    (option_map (λ bytes. bytes.now.items) c.as_ref.result) pages.file c.beginning_of.result binding text file
    c.beginning_of.ensures.begun c.beginning_of.ensures.used c.beginning_of.ensures.noted
