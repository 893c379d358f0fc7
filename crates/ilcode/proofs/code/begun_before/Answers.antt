use Rattle.std.proofs.Common.{Option, ℕ, length, ◌∙◌, ap}
use Rattle.std.specs.Option.{unwrap_or}
use Rattle.ilcode.proofs.Bodies.{found_or_all}
use Rattle.ilcode.proofs.code.begun_before.Goals as goal

pub returns : goal.returns
returns c =
    let fs = c.args.functions.now in
    c.unwrap_or.ensures ∙ ap (λ (o : Option ℕ). unwrap_or o (length fs)) c.first_behind.ensures
    ∙ found_or_all c.args.place fs
