use Rattle.std.proofs.Common.{◌≡◌, ℕ, List, ap, sym, subst}
use Rattle.std.specs.Prelude.{All, ◌≤◌, reverse}
use Rattle.liveline.specs.ClockStates.{ClockState}
use Rattle.liveline.proofs.Falling.{never_falls_on}
use Rattle.liveline.proofs.clocks.LiveClock.note.Goals as goal

pub invariant_of-self : goal.invariant_of-self
invariant_of-self g c =
    let given : reverse c.self.inside.given.items ≡ c.args.self.now.log.given =
    ap (λ (v : ClockState g.row.S.Denot). v.log.given) c.self.view_is in
    never_falls_on c.self.inside.given.items c.push.new.self.items c.args.moment c.push.ensures
    (subst (λ (xs : List ℕ). All (λ (e : ℕ). e ≤ c.args.moment) xs) (sym given) c.requires)
