use Rattle.std.proofs.Common.{◌≡◌, ◌∙◌, ◌+◌, ℕ, List, Option, ap, subst, sym}
use Rattle.ilcode.specs.Listings.{Listing, end_of}
use Rattle.ilverify.specs.LongestWays.{IsThrough}
use Rattle.ilverify.specs.Through.{through_at}
use Rattle.ilverify.proofs.WayLengths.{through_is_kept}
use Rattle.ilverify.proofs.longest.LongestWays.words_through.Goals as goal

pub returns : goal.returns
returns c function e =
    let p = c.self.inside in
    let code = p.code.now in
    let through = p.through.items in
    let place = c.args.place in
    let kept : c.through_at.result ≡ through_at through (end_of code (function + 1)) place = c.through_at.ensures
    ∙ ap (λ (l : List (Option ℕ)). through_at l c.end_of.result place) c.deref.ensures.value
    ∙ ap (λ (end : ℕ). through_at through end place) (c.end_of.ensures ∙ ap (end_of code) e) in
    subst (λ (k : Listing). IsThrough k function place c.through_at.result) c.self.view_is
    (subst (IsThrough code function place) (sym kept)
    (through_is_kept code through p.longest.items c.self.invariant function place))
