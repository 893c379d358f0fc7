use Rattle.std.proofs.Common.{◌≡◌, ◌∙◌, ℕ, List, Option, ap, subst, arith}
use Rattle.std.specs.Prelude.{max}
use Rattle.std.specs.Option.{unwrap_or}
use Rattle.ilcode.specs.Listings.{Listing, end_of}
use Rattle.ilverify.specs.BoundSteps.{longest_at}
use Rattle.ilverify.specs.LongestWays.{IsLongest, IsPlaced, alone}
use Rattle.ilverify.specs.Through.{through_at}
use Rattle.ilverify.proofs.WayLengths.{words_first, words_other}
use Rattle.ilverify.proofs.longest.LongestWays.words_from.Goals as goal

-- the number is that of the longest way in the body by itself
abbrev IsOf : ℕ → ℕ → ℕ → Listing → Type 0
IsOf body place words code = IsPlaced code (alone code body) place → IsLongest code place (alone code body) words

pub returns-then-body-eq0 : goal.returns-then-body-eq0
returns-then-body-eq0 c =
    let p = c.self.inside in
    let code = p.code.now in
    let longest = p.longest.items in
    let place = c.args.place in
    let body = c.args.body in
    let zero : body ≡ 0 = (let e = c.if-body-eq0.true in omega (arith, e)) in
    let words = c.longest_at-words.ensures
    ∙ ap (λ (l : List ℕ). longest_at l c.end_of-end.result place) c.deref.ensures.value
    ∙ ap (λ (end : ℕ). longest_at longest end place) c.end_of-end.ensures in
    subst (IsOf body place c.longest_at-words.result) c.self.view_is
    (words_first code p.through.items longest c.self.invariant body place c.longest_at-words.result zero words)

pub returns-else-body-eq0 : goal.returns-else-body-eq0
returns-else-body-eq0 c =
    let p = c.self.inside in
    let code = p.code.now in
    let longest = p.longest.items in
    let through = p.through.items in
    let place = c.args.place in
    let body = c.args.body in
    let other : body ≡ 0 → ⊥ = (λ z. let e = c.if-body-eq0.false in omega (arith, e, z)) in
    let words = c.longest_at-words.ensures
    ∙ ap (λ (l : List ℕ). longest_at l c.end_of-end.result place) c.deref.ensures.value
    ∙ ap (λ (end : ℕ). longest_at longest end place) c.end_of-end.ensures in
    let inside = c.unwrap_or.ensures ∙ ap (λ (t : Option ℕ). unwrap_or t 0) (c.through_at.ensures
    ∙ ap (λ (l : List (Option ℕ)). through_at l c.end_of-end.result place) c.deref-else-body-eq0.ensures.value
    ∙ ap (λ (end : ℕ). through_at through end place) c.end_of-end.ensures) in
    let all = c.max.ensures ∙ ap (λ (n : ℕ). max n c.unwrap_or.result) words
    ∙ ap (λ (n : ℕ). max (longest_at longest (end_of code body) place) n) inside in
    subst (IsOf body place c.max.result) c.self.view_is
    (words_other code through longest c.self.invariant body place c.max.result other all)
