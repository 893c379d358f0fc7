use Rattle.std.proofs.Common.{◌≡◌, ◌∙◌, ◌<◌, ℕ, Option, length, ap, subst, arith, lit<}
use Rattle.std.proofs.lemmas.List.{get_or_read}
use Rattle.std.specs.Int.{bit_at}
use Rattle.std.specs.Prelude.{MatchOption}
use Rattle.plantbuses.specs.declared.owed.OwedLevels.{OwedLevels}
use Rattle.plantbuses.specs.AddressSets.{HasNone, IsLeast, one_if}
use Rattle.plantbuses.specs.OwedSteps.{addresses_of, no_levels, owed_on}
use Rattle.refusalsplant.proofs.Handed.{not_owed}
use Rattle.refusalsplant.proofs.buses.handed_level_is_owed_no_more.Goals as goal

pub note_handed-requires : goal.note_handed-requires
note_handed-requires c = record {
  known = let many = c.requires.follows.0 in let known = c.requires.known in omega arith;
  class = c.requires.class;
}

pub index-requires : goal.index-requires
index-requires c =
    let after = c.note_handed.ensures c.args.plant.now.plant c.args.sent.now c.args.plant.now.history c.requires.first c.requires.follows in
    let many = after.0 in let known = c.requires.known in omega arith

pub returns : goal.returns
returns c = λ is.
    let p = c.args.plant.now.plant in
    let h = c.args.plant.now.history in
    let class = c.args.class in
    let levels = c.note_handed.new.owed.items in
    let after = c.note_handed.ensures p c.args.sent.now h c.requires.first c.requires.follows in
    let there : 0 < length levels = let many = after.0 in let known = c.requires.known in omega arith in
    let read = get_or_read levels 0 c.index.result.now there c.index.ensures no_levels in
    let bits = addresses_of class c.index.result.now in
    let least = subst (λ (o : Option ℕ). MatchOption o (HasNone bits) (IsLeast bits)) is c.least.ensures in
    let one : bit_at bits 5 ≡ 1 = least.1 in
    let none : bit_at bits 5 ≡ 0 =
    ap (λ (l : OwedLevels). bit_at (addresses_of class l) 5) read
    ∙ (after.1 0 c.requires.known class 5 (lit< tt)
    ∙ ap one_if (not_owed p h c.args.next.origin c.args.sent.now class c.requires.level c.requires.located
    c.requires.lit)) in
    omega arith
