use Rattle.std.proofs.Common.{◌∙◌, ◌/◌, ◌%◌, ℕ, List, ap}
use Rattle.std.specs.Prelude.{slice_index_or, slice_set}
use Rattle.ilcells.specs.Banks.{truth_at}
use Rattle.ilcells.proofs.BitEnds.{joined, before_taken, from_taken}
use Rattle.ilcells.proofs.bank.copy_bits.Goals as goal

pub returns-clause-before : goal.returns-clause-before
returns-clause-before c = λ other l.
    let words = c.args.words.now in
    let others = c.args.others.now in
    let place = c.args.place in
    ap (λ (ws : List ℕ). truth_at (slice_set ws (place / 64)
    (joined (slice_index_or words (place / 64) 0) (slice_index_or others (place / 64) 0) (place % 64))) other)
    c.copy_tail.ensures
    ∙ before_taken words others place c.requires.long c.requires.there other l

pub returns-clause-rest : goal.returns-clause-rest
returns-clause-rest c = λ other l.
    let words = c.args.words.now in
    let others = c.args.others.now in
    let place = c.args.place in
    ap (λ (ws : List ℕ). truth_at (slice_set ws (place / 64)
    (joined (slice_index_or words (place / 64) 0) (slice_index_or others (place / 64) 0) (place % 64))) other)
    c.copy_tail.ensures
    ∙ from_taken words others place c.requires.long c.requires.there other l
