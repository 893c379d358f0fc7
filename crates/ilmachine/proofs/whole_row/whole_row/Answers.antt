use Rattle.std.proofs.Common.{ℕ, List, ◌++◌, map, take, drop, length, sym, ap, ◌∙◌}
use Rattle.iltypes.specs.declared.value.IlType.{IlType}
use Rattle.ilcells.specs.Banks.{kinds_of_types}
use Rattle.ilcode.specs.Lasting.{least_of}
use Rattle.ilmachine.proofs.WholeRows.{whole_kinds, is_whole}
use Rattle.ilmachine.proofs.whole_row.whole_row.Goals as goal

pub longer-requires-clause-kinds : goal.longer-requires-clause-kinds
longer-requires-clause-kinds c =
    let lasting = c.args.lasting.now in
    whole_kinds c.args.code.now lasting c.requires
    ∙ ap (λ (ts : List IlType). take (length lasting) (kinds_of_types ts)) (sym c.slots-types.ensures.value)

pub returns : goal.returns
returns c =
    let lasting = c.args.lasting.now in
    let row = c.in_ok-row.row in
    let front = take (length lasting) row in
    c.reset.ensures
    ∙ ap (λ (n : ℕ). take n row ++ map least_of (drop n c.slots-types.result.now)) c.len.ensures
    ∙ ap (λ (ts : List IlType). front ++ map least_of (drop (length lasting) ts)) c.slots-types.ensures.value
    ∙ is_whole c.args.code.now lasting front c.requires c.in_ok-row.ensures.start
