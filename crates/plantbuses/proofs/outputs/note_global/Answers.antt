use Rattle.std.proofs.Common.{◌≡◌, ◌<◌, ℕ, Option, Some, [], List, length, sym, ap, ◌∙◌, arith}
use Rattle.std.proofs.lemmas.List.{get_or_read, length-set}
use Rattle.std.specs.Prelude.{slice_set}
use Rattle.plantbuses.specs.declared.outputs.LevelOutput.{LevelOutput}
use Rattle.plantbuses.specs.OutputSteps.{level_of, output_for, output_in, noted_at}
use Rattle.plantbuses.proofs.LocatedLevels.{put_at, put_levels}
use Rattle.plantbuses.proofs.outputs.note_global.Goals as goal

pub index_mut-requires : goal.index_mut-requires
index_mut-requires c =
    let e = c.from.ensures in let k = c.in-Some.ensures.known.0 in let n = c.requires.levels.0 in omega arith

pub put-requires : goal.put-requires
put-requires c =
    let items = c.args.outputs.now.items in let n = c.from.result in
    let known : n < c.args.plan.now.buses =
    let k = c.in-Some.ensures.known.0 in let e = c.from.ensures in omega arith in
    let lt : n < length items = let m = c.requires.levels.0 in omega arith in
    let row = get_or_read items n c.index_mut.result.now lt c.index_mut.ensures.value [] in
    let long = ap (λ (l : List (Option LevelOutput)). length l) row ∙ c.requires.levels.1 n known in
    let low = c.in-Some.ensures.known.1 in omega arith

pub returns-clause-levels : goal.returns-clause-levels
returns-clause-levels c =
    let items = c.args.outputs.now.items in let n = c.from.result in
    let known : n < c.args.plan.now.buses =
    let k = c.in-Some.ensures.known.0 in let e = c.from.ensures in omega arith in
    let lt : n < length items = let m = c.requires.levels.0 in omega arith in
    let row = get_or_read items n c.index_mut.result.now lt c.index_mut.ensures.value [] in
    let long = ap (λ (l : List (Option LevelOutput)). length l) c.put.ensures
    ∙ (length-set c.index_mut.result.now c.in-Some.address (Some (output_for c.args.global c.args.kind))
    ∙ (ap (λ (l : List (Option LevelOutput)). length l) row ∙ c.requires.levels.1 n known)) in
    put_levels c.args.plan.now.buses items c.put.new.self n lt long c.requires.levels

pub returns-clause-noted : goal.returns-clause-noted
returns-clause-noted c = λ b a.
    let items = c.args.outputs.now.items in let n = c.from.result in
    let output = output_for c.args.global c.args.kind in
    let place = level_of c.args.plan.now c.args.global in
    let known : n < c.args.plan.now.buses =
    let k = c.in-Some.ensures.known.0 in let e = c.from.ensures in omega arith in
    let lt : n < length items = let m = c.requires.levels.0 in omega arith in
    let row = get_or_read items n c.index_mut.result.now lt c.index_mut.ensures.value [] in
    let long = ap (λ (l : List (Option LevelOutput)). length l) row ∙ c.requires.levels.1 n known in
    let is : place ≡ Some (n, c.in-Some.address) =
    sym c.level_of.ensures.value
    ∙ (c.in-Some.is ∙ ap (λ (k : ℕ). Some (k, c.in-Some.address)) (sym c.from.ensures)) in
    ap (λ (r : List (Option LevelOutput)). output_in (slice_set items n r) b a) c.put.ensures
    ∙ put_at items c.index_mut.result.now n c.in-Some.address place output lt
    (let low = c.in-Some.ensures.known.1 in omega arith) row is b a

pub returns-in_default-clause-noted : goal.returns-in_default-clause-noted
returns-in_default-clause-noted c = λ b a.
    let items = c.args.outputs.now.items in let output = output_for c.args.global c.args.kind in
    sym (ap (λ (o : Option (ℕ × ℕ)). noted_at o output b a (output_in items b a))
    (sym c.level_of.ensures.value ∙ c.in_default.is))
