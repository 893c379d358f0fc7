use Rattle.std.proofs.Common.{◌+◌, ◌∙◌, ℕ, Result, Ok, Err, ap, arith, subst}
use Rattle.std.specs.Prelude.{slice_get, OnOk}
use Rattle.ilcode.specs.Listings.{end_of}
use Rattle.ilverify.specs.Changes.{ways_of}
use Rattle.ilverify.specs.Certificates.{is_met}
use Rattle.ilverify.specs.PassSteps.{MeetsIf, coming, target_of}
use Rattle.ilverify.proofs.PassForward.{target_forward}
use Rattle.ilverify.proofs.PassPending.{can_meet, target_bounded, between_bounded, kept_bounded}
use Rattle.ilverify.proofs.pass.follow_ways.Goals as goal

on_ok : {T E : Type 0} (r : Result T E) (P Q : Type 0) → OnOk r P → (P → Q) → OnOk r Q
on_ok (Ok x) P Q h f = f h
on_ok (Err x) P Q h f = tt

pub follow_target-requires : goal.follow_target-requires
follow_target-requires c =
    let code = c.args.code.now in
    let pending = c.args.pending.now.items in
    let n = c.args.place in
    let entry = c.args.entry in
    let ways = ways_of code entry c.args.changes in
    let to = c.target_of-target.result in
    let end = c.end_of-end.result in
    let met = is_met pending (n + 1) in
    let ahead = target_forward code n met entry c.args.word ways c.requires.rule in
    can_meet code (slice_get pending to) (coming code end to ways.target)
    (λ old e. c.requires.bounded to old (omega (arith, c.target_of-target.ensures, ahead)) e)
    (λ old e. target_bounded code n end to met entry c.args.word ways c.requires.typed c.requires.rule)

pub follow_next-requires : goal.follow_next-requires
follow_next-requires c =
    let code = c.args.code.now in
    let pending = c.args.pending.now.items in
    let between = c.follow_target.new.pending.items in
    let n = c.args.place in
    let entry = c.args.entry in
    let ways = ways_of code entry c.args.changes in
    let to = c.target_of-target.result in
    let end = c.end_of-end.result in
    let met = is_met pending (n + 1) in
    let m = c.in_ok-follow_target.ensures in
    can_meet code (slice_get between (n + 1)) (coming code end (n + 1) ways.next)
    (λ old e. between_bounded code n end to met entry c.args.word ways pending between c.requires.typed
    c.requires.bounded c.requires.rule m (n + 1) old (omega arith) e)
    (λ old e. kept_bounded code n end to entry c.args.word ways pending between c.requires.typed c.requires.bounded
    c.requires.rule m old e)

pub returns : goal.returns
returns c =
    let code = c.args.code.now in
    let n = c.args.place in
    let pending = c.args.pending.now.items in
    let between = c.follow_target.new.pending.items in
    let ways = ways_of code c.args.entry c.args.changes in
    let end = c.end_of-end.ensures ∙ ap (end_of code) c.body_at.ensures in
    on_ok c.follow_next.result _ _ c.follow_next.ensures (λ next. record {
      between = between;
      target = subst (λ (e : ℕ). MeetsIf pending (target_of n c.args.word)
          (coming code e (target_of n c.args.word) ways.target) between) end
          (subst (λ (to : ℕ). MeetsIf pending to (coming code c.end_of-end.result to ways.target) between)
          c.target_of-target.ensures c.in_ok-follow_target.ensures);
      next = subst
          (λ (e : ℕ). MeetsIf between (n + 1) (coming code e (n + 1) ways.next) c.follow_next.new.pending.items)
          end next;
    })
