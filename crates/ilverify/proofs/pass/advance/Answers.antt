use Rattle.std.proofs.Common.{◌≡◌, ◌∙◌, ◌+◌, ◌<◌, length, Bool, Some, Option, sym, ap, subst, arith}
use Rattle.std.specs.Prelude.{slice_get, slice_set}
use Rattle.std.proofs.lemmas.Option.{slice_get-get_or}
use Rattle.ilverify.specs.declared.entry.Entry.{Entry}
use Rattle.ilverify.specs.Causes.{IsLeastCause}
use Rattle.ilverify.specs.Changes.{ways_of}
use Rattle.ilverify.specs.Refusals.{ArisesAtWord}
use Rattle.ilverify.specs.Rules.{IsRule}
use Rattle.ilverify.specs.Certificates.{Certificate, is_closed, is_met}
use Rattle.ilverify.specs.PassSteps.{AreBounded, AreFollowed, IsFound}
use Rattle.ilverify.proofs.PassForward.{refused}
use Rattle.ilverify.proofs.PassPending.{found_skipped, found_next, rest_bounded, rest_same}
use Rattle.ilverify.proofs.pass.advance.Goals as goal

pub returns-in_default-clause-judged : goal.returns-in_default-clause-judged
returns-in_default-clause-judged c =
    let code = c.args.code.now in
    let pending = c.args.pending.now.items in
    let n = c.args.place in
    let f = c.requires.found in
    let ln : n < length pending = omega (arith, f.long, c.requires.within) in
    let e : slice_get pending n ≡ Some c.take.result = slice_get-get_or pending n _ ln
    ∙ ap Some (sym (c.take.ensures.value ∙ c.index_mut.ensures.value)) in
    subst (λ (x : Option Entry). IsFound code (n + 1) (slice_set pending n x)) (sym c.take.ensures.after)
    (found_skipped code n pending c.requires.within f (e ∙ ap Some c.in_default.is))

pub follow_ways-requires-clause-typed : goal.follow_ways-requires-clause-typed
follow_ways-requires-clause-typed c =
    let pending = c.args.pending.now.items in
    let n = c.args.place in
    let f = c.requires.found in
    let ln : n < length pending = omega (arith, f.long, c.requires.within) in
    let e : slice_get pending n ≡ Some c.take.result = slice_get-get_or pending n _ ln
    ∙ ap Some (sym (c.take.ensures.value ∙ c.index_mut.ensures.value)) in
    f.typed c.in-Some.entry (e ∙ ap Some c.in-Some.is)

pub follow_ways-requires-clause-bounded : goal.follow_ways-requires-clause-bounded
follow_ways-requires-clause-bounded c =
    let code = c.args.code.now in
    let pending = c.args.pending.now.items in
    let n = c.args.place in
    subst (λ (x : Option Entry). AreBounded code n (slice_set pending n x)) (sym c.take.ensures.after)
    (rest_bounded code n pending c.requires.found.bounded)

pub returns-in_ok-follow_ways-in-Ok-clause-judged : goal.returns-in_ok-follow_ways-in-Ok-clause-judged
returns-in_ok-follow_ways-in-Ok-clause-judged c =
    let code = c.args.code.now in
    let pending = c.args.pending.now.items in
    let n = c.args.place in
    let f = c.requires.found in
    let entry = c.in-Some.entry in
    let changes = c.in-Ok.changes in
    let ln : n < length pending = omega (arith, f.long, c.requires.within) in
    let e : slice_get pending n ≡ Some c.take.result = slice_get-get_or pending n _ ln
    ∙ ap Some (sym (c.take.ensures.value ∙ c.index_mut.ensures.value)) in
    let word = c.word-word.result in
    let met = c.is_met-met.ensures ∙ ap (λ (p : Certificate). is_met p (n + 1))
    (c.deref.ensures.value ∙ ap (λ (x : Option Entry). slice_set pending n x) c.take.ensures.after) in
    let rule = subst (λ (m : Bool). IsRule code n m entry word (ways_of code entry changes)) met c.in-Ok.ensures in
    let ways = subst
    (λ (x : Option Entry). AreFollowed code n word entry changes
    (slice_set pending n x) c.follow_ways.new.pending.items)
    c.take.ensures.after c.in_ok-follow_ways-in-Ok.ensures in
    found_next code n entry word changes pending c.follow_ways.new.pending.items c.word-word.ensures.lawful f
    (e ∙ ap Some c.in-Some.is)
    c.word-word.ensures.value rule ways

pub returns-in-Err-clause-judged : goal.returns-in-Err-clause-judged
returns-in-Err-clause-judged c =
    let code = c.args.code.now in
    let pending = c.args.pending.now.items in
    let n = c.args.place in
    let f = c.requires.found in
    let entry = c.in-Some.entry in
    let ln : n < length pending = omega (arith, f.long, c.requires.within) in
    let e : slice_get pending n ≡ Some c.take.result = slice_get-get_or pending n _ ln
    ∙ ap Some (sym (c.take.ensures.value ∙ c.index_mut.ensures.value)) in
    let word = c.word-word.result in
    let lines : n < length c.lines.result.now = omega
    (arith, ap length c.lines.ensures.value, c.word-word.ensures.lawful.lines, c.requires.within) in
    let li = ap (λ l. slice_get l n) (sym c.lines.ensures.value) ∙ slice_get-get_or c.lines.result.now n 0 lines in
    let met = c.is_met-met.ensures ∙ ap (λ (p : Certificate). is_met p (n + 1))
    (c.deref.ensures.value ∙ ap (λ (x : Option Entry). slice_set pending n x) c.take.ensures.after)
    ∙ ap is_closed (rest_same code n pending f (n + 1) (omega arith)) in
    let least = subst (λ (m : Bool). IsLeastCause
    (ArisesAtWord code n m entry word) c.in-Err.cause) met c.in-Err.ensures in
    refused code f.certificate n _ c.in-Err.cause entry word f.closest c.word-word.ensures.value
    (sym (f.same n (omega arith)) ∙ e ∙ ap Some c.in-Some.is) li least
