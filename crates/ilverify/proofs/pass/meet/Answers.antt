use Rattle.std.proofs.Common.{◌≡◌, ◌∙◌, ◌≤◌, ◌<◌, length, Some, refl, ap, sym, subst, arith}
use Rattle.std.specs.Prelude.{slice_get}
use Rattle.std.proofs.lemmas.List.{set_past}
use Rattle.std.proofs.lemmas.Option.{slice_get-get_or, slice_get_past}
use Rattle.ilverify.specs.PassSteps.{IsMeetingAt}
use Rattle.ilverify.proofs.PassPending.{set_twice}
use Rattle.ilverify.proofs.pass.meet.Goals as goal

pub returns-in_ok-entry : goal.returns-in_ok-entry
returns-in_ok-entry c =
    let items = c.args.pending.now.items in
    let place = c.args.place in
    let entry = c.in_ok-entry.entry in
    let lt : place < length items = omega arith in
    let at : slice_get items place ≡ Some c.take-old.result = slice_get-get_or items place _ lt
    ∙ ap Some (sym (c.take-old.ensures.value ∙ c.index_mut.ensures.value)) in
    record {
      entry = entry;
      meeting = subst (λ o. IsMeetingAt o c.args.way entry) (sym at) c.in_ok-entry.ensures;
      is = set_twice items place c.take-old.new.self (Some entry);
    }

pub returns-else-place-len : goal.returns-else-place-len
returns-else-place-len c =
    let items = c.args.pending.now.items in
    let place = c.args.place in
    let way = c.args.way in
    let ge : length items ≤ place = omega arith in
    record {
      entry = way;
      meeting = subst (λ o. IsMeetingAt o way way) (sym (slice_get_past items place ge)) refl;
      is = sym (set_past items place (Some way) ge);
    }
