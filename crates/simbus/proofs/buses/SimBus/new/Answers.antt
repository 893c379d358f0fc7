use Rattle.std.proofs.Common.{◌≡◌, ℕ, List, [], ◌++◌, false, Some, refl, sym, subst, ◌∙◌, ap, arith}
use Rattle.std.specs.Prelude.{reverse}
use Rattle.buslink.specs.BusLog.{frames_in}
use Rattle.buslink.specs.declared.marks.Sent.{Sent}
use Rattle.buslink.specs.declared.arrivals.Arrival.{Arrival}
use Rattle.simbus.specs.Histories.{Setup}
use Rattle.simbus.specs.Kept.{setup_of}
use Rattle.simbus.specs.Simulated.{AreAnswered, Simulated, setup_in}
use Rattle.simbus.proofs.Keeping.{setup_kept, kept_sent}
use Rattle.simbus.proofs.buses.SimBus.new.Goals as goal

pub invariant_of-result : goal.invariant_of-result
invariant_of-result c = record {
  kept = kept_sent _ [] c.new-3.result.items c.in_ok-equipment.equipment c.in_ok-equipment.ensures
      (ap reverse c.new-3.ensures.items);
  sent_spare = omega (arith, c.new-3.ensures.len);
  heard_spare = omega (arith, c.new-4.ensures.len);
  room = omega (
    arith,
    c.in_ok-with_capacity.ensures.len,
    c.in_ok-with_capacity.ensures.capacity,
    c.from_vec.ensures.len,
    c.len.ensures,
  );
  heard = c.new-4.ensures.items ∙ ap (λ (xs : List Arrival). frames_in (reverse xs)) (sym c.new-2.ensures);
  answered = subst (λ (xs : List Sent). AreAnswered (setup_of c.in_ok-equipment.equipment) c.args.setup.script.items
      (reverse xs)) (sym c.new-3.ensures.items) tt;
}

pub returns : goal.returns
returns c =
    let setup : setup_of c.in_ok-equipment.equipment ≡ setup_in c.args.setup =
    setup_kept _ [] c.in_ok-equipment.equipment c.in_ok-equipment.ensures
    ∙ (rw (c.as_slice.ensures.value, c.as_slice-2.ensures.value) refl) in
    let seen : Setup → List Arrival → List Arrival → List Arrival → List Sent → List ℕ
    → Simulated = λ declared met waiting later sent heard. record {
      setup = declared;
      script = c.args.setup.script.items;
      waiting = waiting;
      log = record {
        number = c.args.setup.number;
        arrivals = Some (record { come = reverse met ++ waiting; later = later });
        sent = sent;
        heard = heard;
        spare = 0;
        failures = 0;
        hears = 0;
        heard_none = false;
        mends = 0;
        is_mended = false;
      };
    } in
    let declared = setup_in c.args.setup in let arrivals = c.args.setup.arrivals.items in
    let waiting = c.in_ok-with_capacity.field-0.items in let later = c.from_vec.result.items in
    let sent = c.new-3.result.items in let heard = c.new-4.result.items in
    ap (λ (x : Setup). seen x c.new-2.result.items waiting later sent heard) setup
    ∙ (ap (λ (x : List Arrival). seen declared x waiting later sent heard) c.new-2.ensures
    ∙ (ap (λ (x : List Arrival). seen declared [] x later sent heard) c.in_ok-with_capacity.ensures.items
    ∙ (ap (λ (x : List Arrival). seen declared [] [] x sent heard) c.from_vec.ensures.items
    ∙ (ap (λ (x : List Sent). seen declared [] [] arrivals x heard) c.new-3.ensures.items
    ∙ ap (λ (x : List ℕ). seen declared [] [] arrivals [] x) c.new-4.ensures.items))))
