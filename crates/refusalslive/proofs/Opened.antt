-- What is so of a building that was opened: its second bus, its clock and its lines.
use Rattle.std.proofs.Common.{◌≡◌, ℕ, ◌<◌, List, Option, Some, None, Result, Ok, Err, IfOk, IfSome, OnOk, codes}
use Rattle.std.proofs.Common.{refl, subst, arith}
use Rattle.std.specs.Int.NonZero.{non_zero_u64_get}
use Rattle.std.specs.Prelude.{All, Contains, max, option_map, slice_get}
use Rattle.std.proofs.lemmas.List.Elements.{All-contains}
use Rattle.buslink.specs.BusLog.{BusLog}
use Rattle.buslink.specs.ClockLog.{ClockLog}
use Rattle.ilcompile.specs.Loaded.{Loaded}
use Rattle.commandoptions.specs.declared.live_options.LiveOptions.{LiveOptions}
use Rattle.commandoptions.specs.declared.line_word.LineWord.{LineWord}
use Rattle.livehouse.specs.Buildings.{IsOpened}
use Rattle.livehouse.specs.Lineups.{HasNoLine}
use Rattle.livehouse.specs.Sites.{IsPeriodFor, moment_of_end}
use Rattle.livehouse.specs.declared.buildings.Building.{Building}

if_found : {B : Type 0} (P : B → Type 0) (found : Option B) → ((bus : B) → found ≡ Some bus → P bus) → IfSome found P
if_found P None each = tt
if_found P (Some bus) each = each bus refl

module _ {B C E : Type 0} (bus_log : B → BusLog) (clock_log : C → ClockLog) (is_of : B → LineWord → ℕ → Type 0)
    (is_timed : C → ℕ → ℕ → ℕ → Option (List ℕ) → Type 0) (of : Loaded) (words : List LineWord) (options : LiveOptions)
    (begins : ℕ) where
  -- it has the line of the one word that names it
  pub has_line : (line : LineWord) (given : Result (Building B C) E)
      → IfOk given (IsOpened bus_log clock_log is_of is_timed of words options begins)
      → All (λ word. word.bus ≡ 1 → word ≡ line) words → options.patience ≡ 700
      → IfOk given (λ building. IfSome (slice_get building.buses.items 1) (λ bus. is_of bus line 700))
  has_line line (Err stop) opened only patience = tt
  has_line line (Ok building) opened only patience =
      if_found (λ bus. is_of bus line 700) (slice_get building.buses.items 1) (λ bus at.
      let reached = opened.reached 1 bus at in
      let word = reached.0 in
      let same : word ≡ line =
      All-contains (λ (w : LineWord). w.bus ≡ 1 → w ≡ line) words word only reached.1.0 reached.1.1 in
      subst (λ (w : LineWord). is_of bus w 700) same (subst (λ n. is_of bus word n) patience reached.2))

  -- it has its number
  pub has_number : (given : Result (Building B C) E)
      → IfOk given (IsOpened bus_log clock_log is_of is_timed of words options begins)
      → IfOk given (λ building. IfSome (slice_get building.buses.items 1) (λ bus. (bus_log bus).number ≡ 1))
  has_number (Err stop) opened = tt
  has_number (Ok building) opened =
      if_found (λ bus. (bus_log bus).number ≡ 1) (slice_get building.buses.items 1) (λ bus at.
      (opened.buses.each 1 bus at).number)

  -- its clock has the period and the end that are asked for
  pub has_clock : (given : Result (Building B C) E)
      → IfOk given (IsOpened bus_log clock_log is_of is_timed of words options begins)
      → begins ≡ 3000 → options.period ≡ Some 20 → options.seconds ≡ Some 5
      → option_map (λ path. path.now) options.stop ≡ Some (codes "stop")
      → IfOk given (λ building. is_timed building.clock 20 3000 8000 (Some (codes "stop")))
  has_clock (Err fault) opened begin period seconds stop = tt
  has_clock (Ok building) opened begin period seconds stop =
      let every = non_zero_u64_get building.period in
      let is : every ≡ max 20 1 = subst (λ (p : Option ℕ). IsPeriodFor of.plan p every) period opened.period in
      let twenty : every ≡ 20 = is in
      let path = option_map (λ path. path.now) options.stop in
      let first = subst (λ (n : ℕ). is_timed building.clock n begins (moment_of_end begins options.seconds) path) twenty
      opened.timed in
      let second = subst (λ (s : Option ℕ). is_timed building.clock 20 begins (moment_of_end begins s) path) seconds first in
      let third = subst (λ (b : ℕ). is_timed building.clock 20 b (moment_of_end b (Some 5)) path) begin second in
      subst (λ (p : Option (List ℕ)). is_timed building.clock 20 3000 8000 p) stop third

  -- no word names a bus that there is not
  pub none_beyond : (line : LineWord) (given : Result (Building B C) E)
      → IfOk given (IsOpened bus_log clock_log is_of is_timed of words options begins)
      → of.plan.buses ≡ 2 → Contains words line → line.bus ≡ 2 → OnOk given ⊥
  none_beyond line (Err fault) opened buses there bus = tt
  none_beyond line (Ok building) opened buses there bus =
      let below = All-contains (λ (w : LineWord). w.bus < of.plan.buses) words line opened.lines.known there in
      omega (arith, below, buses, bus)

  -- each bus has a line
  pub none_without : (given : Result (Building B C) E)
      → IfOk given (IsOpened bus_log clock_log is_of is_timed of words options begins)
      → 0 < of.plan.buses → HasNoLine 0 words → OnOk given ⊥
  none_without (Err fault) opened some none = tt
  none_without (Ok building) opened some none =
      let line = opened.lines.each 0 some in
      All-contains (λ (w : LineWord). ¬ (w.bus ≡ 0)) words line.0 none line.1.0 line.1.1
