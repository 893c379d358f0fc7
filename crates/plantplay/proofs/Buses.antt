-- The buses of an installation: one bus more of a scenario, as many as the plan has, and one to which something comes.
use Rattle.std.proofs.Common.{◌≡◌, ◌∙◌, ap, ℕ, ◌+◌, List, [], ◌∷◌, ◌++◌, length, map, refl, sym, Some, arith}
use Rattle.std.specs.Prelude.{slice_get, slice_set}
use Rattle.std.proofs.lemmas.List.{map-set}
use Rattle.std.proofs.lemmas.List.FromFn.{length-map-range_with_len, map-range_with_len_more}
use Rattle.buslink.specs.BusLog.{BusLog, after_arrival}
use Rattle.wordlines.specs.declared.statements.Statement.{Statement}
use Rattle.simbus.specs.Simulated.{Simulated}
use Rattle.ilcompile.specs.Loaded.{Loaded}
use Rattle.plant.specs.Shown.{Shown, opened}
use Rattle.plantdriving.specs.Links.{log_of}
use Rattle.plantdriving.specs.Open.{HasNothingOpen}
use Rattle.plantdriving.proofs.Turned.{log_stands}
use Rattle.plantplay.specs.Installations.{bus_of, buses_of, sim_log}

pub one_bus_more : (scenario : List Statement) (bus number : ℕ) (before : List Simulated) (next : Simulated)
    → before ≡ buses_of scenario bus → next ≡ bus_of scenario number → number ≡ bus
    → before ++ next ∷ [] ≡ buses_of scenario (bus + 1)
one_bus_more scenario bus number before next is made same =
    ap (λ (bs : List Simulated). bs ++ next ∷ []) is
    ∙ (ap (λ (b : Simulated). buses_of scenario bus ++ b ∷ []) (made ∙ ap (bus_of scenario) same)
    ∙ sym (map-range_with_len_more (bus_of scenario) 0 bus bus (omega arith)))

pub count_of : (scenario : List Statement) (buses : ℕ) → length (buses_of scenario buses) ≡ buses
count_of scenario buses = length-map-range_with_len (bus_of scenario) 0 buses

-- nothing is open in a plant to which nothing has happened
pub nothing_open : (setup : Loaded) (workers limit : ℕ) (p : Shown) → p ≡ opened setup workers limit → HasNothingOpen p
nothing_open setup workers limit p is = record {
  no_scan = λ w known. rw is refl;
  no_hand = λ b known. rw is refl;
}

-- what becomes of one bus, becomes of its log
pub log_arrives : (lines : List Simulated) (place : ℕ) (before after : Simulated) → slice_get lines place ≡ Some before
    → after.log ≡ after_arrival before.log
    → map sim_log (slice_set lines place after)
    ≡ slice_set (map sim_log lines) place (after_arrival (log_of (map sim_log lines) place))
log_arrives lines place before after there is =
    map-set sim_log lines place after
    ∙ ap (λ (log : BusLog). slice_set (map sim_log lines) place log)
    (is ∙ ap after_arrival (sym (log_stands sim_log lines place before there)))
