-- What a scenario has for a bus comes there, and a bus that is up has heard it wherever nothing is left to do.
use Rattle.std.proofs.Common.{◌≡◌, ◌≢◌, ◌⊎◌, inl, inr, ⊎_elim, ℕ, eqb, ◌<◌, ◌≤◌, Bool, true, false, List, [], ◌∷◌, ◌++◌}
use Rattle.std.proofs.Common.{length, reverse, Option, Some, None, refl, sym, ap, ◌∙◌, subst, append-nil, length-set, arith}
use Rattle.std.specs.Prelude.{if◌then◌else◌, IfSome, option_map}
use Rattle.std.specs.List.{filter_map, cons_option}
use Rattle.std.proofs.lemmas.Bool.{cases_lt, eqb-true, eqb-false, ne_eqb}
use Rattle.std.proofs.lemmas.Bool.Decides.{eqb_tells}
use Rattle.std.proofs.lemmas.Grind.{get_or-set_at}
use Rattle.std.proofs.lemmas.List.{get_or-set_other}
use Rattle.std.proofs.lemmas.List.Elements.{filter_map-append}
use Rattle.buslink.specs.declared.arrivals.Arrival.{Arrival}
use Rattle.buslink.specs.declared.arrivals.Arrival.TheVariants as arrival
use Rattle.buslink.specs.BusLog.{Arrivals, BusLog, after_arrival, frame_in, frames_in, one_more_came}
use Rattle.wordlines.specs.declared.happenings.Happening.{Happening}
use Rattle.wordlines.specs.declared.happenings.Happening.TheVariants.{Tick, Event, HearFault}
use Rattle.wordlines.specs.declared.statements.Statement.{Statement}
use Rattle.wordlines.specs.declared.statements.Statement.TheVariants as statement
use Rattle.wordlines.specs.Happenings.{happenings}
use Rattle.simbus.specs.Setups.{arrival_on}
use Rattle.plantevents.specs.Histories.{is_down}
use Rattle.plantevents.specs.Plants.{Plant}
use Rattle.plant.specs.Shown.{Shown}
use Rattle.plantdriving.specs.Links.{log_of, no_frame}
use Rattle.plantdriving.specs.Quiet.{WasSilent}
use Rattle.plantplay.specs.Stage.{Stage, Happens, HasSettled, IsPlayedBy, arriving}
use Rattle.plantplay.proofs.Followed.{one_later}
use Rattle.plantplay.proofs.Given.{one_after}
use Rattle.plantplay.proofs.Happened.{driven_of}

-- ---- what comes on a bus

-- what comes at bus c, for bus b
abbrev here : ℕ → ℕ → Arrival → Option Arrival
here c b a = if eqb c b then Some a else None

abbrev pub arrival_of : ℕ → Happening → Option Arrival
arrival_of b (Tick m) = None
arrival_of b (Event c frame) = here c b (arrival.Frame frame)
arrival_of b (HearFault c) = here c b arrival.Fault

abbrev pub arrivals_of : ℕ → List Happening → List Arrival
arrivals_of b happenings = filter_map (arrival_of b) happenings

-- all that happens brings what the statements have for the bus
pub arrivals_of_all : (b : ℕ) (statements : List Statement)
    → arrivals_of b (happenings statements) ≡ filter_map (arrival_on b) statements
arrivals_of_all b [] = refl
arrivals_of_all b (statement.Gear bus short start ∷ more) = arrivals_of_all b more
arrivals_of_all b (statement.LampFailure bus short ∷ more) = arrivals_of_all b more
arrivals_of_all b (statement.Memory bus short bank offset value ∷ more) = arrivals_of_all b more
arrivals_of_all b (statement.Device bus short ∷ more) = arrivals_of_all b more
arrivals_of_all b (statement.InputInstance bus short number kind scheme value ∷ more) = arrivals_of_all b more
arrivals_of_all b (statement.Reply bus place fate ∷ more) = arrivals_of_all b more
arrivals_of_all b (statement.HearFault bus ∷ more) = ap (cons_option (here bus b arrival.Fault)) (arrivals_of_all b more)
arrivals_of_all b (statement.Tick moment ∷ more) = arrivals_of_all b more
arrivals_of_all b (statement.Event bus frame ∷ more) =
    ap (cons_option (here bus b (arrival.Frame frame))) (arrivals_of_all b more)

-- ---- how far it came

-- this came on bus b and that is to come; the bus is one of the plan's, and is down or heard all
pub record IsUpTo (b : ℕ) (come later : List Arrival) (s : Stage) : Type 0 where
  pub known : b < s.plant.plant.plan.buses
  pub count : length s.logs ≡ s.plant.plant.plan.buses
  pub arrivals : (log_of s.logs b).arrivals ≡ Some (record { come = come; later = later })
  pub heard : (is_down b s.plant.history ≡ true) ⊎ ((log_of s.logs b).heard ≡ frames_in come)

-- the same, without what was heard
record HasCome (b : ℕ) (come later : List Arrival) (s : Stage) : Type 0 where
  known : b < s.plant.plant.plan.buses
  count : length s.logs ≡ s.plant.plant.plan.buses
  arrivals : (log_of s.logs b).arrivals ≡ Some (record { come = come; later = later })

heard_all : (log : BusLog) (come later : List Arrival) → log.arrivals ≡ Some (record { come = come; later = later })
    → IfSome log.arrivals (λ (a : Arrivals). log.heard ≡ frames_in a.come) → log.heard ≡ frames_in come
heard_all log come later is all =
    subst (λ (o : Option Arrivals). IfSome o (λ (a : Arrivals). log.heard ≡ frames_in a.come)) is all

-- all that came was heard
up_settled : (b : ℕ) (come later : List Arrival) (s t : Stage) → HasCome b come later s → HasSettled s t
    → IsUpTo b come later t
up_settled b come later s t is settled =
    let driven = driven_of s t settled in
    let known : b < t.plant.plant.plan.buses = subst (λ (m : Plant). b < m.plan.buses) (sym driven.plant) is.known in
    let arrivals = (driven.same b).arrivals ∙ is.arrivals in
    record {
      known = known;
      count = driven.count ∙ (is.count ∙ ap (λ (m : Plant). m.plan.buses) (sym driven.plant));
      arrivals = arrivals;
      heard = ⊎_elim (λ (down : is_down b t.plant.history ≡ true). inl down)
          (λ (silent : WasSilent (log_of s.logs b) (log_of t.logs b)).
          inr (heard_all (log_of t.logs b) come later arrivals silent.all)) (settled.quiet.heard b known);
    }

-- ---- something comes

-- at bus b itself, or elsewhere
comes_at : (c b : ℕ) (k : Bool) (a : Arrival) (come later : List Arrival) (s : Stage) → eqb c b ≡ k
    → HasCome b come (cons_option (if k then Some a else None) later) s
    → HasCome b (come ++ cons_option (if k then Some a else None) []) later (arriving c s)
comes_at c b true a come later s same is =
    let new = after_arrival (log_of s.logs c) in
    let at : c ≡ b = eqb-true c b same in
    let inside : c < length s.logs = let k = is.known in let n = is.count in omega (arith, at) in
    record {
      known = is.known;
      count = length-set s.logs c new ∙ is.count;
      arrivals = ap (λ (log : BusLog). log.arrivals) (get_or-set_at s.logs c b new no_frame (sym at) inside)
          ∙ (ap (λ (n : ℕ). (after_arrival (log_of s.logs n)).arrivals) at
          ∙ ap (option_map (λ (x : Arrivals). one_more_came x.later x)) is.arrivals);
    }
comes_at c b false a come later s same is =
    let new = after_arrival (log_of s.logs c) in
    record {
      known = is.known;
      count = length-set s.logs c new ∙ is.count;
      arrivals = ap (λ (log : BusLog). log.arrivals)
          (get_or-set_other s.logs c b new no_frame (λ at. eqb-false c b same (sym at)))
          ∙ (is.arrivals ∙ ap (λ (cs : List Arrival). Some (record { come = cs; later = later })) (sym (append-nil come)));
    }

comes_here : (c b : ℕ) (a : Arrival) (come later : List Arrival) (s : Stage)
    → HasCome b come (cons_option (here c b a) later) s
    → HasCome b (come ++ cons_option (here c b a) []) later (arriving c s)
comes_here c b a come later s is = comes_at c b (eqb c b) a come later s refl is

-- what was heard stays
same_heard : (c b : ℕ) (s : Stage) → b < length s.logs
    → (log_of (arriving c s).logs b).heard ≡ (log_of s.logs b).heard
same_heard c b s inside =
    let new = after_arrival (log_of s.logs c) in
    ⊎_elim (λ (is : (eqb b c ≡ true) × (b ≡ c)).
    ap (λ (log : BusLog). log.heard) (get_or-set_at s.logs c b new no_frame is.1 (omega (arith, inside, is.1)))
    ∙ ap (λ (n : ℕ). (log_of s.logs n).heard) (sym is.1))
    (λ (is : (eqb b c ≡ false) × (b ≢ c)).
    ap (λ (log : BusLog). log.heard) (get_or-set_other s.logs c b new no_frame is.1)) (eqb_tells b c)

-- where no frame came, all was heard still
up_arrived : (c b : ℕ) (a : Arrival) (come later : List Arrival) (s : Stage)
    → frames_in (cons_option (here c b a) []) ≡ [] → IsUpTo b come (cons_option (here c b a) later) s
    → IsUpTo b (come ++ cons_option (here c b a) []) later (arriving c s)
up_arrived c b a come later s none is =
    let came = comes_here c b a come later s (record { known = is.known; count = is.count; arrivals = is.arrivals }) in
    let inside : b < length s.logs = let k = is.known in let n = is.count in omega arith in
    record {
      known = came.known;
      count = came.count;
      arrivals = came.arrivals;
      heard = ⊎_elim (λ (down : is_down b s.plant.history ≡ true). inl down)
          (λ (all : (log_of s.logs b).heard ≡ frames_in come).
          inr (same_heard c b s inside
          ∙ (all ∙ sym (filter_map-append frame_in come (cons_option (here c b a) [])
          ∙ (ap (λ (fs : List ℕ). frames_in come ++ fs) none ∙ append-nil (frames_in come)))))) is.heard;
    }

no_frame_of_fault : (k : Bool) → frames_in (cons_option (if k then Some arrival.Fault else None) []) ≡ []
no_frame_of_fault true = refl
no_frame_of_fault false = refl

-- ---- one happening

has_come : (b : ℕ) (come later : List Arrival) (s : Stage) → IsUpTo b come later s → HasCome b come later s
has_come b come later s is = record { known = is.known; count = is.count; arrivals = is.arrivals }

up_happens : (b : ℕ) (come : List Arrival) (rest : List Happening) (happening : Happening) (s t : Stage)
    → IsUpTo b come (arrivals_of b (happening ∷ rest)) s → Happens happening s t
    → IsUpTo b (come ++ arrivals_of b (happening ∷ [])) (arrivals_of b rest) t
up_happens b come rest (Tick m) s t is (came, comes, settles) =
    subst (λ (cs : List Arrival). IsUpTo b cs (arrivals_of b rest) t) (sym (append-nil come))
    (up_settled b come (arrivals_of b rest) came t (record {
      known = subst (λ (p : Shown). b < p.plant.plan.buses) (sym comes.plant.1) is.known;
      count = ap length comes.logs ∙ (is.count ∙ ap (λ (p : Shown). p.plant.plan.buses) (sym comes.plant.1));
      arrivals = ap (λ (ls : List BusLog). (log_of ls b).arrivals) comes.logs ∙ is.arrivals;
    }) settles)
up_happens b come rest (Event c frame) s t is (came, comes, settles) =
    let a = arrival.Frame frame in let later = arrivals_of b rest in
    let now = come ++ cons_option (here c b a) [] in
    ⊎_elim (λ (below : c < came.plant.plant.plan.buses).
    up_settled b now later came t
    (subst (HasCome b now later) (sym comes)
    (comes_here c b a come later s (has_come b come (cons_option (here c b a) later) s is))) (settles.settled below))
    (λ (above : came.plant.plant.plan.buses ≤ c).
    let same : t ≡ arriving c s = settles.same above ∙ comes in
    let most : s.plant.plant.plan.buses ≤ c =
    subst (λ (x : Stage). x.plant.plant.plan.buses ≤ c) comes above in
    let other : eqb c b ≡ false = ne_eqb c b (λ at. let k = is.known in absurd (omega (arith, most, at))) in
    subst (IsUpTo b now later) (sym same)
    (up_arrived c b a come later s
    (ap (λ (k : Bool). frames_in (cons_option (if k then Some a else None) [])) other) is))
    (cases_lt c came.plant.plant.plan.buses)
up_happens b come rest (HearFault c) s t is (came, comes, settles) =
    let later = arrivals_of b rest in
    subst (IsUpTo b (come ++ cons_option (here c b arrival.Fault) []) later) (sym (settles ∙ comes))
    (up_arrived c b arrival.Fault come later s (no_frame_of_fault (eqb c b)) is)

-- ---- all that happened

pub up_by : (b : ℕ) (come : List Arrival) (done rest : List Happening) (s t : Stage)
    → IsUpTo b come (arrivals_of b (reverse done ++ rest)) s → IsPlayedBy done s t
    → IsUpTo b (come ++ arrivals_of b (reverse done)) (arrivals_of b rest) t
up_by b come [] rest s t is same =
    subst (IsUpTo b (come ++ []) (arrivals_of b rest)) (sym same)
    (subst (λ (cs : List Arrival). IsUpTo b cs (arrivals_of b rest) s) (sym (append-nil come)) is)
up_by b come (happening ∷ earlier) rest s t is (before, played, happens) =
    subst (λ (cs : List Arrival). IsUpTo b cs (arrivals_of b rest) t) (one_after (arrival_of b) come earlier happening)
    (up_happens b (come ++ arrivals_of b (reverse earlier)) rest happening before t
    (up_by b come earlier (happening ∷ rest) s before
    (subst (λ (hs : List Happening). IsUpTo b come (arrivals_of b hs) s) (sym (one_later earlier rest happening)) is)
    played) happens)
