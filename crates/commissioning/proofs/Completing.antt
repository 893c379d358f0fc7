-- What is left of a survey that is broken off: silence at the questions that were not asked yet.
use Rattle.std.proofs.Common.{◌≡◌, ℕ, suc, ◌≤◌, ◌<◌, List, [], ◌++◌, Bool, true, false, MatchBool, refl, sym, subst}
use Rattle.std.proofs.Common.{append-nil, eq-or-lt_of_le, inl, inr, ⊎_elim, arith}
use Rattle.gearcmd.specs.declared.requests.Command.{Command}
use Rattle.gearcmd.specs.declared.requests.Command.TheVariants.{GearAsk, DevAsk}
use Rattle.buslink.specs.declared.marks.Outcome.{Outcome}
use Rattle.buslink.specs.declared.marks.Outcome.TheVariants.{Done}
use Rattle.buslink.specs.declared.marks.Reply.TheVariants.{Quiet}
use Rattle.buslink.specs.BusLog.{BusLog}
use Rattle.commissioning.specs.declared.asking.AskFault.{AskFault}
use Rattle.commissioning.specs.declared.asking.Asked.{Asked}
use Rattle.commissioning.specs.Asking.{Begins, IsBrokenOff}
use Rattle.commissioning.specs.Blinking.{Asks}
use Rattle.commissioning.specs.Surveys.{AreParts, AreQueries, IsQuestion, IsSomeQuestion, IsQueryPart, IsGearPart}
use Rattle.commissioning.specs.Surveys.{IsInstancePart, IsSomeInstancePart, IsDevicePart, IsSurvey}
use Rattle.commissioning.specs.Surveys.{is_answer, is_surveyed}
use Rattle.commissioning.proofs.Breaking.{EachHas, begins_whole, broken_as, broken_then, parts_begin}
use Rattle.commissioning.proofs.Breaking.{silent, silent_question}

-- a question where it is asked, and nothing else
asked_where : (there : Bool) (command : Command)
    → (part : List Asked) × MatchBool there (IsSomeQuestion command part) (part ≡ [])
asked_where true command = (silent command, silent_question command)
asked_where false command = ([], refl)

pub some_query : (address : ℕ) → EachHas (IsQueryPart address)
some_query address query = asked_where (is_surveyed query) (GearAsk address query)

-- all of these parts
all_parts : (P : ℕ → List Asked → Type 0) → EachHas P → (count : ℕ) → (parts : List Asked) × AreParts P count parts
all_parts P some count =
    let begun : Begins (AreParts P count) [] = parts_begin P some 0 count [] (omega arith) refl in
    (begun.rest, begun.whole)

some_queries : (address : ℕ) (there : Bool) → (rest : List Asked) × AreQueries address there rest
some_queries address true = all_parts (IsQueryPart address) (some_query address) 43
some_queries address false = ([], refl)

-- whether gear is there, as the beginning of all that is asked there
gear_begins : (address : ℕ) (outcome : Outcome) (first : List Asked) → IsQuestion (GearAsk address 1) outcome first
    → Begins (IsGearPart address) first
gear_begins address outcome first present =
    let queries = some_queries address (is_answer outcome) in
    record {
      rest = queries.0;
      whole = record {
        outcome = outcome;
        first = first;
        rest = queries.0;
        is = refl;
        present = present;
        queries = queries.1;
      };
    }

pub gear_unasked : (address : ℕ) (command : Command) (fault : AskFault) (old new : BusLog)
    → command ≡ GearAsk address 1 → IsBrokenOff (IsSomeQuestion command) fault old new
    → IsBrokenOff (IsGearPart address) fault old new
gear_unasked address command fault old new is =
    broken_as (IsSomeQuestion command) (IsGearPart address) fault old new
    (λ xs some. gear_begins address some.outcome xs (subst (λ c. IsQuestion c some.outcome xs) is some.question))

pub gear_cut : (address : ℕ) (outcome : Outcome) (command : Command) (fault : AskFault) (old middle new : BusLog)
    → command ≡ GearAsk address 1 → is_answer outcome ≡ true → Asks (IsQuestion command outcome) old middle
    → IsBrokenOff (AreParts (IsQueryPart address) 43) fault middle new → IsBrokenOff (IsGearPart address) fault old new
gear_cut address outcome command fault old middle new is there =
    broken_then (IsQuestion command outcome) (AreParts (IsQueryPart address) 43) (IsGearPart address) fault
    old middle new
    (λ xs ys present queries. begins_whole (IsGearPart address) (xs ++ ys) (record {
      outcome = outcome;
      first = xs;
      rest = ys;
      is = refl;
      present = subst (λ one. IsQuestion one outcome xs) is present;
      queries = rw there queries;
    }))

pub query_unasked : (address query : ℕ) (command : Command) (fault : AskFault) (old new : BusLog)
    → command ≡ GearAsk address query → is_surveyed query ≡ true → IsBrokenOff (IsSomeQuestion command) fault old new
    → IsBrokenOff (IsQueryPart address query) fault old new
query_unasked address query command fault old new is wanted =
    broken_as (IsSomeQuestion command) (IsQueryPart address query) fault old new
    (λ xs some. begins_whole (IsQueryPart address query) xs
    (rw wanted (subst (λ c. IsSomeQuestion c xs) is some)))

pub some_gear : EachHas IsGearPart
some_gear address =
    let begun = gear_begins address (Done Quiet) (silent (GearAsk address 1)) (record { is = refl }) in
    (silent (GearAsk address 1) ++ begun.rest, begun.whole)

-- ---- devices
instance_begins : (address instance : ℕ) (outcome : Outcome) (first : List Asked)
    → IsQuestion (DevAsk address instance 0) outcome first → Begins (IsSomeInstancePart address instance) first
instance_begins address instance outcome first kind =
    let scheme = asked_where (is_answer outcome) (DevAsk address instance 1) in
    record {
      rest = scheme.0;
      whole = (
        is_answer outcome,
        record {
          outcome = outcome;
          first = first;
          rest = scheme.0;
          is = refl;
          kind = kind;
          answers = refl;
          scheme = scheme.1;
        },
      );
    }

pub instance_unasked : (address instance : ℕ) (command : Command) (fault : AskFault) (old new : BusLog)
    → command ≡ DevAsk address instance 0 → IsBrokenOff (IsSomeQuestion command) fault old new
    → IsBrokenOff (IsSomeInstancePart address instance) fault old new
instance_unasked address instance command fault old new is =
    broken_as (IsSomeQuestion command) (IsSomeInstancePart address instance) fault old new
    (λ xs some. instance_begins address instance some.outcome xs
    (subst (λ c. IsQuestion c some.outcome xs) is some.question))

pub scheme_unasked : (address instance : ℕ) (outcome : Outcome) (command other : Command) (fault : AskFault)
    (old middle new : BusLog) → command ≡ DevAsk address instance 0 → other ≡ DevAsk address instance 1
    → is_answer outcome ≡ true → Asks (IsQuestion command outcome) old middle
    → IsBrokenOff (IsSomeQuestion other) fault middle new
    → IsBrokenOff (IsSomeInstancePart address instance) fault old new
scheme_unasked address instance outcome command other fault old middle new is then_is there =
    broken_then (IsQuestion command outcome) (IsSomeQuestion other) (IsSomeInstancePart address instance) fault
    old middle new
    (λ xs ys kind scheme. begins_whole (IsSomeInstancePart address instance) (xs ++ ys) (
      true,
      record {
        outcome = outcome;
        first = xs;
        rest = ys;
        is = refl;
        kind = subst (λ c. IsQuestion c outcome xs) is kind;
        answers = there;
        scheme = subst (λ c. IsSomeQuestion c ys) then_is scheme;
      },
    ))

silent_instance : (address instance : ℕ) → IsInstancePart address false instance (silent (DevAsk address instance 0))
silent_instance address instance = record {
  outcome = Done Quiet;
  first = silent (DevAsk address instance 0);
  rest = [];
  is = refl;
  kind = record { is = refl };
  answers = refl;
  scheme = refl;
}

-- instances that are there, as the beginning of all that a device is asked
device_begins : (address count : ℕ) (xs : List Asked) → count ≤ 32
    → AreParts (IsInstancePart address true) count xs → Begins (IsDevicePart address) xs
device_begins address count xs most there =
    ⊎_elim
    (λ (all : count ≡ 32). begins_whole (IsDevicePart address) xs (record {
      count = count;
      instances = xs;
      last = [];
      is = sym (append-nil xs);
      there = there;
      silent = inl (all, refl);
    }))
    (λ (fewer : count < 32). record {
      rest = silent (DevAsk address count 0);
      whole = record {
        count = count;
        instances = xs;
        last = silent (DevAsk address count 0);
        is = refl;
        there = there;
        silent = inr (silent_instance address count);
      };
    })
    (eq-or-lt_of_le most)

instance_then : (address count : ℕ) (xs ys : List Asked) → count < 32 → AreParts (IsInstancePart address true) count xs
    → IsSomeInstancePart address count ys → Begins (IsDevicePart address) (xs ++ ys)
instance_then address count xs ys fewer before (true, part) =
    device_begins address (suc count) (xs ++ ys) (omega arith) (xs, (ys, (refl, (before, part))))
instance_then address count xs ys fewer before (false, part) =
    begins_whole (IsDevicePart address) (xs ++ ys) (record {
      count = count;
      instances = xs;
      last = ys;
      is = refl;
      there = before;
      silent = inr part;
    })

pub device_cut : (address count instance : ℕ) (fault : AskFault) (old middle new : BusLog) → count < 32
    → instance ≡ count → Asks (AreParts (IsInstancePart address true) count) old middle
    → IsBrokenOff (IsSomeInstancePart address instance) fault middle new
    → IsBrokenOff (IsDevicePart address) fault old new
device_cut address count instance fault old middle new fewer at before broken =
    broken_then (AreParts (IsInstancePart address true) count) (IsSomeInstancePart address count)
    (IsDevicePart address) fault old middle new
    (λ xs ys there part. instance_then address count xs ys fewer there part) before
    (subst (λ n. IsBrokenOff (IsSomeInstancePart address n) fault middle new) at broken)

pub some_device : EachHas IsDevicePart
some_device address =
    let begun = device_begins address 0 [] (omega arith) refl in (begun.rest, begun.whole)

-- ---- the gear and the devices of a bus
pub gear_of_survey_cut : (fault : AskFault) (old new : BusLog) → IsBrokenOff (AreParts IsGearPart 64) fault old new
    → IsBrokenOff IsSurvey fault old new
gear_of_survey_cut fault old new =
    let devices = all_parts IsDevicePart some_device 64 in
    broken_as (AreParts IsGearPart 64) IsSurvey fault old new
    (λ xs gear. record {
      rest = devices.0;
      whole = record { gear = xs; devices = devices.0; is = refl; all_gear = gear; all_devices = devices.1 };
    })

pub devices_of_survey_cut : (fault : AskFault) (old middle new : BusLog) → Asks (AreParts IsGearPart 64) old middle
    → IsBrokenOff (AreParts IsDevicePart 64) fault middle new → IsBrokenOff IsSurvey fault old new
devices_of_survey_cut fault old middle new =
    broken_then (AreParts IsGearPart 64) (AreParts IsDevicePart 64) IsSurvey fault old middle new
    (λ xs ys gear devices. begins_whole IsSurvey (xs ++ ys) (record {
      gear = xs;
      devices = ys;
      is = refl;
      all_gear = gear;
      all_devices = devices;
    }))
