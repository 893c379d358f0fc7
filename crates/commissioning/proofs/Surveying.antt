-- What a survey asks, one after another: nothing at first, and then more behind it.
use Rattle.std.proofs.Common.{◌≡◌, ℕ, suc, ◌+◌, ◌≤◌, List, [], ◌++◌, Bool, true, false, refl, sym, ◌∙◌, ap}
use Rattle.std.proofs.Common.{append_assoc, inl, inr, subst, arith}
use Rattle.std.proofs.lemmas.List.{append-nil}
use Rattle.gearcmd.specs.declared.requests.Command.{Command}
use Rattle.gearcmd.specs.declared.requests.Command.TheVariants.{GearAsk}
use Rattle.buslink.specs.declared.marks.Outcome.{Outcome}
use Rattle.buslink.specs.BusLog.{BusLog}
use Rattle.commissioning.specs.declared.asking.Asked.{Asked}
use Rattle.commissioning.specs.Asking.{AreAnswered}
use Rattle.commissioning.specs.Blinking.{Asks}
use Rattle.commissioning.specs.Surveys.{AsksMore, AreParts, IsQuestion, IsQueryPart, IsGearPart, IsInstancePart}
use Rattle.commissioning.specs.Surveys.{IsDevicePart, IsSurvey, is_answer, is_surveyed}
use Rattle.commissioning.proofs.Answering.{answered_none, answered_append}

-- what is asked more is what is asked from there
pub asks_of_more : (P : List Asked → Type 0) (before after : List Asked) (old new : BusLog)
    → AsksMore P before after old new → Asks P old new
asks_of_more P before after old new more = record { asked = more.more; are = more.asked; those = more.those }

pub more_none : (P : List Asked → Type 0) (before : List Asked) (log : BusLog) → P [] → AsksMore P before before log log
more_none P before log none =
    record { more = []; is = sym (append-nil before); asked = answered_none log; those = none }

pub more_both : (P Q R : List Asked → Type 0) (a b c : List Asked) (old middle new : BusLog)
    → ((xs ys : List Asked) → P xs → Q ys → R (xs ++ ys))
    → AsksMore P a b old middle → AsksMore Q b c middle new → AsksMore R a c old new
more_both P Q R a b c old middle new joined first more =
    record {
      more = first.more ++ more.more;
      is = more.is ∙ ap (λ (xs : List Asked). xs ++ more.more) first.is ∙ append_assoc a first.more more.more;
      asked = answered_append first.more more.more old middle new first.asked more.asked;
      those = joined first.more more.more first.those more.those;
    }

-- one part more behind those that there are
pub more_part : (P : ℕ → List Asked → Type 0) (count : ℕ) (a b c : List Asked) (old middle new : BusLog)
    → AsksMore (AreParts P count) a b old middle → AsksMore (P count) b c middle new
    → AsksMore (AreParts P (count + 1)) a c old new
more_part P count a b c old middle new first more =
    let one : count + 1 ≡ suc count = omega arith in
    let both : AsksMore (AreParts P (suc count)) a c old new =
    more_both (AreParts P count) (P count) (AreParts P (suc count)) a b c old middle new
    (λ xs ys before part. (xs, (ys, (refl, (before, part))))) first more in
    subst (λ n. AsksMore (AreParts P n) a c old new) (sym one) both

-- all parts, once their number is there
pub more_all : (P : ℕ → List Asked → Type 0) (count whole : ℕ) (a b : List Asked) (old new : BusLog)
    → count ≤ whole → whole ≤ count → AsksMore (AreParts P count) a b old new
    → AsksMore (AreParts P whole) a b old new
more_all P count whole a b old new most none =
    let there : count ≡ whole = omega arith in
    λ more. subst (λ n. AsksMore (AreParts P n) a b old new) there more

-- what is asked is so described, and so in another way
pub more_as : (P Q : List Asked → Type 0) (a b : List Asked) (old new : BusLog)
    → ((xs : List Asked) → P xs → Q xs) → AsksMore P a b old new → AsksMore Q a b old new
more_as P Q a b old new turn more =
    record { more = more.more; is = more.is; asked = more.asked; those = turn more.more more.those }

-- ---- the parts of a survey
pub query_asked : (address query : ℕ) (outcome : Outcome) (command : Command) (a b : List Asked) (old new : BusLog)
    → command ≡ GearAsk address query → is_surveyed query ≡ true
    → AsksMore (IsQuestion command outcome) a b old new → AsksMore (IsQueryPart address query) a b old new
query_asked address query outcome command a b old new is wanted =
    more_as (IsQuestion command outcome) (IsQueryPart address query) a b old new
    (λ xs question. rw wanted (record {
      outcome = outcome;
      question = subst (λ one. IsQuestion one outcome xs) is question;
    }))

pub query_left : (address query : ℕ) (a : List Asked) (log : BusLog) → is_surveyed query ≡ false
    → AsksMore (IsQueryPart address query) a a log log
query_left address query a log unwanted = more_none (IsQueryPart address query) a log (rw unwanted refl)

-- gear that is there: whether it is, and its queries
pub gear_there : (address : ℕ) (outcome : Outcome) (command : Command) (a b c : List Asked) (old middle new : BusLog)
    → command ≡ GearAsk address 1 → is_answer outcome ≡ true
    → AsksMore (IsQuestion command outcome) a b old middle
    → AsksMore (AreParts (IsQueryPart address) 43) b c middle new → AsksMore (IsGearPart address) a c old new
gear_there address outcome command a b c old middle new is there =
    more_both (IsQuestion command outcome) (AreParts (IsQueryPart address) 43) (IsGearPart address) a b c
    old middle new
    (λ xs ys present queries. record {
      outcome = outcome;
      first = xs;
      rest = ys;
      is = refl;
      present = subst (λ one. IsQuestion one outcome xs) is present;
      queries = rw there queries;
    })

pub gear_silent : (address : ℕ) (outcome : Outcome) (command : Command) (a b : List Asked) (old new : BusLog)
    → command ≡ GearAsk address 1 → is_answer outcome ≡ false
    → AsksMore (IsQuestion command outcome) a b old new → AsksMore (IsGearPart address) a b old new
gear_silent address outcome command a b old new is silent =
    more_as (IsQuestion command outcome) (IsGearPart address) a b old new
    (λ xs present. record {
      outcome = outcome;
      first = xs;
      rest = [];
      is = sym (append-nil xs);
      present = subst (λ one. IsQuestion one outcome xs) is present;
      queries = rw silent refl;
    })

-- the instances of a device that are there, and the first that is silent
pub device_ends : (address count : ℕ) (instance : ℕ) (there : Bool) (a b c : List Asked) (old middle new : BusLog)
    → instance ≡ count → there ≡ false
    → AsksMore (AreParts (IsInstancePart address true) count) a b old middle
    → AsksMore (IsInstancePart address there instance) b c middle new → AsksMore (IsDevicePart address) a c old new
device_ends address count instance there a b c old middle new at silent =
    more_both (AreParts (IsInstancePart address true) count) (IsInstancePart address there instance)
    (IsDevicePart address) a b c old middle new
    (λ xs ys instances last. record {
      count = count;
      instances = xs;
      last = ys;
      is = refl;
      there = instances;
      silent = inr (subst (λ n. IsInstancePart address false n ys) at
          (subst (λ b. IsInstancePart address b instance ys) silent last));
    })

pub instance_there : (address count instance : ℕ) (there : Bool) (a b : List Asked) (old new : BusLog)
    → instance ≡ count → there ≡ true → AsksMore (IsInstancePart address there instance) a b old new
    → AsksMore (IsInstancePart address true count) a b old new
instance_there address count instance there a b old new at is more =
    subst (λ n. AsksMore (IsInstancePart address true n) a b old new) at
    (subst (λ t. AsksMore (IsInstancePart address t instance) a b old new) is more)

pub device_full : (address : ℕ) (a b : List Asked) (old new : BusLog)
    → AsksMore (AreParts (IsInstancePart address true) 32) a b old new → AsksMore (IsDevicePart address) a b old new
device_full address a b old new =
    more_as (AreParts (IsInstancePart address true) 32) (IsDevicePart address) a b old new
    (λ xs instances. record {
      count = 32;
      instances = xs;
      last = [];
      is = sym (append-nil xs);
      there = instances;
      silent = inl (refl, refl);
    })

-- the gear and the devices of a bus
pub surveyed : (a b : List Asked) (old middle new : BusLog) → AsksMore (AreParts IsGearPart 64) [] a old middle
    → AsksMore (AreParts IsDevicePart 64) a b middle new → IsSurvey b × AreAnswered b old new
surveyed a b old middle new gear devices =
    let both : AsksMore IsSurvey [] b old new =
    more_both (AreParts IsGearPart 64) (AreParts IsDevicePart 64) IsSurvey [] a b old middle new
    (λ xs ys all_gear all_devices. record {
      gear = xs;
      devices = ys;
      is = refl;
      all_gear = all_gear;
      all_devices = all_devices;
    }) gear devices in
    (subst IsSurvey (sym both.is) both.those, subst (λ xs. AreAnswered xs old new) (sym both.is) both.asked)
