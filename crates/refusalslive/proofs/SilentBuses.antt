-- What a survey asks of a bus where nothing answers.
use Rattle.std.proofs.Common.{◌≡◌, ◌∙◌, ℕ, zero, suc, ◌+◌, List, [], ◌∷◌, ◌++◌, length, Result, Ok, Err, IfOk, true, false}
use Rattle.std.proofs.Common.{refl, sym, ap, arith, subst, inl, inr, length-append}
use Rattle.std.specs.Prelude.{All}
use Rattle.std.proofs.lemmas.List.Elements.{All-nil, All-cons, All-head, All-tail}
use Rattle.gearcmd.specs.declared.requests.Command.{Command}
use Rattle.buslink.specs.declared.marks.Outcome.{Outcome}
use Rattle.buslink.specs.declared.marks.Outcome.TheVariants.{Done}
use Rattle.buslink.specs.declared.marks.Reply.TheVariants.{Quiet}
use Rattle.buslink.specs.BusLog.{BusLog}
use Rattle.commissioning.specs.Asking.{AreAnswered}
use Rattle.commissioning.specs.declared.asking.AskFault.{AskFault}
use Rattle.commissioning.specs.declared.asking.Asked.{Asked}
use Rattle.commissioning.specs.Surveys.{AreParts, AreQueries, IsDevicePart, IsGearPart, IsInstancePart, IsScheme, IsSurvey}
use Rattle.commissioning.specs.Surveys.{is_answer}

abbrev pub IsSilent : Asked → Type 0
IsSilent a = a.outcome ≡ Done Quiet

abbrev pub AreSilent : List Asked → Type 0
AreSilent asked = All IsSilent asked

silent_left : (xs ys : List Asked) → AreSilent (xs ++ ys) → AreSilent xs
silent_left [] ys all = All-nil IsSilent
silent_left (x ∷ xs) ys all =
    All-cons IsSilent x xs (All-head IsSilent x (xs ++ ys) all)
    (silent_left xs ys (All-tail IsSilent x (xs ++ ys) all))

silent_right : (xs ys : List Asked) → AreSilent (xs ++ ys) → AreSilent ys
silent_right [] ys all = all
silent_right (x ∷ xs) ys all = silent_right xs ys (All-tail IsSilent x (xs ++ ys) all)

silent_in : (asked xs ys : List Asked) → asked ≡ xs ++ ys → AreSilent asked → AreSilent (xs ++ ys)
silent_in asked xs ys is all = subst (λ (zs : List Asked). AreSilent zs) is all

-- of a part that begins by a question nothing answered
no_answer : (command : Command) (ending : Outcome) (first rest part : List Asked) → part ≡ first ++ rest
    → first ≡ record { command = command; outcome = ending } ∷ [] → AreSilent part → is_answer ending ≡ false
no_answer command ending first rest part is one all =
    let asked : Asked = record { command = command; outcome = ending } in
    let whole : part ≡ asked ∷ rest = is ∙ ap (λ xs. xs ++ rest) one in
    let silent = All-head IsSilent asked rest (subst (λ (zs : List Asked). AreSilent zs) whole all) in
    ap is_answer silent

one_long : (command : Command) (ending : Outcome) (first rest part : List Asked) → part ≡ first ++ rest
    → first ≡ record { command = command; outcome = ending } ∷ [] → rest ≡ [] → length part ≡ 1
one_long command ending first rest part is one none = rw (is, one, none) refl

gear_one : (address : ℕ) (part : List Asked) → IsGearPart address part → AreSilent part → length part ≡ 1
gear_one address part is all =
    let quiet = no_answer _ is.outcome is.first is.rest part is.is is.present.is all in
    let none = subst (λ there. AreQueries address there is.rest) quiet is.queries in
    one_long _ is.outcome is.first is.rest part is.is is.present.is none

instance_one : (address instance : ℕ) (part : List Asked) → IsInstancePart address false instance part
    → length part ≡ 1
instance_one address instance part is = one_long _ is.outcome is.first is.rest part is.is is.kind.is is.scheme

-- no instance is there
none_there : (address count : ℕ) (asked : List Asked) → AreParts (IsInstancePart address true) count asked
    → AreSilent asked → count ≡ 0
none_there address zero asked none all = refl
none_there address (suc count) asked (before, (part, (is, (those, last)))) all =
    let here = silent_right before part (silent_in asked before part is all) in
    let quiet = no_answer _ last.outcome last.first last.rest part last.is last.kind.is here in
    let there = last.answers in
    let both : true ≡ false = sym there ∙ quiet in
    absurd (cc)

device_last : (address count : ℕ) (instances last part : List Asked) → part ≡ instances ++ last → instances ≡ []
    → length last ≡ 1 → length part ≡ 1
device_last address count instances last part is none one = rw (is, none) one

device_one : (address : ℕ) (part : List Asked) → IsDevicePart address part → AreSilent part → length part ≡ 1
device_one address part is all =
    let both = silent_in part is.instances is.last is.is all in
    let none = none_there address is.count is.instances is.there (silent_left is.instances is.last both) in
    let no_part : is.instances ≡ [] =
    subst (λ n. AreParts (IsInstancePart address true) n is.instances) none is.there in
    elim (is.silent) [
      | inl full ↦ absurd (omega (arith, none, full.0))
      | inr silent ↦
          device_last address is.count is.instances is.last part is.is no_part
          (instance_one address is.count is.last silent)
    ]

parts_long : (P : ℕ → List Asked → Type 0)
    → ((n : ℕ) (part : List Asked) → P n part → AreSilent part → length part ≡ 1)
    → (count : ℕ) (asked : List Asked) → AreParts P count asked → AreSilent asked → length asked ≡ count
parts_long P each zero asked none all = ap length none
parts_long P each (suc count) asked (before, (part, (is, (those, last)))) all =
    let both = silent_in asked before part is all in
    let many = parts_long P each count before those (silent_left before part both) in
    let one = each count part last (silent_right before part both) in
    let sum = ap length is ∙ length-append before part in
    omega (arith, sum, many, one)

pub silent_survey : (asked : List Asked) → IsSurvey asked → AreSilent asked → length asked ≡ 128
silent_survey asked is all =
    let both = silent_in asked is.gear is.devices is.is all in
    let gear = parts_long IsGearPart gear_one 64 is.gear is.all_gear (silent_left is.gear is.devices both) in
    let devices = parts_long IsDevicePart device_one 64 is.devices is.all_devices
    (silent_right is.gear is.devices both) in
    let sum = ap length is.is ∙ length-append is.gear is.devices in
    omega (arith, sum, gear, devices)

pub all_asked : (given : Result (List Asked) AskFault) (old new : BusLog)
    → IfOk given (λ survey. IsSurvey survey × AreAnswered survey old new)
    → IfOk given (λ survey. AreSilent survey → length survey ≡ 128)
all_asked (Ok survey) old new is = λ all. silent_survey survey is.0 all
all_asked (Err fault) old new is = tt
