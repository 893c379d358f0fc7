-- One text more, one line more.
use Rattle.std.proofs.Common.{◌≡◌, ℕ, ◌+◌, List, [], ◌++◌, length, Option, Some, None, option_map, refl, add-one}
use Rattle.std.proofs.Common.{sym, ap, take, get_or, ◌<◌}
use Rattle.std.proofs.lemmas.List.{append_assoc, flat_map_more, take_more}
use Rattle.std.specs.Option.{option_and_then}
use Rattle.std.specs.Io.KnownBytes.{Appends}
use Rattle.iltypes.specs.declared.value.Value.{Value}
use Rattle.ilplan.specs.declared.slot.Slot.{Slot}
use Rattle.ilplan.specs.Plans.{Planned, PlannedTask, instance_name, variable_name}
use Rattle.ilverify.specs.Verdicts.{Accepted}
use Rattle.textanswers.specs.Printed.{printed_task, printed_request, printed_variable}
use Rattle.gearcmd.specs.declared.requests.Request.{Request}
use Rattle.gearcmd.specs.declared.requests.TaskKind.{TaskKind}
use Rattle.commandfiles.specs.Reports.{ended, first_lines, first_texts, line_of, of_both, request_lines}

-- a list, and then another
pub appended : (a b c : Option (List ℕ)) (xs ys : List ℕ) → Appends a b xs → Appends b c ys → Appends a c (xs ++ ys)
appended None b c xs ys first second = tt
appended (Some a) None c xs ys first second = absurd first
appended (Some a) (Some b) None xs ys first second = absurd second
appended (Some a) (Some b) (Some c) xs ys first second = rw (second, first) (append_assoc a xs ys)

pub one_text_more : (a b c : Option (List ℕ)) (text : ℕ → List ℕ) (texts : ℕ) (last : List ℕ)
    → Appends a b (first_texts text texts) → Appends b c last → text texts ≡ last
    → Appends a c (first_texts text (texts + 1))
one_text_more a b c text texts last before after is =
    rw (add-one, is) (appended a b c (first_texts text texts) last before after)

pub one_line_more : (a b c : Option (List ℕ)) (line : ℕ → List ℕ) (lines : ℕ) (text : List ℕ)
    → Appends a b (first_lines line lines) → Appends b c (ended text) → line lines ≡ text
    → Appends a c (first_lines line (lines + 1))
one_line_more a b c line lines text before last is =
    one_text_more a b c (λ n. ended (line n)) lines (ended text) before last (ap ended is)

pub one_request_more : (a b c : Option (List ℕ)) (task : TaskKind) (requests : List Request) (i : ℕ) (r : Request)
    → Appends a b (request_lines task (take i requests)) → Appends b c (ended (printed_request r task))
    → i < length requests → r ≡ get_or requests i r → Appends a c (request_lines task (take (i + 1) requests))
one_request_more a b c task requests i r before last within is =
    let more = take_more requests i r within in
    let line = λ (request : Request). ended (printed_request request task) in
    let one = flat_map_more line [] (take i requests) r in
    rw (more, sym is, sym one) (appended a b c _ _ before last)

pub task_is : (o : Option PlannedTask) (p : Option Accepted) (name : List ℕ) (words bound : ℕ)
    → option_map (λ t. t.name) o ≡ Some name → option_map (λ a. length a.code.instructions) p ≡ Some words
    → option_map (λ a. a.bound) p ≡ Some bound
    → of_both (λ task code. printed_task task.name (length code.code.instructions) code.bound) o p
    ≡ printed_task name words bound
task_is None p name words bound named worded bounded = absurd (cc)
task_is (Some t) None name words bound named worded bounded = absurd (cc)
task_is (Some t) (Some a) name words bound named worded bounded =
    let n : t.name ≡ name = cc in
    let w : length a.code.instructions ≡ words = cc in
    let b : a.bound ≡ bound = cc in
    rw (n, w, b) refl

pub variable_is : (plan : Planned) (o : Option Slot) (p : Option Value) (instance : Option (List ℕ))
    (variable : List ℕ) (value : Value) → option_map (λ s. instance_name plan s.variable) o ≡ Some instance
    → option_and_then (λ s. variable_name plan s.variable) o ≡ Some variable → p ≡ Some value
    → of_both (λ slot v. line_of plan slot.variable v) o p ≡ printed_variable instance variable value
variable_is plan None p instance variable value is_instance is_variable is_value = absurd (cc)
variable_is plan (Some s) p instance variable value is_instance is_variable is_value =
    let i : instance_name plan s.variable ≡ instance = cc in
    let v : variable_name plan s.variable ≡ Some variable = is_variable in
    rw (is_value, v, i) refl
