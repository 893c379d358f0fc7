-- What is kept beside a plant is what is open there.
use Rattle.std.proofs.Common.{◌≡◌, ◌≢◌, ℕ, ◌-◌, ◌<◌, ◌≤◌, List, length}
use Rattle.std.proofs.Common.{Option, Some, None, ⊎_elim}
use Rattle.std.proofs.Common.{refl, sym, ap, ◌∙◌, subst, arith}
use Rattle.std.proofs.lemmas.Bool.{cases_lt}
use Rattle.std.proofs.lemmas.List.{get_or_past}
use Rattle.std.specs.Prelude.{slice_index_or, option_map, Result, Ok, Err, MatchResult, ⊤}
use Rattle.gearcmd.specs.FrameLists.{FrameList}
use Rattle.buslink.specs.declared.marks.Mark.{Mark}
use Rattle.buslink.specs.Attempts.{IsReport, ReportParts, Spells, SpellsNone}
use Rattle.ilmachine.specs.Scans.{Task, Scan}
use Rattle.plantevents.specs.Plants.{tries_of}
use Rattle.plantevents.specs.Histories.{scan, hand}
use Rattle.plant.specs.Matches.{IsOpenScan, IsOpenTransaction, IsReportOf}
use Rattle.plant.specs.Shown.{Shown}
use Rattle.plantscript.specs.DeskSteps.{OrdersFollow, SendingsFollow, Sending, order_of, sending_of}
use Rattle.plantscript.specs.Runs.{HasNoScan, HasNoReport}

-- what a desk keeps
abbrev pub Keeps : Shown → List (Option Task) → List (Option Sending) → Type 0
Keeps p orders sendings = OrdersFollow p.plant p.history orders × SendingsFollow p.plant p.history sendings

-- what stands at a place of a list stands within it
within : {X : Type 0} → (xs : List (Option X)) (k : ℕ) (x : X) → slice_index_or xs k None ≡ Some x → k < length xs
within xs k x is =
    ⊎_elim (λ (lt : k < length xs). lt) (λ (le : length xs ≤ k). let past = get_or_past xs k None le in absurd (cc))
    (cases_lt k (length xs))

-- what is mapped to something is something
pub mapped : {X Y : Type 0} → (f : X → Y) (o : Option X) (y : Y) → option_map f o ≡ Some y → (x : X) × (o ≡ Some x) × (y ≡ f x)
mapped f (Some x) y is = let same : f x ≡ y = cc in (x, refl, sym same)
mapped f None y is = absurd (cc)

-- ---- scans

-- a worker without an order has no scan open
pub no_order : (p : Shown) (orders : List (Option Task)) (w : ℕ) → OrdersFollow p.plant p.history orders
    → slice_index_or orders w None ≡ None → HasNoScan p w
no_order p orders w follow none running known is =
    let kept = follow.1 w known ∙ ap (option_map order_of) is in absurd (cc)

-- an order is that of the scan that the worker has open
pub has_scan : (p : Shown) (orders : List (Option Task)) (w : ℕ) (work : Task) (made : Scan)
    → OrdersFollow p.plant p.history orders → slice_index_or orders w None ≡ Some work → made.number ≡ work.number
    → made.snapshot ≡ work.snapshot → IsOpenScan p w made
has_scan p orders w work made follow some number snapshot =
    let inside = within orders w work some in
    let known : w < p.plant.workers = let e = follow.0 in omega arith in
    let found = mapped order_of (scan w p.history) work (sym (follow.1 w known) ∙ some) in
    record {
      known = known;
      running = found.0;
      is_open = found.1;
      number = number ∙ ap (λ (x : Task). x.number) found.2;
      snapshot = snapshot ∙ ap (λ (x : Task). x.snapshot) found.2;
    }

-- it has one
pub scan_refused : (p : Shown) (w : ℕ) (made : Scan) → IsOpenScan p w made → ¬ HasNoScan p w
scan_refused p w made scanned none = none scanned.running scanned.known scanned.is_open

-- ---- transactions

-- what a bus sends is the transaction that it has open
pub has_transaction : (p : Shown) (sendings : List (Option Sending)) (b : ℕ) (sending : Sending)
    → SendingsFollow p.plant p.history sendings → slice_index_or sendings b None ≡ Some sending
    → IsOpenTransaction p b sending.number sending.transaction
has_transaction p sendings b sending follow some =
    let inside = within sendings b sending some in
    let known : b < p.plant.plan.buses = let e = follow.0 in omega arith in
    let found = mapped sending_of (hand b p.history) sending (sym (follow.1 b known) ∙ some) in
    record {
      known = known;
      handed = found.0;
      is_open = found.1;
      number = ap (λ (x : Sending). x.number) found.2;
      same = ap (λ (x : Sending). x.transaction) found.2;
    }

-- what is open at a bus is kept
kept_sending : (p : Shown) (sendings : List (Option Sending)) (b n : ℕ) (t : FrameList)
    → SendingsFollow p.plant p.history sendings → (o : IsOpenTransaction p b n t)
    → slice_index_or sendings b None ≡ Some (sending_of o.handed)
kept_sending p sendings b n t follow o = follow.1 b o.known ∙ ap (option_map sending_of) o.is_open

-- a bus that sends nothing has nothing to report
pub no_sending : (p : Shown) (sendings : List (Option Sending)) (b n : ℕ) (marks : List Mark)
    → SendingsFollow p.plant p.history sendings → slice_index_or sendings b None ≡ None → HasNoReport p b n marks
no_sending p sendings b n marks follow none t o = let kept = kept_sending p sendings b n t follow o in absurd (cc)

-- nor under another number
pub other_number : (p : Shown) (sendings : List (Option Sending)) (b n : ℕ) (marks : List Mark) (sending : Sending)
    → SendingsFollow p.plant p.history sendings → slice_index_or sendings b None ≡ Some sending
    → sending.number ≢ n → HasNoReport p b n marks
other_number p sendings b n marks sending follow some other t o =
    let kept = kept_sending p sendings b n t follow o in
    let same : sending ≡ sending_of o.handed = cc in
    absurd (other (ap (λ (x : Sending). x.number) same ∙ sym o.number))

-- nor where the marks spell nothing
pub no_report : (p : Shown) (sendings : List (Option Sending)) (b n : ℕ) (marks : List Mark) (sending : Sending)
    → SendingsFollow p.plant p.history sendings → slice_index_or sendings b None ≡ Some sending
    → SpellsNone sending.transaction (tries_of p.plant b) marks → HasNoReport p b n marks
no_report p sendings b n marks sending follow some none t o =
    let kept = kept_sending p sendings b n t follow o in
    let same : sending ≡ sending_of o.handed = cc in
    subst (λ (x : FrameList). SpellsNone x (tries_of p.plant b) marks)
    (ap (λ (x : Sending). x.transaction) same ∙ sym o.same) none

-- it has one
pub report_refused : (p : Shown) (b n : ℕ) (marks : List Mark) (report : ReportParts)
    → IsReportOf p b n report → Spells report.transaction report.tries marks report → ¬ HasNoReport p b n marks
report_refused p b n marks report o spells none =
    none report.transaction o.is_open spells.attempts
    (subst (λ (most : ℕ). IsReport (most - 1) (length report.transaction.frames) spells.attempts) o.tries spells.legal)
    spells.spelled

-- a copy is what was copied
pub copied : {X E : Type 0} → (r : Result X E) (x t : X) → r ≡ Ok x
    → MatchResult r (λ copy. copy ≡ t) (λ e. ¬ ⊤) → x ≡ t
copied (Ok y) x t is made = let same : y ≡ x = cc in sym same ∙ made
copied (Err e) x t is made = absurd (cc)
