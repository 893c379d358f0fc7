-- What code returns, with lists of bytes for slices.
use Rattle.std.specs.Prelude.{ℕ, ◌<◌, List, length, Option, Some, None, Result, Ok, Err}
use Rattle.std.specs.Borrow.{Bor}
use Rattle.iltokens.specs.declared.blanks.Blank.{Blank}
use Rattle.iltokens.specs.declared.blanks.Blank.TheVariants as code
use Rattle.iltokens.specs.declared.lexed.AddressKind.{AddressKind}
use Rattle.iltokens.specs.declared.address.LeadingAddress.{LeadingAddress}
use Rattle.iltokens.specs.declared.time.Parts.{Parts}
use Rattle.iltokens.specs.declared.front.Front.{Front}
use Rattle.iltokens.specs.declared.front.Front.TheVariants as fronts
use Rattle.iltokens.specs.BlankSteps as bytes
use Rattle.iltokens.specs.TimeSteps as times
use Rattle.iltokens.specs.AddressSteps as addresses
use Rattle.iltokens.specs.FrontSteps as front

abbrev pub seen : Option (Bor (List ℕ)) → Option (List ℕ)
seen (Some b) = Some b.now
seen None = None

abbrev pub blank_view : Blank → bytes.Blank
blank_view code.Here = bytes.Blank.here
blank_view (code.Past b) = bytes.Blank.past b.now
blank_view code.OpenComment = bytes.Blank.open_comment

abbrev pub both_views : Result (Bor (List ℕ)) (Bor (List ℕ)) → Result (List ℕ) (List ℕ)
both_views (Ok b) = Ok b.now
both_views (Err b) = Err b.now

abbrev pub value_view : ℕ × Bor (List ℕ) → ℕ × List ℕ
value_view x = (x.0, x.1.now)

abbrev pub valued : Option (ℕ × Bor (List ℕ)) → Option (ℕ × List ℕ)
valued (Some x) = Some (x.0, x.1.now)
valued None = None

abbrev pub parts_view : Parts → times.Parts
parts_view p = record { total = p.total; some = p.some; rest = p.rest.now }

abbrev pub kind_view : Option (AddressKind × Bor (List ℕ)) → Option (AddressKind × List ℕ)
kind_view (Some x) = Some (x.0, x.1.now)
kind_view None = None

abbrev pub address_view : Option LeadingAddress → Option addresses.AddressParts
address_view (Some a) = Some (record { kind = a.kind; bus = a.bus; place = a.place; rest = a.rest.now })
address_view None = None

abbrev pub front_view : Front → front.Front
front_view fronts.End = front.Front.end
front_view (fronts.Token what rest) = front.Front.taken what rest.now
front_view (fronts.Fault cause) = front.Front.fault cause

-- a token has a byte at least
abbrev pub IsShorter : Front → ℕ → Type 0
IsShorter (fronts.Token what rest) len = length rest.now < len
IsShorter fronts.End len = Unit {0}
IsShorter (fronts.Fault cause) len = Unit {0}
