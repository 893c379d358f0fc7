use Rattle.std.proofs.Common.{◌<◌, ℕ, sym, subst, arith}
use Rattle.std.specs.Prelude.{slice_get}
use Rattle.ilcode.specs.Listings.{start_of, end_of}
use Rattle.ilverify.specs.declared.entry.Entry.{Entry}
use Rattle.ilverify.specs.Entries.{opening}
use Rattle.ilverify.specs.PassSteps.{CanMeetAt, Meets}
use Rattle.ilverify.proofs.PassBegins.{begun_meets, begun_more}
use Rattle.ilverify.proofs.pass.begin_body.Goals as goal

pub meet-requires : goal.meet-requires
meet-requires c =
    let pending = c.args.pending.now.items in
    let start = c.start_of-start.result in
    subst (λ (x : Entry). CanMeetAt (slice_get pending start) x) (sym c.in_ok-first.ensures)
    (begun_meets c.args.code.now c.args.body start pending c.requires.begun)

pub returns-in_ok-meet : goal.returns-in_ok-meet
returns-in_ok-meet c =
    let code = c.args.code.now in
    let body = c.args.body in
    let pending = c.args.pending.now.items in
    let new = c.meet.new.pending.items in
    let start = c.start_of-start.ensures in
    let end = c.end_of.ensures in
    let lt : start_of code body < end_of code body = omega (arith, start, end) in
    let meets = subst (λ (p : ℕ). Meets pending p (opening code) new) start
    (subst (λ (x : Entry). Meets pending c.start_of-start.result x new) c.in_ok-first.ensures c.in_ok-meet.ensures) in
    begun_more code body pending new c.requires.lawful c.requires.begun lt meets
