use Rattle.std.proofs.Common.{◌<◌, length, ap, ◌∙◌, arith, sym, subst}
use Rattle.std.specs.Prelude.{slice_get, IfSome}
use Rattle.std.specs.Arc.{arc_value}
use Rattle.ilcompile.specs.Loaded.{Loaded, IsCodeOf, accepted_of}
use Rattle.ilcompile.proofs.CodeLemmas.{as_many_shared, code_at, shared_at}
use Rattle.ilcompile.proofs.setup.Setup.code.Goals as goal

below : (c : goal.After-self) → c.args.task < length c.self.inside.verified.items
below c =
    let many = as_many_shared c.self.inside.plan c.self.inside.verified.items c.self.invariant in
    let same = ap (λ (l : Loaded). length l.plan.tasks) c.self.view_is in
    omega (arith, many, same, c.requires)

pub index-requires : goal.index-requires
index-requires c = let within = below c in omega (arith, within, c.self.inside.verified.ok)

pub returns-clause-value : goal.returns-clause-value
returns-clause-value c =
    let inside = c.self.inside in
    let many = as_many_shared inside.plan inside.verified.items c.self.invariant in
    let same = ap (λ (l : Loaded). length l.plan.tasks) c.self.view_is in
    let within : c.args.task < length inside.verified.items = omega (arith, many, same, c.requires) in
    ap (λ (l : Loaded). slice_get l.codes c.args.task) (sym c.self.view_is)
    ∙ shared_at inside.verified.items c.args.task c.index.result.now within c.index.ensures

pub returns-clause-of_task : goal.returns-clause-of_task
returns-clause-of_task c =
    let inside = c.self.inside in
    let code = arc_value c.index.result.now in
    let many = as_many_shared inside.plan inside.verified.items c.self.invariant in
    let same = ap (λ (l : Loaded). length l.plan.tasks) c.self.view_is in
    let within : c.args.task < length inside.verified.items = omega (arith, many, same, c.requires) in
    let there = shared_at inside.verified.items c.args.task c.index.result.now within c.index.ensures in
    subst (λ (l : Loaded). IfSome (slice_get l.plan.tasks c.args.task) (λ t. IsCodeOf l.plan t code)) c.self.view_is
    (code_at inside.plan (accepted_of inside.verified.items) c.args.task code c.self.invariant there)
