use Rattle.std.proofs.Common.{◌≡◌, sym}
use Rattle.std.specs.Prelude.{bytes_eq, None}
use Rattle.std.specs.Map.{lookup}
use Rattle.ildeclared.proofs.Kept.{keeps_too, kept}
use Rattle.ildeclared.proofs.names.Names.push.Goals as goal

pub returns-clause-ok : goal.returns-clause-ok
returns-clause-ok g c =
    let before = c.self.inside.entries.entries in
    let name = c.in_ok-from_slice.field-0 in
    let updates = c.in_ok-insert.ensures.updates in
    let absent : lookup (bytes_eq name.items) (kept (λ k. k.items) before) ≡ None =
    rw (c.in_ok-from_slice.ensures.items, c.self.view_is) c.requires
    in
    rw (sym c.in_ok-from_slice.ensures.items, sym c.self.view_is)
    (keeps_too (λ k. k.items) before c.insert.new.self.entries name c.args.value absent updates.1 updates.3)
