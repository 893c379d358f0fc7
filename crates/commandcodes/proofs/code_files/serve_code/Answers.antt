use Rattle.std.proofs.Common.{rules, ◌≡◌, option_map}
use Rattle.std.specs.Option.{option_copied}
use Rattle.commandcodes.proofs.StoppedCodes.{stopped}
use Rattle.commandcodes.proofs.code_files.serve_code.Goals as goal

pub returns-clause-served : goal.returns-clause-served
returns-clause-served g c =
    let disk = c.args.disk.now in
    let read = c.in_ok-binding in
    let same : option_copied c.as_deref.result ≡ option_map (λ bytes. bytes.items) read.binding = search rules in
    let printed = c.in_ok-print_stop-in-Err in
    stopped (g.D.Disk.gives disk) (g.D.Disk.takes disk) c.args.files (option_map (λ name. name.now) c.args.task)
    c.args.to.now
    (g.W.Write.contents c.args.out) (g.W.Write.contents printed.field-0.0) printed.field-0.1 _ _ _ _ c.in-Err.stop
    read.ensures.given c.in_ok-text.ensures.given same c.deref.ensures.value c.in-Err.ensures.stop printed.ensures.line
    printed.ensures.status
