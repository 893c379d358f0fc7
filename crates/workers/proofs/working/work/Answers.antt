use Rattle.std.proofs.Common.{rules}
use Rattle.workers.proofs.working.work.Goals as goal

pub scoped-requires : goal.scoped-requires
scoped-requires g c =
    let t = c.type_bounds in
    record {
      at = λ a. (
        c.requires.all_workers,
        (
          search (rules, t.send-B.leaving, t.send-B.owned),
          search (rules, t.send-C.leaving, t.send-C.owned),
          search (rules, t.send-J.leaving, t.send-J.owned),
          search (rules, t.send-T.leaving, t.send-T.owned),
          search (rules, t.send-K.leaving, t.send-K.owned),
          search rules,
          search rules,
          search rules,
        ),
      );
    }
