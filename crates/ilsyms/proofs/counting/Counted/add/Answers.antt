use Rattle.std.proofs.Common.{refl, sym, ◌∙◌, arith}
use Rattle.ilsyms.proofs.CountingUses.{name_counted, last_constant, other_constant}
use Rattle.ilsyms.proofs.counting.Counted.add.Goals as goal
use Rattle.ilsyms.proofs.counting.Counted.add.Goals.{else-known-eq-MOST_CONSTANTS-via-then-known-eq-MOST_CONSTANTS+else-known-len}
use Rattle.ilsyms.proofs.counting.Counted.add.Goals.{else-known-eq-MOST_CONSTANTS-via-else-known-eq-MOST_CONSTANTS}

pub returns-in_default : goal.returns-in_default
returns-in_default c before counted =
    name_counted before c.args.self.now.constants c.args.self.now.excess c.args.used counted
    (let e = c.in_default.is in rw e refl)

pub returns-then-known-len : goal.returns-then-known-len
returns-then-known-len c before counted =
    last_constant before c.args.self.now.constants c.add.new.self c.args.self.now.excess c.args.used
    c.in-Constant.value counted (let e = c.in-Constant.is in rw e refl) c.in_ok-add.ensures.ok
    (sym c.len-known.ensures.value ∙ c.if-known-eq-MOST_CONSTANTS.true) (omega arith)

pub returns-else-known-eq-MOST_CONSTANTS : goal.returns-else-known-eq-MOST_CONSTANTS
returns-else-known-eq-MOST_CONSTANTS c before counted =
    other_constant before c.args.self.now.constants c.add.new.self c.args.self.now.excess c.args.used
    c.in-Constant.value counted (let e = c.in-Constant.is in rw e refl) c.in_ok-add.ensures.ok
    (λ h. let full = h.0 in let longer = h.1 in
    elim c.else-known-eq-MOST_CONSTANTS.branch [
      | else-known-eq-MOST_CONSTANTS-via-then-known-eq-MOST_CONSTANTS+else-known-len w ↦
          let shorter = w.if-known-len.false in let after = w.len.ensures.value in omega (arith, shorter, after, longer)
      | else-known-eq-MOST_CONSTANTS-via-else-known-eq-MOST_CONSTANTS w ↦
          w.if-known-eq-MOST_CONSTANTS.false (c.len-known.ensures.value ∙ full)
    ])
