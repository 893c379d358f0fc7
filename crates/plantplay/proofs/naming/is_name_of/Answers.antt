use Rattle.std.proofs.Common.{IsTrue, ℕ, List, Bor}
use Rattle.plantplay.proofs.Parts.{is_of_parts, no_dot, parts_alike}
use Rattle.plantplay.proofs.naming.is_name_of.Goals as goal

pub returns-then-front : goal.returns-then-front
returns-then-front c =
    let name = c.args.name.now in
    let instance = c.args.instance.bytes.now in
    let variable = c.args.variable.bytes.now in
    let parts = c.in-Some.ensures.cases in
    let x : Bor (List ℕ) × Bor (List ℕ) = (c.in-Some.before, c.in-Some.behind) in
    let front : IsTrue c.is_alike-front.result = cc in (
      λ yes. is_of_parts name instance variable x parts (c.is_alike-front.ensures.0 front) (c.is_alike-back.ensures.0 yes),
      λ is. c.is_alike-back.ensures.1 (parts_alike name instance variable x parts is).1,
    )

pub returns-else-front : goal.returns-else-front
returns-else-front c =
    let x : Bor (List ℕ) × Bor (List ℕ) = (c.in-Some.before, c.in-Some.behind) in (
      λ yes. absurd (cc),
      λ is. let t = c.is_alike-front.ensures.1 (parts_alike c.args.name.now c.args.instance.bytes.now
          c.args.variable.bytes.now x c.in-Some.ensures.cases is).0 in absurd (cc),
    )

pub returns-in-None : goal.returns-in-None
returns-in-None c = (
  λ yes. absurd (cc),
  λ is. absurd (no_dot c.args.name.now c.args.instance.bytes.now c.args.variable.bytes.now c.in-None.ensures.cases is),
)
