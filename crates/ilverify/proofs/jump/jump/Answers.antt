use Rattle.ilverify.proofs.jump.jump.Goals as goal

pub returns-in-IfTrue : goal.returns-in-IfTrue
returns-in-IfTrue c = rw c.in-IfTrue.is (λ code. (c.refine-in-IfTrue.ensures code, c.refine.ensures code))

pub returns-in-IfFalse : goal.returns-in-IfFalse
returns-in-IfFalse c =
    rw c.in-IfFalse.is (λ code. (c.refine-in-IfFalse-2.ensures code, c.refine-in-IfFalse.ensures code))
