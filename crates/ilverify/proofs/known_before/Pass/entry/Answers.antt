use Rattle.std.proofs.Common.{◌≡◌, Option, subst}
use Rattle.ilverify.specs.declared.entry.Entry.{Entry}
use Rattle.ilverify.specs.BeforeWords.{BeforeWord, IsKnownBefore}
use Rattle.ilverify.proofs.Passings.{found_once}
use Rattle.ilverify.proofs.known_before.Pass.entry.Goals as goal

-- no other entry is known before the word
abbrev IsAlone : BeforeWord → Type 0
IsAlone before = (other : Option Entry)
    → IsKnownBefore (record { code = before.code; place = before.place; entry = other }) → other ≡ before.entry

pub returns-in-Some-clause-one : goal.returns-in-Some-clause-one
returns-in-Some-clause-one c =
    let p = c.self.inside in
    subst IsAlone c.self.view_is (found_once p.code.now p.place p.pending.items c.self.invariant.0)

pub returns-in-None-clause-one : goal.returns-in-None-clause-one
returns-in-None-clause-one c =
    let p = c.self.inside in
    subst IsAlone c.self.view_is (found_once p.code.now p.place p.pending.items c.self.invariant.0)
