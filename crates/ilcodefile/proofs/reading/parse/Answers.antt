use Rattle.std.proofs.Common.{◌≡◌, ℕ, List, refl, sym, ap, ◌∙◌}
use Rattle.std.specs.Prelude.{slice_index}
use Rattle.ilcode.specs.Listings.{listing_of}
use Rattle.ilcodefile.specs.Faults.{Counts, size}
use Rattle.ilcodefile.specs.FaultSteps.{counted}
use Rattle.ilcodefile.specs.BodySteps.{AreBodies}
use Rattle.ilcodefile.proofs.BodyOrder.{bodies_of, small_functions}
use Rattle.ilcodefile.proofs.Parts.{parts}
use Rattle.ilcodefile.proofs.Lawful.{lawful}
use Rattle.ilcodefile.proofs.Lengths.{small_starts}
use Rattle.ilcodefile.proofs.reading.parse.Goals as goal

pub tables_in-tables-requires : goal.tables_in-tables-requires
tables_in-tables-requires c = c.requires.shaped.long ∙ ap size (sym c.requires.counts)

pub returns-in_default-clause-exact : goal.returns-in_default-clause-exact
returns-in_default-clause-exact c =
    λ code is.
    let h = is.0 in
    let e = is.1 in
    let p = parts code c.args.bytes.now (counted c.args.counts) h e c.requires.counts in
    rw c.in_default.is at
    (c.in_ok-slots.ensures.exact code.slots (sym (ap (λ (m : Counts). m.slots) p.counts)) h.slots
    (c.tables_in-tables.ensures.slots.is ∙ p.slots))

pub returns-in_default-2-clause-exact : goal.returns-in_default-2-clause-exact
returns-in_default-2-clause-exact c =
    λ code is.
    let h = is.0 in
    let e = is.1 in
    let p = parts code c.args.bytes.now (counted c.args.counts) h e c.requires.counts in
    rw c.in_default-2.is at
    (c.in_ok-kinds.ensures.exact code.kinds (sym (ap (λ (m : Counts). m.blocks) p.counts))
    (c.tables_in-tables.ensures.blocks.is ∙ p.blocks))

pub returns-in_default-3-clause-exact : goal.returns-in_default-3-clause-exact
returns-in_default-3-clause-exact c =
    λ code is.
    let h = is.0 in
    let e = is.1 in
    let p = parts code c.args.bytes.now (counted c.args.counts) h e c.requires.counts in
    rw c.in_default-3.is at
    (c.in_ok-words.ensures.exact code.instructions (sym (ap (λ (m : Counts). m.words) p.counts)) h.lawful.words
    (c.tables_in-tables.ensures.words.is ∙ p.words))

pub returns-then-not-are_bodies-clause-exact : goal.returns-then-not-are_bodies-clause-exact
returns-then-not-are_bodies-clause-exact c =
    λ code is.
    let h = is.0 in
    let e = is.1 in
    let p = parts code c.args.bytes.now (counted c.args.counts) h e c.requires.counts in
    let t = c.tables_in-tables.ensures in
    let buses : slice_index c.args.bytes.now 5 ≡ code.buses = ap (λ (bs : List ℕ). slice_index bs 5) (sym e) in
    let starts = c.in_ok-starts.ensures.exact code.starts (sym (ap (λ (m : Counts). m.starts) p.counts))
    (small_starts code h.lawful) (t.starts.is ∙ p.starts) in
    let functions = c.in_ok-functions.ensures.exact code.functions
    (sym (ap (λ (m : Counts). m.functions) p.counts)) (small_functions code h.lawful)
    (t.functions.is ∙ p.functions) in
    let words = rw c.in-Some-3.is at (c.in_ok-words.ensures.exact code.instructions
    (sym (ap (λ (m : Counts). m.words) p.counts)) h.lawful.words (t.words.is ∙ p.words)) in
    let bodies : AreBodies (slice_index c.args.bytes.now 5) c.args.counts.slots c.deref.result.now
    c.deref-2.result.now c.deref-3.result.now =
    rw (
      buses,
      ap (λ (m : Counts). m.slots) p.counts,
      c.deref.ensures.value ∙ starts,
      c.deref-2.ensures.value ∙ words,
      c.deref-3.ensures.value ∙ functions,
    )
    (bodies_of code h.lawful) in
    let yes = c.are_bodies.ensures.1 bodies in
    let not = c.if-not-are_bodies.true in
    absurd (cc)

pub new-requires : goal.new-requires
new-requires c =
    let held = rw c.in-Some-3.is at c.in_ok-words.ensures.held in
    let bodies = c.are_bodies.ensures.0 c.if-not-are_bodies.false in
    lawful c.args.bytes.now (counted c.args.counts) c.requires.shaped c.requires.counts _ _ _ _ _ _ _ _
    refl
    c.in_ok-constants.ensures.long
    (rw c.in-Some.is at c.in_ok-slots.ensures.fits).1
    (rw c.in-Some-2.is at c.in_ok-kinds.ensures.long)
    c.in_ok-starts.ensures.long
    held.1
    c.in_ok-lines.ensures.long
    c.in_ok-functions.ensures.long
    held.0
    c.in_ok-lines.ensures.small
    (rw (c.deref.ensures.value, c.deref-2.ensures.value, c.deref-3.ensures.value) at bodies)

pub returns-clause-exact : goal.returns-clause-exact
returns-clause-exact c =
    λ code is.
    let h = is.0 in
    let e = is.1 in
    let p = parts code c.args.bytes.now (counted c.args.counts) h e c.requires.counts in
    let t = c.tables_in-tables.ensures in
    let long = sym (ap (λ (m : Counts). m.words) p.counts) in
    let buses : slice_index c.args.bytes.now 5 ≡ code.buses = ap (λ (bs : List ℕ). slice_index bs 5) (sym e) in
    let constants = c.in_ok-constants.ensures.exact code.constants
    (sym (ap (λ (m : Counts). m.constants) p.counts)) h.constants (t.constants.is ∙ p.constants) in
    let slots = rw c.in-Some.is at (c.in_ok-slots.ensures.exact code.slots
    (sym (ap (λ (m : Counts). m.slots) p.counts)) h.slots (t.slots.is ∙ p.slots)) in
    let kinds = rw c.in-Some-2.is at (c.in_ok-kinds.ensures.exact code.kinds
    (sym (ap (λ (m : Counts). m.blocks) p.counts)) (t.blocks.is ∙ p.blocks)) in
    let starts = c.in_ok-starts.ensures.exact code.starts (sym (ap (λ (m : Counts). m.starts) p.counts))
    (small_starts code h.lawful) (t.starts.is ∙ p.starts) in
    let functions = c.in_ok-functions.ensures.exact code.functions
    (sym (ap (λ (m : Counts). m.functions) p.counts)) (small_functions code h.lawful)
    (t.functions.is ∙ p.functions) in
    let words = rw c.in-Some-3.is at (c.in_ok-words.ensures.exact code.instructions long h.lawful.words
    (t.words.is ∙ p.words)) in
    let lines = c.in_ok-lines.ensures.exact code.lines (h.lawful.lines ∙ long) h.lawful.numbers
    (t.lines ∙ p.lines) in
    c.new.ensures
    ∙ (λ i. listing_of (buses i) (constants i) (slots i) (kinds i) (starts i) (words i) (lines i) (functions i))
