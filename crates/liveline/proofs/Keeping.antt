-- Events that are read before an answer, and the line behind them.
use Rattle.std.proofs.Common.{◌≡◌, ℕ, true, false, List, [], ◌∷◌, ◌++◌, Option, Some, refl, sym, ap, ◌∙◌, subst}
use Rattle.std.proofs.Common.{append_assoc, append-nil}
use Rattle.std.specs.Io.KnownBytes.{Consumes}
use Rattle.std.proofs.KnownBytes.{Consumes-nil, Consumes-trans}
use Rattle.liveline.specs.Exchanges.{IsReadPast}
use Rattle.liveline.specs.Lines.{Event, IsMessage, frames_of, line_end, said_by}

-- events were read, and their frames are kept
abbrev pub AreKept : Option (List ℕ) → Option (List ℕ) → List ℕ → List ℕ → Type 0
AreKept old new before after =
    (events : List Event) × Consumes old new (said_by events) × (after ≡ before ++ frames_of events)

pub none_kept : (a : Option (List ℕ)) (before : List ℕ) → AreKept a a before before
none_kept a before = ([], Consumes-nil a, sym (append-nil before))

said_more : (events : List Event) (event : Event)
    → said_by (events ++ event ∷ []) ≡ said_by events ++ (event.line ++ line_end)
said_more [] event = append-nil (event.line ++ line_end)
said_more (first ∷ events) event =
    ap (λ (xs : List ℕ). (first.line ++ line_end) ++ xs) (said_more events event)
    ∙ sym (append_assoc (first.line ++ line_end) (said_by events) (event.line ++ line_end))

frames_more : (events : List Event) (event : Event)
    → frames_of (events ++ event ∷ []) ≡ frames_of events ++ event.frame ∷ []
frames_more [] event = refl
frames_more (first ∷ events) event = ap (λ (xs : List ℕ). first.frame ∷ xs) (frames_more events event)

pub one_kept : (a b c : Option (List ℕ)) (before kept after line : List ℕ) (frame : ℕ) → AreKept a b before kept
    → IsMessage (Some frame) line → Consumes b c (line ++ line_end) → after ≡ kept ++ frame ∷ []
    → AreKept a c before after
one_kept a b c before kept after line frame so_far says read is =
    let event : Event = record { frame = frame; line = line; says = says } in
    let events = so_far.0 in (
      events ++ event ∷ [],
      subst (λ (xs : List ℕ). Consumes a c xs) (sym (said_more events event))
          (Consumes-trans a b c (said_by events) (line ++ line_end) so_far.1 read),
      is ∙ (ap (λ (xs : List ℕ). xs ++ frame ∷ []) so_far.2
          ∙ (append_assoc before (frames_of events) (frame ∷ [])
          ∙ ap (λ (xs : List ℕ). before ++ xs) (sym (frames_more events event)))),
    )

pub then_the_line : (a b c : Option (List ℕ)) (before kept line : List ℕ) → AreKept a b before kept
    → Consumes b c (line ++ line_end) → IsReadPast true line a c before kept
then_the_line a b c before kept line so_far read = record {
  events = so_far.0;
  read = Consumes-trans a b c (said_by so_far.0) (line ++ line_end) so_far.1 read;
  kept = so_far.2;
  unasked = λ never. cc;
}

pub only_the_line : (a b : Option (List ℕ)) (before line : List ℕ) → Consumes a b (line ++ line_end)
    → IsReadPast false line a b before before
only_the_line a b before line read = record {
  events = [];
  read = read;
  kept = sym (append-nil before);
  unasked = λ none. refl;
}
