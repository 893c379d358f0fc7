use Rattle.std.proofs.Common.{◌≡◌, ◌∙◌, ℕ, ◌-◌, List, Option, Some, None, IfSome, ap, arith, length, lit<}
use Rattle.std.specs.Sync.OnceLock.{Named}
use Rattle.std.specs.declared.sync.OnceToken.{OnceToken}
use Rattle.plantevents.specs.Parts.{Placed}
use Rattle.plantreceipts.specs.declared.receipt.NotedPart.{NotedPart}
use Rattle.plantreceipts.specs.Tokens.{Held, id_at}
use Rattle.refusalsplant.proofs.shares.first_event_is_filed_in_the_first_cell.Goals as goal

in_first : (base : ℕ) (cells : List Named) (token : Option (OnceToken NotedPart)) (receipts : List Placed) → base ≡ 5
    → Held base cells 6 token receipts → IfSome token (λ t. t.of ≡ id_at cells 0)
in_first base cells (Some t) receipts five held = held.1 ∙ ap (λ (n : ℕ). id_at cells (6 - 1 - n)) five
in_first base cells None receipts five held = tt

pub note-requires : goal.note-requires
note-requires g c = record {
  cells = c.requires.cells;
  from = let start = c.requires.start in omega arith;
  index = let start = c.requires.start in let some = c.requires.some in omega arith;
  small = lit< tt;
  order = c.requires.order;
}

pub returns : goal.returns
returns g c =
    in_first (length g.J.LockStart.start.history) g.J.LockStart.cells c.note.result c.note.new.self.receipts
    c.requires.start c.note.ensures.held
