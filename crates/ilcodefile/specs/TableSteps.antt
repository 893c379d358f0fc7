-- Where the tables of a file stand: each follows the one before, and the first follows the head.
use Rattle.std.specs.Prelude.{◌≡◌, ℕ, ◌*◌, List, length, take, drop}
use Rattle.ilcodefile.specs.Faults.{Counts, head_size}

abbrev pub after_head : List ℕ → Counts → List ℕ
after_head bytes c = drop (head_size c.version) bytes

abbrev pub after_constants : List ℕ → Counts → List ℕ
after_constants bytes c = drop (16 * c.constants) (after_head bytes c)

abbrev pub after_slots : List ℕ → Counts → List ℕ
after_slots bytes c = drop (24 * c.slots) (after_constants bytes c)

abbrev pub after_blocks : List ℕ → Counts → List ℕ
after_blocks bytes c = drop c.blocks (after_slots bytes c)

abbrev pub after_starts : List ℕ → Counts → List ℕ
after_starts bytes c = drop (4 * c.starts) (after_blocks bytes c)

abbrev pub after_functions : List ℕ → Counts → List ℕ
after_functions bytes c = drop (16 * c.functions) (after_starts bytes c)

abbrev pub after_words : List ℕ → Counts → List ℕ
after_words bytes c = drop (4 * c.words) (after_functions bytes c)

-- the first bytes of others, so many as there are
pub record IsFront (part bytes : List ℕ) (size : ℕ) : Type 0 where
  pub is : part ≡ take size bytes
  pub long : length part ≡ size
