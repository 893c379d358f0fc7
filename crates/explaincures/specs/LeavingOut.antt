-- What a proposed change may leave out of a text, or put another sign in the place of: signs that stand for nothing, so
-- that no name, no number, no operand and nothing that turns one round is lost.
use Rattle.std.specs.Prelude.{ℕ, ◌≡◌, ◌≤◌, ◌+◌, ◌==◌, ◌||◌, ◌&&◌, Bool, true, false, List, [], ◌∷◌, drop, if◌then◌else◌}
use Rattle.explaincures.specs.declared.edits.Edit.{Edit}

-- the change puts these bytes in the place of those from one place up to another
pub record IsEdit (first last : ℕ) (bytes : List ℕ) (edit : Edit) : Type 0 where
  pub from : edit.from ≡ first
  pub to : edit.to ≡ last
  pub with : edit.with.items ≡ bytes

-- a blank (32, 9), or one of `, : ; . ) ?`, which stand for nothing
abbrev pub is_idle : ℕ → Bool
is_idle byte = (byte == 32) || (byte == 9) || (byte == 44) || (byte == 58) || (byte == 59) || (byte == 46)
    || (byte == 41) || (byte == 63)

-- what stands behind the idle bytes at the front
abbrev pub after_idle : List ℕ → List ℕ
after_idle [] = []
after_idle (byte ∷ rest) = if is_idle byte then after_idle rest else byte ∷ rest

-- an idle byte stands first
abbrev pub begins_idle : List ℕ → Bool
begins_idle [] = false
begins_idle (byte ∷ rest) = is_idle byte

-- a comment begins with this byte and what stands behind it (40, 42)
abbrev pub begins_comment : ℕ → List ℕ → Bool
begins_comment byte [] = false
begins_comment byte (next ∷ rest) = (byte == 40) && (next == 42)

-- the text ends here, or the line does (10, 13), or a comment begins
abbrev pub is_at_end : List ℕ → Bool
is_at_end [] = true
is_at_end (byte ∷ rest) = (byte == 10) || (byte == 13) || begins_comment byte rest

-- something idle stands there, and nothing else up to the end of the line, or up to a comment
pub record IsIdleAt (text : List ℕ) (at : ℕ) : Type 0 where
  pub some : begins_idle (drop at text) ≡ true
  pub all : is_at_end (after_idle (drop at text)) ≡ true

-- the change leaves out the byte there at most, which is idle as all behind it is, and puts nothing in its place
pub record LeavesOut (text : List ℕ) (at : ℕ) (edit : Edit) : Type 0 where
  pub idle : IsIdleAt text at
  pub from : edit.from ≡ at
  pub to : edit.to ≤ at + 1
  pub none : edit.with.items ≡ []

-- one of `, : ; . = ( )`, which part words
abbrev pub is_sign : ℕ → Bool
is_sign byte = (byte == 44) || (byte == 58) || (byte == 59) || (byte == 46) || (byte == 61) || (byte == 40) || (byte == 41)

-- `:=` or `..`
abbrev pub is_double : ℕ → List ℕ → Bool
is_double byte [] = false
is_double byte (next ∷ rest) = ((byte == 58) && (next == 61)) || ((byte == 46) && (next == 46))

-- how many bytes the sign has that stands first; 0 where something else does
abbrev pub sign_len : List ℕ → ℕ
sign_len [] = 0
sign_len (byte ∷ rest) = if is_double byte rest then 2 else (if is_sign byte then 1 else 0)

-- the change puts these bytes in the place of the sign there
pub record ReplacesSign (text : List ℕ) (at : ℕ) (sign : List ℕ) (edit : Edit) : Type 0 where
  pub from : edit.from ≡ at
  pub to : edit.to ≤ at + sign_len (drop at text)
  pub with : edit.with.items ≡ sign
