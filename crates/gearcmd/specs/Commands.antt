-- The opcodes of the request blocks, by their port CMD (profile; the commands of control gear are those of IEC
-- 62386-102, clause 11).
use Rattle.std.specs.Prelude.{ℕ, ◌+◌, List, [], ◌∷◌, ◌++◌, zero, suc}

-- count opcodes one after another
abbrev pub opcodes_from : ℕ → ℕ → List ℕ
opcodes_from first zero = []
opcodes_from first (suc count) = first ∷ opcodes_from (first + 1) count

-- OFF, UP, DOWN, STEP UP, STEP DOWN, RECALL MAX LEVEL, RECALL MIN LEVEL, STEP DOWN AND OFF, ON AND STEP UP;
-- GO TO LAST ACTIVE LEVEL; GO TO SCENE 0 to 15
unfoldable pub gear_do_opcodes : List ℕ
gear_do_opcodes = opcodes_from 0x00 9 ++ 0x0A ∷ opcodes_from 0x10 16

-- SET MAX LEVEL, MIN LEVEL, SYSTEM FAILURE LEVEL, POWER ON LEVEL, FADE TIME, FADE RATE, EXTENDED FADE TIME; SET SCENE 0
-- to 15
unfoldable pub gear_set_opcodes : List ℕ
gear_set_opcodes = opcodes_from 0x2A 7 ++ opcodes_from 0x40 16

-- RESET, STORE ACTUAL LEVEL IN DTR0; REMOVE FROM SCENE, ADD TO GROUP, REMOVE FROM GROUP, 0 to 15 each
unfoldable pub gear_pair_opcodes : List ℕ
gear_pair_opcodes = opcodes_from 0x20 2 ++ opcodes_from 0x50 48

-- QUERY STATUS on, QUERY ACTUAL LEVEL on; the queries A8 and AA; QUERY SCENE LEVEL 0 to 15, QUERY GROUPS 0 TO 7, 8 TO
-- 15
unfoldable pub gear_ask_opcodes : List ℕ
gear_ask_opcodes = opcodes_from 0x90 23 ++ 0xA8 ∷ 0xAA ∷ opcodes_from 0xB0 18

-- ENABLE INSTANCE, DISABLE INSTANCE
unfoldable pub dev_do_opcodes : List ℕ
dev_do_opcodes = opcodes_from 0x62 2

-- QUERY INSTANCE TYPE; QUERY EVENT SCHEME, QUERY INPUT VALUE
unfoldable pub dev_ask_opcodes : List ℕ
dev_ask_opcodes = 0x80 ∷ opcodes_from 0x8B 2
