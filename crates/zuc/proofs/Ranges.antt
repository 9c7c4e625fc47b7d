-- ZUC's states stay in range: a feedback that is mended is a cell, in both modes, since a remainder by 2^31 - 1 is below it; SUB1 and SUB2 hold bytes, so R1
-- and R2 are words; and key, constant and IV make cells, since each constant has 15 bits and is not 0.
-- Assumes nothing.
use Rattle.std.proofs.Common.{◌≡◌, ℕ, zero, suc, ◌-◌, ◌^◌, ◌<◌, ◌≤◌, T, ltb, leb, List, length, refl, mod-lt, arith, lit<, lit≤, ltb→lt, leb→le}
use Rattle.words.specs.Word.{b0, b1, b2, b3}
use Rattle.words.specs.Strings.{bytes_of}
use Rattle.words.specs.Lists.{All, Byte, Word}
use Rattle.words.specs.Tests.{both}
use Rattle.words.proofs.Table.{both_left, both_right, all_pass, all_under}
use Rattle.words.proofs.Ranges.{at_byte, all_in, all-tab, all-shifted, length-shifted, iter-keeps, join-word, bytes_of-bytes}
use Rattle.zuc_tables.specs.Tables.{sub1, sub2, d}
use Rattle.zuc.specs.Cipher.{ss, next_r1, next_r2, v, weighed, mended, fed, fed_init, clocked, next, next_init, strm, loaded, loaded_cell, init, unit, u}
use Rattle.zuc.specs.Range.{Cell, InRange}
use Rattle.zuc.specs.declared.Zuc.{Zuc}

mended-cell : (x : ℕ) → x < 2 ^ 31 - 1 → Cell (mended x)
unfolding mended
mended-cell zero h = (lit≤ tt, lit≤ tt)
mended-cell (suc x) h = omega arith

sub1-bytes : All Byte sub1
unfolding sub1
sub1-bytes = all_under 256 sub1 tt

sub2-bytes : All Byte sub2
unfolding sub2
sub2-bytes = all_under 256 sub2 tt

ss-word : (x : ℕ) → Word (ss x)
unfolding ss
ss-word x = join-word (at_byte sub1-bytes (b3 x)) (at_byte sub2-bytes (b2 x)) (at_byte sub1-bytes (b1 x)) (at_byte sub2-bytes (b0 x))

clocked-range : (s : Zuc) (x : ℕ) → InRange s → Cell x → InRange (clocked s x)
unfolding clocked next_r1 next_r2
clocked-range s x h k =
    record {
      sixteen = length-shifted 15 s.a x h.sixteen;
      cells = all-shifted h.cells k;
      r1-word = ss-word _;
      r2-word = ss-word _;
    }

pub next-range : (s : Zuc) → InRange s → InRange (next s)
unfolding next fed weighed
next-range s h = clocked-range s (fed s) h (mended-cell (v s) (mod-lt _ (lit< tt)))

pub next_init-range : (s : Zuc) → InRange s → InRange (next_init s)
unfolding next_init fed_init
next_init-range s h = clocked-range s (fed_init s) h (mended-cell _ (mod-lt _ (lit< tt)))

-- a constant has 15 bits and is not 0
abbrev Fifteen : ℕ → Type 0
Fifteen x = (1 ≤ x) × (x < 2 ^ 15)

fifteen : (x : ℕ) → T (both (leb 1 x) (ltb x 0x8000)) → Fifteen x
fifteen x t = (leb→le 1 x (both_left (leb 1 x) (ltb x 0x8000) t), ltb→lt x 0x8000 (both_right (leb 1 x) (ltb x 0x8000) t))

constants : All Fifteen d
unfolding d
constants = all_pass Fifteen (λ x. both (leb 1 x) (ltb x 0x8000)) fifteen d tt

module _ (k iv : List ℕ) (hk : All Byte k) (hv : All Byte iv) where
  loaded-cell : (i : ℕ) → i < 16 → Cell (loaded_cell k iv i)
  unfolding d
  loaded-cell i q = omega (arith, at_byte hk i, at_byte hv i, (all_in constants i q).0, (all_in constants i q).1)

  loaded-range : InRange (loaded k iv)
  unfolding loaded
  loaded-range = record { sixteen = refl; cells = all-tab 16 (loaded_cell k iv) loaded-cell; r1-word = lit< tt; r2-word = lit< tt }

  -- S(0) is in range, whatever bytes key and IV are
  pub init-range : InRange (init k iv)
  unfolding init
  init-range = next-range _ (iter-keeps InRange next_init next_init-range 32 (loaded k iv) loaded-range)

-- a unit is u bytes
pub unit-length : (s : Zuc) → length (unit s) ≡ u
unfolding unit bytes_of
unit-length s = refl

pub unit-bytes : (s : Zuc) → All Byte (unit s)
unfolding unit
unit-bytes s = bytes_of-bytes (strm s)
