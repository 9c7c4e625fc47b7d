-- KCipher-2's states stay in range: products in the fields and Sub_K2 are words, and sums and exclusive ors of words are words.
-- Assumes nothing.
use Rattle.std.proofs.Common.{◌≡◌, ℕ, zero, suc, List, length, get_or, refl, lit<}
use Rattle.words.specs.Word.{◌⊕◌, ◌+₃₂◌, rotl, bit}
use Rattle.words.specs.Strings.{bytes_of}
use Rattle.words.specs.Lists.{All, none, more, Byte, Word}
use Rattle.words.proofs.Ranges.{at-word, all_append, all-shifted, length-shifted, iter-keeps, xor-word, add-word, four_at-words, bytes_of-bytes}
use Rattle.field.specs.Gf32.{alpha}
use Rattle.field.proofs.Elements.{times-word}
use Rattle.field.proofs.Columns.{fn_t-word}
use Rattle.kcipher2_tables.specs.Tables.{field0, field1, field2, field3}
use Rattle.kcipher2.specs.Cipher.{cell_a, cell_b, by_digit, strm_high, strm_low, fed_a, fed_b, one_or_two, three_or_none, clocked, next, next_init, first_of, expanded, cells_a, cells_b, arranged, key4, loaded, init, unit, u}
use Rattle.kcipher2.specs.Range.{InRange}
use Rattle.kcipher2.specs.declared.Kcipher2.{Kcipher2}

pick_word : (e : ℕ) {x y : ℕ} → Word x → Word y → Word (by_digit e x y)
pick_word zero hx hy = hy
pick_word (suc e) hx hy = hx

module _ (s : Kcipher2) (h : InRange s) where
  fed_a-word : Word (fed_a s)
  unfolding fed_a
  fed_a-word = xor-word (times-word field0 alpha (cell_a s 0)) (at-word h.cells-a 3)

  fed_b-word : Word (fed_b s)
  unfolding fed_b one_or_two three_or_none
  fed_b-word =
      xor-word
      (xor-word
      (xor-word (pick_word (bit 30 (cell_a s 2)) (times-word field1 alpha (cell_b s 0)) (times-word field2 alpha (cell_b s 0))) (at-word h.cells-b 1))
      (at-word h.cells-b 6))
      (pick_word (bit 31 (cell_a s 2)) (times-word field3 alpha (cell_b s 8)) (at-word h.cells-b 8))

  high_word : Word (strm_high s)
  unfolding strm_high
  high_word = xor-word (xor-word (add-word (cell_b s 10) s.l2) h.l1-word) (at-word h.cells-a 0)

  low_word : Word (strm_low s)
  unfolding strm_low
  low_word = xor-word (xor-word (add-word (cell_b s 0) s.r2) h.r1-word) (at-word h.cells-a 4)

  clocked-range : (x y : ℕ) → Word x → Word y → InRange (clocked s x y)
  unfolding clocked
  clocked-range x y hx hy =
      record {
        five = length-shifted 4 s.a x h.five;
        eleven = length-shifted 10 s.b y h.eleven;
        cells-a = all-shifted h.cells-a hx;
        cells-b = all-shifted h.cells-b hy;
        r1-word = fn_t-word (s.l2 +₃₂ cell_b s 9);
        l1-word = fn_t-word (s.r2 +₃₂ cell_b s 4);
        r2-word = fn_t-word s.r1;
        l2-word = fn_t-word s.l1;
      }

pub next-range : (s : Kcipher2) → InRange s → InRange (next s)
unfolding next
next-range s h = clocked-range s h (fed_a s) (fed_b s) (fed_a-word s h) (fed_b-word s h)

pub next_init-range : (s : Kcipher2) → InRange s → InRange (next_init s)
unfolding next_init
next_init-range s h =
    clocked-range s h (fed_a s ⊕ strm_low s) (fed_b s ⊕ strm_high s) (xor-word (fed_a-word s h) (low_word s h)) (xor-word (fed_b-word s h) (high_word s h))

module _ {k : List ℕ} (h : All Word k) (rcon : ℕ) (hr : Word rcon) where
  first_word : Word (first_of k rcon)
  first_word = xor-word (xor-word (at-word h 0) (fn_t-word (rotl 8 (get_or k 3 0)))) hr

  expanded-words : All Word (expanded k rcon)
  unfolding expanded
  expanded-words =
      more first_word
      (more (xor-word (at-word h 1) first_word)
      (more (xor-word (at-word h 2) (xor-word (at-word h 1) first_word))
      (more (xor-word (at-word h 3) (xor-word (at-word h 2) (xor-word (at-word h 1) first_word))) none)))

module _ {k e g v : List ℕ} (hk : All Word k) (he : All Word e) (hg : All Word g) (hv : All Word v) where
  cells_a-words : All Word (cells_a k e)
  unfolding cells_a
  cells_a-words = more (at-word he 0) (more (at-word hk 3) (more (at-word hk 2) (more (at-word hk 1) (more (at-word hk 0) none))))

  cells_b-words : All Word (cells_b e g v)
  unfolding cells_b
  cells_b-words =
      more (at-word hg 2) (more (at-word hg 3) (more (at-word hv 0) (more (at-word hv 1) (more (at-word hg 0) (more (at-word hg 1)
      (more (at-word hv 2) (more (at-word hv 3) (more (at-word he 3) (more (at-word he 1) (more (at-word he 2) none))))))))))

  arranged-range : InRange (arranged k e g v)
  unfolding arranged cells_a cells_b
  arranged-range =
      record {
        five = refl;
        eleven = refl;
        cells-a = cells_a-words;
        cells-b = cells_b-words;
        r1-word = lit< tt;
        l1-word = lit< tt;
        r2-word = lit< tt;
        l2-word = lit< tt;
      }

module _ (k iv : List ℕ) (hk : All Byte k) (hv : All Byte iv) where
  key4-words : All Word (key4 k)
  key4-words = expanded-words (four_at-words hk 0) 0x01000000 (lit< tt)

  loaded-range : InRange (loaded k iv)
  unfolding loaded
  loaded-range = arranged-range (four_at-words hk 0) key4-words (expanded-words key4-words 0x02000000 (lit< tt)) (four_at-words hv 0)

  -- S(0) is in range, whatever bytes key and IV are
  pub init-range : InRange (init k iv)
  unfolding init
  init-range = iter-keeps InRange next_init next_init-range 24 (loaded k iv) loaded-range

-- a unit is u bytes
pub unit-length : (s : Kcipher2) → length (unit s) ≡ u
unfolding unit bytes_of
unit-length s = refl

pub unit-bytes : (s : Kcipher2) → All Byte (unit s)
unfolding unit
unit-bytes s = all_append (bytes_of-bytes (strm_high s)) (bytes_of-bytes (strm_low s))
