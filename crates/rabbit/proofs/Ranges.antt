-- Rabbit's states stay in range: a counter, a constant and a carry of 0 or 1 add up to less than 2^33, so the carry stays 0 or 1; sums modulo 2^32 are
-- words; and 16 bits beside 16 bits make a word.
-- Assumes nothing.
use Rattle.std.proofs.Common.{◌≡◌, ℕ, zero, suc, ◌+◌, ◌*◌, ◌%◌, ◌^◌, ◌<◌, ◌≤◌, List, length, get_or, refl, mod-lt, arith, lit<, lit≤}
use Rattle.words.specs.Word.{◌∥◌, rotl}
use Rattle.words.specs.Strings.{bytes_up}
use Rattle.words.specs.Lists.{All, none, more, Byte, Word}
use Rattle.words.proofs.Table.{all_under}
use Rattle.words.proofs.Ranges.{all-at, at_byte, at-word, all-tab, all_append, iter-keeps, xor-word, add-word, bytes_up-bytes}
use Rattle.rabbit_tables.specs.Tables.{a_list}
use Rattle.rabbit.specs.Cipher.{choose, at8, carry_at, counter_at, counted, gs, mixed_at, mixed, next, strm_at, half_at, parts8, parts4, x_at, c_at, arranged, loaded, master, iv_words, modified, with_iv, started, init, unit, u}
use Rattle.rabbit.specs.Range.{InRange}
use Rattle.rabbit.specs.declared.Rabbit.{Rabbit}

choose_word : (d : ℕ) {a b : ℕ} → Word a → Word b → Word (choose d a b)
choose_word zero ha hb = ha
choose_word (suc d) ha hb = hb

a-words : All Word a_list
unfolding a_list
a-words = all_under 0x100000000 a_list tt

carry-one : (c : List ℕ) (b : ℕ) → All Word c → b ≤ 1 → (j : ℕ) → carry_at c b j ≤ 1
unfolding carry_at
carry-one c b h q zero = q
carry-one c b h q (suc j) = let k : carry_at c b j ≤ 1 = carry-one c b h q j in omega (arith, at-word h j, at-word a-words j)

mixed-words : (l : List ℕ) → All Word (mixed l)
unfolding mixed
mixed-words l = all-tab 8 (mixed_at l) (λ j q. choose_word (j % 2) (add-word _ (rotl 16 (at8 l (j + 6)))) (add-word _ (at8 l (j + 6))))

pub next-range : (s : Rabbit) → InRange s → InRange (next s)
unfolding next counted mixed
next-range s h =
    record {
      eight-x = refl;
      eight-c = refl;
      xs = mixed-words (gs s.x (counted s.c s.b).c);
      cs = all-tab 8 (counter_at s.c s.b) (λ j q. mod-lt _ (lit< tt));
      carry = carry-one s.c s.b h.cs h.carry 8;
    }

-- ---- loading

abbrev Half : ℕ → Type 0
Half x = x < 2 ^ 16

join-halves : {a b : ℕ} → Half a → Half b → Word (a ∥ b)
join-halves ha hb = omega arith

half_at-half : {s : List ℕ} → All Byte s → (i : ℕ) → Half (half_at s i)
unfolding half_at
half_at-half h i = omega (arith, at_byte h i, at_byte h (i + 1))

at-half : {l : List ℕ} → All Half l → (i : ℕ) → Half (get_or l i 0)
at-half h i = all-at (lit< tt) h i

arranged-range : {k : List ℕ} → All Half k → InRange (arranged k)
unfolding arranged
arranged-range {k} h =
    record {
      eight-x = refl;
      eight-c = refl;
      xs = all-tab 8 (x_at k) (λ j q. choose_word (j % 2) (join-halves (at-half h ((j + 1) % 8)) (at-half h (j % 8))) (join-halves (at-half h ((j + 5) % 8)) (at-half h ((j + 4) % 8))));
      cs = all-tab 8 (c_at k) (λ j q. choose_word (j % 2) (join-halves (at-half h ((j + 4) % 8)) (at-half h ((j + 5) % 8))) (join-halves (at-half h (j % 8)) (at-half h ((j + 1) % 8))));
      carry = lit≤ tt;
    }

iv_words-words : {h : List ℕ} → All Half h → All Word (iv_words h)
unfolding iv_words
iv_words-words h =
    more (join-halves (at-half h 1) (at-half h 0))
    (more (join-halves (at-half h 3) (at-half h 1)) (more (join-halves (at-half h 3) (at-half h 2)) (more (join-halves (at-half h 2) (at-half h 0)) none)))

-- the state that a key keeps is in range
pub master-range : (k : List ℕ) → All Byte k → InRange (master k)
unfolding master loaded parts8
master-range k h =
    iter-keeps InRange next next-range 4 (loaded k) (arranged-range (all-tab 8 (λ j. half_at k (2 * j)) (λ j q. half_at-half h (2 * j))))

pub started-range : (s : Rabbit) (iv : List ℕ) → InRange s → All Byte iv → InRange (started s iv)
unfolding started with_iv modified parts4
started-range s iv h hv =
    next-range _
    (iter-keeps InRange next next-range 4 (with_iv s iv)
    (record {
      eight-x = h.eight-x;
      eight-c = refl;
      xs = h.xs;
      cs =
          all-tab 8 _
          (λ j q.
          xor-word (xor-word (at-word h.cs j) (at-word h.xs ((j + 4) % 8)))
          (at-word (iv_words-words (all-tab 4 (λ i. half_at iv (2 * i)) (λ i r. half_at-half hv (2 * i)))) (j % 4)));
      carry = h.carry;
    }))

-- S(0) is in range, whatever bytes key and IV are
pub init-range : (k iv : List ℕ) → All Byte k → All Byte iv → InRange (init k iv)
unfolding init
init-range k iv hk hv = started-range (master k) iv (master-range k hk) hv

-- a unit is u bytes
pub unit-length : (s : Rabbit) → length (unit s) ≡ u
unfolding unit bytes_up
unit-length s = refl

pub unit-bytes : (s : Rabbit) → All Byte (unit s)
unfolding unit
unit-bytes s =
    all_append (all_append (all_append (bytes_up-bytes (strm_at s 0)) (bytes_up-bytes (strm_at s 1))) (bytes_up-bytes (strm_at s 2)))
    (bytes_up-bytes (strm_at s 3))
