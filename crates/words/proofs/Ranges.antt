-- What operations on words and bytes keep: sums, exclusive ors and joined bytes are words, the bytes of a word are bytes, and what holds of each cell
-- of a register and of the word that comes in holds after a move.
-- Assumes nothing.
use mathlib.Core.Path.{◌≡◌, sym, subst⁻¹, ◌∙◌}
use mathlib.Core.List.{List, [], ◌∷◌, ◌++◌}
use Prim.Native.Nat.{ℕ, zero, suc, ◌+◌, ◌*◌, ◌/◌, ◌%◌, ◌<◌, ◌^◌}
use native.Mathlib.Nat.{mod-lt, suc-ne-zero, le_of_suc-le-suc, not-suc-le-zero, lt_of_le_of_lt, le_of_lt, mul-le-mul_left, mul-lt-mul_of_pos_right}
use native.Mathlib.Numerals.{add-one}
use native.Mathlib.Omega.{arith}
use lib.Bits.{xor_lt}
use lib.Dec.{lit<}
use lib.Pow.{pow-add, pow_pos}
use lib.ListN.{length, get_or, drop, length-append}
use Rattle.words.specs.Word.{◌⊕◌, ◌+₃₂◌, word}
use Rattle.words.specs.Strings.{word_at, four_at, bytes_of, bytes_up}
use Rattle.words.specs.Lists.{All, none, more, tab, shifted, iter, Byte, Word}

-- what is so at every place is so of all
pub all_known : (P : ℕ → Type 0) (l : List ℕ) → ((i : ℕ) → P (get_or l i 0)) → All P l
all_known P [] h = none
all_known P (x ∷ l) h = more (h 0) (all_known P l (λ i. h (suc i)))

pub xor-word : {a b : ℕ} → Word a → Word b → Word (a ⊕ b)
xor-word {a} {b} ha hb = xor_lt 32 a b ha hb

pub add-word : (a b : ℕ) → Word (a +₃₂ b)
add-word a b = mod-lt (a + b) (lit< tt)

pub join-word : {a b c d : ℕ} → Byte a → Byte b → Byte c → Byte d → Word (word a b c d)
join-word ha hb hc hd = omega arith

-- a product of two numbers of k bits has 2 k
pub mul-below : (k : ℕ) {a b : ℕ} → a < 2 ^ k → b < 2 ^ k → a * b < 2 ^ (k + k)
mul-below k {a} {b} ha hb =
    subst⁻¹ (λ (n : ℕ). a * b < n) (pow-add 2 k k)
    (lt_of_le_of_lt (mul-le-mul_left a (le_of_lt hb)) (mul-lt-mul_of_pos_right ha (pow_pos k)))

pub byte_of : (x : ℕ) → Byte (x % 2 ^ 8)
byte_of x = mod-lt x (lit< tt)

pub bytes_of-bytes : (w : ℕ) → All Byte (bytes_of w)
unfolding bytes_of
bytes_of-bytes w = more (byte_of (w / 2 ^ 24)) (more (byte_of (w / 2 ^ 16)) (more (byte_of (w / 2 ^ 8)) (more (byte_of w) none)))

pub bytes_up-bytes : (w : ℕ) → All Byte (bytes_up w)
unfolding bytes_up
bytes_up-bytes w = more (byte_of w) (more (byte_of (w / 2 ^ 8)) (more (byte_of (w / 2 ^ 16)) (more (byte_of (w / 2 ^ 24)) none)))

module _ {P : ℕ → Type 0} where
  pub all_append : {a b : List ℕ} → All P a → All P b → All P (a ++ b)
  all_append none k = k
  all_append (more p h) k = more p (all_append h k)

  pub all_drop : (n : ℕ) {a : List ℕ} → All P a → All P (drop n a)
  all_drop zero h = h
  all_drop (suc n) none = none
  all_drop (suc n) (more p h) = all_drop n h

  pub all-shifted : {a : List ℕ} {x : ℕ} → All P a → P x → All P (shifted a x)
  unfolding shifted
  all-shifted h p = all_append (all_drop 1 h) (more p none)

  pub all-tab : (n : ℕ) (f : ℕ → ℕ) → ((i : ℕ) → i < n → P (f i)) → All P (tab n f)
  all-tab zero f h = none
  all-tab (suc n) f h = more (h zero (omega arith)) (all-tab n (λ i. f (suc i)) (λ i q. h (suc i) (omega arith)))

  -- an element
  pub all_in : {a : List ℕ} → All P a → (i : ℕ) → i < length a → P (get_or a i 0)
  all_in none i q = absurd (not-suc-le-zero q)
  all_in (more p h) zero q = p
  all_in (more p h) (suc i) q = all_in h i (le_of_suc-le-suc q)

  -- an element, and the default beyond the last
  pub all-at : {a : List ℕ} → P zero → All P a → (i : ℕ) → P (get_or a i 0)
  all-at z none i = z
  all-at z (more p h) zero = p
  all-at z (more p h) (suc i) = all-at z h i

  -- the elements one by one
  pub all-by : (a : List ℕ) → ((i : ℕ) → i < length a → P (get_or a i 0)) → All P a
  all-by [] h = none
  all-by (x ∷ a) h = more (h zero (omega arith)) (all-by a (λ i q. h (suc i) (omega arith)))

pub length-shifted : (n : ℕ) (a : List ℕ) (x : ℕ) → length a ≡ suc n → length (shifted a x) ≡ suc n
unfolding shifted
length-shifted n [] x e = absurd (suc-ne-zero n (sym e))
length-shifted n (y ∷ a) x e = length-append a (x ∷ []) ∙ add-one (length a) ∙ e

-- what a step keeps, steps keep
pub iter-keeps : {A : Type 0} (Q : A → Type 0) (f : A → A) → ((y : A) → Q y → Q (f y)) → (n : ℕ) (x : A) → Q x → Q (iter n f x)
unfolding iter
iter-keeps Q f k zero x q = q
iter-keeps Q f k (suc n) x q = k (iter n f x) (iter-keeps Q f k n x q)

pub at_byte : {s : List ℕ} → All Byte s → (i : ℕ) → Byte (get_or s i 0)
at_byte h i = all-at (lit< tt) h i

pub at-word : {s : List ℕ} → All Word s → (i : ℕ) → Word (get_or s i 0)
at-word h i = all-at (lit< tt) h i

pub word_at-word : {s : List ℕ} → All Byte s → (i : ℕ) → Word (word_at s i)
unfolding word_at
word_at-word h i = join-word (at_byte h i) (at_byte h (i + 1)) (at_byte h (i + 2)) (at_byte h (i + 3))

pub four_at-words : {s : List ℕ} → All Byte s → (i : ℕ) → All Word (four_at s i)
unfolding four_at
four_at-words h i = more (word_at-word h i) (more (word_at-word h (i + 4)) (more (word_at-word h (i + 8)) (more (word_at-word h (i + 12)) none)))
