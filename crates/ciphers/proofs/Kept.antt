-- Load then start is an open: what a loaded line keeps of a key gives, with an IV, S(0) of that key and that IV, and it is what 255 asks. For a key is whole words, which spell it again,
-- and Rabbit's state is read back from its words.
-- Assumes nothing.
use mathlib.Core.Path.{◌≡◌, refl, ap, ap₂, sym, ◌∙◌, subst}
use mathlib.Core.Bool.{Bool, true, false, not}
use mathlib.Core.List.{List, [], ◌∷◌, ◌++◌}
use Prim.Native.Nat.{ℕ, zero, suc, ◌+◌, ◌*◌, ◌/◌, ◌%◌, ◌^◌, ◌<◌, ◌≤◌}
use native.Mathlib.Omega.{arith}
use lib.Dec.{eqb}
use lib.ListN.{length, get_or, take, drop, get_or-eq_default}
use lib.Seq.{take-nil}
use borrow.Author.Tests.{eqb-true}
use Rattle.words.specs.Lists.{All, none, more, Byte, Word, tab}
use Rattle.words.specs.Strings.{word_at, bytes_of}
use Rattle.words.specs.Tests.{both, pick}
use Rattle.words.specs.Word.{word}
use Rattle.words.proofs.Digits.{word-told}
use Rattle.words.proofs.Registers.{cons}
use Rattle.words.proofs.Ranges.{all_append, all-tab, bytes_of-bytes, word_at-word}
use Rattle.words.proofs.Tests.{both_left, both_right, both_true}
use Rattle.keystream.proofs.Tables.{tab-length, tab-agree}
use Rattle.rabbit.specs.Cipher as R
use Rattle.rabbit.proofs.Ranges.{master-range, started-range}
use Rattle.ciphers.specs.States.{state_words, rabbit_words, rabbit_state, spelt}
use Rattle.ciphers.specs.Table.{CipherRow, cipher_at, all_zero, zuc, rabbit, snow128, snow256, kcipher2, mugi}
use Rattle.ciphers.specs.Fit.{Fit}
use Rattle.ciphers.specs.Kept.{key_words, rabbit_kept, kept_of, start_of, keeps_ok}
use Rattle.ciphers.proofs.Rows.{every-row, key_fits}
use Rattle.ciphers.proofs.States.{all_take, rabbit-back, rabbit-fit, rabbit-range}
use Rattle.ciphers.proofs.Sound.{sound}

-- what a loaded line keeps
pub record Keeps (c : ℕ) (w : List ℕ) : Type 0 where
  pub full : length w ≡ state_words
  pub words : All Word w
  pub kept : keeps_ok c w ≡ true

-- ---- words and the bytes that they spell

-- a word past the first four bytes
word-past : (a b c d : ℕ) (s : List ℕ) (i : ℕ) → word_at (a ∷ b ∷ c ∷ d ∷ s) (4 * suc i) ≡ word_at s (4 * i)
unfolding word_at
word-past a b c d s i =
    λ k. word (at (4 * suc i) (4 * i) (omega arith) k) (at (4 * suc i + 1) (4 * i + 1) (omega arith) k) (at (4 * suc i + 2) (4 * i + 2) (omega arith) k) (at (4 * suc i + 3) (4 * i + 3) (omega arith) k)
  where
    at : (n m : ℕ) → n ≡ suc (suc (suc (suc m))) → get_or (a ∷ b ∷ c ∷ d ∷ s) n 0 ≡ get_or s m 0
    at n m e = ap (λ (x : ℕ). get_or (a ∷ b ∷ c ∷ d ∷ s) x 0) e

-- whole words spell their bytes again
spelt_back : (m : ℕ) (s : List ℕ) → All Byte s → length s ≡ 4 * m → spelt (tab m (λ i. word_at s (4 * i))) ≡ s
unfolding word_at
spelt_back zero [] h e = refl
spelt_back zero (a ∷ s) h e = absurd (omega (arith, e))
spelt_back (suc m) [] h e = absurd (omega (arith, e))
spelt_back (suc m) (a ∷ []) h e = absurd (omega (arith, e))
spelt_back (suc m) (a ∷ b ∷ []) h e = absurd (omega (arith, e))
spelt_back (suc m) (a ∷ b ∷ c ∷ []) h e = absurd (omega (arith, e))
spelt_back (suc m) (a ∷ b ∷ c ∷ d ∷ s) (more ha (more hb (more hc (more hd h)))) e =
    ap₂ ◌++◌ (word-told a b c d ha hb hc hd)
    (ap spelt (tab-agree m (λ i. word_at (a ∷ b ∷ c ∷ d ∷ s) (4 * suc i)) (λ i. word_at s (4 * i)) (λ i _. word-past a b c d s i)) ∙ spelt_back m s h (omega (arith, e)))

-- the bytes of the first words
pub spelt-take : (m : ℕ) (w : List ℕ) → take (4 * m) (spelt w) ≡ spelt (take m w)
unfolding bytes_of
spelt-take zero w = refl
spelt-take (suc m) [] = take-nil (4 * suc m)
spelt-take (suc m) (x ∷ w) =
    let e : 4 * suc m ≡ suc (suc (suc (suc (4 * m)))) = omega arith in
    ap (λ (k : ℕ). take k (spelt (x ∷ w))) e ∙ ap (λ (l : List ℕ). bytes_of x ++ l) (spelt-take m w)

spelt-bytes : (w : List ℕ) → All Byte (spelt w)
spelt-bytes [] = none
spelt-bytes (x ∷ w) = all_append (bytes_of-bytes x) (spelt-bytes w)

-- zeros spell zeros
spelt-zero : (w : List ℕ) → all_zero w ≡ true → all_zero (spelt w) ≡ true
unfolding bytes_of
spelt-zero [] h = refl
spelt-zero (x ∷ w) h =
    let e = eqb-true x 0 (both_left (eqb x 0) (all_zero w) h) in
    ap (λ (y : ℕ). all_zero (bytes_of y ++ spelt w)) e ∙ spelt-zero w (both_right (eqb x 0) (all_zero w) h)

-- ---- tables

take-tab : (k n : ℕ) (f : ℕ → ℕ) → k ≤ n → take k (tab n f) ≡ tab k f
take-tab zero n f h = refl
take-tab (suc k) zero f h = absurd (omega (arith, h))
take-tab (suc k) (suc n) f h = cons refl (take-tab k n (λ i. f (suc i)) (omega (arith, h)))

drop-tab : (k n : ℕ) (f : ℕ → ℕ) → ((i : ℕ) → k ≤ i → f i ≡ 0) → all_zero (drop k (tab n f)) ≡ true
drop-tab zero zero f h = refl
drop-tab zero (suc n) f h = both_true (ap (λ (x : ℕ). eqb x 0) (h zero (omega arith))) (drop-tab zero n (λ i. f (suc i)) (λ i q. h (suc i) (omega arith)))
drop-tab (suc k) zero f h = refl
drop-tab (suc k) (suc n) f h = drop-tab k n (λ i. f (suc i)) (λ i q. h (suc i) (omega (arith, q)))

-- ---- a key of m words

module _ (key : List ℕ) (h : All Byte key) (m : ℕ) (e : length key ≡ 4 * m) (fits : m ≤ state_words) where
  -- a word beyond it
  pub beyond : (i : ℕ) → m ≤ i → word_at key (4 * i) ≡ 0
  unfolding word_at
  beyond i q = λ k. word (at (4 * i) (omega arith) k) (at (4 * i + 1) (omega arith) k) (at (4 * i + 2) (omega arith) k) (at (4 * i + 3) (omega arith) k)
    where
      at : (j : ℕ) → 4 * i ≤ j → get_or key j 0 ≡ 0
      at j p = get_or-eq_default key 0 (omega (arith, e, q, p))

  rest-zero : all_zero (drop m (key_words key)) ≡ true
  rest-zero = drop-tab m state_words (λ i. word_at key (4 * i)) beyond

  words_back : spelt (take m (key_words key)) ≡ key
  words_back = ap spelt (take-tab m state_words (λ i. word_at key (4 * i)) fits) ∙ spelt_back m key h e

  key_back : take (4 * m) (spelt (key_words key)) ≡ key
  key_back = spelt-take m (key_words key) ∙ words_back

  -- they are not all zero where the key is not
  words-zero : all_zero key ≡ false → all_zero (take m (key_words key)) ≡ false
  words-zero z = go (all_zero (take m (key_words key))) refl
    where
      go : (b : Bool) → all_zero (take m (key_words key)) ≡ b → b ≡ false
      go true q = sym (spelt-zero (take m (key_words key)) q) ∙ ap all_zero words_back ∙ z
      go false q = refl

-- ---- every number's key

words-in : (c : ℕ) → (cipher_at c).key ≡ 4 * ((cipher_at c).key / 4)
unfolding zuc rabbit snow128 snow256 kcipher2 mugi
words-in = every-row (λ r. r.key ≡ 4 * (r.key / 4)) refl refl refl refl refl refl

words-fit : (c : ℕ) → (cipher_at c).key / 4 ≤ state_words
words-fit c = omega (arith, key_fits c)

rabbit-is : (c : ℕ) → eqb c 2 ≡ true → cipher_at c ≡ rabbit
unfolding cipher_at
rabbit-is c q = ap cipher_at (eqb-true c 2 q)

-- what is kept, asked and started, by whether the cipher is Rabbit
abbrev kept_by : Bool → List ℕ → List ℕ
kept_by b key = pick b (rabbit_kept key) (key_words key)

abbrev asks_by : Bool → CipherRow → List ℕ → Bool
asks_by b r kept = pick b (r.admits kept) (both (all_zero (drop (r.key / 4) kept)) (not (all_zero (take (r.key / 4) kept))))

abbrev start_by : Bool → CipherRow → (kept iv : List ℕ) → List ℕ
start_by b r kept iv = pick b (rabbit_words (R.started (rabbit_state kept) iv)) (r.init (take r.key (spelt kept)) iv)

rabbit-start-load : (key iv : List ℕ) → All Byte key → rabbit_words (R.started (rabbit_state (rabbit_kept key)) iv) ≡ rabbit.init key iv
unfolding rabbit R.init
rabbit-start-load key iv h =
    let r = master-range key h in
    ap (λ (s : _). rabbit_words (R.started s iv)) (rabbit-back (R.master key) r.eight-x r.eight-c)

pub start-load : (c : ℕ) (key iv : List ℕ) → All Byte key → length key ≡ (cipher_at c).key → start_of c (kept_of c key) iv ≡ (cipher_at c).init key iv
unfolding start_of kept_of
start-load c key iv h e = go (eqb c 2) refl
  where
    go : (b : Bool) → eqb c 2 ≡ b → start_by b (cipher_at c) (kept_by b key) iv ≡ (cipher_at c).init key iv
    go true q = rabbit-start-load key iv h ∙ ap (λ (r : CipherRow). r.init key iv) (sym (rabbit-is c q))
    go false q =
        ap (λ (x : List ℕ). (cipher_at c).init x iv) (ap (λ (k : ℕ). take k (spelt (key_words key))) (words-in c) ∙ key_back key h ((cipher_at c).key / 4) (e ∙ words-in c) (words-fit c))

pub load-keeps : (c : ℕ) (key : List ℕ) → All Byte key → length key ≡ (cipher_at c).key → all_zero key ≡ false → Keeps c (kept_of c key)
unfolding kept_of keeps_ok
load-keeps c key h e z = go (eqb c 2) refl
  where
    go : (b : Bool) → eqb c 2 ≡ b → Keeps c (kept_by b key)
    go true q =
        let w = rabbit_words (R.master key) in
        let f = rabbit-fit (R.master key) (master-range key h) in
        record {
          full = f.full;
          words = f.words;
          kept = ap (λ (b : Bool). asks_by b (cipher_at c) w) q ∙ ap (λ (r : CipherRow). r.admits w) (rabbit-is c q) ∙ f.admitted;
        }
    go false q =
        let m = (cipher_at c).key / 4 in
        let n = e ∙ words-in c in
        record {
          full = tab-length state_words (λ i. word_at key (4 * i));
          words = all-tab state_words (λ i. word_at key (4 * i)) (λ i _. word_at-word h (4 * i));
          kept = ap (λ (b : Bool). asks_by b (cipher_at c) (key_words key)) q ∙ both_true (rest-zero key h m n (words-fit c)) (ap not (words-zero key h m n (words-fit c) z));
        }

pub start-fit : (c : ℕ) (kept iv : List ℕ) → Keeps c kept → All Byte iv → Fit (cipher_at c) (start_of c kept iv)
unfolding start_of keeps_ok
start-fit c kept iv k h = go (eqb c 2) refl k.kept
  where
    go : (b : Bool) → eqb c 2 ≡ b → asks_by b (cipher_at c) kept ≡ true → Fit (cipher_at c) (start_by b (cipher_at c) kept iv)
    go true q ok =
        let e = rabbit-is c q in
        let f : Fit rabbit kept = record { full = k.full; words = k.words; admitted = sym (ap (λ (r : CipherRow). r.admits kept) e) ∙ ok } in
        subst (λ (r : CipherRow). Fit r (rabbit_words (R.started (rabbit_state kept) iv))) (sym e) (rabbit-fit (R.started (rabbit_state kept) iv) (started-range (rabbit_state kept) iv (rabbit-range kept f) h))
    go false q ok = (sound c).init-fit (take (cipher_at c).key (spelt kept)) iv (all_take (cipher_at c).key (spelt-bytes kept)) h
