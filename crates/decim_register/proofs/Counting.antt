-- Sums of bits, one for each place of a word, counted modulo 4 by exclusive ors and ands: what LF gives in 32 turns is the two digits of such sums together.
-- Assumes nothing.
use mathlib.Core.Path.{◌≡◌, refl, ap, sym, subst, ◌∙◌}
use mathlib.Core.List.{List, [], ◌∷◌, map}
use Prim.Native.Nat.{ℕ, zero, suc, ◌+◌, ◌/◌, ◌%◌, ◌<◌}
use native.Mathlib.Nat.{mod-lt, add-zero, zero-add, add_comm, add_assoc}
use native.Mathlib.Omega.{arith}
use lib.Bits.{bit_xor, bit_and, and_zero_r, xor_zero_r, xor_comm}
use lib.Dec.{lit<}
use lib.ListN.{length}
use Rattle.words.specs.Word.{◌⊕◌}
use Rattle.words.specs.Lists.{iter}
use Rattle.words.proofs.Registers.{cons}
use Rattle.decim_register.specs.declared.Sum.{Sum}
use Rattle.decim_register.specs.Register.{◌!◌, joined_down, lf, f_of, clocked}
use Rattle.decim_register.specs.Wide.{window, lf_word, f_word, on, added, counted, lf_taps}
use Rattle.decim_register.proofs.Weights.{Bit, total, up, lf-note, lf-bit}
use Rattle.decim_register.proofs.Windows.{Joins, joins-xor, joins-and, joins-window, joins-agree, turned}

-- ---- a bit more

low-more : (n w : ℕ) → Bit w → (n + w) % 2 ≡ n % 2 ⊕ w
low-more n zero h = ap (λ (x : ℕ). x % 2) (add-zero n) ∙ sym (xor_zero_r (n % 2))
low-more n (suc zero) h = by (n % 2) (mod-lt n (lit< tt)) refl
  where
    by : (p : ℕ) → p < 2 → n % 2 ≡ p → (n + 1) % 2 ≡ p ⊕ 1
    by zero q e = omega arith
    by (suc zero) q e = omega arith
    by (suc (suc p)) q e = absurd (omega arith)
low-more n (suc (suc w)) h = absurd (omega arith)

and_one : (p : ℕ) → Bit p → bit_and p 1 ≡ p
and_one zero h = refl
and_one (suc zero) h = refl
and_one (suc (suc p)) h = absurd (omega arith)

high-more : (n w : ℕ) → Bit w → (n + w) / 2 % 2 ≡ n / 2 % 2 ⊕ bit_and (n % 2) w
high-more n zero h =
    ap (λ (x : ℕ). x / 2 % 2) (add-zero n) ∙ sym (xor_zero_r (n / 2 % 2)) ∙ ap (bit_xor (n / 2 % 2)) (sym (and_zero_r (n % 2)))
high-more n (suc zero) h =
    ap (λ (x : ℕ). x / 2 % 2) (add_comm n 1)
    ∙ up n
    ∙ xor_comm (n % 2) (n / 2 % 2)
    ∙ ap (bit_xor (n / 2 % 2)) (sym (and_one (n % 2) (mod-lt n (lit< tt))))
high-more n (suc (suc w)) h = absurd (omega arith)

-- ---- words of sums

pub record Counts (p : ℕ → ℕ) (s : Sum) : Type 0 where
  pub low-is : Joins (λ k. p k % 2) s.low
  pub high_is : Joins (λ k. p k / 2 % 2) s.high

joins-with : {p q : ℕ → ℕ} {P : ℕ} → ((k : ℕ) → q k ≡ p k) → Joins p P → Joins q P
joins-with {p} {q} e x = record { bits = λ k. subst Bit (sym (e k)) (x.bits k); is = joins-agree (λ k h. e k) x }

counts_with : {p q : ℕ → ℕ} {s : Sum} → ((k : ℕ) → q k ≡ p k) → Counts p s → Counts q s
counts_with e x =
    record {
      low-is = joins-with (λ k. ap (λ (n : ℕ). n % 2) (e k)) x.low-is;
      high_is = joins-with (λ k. ap (λ (n : ℕ). n / 2 % 2) (e k)) x.high_is;
    }

counts-added : {p w : ℕ → ℕ} {s : Sum} {W : ℕ} → Counts p s → Joins w W → Counts (λ k. p k + w k) (added s W)
unfolding added
counts-added {p} {w} x j =
    record {
      low-is = joins-with (λ k. low-more (p k) (w k) (j.bits k)) (joins-xor x.low-is j);
      high_is = joins-with (λ k. high-more (p k) (w k) (j.bits k)) (joins-xor x.high_is (joins-and x.low-is j));
    }

counts_all : (v : List ℕ) (taps : List ℕ) {p : ℕ → ℕ} {s : Sum} → Counts p s
    → Counts (λ k. p k + total (map (λ t. v ! (t + k)) taps)) (counted s (map (window v) taps))
unfolding counted total
counts_all v [] x = counts_with (λ k. add-zero _) x
counts_all v (t ∷ taps) {p} x =
    counts_with (λ k. sym (add_assoc (p k) (v ! (t + k)) (total (map (λ i. v ! (i + k)) taps)))) (counts_all v taps (counts-added x (joins-window v t)))

abbrev pub no_sum : Sum
no_sum = record { low = 0; high = 0 }

counts-none : Counts (λ k. 0) no_sum
unfolding joined_down
counts-none = record { low-is = record { bits = λ k. lit< tt; is = refl }; high_is = record { bits = λ k. lit< tt; is = refl } }

-- ---- LF and fk

-- LF of a register, from the two digits of its sum
lf-digits : (w : List ℕ) → let n = total (map (λ t. w ! t) lf_taps) in lf w ≡ n % 2 ⊕ (n / 2 % 2)
lf-digits w = lf-note w ∙ up (total (map (λ t. w ! t) lf_taps))

-- the taps of a register after k turns
tapped : (a : List ℕ) → length a ≡ 6 → (k : ℕ) → k < 32 → map (λ t. iter k clocked a ! t) lf_taps ≡ map (λ t. on a ! (t + k)) lf_taps
tapped a six k h =
    c 13 (lit< tt) (c 28 (lit< tt) (c 45 (lit< tt) (c 54 (lit< tt) (c 65 (lit< tt) (c 104 (lit< tt) (c 111 (lit< tt) (c 144 (lit< tt) (c 162 (lit< tt)
    (c 172 (lit< tt) (c 178 (lit< tt) (c 186 (lit< tt) (c 191 (lit< tt) refl))))))))))))
  where
    c : (j : ℕ) → j < 192 → {l m : List ℕ} → l ≡ m → iter k clocked a ! j ∷ l ≡ on a ! (j + k) ∷ m
    c j q e = cons (turned a six k (omega arith) j q) e

pub lf-windows : (a : List ℕ) → length a ≡ 6 → let s = counted no_sum (map (window (on a)) lf_taps) in lf_word a ≡ s.low ⊕ s.high
unfolding lf_word
lf-windows a six =
    let n : ℕ → ℕ = λ k. total (map (λ t. on a ! (t + k)) lf_taps) in
    let x = counts_all (on a) lf_taps counts-none in
    joins-agree
    (λ k h.
    lf-digits (iter k clocked a)
    ∙ ap (λ (l : List ℕ). let m = total l in m % 2 ⊕ (m / 2 % 2)) (tapped a six k h)
    ∙ ap (λ (m : ℕ). m % 2 ⊕ (m / 2 % 2)) (sym (zero-add (n k))))
    (joins-xor x.low-is x.high_is)

-- LF in each of 32 turns, as bits that are joined
pub joins-lf : (a : List ℕ) → Joins (λ k. lf (iter k clocked a)) (lf_word a)
unfolding lf_word
joins-lf a = record { bits = λ k. lf-bit (iter k clocked a); is = refl }

pub f-windows : (a : List ℕ) → length a ≡ 6 → f_word a ≡ window (on a) 1 ⊕ lf_word a
unfolding f_word f_of
f-windows a six =
    joins-agree (λ k h. ap (λ (x : ℕ). x ⊕ lf (iter k clocked a)) (turned a six k (omega arith) 1 (lit< tt))) (joins-xor (joins-window (on a) 1) (joins-lf a))
