-- The bits of a byte, one by one, the first lowest; and where eight bits of the buffer are ready, they are the byte: a bit that is taken moves them up by one, and
-- what is fed goes behind them.
-- Assumes nothing.
use mathlib.Core.Path.{◌≡◌, refl, ap, ap₂, sym, ◌∙◌}
use mathlib.Core.Bool.{Bool, true, false}
use Prim.Native.Nat.{ℕ, zero, suc, ◌+◌, ◌*◌, ◌%◌, ◌-◌, ◌^◌, ◌<◌, ◌≤◌}
use native.Mathlib.Nat.{mod-lt, add-zero, pow-suc, mul-le-mul_right, le_of_suc-le-suc, lt_of_lt_of_le}
use native.Mathlib.Numerals.{add-one}
use native.Mathlib.Omega.{arith}
use lib.Dec.{eqb, ltb, lit<}
use lib.Pow.{pow_mono, shl_exact}
use borrow.Author.Tests.{lt-ltb, ne_eqb}
use Rattle.words.specs.Word.{◌⊕◌}
use Rattle.words.specs.Lists.{iter}
use Rattle.words.specs.Tests.{pick, both}
use Rattle.decim_tables.specs.Absg.{t0, t2, absg}
use Rattle.decim_register.specs.Register.{bit_in, f_of, clocked}
use Rattle.decim_register.proofs.Weights.{Bit, either, xor-bit, f-bit}
use Rattle.decim_register.proofs.Windows.{joined-bit}
use Rattle.decim_buffer.specs.declared.Buffer.{Buffer}
use Rattle.decim_buffer.specs.Buffers.{set_bit, buffered, fed, fed_by, drawn_bits, drawn}
use Rattle.decim.specs.declared.Decim.{Decim}
use Rattle.decim.specs.Cipher.{four, next_bit, strm_bit, joined_up, strm}

pub digit : (b j : ℕ) → Bit (bit_in b j)
digit b j = mod-lt _ (lit< tt)

-- ---- bits joined, the first lowest

pub up-below : (n : ℕ) (f : ℕ → ℕ) → ((k : ℕ) → Bit (f k)) → joined_up n f < 2 ^ n
unfolding joined_up
up-below zero f b = lit< tt
up-below (suc n) f b =
    let h = up-below n f b in
    let q : f n * 2 ^ n ≤ 1 * 2 ^ n = mul-le-mul_right (2 ^ n) (le_of_suc-le-suc (b n)) in
    rw (pow-suc 2 n) (omega arith)

up_more : (n : ℕ) (f : ℕ → ℕ) → joined_up (n + 1) f ≡ joined_up n f + f n * 2 ^ n
unfolding joined_up
up_more n f = rw add-one

pub up-agree : (n : ℕ) (f g : ℕ → ℕ) → ((k : ℕ) → k < n → f k ≡ g k) → joined_up n f ≡ joined_up n g
unfolding joined_up
up-agree zero f g e = refl
up-agree (suc n) f g e = ap₂ (λ (x y : ℕ). x + y * 2 ^ n) (up-agree n f g (λ k q. e k (omega arith))) (e n (omega arith))

-- the shift of a bit into the byte loses nothing, and the sum fits
module _ (f : ℕ → ℕ) (bits : (k : ℕ) → Bit (f k)) (n : ℕ) {z x : ℕ} (few : n < 8) (so_far : z ≡ joined_up n f) (is : x ≡ f n) where
  shifted-exact : x * 2 ^ n % 2 ^ 32 ≡ f n * 2 ^ n
  shifted-exact = ap (λ (y : ℕ). y * 2 ^ n % 2 ^ 32) is ∙ shl_exact 1 n 32 (bits n) (omega arith)

  pub up_turn : z + x * 2 ^ n % 2 ^ 32 ≡ joined_up (n + 1) f
  up_turn = ap₂ (λ (p q : ℕ). p + q) so_far shifted-exact ∙ sym (up_more n f)

  pub up_fits : z + x * 2 ^ n % 2 ^ 32 < 2 ^ 32
  up_fits = rw up_turn (lt_of_lt_of_le (up-below (n + 1) f bits) (pow_mono {j = 32} (omega arith)))

-- the byte of a state
pub strm-bit : (s : Decim) (k : ℕ) → Bit (strm_bit (iter k next_bit s))
strm-bit s k = digit (iter k next_bit s).buffer.b 0

pub strm-byte : (s : Decim) → strm s < 2 ^ 8
unfolding strm
strm-byte s = up-below 8 (λ k. strm_bit (iter k next_bit s)) (strm-bit s)

-- ---- bits that are ready

-- the first m bits of h are those of b from bit j on
record Ready (b j m : ℕ) (h : Buffer) : Type 0 where
  same : (i : ℕ) → i < m → bit_in h.b i ≡ bit_in b (i + j)
  filled : m ≤ h.fill

module _ {b j m : ℕ} (few : m ≤ 8) where
  put-ready : (t x i c : ℕ) (o : Bool) → Bit c → Ready b j m (record { t = t; b = x; fill = i }) → Ready b j m (buffered t x i o c)
  unfolding buffered set_bit
  put-ready t x i c o hc r = by o (ltb i 32)
    where
      by : (o e : Bool) → Ready b j m (pick (both o e) (record { t = t; b = set_bit x i c; fill = i + 1 }) (record { t = t; b = x; fill = i }))
      by true true =
          record {
            same = λ k h.
                let n : m ≤ i = r.filled in
                joined-bit (λ p. pick (eqb p i) c (bit_in x p)) (λ p. either (eqb p i) c (bit_in x p) hc (digit x p)) k (omega arith)
                ∙ ap (λ (y : Bool). pick y c (bit_in x k)) (ne_eqb k i (λ e. absurd (omega arith)))
                ∙ r.same k h;
            filled = let n : m ≤ i = r.filled in omega arith;
          }
      by true false = r
      by false e = r

  with-t : {h : Buffer} (t : ℕ) → Ready b j m h → Ready b j m (record { t = t; b = h.b; fill = h.fill })
  with-t t r = record { same = r.same; filled = r.filled }

  fed-ready : (empty : Bool) (h : Buffer) (f : ℕ) → Bit f → Ready b j m h → Ready b j m (fed empty h f)
  unfolding fed
  fed-ready true h f k r = put-ready h.t h.b h.fill f true k r
  fed-ready false h f k r =
      put-ready (absg h.t f) h.b h.fill (f ⊕ t2 h.t) (eqb (t0 (absg h.t f)) 0) (xor-bit k (mod-lt h.t (lit< tt))) (with-t (absg h.t f) r)

  fed_by-ready : (empty : Bool) (f : ℕ → ℕ) (h : Buffer) (n : ℕ) → ((k : ℕ) → Bit (f k)) → Ready b j m h → Ready b j m (fed_by empty f h n)
  unfolding fed_by
  fed_by-ready empty f h zero k r = r
  fed_by-ready empty f h (suc n) k r = fed-ready empty (fed_by empty f h n) (f n) (k n) (fed_by-ready empty f h n k r)

drawn-ready : {b j m : ℕ} (h : Buffer) → m < 8 → Ready b j (suc m) h → Ready b (j + 1) m (drawn h)
unfolding drawn drawn_bits
drawn-ready {b} {j} {m} h few r =
    let n : suc m ≤ h.fill = r.filled in
    record {
      same = λ i q.
          let e : i + 1 + j ≡ i + (j + 1) = omega arith in
          joined-bit (λ p. pick (ltb p (h.fill - 1)) (bit_in h.b (p + 1)) (bit_in h.b p))
          (λ p. either (ltb p (h.fill - 1)) (bit_in h.b (p + 1)) (bit_in h.b p) (digit h.b (p + 1)) (digit h.b p)) i (omega arith)
          ∙ ap (λ (y : Bool). pick y (bit_in h.b (i + 1)) (bit_in h.b i)) (lt-ltb i (h.fill - 1) (omega arith))
          ∙ r.same (i + 1) (omega arith)
          ∙ ap (bit_in b) e;
      filled = omega arith;
    }

-- after k bits, the next of those that were ready is the first
still-ready : (s : Decim) → 8 ≤ s.buffer.fill → (k m : ℕ) → k + m ≡ 8 → Ready s.buffer.b k m (iter k next_bit s).buffer
unfolding iter next_bit four
still-ready s h zero m e =
    record { same = λ i q. ap (bit_in s.buffer.b) (sym (add-zero i)); filled = omega arith }
still-ready s h (suc k) m e =
    let before = still-ready s h k (suc m) (omega arith) in
    let x = iter k next_bit s in
    let r = drawn-ready x.buffer (omega arith) before in
    let z : k + 1 ≡ suc k = add-one k in
    fed_by-ready (omega arith) (eqb (drawn x.buffer).fill 0) (λ i. f_of (iter i clocked x.a)) (drawn x.buffer) 4 (λ i. f-bit (iter i clocked x.a))
    (renumbered z r)
  where
    renumbered : {b j j' m : ℕ} {h : Buffer} → j ≡ j' → Ready b j m h → Ready b j' m h
    renumbered {b} p r = record { same = λ i q. r.same i q ∙ ap (λ (n : ℕ). bit_in b (i + n)) p; filled = r.filled }

pub ready-byte : (s : Decim) → 8 ≤ s.buffer.fill → joined_up 8 (bit_in s.buffer.b) ≡ strm s
unfolding strm
ready-byte s h =
    up-agree 8 (bit_in s.buffer.b) (λ k. strm_bit (iter k next_bit s))
    (λ k q. sym ((still-ready s h k (8 - k) (omega arith)).same 0 (omega arith) ∙ ap (bit_in s.buffer.b) (omega arith)))
