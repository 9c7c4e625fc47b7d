-- A sample of all members: where it stands in the buffer, what the total is at most, and that a member's own sample is there until its place is written.
-- Assumes nothing.
use mathlib.Core.Path.{◌≡◌, refl, ap, ap₂, sym, subst, ◌∙◌}
use mathlib.Core.List.{List}
use Prim.Native.Nat.{ℕ, zero, suc, ◌+◌, ◌-◌, ◌*◌, ◌/◌, ◌%◌, ◌^◌, ◌<◌, ◌≤◌, min}
use native.Mathlib.Decide.{dec_lt}
use native.Mathlib.Nat.{mul-le-mul_right, not-suc-le-zero}
use native.Mathlib.Omega.{arith}
use lib.ListN.{length, get_or, set, length-set}
use lib.Seq.{get_or-set_other}
use Rattle.card_mix.specs.Columns.{raised_at, clamped_sum, stored, total_at, shared_out, column_of, columns_of}

-- ---- where a sample stands

-- one part more
pub part-more : (k n : ℕ) → (k + 1) * n ≡ k * n + n
part-more k n = omega arith

pub in-part : (k m n at : ℕ) → k < m → at + 2 ≤ n → k * n + at + 2 ≤ m * n
in-part k m n at h q =
    let z : (k + 1) * n ≤ m * n = mul-le-mul_right n (let e : k + 1 ≤ m = omega arith in e) in
    omega (arith, z, part-more k n)

-- ---- clamped

pub clamp-is : (s c : ℕ) {x y : ℕ} → x ≡ s + 32768 - 32768 * c → y ≡ min x 65535 → (y + 32768) % 65536 ≡ clamped_sum s c
unfolding clamped_sum
clamp-is s c {x} {y} e f =
    let k : min x 65535 ≡ min 65535 x = omega arith in
    ap (λ (z : ℕ). (z + 2 ^ 15) % 2 ^ 16) (f ∙ k ∙ ap (min (2 ^ 16 - 1)) e)

-- ---- the total

pub raised-low : (l : List ℕ) (i : ℕ) → raised_at l i ≤ 65535
unfolding raised_at
raised-low l i = omega arith

pub total-low : (k n at : ℕ) (l : List ℕ) → total_at k n at l ≤ 65535 * k
total-low zero n at l = omega arith
total-low (suc k) n at l = let h = total-low k n at l in let r = raised-low l (k * n + at) in omega (arith, h, r)

pub own-within : (m n at : ℕ) (l : List ℕ) (k : ℕ) → k < m → raised_at l (k * n + at) ≤ total_at m n at l
own-within zero n at l k h = absurd (not-suc-le-zero h)
own-within (suc m) n at l k h = by (λ q. own-within m n at l k q) (dec_lt k m)
  where
    by : (k < m → raised_at l (k * n + at) ≤ total_at m n at l) → Dec (k < m) → raised_at l (k * n + at) ≤ total_at m n at l + raised_at l (m * n + at)
    by f (yes q) = let z = f q in omega (arith, z)
    by f (no q) =
        let e : k ≡ m = omega arith in
        subst (λ (x : ℕ). raised_at l (x * n + at) ≤ total_at m n at l + raised_at l (m * n + at)) (sym e) (omega arith)

-- ---- places that are written

pub stored-length : (l : List ℕ) (i x : ℕ) → length (stored l i x) ≡ length l
unfolding stored
stored-length l i x = length-set (set l i (x / 256)) (i + 1) (x % 256) ∙ length-set l i (x / 256)

pub shared-length : (k n at t o : ℕ) (l : List ℕ) → length (shared_out k n at t o l) ≡ length l
shared-length zero n at t o l = refl
shared-length (suc k) n at t o l = stored-length (shared_out k n at t o l) (k * n + at) _ ∙ shared-length k n at t o l

stored_other : (l : List ℕ) (i x j : ℕ) → i + 2 ≤ j → get_or (stored l i x) j 0 ≡ get_or l j 0
unfolding stored
stored_other l i x j h =
    get_or-set_other (set l i (x / 256)) (i + 1) j (x % 256) 0 (λ e. omega (arith, e)) ∙ get_or-set_other l i j (x / 256) 0 (λ e. omega (arith, e))

raised-other : (l : List ℕ) (i x j : ℕ) → i + 2 ≤ j → raised_at (stored l i x) j ≡ raised_at l j
unfolding raised_at
raised-other l i x j h =
    ap₂ (λ (a b : ℕ). (a * 256 + b + 2 ^ 15) % 2 ^ 16) (stored_other l i x j h) (stored_other l i x (j + 1) (omega arith))

-- a member's own sample, while the places before it are written
pub own-kept : (k n at t o : ℕ) (l : List ℕ) (i : ℕ) → at + 2 ≤ n → k ≤ i → raised_at (shared_out k n at t o l) (i * n + at) ≡ raised_at l (i * n + at)
own-kept zero n at t o l i q h = refl
own-kept (suc k) n at t o l i q h =
    let z = in-part k i n at h q in
    raised-other (shared_out k n at t o l) (k * n + at) _ (i * n + at) (omega (arith, z)) ∙ own-kept k n at t o l i q (omega arith)

-- ---- column by column

pub column-is : (m n at : ℕ) (l s' : List ℕ) {t : ℕ} → t ≡ total_at m n at l → s' ≡ shared_out m n at t (m - 1) l → s' ≡ column_of m n at l
unfolding column_of
column-is m n at l s' e h = h ∙ ap (λ (x : ℕ). shared_out m n at x (m - 1) l) e

pub column-length : (m n at : ℕ) (l : List ℕ) → length (column_of m n at l) ≡ length l
unfolding column_of
column-length m n at l = shared-length m n at (total_at m n at l) (m - 1) l

pub columns-length : (j m n : ℕ) (l : List ℕ) → length (columns_of j m n l) ≡ length l
columns-length zero m n l = refl
columns-length (suc j) m n l = column-length m n (2 * j) (columns_of j m n l) ∙ columns-length j m n l
