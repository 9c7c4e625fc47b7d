-- The library's rotation to the left is that of the standard: what a word has on top comes in below, and the two parts share no bit, so they may be added.
-- Assumes nothing.
use Rattle.std.proofs.Common.{◌≡◌, ℕ, ◌+◌, ◌-◌, ◌*◌, ◌/◌, ◌%◌, ◌^◌, ◌<◌, ◌≤◌, sym, ap, subst, ◌∙◌, arith, add-zero, pow_pos}
use Rattle.std.specs.Int.{w32, rotate_left}
use Rattle.std.specs.Int.Bits.{bit_or}
use Rattle.std.proofs.lemmas.Nat.{mod-pow-add, mod_low, or_shifted, shl-shr, shr_below}
use native.Mathlib.Nat.{mod-eq_of_lt}
use Rattle.words.specs.Word.{rotl}
use Rattle.words.specs.Lists.{Word}

-- a number of w bits, moved up by k, and what it has on top
pub apart : (w k n : ℕ) → k ≤ w → n < 2 ^ w → bit_or (n * 2 ^ k % 2 ^ w) (n / 2 ^ (w - k)) ≡ n * 2 ^ k % 2 ^ w + n / 2 ^ (w - k)
apart w k n le fits =
    let j : ℕ = w - k in
    let e : w ≡ j + k = omega arith in
    let f : w ≡ k + j = omega arith in
    let clear : n * 2 ^ k % 2 ^ k ≡ 0 = ap (λ (x : ℕ). x % 2 ^ k) (sym (add-zero _)) ∙ mod_low n k 0 (pow_pos k) in
    let up : n * 2 ^ k % 2 ^ w ≡ n % 2 ^ j * 2 ^ k =
    ap (λ (i : ℕ). n * 2 ^ k % 2 ^ i) e ∙ mod-pow-add (n * 2 ^ k) j k ∙ rw (shl-shr n k, clear) (add-zero _) in
    let down : n / 2 ^ j < 2 ^ k = shr_below n k j (subst (λ (i : ℕ). n < 2 ^ i) f fits) in
    rw up (or_shifted (n % 2 ^ j) k (n / 2 ^ j) down)

-- n.rotate_left(k), for k from 1 to 31
pub rotated : (k n : ℕ) → 0 < k → k < 32 → Word n → rotate_left w32 n k ≡ rotl k n
rotated k n p q fits =
    let by : k % 32 ≡ k = mod-eq_of_lt q in
    let rest : (32 - k) % 32 ≡ 32 - k = mod-eq_of_lt (omega arith) in
    rw (by, rest) (apart 32 k n (omega arith) fits)
