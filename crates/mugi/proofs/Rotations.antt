-- The library's rotations of a block are those of the clause: what a block has on one end comes in at the other, and the two parts share no bit.
-- Assumes nothing.
use Rattle.std.proofs.Common.{◌≡◌, ℕ, ◌-◌, ◌*◌, ◌/◌, ◌%◌, ◌^◌, ◌<◌, ap, ◌∙◌, arith}
use Rattle.std.specs.Int.{w64, rotate_left, rotate_right}
use Rattle.std.specs.Int.Bits.{bit_or}
use Rattle.std.proofs.lemmas.Nat.{or_comm}
use native.Mathlib.Nat.{mod-eq_of_lt}
use Rattle.words.proofs.Rotations.{apart}
use Rattle.mugi.specs.Cipher.{rotl64, rotr64}

-- n.rotate_left(k), for k from 1 to 63
pub rotated : (k n : ℕ) → 0 < k → k < 64 → n < 2 ^ 64 → rotate_left w64 n k ≡ rotl64 k n
rotated k n p q fits =
    let by : k % 64 ≡ k = mod-eq_of_lt q in
    let rest : (64 - k) % 64 ≡ 64 - k = mod-eq_of_lt (omega arith) in
    rw (by, rest) (apart 64 k n (omega arith) fits)

-- n.rotate_right(k) is a rotation to the left by 64 - k
pub rotated_right : (k n : ℕ) → 0 < k → k < 64 → n < 2 ^ 64 → rotate_right w64 n k ≡ rotr64 k n
rotated_right k n p q fits =
    let by : k % 64 ≡ k = mod-eq_of_lt q in
    let rest : (64 - k) % 64 ≡ 64 - k = mod-eq_of_lt (omega arith) in
    let back : 64 - (64 - k) ≡ k = omega arith in
    rw (by, rest) (or_comm (n / 2 ^ k) (n * 2 ^ (64 - k) % 2 ^ 64) ∙ ap (λ (j : ℕ). bit_or (n * 2 ^ (64 - k) % 2 ^ 64) (n / 2 ^ j)) (rw back) ∙ apart 64 (64 - k) n (omega arith) fits)
