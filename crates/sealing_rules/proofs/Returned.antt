-- An accepted sealing, opened with the same cipher, key, IV and redundancy and room for it, returns the message: its bytes are blocks again, the
-- multiplier is the same, and MULTI-S01 on blocks gives back what it was given.
-- Assumes nothing.
use mathlib.Core.Path.{◌≡◌, ap, sym, subst, ◌∙◌}
use mathlib.Core.Bool.{false, not}
use mathlib.Core.List.{List}
use Prim.Native.Nat.{ℕ, ◌+◌, ◌-◌, ◌*◌, ◌/◌, ◌%◌, ◌≤◌}
use native.Mathlib.Omega.{arith}
use lib.ListN.{length}
use Rattle.words.specs.Lists.{All, Byte}
use Rattle.multi_s01.specs.Multi.{sealed, genuine, message}
use Rattle.multi_s01.proofs.Multi as S
use Rattle.blocks.specs.Blocks.{Block, block_at, blocks_of, spelled}
use Rattle.multi_s01.specs.Stream.{tries, after}
use Rattle.blocks.proofs.Spelling.{block-range, blocks_of-blocks, blocks_of-length, blocks_of-spelled, spelled-blocks_of, spelled-bytes, spelled-length}
use Rattle.multi_s01.proofs.Lowest.{lowest-some}
use Rattle.sealing_rules.specs.Sealing.{Outcome, accepted, message_ok, sealed_ok, sealed_with, genuine_with, message_with, multiplier, no_multiplier, seal_by, open_by, key_blocks, refused_where, seal_check, seal_of, unseal_of}
use Rattle.sealing_rules.proofs.Rows.{past-accepted, past-none, refuse-passed, refuse-pass, check-passed, check-pass, message-whole, sealed-ok}
use Rattle.sealing_rules.proofs.Streams.{stream-blocks}
use Rattle.sealing_rules.proofs.Outcomes.{multiplier-some}

-- with a keystream of blocks
module _ (z : ℕ → ℕ) (hz : (i : ℕ) → Block (z i)) (r m : List ℕ) (hr : All Byte r) (hm : All Byte m) (whole : length m % 8 ≡ 0) where
  module _ (found : no_multiplier z ≡ false) where
    abbrev t : ℕ
    t = multiplier z

    nz : z (multiplier z) ≡ 0 → ⊥
    nz = lowest-some tries z (multiplier-some z found)

    abbrev cs : List ℕ
    cs = sealed (z (multiplier z)) (after z (multiplier z)) (block_at r 0) (blocks_of m)

    blocks-are : blocks_of (sealed_with z (multiplier z) r m) ≡ cs
    unfolding sealed_with
    blocks-are =
        blocks_of-spelled cs
        (S.sealed-blocks (z t) (hz t) nz (after z t) (λ i. hz (t + 1 + i)) (block_at r 0) (block-range r 0 hr) (blocks_of m) (blocks_of-blocks m hm))

    long : length (sealed_with z (multiplier z) r m) ≡ length m + 16
    unfolding sealed_with
    long =
        let a = S.long (z t) (hz t) nz (after z t) (λ i. hz (t + 1 + i)) (block_at r 0) (block-range r 0 hr) (blocks_of m) (blocks_of-blocks m hm) in
        let b = blocks_of-length m in
        spelled-length cs ∙ ap (λ (k : ℕ). 8 * k) (a ∙ ap (λ (k : ℕ). k + 2) b) ∙ (let e : 8 * (length m / 8 + 2) ≡ length m + 16 = omega arith in e)

    opened : open_by z r (sealed_with z (multiplier z) r m) ≡ accepted m
    unfolding open_by genuine_with message_with
    opened =
        refuse-pass 24 _ found
        ∙ refuse-pass 24 _
        (ap not
        (ap (genuine (z t) (after z t) (block_at r 0)) blocks-are
        ∙ S.accepted (z t) (hz t) nz (after z t) (λ i. hz (t + 1 + i)) (block_at r 0) (block-range r 0 hr) (blocks_of m) (blocks_of-blocks m hm)))
        ∙ ap accepted
        (ap (λ (l : List ℕ). spelled (message (z t) (after z t) l)) blocks-are
        ∙ ap spelled (S.returned (z t) (hz t) nz (after z t) (λ i. hz (t + 1 + i)) (block_at r 0) (block-range r 0 hr) (blocks_of m) (blocks_of-blocks m hm))
        ∙ spelled-blocks_of m hm whole)

-- the message comes back
pub opened-sealed : (c : ℕ) (key iv r m s : List ℕ) (room room' : ℕ) → All Byte r → All Byte m
    → seal_of c key iv r m room ≡ accepted s → length m ≤ room' → unseal_of c key iv r s room' ≡ accepted m
unfolding seal_of unseal_of seal_by
opened-sealed c key iv r m s room room' hr hm e q =
    let z = key_blocks c key iv in
    let hz : (i : ℕ) → Block (z i) = stream-blocks c _ in
    let p = past-accepted (seal_check c key iv m room) (seal_by z r m) (ap (λ (o : Outcome). o.code) e) in
    let w = check-passed (message_ok (length m)) c key iv (length m + 16) room p.0 in
    let whole = message-whole (length m) w.size in
    let by : refused_where (no_multiplier z) 24 (accepted (sealed_with z (multiplier z) r m)) ≡ accepted s = sym p.1 ∙ e in
    let f = refuse-passed (no_multiplier z) 24 (accepted (sealed_with z (multiplier z) r m)) (omega arith) (ap (λ (o : Outcome). o.code) by) in
    let is : sealed_with z (multiplier z) r m ≡ s = ap (λ (o : Outcome). o.bytes) (sym f.1 ∙ by) in
    let n : length s ≡ length m + 16 = ap length (sym is) ∙ long z hz r m hr hm whole f.0 in
    let d : length s - 16 ≤ room' = omega arith in
    past-none (open_by z r s)
    (check-pass (sealed_ok (length s)) c key iv (length s - 16) room'
    (record { size = sealed-ok (length m) (length s) n w.size; known = w.known; spare = w.spare; blank = w.blank; room_for = d }))
    ∙ ap (open_by z r) (sym is)
    ∙ opened z hz r m hr hm whole f.0

-- what is accepted are bytes
pub sealed-bytes : (c : ℕ) (key iv r m s : List ℕ) (room : ℕ) → seal_of c key iv r m room ≡ accepted s → All Byte s
unfolding seal_of seal_by sealed_with
sealed-bytes c key iv r m s room e =
    let z = key_blocks c key iv in
    let o : Outcome = accepted (sealed_with z (multiplier z) r m) in
    let p = past-accepted (seal_check c key iv m room) (seal_by z r m) (ap (λ (x : Outcome). x.code) e) in
    let f = refuse-passed (no_multiplier z) 24 o (omega arith) (ap (λ (x : Outcome). x.code) (sym p.1 ∙ e)) in
    subst (All Byte) (ap (λ (x : Outcome). x.bytes) (sym f.1 ∙ sym p.1 ∙ e)) (spelled-bytes (sealed (z (multiplier z)) (after z (multiplier z)) (block_at r 0) (blocks_of m)))
