-- A sealed text of which one block was changed, however, is refused with 24: it has the length of a sealed text, so that it passes the checks that
-- the sealed text passes, and were it genuine too, its blocks would be those of the sealed text, of which they are all but one.
-- Assumes nothing.
use mathlib.Core.Path.{◌≡◌, refl, ap, sym, subst, ◌∙◌}
use mathlib.Core.Bool.{Bool, true, false, not}
use mathlib.Core.List.{List}
use Prim.Native.Nat.{ℕ, ◌+◌, ◌-◌, ◌*◌, ◌/◌, ◌%◌, ◌<◌, ◌≤◌}
use native.Mathlib.Decide.{dec_lt}
use native.Mathlib.Omega.{arith}
use lib.ListN.{length, get_or, get_or-eq_default}
use borrow.Author.Tests.{not-false}
use Rattle.words.specs.Lists.{All, Byte}
use Rattle.blocks.specs.Blocks.{Block, block_at, blocks_of, spelled}
use Rattle.blocks.proofs.Spelling.{block_same, blocks_of-blocks, blocks_of-length, spelled-blocks_of}
use Rattle.multi_s01.specs.Stream.{tries, after}
use Rattle.multi_s01.proofs.Stream.{block-of}
use Rattle.multi_s01.proofs.Changed.{same_text}
use Rattle.multi_s01.proofs.Lowest.{lowest-some}
use Rattle.sealing_rules.specs.Sealing.{Outcome, refused, accepted, sealed_ok, check_of, genuine_with, message_with, multiplier, no_multiplier, open_by, key_blocks, refused_where, open_check, seal_of, unseal_of}
use Rattle.sealing_rules.specs.Clause.{OneChanged}
use Rattle.sealing_rules.proofs.Rows.{past-accepted, past-none, refuse-passed, refuse-pass, refuse-given, check-passed, sealed-least, sealed-whole}
use Rattle.sealing_rules.proofs.Streams.{stream-blocks}
use Rattle.sealing_rules.proofs.Outcomes.{multiplier-some}
use Rattle.sealing_rules.proofs.Returned.{opened-sealed, sealed-bytes}

-- ---- the blocks of the two texts

no_block : (x : List ℕ) (k : ℕ) → length x / 8 ≤ k → get_or (blocks_of x) k 0 ≡ 0
no_block x k q = get_or-eq_default (blocks_of x) 0 (omega (arith, blocks_of-length x))

module _ (s s' : List ℕ) (d : OneChanged s s') where
  as_many : length (blocks_of s') ≡ length (blocks_of s)
  as_many = blocks_of-length s' ∙ ap (λ (n : ℕ). n / 8) d.size ∙ sym (blocks_of-length s)

  -- all but one are the same
  same_blocks : (j : ℕ) → (j ≡ d.block → ⊥) → get_or (blocks_of s') j 0 ≡ get_or (blocks_of s) j 0
  same_blocks j n = by (dec_lt j (length s / 8))
    where
      place : (k : ℕ) → k < 8 → (8 * j + k) / 8 ≡ j
      place k q = omega arith

      by : Dec (j < length s / 8) → get_or (blocks_of s') j 0 ≡ get_or (blocks_of s) j 0
      by (yes q) =
          let q' : j < length s' / 8 = subst (λ (k : ℕ). j < k / 8) (sym d.size) q in
          block-of s' j q' ∙ block_same s' s (8 * j) (8 * j) (λ k l. d.rest (8 * j + k) (λ e. n (sym (place k l) ∙ e))) ∙ sym (block-of s j q)
      by (no q) =
          let o : length s / 8 ≤ j = omega arith in
          let o' : length s' / 8 ≤ j = subst (λ (k : ℕ). k / 8 ≤ j) (sym d.size) o in
          no_block s' j o' ∙ sym (no_block s j o)

  -- so that both cannot be genuine
  module _ (z : ℕ → ℕ) (hz : (i : ℕ) → Block (z i)) (r : List ℕ) (hs : All Byte s) (hs' : All Byte s') (least : 16 ≤ length s) (whole : length s % 8 ≡ 0)
      (found : no_multiplier z ≡ false) (right : genuine_with z (multiplier z) r s ≡ true) where
    pub not-genuine : genuine_with z (multiplier z) r s' ≡ true → ⊥
    unfolding genuine_with
    not-genuine g =
        let t = multiplier z in
        let same : blocks_of s' ≡ blocks_of s =
        same_text (z t) (hz t) (lowest-some tries z (multiplier-some z found)) (after z t) (block_at r 0) (blocks_of s) (blocks_of s') (blocks_of-blocks s hs) (blocks_of-blocks s' hs')
        (omega (arith, blocks_of-length s, least)) as_many right g d.block same_blocks in
        let whole' : length s' % 8 ≡ 0 = ap (λ (n : ℕ). n % 8) d.size ∙ whole in
        d.changed (sym (spelled-blocks_of s' hs' whole') ∙ ap spelled same ∙ spelled-blocks_of s hs whole)

-- ---- on bytes

not-then : (b : Bool) → (b ≡ true → ⊥) → not b ≡ true
not-then true h = absurd (h refl)
not-then false h = refl

pub changed-refused : (c : ℕ) (key iv r m s s' : List ℕ) (room room' : ℕ) → All Byte r → All Byte m → All Byte s'
    → seal_of c key iv r m room ≡ accepted s → OneChanged s s' → length m ≤ room' → unseal_of c key iv r s' room' ≡ refused 24
unfolding unseal_of open_by
changed-refused c key iv r m s s' room room' hr hm hs' e d q =
    let z = key_blocks c key iv in
    let t = multiplier z in
    let o : Outcome = accepted (message_with z t s) in
    let back = opened-sealed c key iv r m s room room' hr hm e q in
    let p = past-accepted (open_check c key iv s room') (open_by z r s) (ap (λ (x : Outcome). x.code) back) in
    let f = refuse-passed (no_multiplier z) 24 (refused_where (not (genuine_with z t r s)) 24 o) (omega arith) (ap (λ (x : Outcome). x.code) (sym p.1 ∙ back)) in
    let g = refuse-passed (not (genuine_with z t r s)) 24 o (omega arith) (ap (λ (x : Outcome). x.code) (sym f.1 ∙ sym p.1 ∙ back)) in
    let size = (check-passed (sealed_ok (length s)) c key iv (length s - 16) room' p.0).size in
    let right = not-false (genuine_with z t r s) g.0 in
    let wrong = not-genuine s s' d z (stream-blocks c _) r (sealed-bytes c key iv r m s room e) hs' (sealed-least (length s) size) (sealed-whole (length s) size) f.0 right in
    past-none (open_by z r s') (ap (λ (n : ℕ). check_of (sealed_ok n) c key iv (n - 16) room') d.size ∙ p.0)
    ∙ refuse-pass 24 _ f.0
    ∙ refuse-given 24 _ (not-then (genuine_with z t r s') wrong)
