-- Opening accepts exactly the sealed texts: what it accepts is the sealing of the message that it writes, and past the other checks the sealing of
-- every message is accepted. For the W_i are got back from what is recovered, so that a genuine text is sealed to again.
-- Assumes nothing.
use mathlib.Core.Path.{◌≡◌, refl, ap, sym, subst, ◌∙◌}
use mathlib.Core.Bool.{Bool, true, false, not}
use mathlib.Core.List.{List}
use Prim.Native.Nat.{ℕ, ◌+◌, ◌-◌, ◌%◌, ◌≤◌}
use native.Mathlib.Omega.{arith}
use lib.ListN.{length}
use borrow.Author.Tests.{not-false}
use Rattle.words.specs.Lists.{All, Byte}
use Rattle.ciphers.proofs.States.{all_take}
use Rattle.blocks.specs.Blocks.{Block, block_at, blocks_of, spelled}
use Rattle.blocks.proofs.Spelling.{blocks_of-blocks, blocks_of-length, blocks_of-spelled, spelled-blocks_of, spelled-bytes, spelled-length}
use Rattle.multi_s01.specs.Stream.{tries, after}
use Rattle.multi_s01.proofs.Lowest.{lowest-some}
use Rattle.multi_s01.specs.Multi.{sealed, message}
use Rattle.sealing_rules.specs.Sealing.{Outcome, refused, accepted, message_ok, sealed_ok, sealed_with, genuine_with, message_with, multiplier, no_multiplier, seal_by, open_by, key_blocks, refused_where, open_check, seal_of, unseal_of}
use Rattle.sealing_rules.specs.Clause.{IsSealing}
use Rattle.multi_s01.proofs.Multi as S
use Rattle.multi_s01.proofs.Chains.{recovered-blocks}
use Rattle.sealing_rules.proofs.Rows.{past-accepted, past-none, refuse-passed, refuse-pass, check-passed, check-pass, sealed-least, sealed-message, sealed-whole}
use Rattle.sealing_rules.proofs.Streams.{stream-blocks}
use Rattle.sealing_rules.proofs.Outcomes.{multiplier-some}
use Rattle.sealing_rules.proofs.Returned.{opened-sealed}

-- with a keystream of blocks, and bytes that are genuine
module _ (z : ℕ → ℕ) (hz : (i : ℕ) → Block (z i)) (r s : List ℕ) (hs : All Byte s) (least : 16 ≤ length s) (whole : length s % 8 ≡ 0)
    (found : no_multiplier z ≡ false) (right : genuine_with z (multiplier z) r s ≡ true) where
  abbrev t : ℕ
  t = multiplier z

  abbrev m : List ℕ
  m = message_with z (multiplier z) s

  nz : z (multiplier z) ≡ 0 → ⊥
  nz = lowest-some tries z (multiplier-some z found)

  two : 2 ≤ length (blocks_of s)
  two = let n = blocks_of-length s in omega arith

  message-size : length (message_with z (multiplier z) s) + 16 ≡ length s
  unfolding message_with
  message-size =
      let n = blocks_of-length s in
      let a = S.message-long (z t) (hz t) nz (after z t) (block_at r 0) (blocks_of s) (blocks_of-blocks s hs) two in
      let b = spelled-length (message (z t) (after z t) (blocks_of s)) in
      omega (arith, a, b, n, least, whole)

  message-bytes : All Byte (message_with z (multiplier z) s)
  unfolding message_with
  message-bytes = spelled-bytes (message (z t) (after z t) (blocks_of s))

  blocks-back : blocks_of (message_with z (multiplier z) s) ≡ message (z (multiplier z)) (after z (multiplier z)) (blocks_of s)
  unfolding message_with message
  blocks-back =
      blocks_of-spelled (message (z t) (after z t) (blocks_of s))
      (all_take (length (blocks_of s) - 2) (recovered-blocks (z t) 0 (after z t) (blocks_of s) (hz t) (λ i. hz (t + 1 + i))))

  again : sealed_with z (multiplier z) r (message_with z (multiplier z) s) ≡ s
  unfolding sealed_with genuine_with
  again =
      ap (λ (l : List ℕ). spelled (sealed (z t) (after z t) (block_at r 0) l)) blocks-back
      ∙ ap spelled (S.sealed-again (z t) (hz t) nz (after z t) (block_at r 0) (blocks_of s) (blocks_of-blocks s hs) two right)
      ∙ spelled-blocks_of s hs whole

abbrev code : Outcome → ℕ
code o = o.code

refuse-either : (a b : Bool) (l : List ℕ) → ((refused_where a 24 (refused_where b 24 (accepted l))).code ≡ 0 → ⊥) → refused_where a 24 (refused_where b 24 (accepted l)) ≡ refused 24
unfolding refused_where
refuse-either true b l h = refl
refuse-either false true l h = refl
refuse-either false false l h = absurd (h refl)

module _ (c : ℕ) (key iv r s : List ℕ) (room : ℕ) (hs : All Byte s) where
  abbrev z : ℕ → ℕ
  z = key_blocks c key iv

  -- what is accepted is the sealing of what is written
  pub accepted-sealed : (unseal_of c key iv r s room).code ≡ 0 → IsSealing c key iv r (unseal_of c key iv r s room).bytes s
  unfolding unseal_of open_by seal_of seal_by
  accepted-sealed e =
      let t = multiplier z in
      let hz : (i : ℕ) → Block (z i) = stream-blocks c _ in
      let p = past-accepted (open_check c key iv s room) (open_by z r s) e in
      let o = accepted (message_with z t s) in
      let f = refuse-passed (no_multiplier z) 24 (refused_where (not (genuine_with z t r s)) 24 o) (omega arith) (sym (ap code p.1) ∙ e) in
      let g = refuse-passed (not (genuine_with z t r s)) 24 o (omega arith) (sym (ap code (p.1 ∙ f.1)) ∙ e) in
      let is : unseal_of c key iv r s room ≡ o = p.1 ∙ f.1 ∙ g.1 in
      let w = check-passed (sealed_ok (length s)) c key iv (length s - 16) room p.0 in
      let right = not-false _ g.0 in
      let size = message-size z hz r s hs (sealed-least (length s) w.size) (sealed-whole (length s) w.size) f.0 right in
      let n : length s - 16 ≡ length (message_with z t s) = omega (arith, size) in
      let fits : length (message_with z t s) + 16 ≤ length s = omega (arith, size) in
      let ok : message_ok (length (message_with z t s)) ≡ true = sym (ap message_ok n) ∙ sealed-message (length s) w.size in
      subst-sealing (sym is)
      (record {
        bytes = message-bytes z hz r s hs (sealed-least (length s) w.size) (sealed-whole (length s) w.size) f.0 right;
        size = size;
        sealing =
            past-none (seal_by z r (message_with z t s)) (check-pass (message_ok (length (message_with z t s))) c key iv (length (message_with z t s) + 16) (length s)
            (record { size = ok; known = w.known; spare = w.spare; blank = w.blank; room_for = fits }))
            ∙ refuse-pass 24 _ f.0
            ∙ ap accepted (again z hz r s hs (sealed-least (length s) w.size) (sealed-whole (length s) w.size) f.0 right);
      })
    where
      subst-sealing : {o o' : Outcome} → o ≡ o' → IsSealing c key iv r o.bytes s → IsSealing c key iv r o'.bytes s
      subst-sealing q h = subst (λ (x : Outcome). IsSealing c key iv r x.bytes s) q h

  -- past the other checks every sealing is accepted, with its message
  pub sealed-accepted : (m : List ℕ) → All Byte r → open_check c key iv s room ≡ 0 → IsSealing c key iv r m s → unseal_of c key iv r s room ≡ accepted m
  sealed-accepted m hr e h =
      let fits = (check-passed (sealed_ok (length s)) c key iv (length s - 16) room e).room_for in
      opened-sealed c key iv r m s (length s) room hr h.bytes h.sealing (omega (arith, h.size, fits))

  -- and what is no sealing has number 24
  pub no-sealing : open_check c key iv s room ≡ 0 → ((m : List ℕ) → IsSealing c key iv r m s → ⊥) → unseal_of c key iv r s room ≡ refused 24
  unfolding unseal_of open_by
  no-sealing e h =
      past-none (open_by z r s) e
      ∙ refuse-either (no_multiplier z) (not (genuine_with z (multiplier z) r s)) (message_with z (multiplier z) s)
      (λ q. h (unseal_of c key iv r s room).bytes (accepted-sealed (ap code (past-none (open_by z r s) e) ∙ q)))
