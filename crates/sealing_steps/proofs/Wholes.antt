-- What the code leaves, as a whole: the W_i of a message, what is sealed of them, what is recovered of a sealed message, and its test.
-- Assumes nothing.
use mathlib.Core.Path.{◌≡◌, ap, ap₂, sym, subst, ◌∙◌}
use mathlib.Core.List.{List, [], ◌∷◌, ◌++◌, append_assoc, append-nil}
use Prim.Native.Nat.{ℕ, suc, ◌+◌, ◌-◌, ◌*◌, ◌/◌, ◌%◌, ◌<◌, ◌≤◌}
use native.Mathlib.Omega.{arith}
use borrow.Rule.Slice.PartMut.{put_mid}
use lib.Bits.{xor_comm, xor_self}
use lib.Dec.{eqb}
use lib.ListN.{length, take, drop, length-append}
use lib.Seq.{take_all, take-append-le, drop_at}
use Rattle.words.specs.Word.{◌⊕◌}
use Rattle.words.specs.Lists.{All, none, more, Byte, tab}
use Rattle.words.specs.Tests.{both}
use Rattle.words.proofs.Xor.{xor-swap, byte-xor}
use Rattle.keystream.specs.Stream.{xor_from}
use Rattle.keystream.proofs.Laws.{xor_from-length}
use Rattle.keystream.proofs.Tables.{tab-agree, tab-length}
use Rattle.buffer.proofs.Fronts.{Front, front-more}
use Rattle.gf64.specs.Gf64.{mul, reciprocal}
use Rattle.blocks.specs.Blocks.{Block, block_at, blocks_of, spell, spelled}
use Rattle.blocks.proofs.Spelling.{Bytes, spell-length, spelled-append, spelled-length, spelled-front, block-range, block_within, blocks_of-length, blocks_of-blocks}
use Rattle.multi_s01.specs.Stream.{after}
use Rattle.multi_s01.specs.Multi.{padded, sealed, recovered, genuine, message}
use Rattle.multi_s01.specs.Chains.{summed, before, chained, back_from, backed, unchained}
use Rattle.multi_s01.proofs.Stream.{crypt-block, block-of}
use Rattle.multi_s01.proofs.Multi.{recovered-length, padded-blocks}
use Rattle.multi_s01.proofs.Chains.{at, seal-chain, open-chain, recovered-blocks, chained_same, back-same, summed-append, summed-tab, summed-length, summed-blocks, block_in, spelled-take}
use Rattle.sealing_rules.specs.Sealing.{stream_bytes, blocks_from, sealed_with, genuine_with, message_with}
use Rattle.sealing_rules.proofs.Streams.{stream-bytes, stream-blocks}
use Rattle.sealing_stream.specs.declared.Walk.{Walk}
use Rattle.sealing_stream.specs.Walk.{At, Crypted}

-- the same place
pub at_same : {c : ℕ} {s : List ℕ} {w : Walk} {n m : ℕ} → n ≡ m → At c s n w → At c s m w
at_same {c} {s} {w} e a = subst (λ (k : ℕ). At c s k w) e a

-- ---- the text crypted

xor_from-bytes : (f : ℕ → ℕ) (n : ℕ) (l : List ℕ) → Bytes f → All Byte l → All Byte (xor_from f n l)
unfolding xor_from
xor_from-bytes f n [] hf none = none
xor_from-bytes f n (x ∷ l) hf (more p h) = more (byte-xor p (hf n)) (xor_from-bytes f (suc n) l hf h)

module _ (c t : ℕ) (s : List ℕ) where
  abbrev z' : ℕ → ℕ
  z' = after (blocks_from c s) t

  blocks-z : (i : ℕ) → Block (after (blocks_from c s) t i)
  blocks-z i = stream-blocks c s (t + 1 + i)

  -- block i of it
  crypted-block : (m rest : List ℕ) (i : ℕ) → All Byte m → 8 * i + 8 ≤ length m
      → block_at (xor_from (stream_bytes c s) (8 * (t + 1)) m ++ rest) (8 * i) ≡ block_at m (8 * i) ⊕ after (blocks_from c s) t i
  crypted-block m rest i h q =
      let X = xor_from (stream_bytes c s) (8 * (t + 1)) m in
      block_within X rest (8 * i) (omega (arith, xor_from-length (stream_bytes c s) (8 * (t + 1)) m)) ∙ crypt-block (stream_bytes c s) (t + 1) m i h (stream-bytes c s) q

  -- the W_i of a message
  crypted-sums : (m : List ℕ) → All Byte m → length m % 8 ≡ 0 → xor_from (stream_bytes c s) (8 * (t + 1)) m ≡ spelled (summed (after (blocks_from c s) t) (blocks_of m))
  unfolding blocks_of
  crypted-sums m h e =
      let f = stream_bytes c s in
      let X = xor_from f (8 * (t + 1)) m in
      let u = length m / 8 in
      let n = xor_from-length f (8 * (t + 1)) m in
      let p : ℕ → ℕ = λ i. block_at m (8 * i) in
      sym
      (ap spelled
      (summed-tab z' p u
      ∙ tab-agree u (λ i. p i ⊕ z' i) (λ i. block_at X (8 * i)) (λ i q. sym (crypt-block f (t + 1) m i h (stream-bytes c s) (omega arith))))
      ∙ spelled-front u X (xor_from-bytes f (8 * (t + 1)) m (stream-bytes c s) h) (omega arith)
      ∙ take_all (8 * u) X (omega arith))

  -- with those of padding and redundancy
  module _ (r m : List ℕ) (h : All Byte m) (whole : length m % 8 ≡ 0) where
    abbrev ws : List ℕ
    ws = summed (after (blocks_from c s) t) (padded (after (blocks_from c s) t) (block_at r 0) (blocks_of m))

    ends-sums : (i a b : ℕ) → i ≡ t + 1 + length m / 8 → a ≡ blocks_from c s (i + 2) ⊕ blocks_from c s i → b ≡ block_at r 0 ⊕ blocks_from c s (i + 1)
        → (xor_from (stream_bytes c s) (8 * (t + 1)) m ++ spell a) ++ spell b ≡ spelled ws
    ends-sums i a b ei ea eb =
        let z = blocks_from c s in
        let l = blocks_of m in
        let n = blocks_of-length m in
        let e2 : i + 2 ≡ t + 1 + (length l + 2) = omega arith in
        let e0 : i ≡ t + 1 + (length l + 0) = omega arith in
        let e1 : i + 1 ≡ t + 1 + (length l + 1) = omega arith in
        let a' = z' (length l + 2) ⊕ z' (length l + 0) in
        let b' = block_at r 0 ⊕ z' (length l + 1) in
        let pa : a ≡ a' = ea ∙ ap₂ (λ (x y : ℕ). z x ⊕ z y) e2 e0 in
        let pb : b ≡ b' = eb ∙ ap (λ (x : ℕ). block_at r 0 ⊕ z x) e1 in
        (λ j. (crypted-sums m h whole j ++ spell (pa j)) ++ spell (pb j))
        ∙ append_assoc (spelled (summed z' l)) (spell a') (spell b')
        ∙ ap (λ (x : List ℕ). spelled (summed z' l) ++ (spell a' ++ x)) (sym (append-nil (spell b')))
        ∙ sym (spelled-append (summed z' l) (a' ∷ b' ∷ []))
        ∙ ap spelled (sym (summed-append z' l (z' (length l + 2) ∷ block_at r 0 ∷ [])))

    -- put one after the other
    pub sums-put : {i a b : ℕ} {out : List ℕ} {w' : Walk} {o1 y1 y2 : List ℕ} → length m + 16 ≤ length out → i ≡ t + 1 + length m / 8
        → a ≡ blocks_from c s (i + 2) ⊕ blocks_from c s i → b ≡ block_at r 0 ⊕ blocks_from c s (i + 1) → Crypted c s (8 * (t + 1)) m out w' o1
        → y1 ≡ spell a ++ drop 8 (take (length o1 - length m) (drop (length m) o1))
        → y2 ≡ spell b ++ drop 8 (take (length (put_mid (length m) (length o1 - length m) o1 y1) - (length m + 8)) (drop (length m + 8) (put_mid (length m) (length o1 - length m) o1 y1)))
        → put_mid (length m + 8) (length (put_mid (length m) (length o1 - length m) o1 y1) - (length m + 8)) (put_mid (length m) (length o1 - length m) o1 y1) y2
        ≡ spelled (summed (after (blocks_from c s) t) (padded (after (blocks_from c s) t) (block_at r 0) (blocks_of m))) ++ drop (length m + 16) out
    sums-put {i} {a} {b} {out} {w'} {o1} {y1} {y2} fits ei ea eb d k1 k2 =
        let X = xor_from (stream_bytes c s) (8 * (t + 1)) m in
        let n = length m in
        let f0 : Front X out o1 n = record { size = xor_from-length (stream_bytes c s) (8 * (t + 1)) m; fits = omega arith; is = d.bytes } in
        let f1 = front-more (spell a) y1 8 (spell-length a) (omega arith) f0 k1 in
        let f2 = front-more (spell b) y2 8 (spell-length b) (omega arith) f1 k2 in
        let e : n + 8 + 8 ≡ n + 16 = omega arith in
        f2.is ∙ ap₂ (λ (p : List ℕ) (x : ℕ). p ++ drop x out) (ends-sums i a b ei ea eb) e

    -- ---- what is sealed of them

    module _ (hr : All Byte r) where
      padded-length : length (padded (after (blocks_from c s) t) (block_at r 0) (blocks_of m)) ≡ length m / 8 + 2
      padded-length = length-append (blocks_of m) _ ∙ ap (λ (x : ℕ). x + 2) (blocks_of-length m)

      pub chained-sealed : {a count : ℕ} (out : List ℕ) {o1 o2 : List ℕ} → a ≡ blocks_from c s t → count ≡ length m / 8 + 2 → o1 ≡ spelled ws ++ drop (length m + 16) out
          → o2 ≡ spelled (tab count (chained a (λ k. block_at o1 (8 * k)))) ++ drop (8 * count) o1
          → (o2 ≡ sealed_with (blocks_from c s) t r m ++ drop (8 * count) out) × (length (sealed_with (blocks_from c s) t r m) ≡ 8 * count)
      unfolding sealed_with sealed
      chained-sealed {a} {count} out {o1} {o2} ea en e1 e2 =
          let ps = padded z' (block_at r 0) (blocks_of m) in
          let W = ws in
          let A = blocks_from c s t in
          let lw : length W ≡ count = summed-length z' ps ∙ padded-length ∙ sym en in
          let ls : length (spelled W) ≡ 8 * count = spelled-length W ∙ ap (λ (x : ℕ). 8 * x) lw in
          let same : (k : ℕ) → k < count → block_at o1 (8 * k) ≡ at W k =
          λ k q. ap (λ (l : List ℕ). block_at l (8 * k)) e1 ∙ block_in W (drop (length m + 16) out) k (summed-blocks z' ps (padded-blocks z' (block_at r 0) (blocks_of m) blocks-z (block-range r 0 hr) (blocks_of-blocks m h)) blocks-z) (omega arith) in
          let is : tab count (chained a (λ k. block_at o1 (8 * k))) ≡ sealed A z' (block_at r 0) (blocks_of m) =
          ap (λ (x : ℕ). tab count (chained x (λ k. block_at o1 (8 * k)))) ea
          ∙ chained_same A (λ k. block_at o1 (8 * k)) (at W) count same
          ∙ ap (λ (n : ℕ). tab n (chained A (at W))) (en ∙ sym padded-length)
          ∙ sym (seal-chain A 0 z' ps) in
          let e16 : length m + 16 ≡ 8 * count = omega arith in (
            e2
                ∙ ap₂ ◌++◌ (ap spelled is) (ap (drop (8 * count)) e1 ∙ drop_at (spelled W) (drop (length m + 16) out) (8 * count) ls ∙ ap (λ (x : ℕ). drop x out) e16),
            ap (λ (l : List ℕ). length (spelled l)) (seal-chain A 0 z' ps)
                ∙ spelled-length (tab (length ps) (λ i. mul A (at W i) ⊕ before 0 (at W) i))
                ∙ ap (λ (x : ℕ). 8 * x) (tab-length (length ps) (λ i. mul A (at W i) ⊕ before 0 (at W) i) ∙ padded-length ∙ sym en),
          )

  -- ---- what is recovered

  cancel : (a b d : ℕ) → (a ⊕ b) ⊕ (a ⊕ d) ≡ d ⊕ b
  cancel a b d = xor-swap a b a d ∙ ap (λ (x : ℕ). x ⊕ (b ⊕ d)) (xor_self a) ∙ xor_comm b d

  pub recovered-put : (a : ℕ) (x held : List ℕ) {I v : ℕ} {w' : Walk} {h1 h2 : List ℕ} → All Byte x → length x % 8 ≡ 0 → v ≡ length x / 8 → I ≡ reciprocal a
      → Crypted c s (8 * (t + 1)) x held w' h1 → h2 ≡ spelled (tab v (unchained I x h1)) ++ drop (8 * v) h1
      → h2 ≡ spelled (recovered a (after (blocks_from c s) t) (blocks_of x)) ++ drop (length x) held
  recovered-put a x held {I} {v} {w'} {h1} {h2} hx whole ev ei d e =
      let X = xor_from (stream_bytes c s) (8 * (t + 1)) x in
      let cs = blocks_of x in
      let C : ℕ → ℕ = λ k. block_at x (8 * k) in
      let n : length X ≡ 8 * v = xor_from-length (stream_bytes c s) (8 * (t + 1)) x ∙ (let q : length x ≡ 8 * v = omega arith in q) in
      let one : (i : ℕ) → i < v → unchained I x h1 i ≡ back_from (reciprocal a) 0 (at cs) i ⊕ z' i =
      λ i q.
      ap₂ (λ (y w : ℕ). y ⊕ (C i ⊕ w)) (ap (λ (l : List ℕ). block_at l (8 * i)) d.bytes ∙ crypted-block x (drop (length x) held) i hx (omega arith))
      (ap (λ (k : ℕ). backed k C i) ei ∙ back-same (reciprocal a) 0 C (at cs) v i (λ k p. sym (block-of x k (omega arith))) q)
      ∙ cancel (C i) (z' i) (back_from (reciprocal a) 0 (at cs) i) in
      e
      ∙ ap₂ ◌++◌
      (ap spelled
      (tab-agree v (unchained I x h1) (λ i. back_from (reciprocal a) 0 (at cs) i ⊕ z' i) one
      ∙ ap (λ (k : ℕ). tab k (λ i. back_from (reciprocal a) 0 (at cs) i ⊕ z' i)) (ev ∙ sym (blocks_of-length x))
      ∙ sym (open-chain a 0 z' cs)))
      (ap (drop (8 * v)) d.bytes ∙ drop_at X (drop (length x) held) (8 * v) n)

  -- ---- the test, and the message

  module _ (r x rest : List ℕ) (long : 16 ≤ length x) (whole : length x % 8 ≡ 0) {a : ℕ} {h2 : List ℕ} (ea : a ≡ blocks_from c s t)
      (left : h2 ≡ spelled (recovered a (after (blocks_from c s) t) (blocks_of x)) ++ rest) where
    abbrev P : List ℕ
    P = recovered (blocks_from c s t) (after (blocks_from c s) t) (blocks_of x)

    is : h2 ≡ spelled P ++ rest
    is = left ∙ ap (λ (A : ℕ). spelled (recovered A (after (blocks_from c s) t) (blocks_of x)) ++ rest) ea

    P-long : length P ≡ length x / 8
    P-long = recovered-length (blocks_from c s t) 0 z' (blocks_of x) ∙ blocks_of-length x

    P-at : (k : ℕ) → k < length x / 8 → block_at h2 (8 * k) ≡ at P k
    P-at k q =
        ap (λ (l : List ℕ). block_at l (8 * k)) is
        ∙ block_in P rest k
        (recovered-blocks (blocks_from c s t) 0 z' (blocks_of x) (stream-blocks c s t) blocks-z)
        (subst (λ (n : ℕ). k < n) (sym P-long) q)

    pub test-is : (p q last : ℕ) → p ≡ block_at h2 (length x - 16) → q ≡ block_at h2 (length x - 16 + 8) → last ≡ after (blocks_from c s) t (length x / 8)
        → genuine_with (blocks_from c s) t r x ≡ both (eqb p last) (eqb q (block_at r 0))
    unfolding genuine_with genuine
    test-is p q last ep eq el =
        let n = blocks_of-length x in
        let a : 8 * (length x / 8 - 2) ≡ length x - 16 = omega arith in
        let b : 8 * (length x / 8 - 1) ≡ length x - 16 + 8 = omega arith in
        let pa : at P (length (blocks_of x) - 2) ≡ p =
        ap (λ (k : ℕ). at P (k - 2)) n ∙ sym (P-at (length x / 8 - 2) (omega arith)) ∙ ap (block_at h2) a ∙ sym ep in
        let pb : at P (length (blocks_of x) - 1) ≡ q =
        ap (λ (k : ℕ). at P (k - 1)) n ∙ sym (P-at (length x / 8 - 1) (omega arith)) ∙ ap (block_at h2) b ∙ sym eq in
        let pl : z' (length (blocks_of x)) ≡ last = ap z' n ∙ sym el in
        λ j. both (eqb (pa j) (pl j)) (eqb (pb j) (block_at r 0))

    pub message-is : take (length x - 16) h2 ≡ message_with (blocks_from c s) t x
    unfolding message_with message
    message-is =
        let n = blocks_of-length x in
        let m = P-long in
        let a : length x - 16 ≡ 8 * (length (blocks_of x) - 2) = omega arith in
        ap (take (length x - 16)) is
        ∙ take-append-le (length x - 16) (spelled P) rest (omega (arith, spelled-length P))
        ∙ ap (λ (k : ℕ). take k (spelled P)) a
        ∙ sym (spelled-take (length (blocks_of x) - 2) P)
