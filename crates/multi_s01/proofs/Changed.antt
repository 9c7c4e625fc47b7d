-- Two texts that the test passes, with the same multiplier, keystream and redundancy, and that agree in all blocks but one, agree in that one too: a
-- difference in a block makes one in its W, and from there on in each W to the last, since the multiplier's inverse takes different blocks to
-- different blocks; so the last P would not be the redundancy in both.
-- Assumes nothing.
use mathlib.Core.Path.{◌≡◌, refl, ap, sym, ◌∙◌}
use mathlib.Core.Bool.{true}
use mathlib.Core.List.{List}
use Prim.Native.Nat.{ℕ, zero, suc, ◌-◌, ◌<◌, ◌≤◌}
use native.Mathlib.Decide.{ℕ_discrete, dec_lt}
use native.Mathlib.Omega.{arith}
use lib.Bits.{xor_comm, xor_lt}
use lib.Dec.{lit<, eqb}
use lib.ListN.{length, get_or}
use borrow.Author.Tests.{eqb-true}
use Rattle.words.specs.Word.{◌⊕◌}
use Rattle.words.specs.Lists.{All, tab}
use Rattle.words.proofs.Ranges.{all-at}
use Rattle.words.proofs.Registers.{listed}
use Rattle.words.proofs.Tests.{both_right}
use Rattle.keystream.proofs.Tables.{tab-agree, get_d-tab}
use Rattle.blocks.specs.Blocks.{Block}
use Rattle.gf64.specs.Gf64.{mul, reciprocal}
use Rattle.gf64.proofs.Ring.{mul-block}
use Rattle.gf64.proofs.Inverses.{inverse-block}
use Rattle.multi_s01.specs.Multi.{recovered, genuine}
use Rattle.multi_s01.specs.Chains.{backed}
use Rattle.multi_s01.proofs.Multi.{twice, redone}
use Rattle.multi_s01.proofs.Chains.{at, open-chain, back-same}

-- a block added to both sides is taken away
cancel-r : (a b k : ℕ) → a ⊕ k ≡ b ⊕ k → a ≡ b
cancel-r a b k e = sym (twice a k) ∙ ap (λ (x : ℕ). x ⊕ k) e ∙ twice b k

cancel-l : (a b k : ℕ) → k ⊕ a ≡ k ⊕ b → a ≡ b
cancel-l a b k e = cancel-r a b k (xor_comm a k ∙ e ∙ xor_comm k b)

module _ (A : ℕ) (ha : Block A) (nz : A ≡ 0 → ⊥) where
  -- different blocks have different products with the inverse
  same-factor : (x y : ℕ) → Block x → Block y → mul (reciprocal A) x ≡ mul (reciprocal A) y → x ≡ y
  same-factor x y hx hy e = sym (redone A ha nz x hx) ∙ ap (mul A) e ∙ redone A ha nz y hy

  -- the same W at a block's place or behind it, and the same blocks but for that one
  module _ (c d : ℕ → ℕ) (hc : (j : ℕ) → Block (c j)) (hd : (j : ℕ) → Block (d j)) (i : ℕ) (same : (j : ℕ) → (j ≡ i → ⊥) → d j ≡ c j) where
    w-block : (x : ℕ → ℕ) (k : ℕ) → Block (backed (reciprocal A) x k)
    w-block x zero = mul-block (reciprocal A) (x 0 ⊕ 0) (inverse-block A ha)
    w-block x (suc k) = mul-block (reciprocal A) (x (suc k) ⊕ backed (reciprocal A) x k) (inverse-block A ha)

    pub told-by-w : (k : ℕ) → i ≤ k → backed (reciprocal A) d k ≡ backed (reciprocal A) c k → d i ≡ c i
    told-by-w zero q e =
        let z : i ≡ 0 = omega arith in
        ap d z
        ∙ cancel-r (d 0) (c 0) 0 (same-factor (d 0 ⊕ 0) (c 0 ⊕ 0) (xor_lt 64 (d 0) 0 (hd 0) (lit< tt)) (xor_lt 64 (c 0) 0 (hc 0) (lit< tt)) e)
        ∙ ap c (sym z)
    told-by-w (suc k) q e = by (dec_lt i (suc k)) (told-by-w k)
      where
        sums : d (suc k) ⊕ backed (reciprocal A) d k ≡ c (suc k) ⊕ backed (reciprocal A) c k
        sums =
            same-factor (d (suc k) ⊕ backed (reciprocal A) d k) (c (suc k) ⊕ backed (reciprocal A) c k) (xor_lt 64 (d (suc k)) (backed (reciprocal A) d k) (hd (suc k)) (w-block d k))
            (xor_lt 64 (c (suc k)) (backed (reciprocal A) c k) (hc (suc k)) (w-block c k)) e

        not-here : (i j : ℕ) → i ≤ suc k → (i < suc k → ⊥) → j < suc k → j ≡ i → ⊥
        not-here i j q n p z = omega arith

        by : Dec (i < suc k) → (i ≤ k → backed (reciprocal A) d k ≡ backed (reciprocal A) c k → d i ≡ c i) → d i ≡ c i
        by (yes l) rest =
            let other : suc k ≡ i → ⊥ = λ z. omega arith in
            rest (omega arith)
            (cancel-l (backed (reciprocal A) d k) (backed (reciprocal A) c k) (c (suc k))
            (ap (λ (x : ℕ). x ⊕ backed (reciprocal A) d k) (sym (same (suc k) other)) ∙ sums))
        by (no n) rest =
            let z : i ≡ suc k = omega arith in
            let before : backed (reciprocal A) d k ≡ backed (reciprocal A) c k = back-same (reciprocal A) 0 d c (suc k) k (λ j p. same j (not-here i j q n p)) (omega arith) in
            ap d z ∙ cancel-r (d (suc k)) (c (suc k)) (backed (reciprocal A) c k) (ap (λ (x : ℕ). d (suc k) ⊕ x) (sym before) ∙ sums) ∙ ap c (sym z)

  -- two texts that the test passes
  module _ (z : ℕ → ℕ) (R : ℕ) (cs ds : List ℕ) (hc : All Block cs) (hd : All Block ds) (some : 0 < length cs) (size : length ds ≡ length cs) where
    last-w : (es : List ℕ) → 0 < length es → genuine A z R es ≡ true → backed (reciprocal A) (at es) (length es - 1) ⊕ z (length es - 1) ≡ R
    unfolding genuine
    last-w es n g =
        sym
        (ap (λ (l : List ℕ). get_or l (length es - 1) 0) (open-chain A 0 z es)
        ∙ get_d-tab (length es) (λ k. backed (reciprocal A) (at es) k ⊕ z k) (length es - 1) (omega arith))
        ∙ eqb-true _ _ (both_right (eqb (at (recovered A z es) (length es - 2)) (z (length es))) (eqb (at (recovered A z es) (length es - 1)) R) g)

    pub same_text : genuine A z R cs ≡ true → genuine A z R ds ≡ true → (i : ℕ) → ((j : ℕ) → (j ≡ i → ⊥) → at ds j ≡ at cs j) → ds ≡ cs
    same_text g h i same =
        listed (length ds) ds refl
        ∙ ap (λ (n : ℕ). tab n (at ds)) size
        ∙ tab-agree (length cs) (at ds) (at cs) (λ j q. by j q (ℕ_discrete j i))
        ∙ sym (listed (length cs) cs refl)
      where
        last : backed (reciprocal A) (at ds) (length cs - 1) ≡ backed (reciprocal A) (at cs) (length cs - 1)
        last =
            let n : length ds - 1 ≡ length cs - 1 = omega (arith, size) in
            cancel-r (backed (reciprocal A) (at ds) (length cs - 1)) (backed (reciprocal A) (at cs) (length cs - 1)) (z (length cs - 1))
            (ap (λ (k : ℕ). backed (reciprocal A) (at ds) k ⊕ z k) (sym n) ∙ last-w ds (omega (arith, size, some)) h ∙ sym (last-w cs some g))

        by : (j : ℕ) → j < length cs → Dec (j ≡ i) → at ds j ≡ at cs j
        by j q (yes e) =
            ap (at ds) e
            ∙ told-by-w (at cs) (at ds) (all-at (lit< tt) hc) (all-at (lit< tt) hd) i same (length cs - 1) (omega arith) last
            ∙ ap (at cs) (sym e)
        by j q (no n) = same j n
