-- The register before any turn, bit by bit: which case of 8.4.3 a) a bit falls under, and words that take a bit more at each turn.
-- Assumes nothing.
use mathlib.Core.Path.{◌≡◌, refl, ap, sym, subst, ◌∙◌}
use mathlib.Core.Bool.{Bool, true, false}
use mathlib.Core.List.{List}
use Prim.Native.Nat.{ℕ, ◌+◌, ◌*◌, ◌-◌, ◌^◌, ◌<◌, ◌≤◌}
use native.Mathlib.Nat.{mod-lt, lt_of_lt_of_le}
use native.Mathlib.Numerals.{add-one}
use native.Mathlib.Omega.{arith}
use lib.Dec.{ltb, lit<}
use lib.Pow.{pow_mono}
use borrow.Author.Tests.{lt-ltb, le-ltb}
use Rattle.words.specs.Word.{◌⊕◌}
use Rattle.words.specs.Tests.{pick}
use Rattle.decim_register.specs.Register.{joined_down}
use Rattle.decim.specs.Cipher.{string_bit, loaded_bit}
use Rattle.decim_register.proofs.Bits.{joined-below}
use Rattle.decim_register.proofs.Weights.{either, Bit, xor-bit}

first : {A : Type 0} {t : Bool} (x y : A) → t ≡ true → x ≡ pick t x y
first x y e = sym (ap (λ (b : Bool). pick b x y) e)

second : {A : Type 0} {t : Bool} (x y : A) → t ≡ false → y ≡ pick t x y
second x y e = sym (ap (λ (b : Bool). pick b x y) e)

module _ (k v : List ℕ) (j : ℕ) where
  pub loaded-key : j < 80 → string_bit k j ≡ loaded_bit k v j
  unfolding loaded_bit
  loaded-key h = first _ _ (lt-ltb j 80 h)

  pub loaded-both : 80 ≤ j → j < 144 → string_bit k (j - 80) ⊕ string_bit v (j - 80) ≡ loaded_bit k v j
  unfolding loaded_bit
  loaded-both a h = first _ _ (lt-ltb j 144 h) ∙ second _ _ (le-ltb j 80 a)

  pub loaded-four : 144 ≤ j → j < 160
      → string_bit k (j - 80) ⊕ string_bit v (j - 144) ⊕ string_bit v (j - 128) ⊕ string_bit v (j - 112) ⊕ string_bit v (j - 96) ≡ loaded_bit k v j
  unfolding loaded_bit
  loaded-four a h = first _ _ (lt-ltb j 160 h) ∙ second _ _ (le-ltb j 144 a) ∙ second _ _ (le-ltb j 80 (omega arith))

  pub loaded-iv : 160 ≤ j → string_bit v (j - 160) ⊕ string_bit v (j - 128) ⊕ 1 ≡ loaded_bit k v j
  unfolding loaded_bit
  loaded-iv a = second _ _ (le-ltb j 160 a) ∙ second _ _ (le-ltb j 144 (omega arith)) ∙ second _ _ (le-ltb j 80 (omega arith))

  string-bit : (s : List ℕ) (i : ℕ) → Bit (string_bit s i)
  string-bit s i = mod-lt _ (lit< tt)

  pub loaded-bit : Bit (loaded_bit k v j)
  unfolding loaded_bit
  loaded-bit =
      either (ltb j 80) _ _ (string-bit k j)
      (either (ltb j 144) _ _ (xor-bit (string-bit k (j - 80)) (string-bit v (j - 80)))
      (either (ltb j 160) _ _
      (xor-bit (xor-bit (xor-bit (xor-bit (string-bit k (j - 80)) (string-bit v (j - 144))) (string-bit v (j - 128))) (string-bit v (j - 112))) (string-bit v (j - 96)))
      (xor-bit (xor-bit (string-bit v (j - 160)) (string-bit v (j - 128))) (lit< tt))))

-- a word that takes bit f n
module _ (f : ℕ → ℕ) (bits : (j : ℕ) → Bit (f j)) {n w x : ℕ} (so_far : w ≡ joined_down n f) (bit_is : x ≡ f n) where
  pub joined-more : w * 2 + x ≡ joined_down (n + 1) f
  unfolding joined_down
  joined-more = rw (add-one, so_far, bit_is)

  pub joined-fits : n < 32 → w * 2 + x < 2 ^ 32
  joined-fits h =
      subst (λ (y : ℕ). y < 2 ^ 32) (sym joined-more)
      (lt_of_lt_of_le (joined-below (n + 1) f (λ j q. bits j)) (pow_mono {j = 32} (omega arith)))

pub joined-double : (f : ℕ → ℕ) → ((j : ℕ) → Bit (f j)) → {n w : ℕ} → w ≡ joined_down n f → n < 32 → w * 2 < 2 ^ 32
joined-double f bits {n} {w} so_far h = let k = joined-fits f bits so_far refl h in omega arith
