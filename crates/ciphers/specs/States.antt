-- A state as its bytes in an image, read as thirty-eight big-endian words (document 01, "Words and streams"; document 02 (i)): ZUC A0..A15, R1, R2; Rabbit X0..X7, C0..C7 and the carry
-- byte, which is the top byte of word 16; SNOW 2.0 s0..s15, R1, R2; KCipher-2 A0..A4, B0..B10, R1, L1, R2, L2; MUGI a0..a2, b0..b15, each its left word and its right one; zeros after them.
-- Assumes nothing.
use Rattle.std.specs.Prelude.{List, [], ◌∷◌, ◌++◌, ℕ, ◌+◌, ◌*◌, ◌/◌, ◌^◌, get_or, take, drop, replicate}
use Rattle.words.specs.Lists.{tab}
use Rattle.words.specs.Strings.{bytes_of}
use Rattle.zuc.specs.declared.Zuc.{Zuc}
use Rattle.rabbit.specs.declared.Rabbit.{Rabbit}
use Rattle.snow2.specs.declared.Snow2.{Snow2}
use Rattle.kcipher2.specs.declared.Kcipher2.{Kcipher2}
use Rattle.mugi.specs.declared.Mugi.{Mugi}
use Rattle.mugi.specs.Cipher.{block, left, right}
-- how many words a state has
pub use Rattle.card_sizes.specs.Sizes.{state_words}

unfoldable pub zuc_words : Zuc → List ℕ
zuc_words s = s.a ++ (s.r1 ∷ s.r2 ∷ replicate 20 0)

unfoldable pub zuc_state : List ℕ → Zuc
zuc_state w = record { a = take 16 w; r1 = get_or w 16 0; r2 = get_or w 17 0 }

unfoldable pub rabbit_words : Rabbit → List ℕ
rabbit_words s = s.x ++ (s.c ++ (s.b * 2 ^ 24 ∷ replicate 21 0))

unfoldable pub rabbit_state : List ℕ → Rabbit
rabbit_state w = record { x = take 8 w; c = take 8 (drop 8 w); b = get_or w 16 0 / 2 ^ 24 }

unfoldable pub snow2_words : Snow2 → List ℕ
snow2_words s = s.s ++ (s.r1 ∷ s.r2 ∷ replicate 20 0)

unfoldable pub snow2_state : List ℕ → Snow2
snow2_state w = record { s = take 16 w; r1 = get_or w 16 0; r2 = get_or w 17 0 }

unfoldable pub kcipher2_words : Kcipher2 → List ℕ
kcipher2_words s = s.a ++ (s.b ++ (s.r1 ∷ s.l1 ∷ s.r2 ∷ s.l2 ∷ replicate 18 0))

unfoldable pub kcipher2_state : List ℕ → Kcipher2
kcipher2_state w = record {
  a = take 5 w;
  b = take 11 (drop 5 w);
  r1 = get_or w 16 0;
  l1 = get_or w 17 0;
  r2 = get_or w 18 0;
  l2 = get_or w 19 0;
}

-- blocks as words, and block i of words
abbrev pub halves : List ℕ → List ℕ
halves [] = []
halves (x ∷ l) = left x ∷ right x ∷ halves l

abbrev pub block_in : List ℕ → ℕ → ℕ
block_in w i = block (get_or w (2 * i) 0) (get_or w (2 * i + 1) 0)

unfoldable pub mugi_words : Mugi → List ℕ
mugi_words s = halves (s.a ++ s.b)

unfoldable pub mugi_state : List ℕ → Mugi
mugi_state w = record { a = tab 3 (block_in w); b = tab 16 (λ i. block_in w (3 + i)) }

-- words one after the other, each in four bytes
abbrev pub spelt : List ℕ → List ℕ
spelt [] = []
spelt (w ∷ ws) = bytes_of w ++ spelt ws
