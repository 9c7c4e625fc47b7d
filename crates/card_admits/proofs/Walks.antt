-- Words put together, so that there is one test: the whole is zero where each of them is, and it has no highest digit where none of them has. So the whole of the first i
-- words tells whether each is zero, and with the numbers before them whether each is a cell.
-- Assumes nothing.
use Rattle.std.proofs.Common.{◌≡◌, ℕ, ◌+◌, ◌%◌, ◌^◌, ◌<◌, ◌≤◌, Bool, true, false, eqb, ltb, leb, List, [], ◌∷◌, ◌++◌, length, get_or, take, sym, refl, ap, ◌∙◌, ap₂, add-one, arith, take_all, take-suc, le-ltb, lt-ltb, ne_eqb, le-leb}
use native.Mathlib.Decide.{dec_lt}
use lib.Bits.{bit_or, or_zero_l, or_add_and, or_lt, and_le_l, and_le_r}
use borrow.Author.Tests.{lt-leb}
use Rattle.words.specs.Tests.{both}
use Rattle.ciphers.specs.Table.{all_of, is_zero, is_cell, are_cells}
use Rattle.words.proofs.Tests.{both_true, both_false}

-- ---- tests of lists

grouped : (a b c : Bool) → both a (both b c) ≡ both (both a b) c
grouped true b c = refl
grouped false b c = refl

pub both-last : (b : Bool) → both b true ≡ b
both-last true = refl
both-last false = refl

-- all of two lists pass where all of each do
pub all_join : (t : ℕ → Bool) (a b : List ℕ) → all_of t (a ++ b) ≡ both (all_of t a) (all_of t b)
all_join t [] b = refl
all_join t (x ∷ a) b = ap (both (t x)) (all_join t a b) ∙ grouped (t x) (all_of t a) (all_of t b)

-- the first i and one more
all_more : (t : ℕ → Bool) (l : List ℕ) (i : ℕ) → i < length l → all_of t (take (i + 1) l) ≡ both (all_of t (take i l)) (t (get_or l i 0))
all_more t l i h =
    ap (λ (k : ℕ). all_of t (take k l)) (add-one i)
    ∙ ap (all_of t) (take-suc l i 0 h)
    ∙ all_join t (take i l) (get_or l i 0 ∷ [])
    ∙ ap (both (all_of t (take i l))) (both-last (t (get_or l i 0)))

-- ---- words put together: the whole is zero where each of them is

or-zero : (a b : ℕ) → eqb (bit_or a b) 0 ≡ both (eqb a 0) (eqb b 0)
or-zero a b = by (dec_lt 0 a)
  where
    by : Dec (0 < a) → eqb (bit_or a b) 0 ≡ both (eqb a 0) (eqb b 0)
    by (yes h) =
        let f : a ≡ 0 → ⊥ = λ z. omega arith in
        let g : bit_or a b ≡ 0 → ⊥ = λ z. omega (arith, or_add_and a b, and_le_r a b) in
        ne_eqb (bit_or a b) 0 g ∙ sym (ap (λ (x : Bool). both x (eqb b 0)) (ne_eqb a 0 f))
    by (no h) =
        let z : a ≡ 0 = omega arith in
        ap (λ (x : ℕ). eqb (bit_or x b) 0) z ∙ ap (λ (x : ℕ). eqb x 0) (or_zero_l b) ∙ sym (ap (λ (x : ℕ). both (eqb x 0) (eqb b 0)) z)

-- the words before i are put together
abbrev pub Gathered : List ℕ → ℕ → ℕ → Type 0
Gathered l all i = (i ≤ length l) × (eqb all 0 ≡ all_of is_zero (take i l))

pub gathered-more : (l : List ℕ) (all i : ℕ) → i < length l → Gathered l all i → Gathered l (bit_or all (get_or l i 0)) (i + 1)
gathered-more l all i h g = (
  omega arith,
  or-zero all (get_or l i 0) ∙ ap (λ (b : Bool). both b (is_zero (get_or l i 0))) g.1 ∙ sym (all_more is_zero l i h),
)

pub gathered-all : (l : List ℕ) (all i : ℕ) → length l ≤ i → Gathered l all i → eqb all 0 ≡ all_of is_zero l
gathered-all l all i h g = g.1 ∙ ap (all_of is_zero) (take_all i l h)

-- ---- cells of ZUC put together with the numbers before them: the whole has no highest digit where each word is a cell

abbrev low : ℕ → Bool
low x = ltb x (2 ^ 31)

or-low : (a b : ℕ) → low (bit_or a b) ≡ both (low a) (low b)
or-low a b = by (dec_lt a (2 ^ 31)) (dec_lt b (2 ^ 31))
  where
    by : Dec (a < 2 ^ 31) → Dec (b < 2 ^ 31) → low (bit_or a b) ≡ both (low a) (low b)
    by (yes p) (yes q) = lt-ltb (bit_or a b) (2 ^ 31) (or_lt 31 a b p q) ∙ sym (both_true (lt-ltb a (2 ^ 31) p) (lt-ltb b (2 ^ 31) q))
    by (yes p) (no q) =
        le-ltb (bit_or a b) (2 ^ 31) (omega (arith, q, or_add_and a b, and_le_l a b)) ∙ sym (both_false (low a) (low b) (le-ltb b (2 ^ 31) (omega (arith, q))))
    by (no p) q =
        le-ltb (bit_or a b) (2 ^ 31) (omega (arith, p, or_add_and a b, and_le_r a b)) ∙ sym (ap (λ (x : Bool). both x (low b)) (le-ltb a (2 ^ 31) (omega (arith, p))))

-- neither a cell nor the number before it has the highest digit; of 0 and of what is over 2^31 - 1 one has it
cell-is : (x y : ℕ) → y ≡ (x + 4294967295) % 2 ^ 32 → both (low x) (low y) ≡ is_cell x
cell-is x y e = by (dec_lt 0 x) (dec_lt x (2 ^ 31))
  where
    by : Dec (0 < x) → Dec (x < 2 ^ 31) → both (low x) (low y) ≡ is_cell x
    by (yes p) (yes q) =
        both_true (lt-ltb x (2 ^ 31) q) (lt-ltb y (2 ^ 31) (omega (arith, e, p, q))) ∙ sym (both_true (le-leb 1 x (omega (arith, p))) (le-leb x 2147483647 (omega (arith, q))))
    by (yes p) (no q) =
        ap (λ (b : Bool). both b (low y)) (le-ltb x (2 ^ 31) (omega (arith, q))) ∙ sym (both_false (leb 1 x) (leb x 2147483647) (lt-leb x 2147483647 (omega (arith, q))))
    by (no p) q =
        both_false (low x) (low y) (le-ltb y (2 ^ 31) (omega (arith, e, p))) ∙ sym (ap (λ (b : Bool). both b (leb x 2147483647)) (lt-leb 1 x (omega (arith, p))))

-- the first i words and the numbers before them are put together
abbrev pub Celled : List ℕ → ℕ → ℕ → Type 0
Celled l all i = (i ≤ 16) × (ltb all (2 ^ 31) ≡ are_cells (take i l))

pub celled-more : (l : List ℕ) (all i y : ℕ) → i < 16 → i < length l → y ≡ (get_or l i 0 + 4294967295) % 2 ^ 32 → Celled l all i → Celled l (bit_or (bit_or all (get_or l i 0)) y) (i + 1)
celled-more l all i y b h e g =
    let x : ℕ = get_or l i 0 in (
      omega arith,
      or-low (bit_or all x) y
          ∙ ap (λ (b : Bool). both b (low y)) (or-low all x)
          ∙ sym (grouped (low all) (low x) (low y))
          ∙ ap₂ both g.1 (cell-is x y e)
          ∙ sym (all_more is_cell l i h),
    )
