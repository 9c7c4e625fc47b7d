-- States and their words: a state of the right lengths is read back from its words, the words of a state in range are admitted, and admitted words hold a
-- state in range. What all ciphers have in common is the padding after their words, and MUGI's words are the halves of its blocks.
-- Assumes nothing.
use mathlib.Core.Path.{◌≡◌, refl, sym, ap, ap₂, ◌∙◌}
use mathlib.Core.Bool.{Bool, true, false}
use mathlib.Core.List.{List, [], ◌∷◌, ◌++◌}
use Prim.Native.Nat.{ℕ, zero, suc, ◌+◌, ◌*◌, ◌/◌, ◌%◌, ◌-◌, ◌^◌, ◌<◌, ◌≤◌}
use native.Mathlib.Nat.{le_of_suc-le-suc, not-suc-le-zero, div-add-mod'}
use native.Mathlib.Omega.{arith}
use lib.Dec.{leb, eqb, lit<}
use lib.ListN.{length, get_or, take, drop, replicate, length-append, length-drop, take-append-drop}
use lib.Pow.{shl-shr}
use lib.Seq.{take_at, drop_at, drop-drop, get_or-append-add, length-take-le}
use borrow.Author.Tests.{le-leb, leb-true, eqb-true}
use Rattle.words.specs.Lists.{All, none, more, Word, tab}
use Rattle.words.specs.Tests.{both, pick}
use Rattle.words.proofs.Registers.{listed, cons}
use Rattle.words.proofs.Ranges.{all_append, all_drop, all-tab, at-word}
use Rattle.zuc.specs.Range as ZR
use Rattle.zuc.specs.declared.Zuc.{Zuc}
use Rattle.rabbit.specs.Range as RR
use Rattle.rabbit.specs.declared.Rabbit.{Rabbit}
use Rattle.snow2.specs.Range as SR
use Rattle.snow2.specs.declared.Snow2.{Snow2}
use Rattle.kcipher2.specs.Range as KR
use Rattle.kcipher2.specs.declared.Kcipher2.{Kcipher2}
use Rattle.mugi.specs.Range as MR
use Rattle.mugi.specs.Cipher.{block, left, right}
use Rattle.mugi.specs.declared.Mugi.{Mugi}
use Rattle.ciphers.specs.States.{zuc_words, zuc_state, rabbit_words, rabbit_state, snow2_words, snow2_state, kcipher2_words, kcipher2_state, halves, block_in, mugi_words, mugi_state}
use Rattle.ciphers.specs.Table.{are_cells, all_zero, zeros_from, zuc, rabbit, snow128, snow256, kcipher2, mugi}
use Rattle.ciphers.specs.Fit.{Fit}
use Rattle.words.proofs.Tests.{both_left, both_right, both_true}

-- ---- parts of a list

pub all_take : {P : ℕ → Type 0} (n : ℕ) {a : List ℕ} → All P a → All P (take n a)
all_take zero h = none
all_take (suc n) none = none
all_take (suc n) (more p h) = more p (all_take n h)

-- element k past a list of n
past : (a b : List ℕ) (n k : ℕ) → length a ≡ n → get_or (a ++ b) (n + k) 0 ≡ get_or b k 0
past a b n k e = ap (λ (m : ℕ). get_or (a ++ b) (m + k) 0) (sym e) ∙ get_or-append-add a b k 0

-- what is left of it from there on
drop_past : (a b : List ℕ) (n k : ℕ) → length a ≡ n → drop (n + k) (a ++ b) ≡ drop k b
drop_past a b n k e = sym (drop-drop k n (a ++ b)) ∙ ap (drop k) (drop_at a b n e)

-- the front of a list, element by element
front-listed : (n : ℕ) (w : List ℕ) → n ≤ length w → take n w ≡ tab n (λ i. get_or w i 0)
front-listed zero w h = refl
front-listed (suc n) [] h = absurd (not-suc-le-zero h)
front-listed (suc n) (x ∷ w) h = cons refl (front-listed n w (le_of_suc-le-suc h))

-- ---- padding

zero-words : (n : ℕ) → All Word (replicate n 0)
zero-words zero = none
zero-words (suc n) = more (lit< tt) (zero-words n)

pub zeros_of : (l : List ℕ) → all_zero l ≡ true → l ≡ replicate (length l) 0
zeros_of [] h = refl
zeros_of (x ∷ l) h = cons (eqb-true x 0 (both_left (eqb x 0) (all_zero l) h)) (zeros_of l (both_right (eqb x 0) (all_zero l) h))

-- words of which all but the first k are padding
padded : (k n : ℕ) (w : List ℕ) → length w ≡ k + n → zeros_from k w ≡ true → w ≡ tab k (λ i. get_or w i 0) ++ replicate n 0
padded k n w e h =
    let m : length w - k ≡ n = omega arith in
    sym (take-append-drop k w)
    ∙ ap₂ (λ (x y : List ℕ). x ++ y) (front-listed k w (omega arith)) (zeros_of (drop k w) h ∙ ap (λ (i : ℕ). replicate i 0) (length-drop k w ∙ m))

-- ---- cells

are_cells-all : (l : List ℕ) → are_cells l ≡ true → All ZR.Cell l
are_cells-all [] h = none
are_cells-all (x ∷ l) h =
    let t = both_left (both (leb 1 x) (leb x (2 ^ 31 - 1))) (are_cells l) h in
    more (leb-true 1 x (both_left (leb 1 x) (leb x (2 ^ 31 - 1)) t), leb-true x (2 ^ 31 - 1) (both_right (leb 1 x) (leb x (2 ^ 31 - 1)) t))
    (are_cells-all l (both_right (both (leb 1 x) (leb x (2 ^ 31 - 1))) (are_cells l) h))

all-are_cells : (l : List ℕ) → All ZR.Cell l → are_cells l ≡ true
all-are_cells [] none = refl
all-are_cells (x ∷ l) (more p h) = both_true (both_true (le-leb 1 x p.0) (le-leb x (2 ^ 31 - 1) p.1)) (all-are_cells l h)

cells-words : {l : List ℕ} → All ZR.Cell l → All Word l
cells-words none = none
cells-words (more {x = x} p h) = more {x = x} (omega (arith, p.1)) (cells-words h)

-- ---- ZUC

pub zuc-back : (s : Zuc) → length s.a ≡ 16 → zuc_state (zuc_words s) ≡ s
unfolding zuc_state zuc_words
zuc-back s e =
    let t : List ℕ = s.r1 ∷ s.r2 ∷ replicate 20 0 in
    λ i. record { a = take_at s.a t 16 e i; r1 = past s.a t 16 0 e i; r2 = past s.a t 16 1 e i }

pub zuc-fit : (s : Zuc) → ZR.InRange s → Fit zuc (zuc_words s)
unfolding zuc zuc_words
zuc-fit s h =
    let t : List ℕ = s.r1 ∷ s.r2 ∷ replicate 20 0 in
    let e = h.sixteen in
    record {
      full = length-append s.a t ∙ ap (λ (n : ℕ). n + 22) e;
      words = all_append (cells-words h.cells) (more h.r1-word (more h.r2-word (zero-words 20)));
      admitted = both_true (ap are_cells (take_at s.a t 16 e) ∙ all-are_cells s.a h.cells) (ap all_zero (drop_past s.a t 16 2 e));
    }

pub zuc-range : (w : List ℕ) → Fit zuc w → ZR.InRange (zuc_state w)
unfolding zuc zuc_state
zuc-range w h =
    record {
      sixteen = length-take-le 16 w (omega (arith, h.full));
      cells = are_cells-all (take 16 w) (both_left (are_cells (take 16 w)) (zeros_from 18 w) h.admitted);
      r1-word = at-word h.words 16;
      r2-word = at-word h.words 17;
    }

-- ---- SNOW 2.0

pub snow2-back : (s : Snow2) → length s.s ≡ 16 → snow2_state (snow2_words s) ≡ s
unfolding snow2_state snow2_words
snow2-back s e =
    let t : List ℕ = s.r1 ∷ s.r2 ∷ replicate 20 0 in
    λ i. record { s = take_at s.s t 16 e i; r1 = past s.s t 16 0 e i; r2 = past s.s t 16 1 e i }

module _ (s : Snow2) (h : SR.InRange s) where
  snow2-full : length (snow2_words s) ≡ 38
  unfolding snow2_words
  snow2-full = length-append s.s _ ∙ ap (λ (n : ℕ). n + 22) h.sixteen

  snow2-words : All Word (snow2_words s)
  unfolding snow2_words
  snow2-words = all_append h.cells (more h.r1-word (more h.r2-word (zero-words 20)))

  snow2-spare : zeros_from 18 (snow2_words s) ≡ true
  unfolding snow2_words
  snow2-spare = ap all_zero (drop_past s.s _ 16 2 h.sixteen)

  pub snow128-fit : Fit snow128 (snow2_words s)
  unfolding snow128
  snow128-fit = record { full = snow2-full; words = snow2-words; admitted = snow2-spare }

  pub snow256-fit : Fit snow256 (snow2_words s)
  unfolding snow256
  snow256-fit = record { full = snow2-full; words = snow2-words; admitted = snow2-spare }

pub snow2-range : (w : List ℕ) → length w ≡ 38 → All Word w → SR.InRange (snow2_state w)
unfolding snow2_state
snow2-range w e h =
    record { sixteen = length-take-le 16 w (omega arith); cells = all_take 16 h; r1-word = at-word h 16; r2-word = at-word h 17 }

-- ---- Rabbit

module _ (s : Rabbit) (ex : length s.x ≡ 8) (ec : length s.c ≡ 8) where
  tail : List ℕ
  tail = s.b * 2 ^ 24 ∷ replicate 21 0

  after : (k : ℕ) → get_or (s.x ++ (s.c ++ tail)) (16 + k) 0 ≡ get_or tail k 0
  unfolding tail
  after k =
      let e : 16 + k ≡ 8 + (8 + k) = omega arith in
      ap (λ (n : ℕ). get_or (s.x ++ (s.c ++ tail)) n 0) e ∙ past s.x (s.c ++ tail) 8 (8 + k) ex ∙ past s.c tail 8 k ec

  pub rabbit-back : rabbit_state (rabbit_words s) ≡ s
  unfolding rabbit_state rabbit_words tail
  rabbit-back =
      let c : take 8 (drop 8 (s.x ++ (s.c ++ tail))) ≡ s.c = ap (take 8) (drop_at s.x (s.c ++ tail) 8 ex) ∙ take_at s.c tail 8 ec in
      let b : get_or (s.x ++ (s.c ++ tail)) 16 0 / 2 ^ 24 ≡ s.b = ap (λ (n : ℕ). n / 2 ^ 24) (after 0) ∙ shl-shr s.b 24 in
      λ i. record { x = take_at s.x (s.c ++ tail) 8 ex i; c = c i; b = b i }

pub rabbit-fit : (s : Rabbit) → RR.InRange s → Fit rabbit (rabbit_words s)
unfolding rabbit rabbit_words tail
rabbit-fit s h =
    let t = tail s h.eight-x h.eight-c in
    let q = h.carry in
    record {
      full = length-append s.x _ ∙ (let k = length-append s.c t in omega (arith, h.eight-x, h.eight-c));
      words = all_append h.xs (all_append h.cs (more (omega arith) (zero-words 21)));
      admitted =
          both_true (ap (λ (x : ℕ). pick (eqb x 0) true (eqb x (2 ^ 24))) (after s h.eight-x h.eight-c 0) ∙ one s.b q)
          (ap all_zero (drop_past s.x (s.c ++ t) 8 9 h.eight-x ∙ drop_past s.c t 8 1 h.eight-c));
    }
  where
    one : (b : ℕ) → b ≤ 1 → pick (eqb (b * 2 ^ 24) 0) true (eqb (b * 2 ^ 24) (2 ^ 24)) ≡ true
    one zero q = refl
    one (suc zero) q = refl
    one (suc (suc b)) q = absurd (omega arith)

pub rabbit-range : (w : List ℕ) → Fit rabbit w → RR.InRange (rabbit_state w)
unfolding rabbit rabbit_state
rabbit-range w h =
    let t = both_left (pick (eqb (get_or w 16 0) 0) true (eqb (get_or w 16 0) (2 ^ 24))) _ h.admitted in
    record {
      eight-x = length-take-le 8 w (omega (arith, h.full));
      eight-c = length-take-le 8 (drop 8 w) (omega (arith, h.full, length-drop 8 w));
      xs = all_take 8 h.words;
      cs = all_take 8 (all_drop 8 h.words);
      carry = low (get_or w 16 0) (eqb (get_or w 16 0) 0) refl t;
    }
  where
    low : (x : ℕ) (b : Bool) → eqb x 0 ≡ b → pick b true (eqb x (2 ^ 24)) ≡ true → x / 2 ^ 24 ≤ 1
    low x true e t = let z : x ≡ 0 = eqb-true x 0 e in omega arith
    low x false e t = let z : x ≡ 2 ^ 24 = eqb-true x (2 ^ 24) t in omega arith

-- ---- KCipher-2

module _ (s : Kcipher2) (ea : length s.a ≡ 5) (eb : length s.b ≡ 11) where
  four : List ℕ
  four = s.r1 ∷ s.l1 ∷ s.r2 ∷ s.l2 ∷ replicate 18 0

  behind : (k : ℕ) → get_or (s.a ++ (s.b ++ four)) (16 + k) 0 ≡ get_or four k 0
  unfolding four
  behind k =
      let e : 16 + k ≡ 5 + (11 + k) = omega arith in
      ap (λ (n : ℕ). get_or (s.a ++ (s.b ++ four)) n 0) e ∙ past s.a (s.b ++ four) 5 (11 + k) ea ∙ past s.b four 11 k eb

  pub kcipher2-back : kcipher2_state (kcipher2_words s) ≡ s
  unfolding kcipher2_state kcipher2_words four
  kcipher2-back =
      let b : take 11 (drop 5 (s.a ++ (s.b ++ four))) ≡ s.b = ap (take 11) (drop_at s.a (s.b ++ four) 5 ea) ∙ take_at s.b four 11 eb in
      λ i. record { a = take_at s.a (s.b ++ four) 5 ea i; b = b i; r1 = behind 0 i; l1 = behind 1 i; r2 = behind 2 i; l2 = behind 3 i }

pub kcipher2-fit : (s : Kcipher2) → KR.InRange s → Fit kcipher2 (kcipher2_words s)
unfolding kcipher2 kcipher2_words
kcipher2-fit s h =
    let t : List ℕ = s.r1 ∷ s.l1 ∷ s.r2 ∷ s.l2 ∷ replicate 18 0 in
    record {
      full = length-append s.a _ ∙ (let k = length-append s.b t in omega (arith, h.five, h.eleven));
      words = all_append h.cells-a (all_append h.cells-b (more h.r1-word (more h.l1-word (more h.r2-word (more h.l2-word (zero-words 18))))));
      admitted = ap all_zero (drop_past s.a (s.b ++ t) 5 15 h.five ∙ drop_past s.b t 11 4 h.eleven);
    }

pub kcipher2-range : (w : List ℕ) → length w ≡ 38 → All Word w → KR.InRange (kcipher2_state w)
unfolding kcipher2_state
kcipher2-range w e h =
    record {
      five = length-take-le 5 w (omega arith);
      eleven = length-take-le 11 (drop 5 w) (omega (arith, length-drop 5 w));
      cells-a = all_take 5 h;
      cells-b = all_take 11 (all_drop 5 h);
      r1-word = at-word h 16;
      l1-word = at-word h 17;
      r2-word = at-word h 18;
      l2-word = at-word h 19;
    }

-- ---- MUGI

block-halves : (x : ℕ) → block (left x) (right x) ≡ x
block-halves x = div-add-mod' x (2 ^ 32)

block-past : (x y : ℕ) (w : List ℕ) (i : ℕ) → block_in (x ∷ y ∷ w) (suc i) ≡ block_in w i
block-past x y w i =
    let e : 2 * suc i ≡ suc (suc (2 * i)) = omega arith in
    let f : 2 * suc i + 1 ≡ suc (suc (2 * i + 1)) = omega arith in
    ap₂ (λ (m n : ℕ). block (get_or (x ∷ y ∷ w) m 0) (get_or (x ∷ y ∷ w) n 0)) e f

halves-at : (l : List ℕ) (i : ℕ) → block_in (halves l) i ≡ get_or l i 0
halves-at [] i = refl
halves-at (x ∷ l) zero = block-halves x
halves-at (x ∷ l) (suc i) = block-past (left x) (right x) (halves l) i ∙ halves-at l i

pub halves-length : (l : List ℕ) → length (halves l) ≡ 2 * length l
halves-length [] = refl
halves-length (x ∷ l) = let e = halves-length l in omega (arith, e)

halves-words : {l : List ℕ} → All MR.Block l → All Word (halves l)
halves-words none = none
halves-words (more {x = x} p h) = more {x = left x} (omega arith) (more {x = right x} (omega arith) (halves-words h))

pub mugi-back : (s : Mugi) → length s.a ≡ 3 → length s.b ≡ 16 → mugi_state (mugi_words s) ≡ s
unfolding mugi_state mugi_words
mugi-back s ea eb =
    let l = s.a ++ s.b in
    let a : tab 3 (block_in (halves l)) ≡ s.a =
    (λ j. tab 3 (λ i. halves-at l i j)) ∙ sym (front-listed 3 l (omega (arith, ea, length-append s.a s.b))) ∙ take_at s.a s.b 3 ea in
    let b : tab 16 (λ i. block_in (halves l) (3 + i)) ≡ s.b =
    (λ j. tab 16 (λ i. halves-at l (3 + i) j)) ∙ (λ j. tab 16 (λ i. past s.a s.b 3 i ea j)) ∙ sym (listed 16 s.b eb) in
    λ j. record { a = a j; b = b j }

pub mugi-fit : (s : Mugi) → MR.InRange s → Fit mugi (mugi_words s)
unfolding mugi mugi_words
mugi-fit s h =
    record {
      full = halves-length (s.a ++ s.b) ∙ ap (λ (n : ℕ). 2 * n) (length-append s.a s.b ∙ ap₂ ◌+◌ h.three h.sixteen);
      words = halves-words (all_append h.cells-a h.cells-b);
      admitted = refl;
    }

block_in_lem : {w : List ℕ} → All Word w → (i : ℕ) → MR.Block (block_in w i)
block_in_lem h i = let a = at-word h (2 * i) in let b = at-word h (2 * i + 1) in omega (arith, a, b)

pub mugi-range : (w : List ℕ) → All Word w → MR.InRange (mugi_state w)
unfolding mugi_state
mugi-range w h =
    record { three = refl; sixteen = refl; cells-a = all-tab 3 (block_in w) (λ i _. block_in_lem h i); cells-b = all-tab 16 (λ i. block_in w (3 + i)) (λ i _. block_in_lem h (3 + i)) }

-- ---- words that fit are those of the state that they hold

zuc-literal : (f : ℕ → ℕ) → zuc_words (zuc_state (tab 18 f ++ replicate 20 0)) ≡ tab 18 f ++ replicate 20 0
unfolding zuc_words zuc_state
zuc-literal f = refl

pub zuc-held : (w : List ℕ) → Fit zuc w → zuc_words (zuc_state w) ≡ w
unfolding zuc
zuc-held w h =
    let p = padded 18 20 w h.full (both_right (are_cells (take 16 w)) (zeros_from 18 w) h.admitted) in
    ap (λ (x : List ℕ). zuc_words (zuc_state x)) p ∙ zuc-literal (λ i. get_or w i 0) ∙ sym p

snow2-literal : (f : ℕ → ℕ) → snow2_words (snow2_state (tab 18 f ++ replicate 20 0)) ≡ tab 18 f ++ replicate 20 0
unfolding snow2_words snow2_state
snow2-literal f = refl

pub snow2-held : (w : List ℕ) → length w ≡ 38 → zeros_from 18 w ≡ true → snow2_words (snow2_state w) ≡ w
snow2-held w e s =
    let p = padded 18 20 w e s in
    ap (λ (x : List ℕ). snow2_words (snow2_state x)) p ∙ snow2-literal (λ i. get_or w i 0) ∙ sym p

rabbit-literal : (f : ℕ → ℕ) → f 16 / 2 ^ 24 * 2 ^ 24 ≡ f 16 → rabbit_words (rabbit_state (tab 17 f ++ replicate 21 0)) ≡ tab 17 f ++ replicate 21 0
unfolding rabbit_words rabbit_state
rabbit-literal f c = rw c

pub rabbit-held : (w : List ℕ) → Fit rabbit w → rabbit_words (rabbit_state w) ≡ w
unfolding rabbit
rabbit-held w h =
    let t = both_left (pick (eqb (get_or w 16 0) 0) true (eqb (get_or w 16 0) (2 ^ 24))) (zeros_from 17 w) h.admitted in
    let p = padded 17 21 w h.full (both_right (pick (eqb (get_or w 16 0) 0) true (eqb (get_or w 16 0) (2 ^ 24))) (zeros_from 17 w) h.admitted) in
    ap (λ (x : List ℕ). rabbit_words (rabbit_state x)) p ∙ rabbit-literal (λ i. get_or w i 0) (byte (get_or w 16 0) (eqb (get_or w 16 0) 0) refl t) ∙ sym p
  where
    byte : (x : ℕ) (b : Bool) → eqb x 0 ≡ b → pick b true (eqb x (2 ^ 24)) ≡ true → x / 2 ^ 24 * 2 ^ 24 ≡ x
    byte x true e t = let z : x ≡ 0 = eqb-true x 0 e in rw z
    byte x false e t = let z : x ≡ 2 ^ 24 = eqb-true x (2 ^ 24) t in rw z

kcipher2-literal : (f : ℕ → ℕ) → kcipher2_words (kcipher2_state (tab 20 f ++ replicate 18 0)) ≡ tab 20 f ++ replicate 18 0
unfolding kcipher2_words kcipher2_state
kcipher2-literal f = refl

pub kcipher2-held : (w : List ℕ) → length w ≡ 38 → zeros_from 20 w ≡ true → kcipher2_words (kcipher2_state w) ≡ w
kcipher2-held w e s =
    let p = padded 20 18 w e s in
    ap (λ (x : List ℕ). kcipher2_words (kcipher2_state x)) p ∙ kcipher2-literal (λ i. get_or w i 0) ∙ sym p

-- the halves of the blocks of words are the words
halves-blocks : (n : ℕ) (w : List ℕ) → length w ≡ 2 * n → All Word w → halves (tab n (block_in w)) ≡ w
halves-blocks zero [] e h = refl
halves-blocks zero (x ∷ w) e h = absurd (omega arith)
halves-blocks (suc n) [] e h = absurd (omega arith)
halves-blocks (suc n) (x ∷ []) e h = absurd (omega arith)
halves-blocks (suc n) (x ∷ y ∷ w) e (more p (more q h)) =
    let l : left (block x y) ≡ x = omega arith in
    let r : right (block x y) ≡ y = omega arith in
    cons l (cons r ((λ j. halves (tab n (λ i. block-past x y w i j))) ∙ halves-blocks n w (omega arith) h))

pub mugi-held : (w : List ℕ) → length w ≡ 38 → All Word w → mugi_words (mugi_state w) ≡ w
unfolding mugi_words mugi_state
mugi-held w e h = halves-blocks 19 w e h
