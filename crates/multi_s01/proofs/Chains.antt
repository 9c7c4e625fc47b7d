-- MULTI-S01 block by block, as the code goes through it: what is sealed and what is recovered as tables of the W_i, and the loops that replace a
-- buffer's blocks one after the other.
-- Assumes nothing.
use mathlib.Core.Path.{◌≡◌, refl, ap, ap₂, sym, subst, ◌∙◌}
use mathlib.Core.List.{List, [], ◌∷◌, ◌++◌, append_assoc, append-nil}
use Prim.Native.Nat.{ℕ, zero, suc, ◌+◌, ◌-◌, ◌*◌, ◌<◌, ◌≤◌}
use native.Mathlib.Nat.{add-zero, zero-add, not-suc-le-zero, le_of_suc-le-suc}
use native.Mathlib.Numerals.{add-one}
use native.Mathlib.Omega.{arith}
use borrow.Rule.Slice.PartMut.{put_mid}
use lib.Bits.{xor_lt}
use lib.ListN.{length, get_or, take, drop}
use lib.Seq.{take-nil, take-append-add, get_or-drop}
use Rattle.words.specs.Word.{◌⊕◌}
use Rattle.words.specs.Lists.{All, none, more, tab}
use Rattle.words.proofs.Registers.{cons}
use Rattle.buffer.proofs.Fronts.{Front, front-none, front-more, front_length}
use Rattle.gf64.specs.Gf64.{mul, reciprocal}
use Rattle.multi_s01.specs.Multi.{seal_from, open_from}
use Rattle.gf64.proofs.Ring.{mul-block}
use Rattle.gf64.proofs.Inverses.{inverse-block}
use Rattle.blocks.specs.Blocks.{Block, block_at, spell, spelled}
use Rattle.keystream.proofs.Tables.{tab-agree}
use Rattle.blocks.proofs.Spelling.{tab-snoc, spell-length, spelled-append, block_same, block-front, block-past}
use Rattle.multi_s01.specs.Chains.{summed, before, chained, back_from, backed, unchained}

-- ---- what is sealed and what is recovered, as tables

-- the W_i of a list
abbrev pub at : List ℕ → ℕ → ℕ
at l i = get_or l i 0

pub seal-chain : (A w : ℕ) (z : ℕ → ℕ) (ps : List ℕ) → seal_from A w z ps ≡ tab (length ps) (λ i. mul A (at (summed z ps) i) ⊕ before w (at (summed z ps)) i)
seal-chain A w z [] = refl
seal-chain A w z (p ∷ ps) =
    let x = p ⊕ z 0 in
    let ws = summed (λ i. z (suc i)) ps in
    ap (λ (l : List ℕ). mul A x ⊕ w ∷ l)
    (seal-chain A x (λ i. z (suc i)) ps
    ∙ tab-agree (length ps) (λ i. mul A (at ws i) ⊕ before x (at ws) i) (λ i. mul A (at ws i) ⊕ at (x ∷ ws) i) (λ i _. ap (λ (k : ℕ). mul A (at ws i) ⊕ k) (one x ws i)))
  where
    one : (x : ℕ) (ws : List ℕ) (i : ℕ) → before x (at ws) i ≡ at (x ∷ ws) i
    one x ws zero = refl
    one x ws (suc i) = refl

back_from_lem : (I w c : ℕ) (cs : List ℕ) (i : ℕ) → back_from I (mul I (c ⊕ w)) (at cs) i ≡ back_from I w (at (c ∷ cs)) (suc i)
back_from_lem I w c cs zero = refl
back_from_lem I w c cs (suc i) = ap (λ (x : ℕ). mul I (at cs (suc i) ⊕ x)) (back_from_lem I w c cs i)

pub open-chain : (A w : ℕ) (z : ℕ → ℕ) (cs : List ℕ) → open_from A w z cs ≡ tab (length cs) (λ i. back_from (reciprocal A) w (at cs) i ⊕ z i)
open-chain A w z [] = refl
open-chain A w z (c ∷ cs) =
    let x = mul (reciprocal A) (c ⊕ w) in
    ap (λ (l : List ℕ). x ⊕ z 0 ∷ l)
    (open-chain A x (λ i. z (suc i)) cs
    ∙ tab-agree (length cs) (λ i. back_from (reciprocal A) x (at cs) i ⊕ z (suc i)) (λ i. back_from (reciprocal A) w (at (c ∷ cs)) (suc i) ⊕ z (suc i))
    (λ i _. ap (λ (k : ℕ). k ⊕ z (suc i)) (back_from_lem (reciprocal A) w c cs i)))

pub recovered-blocks : (A w : ℕ) (z : ℕ → ℕ) (cs : List ℕ) → Block A → ((i : ℕ) → Block (z i)) → All Block (open_from A w z cs)
recovered-blocks A w z [] ha hz = none
recovered-blocks A w z (c ∷ cs) ha hz =
    more (xor_lt 64 (mul (reciprocal A) (c ⊕ w)) (z 0) (mul-block (reciprocal A) (c ⊕ w) (inverse-block A ha)) (hz 0))
    (recovered-blocks A (mul (reciprocal A) (c ⊕ w)) (λ i. z (suc i)) cs ha (λ i. hz (suc i)))

-- W_i depends on what comes before it only
before_same : (w : ℕ) (x y : ℕ → ℕ) (n i : ℕ) → ((k : ℕ) → k < n → x k ≡ y k) → i < n → before w x i ≡ before w y i
before_same w x y n zero h q = refl
before_same w x y n (suc i) h q = h i (omega arith)

pub chained_same : (A : ℕ) (x y : ℕ → ℕ) (n : ℕ) → ((k : ℕ) → k < n → x k ≡ y k) → tab n (chained A x) ≡ tab n (chained A y)
chained_same A x y n h = tab-agree n (chained A x) (chained A y) (λ i q. ap₂ (λ (a b : ℕ). mul A a ⊕ b) (h i q) (before_same 0 x y n i h q))

pub back-same : (I w : ℕ) (c d : ℕ → ℕ) (n i : ℕ) → ((k : ℕ) → k < n → c k ≡ d k) → i < n → back_from I w c i ≡ back_from I w d i
back-same I w c d n zero h q = ap (λ (k : ℕ). mul I (k ⊕ w)) (h 0 q)
back-same I w c d n (suc i) h q = ap₂ (λ (a b : ℕ). mul I (a ⊕ b)) (h (suc i) q) (back-same I w c d n i h (omega arith))

-- ---- sums

pub summed-append : (z : ℕ → ℕ) (a b : List ℕ) → summed z (a ++ b) ≡ summed z a ++ summed (λ i. z (length a + i)) b
summed-append z [] b = summed_same z (λ i. z (0 + i)) b (λ i. ap z (sym (zero-add i)))
  where
    summed_same : (y z : ℕ → ℕ) (l : List ℕ) → ((i : ℕ) → y i ≡ z i) → summed y l ≡ summed z l
    summed_same y z [] h = refl
    summed_same y z (x ∷ l) h = cons (ap (λ (k : ℕ). x ⊕ k) (h 0)) (summed_same (λ i. y (suc i)) (λ i. z (suc i)) l (λ i. h (suc i)))
summed-append z (x ∷ a) b =
    ap (λ (l : List ℕ). x ⊕ z 0 ∷ l)
    (summed-append (λ i. z (suc i)) a b ∙ ap (λ (l : List ℕ). summed (λ i. z (suc i)) a ++ l) (shifted b))
  where
    shifted : (l : List ℕ) → summed (λ i. z (suc (length a + i))) l ≡ summed (λ i. z (suc (length a) + i)) l
    shifted l = ap (λ (f : ℕ → ℕ). summed f l) (λ j i. z (let e : suc (length a + i) ≡ suc (length a) + i = omega arith in e j))

pub summed-tab : (z p : ℕ → ℕ) (n : ℕ) → summed z (tab n p) ≡ tab n (λ i. p i ⊕ z i)
summed-tab z p zero = refl
summed-tab z p (suc n) = ap (λ (l : List ℕ). p 0 ⊕ z 0 ∷ l) (summed-tab (λ i. z (suc i)) (λ i. p (suc i)) n)

pub summed-length : (z : ℕ → ℕ) (l : List ℕ) → length (summed z l) ≡ length l
summed-length z [] = refl
summed-length z (x ∷ l) = ap suc (summed-length (λ i. z (suc i)) l)

pub summed-blocks : (z : ℕ → ℕ) (l : List ℕ) → All Block l → ((i : ℕ) → Block (z i)) → All Block (summed z l)
summed-blocks z [] none hz = none
summed-blocks z (x ∷ l) (more p h) hz = more (xor_lt 64 x (z 0) p (hz 0)) (summed-blocks (λ i. z (suc i)) l h (λ i. hz (suc i)))

-- ---- blocks in a buffer

-- block i of blocks that stand one after the other
pub block_in : (l rest : List ℕ) (i : ℕ) → All Block l → i < length l → block_at (spelled l ++ rest) (8 * i) ≡ at l i
block_in [] rest i none q = absurd (not-suc-le-zero q)
block_in (x ∷ l) rest zero (more p h) q =
    ap (λ (s : List ℕ). block_at s 0) (append_assoc (spell x) (spelled l) rest) ∙ block-front x (spelled l ++ rest) p
block_in (x ∷ l) rest (suc i) (more p h) q =
    let e : 8 * suc i ≡ 8 + 8 * i = omega arith in
    ap₂ block_at (append_assoc (spell x) (spelled l) rest) e
    ∙ block-past (spell x) (spelled l ++ rest) 8 (8 * i) (spell-length x)
    ∙ block_in l rest i h (le_of_suc-le-suc q)

pub spelled-take : (k : ℕ) (l : List ℕ) → spelled (take k l) ≡ take (8 * k) (spelled l)
spelled-take zero l = refl
spelled-take (suc k) [] = sym (take-nil (8 * suc k))
spelled-take (suc k) (x ∷ l) =
    let e : length (spell x) + 8 * k ≡ 8 * suc k = omega (arith, spell-length x) in
    ap (λ (t : List ℕ). spell x ++ t) (spelled-take k l)
    ∙ sym (take-append-add (spell x) (spelled l) (8 * k))
    ∙ ap (λ (n : ℕ). take n (spell x ++ spelled l)) e

-- the front of a buffer whose blocks were replaced, and the block that comes next
pub record Replaced (f : ℕ → ℕ) (old out : List ℕ) (i : ℕ) : Type 0 where
  pub front : Front (spelled (tab i f)) old out (8 * i)

pub replaced-none : (f : ℕ → ℕ) (before : List ℕ) → Replaced f before before 0
replaced-none f before = record { front = front-none before }

pub replaced-next : {f : ℕ → ℕ} {before out : List ℕ} {i : ℕ} → Replaced f before out i → block_at out (8 * i) ≡ block_at before (8 * i)
replaced-next {f} {before} {out} {i} r =
    let p = spelled (tab i f) in
    ap (λ (l : List ℕ). block_at l (8 * i)) r.front.is
    ∙ ap (block_at (p ++ drop (8 * i) before)) (sym (add-zero (8 * i)))
    ∙ block-past p (drop (8 * i) before) (8 * i) 0 r.front.size
    ∙ block_same (drop (8 * i) before) before 0 (8 * i) (λ j _. get_or-drop (8 * i) before (0 + j) 0 ∙ ap (λ (k : ℕ). get_or before (8 * i + k) 0) (zero-add j))

pub replaced-more : {f : ℕ → ℕ} {before out ys : List ℕ} {i x : ℕ} → 8 * i + 8 ≤ length before → x ≡ f i → Replaced f before out i
    → ys ≡ spell x ++ drop 8 (take (length out - 8 * i) (drop (8 * i) out)) → Replaced f before (put_mid (8 * i) (length out - 8 * i) out ys) (i + 1)
replaced-more {f} {before} {out} {ys} {i} {x} h e r k =
    let n : 8 * i + 8 ≡ 8 * (i + 1) = omega arith in
    let l : spelled (tab i f) ++ spell x ≡ spelled (tab (i + 1) f) =
    ap (λ (t : List ℕ). spelled (tab i f) ++ t) (ap spell e ∙ sym (append-nil (spell (f i))))
    ∙ sym (spelled-append (tab i f) (f i ∷ []))
    ∙ ap spelled (sym (ap (λ (m : ℕ). tab m f) (add-one i) ∙ tab-snoc i f)) in
    record {
      front =
          subst (λ (m : ℕ). Front (spelled (tab (i + 1) f)) before (put_mid (8 * i) (length out - 8 * i) out ys) m) n
          (subst (λ (p : List ℕ). Front p before (put_mid (8 * i) (length out - 8 * i) out ys) (8 * i + 8)) l
          (front-more (spell x) ys 8 (spell-length x) h r.front k));
    }

pub replaced-length : {f : ℕ → ℕ} {before out : List ℕ} {i : ℕ} → Replaced f before out i → length out ≡ length before
replaced-length r = front_length r.front

pub replaced-all : {f : ℕ → ℕ} {before out : List ℕ} {i n : ℕ} → i ≡ n → Replaced f before out i → out ≡ spelled (tab n f) ++ drop (8 * n) before
replaced-all {f} {before} e r = r.front.is ∙ ap (λ (k : ℕ). spelled (tab k f) ++ drop (8 * k) before) e

-- ---- the loop of a sealing

pub record Chaining (A : ℕ) (out₀ out : List ℕ) (n prev i : ℕ) : Type 0 where
  pub fits : 8 * n ≤ length out₀
  pub same_length : length out ≡ length out₀
  pub done : Replaced (chained A (λ k. block_at out₀ (8 * k))) out₀ out i
  pub last : prev ≡ before 0 (λ k. block_at out₀ (8 * k)) i

pub chaining-none : (A : ℕ) (out : List ℕ) (n : ℕ) → 8 * n ≤ length out → Chaining A out out n 0 0
chaining-none A out n h = record { fits = h; same_length = refl; done = replaced-none _ out; last = refl }

pub chaining-more : {A : ℕ} {out₀ out ys : List ℕ} {n prev i w y : ℕ} → i < n → Chaining A out₀ out n prev i → w ≡ block_at out (8 * i)
    → y ≡ mul A w ⊕ prev → ys ≡ spell y ++ drop 8 (take (length out - 8 * i) (drop (8 * i) out))
    → Chaining A out₀ (put_mid (8 * i) (length out - 8 * i) out ys) n w (i + 1)
chaining-more {A} {out₀} {i = i} q s ew ey k =
    let h = s.fits in
    let x : ℕ → ℕ = λ k. block_at out₀ (8 * k) in
    let is : _ ≡ x i = ew ∙ replaced-next s.done in
    let d = replaced-more (omega arith) (ey ∙ ap₂ (λ (a b : ℕ). mul A a ⊕ b) is s.last) s.done k in
    record {
      fits = h;
      same_length = replaced-length d;
      done = d;
      last = is ∙ ap (before 0 x) (sym (add-one i));
    }

-- ---- the loop of an opening

pub record Unchaining (I : ℕ) (s held₀ held : List ℕ) (n prev i : ℕ) : Type 0 where
  pub fits : 8 * n ≤ length held₀
  pub in-sealed : 8 * n ≤ length s
  pub same_length : length held ≡ length held₀
  pub done : Replaced (unchained I s held₀) held₀ held i
  pub last : prev ≡ before 0 (backed I (λ k. block_at s (8 * k))) i

pub unchaining-none : (I : ℕ) (s held : List ℕ) (n : ℕ) → 8 * n ≤ length s → 8 * n ≤ length held → Unchaining I s held held n 0 0
unchaining-none I s held n hs h = record { fits = h; in-sealed = hs; same_length = refl; done = replaced-none _ held; last = refl }

back_step : (I : ℕ) (c : ℕ → ℕ) (i : ℕ) → backed I c i ≡ mul I (c i ⊕ before 0 (backed I c) i)
back_step I c zero = refl
back_step I c (suc i) = refl

pub unchaining-more : {I : ℕ} {s held₀ held ys : List ℕ} {n prev i c w h y : ℕ} → i < n → Unchaining I s held₀ held n prev i
    → c ≡ block_at s (8 * i) → w ≡ mul I (c ⊕ prev) → h ≡ block_at held (8 * i) → y ≡ h ⊕ (c ⊕ w)
    → ys ≡ spell y ++ drop 8 (take (length held - 8 * i) (drop (8 * i) held)) → Unchaining I s held₀ (put_mid (8 * i) (length held - 8 * i) held ys) n w (i + 1)
unchaining-more {I} {s} {held₀} {i = i} q u ec ew eh ey k =
    let f = u.fits in
    let x : ℕ → ℕ = λ k. block_at s (8 * k) in
    let wi : _ ≡ backed I x i = ew ∙ ap₂ (λ (a b : ℕ). mul I (a ⊕ b)) ec u.last ∙ sym (back_step I x i) in
    let hi : _ ≡ block_at held₀ (8 * i) = eh ∙ replaced-next u.done in
    let d = replaced-more (omega arith) (ey ∙ (λ j. hi j ⊕ (ec j ⊕ wi j))) u.done k in
    record {
      fits = f;
      in-sealed = u.in-sealed;
      same_length = replaced-length d;
      done = d;
      last = wi ∙ ap (before 0 (backed I x)) (sym (add-one i));
    }
