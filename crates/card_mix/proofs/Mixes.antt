-- Sample by sample in place, the members' talks become what each member is sent: the first j samples of a part are sums, and the rest is still the talk.
-- Assumes nothing.
use mathlib.Core.Path.{◌≡◌, refl, ap, ap₂, sym, ◌∙◌}
use mathlib.Core.Bool.{Bool, true, false}
use mathlib.Core.List.{List, [], ◌∷◌, ◌++◌, append_assoc, append-nil}
use Prim.Native.Nat.{ℕ, zero, suc, ◌+◌, ◌-◌, ◌*◌, ◌/◌, ◌%◌, ◌^◌, ◌<◌, ◌≤◌, min}
use native.Mathlib.Nat.{not-suc-le-zero, le_of_suc-le-suc}
use native.Mathlib.Numerals.{add-one}
use native.Mathlib.Omega.{arith}
use borrow.Author.Tests.{lt-ltb, le-ltb, ltb-true, ltb-false}
use lib.Dec.{ltb}
use lib.ListN.{length, get_or, take, drop, set, length-append, length-drop}
use lib.Seq.{length-take-le, take-suc, take_all, drop-length, get_or-append-add, get_or-drop}
use Rattle.words.specs.Tests.{pick}
use Rattle.buffer.proofs.Fronts.{Front, front-store}
use Rattle.card_mix.specs.Sums.{raised, raised_sum, sum_at, sums_from, without, mix_for}
use Rattle.card_mix.specs.Parts.{join_tab, parts_in, mixes_of}
use Rattle.card_mix.specs.Columns.{raised_at, clamped_sum, stored, total_at, shared_out, column_of, columns_of}
use Rattle.card_mix.proofs.Parts.{join-agree, parts-count, part-long, join-parts, join-get, join-two}

-- ---- sums of samples

sum-append : (a b : List (List ℕ)) (j : ℕ) → raised_sum (a ++ b) j ≡ raised_sum a j + raised_sum b j
sum-append [] b j = omega arith
sum-append (t ∷ a) b j = let e = sum-append a b j in omega (arith, e)

sum-take : (ts : List (List ℕ)) (k j : ℕ) → k < length ts → raised_sum (take (suc k) ts) j ≡ raised_sum (take k ts) j + raised (get_or ts k []) j
sum-take ts k j h =
    ap (λ (x : List (List ℕ)). raised_sum x j) (take-suc ts k [] h) ∙ sum-append (take k ts) (get_or ts k [] ∷ []) j
    ∙ ap (λ (x : ℕ). raised_sum (take k ts) j + x) (let e : raised (get_or ts k []) j + 0 ≡ raised (get_or ts k []) j = omega arith in e)

-- all but one: the sum without it, and how many they are
sum-without : (ts : List (List ℕ)) (k j : ℕ) → k < length ts → raised (get_or ts k []) j + raised_sum (without k ts) j ≡ raised_sum ts j
sum-without [] k j h = absurd (not-suc-le-zero h)
sum-without (t ∷ ts) zero j h = refl
sum-without (t ∷ ts) (suc k) j h = let e = sum-without ts k j (le_of_suc-le-suc h) in omega (arith, e)

count-without : (ts : List (List ℕ)) (k : ℕ) → k < length ts → length (without k ts) + 1 ≡ length ts
count-without [] k h = absurd (not-suc-le-zero h)
count-without (t ∷ ts) zero h = omega arith
count-without (t ∷ ts) (suc k) h = let e = count-without ts k (le_of_suc-le-suc h) in omega (arith, e)

sums-long : (s j : ℕ) (ts : List (List ℕ)) → length (sums_from s j ts) ≡ 2 * s
sums-long zero j ts = refl
sums-long (suc s) j ts = let h = sums-long s (suc j) ts in omega (arith, h)

pub mix-length : (s : ℕ) (ts : List (List ℕ)) (k : ℕ) → length (mix_for (2 * s) ts k) ≡ 2 * s
unfolding mix_for
mix-length s ts k = sums-long (2 * s / 2) 0 (without k ts) ∙ (let e : 2 * (2 * s / 2) ≡ 2 * s = omega arith in e)

-- one sample more of what is sent
sums-take : (s i j : ℕ) (ts : List (List ℕ)) → j < s →
    take (2 * (j + 1)) (sums_from s i ts) ≡ take (2 * j) (sums_from s i ts) ++ (sum_at ts (i + j) / 256 ∷ sum_at ts (i + j) % 256 ∷ [])
sums-take zero i j ts h = absurd (not-suc-le-zero h)
sums-take (suc s) i zero ts h = ap (λ (x : ℕ). sum_at ts x / 256 ∷ sum_at ts x % 256 ∷ []) (let e : i ≡ i + 0 = omega arith in e)
sums-take (suc s) i (suc j) ts h =
    let e : 2 * (suc j + 1) ≡ suc (suc (2 * (j + 1))) = omega arith in
    let f : 2 * suc j ≡ suc (suc (2 * j)) = omega arith in
    let g : suc i + j ≡ i + suc j = omega arith in
    let x = sum_at ts i / 256 in
    let y = sum_at ts i % 256 in
    ap (λ (k : ℕ). take k (sums_from (suc s) i ts)) e
    ∙ ap (λ (z : List ℕ). x ∷ y ∷ z) (sums-take s (suc i) j ts (le_of_suc-le-suc h))
    ∙ ap (λ (k : ℕ). (x ∷ y ∷ take (2 * j) (sums_from s (suc i) ts)) ++ (sum_at ts k / 256 ∷ sum_at ts k % 256 ∷ [])) g
    ∙ sym (ap (λ (k : ℕ). take k (sums_from (suc s) i ts) ++ (sum_at ts (i + suc j) / 256 ∷ sum_at ts (i + suc j) % 256 ∷ [])) f)

-- ---- a buffer of m talks of s samples each

module _ (m s : ℕ) (l : List ℕ) (fits : m * (2 * s) ≤ length l) where
  n : ℕ
  n = 2 * s

  talks : List (List ℕ)
  talks = parts_in m (2 * s) l

  rest : List ℕ
  rest = drop (m * (2 * s)) l

  talk : ℕ → List ℕ
  talk i = get_or (parts_in m (2 * s) l) i []

  mix : ℕ → List ℕ
  mix i = sums_from s 0 (without i (parts_in m (2 * s) l))

  -- the first j samples sent, and the rest of the talk
  front : ℕ → ℕ → List ℕ
  front j i = take (2 * j) (mix i) ++ drop (2 * j) (talk i)

  talk-long : (i : ℕ) → i < m → length (talk i) ≡ 2 * s
  unfolding talk
  talk-long i q = part-long m (2 * s) l i fits q

  mix-long : (i : ℕ) → length (mix i) ≡ 2 * s
  unfolding mix
  mix-long i = sums-long s 0 (without i (parts_in m (2 * s) l))

  sent-long : (j i : ℕ) → j ≤ s → length (take (2 * j) (mix i)) ≡ 2 * j
  sent-long j i h = length-take-le (2 * j) (mix i) (let e = mix-long i in omega (arith, e))

  front-is : (j i : ℕ) → j ≤ s → i < m → Front (take (2 * j) (mix i)) (talk i) (front j i) (2 * j)
  unfolding front
  front-is j i h q = record { size = sent-long j i h; fits = let e = talk-long i q in omega (arith, e); is = refl }

  front_long : (j i : ℕ) → j ≤ s → i < m → length (front j i) ≡ 2 * s
  unfolding front
  front_long j i h q =
      let a = sent-long j i h in
      let e = talk-long i q in
      length-append (take (2 * j) (mix i)) (drop (2 * j) (talk i)) ∙ (let z : length (take (2 * j) (mix i)) + length (drop (2 * j) (talk i)) ≡ 2 * s = omega (arith, a, e, length-drop (2 * j) (talk i)) in z)

  -- what is not yet sent is the talk
  front-talk : (j i d : ℕ) → j ≤ s → get_or (front j i) (2 * j + d) 0 ≡ get_or (talk i) (2 * j + d) 0
  unfolding front
  front-talk j i d h =
      ap (λ (k : ℕ). get_or (front j i) (k + d) 0) (sym (sent-long j i h)) ∙ get_or-append-add (take (2 * j) (mix i)) (drop (2 * j) (talk i)) d 0 ∙ get_or-drop (2 * j) (talk i) d 0

  -- one sample more
  front-next : (j i : ℕ) → j < s → i < m → (x : ℕ) → x ≡ sum_at (without i (parts_in m (2 * s) l)) j → set (set (front j i) (2 * j) (x / 256)) (2 * j + 1) (x % 256) ≡ front (j + 1) i
  unfolding mix front
  front-next j i h q x e =
      let t = talk-long i q in
      let a = front-is j i (omega arith) q in
      let b = front-store (x / 256) (omega (arith, t)) a in
      let c = front-store (x % 256) (omega (arith, t)) b in
      let ts = without i (parts_in m (2 * s) l) in
      let z : take (2 * (j + 1)) (mix i) ≡ (take (2 * j) (mix i) ++ (x / 256 ∷ [])) ++ (x % 256 ∷ []) =
      sums-take s 0 j ts h
      ∙ ap (λ (y : ℕ). take (2 * j) (mix i) ++ (y / 256 ∷ y % 256 ∷ [])) (ap (sum_at ts) (let w : 0 + j ≡ j = omega arith in w) ∙ sym e)
      ∙ sym (append_assoc (take (2 * j) (mix i)) (x / 256 ∷ []) (x % 256 ∷ [])) in
      c.is ∙ ap₂ (λ (y : List ℕ) (k : ℕ). y ++ drop k (talk i)) (sym z) (let w : 2 * j + 1 + 1 ≡ 2 * (j + 1) = omega arith in w)

  -- ---- one column

  module _ (j : ℕ) (h : j < s) where
    -- the places of the first k members are written
    stage : ℕ → ℕ → List ℕ
    stage k i = pick (ltb i k) (front (j + 1) i) (front j i)

    stage-done : (k i : ℕ) → i < k → stage k i ≡ front (j + 1) i
    unfolding stage
    stage-done k i q = ap (λ (b : Bool). pick b (front (j + 1) i) (front j i)) (lt-ltb i k q)

    stage-left : (k i : ℕ) → k ≤ i → stage k i ≡ front j i
    unfolding stage
    stage-left k i q = ap (λ (b : Bool). pick b (front (j + 1) i) (front j i)) (le-ltb i k q)

    stage-long : (k i : ℕ) → i < m → length (stage k i) ≡ 2 * s
    unfolding stage
    stage-long k i q = go (ltb i k)
      where
        go : (b : Bool) → length (pick b (front (j + 1) i) (front j i)) ≡ 2 * s
        go true = front_long (j + 1) i (omega arith) q
        go false = front_long j i (omega arith) q

    -- a sample of a talk, read where it stands
    read : (f : ℕ → List ℕ) → ((i : ℕ) → i < m → length (f i) ≡ 2 * s) → (i : ℕ) → i < m → f i ≡ front j i → raised_at (join_tab m f ++ rest) (i * (2 * s) + 2 * j) ≡ raised (talk i) j
    unfolding raised_at
    read f long i q e =
        let at : (d : ℕ) → d < 2 → get_or (join_tab m f ++ rest) (i * (2 * s) + 2 * j + d) 0 ≡ get_or (talk i) (2 * j + d) 0 =
        λ d w. ap (λ (k : ℕ). get_or (join_tab m f ++ rest) k 0) (let z : i * (2 * s) + 2 * j + d ≡ i * (2 * s) + (2 * j + d) = omega arith in z)
        ∙ join-get (2 * s) rest m f long i (2 * j + d) q (omega arith) ∙ ap (λ (x : List ℕ). get_or x (2 * j + d) 0) e ∙ front-talk j i d (omega arith) in
        let z : (k : ℕ) → k + 0 ≡ k = λ k. omega arith in
        ap₂ (λ (a b : ℕ). (a * 256 + b + 2 ^ 15) % 2 ^ 16)
        (sym (ap (λ (k : ℕ). get_or (join_tab m f ++ rest) k 0) (z (i * (2 * s) + 2 * j))) ∙ at 0 (omega arith) ∙ ap (λ (k : ℕ). get_or (talk i) k 0) (z (2 * j)))
        (at 1 (omega arith))

    total-is : (k : ℕ) → k ≤ m → total_at k (2 * s) (2 * j) (join_tab m (front j) ++ rest) ≡ raised_sum (take k talks) j
    unfolding talks talk
    total-is zero q = refl
    total-is (suc k) q =
        ap₂ (λ (a b : ℕ). a + b) (total-is k (omega arith)) (read (front j) (λ i w. front_long j i (omega arith) w) k q refl)
        ∙ sym (sum-take talks k j (let c = parts-count m (2 * s) l in omega (arith, c)))

    total-all : total_at m (2 * s) (2 * j) (join_tab m (front j) ++ rest) ≡ raised_sum talks j
    unfolding talks
    total-all = total-is m (omega arith) ∙ ap (λ (x : List (List ℕ)). raised_sum x j) (take_all m talks (let c = parts-count m (2 * s) l in omega (arith, c)))

    -- the total without a member's own sample, clamped, is what it is sent
    clamped-is : (i own t o : ℕ) → i < m → own ≡ raised (talk i) j → t ≡ raised_sum talks j → o ≡ m - 1 → clamped_sum (t - own) o ≡ sum_at (without i (parts_in m (2 * s) l)) j
    unfolding clamped_sum talks talk
    clamped-is i own t o q e f g =
        let ts = parts_in m (2 * s) l in
        let c = parts-count m (2 * s) l in
        let i' : i < length ts = omega (arith, c) in
        let a : t - own ≡ raised_sum (without i ts) j = let w = sum-without ts i j i' in omega (arith, w, e, f) in
        let b : o ≡ length (without i ts) = let w = count-without ts i i' in omega (arith, w, c, g) in
        ap₂ (λ (x y : ℕ). (min (2 ^ 16 - 1) (x + 2 ^ 15 - 2 ^ 15 * y) + 2 ^ 15) % 2 ^ 16) a b

    shared-is : (t : ℕ) → t ≡ raised_sum talks j → (k : ℕ) → k ≤ m → shared_out k (2 * s) (2 * j) t (m - 1) (join_tab m (front j) ++ rest) ≡ join_tab m (stage k) ++ rest
    unfolding stored
    shared-is t e zero q = ap (λ (x : List ℕ). x ++ rest) (join-agree m (front j) (stage 0) (λ i w. sym (stage-left 0 i (omega arith))))
    shared-is t e (suc k) q =
        let now = join_tab m (stage k) ++ rest in
        let own = read (stage k) (λ i w. stage-long k i w) k q (stage-left k k (omega arith)) in
        let x = clamped_sum (t - raised_at now (k * (2 * s) + 2 * j)) (m - 1) in
        let x-is = clamped-is k (raised_at now (k * (2 * s) + 2 * j)) t (m - 1) q own e refl in
        ap (λ (y : List ℕ). stored y (k * (2 * s) + 2 * j) (clamped_sum (t - raised_at y (k * (2 * s) + 2 * j)) (m - 1))) (shared-is t e k (omega arith))
        ∙ join-two (2 * s) rest m (stage k) (stage (suc k)) (λ i w. stage-long k i w) k (2 * j) (x / 256) (x % 256) q (omega arith)
        (ap (λ (y : List ℕ). set (set y (2 * j) (x / 256)) (2 * j + 1) (x % 256)) (stage-left k k (omega arith)) ∙ front-next j k h q x x-is ∙ sym (stage-done (suc k) k (omega arith)))
        (λ i w ne. other i w ne)
      where
        other : (i : ℕ) → i < m → (i ≡ k → ⊥) → stage k i ≡ stage (suc k) i
        other i w ne = by (ltb i k) refl
          where
            by : (b : Bool) → ltb i k ≡ b → stage k i ≡ stage (suc k) i
            by true z = stage-done k i (ltb-true i k z) ∙ sym (stage-done (suc k) i (let y = ltb-true i k z in omega (arith, y)))
            by false z = stage-left k i (ltb-false i k z) ∙ sym (stage-left (suc k) i (let y = ltb-false i k z in omega (arith, y, ne)))

    column-is : column_of m (2 * s) (2 * j) (join_tab m (front j) ++ rest) ≡ join_tab m (front (j + 1)) ++ rest
    unfolding column_of
    column-is =
        shared-is (total_at m (2 * s) (2 * j) (join_tab m (front j) ++ rest)) total-all m (omega arith)
        ∙ ap (λ (x : List ℕ). x ++ rest) (join-agree m (stage m) (front (j + 1)) (λ i w. stage-done m i w))

  columns-are : (j : ℕ) → j ≤ s → columns_of j m (2 * s) l ≡ join_tab m (front j) ++ rest
  unfolding rest front talk
  columns-are zero q = sym (join-parts m (2 * s) l)
  columns-are (suc j) q =
      ap (column_of m (2 * s) (2 * j)) (columns-are j (omega arith)) ∙ column-is j q ∙ ap (λ (k : ℕ). join_tab m (front k) ++ rest) (add-one j)

  pub columns-mix : columns_of s m (2 * s) l ≡ mixes_of m (2 * s) l ++ drop (m * (2 * s)) l
  unfolding rest front mix talk mixes_of mix_for
  columns-mix =
      columns-are s (omega arith)
      ∙ ap (λ (x : List ℕ). x ++ rest)
      (join-agree m (front s) (mix_for (2 * s) (parts_in m (2 * s) l))
      (λ i w. ap₂ (λ (x y : List ℕ). x ++ y) (take_all (2 * s) (mix i) (let e = mix-long i in omega (arith, e)))
      (ap (λ (k : ℕ). drop k (talk i)) (sym (talk-long i w)) ∙ drop-length (talk i))
      ∙ append-nil (mix i)
      ∙ ap (λ (k : ℕ). sums_from k 0 (without i (parts_in m (2 * s) l))) (let z : s ≡ 2 * s / 2 = omega arith in z)))
