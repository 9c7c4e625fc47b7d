-- Words go to a buffer one by one: the bytes of a word stand behind those of the words before it.
-- Assumes nothing.
use mathlib.Core.Path.{◌≡◌, refl, ap, sym, ◌∙◌}
use mathlib.Core.List.{List, [], ◌∷◌, ◌++◌, append_assoc, append-nil}
use Prim.Native.Nat.{ℕ, zero, suc, ◌+◌, ◌-◌, ◌*◌, ◌<◌, ◌≤◌}
use native.Mathlib.Nat.{le_of_suc-le-suc, not-suc-le-zero}
use native.Mathlib.Numerals.{add-one}
use native.Mathlib.Omega.{arith}
use borrow.Rule.Slice.PartMut.{put_mid}
use lib.ListN.{length, get_or, take, drop, set, length-append}
use lib.Seq.{take_all, sets-eq}
use Rattle.words.specs.Strings.{bytes_of}
use Rattle.buffer.proofs.Fronts.{Front, front-more}
use Rattle.ciphers.specs.States.{spelt}

-- the bytes of a word, stored one by one
pub word-stored : (w : ℕ) (b o : List ℕ) → b ≡ bytes_of w → 4 ≤ length o
    → set (set (set (set o 0 (get_or b 0 0)) 1 (get_or b 1 0)) 2 (get_or b 2 0)) 3 (get_or b 3 0) ≡ bytes_of w ++ drop 4 o
unfolding bytes_of
word-stored w b o e h =
    ap (λ (x : List ℕ). set (set (set (set o 0 (get_or x 0 0)) 1 (get_or x 1 0)) 2 (get_or x 2 0)) 3 (get_or x 3 0)) e ∙ sets-eq (bytes_of w) o 0 h

four_bytes : (w : ℕ) → length (bytes_of w) ≡ 4
unfolding bytes_of
four_bytes w = refl

pub spelt-length : (w : List ℕ) → length (spelt w) ≡ 4 * length w
spelt-length [] = refl
spelt-length (x ∷ w) =
    length-append (bytes_of x) (spelt w)
    ∙ (let e : length (bytes_of x) + length (spelt w) ≡ 4 * suc (length w) = omega (arith, four_bytes x, spelt-length w) in e)

spelt-more : (w : List ℕ) (i : ℕ) → i < length w → spelt (take (suc i) w) ≡ spelt (take i w) ++ bytes_of (get_or w i 0)
spelt-more [] i h = absurd (not-suc-le-zero h)
spelt-more (x ∷ w) zero h = append-nil (bytes_of x)
spelt-more (x ∷ w) (suc i) h =
    ap (λ (l : List ℕ). bytes_of x ++ l) (spelt-more w i (le_of_suc-le-suc h)) ∙ sym (append_assoc (bytes_of x) (spelt (take i w)) (bytes_of (get_or w i 0)))

-- a word in the part that is lent
pub front-word : {p before out : List ℕ} {a : ℕ} (x : ℕ) (ys : List ℕ) → a + 4 ≤ length before → Front p before out a
    → ys ≡ bytes_of x ++ drop 4 (take (length out - a) (drop a out)) → Front (p ++ bytes_of x) before (put_mid a (length out - a) out ys) (a + 4)
front-word x ys h f e = front-more (bytes_of x) ys 4 (four_bytes x) h f e

-- one word more
pub word_more : (w before out ys : List ℕ) (i : ℕ) → i < length w → 4 * i + 4 ≤ length before → Front (spelt (take i w)) before out (4 * i)
    → ys ≡ bytes_of (get_or w i 0) ++ drop 4 (take (length out - 4 * i) (drop (4 * i) out))
    → Front (spelt (take (i + 1) w)) before (put_mid (4 * i) (length out - 4 * i) out ys) (4 * (i + 1))
word_more w before out ys i q h f e =
    let n : 4 * (i + 1) ≡ 4 * i + 4 = omega arith in
    let s : spelt (take (i + 1) w) ≡ spelt (take i w) ++ bytes_of (get_or w i 0) = ap (λ (k : ℕ). spelt (take k w)) (add-one i) ∙ spelt-more w i q in
    rw (n, s) (front-word (get_or w i 0) ys h f e)

-- all of them
pub words-all : (w before out : List ℕ) (i : ℕ) → length w ≡ i → Front (spelt (take i w)) before out (4 * i) → out ≡ spelt w ++ drop (4 * i) before
words-all w before out i n f = f.is ∙ ap (λ (x : List ℕ). spelt x ++ drop (4 * i) before) (take_all i w (omega arith))
