-- Strings that are written to a buffer one after the other: a part that is lent from the end of what is written and comes back joins it, and what is behind stays.
-- Assumes nothing.
use mathlib.Core.Path.{◌≡◌, refl, ap, sym, ◌∙◌}
use mathlib.Core.List.{List, [], ◌∷◌, ◌++◌, append_assoc}
use Prim.Native.Nat.{ℕ, suc, ◌+◌, ◌-◌, ◌<◌, ◌≤◌}
use native.Mathlib.Nat.{not-suc-le-zero}
use native.Mathlib.Numerals.{add-one}
use native.Mathlib.Omega.{arith}
use borrow.Rule.Slice.PartMut.{put_mid}
use lib.ListN.{length, get_or, take, drop, set, length-append, length-drop}
use lib.Seq.{drop-cons, take-suc, take_all, set_at}
use Rattle.keystream.proofs.Parts.{tail-length, part-more}

-- p, of a bytes, stands before what was there
pub record Front (p before out : List ℕ) (a : ℕ) : Type 0 where
  pub size : length p ≡ a
  pub fits : a ≤ length before
  pub is : out ≡ p ++ drop a before

pub front_length : {p before out : List ℕ} {a : ℕ} → Front p before out a → length out ≡ length before
front_length {p} {before} {out} {a} f =
    let s = f.size in
    let h = f.fits in
    ap length f.is ∙ length-append p (drop a before) ∙ (let e : length p + length (drop a before) ≡ length before = omega (arith, length-drop a before) in e)

pub front-none : (before : List ℕ) → Front [] before before 0
front-none before = record { size = refl; fits = omega arith; is = refl }

pub front-byte : (c : ℕ) (before : List ℕ) → 1 ≤ length before → Front (c ∷ []) before (set before 0 c) 1
front-byte c [] h = absurd (not-suc-le-zero h)
front-byte c (x ∷ before) h = record { size = refl; fits = h; is = refl }

-- the part that is lent has room for what fits
pub front-room : {p before out : List ℕ} {a : ℕ} → Front p before out a → (k : ℕ) → a + k ≤ length before
    → k ≤ length (take (length out - a) (drop a out))
front-room {out = out} {a} f k h = let n = front_length f in omega (arith, tail-length a out)

pub front-within : {p before out : List ℕ} {a : ℕ} → Front p before out a → a ≤ length out
front-within f = let n = front_length f in let h = f.fits in omega arith

-- b, of k bytes, in the part that is lent
pub front-more : {p before out : List ℕ} {a : ℕ} (b ys : List ℕ) (k : ℕ) → length b ≡ k → a + k ≤ length before → Front p before out a
    → ys ≡ b ++ drop k (take (length out - a) (drop a out)) → Front (p ++ b) before (put_mid a (length out - a) out ys) (a + k)
front-more {p} {before} {out} {a} b ys k l h f e =
    let s = f.size in
    record {
      size = length-append p b ∙ (let z : length p + length b ≡ a + k = omega arith in z);
      fits = h;
      is = part-more p b before out ys a k s h f.is e;
    }

-- one byte more, stored behind what is written
pub front-store : {p before out : List ℕ} {a : ℕ} (x : ℕ) → a < length before → Front p before out a → Front (p ++ (x ∷ [])) before (set out a x) (a + 1)
front-store {p} {before} {out} {a} x h f =
    let s = f.size in
    record {
      size = length-append p (x ∷ []) ∙ ap (λ (k : ℕ). k + 1) s;
      fits = omega arith;
      is =
          ap (λ (l : List ℕ). set l a x) (f.is ∙ ap (λ (l : List ℕ). p ++ l) (drop-cons before a 0 h))
          ∙ set_at p (get_or before a 0) (drop (suc a) before) x a s
          ∙ sym (append_assoc p (x ∷ []) (drop (suc a) before))
          ∙ ap (λ (k : ℕ). (p ++ (x ∷ [])) ++ drop k before) (sym (add-one a));
    }

-- the next byte of a string, behind those before it
pub front-next : (s : List ℕ) {before out : List ℕ} {i : ℕ} → i < length s → i < length before → Front (take i s) before out i →
    Front (take (i + 1) s) before (set out i (get_or s i 0)) (i + 1)
front-next s {before} {out} {i} q h f =
    let e : take (i + 1) s ≡ take i s ++ (get_or s i 0 ∷ []) = ap (λ (k : ℕ). take k s) (add-one i) ∙ take-suc s i 0 q in
    rw e (front-store (get_or s i 0) h f)

-- all of a string
pub front-all : (s : List ℕ) {before out : List ℕ} {i : ℕ} → i ≡ length s → Front (take i s) before out i → out ≡ s ++ drop (length s) before
front-all s {before} {out} {i} e f =
    f.is ∙ ap (λ (l : List ℕ). l ++ drop i before) (take_all i s (omega (arith, e))) ∙ ap (λ (k : ℕ). s ++ drop k before) e
