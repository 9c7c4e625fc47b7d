-- Text behind text: a piece and the bytes before it stand in front of a buffer, what is written behind its end joins it, and what is behind both stays.
-- Assumes nothing.
use mathlib.Core.Path.{◌≡◌, refl, ap, ap₂, sym, ◌∙◌, subst}
use mathlib.Core.List.{List, [], ◌∷◌, ◌++◌, append_assoc, append-nil}
use Prim.Native.Nat.{ℕ, ◌+◌, ◌-◌, ◌≤◌, ◌<◌}
use native.Mathlib.Nat.{zero-add}
use native.Mathlib.Omega.{arith}
use borrow.Rule.Slice.PartMut.{put_mid}
use lib.ListN.{length, take, drop, set, length-append, take-append-drop}
use lib.Seq.{length-take-le, take_at, drop_at, drop-drop, drop-length}
use Rattle.buffer.proofs.Fronts.{Front, front_length, front-more, front-store}
use Rattle.text.specs.Text.{Behind, Room, Written, figure}
use Rattle.text.specs.declared.Text.{Text}
use Rattle.text.proofs.Digits.{figure-most}

-- ---- a piece with the first at bytes before it

in-front : {p before out : List ℕ} {at r : ℕ} → Behind p at before out r → Front (take at before ++ p) before out r
in-front {p} {before} {out} {at} {r} b =
    let e = b.end in
    let h = b.fits in
    record {
      size = length-append (take at before) p ∙ (let z : length (take at before) + length p ≡ r = omega (arith, length-take-le at before (omega arith)) in z);
      fits = h;
      is = b.is;
    }

from_front : {p before out : List ℕ} {at r : ℕ} → at ≤ length before → Front (take at before ++ p) before out r → Behind p at before out r
from_front {p} {before} {out} {at} {r} h f =
    let s = f.size in
    record { end = omega (arith, length-append (take at before) p, length-take-le at before h); fits = f.fits; is = f.is }

first-bytes : {before : List ℕ} {at : ℕ} → at ≤ length before → Front (take at before) before before at
first-bytes {before} {at} h = record { size = length-take-le at before h; fits = h; is = sym (take-append-drop at before) }

-- ---- what holds of a piece

pub behind-length : {p before out : List ℕ} {at r : ℕ} → Behind p at before out r → length out ≡ length before
behind-length b = front_length (in-front b)

-- what stands before the end of it
pub behind-front : {p before out : List ℕ} {at r : ℕ} → Behind p at before out r → take r out ≡ take at before ++ p
behind-front {p} {before} {out} {at} {r} b = ap (take r) b.is ∙ take_at (take at before ++ p) (drop r before) r (in-front b).size

-- what stands behind it
pub behind-rest : {p before out : List ℕ} {at r : ℕ} → Behind p at before out r → (s : ℕ) → r ≤ s → drop s out ≡ drop s before
behind-rest {p} {before} {out} {at} {r} b s q =
    let k : r + (s - r) ≡ s = omega arith in
    ap (λ (x : ℕ). drop x out) (sym k)
    ∙ sym (drop-drop (s - r) r out)
    ∙ ap (drop (s - r)) (ap (drop r) b.is ∙ drop_at (take at before ++ p) (drop r before) r (in-front b).size)
    ∙ drop-drop (s - r) r before
    ∙ ap (λ (x : ℕ). drop x before) k

-- nothing
pub behind-none : {before : List ℕ} {at : ℕ} → at ≤ length before → Behind [] at before before at
behind-none {before} {at} h =
    from_front h (subst (λ (x : List ℕ). Front x before before at) (sym (append-nil (take at before))) (first-bytes h))

-- p in the part that is lent from at on
pub behind-part : (p ys before : List ℕ) (at k : ℕ) → length p ≡ k → at + k ≤ length before → ys ≡ p ++ drop k (take (length before - at) (drop at before)) →
    Behind p at before (put_mid at (length before - at) before ys) (at + k)
behind-part p ys before at k l h e =
    let w : at ≤ length before = omega arith in
    from_front w (front-more p ys k l h (first-bytes w) e)

-- one byte more, stored behind it
pub behind-store : {p before out : List ℕ} {at r : ℕ} (x : ℕ) → Behind p at before out r → r < length before → Behind (p ++ (x ∷ [])) at before (set out r x) (r + 1)
behind-store {p} {before} {out} {at} {r} x b h =
    let e = b.end in
    from_front (omega arith)
    (subst (λ (y : List ℕ). Front y before (set out r x) (r + 1)) (append_assoc (take at before) p (x ∷ [])) (front-store x h (in-front b)))

-- another piece behind it
pub behind_more : {p q before mid out : List ℕ} {at r s : ℕ} → Behind p at before mid r → Behind q r mid out s → Behind (p ++ q) at before out s
behind_more {p} {q} {before} {mid} {out} {at} {r} {s} b c =
    let e = b.end in
    let f = c.end in
    let n = behind-length b in
    let h = c.fits in
    record {
      end = f ∙ (let z : r + length q ≡ at + length (p ++ q) = omega (arith, length-append p q) in z);
      fits = omega arith;
      is =
          c.is
          ∙ ap₂ ◌++◌ (ap (λ (x : List ℕ). x ++ q) (behind-front b) ∙ append_assoc (take at before) p q) (behind-rest b s (omega arith));
    }

-- a piece at the start
pub behind-start : {p before out : List ℕ} {r : ℕ} → Behind p 0 before out r → (r ≡ length p) × (out ≡ p ++ drop r before)
behind-start {p} b = (b.end ∙ zero-add (length p), b.is)

-- room for k bytes more behind a figure
pub figure-room : {before out : List ℕ} {at r : ℕ} (n e : ℕ) → Behind (figure n e) at before out r → (k : ℕ) → at + (21 + k) ≤ length before → r + k ≤ length out
figure-room n e b k h =
    let f = b.end in
    let l = behind-length b in
    omega (arith, figure-most n e)

-- ---- a text that is gathered, piece behind piece

-- of whole, all but rest stands behind the first at₀ bytes, up to at
pub record Gathering (whole rest : List ℕ) (at₀ : ℕ) (before out : List ℕ) (at : ℕ) : Type 0 where
  pub sofar : List ℕ
  pub is : sofar ++ rest ≡ whole
  pub behind : Behind sofar at₀ before out at

pub gather_none : {whole before : List ℕ} {at : ℕ} → at ≤ length before → Gathering whole whole at before before at
gather_none h = record { sofar = []; is = refl; behind = behind-none h }

pub gather-more : {whole rest p before mid out : List ℕ} {at₀ at r : ℕ} → Gathering whole (p ++ rest) at₀ before mid at → Behind p at mid out r →
    Gathering whole rest at₀ before out r
gather-more {rest = rest} {p} g b =
    record { sofar = g.sofar ++ p; is = append_assoc g.sofar p rest ∙ g.is; behind = behind_more g.behind b }

pub gather-all : {whole before out : List ℕ} {at₀ at : ℕ} → Gathering whole [] at₀ before out at → Behind whole at₀ before out at
gather-all {whole} {before} {out} {at₀} {at} g = subst (λ (p : List ℕ). Behind p at₀ before out at) (sym (append-nil g.sofar) ∙ g.is) g.behind

-- what is gathered and what is left are whole
pub gather-length : {whole rest before out : List ℕ} {at₀ at : ℕ} → Gathering whole rest at₀ before out at → at + length rest ≡ at₀ + length whole
gather-length {rest = rest} g = let e = g.behind.end in omega (arith, length-append g.sofar rest, ap length g.is)

-- a text that fills a buffer is all that is in it
pub behind-full : {p before out : List ℕ} {r : ℕ} → Behind p 0 before out r → r ≡ length before → out ≡ p
behind-full {p} {before} b e =
    b.is ∙ ap (λ (x : List ℕ). p ++ x) (ap (λ (k : ℕ). drop k before) e ∙ drop-length before) ∙ append-nil p

-- ---- pieces put behind a text

-- one behind the other
pub written-more : {p q : List ℕ} {a b c : Text} → Written p a b → Written q b c → Written (p ++ q) a c
written-more w v = record { same = v.same ∙ w.same; behind = behind_more w.behind v.behind }

-- room for k bytes more behind a figure
pub written-room : {a b : Text} (n e : ℕ) → Written (figure n e) a b → (k : ℕ) → Room (21 + k) a → Room k b
written-room n e w k h = figure-room n e w.behind k h

-- nothing was put
pub written-none : {a : Text} → a.len ≤ length a.out.now → Written [] a a
written-none h = record { same = refl; behind = behind-none h }

-- a text that ended at byte at of a buffer
pub written-at : {p before : List ℕ} {a b : Text} {at : ℕ} → a.len ≡ at → a.out.now ≡ before → Written p a b → Behind p at before b.out.now b.len
written-at {p} {a = a} {b} {at} e f w = subst (λ (s : List ℕ). Behind p at s b.out.now b.len) f (subst (λ (k : ℕ). Behind p k a.out.now b.out.now b.len) e w.behind)
