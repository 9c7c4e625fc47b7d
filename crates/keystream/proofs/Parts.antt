-- Parts of a crypt and how they join, for any generator: a part within a unit, a part that ends one, and a part after another, as `&mut out[at..]` lends it and
-- it comes back. A loop's invariant is `Running`, the part that is done so far.
-- Assumes nothing.
use Prim.Native.Nat.{ℕ, zero, suc, ◌+◌, ◌-◌, ◌*◌, ◌/◌, ◌%◌, ◌<◌, ◌≤◌, min}
use mathlib.Core.Path.{◌≡◌, refl, ap, ap₂, sym, ◌∙◌, subst}
use mathlib.Core.List.{List, [], ◌++◌, append_assoc, append-nil}
use lib.ListN.{length, get_or, take, drop, length-append, length-drop, take-append-drop, get_or-append}
use lib.Seq.{length-take-le, get_or-append-add, drop_at, drop-drop, take_at, take_all, take-length, drop-length}
use borrow.Rule.Slice.PartMut.{put_mid, post_of, Post-is}
use native.Mathlib.Omega.{arith}
use native.Mathlib.Nat.{add-zero, zero-add, add-mod, zero-mod, div-add-mod', add-mul-div_right, mod-add-mod, add-mod-mod, mod_self, mod-eq_of_lt, div-eq_of_lt, div_self}
use Rattle.words.specs.Lists.{iter}
use Rattle.keystream.specs.Stream.{Gen, state_at, byte_at, xor_from, BytesPut, UnitPut, PartCrypted}
use Rattle.keystream.proofs.Laws.{xor_from-length, xor_from-agree, state_at-here, state_at-suc, state_at-rebase, byte_at-rebase, div_mono, fill-part, fill-length}

-- ---- a part that goes to the end

pub tail-part : (a : ℕ) (xs : List ℕ) → take (length xs - a) (drop a xs) ≡ drop a xs
tail-part a xs = take_all (length xs - a) (drop a xs) (omega (arith, length-drop a xs))

pub tail-length : (a : ℕ) (xs : List ℕ) → length (take (length xs - a) (drop a xs)) ≡ length xs - a
tail-length a xs = ap length (tail-part a xs) ∙ length-drop a xs

pub put-tail : (a : ℕ) (xs ys : List ℕ) → a ≤ length xs → put_mid a (length xs - a) xs ys ≡ take a xs ++ ys
put-tail a xs ys h =
    let e : post_of a (length xs - a) xs ≡ [] = Post-is a (length xs) xs h ∙ drop-length xs in
    ap (λ (t : List ℕ). take a xs ++ (ys ++ t)) e ∙ ap (λ (t : List ℕ). take a xs ++ t) (append-nil ys)

-- `&l[n..]`, as it is lent, and l after that part has come back
abbrev pub lent_from : ℕ → List ℕ → List ℕ
lent_from n l = take (length l - n) (drop n l)

abbrev pub back_from : ℕ → List ℕ → List ℕ → List ℕ
back_from n l part = put_mid n (length l - n) l part

-- p at the start, and q in the part after it, which was lent and comes back
pub part-more : (p q before o1 o2 : List ℕ) (a b : ℕ) → length p ≡ a → a + b ≤ length before → o1 ≡ p ++ drop a before
    → o2 ≡ q ++ drop b (take (length o1 - a) (drop a o1)) → put_mid a (length o1 - a) o1 o2 ≡ (p ++ q) ++ drop (a + b) before
part-more p q before o1 o2 a b l fits h k =
    let n : length o1 ≡ a + length (drop a before) = ap length h ∙ length-append p (drop a before) ∙ ap (λ (x : ℕ). x + length (drop a before)) l in
    put-tail a o1 o2 (omega arith)
    ∙ ap (λ (x : List ℕ). x ++ o2) (ap (take a) h ∙ take_at p (drop a before) a l)
    ∙ ap (λ (x : List ℕ). p ++ x)
    (k ∙ ap (λ (x : List ℕ). q ++ drop b x) (tail-part a o1 ∙ ap (drop a) h ∙ drop_at p (drop a before) a l) ∙ ap (λ (x : List ℕ). q ++ x) (drop-drop b a before))
    ∙ sym (append_assoc p q (drop (a + b) before))

-- k bytes more with those of ys, in the part after the first a, which was lent and comes back
pub put-more : (xs ys : List ℕ) (a k : ℕ) (text out o1 o2 : List ℕ) → length xs ≡ a → a + k ≤ length text → a + k ≤ length out → BytesPut xs 0 a text out o1
    → BytesPut ys 0 k (lent_from a text) (lent_from a o1) o2 → BytesPut (xs ++ ys) 0 (a + k) text out (back_from a o1 o2)
put-more xs ys a k text out o1 o2 l h q d d' =
    let f : ℕ → ℕ = λ j. get_or (xs ++ ys) j 0 in
    let lt : length (take a text) ≡ a = length-take-le a text (omega arith) in
    let X : List ℕ = xor_from f 0 (take a text) in
    let first : xor_from (λ j. get_or xs j 0) 0 (take a text) ≡ X =
    xor_from-agree (λ j. get_or xs j 0) f 0 0 (take a text) (λ i p. sym (get_or-append xs ys 0 (0 + i) (omega arith))) in
    let e : o1 ≡ X ++ drop a out = d ∙ ap (λ (x : List ℕ). x ++ drop a out) first in
    let second : xor_from (λ j. get_or ys j 0) 0 (take k (drop a text)) ≡ xor_from f (0 + a) (take k (drop a text)) =
    xor_from-agree (λ j. get_or ys j 0) f 0 (0 + a) (take k (drop a text))
    (λ i p. let n : 0 + a + i ≡ length xs + i = omega arith in let z : 0 + i ≡ i = zero-add i in
    ap (λ (j : ℕ). get_or ys j 0) z ∙ sym (ap f n ∙ get_or-append-add xs ys i 0)) in
    part-more X (xor_from f (0 + a) (take k (drop a text))) out o1 o2 a k (xor_from-length f 0 (take a text) ∙ lt) q e
    (d' ∙ ap (λ (x : List ℕ). xor_from (λ j. get_or ys j 0) 0 (take k x) ++ drop k (lent_from a o1)) (tail-part a text) ∙ ap (λ (x : List ℕ). x ++ drop k (lent_from a o1)) second)
    ∙ append_assoc X (xor_from f (0 + a) (take k (drop a text))) (drop (a + k) out)
    ∙ ap (λ (x : List ℕ). X ++ (xor_from f (0 + a) (take k (drop a text)) ++ x)) (sym (drop-drop k a out))
    ∙ fill-part f 0 a k text out h q

-- the bytes that were written are those of another list, which is the same
pub put-of : {ks unit : List ℕ} (n k : ℕ) (text out out' : List ℕ) → ks ≡ unit → BytesPut ks n k text out out' → BytesPut unit n k text out out'
put-of n k text out out' e w = subst (λ (x : List ℕ). BytesPut x n k text out out') e w

-- the bytes of a unit that were written to the part of out from byte at on, which was lent and comes back
pub put-at : {ks unit : List ℕ} → ks ≡ unit → (u : ℕ) (text : List ℕ) (at : ℕ) (out o' : List ℕ) → at ≤ length out → BytesPut ks 0 u (lent_from at text) (lent_from at out) o'
    → UnitPut unit u text at out (back_from at out o')
put-at {ks} e u text at out o' h w =
    put-tail at out o' h
    ∙ ap (λ (x : List ℕ). take at out ++ x)
    (w
    ∙ ap₂ (λ (s t : List ℕ). xor_from (λ j. get_or ks j 0) 0 (take u s) ++ drop u t) (tail-part at text) (tail-part at out)
    ∙ ap₂ (λ (k x : List ℕ). xor_from (λ j. get_or k j 0) 0 (take u (drop at text)) ++ x) e (drop-drop u at out))

module _ {S : Type 0} (g : Gen S) (pos : zero < g.unit) where
  -- ---- places in a unit and positions in a line

  carry : (p i : ℕ) → (p % g.unit + i) / g.unit + p / g.unit ≡ (p + i) / g.unit
  carry p i =
      let e : p % g.unit + i + p / g.unit * g.unit ≡ p + i = omega (arith, div-add-mod' p g.unit) in
      sym (add-mul-div_right (p % g.unit + i) (p / g.unit) pos) ∙ ap (λ (x : ℕ). x / g.unit) e

  -- a line at the position n, seen from the start of the unit that n is in
  pub state_at-place : (s : S) (n i : ℕ) → state_at g s (n / g.unit) ((n + i) / g.unit) ≡ state_at g s 0 ((n % g.unit + i) / g.unit)
  unfolding state_at
  state_at-place s n i =
      let e : (n + i) / g.unit - n / g.unit ≡ (n % g.unit + i) / g.unit - 0 = omega (arith, carry n i) in
      ap (λ (x : ℕ). iter x g.next s) e

  pub byte_at-place : (s : S) (n i : ℕ) → byte_at g s (n / g.unit) (n + i) ≡ byte_at g s 0 (n % g.unit + i)
  unfolding byte_at
  byte_at-place s n i =
      ap (λ (t : S). get_or (g.strm t) ((n + i) % g.unit) 0) (state_at-place s n i)
      ∙ ap (λ (k : ℕ). get_or (g.strm (state_at g s 0 ((n % g.unit + i) / g.unit))) k 0) (sym (mod-add-mod n g.unit i))

  pub xor_from-place : (s : S) (n : ℕ) (l : List ℕ) → xor_from (byte_at g s (n / g.unit)) n l ≡ xor_from (byte_at g s 0) (n % g.unit) l
  xor_from-place s n l = xor_from-agree (byte_at g s (n / g.unit)) (byte_at g s 0) n (n % g.unit) l (λ i q. byte_at-place s n i)

  -- from the state on the way
  pub state-on : (s : S) (p i : ℕ) → state_at g (state_at g s 0 (p / g.unit)) 0 ((p % g.unit + i) / g.unit) ≡ state_at g s 0 ((p + i) / g.unit)
  state-on s p i =
      sym (state_at-place (state_at g s 0 (p / g.unit)) p i)
      ∙ state_at-rebase g pos s 0 (p / g.unit) ((p + i) / g.unit) (omega arith) (div_mono g.unit pos p (p + i) (omega arith))

  bytes_on : (s : S) (p : ℕ) (l : List ℕ) → xor_from (byte_at g (state_at g s 0 (p / g.unit)) 0) (p % g.unit) l ≡ xor_from (byte_at g s 0) p l
  bytes_on s p l =
      sym (xor_from-place (state_at g s 0 (p / g.unit)) p l)
      ∙ xor_from-agree (byte_at g (state_at g s 0 (p / g.unit)) (p / g.unit)) (byte_at g s 0) p p l
      (λ i q. byte_at-rebase g pos s 0 (p / g.unit) (p + i) (omega arith) (div_mono g.unit pos p (p + i) (omega arith)))

  -- ---- pieces

  pub did-length : {n k : ℕ} {s s' : S} {text out out' : List ℕ} → k ≤ length text → k ≤ length out → PartCrypted g n s k text out s' out' → length out' ≡ length out
  did-length {n} {k} {s} {text = text} {out} h q d = ap length d.out-is ∙ fill-length (byte_at g s 0) n k text out h q

  pub did_none : {n : ℕ} {s : S} {text out : List ℕ} → n < g.unit → PartCrypted g n s 0 text out s out
  unfolding xor_from
  did_none {n} {s} h =
      record {
        state-is = sym (ap (λ (k : ℕ). state_at g s 0 (k / g.unit)) (add-zero n) ∙ ap (state_at g s 0) (div-eq_of_lt h) ∙ state_at-here g pos s 0);
        out-is = refl;
      }

  pub byte_small : (s : S) (j : ℕ) → j < g.unit → byte_at g s 0 j ≡ get_or (g.strm s) j 0
  unfolding byte_at
  byte_small s j q =
      ap (λ (k : ℕ). get_or (g.strm (state_at g s 0 k)) (j % g.unit) 0) (div-eq_of_lt q)
      ∙ ap (λ (t : S). get_or (g.strm t) (j % g.unit) 0) (state_at-here g pos s 0)
      ∙ ap (λ (k : ℕ). get_or (g.strm s) k 0) (mod-eq_of_lt q)

  -- a piece of one unit, whose bytes are those of f
  module _ (n k : ℕ) (s : S) (text out out' : List ℕ) (f : ℕ → ℕ) (is-unit : (i : ℕ) → i < g.unit → f i ≡ get_or (g.strm s) i 0)
      (fits : k ≤ length text) (written : out' ≡ xor_from f n (take k text) ++ drop k out) where
    within : n + k ≤ g.unit → out' ≡ xor_from (byte_at g s 0) n (take k text) ++ drop k out
    within h =
        let l : length (take k text) ≡ k = length-take-le k text fits in
        written
        ∙ ap (λ (x : List ℕ). x ++ drop k out)
        (xor_from-agree f (byte_at g s 0) n n (take k text)
        (λ i p. is-unit (n + i) (omega arith) ∙ sym (byte_small s (n + i) (omega arith))))

    -- the unit is used up, and the state is the next one
    pub did-end : {s' : S} → n + k ≡ g.unit → s' ≡ g.next s → PartCrypted g n s k text out s' out'
    did-end h e =
        let one : (n + k) / g.unit ≡ 1 = ap (λ (x : ℕ). x / g.unit) h ∙ div_self pos in
        record {
          state-is =
              e
              ∙ sym (ap (state_at g s 0) one ∙ state_at-suc g pos s 0 0 (omega arith) ∙ ap g.next (state_at-here g pos s 0));
          out-is = within (omega arith);
        }

    -- the text ends within the unit, and the state stays
    pub did-within : n + k < g.unit → PartCrypted g n s k text out s out'
    did-within h =
        record {
          state-is = sym (ap (state_at g s 0) (div-eq_of_lt h) ∙ state_at-here g pos s 0);
          out-is = within (omega arith);
        }

  -- the same of a piece that was written from the unit's bytes
  module _ (n k : ℕ) (s : S) (text out out' ks : List ℕ) (is-unit : ks ≡ g.strm s) (fits : k ≤ length text) (written : out' ≡ xor_from (λ j. get_or ks j 0) n (take k text) ++ drop k out) where
    at : (i : ℕ) → i < g.unit → get_or ks i 0 ≡ get_or (g.strm s) i 0
    at i h = ap (λ (x : List ℕ). get_or x i 0) is-unit

    pub part_end : {s' : S} → n + k ≡ g.unit → s' ≡ g.next s → PartCrypted g n s k text out s' out'
    part_end = did-end n k s text out out' (λ j. get_or ks j 0) at fits written

    pub part-within : n + k < g.unit → PartCrypted g n s k text out s out'
    part-within = did-within n k s text out out' (λ j. get_or ks j 0) at fits written

  -- a piece, and one more from where it ended, which wrote the buffer's rest
  module _ {n a b from : ℕ} {s s1 s2 : S} {text out o1 o2 : List ℕ} where
    pub did_more : a + b ≤ length text → a + b ≤ length out → (n + a) % g.unit ≡ from → PartCrypted g n s a text out s1 o1
        → PartCrypted g from s1 b (drop a text) (drop a o1) s2 o2 → PartCrypted g n s (a + b) text out s2 (take a o1 ++ o2)
    did_more h q e d d' =
        let F = byte_at g s 0 in
        let X = xor_from F n (take a text) in
        let lx : length X ≡ a = xor_from-length F n (take a text) ∙ length-take-le a text (omega arith) in
        let ta : take a o1 ≡ X = ap (take a) d.out-is ∙ take_at X (drop a out) a lx in
        let da : drop a o1 ≡ drop a out = ap (drop a) d.out-is ∙ drop_at X (drop a out) a lx in
        let sum : n + a + b ≡ n + (a + b) = omega arith in
        record {
          state-is =
              d'.state-is
              ∙ ap (λ (t : S). state_at g t 0 ((from + b) / g.unit)) d.state-is
              ∙ ap (λ (x : ℕ). state_at g (state_at g s 0 ((n + a) / g.unit)) 0 ((x + b) / g.unit)) (sym e)
              ∙ state-on s (n + a) b
              ∙ ap (λ (x : ℕ). state_at g s 0 (x / g.unit)) sum;
          out-is =
              ap (λ (x : List ℕ). x ++ o2) ta
              ∙ ap (λ (x : List ℕ). X ++ x)
              (d'.out-is
              ∙ ap (λ (t : S). xor_from (byte_at g t 0) from (take b (drop a text)) ++ drop b (drop a o1)) d.state-is
              ∙ ap (λ (x : ℕ). xor_from (byte_at g (state_at g s 0 ((n + a) / g.unit)) 0) x (take b (drop a text)) ++ drop b (drop a o1)) (sym e)
              ∙ ap (λ (x : List ℕ). x ++ drop b (drop a o1)) (bytes_on s (n + a) (take b (drop a text)))
              ∙ ap (λ (x : List ℕ). xor_from F (n + a) (take b (drop a text)) ++ drop b x) da)
              ∙ fill-part F n a b text out h q;
        }

    -- the same, with the parts as the code lends them: `&text[a..]`, and `&mut out[a..]`, which comes back
    pub did-lent : a + b ≤ length text → a + b ≤ length out → (n + a) % g.unit ≡ from → PartCrypted g n s a text out s1 o1
        → PartCrypted g from s1 b (take (length text - a) (drop a text)) (take (length o1 - a) (drop a o1)) s2 o2
        → PartCrypted g n s (a + b) text out s2 (put_mid a (length o1 - a) o1 o2)
    did-lent h q e d d' =
        let l : length o1 ≡ length out = did-length (omega arith) (omega arith) d in
        subst (λ (o : List ℕ). PartCrypted g n s (a + b) text out s2 o) (sym (put-tail a o1 o2 (omega arith)))
        (did_more h q e d (rw (tail-part a text, tail-part a o1) at d'))

-- ---- the crypt loop, with the unit as the code has it

-- what is a multiple of the code's unit is one of the generator's
pub aligned : {u v : ℕ} → v ≡ u → (x : ℕ) → x % u ≡ 0 → x % v ≡ 0
aligned e x h = ap (λ (k : ℕ). x % k) e ∙ h

pub whole-more : (u a k : ℕ) → a % u ≡ 0 → k % u ≡ 0 → (a + k) % u ≡ 0
whole-more u a k h j = add-mod a k u ∙ ap (λ (x : ℕ). (x + k % u) % u) h ∙ ap (λ (x : ℕ). (0 + x) % u) j ∙ zero-mod u

-- after whole units of text, from the start of a unit on
pub record Running {S : Type 0} (g : Gen S) (u : ℕ) (s : S) (text out₀ out : List ℕ) (cur : S) (at : ℕ) : Type 0 where
  pub at_most : at ≤ length text
  pub whole : at % u ≡ 0
  pub same_length : length out ≡ length out₀
  pub did : PartCrypted g 0 s at text out₀ cur out

module _ {S : Type 0} (g : Gen S) (u : ℕ) (pos : zero < u) (unit-is : g.unit ≡ u) where
  unit-pos : zero < g.unit
  unit-pos = omega arith

  pub running-start : {s : S} {text out₀ : List ℕ} → Running g u s text out₀ out₀ s 0
  running-start = record { at_most = omega arith; whole = zero-mod u; same_length = refl; did = did_none g unit-pos unit-pos }

  -- a unit that was written after those before it, and a step
  pub running-unit : {s : S} {text out₀ out out' : List ℕ} {cur cur' : S} {at : ℕ} → Running g u s text out₀ out cur at → at + u ≤ length text → at + u ≤ length out₀
      → UnitPut (g.strm cur) u text at out out' → cur' ≡ g.next cur → Running g u s text out₀ out' cur' (at + u)
  running-unit {s} {text} {out₀} {out} {out'} {cur} {cur'} {at} r h q w e =
      let m = r.same_length in
      let o : List ℕ = xor_from (λ j. get_or (g.strm cur) j 0) 0 (take u (drop at text)) ++ drop u (drop at out) in
      let d : PartCrypted g 0 cur u (drop at text) (drop at out) cur' o =
      part_end g unit-pos 0 u cur (drop at text) (drop at out) o (g.strm cur) refl (omega (arith, length-drop at text)) refl (zero-add u ∙ sym unit-is) e in
      let put : out' ≡ take at out ++ o =
      w ∙ ap (λ (x : List ℕ). take at out ++ (xor_from (λ j. get_or (g.strm cur) j 0) 0 (take u (drop at text)) ++ x)) (sym (drop-drop u at out)) in
      let all : PartCrypted g 0 s (at + u) text out₀ cur' out' =
      subst (λ (x : List ℕ). PartCrypted g 0 s (at + u) text out₀ cur' x) (sym put)
      (did_more g unit-pos (omega arith) (omega arith) (aligned unit-is (0 + at) (ap (λ (x : ℕ). x % u) (zero-add at) ∙ r.whole)) r.did d) in
      record {
        at_most = omega arith;
        whole = whole-more u at u r.whole (mod_self u);
        same_length = did-length g unit-pos (omega arith) (omega arith) all;
        did = all;
      }

  module _ {s : S} {text out₀ : List ℕ} (fits : length text ≤ length out₀) where
    -- a turn of k bytes, which are whole units
    pub running-turn : {out o' : List ℕ} {cur cur' : S} {at : ℕ} (k : ℕ) → k % u ≡ 0 → Running g u s text out₀ out cur at → k ≤ length text - at
        → PartCrypted g 0 cur k (take (length text - at) (drop at text)) (take (length out - at) (drop at out)) cur' o'
        → Running g u s text out₀ (put_mid at (length out - at) out o') cur' (at + k)
    running-turn {at = at} k h r q d =
        let m = r.at_most in
        let all = did-lent g unit-pos (omega arith) (omega arith) (aligned unit-is (0 + at) (ap (λ (x : ℕ). x % u) (zero-add at) ∙ r.whole)) r.did d in
        record {
          at_most = omega arith;
          whole = whole-more u at k r.whole h;
          same_length = did-length g unit-pos (omega arith) (omega arith) all;
          did = all;
        }

    -- the rest of the text
    pub running-end : {out o' : List ℕ} {cur cur' : S} {at k : ℕ} → Running g u s text out₀ out cur at → k ≡ length text - at
        → PartCrypted g 0 cur k (take (length text - at) (drop at text)) (take (length out - at) (drop at out)) cur' o'
        → PartCrypted g 0 s (length text) text out₀ cur' (put_mid at (length out - at) out o')
    running-end {out} {o'} {cur' = cur'} {at} {k} r e d =
        let m = r.at_most in
        let sum : at + k ≡ length text = omega arith in
        subst (λ (x : ℕ). PartCrypted g 0 s x text out₀ cur' (put_mid at (length out - at) out o')) sum
        (did-lent g unit-pos (omega arith) (omega arith) (aligned unit-is (0 + at) (ap (λ (x : ℕ). x % u) (zero-add at) ∙ r.whole)) r.did d)

    -- the rest of a begun unit, as far as the text goes, and then the rest of the text
    module _ {n head : ℕ} {s1 s2 : S} {o1 o2 : List ℕ} (n-most : n < u) (head-is : head ≡ min ((u - n) % u) (length text))
        (first : PartCrypted g n s head text out₀ s1 o1) where
      begun-by : (k : ℕ) → k ≡ length text - head → PartCrypted g 0 s1 k (take (length text - head) (drop head text)) (take (length o1 - head) (drop head o1)) s2 o2
          → PartCrypted g n s (head + k) text out₀ s2 (put_mid head (length o1 - head) o1 o2)
      unfolding xor_from
      begun-by zero e d =
          let l : length o1 ≡ length out₀ = did-length g unit-pos (omega arith) (omega arith) first in
          let o : put_mid head (length o1 - head) o1 o2 ≡ o1 =
          put-tail head o1 o2 (omega arith) ∙ ap (λ (x : List ℕ). take head o1 ++ x) (d.out-is ∙ tail-part head o1) ∙ take-append-drop head o1 in
          let none = did_none g unit-pos {n = 0} {s = s1} {text = text} {out = out₀} unit-pos in
          rw (o, d.state-is ∙ sym none.state-is, add-zero head) first
      begun-by (suc k) e d =
          let full : head ≡ (u - n) % u = omega arith in
          let end : n + (u - n) ≡ u = omega arith in
          did-lent g unit-pos (omega arith) (omega arith)
          (aligned unit-is (n + head) (ap (λ (x : ℕ). (n + x) % u) full ∙ add-mod-mod n (u - n) u ∙ ap (λ (x : ℕ). x % u) end ∙ mod_self u)) first d

      pub begun : {k : ℕ} → k ≡ length text - head → PartCrypted g 0 s1 k (take (length text - head) (drop head text)) (take (length o1 - head) (drop head o1)) s2 o2
          → PartCrypted g n s (length text) text out₀ s2 (put_mid head (length o1 - head) o1 o2)
      begun {k} e d =
          let sum : head + k ≡ length text = omega arith in
          subst (λ (x : ℕ). PartCrypted g n s x text out₀ s2 (put_mid head (length o1 - head) o1 o2)) sum (begun-by k e d)

    -- all of the text, as two equations
    pub crypted : {n : ℕ} {s' : S} {out : List ℕ} → PartCrypted g n s (length text) text out₀ s' out
        → (s' ≡ state_at g s 0 ((n + length text) / u)) × (out ≡ xor_from (byte_at g s 0) n text ++ drop (length text) out₀)
    crypted {n} d = (
      d.state-is ∙ ap (λ (v : ℕ). state_at g s 0 ((n + length text) / v)) unit-is,
      d.out-is ∙ ap (λ (t : List ℕ). xor_from (byte_at g s 0) n t ++ drop (length text) out₀) (take-length text),
    )

-- Within a turn of t bytes that starts at byte at: k bytes of it are done, whole units, so whatever had run to byte at has run to byte at + k. The buffer and the state
-- were out₀ and s when the turn began.
pub record Turning {S : Type 0} (g : Gen S) (u t : ℕ) (text out₀ : List ℕ) (s : S) (at : ℕ) (out : List ℕ) (cur : S) (k : ℕ) : Type 0 where
  pub within : k ≤ t
  pub whole : k % u ≡ 0
  pub same_length : length out ≡ length out₀
  pub on : (s₁ : S) (o₁ : List ℕ) → length text ≤ length o₁ → Running g u s₁ text o₁ out₀ s at → Running g u s₁ text o₁ out cur (at + k)

module _ {S : Type 0} (g : Gen S) (u : ℕ) (pos : zero < u) (unit-is : g.unit ≡ u) (t : ℕ) {s : S} {text out₀ : List ℕ} {at : ℕ} where
  pub turning-start : Turning g u t text out₀ s at out₀ s 0
  turning-start =
      record {
        within = omega arith;
        whole = zero-mod u;
        same_length = refl;
        on = λ s₁ o₁ f r. subst (λ (n : ℕ). Running g u s₁ text o₁ out₀ s n) (sym (add-zero at)) r;
      }

  -- a unit more, and a step
  pub turning-unit : {out out' : List ℕ} {cur cur' : S} {k : ℕ} → at + t ≤ length text → k + u ≤ t → Turning g u t text out₀ s at out cur k
      → length out' ≡ length out → UnitPut (g.strm cur) u text (at + k) out out' → cur' ≡ g.next cur → Turning g u t text out₀ s at out' cur' (k + u)
  turning-unit {out' = out'} {cur' = cur'} {k} h m r l w e =
      let n : at + k + u ≡ at + (k + u) = omega arith in
      record {
        within = m;
        whole = whole-more u k u r.whole (mod_self u);
        same_length = l ∙ r.same_length;
        on = λ s₁ o₁ f b.
            subst (λ (x : ℕ). Running g u s₁ text o₁ out' cur' x) n (running-unit g u pos unit-is (r.on s₁ o₁ f b) (omega arith) (omega arith) w e);
      }

  -- the turn is done
  pub turning-end : {s₁ cur : S} {o₁ out : List ℕ} {k : ℕ} → length text ≤ length o₁ → t ≤ k → Turning g u t text out₀ s at out cur k → Running g u s₁ text o₁ out₀ s at
      → Running g u s₁ text o₁ out cur (at + t)
  turning-end {s₁} {cur} {o₁} {out} {k} f m r b =
      let w = r.within in
      let n : k ≡ t = omega arith in
      subst (λ (x : ℕ). Running g u s₁ text o₁ out cur (at + x)) n (r.on s₁ o₁ f b)

-- ---- two generators that show the same stream

-- where f takes the states of g that hold P to those of h, it takes a line of g to the line of h with the same bytes
module _ {S T : Type 0} (g : Gen S) (h : Gen T) (f : S → T) (P : S → Type 0) (keeps : (s : S) → P s → P (g.next s))
    (same-unit : g.unit ≡ h.unit) (same_next : (s : S) → P s → f (g.next s) ≡ h.next (f s)) (same-strm : (s : S) → P s → g.strm s ≡ h.strm (f s)) where
  iter-along : (k : ℕ) (s : S) → P s → P (iter k g.next s) × (f (iter k g.next s) ≡ iter k h.next (f s))
  unfolding iter
  iter-along zero s p = (p, refl)
  iter-along (suc k) s p =
      let a = iter-along k s p in
      (keeps (iter k g.next s) a.0, same_next (iter k g.next s) a.0 ∙ ap h.next a.1)

  pub state_at-along : (s : S) (m i : ℕ) → P s → f (state_at g s m i) ≡ state_at h (f s) m i
  unfolding state_at
  state_at-along s m i p = (iter-along (i - m) s p).1

  pub byte_at-along : (s : S) (m j : ℕ) → P s → byte_at g s m j ≡ byte_at h (f s) m j
  unfolding byte_at state_at
  byte_at-along s m j p =
      ap (λ (u : ℕ). get_or (g.strm (state_at g s m (j / u))) (j % u) 0) same-unit
      ∙ ap (λ (l : List ℕ). get_or l (j % h.unit) 0) (same-strm (state_at g s m (j / h.unit)) (iter-along (j / h.unit - m) s p).0)
      ∙ ap (λ (t : T). get_or (h.strm t) (j % h.unit) 0) (state_at-along s m (j / h.unit) p)
