-- The laws of keystreams, with the unit as a parameter: a text in two parts, a state taken up on the way, the unit that a position is in, and a buffer that is
-- filled byte by byte or part by part. Steps add up, so a line that starts anew from its state at unit k has the same states and bytes from there on.
-- Assumes nothing.
use Prim.Native.Nat.{ℕ, zero, suc, ◌+◌, ◌-◌, ◌/◌, ◌%◌, ◌<◌, ◌≤◌}
use mathlib.Core.Path.{◌≡◌, refl, ap, sym, ◌∙◌}
use mathlib.Core.List.{List, [], ◌∷◌, ◌++◌, append_assoc}
use lib.ListN.{length, get_or, take, drop, set, length-append, length-drop}
use lib.Seq.{length-take-le, take-suc, drop-cons, set_at, take-add, drop-drop}
use native.Mathlib.Omega.{arith}
use native.Mathlib.Nat.{add-zero, add-suc, le-div_iff_mul-le, div-mul-le_self}
use Rattle.words.specs.Word.{◌⊕◌}
use Rattle.words.specs.Lists.{iter}
use Rattle.keystream.specs.Stream.{Gen, state_at, byte_at, xor_from}

-- ---- xor_from

pub xor_from-length : (f : ℕ → ℕ) (n : ℕ) (l : List ℕ) → length (xor_from f n l) ≡ length l
unfolding xor_from
xor_from-length f n [] = refl
xor_from-length f n (d ∷ l) = ap suc (xor_from-length f (suc n) l)

pub xor_from-append : (f : ℕ → ℕ) (n : ℕ) (a b : List ℕ) → xor_from f n (a ++ b) ≡ xor_from f n a ++ xor_from f (n + length a) b
unfolding xor_from
xor_from-append f n [] b = rw add-zero
xor_from-append f n (d ∷ a) b =
    let h : suc n + length a ≡ n + suc (length a) = omega arith in
    ap (λ (l : List ℕ). d ⊕ f n ∷ l)
    (xor_from-append f (suc n) a b ∙ ap (λ (k : ℕ). xor_from f (suc n) a ++ xor_from f k b) h)

-- two streams that agree along the list
pub xor_from-agree : (f g : ℕ → ℕ) (n m : ℕ) (l : List ℕ) → ((i : ℕ) → i < length l → f (n + i) ≡ g (m + i)) → xor_from f n l ≡ xor_from g m l
unfolding xor_from
xor_from-agree f g n m [] h = refl
xor_from-agree f g n m (d ∷ l) h =
    let e : f n ≡ g m = simp add-zero at (h 0 (omega arith)) in
    let k : (i : ℕ) → i < length l → f (suc n + i) ≡ g (suc m + i) =
    λ i q.
    let p : suc n + i ≡ n + suc i = omega arith in
    let p' : m + suc i ≡ suc m + i = omega arith in
    ap f p ∙ h (suc i) (omega arith) ∙ ap g p' in
    ap (λ (x : ℕ). d ⊕ x ∷ xor_from f (suc n) l) e
    ∙ ap (λ (t : List ℕ). d ⊕ g m ∷ t) (xor_from-agree f g (suc n) (suc m) l k)

-- ---- iter

pub iter-add : {A : Type 0} (f : A → A) (a b : ℕ) (x : A) → iter (a + b) f x ≡ iter b f (iter a f x)
unfolding iter
iter-add f a zero x = rw add-zero
iter-add f a (suc b) x = rw add-suc (ap f (iter-add f a b x))

-- ---- positions: u is any number above 0

module _ (u : ℕ) (pos : zero < u) where
  pub div_mono : (n k : ℕ) → n ≤ k → n / u ≤ k / u
  div_mono n k h =
      (le-div_iff_mul-le pos).1 (omega (arith, div-mul-le_self n u))

-- ---- the state and the bytes of a line

module _ {S : Type 0} (g : Gen S) (pos : zero < g.unit) where
  pub state_at-here : (B : S) (m : ℕ) → state_at g B m m ≡ B
  unfolding state_at iter
  state_at-here B m =
      let e : m - m ≡ 0 = omega arith in
      ap (λ (k : ℕ). iter k g.next B) e

  -- the state further on, from the state on the way
  pub state_at-rebase : (B : S) (m k i : ℕ) → m ≤ k → k ≤ i → state_at g (state_at g B m k) k i ≡ state_at g B m i
  unfolding state_at
  state_at-rebase B m k i h q =
      let e : (k - m) + (i - k) ≡ i - m = omega arith in
      sym (iter-add g.next (k - m) (i - k) B) ∙ ap (λ (x : ℕ). iter x g.next B) e

  pub state_at-suc : (B : S) (m i : ℕ) → m ≤ i → state_at g B m (suc i) ≡ g.next (state_at g B m i)
  unfolding state_at iter
  state_at-suc B m i h =
      let e : suc i - m ≡ suc (i - m) = omega arith in
      ap (λ (x : ℕ). iter x g.next B) e

  -- a line's bytes from unit k on are those of the line that starts anew from the state at k
  pub byte_at-rebase : (B : S) (m k j : ℕ) → m ≤ k → k ≤ j / g.unit → byte_at g (state_at g B m k) k j ≡ byte_at g B m j
  unfolding byte_at
  byte_at-rebase B m k j h q = ap (λ (t : S). get_or (g.strm t) (j % g.unit) 0) (state_at-rebase B m k (j / g.unit) h q)

  -- the text crypted from n on is the same, whether the line is taken from its base or from the state at n
  pub xor_from-rebase : (B : S) (m n : ℕ) (l : List ℕ) → m ≤ n / g.unit →
      xor_from (byte_at g (state_at g B m (n / g.unit)) (n / g.unit)) n l ≡ xor_from (byte_at g B m) n l
  xor_from-rebase B m n l h =
      xor_from-agree (byte_at g (state_at g B m (n / g.unit)) (n / g.unit)) (byte_at g B m) n n l
      (λ i q. byte_at-rebase B m (n / g.unit) (n + i) h (div_mono g.unit pos n (n + i) (omega arith)))

-- ---- filling a buffer: the first i bytes crypted, the rest as it was

-- one byte more
pub fill-byte : (f : ℕ → ℕ) (n i : ℕ) (l o : List ℕ) → i < length l → i < length o →
    set (xor_from f n (take i l) ++ drop i o) i (get_or l i 0 ⊕ f (n + i)) ≡ xor_from f n (take (suc i) l) ++ drop (suc i) o
unfolding xor_from
fill-byte f n i l o h q =
    let le : length (take i l) ≡ i = length-take-le i l (omega arith) in
    let lx : length (xor_from f n (take i l)) ≡ i = xor_from-length f n (take i l) ∙ le in
    let e : xor_from f n (take (suc i) l) ≡ xor_from f n (take i l) ++ (get_or l i 0 ⊕ f (n + i) ∷ []) =
    ap (xor_from f n) (take-suc l i 0 h) ∙ xor_from-append f n (take i l) (get_or l i 0 ∷ [])
    ∙ ap (λ (k : ℕ). xor_from f n (take i l) ++ (get_or l i 0 ⊕ f (n + k) ∷ [])) le in
    ap (λ (t : List ℕ). set (xor_from f n (take i l) ++ t) i (get_or l i 0 ⊕ f (n + i))) (drop-cons o i 0 q)
    ∙ set_at (xor_from f n (take i l)) (get_or o i 0) (drop (suc i) o) (get_or l i 0 ⊕ f (n + i)) i lx
    ∙ sym (ap (λ (t : List ℕ). t ++ drop (suc i) o) e ∙ append_assoc (xor_from f n (take i l)) (get_or l i 0 ⊕ f (n + i) ∷ []) (drop (suc i) o))

-- a part more, which was written into the buffer from a on
pub fill-part : (f : ℕ → ℕ) (n a k : ℕ) (l o : List ℕ) → a + k ≤ length l → a + k ≤ length o →
    xor_from f n (take a l) ++ (xor_from f (n + a) (take k (drop a l)) ++ drop k (drop a o)) ≡ xor_from f n (take (a + k) l) ++ drop (a + k) o
fill-part f n a k l o h q =
    let la : length (take a l) ≡ a = length-take-le a l (omega arith) in
    let e : xor_from f n (take (a + k) l) ≡ xor_from f n (take a l) ++ xor_from f (n + a) (take k (drop a l)) =
    ap (xor_from f n) (take-add a k l) ∙ xor_from-append f n (take a l) (take k (drop a l))
    ∙ ap (λ (m : ℕ). xor_from f n (take a l) ++ xor_from f (n + m) (take k (drop a l))) la in
    sym (append_assoc (xor_from f n (take a l)) (xor_from f (n + a) (take k (drop a l))) (drop k (drop a o)))
    ∙ ap (λ (t : List ℕ). t ++ drop k (drop a o)) (sym e)
    ∙ ap (λ (t : List ℕ). xor_from f n (take (a + k) l) ++ t) (drop-drop k a o)

pub fill-length : (f : ℕ → ℕ) (n i : ℕ) (l o : List ℕ) → i ≤ length l → i ≤ length o →
    length (xor_from f n (take i l) ++ drop i o) ≡ length o
fill-length f n i l o h q =
    omega (arith, length-append (xor_from f n (take i l)) (drop i o), xor_from-length f n (take i l), length-take-le i l h, length-drop i o)
