-- A line and its words: words that pass for a line's are those of the line that is read from them, and a line is read back from its words.
-- Assumes nothing.
use mathlib.Core.Path.{◌≡◌, refl, ap, ap₂, sym, ◌∙◌}
use mathlib.Core.Bool.{Bool, true, false}
use mathlib.Core.List.{List, [], ◌∷◌, ◌++◌, append-nil}
use Prim.Native.Nat.{ℕ, ◌+◌, ◌*◌, ◌/◌, ◌%◌, ◌^◌, ◌<◌, ◌≤◌, min}
use native.Mathlib.Nat.{div-add-mod'}
use native.Mathlib.Omega.{arith}
use borrow.Rule.Slice.PartMut.{put_mid}
use borrow.Author.Tests.{eqb-true, leb-true, eq-eqb, ne_eqb}
use lib.Dec.{eqb, leb, lit<}
use lib.Arith.{digits_div, digits_mod}
use lib.ListN.{length, get_or, take, drop, set, replicate}
use lib.Seq.{sets-eq, drop-drop}
use Rattle.words.specs.Lists.{tab}
use Rattle.words.specs.Tests.{both, pick}
use Rattle.words.proofs.Registers.{listed}
use Rattle.words.proofs.Tests.{both_left, both_right, both_true}
use Rattle.card_sizes.specs.Sizes.{state_words, head_words, due_at, waiting_at, line_size}
use Rattle.ciphers.specs.Table.{all_zero, is_cipher}
use Rattle.ciphers.proofs.States.{zeros_of}
use Rattle.machine.specs.Machine.{Line, plain_line, line_ok, idle_ok, open_ok, loaded_ok, state_ok, image_ok, change_ok, idle_line}
use Rattle.card_line.specs.Words.{line_in, line_words, with_change, LineHeld}

-- ---- a line is read back from its words

-- a line that words can hold
pub record Plain (l : Line) : Type 0 where
  pub mode : l.mode < 255
  pub cipher : l.cipher < 255
  pub full : length l.words ≡ state_words
  pub waits-full : length l.waiting ≡ state_words

-- words with these fields
abbrev fields : (m c n : ℕ) (w : List ℕ) (d : ℕ) (v : List ℕ) → List ℕ
fields m c n w d v = m ∷ c ∷ n / 2 ^ 32 ∷ n % 2 ^ 32 ∷ (w ++ (d / 2 ^ 32 ∷ d % 2 ^ 32 ∷ v))

read_by : (m c n d : ℕ) (f g : ℕ → ℕ) → m < 255 → c < 255 →
    line_in (fields m c n (tab state_words f) d (tab state_words g)) ≡ record { mode = m; cipher = c; n = n; words = tab state_words f; due = d; waiting = tab state_words g }
unfolding line_in
read_by m c n d f g a b =
    let e : min m 255 ≡ m = omega (arith, a) in
    let k : min c 255 ≡ c = omega (arith, b) in
    λ j. record { mode = e j; cipher = k j; n = div-add-mod' n (2 ^ 32) j; words = tab state_words f; due = div-add-mod' d (2 ^ 32) j; waiting = tab state_words g }

pub line_read : (l : Line) → Plain l → line_in (line_words l) ≡ l
unfolding line_words
line_read l s =
    let e = listed state_words l.words s.full in
    let k = listed state_words l.waiting s.waits-full in
    ap₂ (λ (x y : List ℕ). line_in (fields l.mode l.cipher l.n x l.due y)) e k
    ∙ read_by l.mode l.cipher l.n l.due (λ i. get_or l.words i 0) (λ i. get_or l.waiting i 0) s.mode s.cipher
    ∙ sym (ap₂ (λ (x y : List ℕ). record { mode = l.mode; cipher = l.cipher; n = l.n; words = x; due = l.due; waiting = y }) e k)

pub line-length : (l : Line) → length l.words ≡ state_words → length l.waiting ≡ state_words → length (line_words l) ≡ line_size
unfolding line_words
line-length l p q = ap₂ (λ (x y : List ℕ). length (fields l.mode l.cipher l.n x l.due y)) (listed state_words l.words p) (listed state_words l.waiting q)

pub idle-plain : Plain idle_line
idle-plain = record { mode = omega arith; cipher = omega arith; full = refl; waits-full = refl }

-- ---- the two states among a line's words

module _ (ws : List ℕ) (n : length ws ≡ line_size) where
  each : ws ≡ tab line_size (λ k. get_or ws k 0)
  each = listed line_size ws n

  pub state-slice : take state_words (drop head_words ws) ≡ (line_in ws).words
  unfolding line_in
  state-slice = ap (λ (x : List ℕ). take state_words (drop head_words x)) each ∙ sym (ap (λ (x : List ℕ). tab state_words (λ k. get_or x (head_words + k) 0)) each)

  pub state-full : length (take state_words (drop head_words ws)) ≡ state_words
  unfolding line_in
  state-full = ap length state-slice

  pub waiting-slice : take state_words (drop waiting_at ws) ≡ (line_in ws).waiting
  unfolding line_in
  waiting-slice = ap (λ (x : List ℕ). take state_words (drop waiting_at x)) each ∙ sym (ap (λ (x : List ℕ). tab state_words (λ k. get_or x (waiting_at + k) 0)) each)

-- ---- what passes for a line

-- mode and cipher of a line that passes
pub small : (l : Line) → line_ok l ≡ true → (l.mode < 255) × (l.cipher < 255)
unfolding line_ok idle_ok open_ok loaded_ok state_ok
small l h = by (eqb l.mode 0) refl
  where
    low : (m : ℕ) → m < 255 → l.mode ≡ m → is_cipher l.cipher ≡ true → (l.mode < 255) × (l.cipher < 255)
    low m q e k = let c = leb-true l.cipher 6 (both_right (leb 1 l.cipher) (leb l.cipher 6) k) in (omega (arith, q, e), omega (arith, c))

    up : (b : Bool) → eqb l.mode 1 ≡ b → pick b (open_ok l) (both (eqb l.mode 2) (loaded_ok l)) ≡ true → (l.mode < 255) × (l.cipher < 255)
    up true e o = low 1 (lit< tt) (eqb-true l.mode 1 e) (both_left (is_cipher l.cipher) _ (both_left (image_ok l) (change_ok l.cipher l.n l.due l.waiting) o))
    up false e o =
        low 2 (lit< tt) (eqb-true l.mode 2 (both_left (eqb l.mode 2) (loaded_ok l) o)) (both_left (is_cipher l.cipher) _ (both_right (eqb l.mode 2) (loaded_ok l) o))

    by : (b : Bool) → eqb l.mode 0 ≡ b → (l.mode < 255) × (l.cipher < 255)
    by true e =
        let i : idle_ok l ≡ true = sym (ap (λ (b : Bool). pick b (idle_ok l) (pick (eqb l.mode 1) (open_ok l) (both (eqb l.mode 2) (loaded_ok l)))) e) ∙ h in
        let m = eqb-true l.mode 0 e in
        let c = eqb-true l.cipher 0 (both_left _ _ i) in
        (omega arith, omega arith)
    by false e = up (eqb l.mode 1) refl (sym (ap (λ (b : Bool). pick b (idle_ok l) (pick (eqb l.mode 1) (open_ok l) (both (eqb l.mode 2) (loaded_ok l)))) e) ∙ h)

-- a line that is read from words and passes is one that words can hold
pub ok-plain : (ws : List ℕ) → line_ok (line_in ws) ≡ true → Plain (line_in ws)
unfolding line_in
ok-plain ws h = record { mode = (small (line_in ws) h).0; cipher = (small (line_in ws) h).1; full = refl; waits-full = refl }

-- the words of a line that passes
held_by : (f : ℕ → ℕ) → f 3 < 2 ^ 32 → f 43 < 2 ^ 32 → line_ok (line_in (tab line_size f)) ≡ true → line_words (line_in (tab line_size f)) ≡ tab line_size f
unfolding line_in line_words
held_by f h q k =
    let s = small (line_in (tab line_size f)) k in
    let m : min (f 0) 255 ≡ f 0 = omega (arith, s.0) in
    let c : min (f 1) 255 ≡ f 1 = omega (arith, s.1) in
    λ j. m j ∷ c j ∷ digits_div (f 2) h j ∷ digits_mod (f 2) h j ∷ (tab state_words (λ i. f (head_words + i)) ++ (digits_div (f 42) q j ∷ digits_mod (f 42) q j ∷ tab state_words (λ i. f (waiting_at + i))))

module _ (ws : List ℕ) (n : length ws ≡ line_size) where
  pub line-held : get_or ws 3 0 < 2 ^ 32 → get_or ws 43 0 < 2 ^ 32 → line_ok (line_in ws) ≡ true → line_words (line_in ws) ≡ ws
  line-held h q k =
      ap (λ (x : List ℕ). line_words (line_in x)) (each ws n)
      ∙ held_by (λ k. get_or ws k 0) h q (sym (ap (λ (x : List ℕ). line_ok (line_in x)) (each ws n)) ∙ k)
      ∙ sym (each ws n)

  -- a line of zeros is idle
  pub zero-line : all_zero ws ≡ true → (line_ok (line_in ws) ≡ true) × (line_words (line_in ws) ≡ ws)
  unfolding line_in line_words line_ok idle_ok
  zero-line h =
      let z : ws ≡ replicate line_size 0 = zeros_of ws h ∙ ap (λ (k : ℕ). replicate k 0) n in (
        ap (λ (x : List ℕ). line_ok (line_in x)) z,
        ap (λ (x : List ℕ). line_words (line_in x)) z ∙ sym z,
      )

-- zeros before others
zeros-join : (a b : List ℕ) → all_zero a ≡ true → all_zero b ≡ true → all_zero (a ++ b) ≡ true
zeros-join [] b h k = k
zeros-join (x ∷ a) b h k = both_true (both_left (eqb x 0) (all_zero a) h) (zeros-join a b (both_right (eqb x 0) (all_zero a) h) k)

-- a number that is zero has zeros for its halves
halves : (a b : ℕ) → eqb (a * 2 ^ 32 + b) 0 ≡ true → (eqb a 0 ≡ true) × (eqb b 0 ≡ true)
halves a b h =
    let n = eqb-true (a * 2 ^ 32 + b) 0 h in
    let p : a ≡ 0 = omega (arith, n) in
    let q : b ≡ 0 = omega (arith, n) in
    (eq-eqb a 0 p, eq-eqb b 0 q)

-- an idle line that passes is all zeros
zero-by : (f : ℕ → ℕ) → idle_ok (line_in (tab line_size f)) ≡ true → f 0 ≡ 0 → all_zero (tab line_size f) ≡ true
unfolding idle_ok line_in
zero-by f k m =
    let state : List ℕ = tab state_words (λ j. f (head_words + j)) in
    let waiting : List ℕ = tab state_words (λ j. f (waiting_at + j)) in
    let place : Bool = eqb (f 2 * 2 ^ 32 + f 3) 0 in
    let due : Bool = eqb (f 42 * 2 ^ 32 + f 43) 0 in
    let c = eqb-true (min (f 1) 255) 0 (both_left (eqb (min (f 1) 255) 0) _ k) in
    let r : both place (both (all_zero state) (both due (all_zero waiting))) ≡ true = both_right (eqb (min (f 1) 255) 0) _ k in
    let n = halves (f 2) (f 3) (both_left place _ r) in
    let t : both (all_zero state) (both due (all_zero waiting)) ≡ true = both_right place _ r in
    let u : both due (all_zero waiting) ≡ true = both_right (all_zero state) _ t in
    let d = halves (f 42) (f 43) (both_left due _ u) in
    let c' : f 1 ≡ 0 = omega (arith, c) in
    both_true (eq-eqb (f 0) 0 m) (both_true (eq-eqb (f 1) 0 c') (both_true n.0 (both_true n.1
    (zeros-join state (f 42 ∷ f 43 ∷ waiting) (both_left (all_zero state) _ t) (both_true d.0 (both_true d.1 (both_right due (all_zero waiting) u)))))))

-- what is asked of a line whose mode is not 0
abbrev used : Line → Bool
used l = pick (eqb l.mode 1) (open_ok l) (both (eqb l.mode 2) (loaded_ok l))

-- words whose first is neither 1 nor 2, and which are not all zero where it is 0, are no line's
pub no_line : (ws : List ℕ) → length ws ≡ line_size → (get_or ws 0 0 ≡ 0 → all_zero ws ≡ false) → (get_or ws 0 0 ≡ 1 → ⊥) → (get_or ws 0 0 ≡ 2 → ⊥) → false ≡ line_ok (line_in ws)
unfolding line_ok line_in
no_line ws n z m m' = by (line_ok (line_in ws)) refl
  where
    idle : idle_ok (line_in ws) ≡ true → get_or ws 0 0 ≡ 0 → false ≡ true
    idle i o = sym (z o) ∙ ap all_zero (each ws n) ∙ zero-by (λ k. get_or ws k 0) (sym (ap (λ (x : List ℕ). idle_ok (line_in x)) (each ws n)) ∙ i) o

    passes : (b : Bool) → eqb (min (get_or ws 0 0) 255) 0 ≡ b → line_ok (line_in ws) ≡ true → false ≡ true
    passes true e h =
        let o = eqb-true (min (get_or ws 0 0) 255) 0 e in
        idle (sym (ap (λ (b : Bool). pick b (idle_ok (line_in ws)) (used (line_in ws))) e) ∙ h) (omega (arith, o))
    passes false e h =
        let k = ne_eqb (min (get_or ws 0 0) 255) 1 (λ q. m (omega (arith, q))) in
        let o : both (eqb (line_in ws).mode 2) (loaded_ok (line_in ws)) ≡ true =
        sym (ap (λ (b : Bool). pick b (open_ok (line_in ws)) (both (eqb (line_in ws).mode 2) (loaded_ok (line_in ws)))) k) ∙ sym (ap (λ (b : Bool). pick b (idle_ok (line_in ws)) (used (line_in ws))) e) ∙ h in
        let two = eqb-true (min (get_or ws 0 0) 255) 2 (both_left (eqb (line_in ws).mode 2) (loaded_ok (line_in ws)) o) in
        absurd (m' (omega (arith, two)))

    by : (b : Bool) → line_ok (line_in ws) ≡ b → false ≡ b
    by true e = passes (eqb (min (get_or ws 0 0) 255) 0) refl e
    by false e = refl

-- a line's test, by its first word
by_mode : (ws : List ℕ) (x : ℕ) → get_or ws 0 0 ≡ x → line_ok (line_in ws)
    ≡ pick (eqb (min x 255) 0) (idle_ok (line_in ws)) (pick (eqb (min x 255) 1) (open_ok (line_in ws)) (both (eqb (min x 255) 2) (loaded_ok (line_in ws))))
unfolding line_ok line_in
by_mode ws x m =
    ap (λ (x : ℕ). pick (eqb (min x 255) 0) (idle_ok (line_in ws)) (pick (eqb (min x 255) 1) (open_ok (line_in ws)) (both (eqb (min x 255) 2) (loaded_ok (line_in ws))))) m

-- words whose first is 1 are an open line's where the rest is
pub open-line : (ws : List ℕ) → get_or ws 0 0 ≡ 1 → open_ok (line_in ws) ≡ line_ok (line_in ws)
unfolding line_ok line_in
open-line ws m = sym (by_mode ws 1 m)

-- and those whose first is 2 a loaded one's
pub loaded-line : (ws : List ℕ) → get_or ws 0 0 ≡ 2 → loaded_ok (line_in ws) ≡ line_ok (line_in ws)
loaded-line ws m = sym (by_mode ws 2 m)

-- ---- a line's words, written

-- two words stored, and a number's two words behind them
pub head-stored : (a b : ℕ) (ys o : List ℕ) → head_words ≤ length o → put_mid 2 2 (set (set o 0 a) 1 b) ys ≡ (a ∷ b ∷ ys) ++ drop head_words o
head-stored a b ys o h =
    ap (λ (x : List ℕ). put_mid 2 2 x ys) (sets-eq (a ∷ b ∷ []) o 0 (omega (arith, h))) ∙ ap (λ (x : List ℕ). a ∷ b ∷ (ys ++ x)) (drop-drop 2 2 o)

-- a state among zeros, and the words before it
pub head-state : (m c n : ℕ) (state zs ys ws : List ℕ) → zs ≡ line_words idle_line → ys ≡ state →
    ws ≡ (m ∷ c ∷ n / 2 ^ 32 ∷ n % 2 ^ 32 ∷ []) ++ drop head_words (put_mid head_words state_words zs ys) → ws ≡ line_words (plain_line m c n state)
unfolding line_words
head-state m c n state zs ys ws z y e =
    e ∙ ap₂ (λ (x v : List ℕ). (m ∷ c ∷ n / 2 ^ 32 ∷ n % 2 ^ 32 ∷ []) ++ drop head_words (put_mid head_words state_words x v)) z y

-- a state that came back from where it was lent, and the words before it written anew; the change that waits stays
back_by : (m c n m₀ c₀ n₀ d : ℕ) (f : ℕ → ℕ) (v state : List ℕ) →
    (m ∷ c ∷ n / 2 ^ 32 ∷ n % 2 ^ 32 ∷ []) ++ drop head_words (put_mid head_words state_words (fields m₀ c₀ n₀ (tab state_words f) d v) state) ≡ fields m c n state d v
back_by m c n m₀ c₀ n₀ d f v state = refl

pub head-back : (m c n : ℕ) (state ws ys : List ℕ) → LineHeld ws →
    ys ≡ (m ∷ c ∷ n / 2 ^ 32 ∷ n % 2 ^ 32 ∷ []) ++ drop head_words (put_mid head_words state_words ws state) →
    ys ≡ line_words (record { mode = m; cipher = c; n = n; words = state; due = (line_in ws).due; waiting = (line_in ws).waiting })
unfolding line_in line_words
head-back m c n state ws ys h e =
    e
    ∙ ap (λ (x : List ℕ). (m ∷ c ∷ n / 2 ^ 32 ∷ n % 2 ^ 32 ∷ []) ++ drop head_words (put_mid head_words state_words x state)) (sym h.words)
    ∙ back_by m c n (line_in ws).mode (line_in ws).cipher (line_in ws).n (line_in ws).due (λ k. get_or ws (head_words + k) 0) (line_in ws).waiting state

-- a change that waits, put behind the state
abbrev dued : ℕ → List ℕ → List ℕ
dued p ws = put_mid due_at 2 ws (p / 2 ^ 32 ∷ p % 2 ^ 32 ∷ [])

change-by : (p m c n d : ℕ) (f g : ℕ → ℕ) (state : List ℕ) →
    put_mid waiting_at state_words (dued p (fields m c n (tab state_words f) d (tab state_words g))) state ≡ fields m c n (tab state_words f) p (state ++ [])
change-by p m c n d f g state = refl

pub change-put : (p : ℕ) (state ws vs ys : List ℕ) → LineHeld ws → vs ≡ p / 2 ^ 32 ∷ p % 2 ^ 32 ∷ [] → ys ≡ state →
    put_mid waiting_at state_words (put_mid due_at 2 ws vs) ys ≡ line_words (with_change (line_in ws) p state)
unfolding line_in line_words
change-put p state ws vs ys h v y =
    ap₂ (λ (x y : List ℕ). put_mid waiting_at state_words (put_mid due_at 2 ws x) y) v y
    ∙ ap (λ (x : List ℕ). put_mid waiting_at state_words (dued p x) state) (sym h.words)
    ∙ change-by p (line_in ws).mode (line_in ws).cipher (line_in ws).n (line_in ws).due (λ i. get_or ws (head_words + i) 0) (λ i. get_or ws (waiting_at + i) 0) state
    ∙ ap (fields (line_in ws).mode (line_in ws).cipher (line_in ws).n (line_in ws).words p) (append-nil state)
