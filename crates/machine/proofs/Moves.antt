-- A line that moves on past a change that waits: the four laws that the logs need hold of every line, since byte by byte an enciphered text is XORed with the byte of the line as far on.
-- Assumes nothing.
use Prim.Native.Nat.{ℕ, ◌+◌, ◌-◌, ◌<◌, ◌≤◌}
use mathlib.Core.Path.{◌≡◌, refl, ap, ap₂, sym, ◌∙◌}
use mathlib.Core.List.{List, [], ◌++◌}
use mathlib.Core.Bool.{Bool, true, false}
use native.Mathlib.Omega.{arith}
use native.Mathlib.Nat.{add-zero}
use lib.ListN.{length, take, drop, take-append-drop}
use lib.Seq.{length-take-le}
use Rattle.words.specs.Tests.{pick}
use Rattle.keystream.specs.Stream.{xor_from}
use Rattle.keystream.proofs.Laws.{xor_from-length, xor_from-append, xor_from-agree}
use Rattle.card_moves.specs.Moves.{comes_due, position_on}
use Rattle.card_moves.proofs.Due.{due-yes, due-no, due-told, not-told, on-past, on-short}
use Rattle.machine.specs.Machine.{MLine, byte_of, along, renewed, moved, xored, enciphered}

-- ---- moving on

along-add : (l : MLine) (a b : ℕ) → along (along l a) b ≡ along l (a + b)
unfolding along
along-add l a b =
    let e : l.pos + a + b ≡ l.pos + (a + b) = omega arith in
    λ j. record { mode = l.mode; cipher = l.cipher; base = l.base; from = l.from; pos = e j; due = l.due; waiting = l.waiting }

pub along-none : (l : MLine) → along l 0 ≡ l
unfolding along
along-none l =
    λ j. record { mode = l.mode; cipher = l.cipher; base = l.base; from = l.from; pos = add-zero l.pos j; due = l.due; waiting = l.waiting }

module _ (l : MLine) (k : ℕ) where
  by-due : (b : Bool) → comes_due l.pos l.due k ≡ b → moved l k ≡ pick b (along (renewed l l.waiting) (l.pos + k - l.due)) (along l k)
  unfolding moved
  by-due b e = ap (λ (b : Bool). pick b (along (renewed l l.waiting) (l.pos + k - l.due)) (along l k)) e

  pub moved-past : l.pos < l.due → l.due ≤ l.pos + k → moved l k ≡ along (renewed l l.waiting) (l.pos + k - l.due)
  moved-past h q = by-due true (due-yes l.pos l.due k h q)

  pub moved-short : (l.pos < l.due → l.pos + k < l.due) → moved l k ≡ along l k
  moved-short f = by-due false (due-no l.pos l.due k f)

  -- where it stands then
  pub moved-pos : (moved l k).pos ≡ position_on l.pos l.due k
  unfolding along renewed
  moved-pos = go (comes_due l.pos l.due k) refl
    where
      go : (b : Bool) → comes_due l.pos l.due k ≡ b → (moved l k).pos ≡ position_on l.pos l.due k
      go true e =
          let z : 0 + (l.pos + k - l.due) ≡ l.pos + k - l.due = omega arith in
          ap (λ (x : MLine). x.pos) (by-due true e) ∙ z ∙ sym (on-past l.pos l.due k e)
      go false e = ap (λ (x : MLine). x.pos) (by-due false e) ∙ sym (on-short l.pos l.due k e)

  pub moved-mode : (moved l k).mode ≡ l.mode
  unfolding moved along renewed
  moved-mode = go (comes_due l.pos l.due k)
    where
      go : (b : Bool) → (pick b (along (renewed l l.waiting) (l.pos + k - l.due)) (along l k)).mode ≡ l.mode
      go true = refl
      go false = refl

-- where nothing waits
pub moved-bare : (l : MLine) (k : ℕ) → l.due ≡ 0 → moved l k ≡ along l k
moved-bare l k e = moved-short l k (λ h. omega (arith, e, h))

-- a line in a new stream has nothing waiting
moved-renewed : (l : MLine) (s : List ℕ) (a b : ℕ) → moved (along (renewed l s) a) b ≡ along (renewed l s) (a + b)
unfolding along renewed
moved-renewed l s a b = moved-bare (along (renewed l s) a) b refl ∙ along-add (renewed l s) a b

pub moved_none : (l : MLine) → moved l 0 ≡ l
moved_none l = moved-short l 0 (λ h. omega arith) ∙ along-none l

pub moved-add : (l : MLine) (a b : ℕ) → moved (moved l a) b ≡ moved l (a + b)
unfolding along renewed
moved-add l a b = first (comes_due l.pos l.due a) refl
  where
    later : (l.pos < l.due → l.pos + a < l.due) → (c : Bool) → comes_due (l.pos + a) l.due b ≡ c → moved (along l a) b ≡ moved l (a + b)
    later f true e =
        let h = due-told (l.pos + a) l.due b e in
        let q : l.pos + a + b - l.due ≡ l.pos + (a + b) - l.due = omega arith in
        moved-past (along l a) b h.0 h.1
        ∙ ap (along (renewed l l.waiting)) q
        ∙ sym (moved-past l (a + b) (omega (arith, h.0)) (omega (arith, h.1)))
    later f false e =
        let g = not-told (l.pos + a) l.due b e in
        moved-short (along l a) b g ∙ along-add l a b
        ∙ sym (moved-short l (a + b) (λ h. let x = g (f h) in omega (arith, x)))

    first : (c : Bool) → comes_due l.pos l.due a ≡ c → moved (moved l a) b ≡ moved l (a + b)
    first true e =
        let h = due-told l.pos l.due a e in
        let q : l.pos + a - l.due + b ≡ l.pos + (a + b) - l.due = omega (arith, h.1) in
        ap (λ (x : MLine). moved x b) (moved-past l a h.0 h.1)
        ∙ moved-renewed l l.waiting (l.pos + a - l.due) b
        ∙ ap (along (renewed l l.waiting)) q
        ∙ sym (moved-past l (a + b) h.0 (omega (arith, h.1)))
    first false e =
        let f = not-told l.pos l.due a e in
        ap (λ (x : MLine). moved x b) (moved-short l a f) ∙ later f (comes_due (l.pos + a) l.due b) refl

-- ---- enciphering

-- the byte that a line is at
abbrev pub byte_here : MLine → ℕ
byte_here l = byte_of l l.pos

-- up to the change, or where none comes due, a line's bytes are those of its stream
same_bytes : (l : MLine) (i : ℕ) → (l.pos < l.due → l.pos + i < l.due) → byte_of l (l.pos + i) ≡ byte_here (moved l i)
unfolding along byte_of
same_bytes l i f = sym (ap byte_here (moved-short l i f))

-- and after it those of the new one
new-bytes : (l : MLine) (i : ℕ) → l.pos < l.due → byte_of (renewed l l.waiting) (0 + i) ≡ byte_here (moved l (l.due - l.pos + i))
unfolding along renewed byte_of
new-bytes l i h =
    let e : l.pos + (l.due - l.pos + i) - l.due ≡ i = omega arith in
    sym (ap byte_here (moved-past l (l.due - l.pos + i) h (omega arith) ∙ ap (along (renewed l l.waiting)) e))

-- byte by byte: the byte of the line as far on
pub enciphered-bytes : (l : MLine) (text : List ℕ) → enciphered l text ≡ xor_from (λ j. byte_here (moved l j)) 0 text
unfolding enciphered xored renewed
enciphered-bytes l text = go (comes_due l.pos l.due (length text)) refl
  where
    f : ℕ → ℕ
    f j = byte_here (moved l j)

    go : (b : Bool) → comes_due l.pos l.due (length text) ≡ b →
        pick b (xored l (take (l.due - l.pos) text) ++ xored (renewed l l.waiting) (drop (l.due - l.pos) text)) (xored l text) ≡ xor_from f 0 text
    go false e =
        let g = not-told l.pos l.due (length text) e in
        xor_from-agree (byte_of l) f l.pos 0 text
        (λ i q. same_bytes l i (λ h. let x = g h in omega (arith, x)) ∙ ap f (let z : i ≡ 0 + i = omega arith in z))
    go true e =
        let h = due-told l.pos l.due (length text) e in
        let d : ℕ = l.due - l.pos in
        let t : length (take d text) ≡ d = length-take-le d text (omega (arith, h.1)) in
        let first : xored l (take d text) ≡ xor_from f 0 (take d text) =
        xor_from-agree (byte_of l) f l.pos 0 (take d text)
        (λ i q. same_bytes l i (λ _. omega (arith, h.0, t, q)) ∙ ap f (let z : i ≡ 0 + i = omega arith in z)) in
        let second : xored (renewed l l.waiting) (drop d text) ≡ xor_from f (0 + length (take d text)) (drop d text) =
        xor_from-agree (byte_of (renewed l l.waiting)) f 0 (0 + length (take d text)) (drop d text)
        (λ i q. new-bytes l i h.0 ∙ ap f (let z : d + i ≡ 0 + length (take d text) + i = omega (arith, t) in z)) in
        ap₂ ◌++◌ first second ∙ sym (xor_from-append f 0 (take d text) (drop d text)) ∙ ap (xor_from f 0) (take-append-drop d text)

pub enciphered-none : (l : MLine) → enciphered l [] ≡ []
unfolding xor_from
enciphered-none l = enciphered-bytes l []

pub enciphered-length : (l : MLine) (text : List ℕ) → length (enciphered l text) ≡ length text
enciphered-length l text = ap length (enciphered-bytes l text) ∙ xor_from-length (λ j. byte_here (moved l j)) 0 text

pub enciphered-append : (l : MLine) (x y : List ℕ) → enciphered l (x ++ y) ≡ enciphered l x ++ enciphered (moved l (length x)) y
enciphered-append l x y =
    let f : ℕ → ℕ = λ j. byte_here (moved l j) in
    let g : ℕ → ℕ = λ j. byte_here (moved (moved l (length x)) j) in
    enciphered-bytes l (x ++ y)
    ∙ xor_from-append f 0 x y
    ∙ ap₂ ◌++◌ (sym (enciphered-bytes l x))
    (xor_from-agree f g (0 + length x) 0 y
    (λ i q. ap f (let z : 0 + length x + i ≡ length x + i = omega arith in z) ∙ ap byte_here (sym (moved-add l (length x) i)) ∙ ap g (let z : i ≡ 0 + i = omega arith in z))
    ∙ sym (enciphered-bytes (moved l (length x)) y))
