-- What holds of every line that a list of calls leads to: it is idle, or it has a known cipher, a position of at most 2^36 that is not behind its base, a base state that fits the cipher, and
-- a change that waits above its position or none. Then its S(i) fit too, numbers 8 and 255 admit it, and from its position on it has the bytes and states of the line that starts anew from what is
-- seen of it.
-- Assumes nothing.
use mathlib.Core.Path.{◌≡◌, refl, ap, ap₂, sym, ◌∙◌, subst}
use mathlib.Core.Bool.{Bool, true, false}
use mathlib.Core.List.{List, [], ◌∷◌, ◌++◌, map}
use Prim.Native.Nat.{ℕ, zero, suc, ◌+◌, ◌-◌, ◌*◌, ◌/◌, ◌<◌, ◌≤◌}
use native.Mathlib.Nat.{div-eq_of_lt}
use native.Mathlib.Omega.{arith}
use lib.Dec.{ltb, leb, eqb}
use lib.ListN.{length, get_or, take, drop}
use borrow.Author.Tests.{le-leb, leb-true, lt-ltb, ne_eqb, eqb-false}
use Rattle.words.specs.Lists.{All, Byte, Word, iter}
use Rattle.words.specs.Strings.{word_at}
use Rattle.words.specs.Tests.{both, pick}
use Rattle.words.proofs.Ranges.{iter-keeps, all-tab, all_drop, word_at-word}
use Rattle.keystream.specs.Stream.{state_at}
use Rattle.keystream.proofs.Laws.{state_at-here, state_at-rebase, xor_from-rebase, div_mono}
use Rattle.card_moves.specs.Moves.{comes_due, position_on}
use Rattle.card_moves.proofs.Due.{due-told, not-told}
use Rattle.ciphers.specs.Table.{cipher_at, is_cipher, all_zero, mugi}
use Rattle.ciphers.specs.Fit.{Fit}
use Rattle.words.proofs.Tests.{both_left, both_right, both_true}
use Rattle.ciphers.proofs.Sound.{sound}
use Rattle.ciphers.specs.Kept.{start_of}
use Rattle.ciphers.proofs.States.{all_take}
use Rattle.ciphers.proofs.Kept.{Keeps, load-keeps, start-fit}
use Rattle.machine.specs.Machine.{Line, MLine, plain, plain_line, zeros, idle, idle_line, gen_of, gen_at, unit_at, state_of, byte_of, shown, based, along, renewed, moved, xored, enciphered, changed, opened, loaded_line, started_line, image_line, image_in, image_length, limit, key_for, iv_for, stream_of, state_ok, image_ok, change_ok, open_ok, idle_ok, loaded_ok, line_ok, all_ok}
use Rattle.machine.proofs.Fields.{image-state}
use Rattle.machine.proofs.Moves.{moved-past, moved-short, moved-pos}

pub unit-pos : (c : ℕ) → zero < (gen_of c).unit
unit-pos c = (sound c).unit-pos

-- nothing waits, or a change above the position with an S(0) that fits
pub data Waits (l : MLine) : Type 0 where
  none-waits : l.due ≡ 0 → l.waiting ≡ zeros → Waits l
  one-waits : l.pos < l.due → l.due ≤ limit → Fit (cipher_at l.cipher) l.waiting → Waits l

pub data Good : MLine → Type 0 where
  good-idle : Good idle
  good-loaded : {c : ℕ} {w : List ℕ} → is_cipher c ≡ true → Keeps c w → Good (plain 2 c w 0 0)
  good-open : {l : MLine} → l.mode ≡ 1 → is_cipher l.cipher ≡ true → l.pos ≤ limit → l.from ≤ unit_at l → Fit (cipher_at l.cipher) l.base → Waits l → Good l

-- ---- what is seen of a line

pub shown-idle : shown idle ≡ idle_line
unfolding shown state_of unit_at state_at iter cipher_at mugi
shown-idle = refl

pub shown-based : (l : Line) → shown (based l) ≡ l
unfolding shown based unit_at state_of
shown-based l =
    λ j. record {
      mode = l.mode;
      cipher = l.cipher;
      n = l.n;
      words = state_at-here (gen_of l.cipher) (unit-pos l.cipher) l.words (l.n / (gen_of l.cipher).unit) j;
      due = l.due;
      waiting = l.waiting;
    }

-- a line at the start of a stream, with nothing waiting
pub start-shown : (m c : ℕ) (s : List ℕ) → shown (plain m c s 0 0) ≡ plain_line m c 0 s
unfolding shown state_of unit_at
start-shown m c s =
    let g = gen_of c in
    let e : state_at g s 0 (0 / g.unit) ≡ s = ap (state_at g s 0) (div-eq_of_lt (unit-pos c)) ∙ state_at-here g (unit-pos c) s 0 in
    ap (plain_line m c 0) e

-- and one that is opened
pub opened-shown : (c : ℕ) (key iv : List ℕ) → shown (opened c key iv) ≡ plain_line 1 c 0 ((cipher_at c).init key iv)
unfolding opened
opened-shown c key iv = start-shown 1 c ((cipher_at c).init key iv)

-- every S(i) fits
pub state-fit : (l : MLine) (i : ℕ) → Fit (cipher_at l.cipher) l.base → Fit (cipher_at l.cipher) (state_of l i)
unfolding state_of state_at
state-fit l i h = iter-keeps (Fit (cipher_at l.cipher)) (gen_at l).next (sound l.cipher).next-fit (i - l.from) l.base h

-- ---- what numbers 8 and 255 ask

pub open_is : (l : Line) → l.mode ≡ 1 → line_ok l ≡ open_ok l
unfolding line_ok
open_is l e = ap (λ (x : ℕ). pick (eqb x 0) (idle_ok l) (pick (eqb x 1) (open_ok l) (both (eqb x 2) (loaded_ok l)))) e

-- what a state that passes says
module _ (c n : ℕ) (w : List ℕ) (h : state_ok c n w ≡ true) where
  pub state-cipher : is_cipher c ≡ true
  unfolding state_ok
  state-cipher = both_left (is_cipher c) _ h

  pub state-low : n ≤ limit
  unfolding state_ok
  state-low = leb-true n limit (both_left (leb n limit) _ (both_right (is_cipher c) _ h))

  pub state-admits : (cipher_at c).admits w ≡ true
  unfolding state_ok
  state-admits = both_right (leb n limit) _ (both_right (is_cipher c) _ h)

-- and an open line
module _ (l : Line) (h : open_ok l ≡ true) where
  pub open-state : image_ok l ≡ true
  unfolding open_ok
  open-state = both_left (image_ok l) (change_ok l.cipher l.n l.due l.waiting) h

  -- a change above its position has a state that passes
  pub open-waiting : l.n < l.due → state_ok l.cipher l.due l.waiting ≡ true
  unfolding open_ok change_ok
  open-waiting q =
      let k = both_right (image_ok l) (change_ok l.cipher l.n l.due l.waiting) h in
      both_right (ltb l.n l.due) _
      (sym (ap (λ (b : Bool). pick b (all_zero l.waiting) (both (ltb l.n l.due) (state_ok l.cipher l.due l.waiting))) (ne_eqb l.due 0 (λ z. omega (arith, q, z)))) ∙ k)

state-ok : (c n : ℕ) (w : List ℕ) → is_cipher c ≡ true → n ≤ limit → Fit (cipher_at c) w → state_ok c n w ≡ true
unfolding state_ok
state-ok c n w h p f = both_true h (both_true (le-leb n limit p) f.admitted)

change-ok : (l : MLine) → is_cipher l.cipher ≡ true → Waits l → change_ok l.cipher l.pos l.due l.waiting ≡ true
unfolding change_ok
change-ok l c (none-waits d f) =
    ap₂ (λ (x : ℕ) (y : List ℕ). pick (eqb x 0) (all_zero y) (both (ltb l.pos x) (state_ok l.cipher x y))) d f
change-ok l c (one-waits a b f) =
    ap (λ (t : Bool). pick t (all_zero l.waiting) (both (ltb l.pos l.due) (state_ok l.cipher l.due l.waiting))) (ne_eqb l.due 0 (λ e. omega (arith, a, e)))
    ∙ both_true (lt-ltb l.pos l.due a) (state-ok l.cipher l.due l.waiting c b f)

pub good-ok : (l : MLine) → Good l → line_ok (shown l) ≡ true
unfolding line_ok idle_ok open_ok loaded_ok shown
good-ok l good-idle = ap line_ok shown-idle
good-ok _ (good-loaded {c} {w} h k) = ap line_ok (start-shown 2 c w) ∙ both_true h k.kept
good-ok l (good-open m c p b f w) =
    open_is (shown l) m
    ∙ both_true (state-ok l.cipher l.pos (state_of l (unit_at l)) c p (state-fit l (unit_at l) f)) (change-ok l c w)

pub all-ok : (k : ℕ) (ls : List MLine) → ((i : ℕ) → Good (get_or ls i idle)) → all_ok k (map shown ls) ≡ true
all-ok zero ls h = refl
all-ok (suc k) ls h = both_true (all-ok k ls h) (ap line_ok (at ls k) ∙ good-ok (get_or ls k idle) (h k))
  where
    at : (ls : List MLine) (i : ℕ) → get_or (map shown ls) i idle_line ≡ shown (get_or ls i idle)
    at [] i = sym shown-idle
    at (l ∷ ls) zero = refl
    at (l ∷ ls) (suc i) = at ls i

-- ---- lines that begin

pub opened-good : (c : ℕ) (key iv : List ℕ) → is_cipher c ≡ true → All Byte key → All Byte iv → Good (opened c key iv)
unfolding opened unit_at
opened-good c key iv h hk hv = good-open {l = opened c key iv} refl h (omega arith) (omega arith) ((sound c).init-fit key iv hk hv) (none-waits refl refl)

pub loaded-good : (c : ℕ) (key : List ℕ) → is_cipher c ≡ true → All Byte key → length key ≡ (cipher_at c).key → all_zero key ≡ false → Good (loaded_line c key)
unfolding loaded_line
loaded-good c key h b e z = good-loaded h (load-keeps c key b e z)

-- a loaded line is the one that starts anew from what is seen of it, so it is started alike
pub started-good : (l : MLine) (iv : List ℕ) → Good l → l.mode ≡ 2 → All Byte iv → Good (started_line l iv)
unfolding started_line unit_at
started-good l iv good-idle e h = absurd (let z : ◌≡◌ {A = ℕ} 0 2 = e in omega (arith, z))
started-good l iv (good-open m c p b f w) e h = absurd (let z : ◌≡◌ {A = ℕ} 1 2 = sym m ∙ e in omega (arith, z))
started-good _ iv (good-loaded {c} {w} g k) e h = good-open {l = started_line (plain 2 c w 0 0) iv} refl g (omega arith) (omega arith) (start-fit c w iv k h) (none-waits refl refl)

pub started-same : (l : MLine) (iv : List ℕ) → Good l → l.mode ≡ 2 → shown (started_line (based (shown l)) iv) ≡ shown (started_line l iv)
unfolding started_line based
started-same l iv good-idle e = absurd (let z : ◌≡◌ {A = ℕ} 0 2 = e in omega (arith, z))
started-same l iv (good-open m c p b f w) e = absurd (let z : ◌≡◌ {A = ℕ} 1 2 = sym m ∙ e in omega (arith, z))
started-same _ iv (good-loaded {c} {w} g k) e = ap (λ (x : Line). shown (plain 1 x.cipher (start_of x.cipher x.words iv) 0 0)) (start-shown 2 c w)

-- the words of an image of bytes
image-words : (img : List ℕ) → All Byte img → All Word (image_line img).words
image-words img h = subst (All Word) (sym (image-state img)) (all-tab 38 (λ i. word_at img (14 + 4 * i)) (λ i q. word_at-word h (14 + 4 * i)))

pub resumed-good : (command : List ℕ) → All Byte command → image_ok (image_line (image_in command)) ≡ true → Good (based (image_line (image_in command)))
unfolding based unit_at image_line
resumed-good command h ok =
    let l = image_line (image_in command) in
    good-open {l = based l} refl (state-cipher l.cipher l.n l.words ok) (state-low l.cipher l.n l.words ok) (omega arith)
    (record {
      full = refl;
      words = image-words (image_in command) (all_take image_length (all_drop 2 h));
      admitted = state-admits l.cipher l.n l.words ok;
    })
    (none-waits refl refl)

-- ---- a line that moves on, and the line that starts anew from what is seen of it

module _ (l : MLine) (b : l.from ≤ unit_at l) where
  on : (k : ℕ) → unit_at l ≤ unit_at (along l k)
  unfolding unit_at along
  on k = div_mono (gen_at l).unit (unit-pos l.cipher) l.pos (l.pos + k) (omega arith)

  along-behind : (k : ℕ) → (along l k).from ≤ unit_at (along l k)
  unfolding along
  along-behind k = omega (arith, on k)

  along-same : (k : ℕ) → shown (along (based (shown l)) k) ≡ shown (along l k)
  unfolding unit_at along shown state_of based
  along-same k =
      λ j. record {
        mode = l.mode;
        cipher = l.cipher;
        n = l.pos + k;
        words = state_at-rebase (gen_at l) (unit-pos l.cipher) l.base l.from (unit_at l) (unit_at (along l k)) b (on k) j;
        due = l.due;
        waiting = l.waiting;
      }

  pub moved_same : (k : ℕ) → shown (moved (based (shown l)) k) ≡ shown (moved l k)
  unfolding moved shown based renewed
  moved_same k = go (comes_due l.pos l.due k)
    where
      go : (c : Bool) → shown (pick c (along (renewed (based (shown l)) l.waiting) (l.pos + k - l.due)) (along (based (shown l)) k))
          ≡ shown (pick c (along (renewed l l.waiting) (l.pos + k - l.due)) (along l k))
      go true = refl
      go false = along-same k

  xored-same : (text : List ℕ) → xored (based (shown l)) text ≡ xored l text
  unfolding xored unit_at byte_of shown state_of based
  xored-same text = xor_from-rebase (gen_at l) (unit-pos l.cipher) l.base l.from l.pos text b

  pub crypted-same : (text : List ℕ) → enciphered (based (shown l)) text ≡ enciphered l text
  unfolding enciphered shown based renewed
  crypted-same text = go (comes_due l.pos l.due (length text))
    where
      go : (c : Bool) →
          pick c (xored (based (shown l)) (take (l.due - l.pos) text) ++ xored (renewed (based (shown l)) l.waiting) (drop (l.due - l.pos) text)) (xored (based (shown l)) text)
          ≡ pick c (xored l (take (l.due - l.pos) text) ++ xored (renewed l l.waiting) (drop (l.due - l.pos) text)) (xored l text)
      go true = ap (λ (x : List ℕ). x ++ xored (renewed l l.waiting) (drop (l.due - l.pos) text)) (xored-same (take (l.due - l.pos) text))
      go false = xored-same text

  pub changed-same : (p : ℕ) (s : List ℕ) → shown (changed (based (shown l)) p s) ≡ shown (changed l p s)
  unfolding changed shown based renewed state_of unit_at
  changed-same p s = go (eqb p l.pos)
    where
      go : (c : Bool) →
          shown (pick c (renewed l s) (record { mode = l.mode; cipher = l.cipher; base = (based (shown l)).base; from = (based (shown l)).from; pos = l.pos; due = p; waiting = s }))
          ≡ shown (pick c (renewed l s) (record { mode = l.mode; cipher = l.cipher; base = l.base; from = l.from; pos = l.pos; due = p; waiting = s }))
      go true = refl
      go false =
          λ j. record {
            mode = l.mode;
            cipher = l.cipher;
            n = l.pos;
            words = state_at-here (gen_at l) (unit-pos l.cipher) (state_at (gen_at l) l.base l.from (l.pos / (gen_at l).unit)) (l.pos / (gen_at l).unit) j;
            due = p;
            waiting = s;
          }

module _ (l : MLine) (k : ℕ) (m : l.mode ≡ 1) (c : is_cipher l.cipher ≡ true) (b : l.from ≤ unit_at l) (f : Fit (cipher_at l.cipher) l.base) (h : (moved l k).pos ≤ limit) where
  past : l.pos < l.due → l.due ≤ l.pos + k → Fit (cipher_at l.cipher) l.waiting → Good (moved l k)
  unfolding along renewed unit_at
  past a d fit =
      let e = moved-past l k a d in
      let n : (along (renewed l l.waiting) (l.pos + k - l.due)).pos ≤ limit = subst (λ (x : MLine). x.pos ≤ limit) e h in
      subst Good (sym e) (good-open {l = along (renewed l l.waiting) (l.pos + k - l.due)} m c n (omega arith) fit (none-waits refl refl))

  short : (l.pos < l.due → l.pos + k < l.due) → Waits (along l k) → Good (moved l k)
  unfolding along
  short g w =
      let e = moved-short l k g in
      let n : (along l k).pos ≤ limit = subst (λ (x : MLine). x.pos ≤ limit) e h in
      subst Good (sym e) (good-open {l = along l k} m c n (along-behind l b k) f w)

  moved_open : Waits l → Good (moved l k)
  unfolding along
  moved_open (none-waits d z) = short (λ a. omega (arith, a, d)) (none-waits d z)
  moved_open (one-waits a u fit) = go (comes_due l.pos l.due k) refl
    where
      go : (t : Bool) → comes_due l.pos l.due k ≡ t → Good (moved l k)
      go true q = let d = due-told l.pos l.due k q in past d.0 d.1 fit
      go false q = let d = not-told l.pos l.due k q in short d (one-waits (d a) u fit)

pub moved-good : (l : MLine) (k : ℕ) → Good l → l.mode ≡ 1 → position_on l.pos l.due k ≤ limit → Good (moved l k)
moved-good l k good-idle e h = absurd (let z : ◌≡◌ {A = ℕ} 0 1 = e in omega arith)
moved-good l k (good-loaded g w) e h = absurd (let z : ◌≡◌ {A = ℕ} 2 1 = e in omega (arith, z))
moved-good l k (good-open m c p b f w) e h = moved_open l k m c b f (subst (λ (x : ℕ). x ≤ limit) (sym (moved-pos l k)) h) w

pub changed-good : (l : MLine) (p : ℕ) (s : List ℕ) → Good l → l.mode ≡ 1 → l.pos ≤ p → p ≤ limit → Fit (cipher_at l.cipher) s → Good (changed l p s)
unfolding changed renewed unit_at
changed-good l p s good-idle e a h fit = absurd (let z : ◌≡◌ {A = ℕ} 0 1 = e in omega arith)
changed-good l p s (good-loaded g w) e a h fit = absurd (let z : ◌≡◌ {A = ℕ} 2 1 = e in omega (arith, z))
changed-good l p s (good-open m c q b f w) e a h fit = go (eqb p l.pos) refl
  where
    there : MLine
    there = record { mode = l.mode; cipher = l.cipher; base = l.base; from = l.from; pos = l.pos; due = p; waiting = s }

    go : (t : Bool) → eqb p l.pos ≡ t → Good (pick t (renewed l s) there)
    go true z = good-open {l = renewed l s} m c (omega arith) (omega arith) fit (none-waits refl refl)
    go false z = good-open {l = there} m c q b f (one-waits (let ne = eqb-false p l.pos z in omega (arith, a, ne)) h fit)

-- S(0) of any key and IV fits
pub stream-fit : (c : ℕ) (key iv : List ℕ) → All Byte key → All Byte iv → Fit (cipher_at c) (stream_of c key iv)
stream-fit c key iv hk hv = (sound c).init-fit (key_for c key) (iv_for c iv) (all_take (cipher_at c).key hk) (all_take (cipher_at c).iv hv)

-- an open line is not behind
pub good-behind : (l : MLine) → Good l → l.from ≤ unit_at l
unfolding unit_at
good-behind l good-idle = omega arith
good-behind l (good-loaded g w) = omega arith
good-behind l (good-open m c p b f w) = b

-- and no change waits above 2^36
pub due-low : (l : MLine) → Good l → l.pos < l.due → l.due ≤ limit
due-low l good-idle q = absurd (let z : 0 < 0 = q in omega arith)
due-low l (good-loaded g w) q = absurd (let z : 0 < 0 = q in omega arith)
due-low l (good-open m c p b f (none-waits d _)) q = absurd (omega (arith, q, d))
due-low l (good-open m c p b f (one-waits _ u _)) q = u
