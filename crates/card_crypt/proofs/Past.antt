-- A crypt past a change: the words that come back from the two parts are those of the line as far on, and the two parts of out join to the enciphered text.
-- Assumes nothing.
use mathlib.Core.Path.{◌≡◌, refl, ap, ap₂, sym, subst, ◌∙◌}
use mathlib.Core.Bool.{Bool, true, false}
use mathlib.Core.List.{List, ◌++◌}
use Prim.Native.Nat.{ℕ, ◌+◌, ◌-◌, ◌/◌, ◌<◌, ◌≤◌}
use native.Mathlib.Nat.{div-eq_of_lt}
use native.Mathlib.Omega.{arith}
use borrow.Rule.Slice.PartMut.{put_mid}
use lib.ListN.{length, take, drop, length-drop}
use lib.Seq.{length-take-le}
use Rattle.words.specs.Tests.{pick}
use Rattle.words.proofs.Tests.{both_true}
use Rattle.keystream.proofs.Laws.{xor_from-length}
use Rattle.keystream.proofs.Parts.{tail-part, part-more}
use Rattle.card_sizes.specs.Sizes.{state_words, line_size}
use Rattle.card_moves.specs.Moves.{comes_due, position_on}
use Rattle.card_moves.proofs.Due.{due-told, not-told, on-past, on-short}
use Rattle.machine.specs.Machine.{MLine, Line, gen_of, plain, plain_line, shown, based, along, renewed, moved, xored, enciphered, byte_of, state_ok, image_ok, limit}
use Rattle.machine.proofs.Moves.{moved-past, moved-short}
use Rattle.machine.proofs.Lines.{unit-pos, open_is, state-cipher, state-low, state-admits, open-state, open-waiting}
use Rattle.card_line.specs.Words.{line_in, line_words, LineHeld}
use Rattle.card_line.proofs.Lines.{Plain, ok-plain, line_read, line-length}
use Rattle.card_crypt.specs.Crypted.{AlongAsks, Along, renewed_line, PastAsks, CryptAsks, Crypted}

-- words that are a line's hold it
held_of : (ws : List ℕ) (l : Line) → ws ≡ line_words l → Plain l → (line_in ws ≡ l) × LineHeld ws
held_of ws l e p =
    let i : line_in ws ≡ l = ap line_in e ∙ line_read l p in
    (i, record { size = ap length e ∙ line-length l p.full p.waits-full; words = ap line_words i ∙ sym e })

-- at the start of its stream a state passes too
start-ok : (c n : ℕ) (w : List ℕ) → state_ok c n w ≡ true → state_ok c 0 w ≡ true
unfolding state_ok
start-ok c n w h = both_true (state-cipher c n w h) (state-admits c n w h)

module _ (ws : List ℕ) (old : ℕ) (text out : List ℕ) (p : PastAsks ws old text out) where
  told : ((line_in ws).n < (line_in ws).due) × ((line_in ws).due ≤ (line_in ws).n + length text)
  told = due-told (line_in ws).n (line_in ws).due (length text) p.comes

  pub old-within : old ≤ length text
  old-within = let t = told in let e = p.old-is in omega (arith, t.0, t.1, e)

  waits : state_ok (line_in ws).cipher (line_in ws).due (line_in ws).waiting ≡ true
  waits = open-waiting (line_in ws) p.asks.ok told.0

  -- the bytes after the change
  rest-is : (line_in ws).n + length text - (line_in ws).due ≡ length text - old
  rest-is = let t = told in let e = p.old-is in omega (arith, t.0, t.1, e)

  rest-low : length text - old ≤ limit
  rest-low =
      let w = subst (λ (x : ℕ). x ≤ limit) (on-past (line_in ws).n (line_in ws).due (length text) p.comes) p.asks.within in
      let e = rest-is in omega (arith, w, e)

  pub first-asks : AlongAsks ws (take old text) out
  first-asks =
      let t = told in
      let e = p.old-is in
      let k = length-take-le old text old-within in
      let low = state-low (line_in ws).cipher (line_in ws).due (line_in ws).waiting waits in
      let r = p.asks.room in
      record {
        held = p.asks.held;
        up = p.asks.up;
        ok = open-state (line_in ws) p.asks.ok;
        within = omega (arith, t.0, e, k, low);
        room = omega (arith, k, r, old-within);
      }

  -- a line that words can hold
  plain-line : Plain (line_in ws)
  plain-line = ok-plain ws (open_is (line_in ws) p.asks.up ∙ p.asks.ok)

  -- between the two
  module _ (ws1 ws2 out1 : List ℕ) (g : Along (line_in ws) (take old text) out ws1 out1) (e2 : ws2 ≡ line_words (renewed_line (line_in ws1))) (so : length out1 ≡ length out) where
    new : MLine
    new = renewed (based (line_in ws)) (line_in ws).waiting

    first_plain : Plain (shown (along (based (line_in ws)) (length (take old text))))
    unfolding shown along based
    first_plain = record { mode = plain-line.mode; cipher = plain-line.cipher; full = g.full; waits-full = plain-line.waits-full }

    first-line : line_in ws1 ≡ shown (along (based (line_in ws)) (length (take old text)))
    first-line = (held_of ws1 _ g.words_are first_plain).0

    pub first-size : length ws1 ≡ line_size
    first-size = (held_of ws1 _ g.words_are first_plain).1.size

    -- the line in its new stream
    new-words : ws2 ≡ line_words (renewed_line (line_in ws))
    unfolding shown along based
    new-words = e2 ∙ ap (λ (x : Line). line_words (renewed_line x)) first-line

    second-held : (line_in ws2 ≡ renewed_line (line_in ws)) × LineHeld ws2
    second-held = held_of ws2 (renewed_line (line_in ws)) new-words (record { mode = omega arith; cipher = plain-line.cipher; full = plain-line.waits-full; waits-full = refl })

    second-based : based (line_in ws2) ≡ new
    unfolding new renewed based
    second-based =
        ap based second-held.0
        ∙ ap (λ (m : ℕ). based (plain_line m (line_in ws).cipher 0 (line_in ws).waiting)) (sym p.asks.up)
        ∙ ap (λ (x : ℕ). plain (line_in ws).mode (line_in ws).cipher (line_in ws).waiting x 0) zero-unit
      where
        zero-unit : 0 / (gen_of (line_in ws).cipher).unit ≡ 0
        zero-unit = div-eq_of_lt (unit-pos (line_in ws).cipher)

    rest-text : take (length text - old) (drop old text) ≡ drop old text
    rest-text = tail-part old text

    rest-long : length (take (length text - old) (drop old text)) ≡ length text - old
    rest-long = ap length rest-text ∙ length-drop old text

    pub second-asks : AlongAsks ws2 (take (length text - old) (drop old text)) (take (length out1 - old) (drop old out1))
    second-asks =
        let i = second-held.0 in
        let k = rest-long in
        let r = p.asks.room in
        let low = rest-low in
        let t = ap length (tail-part old out1) ∙ length-drop old out1 in
        let n : (line_in ws2).n ≡ 0 = ap (λ (x : Line). x.n) i in
        record {
          held = second-held.1;
          up = ap (λ (x : Line). x.mode) i;
          ok = ap image_ok i ∙ start-ok (line_in ws).cipher (line_in ws).due (line_in ws).waiting waits;
          within = omega (arith, k, low, n);
          room = omega (arith, k, r, so, t);
        }

    pub both-give : (ws3 out3 : List ℕ) → Along (line_in ws2) (take (length text - old) (drop old text)) (take (length out1 - old) (drop old out1)) ws3 out3 →
        Crypted (line_in ws) text out ws3 (put_mid old (length out1 - old) out1 out3)
    unfolding enciphered xored new renewed based
    both-give ws3 out3 h =
        let L = based (line_in ws) in
        let t = told in
        let k = rest-long in
        let y : List ℕ = xored L (take old text) in
        let z : List ℕ = xored new (drop old text) in
        let ly : length y ≡ old = xor_from-length (byte_of L) L.pos (take old text) ∙ length-take-le old text old-within in
        let w = old-within in
        let r = p.asks.room in
        let sum : old + (length text - old) ≡ length text = omega (arith, w) in
        let e1 : out1 ≡ y ++ drop old out = g.out-is ∙ ap (λ (x : ℕ). y ++ drop x out) (length-take-le old text w) in
        let e3 : out3 ≡ z ++ drop (length text - old) (take (length out1 - old) (drop old out1)) =
        h.out-is
        ∙ ap₂ (λ (m : MLine) (x : List ℕ). xored m x ++ drop (length (take (length text - old) (drop old text))) (take (length out1 - old) (drop old out1))) second-based rest-text
        ∙ ap (λ (x : ℕ). z ++ drop x (take (length out1 - old) (drop old out1))) k in
        let d : take ((line_in ws).due - (line_in ws).n) text ≡ take old text = ap (λ (x : ℕ). take x text) (sym p.old-is) in
        let f : drop ((line_in ws).due - (line_in ws).n) text ≡ drop old text = ap (λ (x : ℕ). drop x text) (sym p.old-is) in
        let on : shown (along (based (line_in ws2)) (length (take (length text - old) (drop old text)))) ≡ shown (moved L (length text)) =
        ap₂ (λ (m : MLine) (x : ℕ). shown (along m x)) second-based (k ∙ sym rest-is) ∙ sym (ap shown (moved-past L (length text) t.0 t.1)) in
        record {
          words_are = h.words_are ∙ ap line_words on;
          full = sym (ap (λ (x : Line). length x.words) on) ∙ h.full;
          out-is =
              part-more y z out out1 out3 old (length text - old) ly (omega (arith, sum, r)) e1 e3
              ∙ ap (λ (x : ℕ). (y ++ z) ++ drop x out) sum
              ∙ ap (λ (x : List ℕ). x ++ drop (length text) out)
              (sym (ap (λ (b : Bool). pick b (xored L (take ((line_in ws).due - (line_in ws).n) text) ++ xored new (drop ((line_in ws).due - (line_in ws).n) text)) (xored L text)) p.comes ∙ ap₂ (λ (x v : List ℕ). xored L x ++ xored new v) d f));
        }

-- ---- where none comes due

module _ (ws text out : List ℕ) (a : CryptAsks ws text out) (no : comes_due (line_in ws).n (line_in ws).due (length text) ≡ false) where
  pub short-asks : AlongAsks ws text out
  short-asks =
      record {
        held = a.held;
        up = a.up;
        ok = open-state (line_in ws) a.ok;
        within = subst (λ (x : ℕ). x ≤ limit) (on-short (line_in ws).n (line_in ws).due (length text) no) a.within;
        room = a.room;
      }

  pub short-gives : (ws' out' : List ℕ) → Along (line_in ws) text out ws' out' → Crypted (line_in ws) text out ws' out'
  unfolding enciphered based
  short-gives ws' out' g =
      let L = based (line_in ws) in
      let on : shown (along L (length text)) ≡ shown (moved L (length text)) = sym (ap shown (moved-short L (length text) (not-told (line_in ws).n (line_in ws).due (length text) no))) in
      record {
        words_are = g.words_are ∙ ap line_words on;
        full = sym (ap (λ (x : Line). length x.words) on) ∙ g.full;
        out-is =
            g.out-is
            ∙ ap (λ (x : List ℕ). x ++ drop (length text) out)
            (sym (ap (λ (b : Bool). pick b (xored L (take ((line_in ws).due - (line_in ws).n) text) ++ xored (renewed L (line_in ws).waiting) (drop ((line_in ws).due - (line_in ws).n) text)) (xored L text)) no));
      }
