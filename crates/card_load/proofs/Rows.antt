-- What the rows of a load and of a start ask, by what is read of the line, and the lines that they put.
-- Assumes nothing.
use mathlib.Core.Path.{◌≡◌, refl, ap, sym, ◌∙◌}
use mathlib.Core.Bool.{true, not}
use mathlib.Core.List.{List}
use Prim.Native.Nat.{ℕ, ◌*◌, ◌<◌}
use lib.Dec.{eqb, lit≤}
use lib.ListN.{length, take, drop}
use Rattle.words.specs.Tests.{both}
use Rattle.words.proofs.Tests.{both_left, both_right}
use Rattle.card_sizes.specs.Sizes.{state_words, key_length, iv_length, start_iv}
use Rattle.command.specs.Rows.{unless}
use Rattle.command.specs.declared.Cipher.{Cipher}
use Rattle.command.specs.declared.Cipher.TheVariants.{Zuc, Rabbit, Snow128, Snow256, Kcipher2, Mugi}
use Rattle.command.specs.declared.Command.TheVariants.{Load, Start}
use Rattle.command.specs.Decode.{number_of, length_of}
use Rattle.ciphers.specs.Table.{is_cipher, all_zero}
use Rattle.ciphers.specs.Kept.{kept_of, start_of, keeps_ok}
use Rattle.card_rows.specs.Rows.{tray_rows}
use Rattle.machine.specs.Machine.{View, Line, plain, plain_line, shown, based, loaded_line, started_line, refuse_if, decided, loaded_ok}
use Rattle.machine.specs.Calls.{line_on}
use Rattle.machine.proofs.Lines.{start-shown}
use Rattle.card_layout.specs.Words.{card_in}
use Rattle.card_line.proofs.Lines.{Plain}
use Rattle.card_keys.specs.Keys.{load_with, start_with}
use Rattle.card_outcome.specs.Leaves.{call_of, public_of}
use Rattle.card_outcome.proofs.Laws.{view-is}

-- the rows of a load
pub load-decided : (ws : List ℕ) (i : ℕ) (c : Cipher) (k : ℕ) (command tray text out : List ℕ) {m : ℕ} → m ≡ (line_on (card_in ws) i).mode →
    decided (Load i c k) (public_of ws) (call_of command tray text out)
    ≡ refuse_if (not (eqb m 0)) 5 (unless refuse_if (tray_rows (length tray) k) (load_with i (number_of c) (take key_length (drop (key_length * k) tray))))
unfolding decided refuse_if length_of
load-decided ws i c k command tray text out h =
    let e = load_with i (number_of c) (take key_length (drop (key_length * k) tray)) in
    ap (λ (v : View). refuse_if (not (eqb v.mode 0)) 5 (unless refuse_if (tray_rows (length tray) k) e)) (view-is ws i)
    ∙ ap (λ (m : ℕ). refuse_if (not (eqb m 0)) 5 (unless refuse_if (tray_rows (length tray) k) e)) (sym h)

-- the rows of a start
pub start-decided : (ws : List ℕ) (i : ℕ) (command tray text out : List ℕ) → let l = line_on (card_in ws) i in
    decided (Start i) (public_of ws) (call_of command tray text out) ≡ start_with i l.mode l.cipher (take iv_length (drop start_iv command))
unfolding decided refuse_if length_of
start-decided ws i command tray text out = ap (λ (v : View). start_with i v.mode v.cipher (take iv_length (drop start_iv command))) (view-is ws i)

-- the lines that they put
pub loaded-is : (c : ℕ) (key w : List ℕ) → w ≡ kept_of c key → plain_line 2 c 0 w ≡ shown (loaded_line c key)
unfolding loaded_line
loaded-is c key w e = ap (plain_line 2 c 0) e ∙ sym (start-shown 2 c (kept_of c key))

pub started-is : (l : Line) (c : ℕ) (iv w : List ℕ) → l.cipher ≡ c → w ≡ start_of c l.words iv → plain_line 1 c 0 w ≡ shown (started_line (based l) iv)
unfolding started_line based
started-is l c iv w e h =
    ap (plain_line 1 c 0) h ∙ sym (start-shown 1 c (start_of c l.words iv)) ∙ ap (λ (x : ℕ). shown (plain 1 x (start_of x l.words iv) 0 0)) (sym e)

pub put-plain : (m : ℕ) (c : Cipher) (w : List ℕ) → m < 255 → length w ≡ state_words → Plain (plain_line m (number_of c) 0 w)
put-plain m c w h e = record { mode = h; cipher = small c; full = e; waits-full = refl }
  where
    small : (c : Cipher) → number_of c < 255
    small Zuc = lit≤ tt
    small Rabbit = lit≤ tt
    small Snow128 = lit≤ tt
    small Snow256 = lit≤ tt
    small Kcipher2 = lit≤ tt
    small Mugi = lit≤ tt

-- what a loaded line that passes keeps
module _ (l : Line) (h : loaded_ok l ≡ true) where
  pub loaded-cipher : is_cipher l.cipher ≡ true
  unfolding loaded_ok
  loaded-cipher = both_left (is_cipher l.cipher) _ h

  pub loaded-keeps : keeps_ok l.cipher l.words ≡ true
  unfolding loaded_ok
  loaded-keeps =
      both_right (both (eqb l.due 0) (all_zero l.waiting)) _ (both_right (eqb l.n 0) _ (both_right (is_cipher l.cipher) _ h))
