-- What the rows of an open ask of the tray, and the line that an open puts.
-- Assumes nothing.
use mathlib.Core.Path.{◌≡◌, refl, ap, sym, ◌∙◌}
use mathlib.Core.Bool.{false, not}
use mathlib.Core.List.{List}
use Prim.Native.Nat.{ℕ, ◌*◌, ◌<◌}
use native.Mathlib.Omega.{arith}
use lib.Dec.{eqb, lit≤}
use lib.ListN.{length, take, drop}
use Rattle.card_sizes.specs.Sizes.{state_words, key_length, iv_length, tray_iv, tray_length}
use Rattle.command.specs.declared.Command.TheVariants.{Tray}
use Rattle.command.specs.Rows.{unless}
use Rattle.ciphers.specs.Table.{cipher_at}
use Rattle.command.specs.declared.Cipher.{Cipher}
use Rattle.command.specs.declared.Cipher.TheVariants.{Zuc, Rabbit, Snow128, Snow256, Kcipher2, Mugi}
use Rattle.command.specs.Decode.{number_of, length_of}
use Rattle.card_rows.specs.Rows.{tray_rows}
use Rattle.machine.specs.Machine.{View, plain_line, shown, opened, refuse_if, decided}
use Rattle.machine.specs.Calls.{line_on}
use Rattle.card_layout.specs.Words.{card_in}
use Rattle.machine.proofs.Lines.{opened-shown}
use Rattle.card_line.proofs.Lines.{Plain}
use Rattle.card_keys.specs.Keys.{key_bytes, open_with}
use Rattle.card_outcome.specs.Leaves.{call_of, public_of}
use Rattle.card_outcome.proofs.Laws.{view-is}

-- the rows of an open with a key of the tray, by what is read of its line
pub tray-decided : (ws : List ℕ) (i : ℕ) (c : Cipher) (k : ℕ) (command tray text out : List ℕ) {m : ℕ} → m ≡ (line_on (card_in ws) i).mode →
    decided (Tray i c k) (public_of ws) (call_of command tray text out)
    ≡ refuse_if (not (eqb m 0)) 5 (unless refuse_if (tray_rows (length tray) k) (open_with i tray_length (number_of c) (key_bytes false (key_length * k) tray command) (take iv_length (drop tray_iv command))))
unfolding decided refuse_if length_of
tray-decided ws i c k command tray text out h =
    let e = open_with i tray_length (number_of c) (key_bytes false (key_length * k) tray command) (take iv_length (drop tray_iv command)) in
    ap (λ (v : View). refuse_if (not (eqb v.mode 0)) 5 (unless refuse_if (tray_rows (length tray) k) e)) (view-is ws i)
    ∙ ap (λ (m : ℕ). refuse_if (not (eqb m 0)) 5 (unless refuse_if (tray_rows (length tray) k) e)) (sym h)

-- the line that an open puts
pub opened-is : (c : ℕ) (key iv w : List ℕ) → w ≡ (cipher_at c).init key iv → plain_line 1 c 0 w ≡ shown (opened c key iv)
opened-is c key iv w e = ap (plain_line 1 c 0) e ∙ sym (opened-shown c key iv)

pub number_small : (c : Cipher) → number_of c < 255
number_small Zuc = lit≤ tt
number_small Rabbit = lit≤ tt
number_small Snow128 = lit≤ tt
number_small Snow256 = lit≤ tt
number_small Kcipher2 = lit≤ tt
number_small Mugi = lit≤ tt

pub opened-plain : (c : Cipher) (w : List ℕ) → length w ≡ state_words → Plain (plain_line 1 (number_of c) 0 w)
opened-plain c w e = record { mode = omega arith; cipher = number_small c; full = e; waits-full = refl }
