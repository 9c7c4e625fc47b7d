-- A crypt of a line's words from a place within a unit is one of the line from its position, and a crypt is decided by its rows.
-- Assumes nothing.
use mathlib.Core.Path.{◌≡◌, refl, ap, sym, subst, ◌∙◌}
use mathlib.Core.Bool.{Bool, true, false}
use mathlib.Core.List.{List, ◌++◌}
use Prim.Native.Nat.{ℕ, ◌+◌, ◌-◌, ◌/◌, ◌%◌, ◌<◌}
use native.Mathlib.Nat.{mod-lt}
use lib.ListN.{length, drop}
use Rattle.words.specs.Tests.{pick}
use Rattle.keystream.specs.Stream.{state_at, byte_at, xor_from}
use Rattle.keystream.proofs.Parts.{state_at-place, xor_from-place}
use Rattle.ciphers.specs.Table.{cipher_at}
use Rattle.ciphers.proofs.Sound.{sound}
use Rattle.card_sizes.specs.Sizes.{state_words, crypt_length}
use Rattle.card_moves.specs.Moves.{comes_due}
use Rattle.command.specs.declared.Command.TheVariants.{Crypt}
use Rattle.command.specs.Rows.{unless}
use Rattle.command.specs.Decode.{length_of}
use Rattle.card_rows.specs.Rows.{crypt_rows}
use Rattle.card_line.proofs.Lines.{Plain}
use Rattle.machine.specs.Calls.{line_on}
use Rattle.card_layout.specs.Words.{card_in}
use Rattle.card_outcome.specs.Leaves.{call_of, public_of}
use Rattle.card_outcome.proofs.Laws.{view-is}
use Rattle.machine.specs.Machine.{View, crypt, refuse_if, decided, Line, MLine, based, shown, along, renewed, moved, xored, state_of, unit_at, byte_of}

-- a crypt from a place within a unit is one from the line's position
pub crypted-line : (l : Line) (u : ℕ) → u ≡ (cipher_at l.cipher).gen.unit → (text out w' out' : List ℕ) →
    w' ≡ state_at (cipher_at l.cipher).gen l.words 0 ((l.n % u + length text) / (cipher_at l.cipher).gen.unit) →
    out' ≡ xor_from (byte_at (cipher_at l.cipher).gen l.words 0) (l.n % u) text ++ drop (length text) out →
    (◌≡◌ {A = Line} (record { mode = l.mode; cipher = l.cipher; n = l.n + length text; words = w'; due = l.due; waiting = l.waiting }) (shown (along (based l) (length text))))
    × (out' ≡ xored (based l) text ++ drop (length text) out)
unfolding shown along based state_of unit_at xored byte_of
crypted-line l u eu text out w' out' e f =
    let g = (cipher_at l.cipher).gen in
    let s = ap (λ (x : ℕ). state_at g l.words 0 ((l.n % x + length text) / g.unit)) eu in
    let b = ap (λ (x : ℕ). xor_from (byte_at g l.words 0) (l.n % x) text) eu in (
      ap (λ (x : List ℕ). record { mode = l.mode; cipher = l.cipher; n = l.n + length text; words = x; due = l.due; waiting = l.waiting })
          (e ∙ s ∙ sym (state_at-place g (sound l.cipher).unit-pos l.words l.n (length text))),
      f ∙ ap (λ (x : List ℕ). x ++ drop (length text) out) (b ∙ sym (xor_from-place g (sound l.cipher).unit-pos l.words l.n text)),
    )

-- a line that moved on is one that words can hold where its state is whole
pub moved_plain : (l : Line) (k : ℕ) → Plain l → length (shown (moved (based l) k)).words ≡ state_words → Plain (shown (moved (based l) k))
unfolding shown moved based along renewed
moved_plain l k p f = go (comes_due l.n l.due k) f
  where
    go : (b : Bool) → length (shown (pick b (along (renewed (based l) l.waiting) (l.n + k - l.due)) (along (based l) k))).words ≡ state_words →
        Plain (shown (pick b (along (renewed (based l) l.waiting) (l.n + k - l.due)) (along (based l) k)))
    go true f = record { mode = p.mode; cipher = p.cipher; full = f; waits-full = refl }
    go false f = record { mode = p.mode; cipher = p.cipher; full = f; waits-full = p.waits-full }

-- ---- the rows of a crypt, by what is read of its line

pub crypt-decided : (ws : List ℕ) (i n : ℕ) (command tray text out : List ℕ) → let l = line_on (card_in ws) i in
    decided (Crypt i n) (public_of ws) (call_of command tray text out) ≡ unless refuse_if (crypt_rows l.mode l.n l.due n (length text) (length out)) (crypt i n crypt_length)
unfolding decided refuse_if length_of
crypt-decided ws i n command tray text out =
    ap (λ (v : View). unless refuse_if (crypt_rows v.mode v.pos v.due n (length text) (length out)) (crypt i n crypt_length)) (view-is ws i)
