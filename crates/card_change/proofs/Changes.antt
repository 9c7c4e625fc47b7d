-- What the rows of a change ask, and the line that a change puts: at once the line at the start of its new stream, else the line with the change that waits.
-- Assumes nothing.
use mathlib.Core.Path.{◌≡◌, refl, ap, ap₂, sym, subst, ◌∙◌}
use mathlib.Core.Bool.{Bool, true, false}
use mathlib.Core.List.{List}
use Prim.Native.Nat.{ℕ, ◌*◌}
use native.Mathlib.Omega.{arith}
use lib.Dec.{eqb}
use lib.ListN.{length, take, drop}
use borrow.Author.Tests.{eq-eqb, ne_eqb}
use Rattle.words.specs.Tests.{pick}
use Rattle.card_sizes.specs.Sizes.{state_words, key_length, iv_length, change_iv, change_length}
use Rattle.command.specs.declared.Command.TheVariants.{Change}
use Rattle.command.specs.Decode.{length_of}
use Rattle.command.specs.Rows.{unless}
use Rattle.card_rows.specs.Rows.{change_rows, tray_rows}
use Rattle.machine.specs.Machine.{Line, MLine, View, plain, plain_line, shown, based, renewed, changed, refuse_if, decided}
use Rattle.machine.specs.Calls.{line_on}
use Rattle.machine.proofs.Lines.{shown-based, start-shown}
use Rattle.card_line.specs.Words.{with_change}
use Rattle.card_line.proofs.Lines.{Plain}
use Rattle.card_layout.specs.Words.{card_in}
use Rattle.card_keys.specs.Keys.{key_bytes, change_with}
use Rattle.card_outcome.specs.Leaves.{call_of, public_of}
use Rattle.card_outcome.proofs.Laws.{view_in, view-is}

-- the rows of a change, by what is read of its line
pub change-decided : (ws : List ℕ) (i k p : ℕ) (command tray text out : List ℕ) → let l = line_on (card_in ws) i in
    decided (Change i k p) (public_of ws) (call_of command tray text out)
    ≡ unless refuse_if (change_rows l.mode l.n l.due p)
    (unless refuse_if (tray_rows (length tray) k) (change_with i p change_length l.cipher (key_bytes false (key_length * k) tray command) (take iv_length (drop change_iv command))))
unfolding decided refuse_if length_of
change-decided ws i k p command tray text out =
    ap
    (λ (v : View). unless refuse_if (change_rows v.mode v.pos v.due p)
    (unless refuse_if (tray_rows (length tray) k) (change_with i p change_length v.cipher (key_bytes false (key_length * k) tray command) (take iv_length (drop change_iv command)))))
    (view-is ws i)

-- ---- the line

module _ (l : Line) (p : ℕ) (s : List ℕ) where
  by_place : (b : Bool) → eqb p l.n ≡ b → changed (based l) p s ≡ pick b (renewed (based l) s) (based (with_change l p s))
  unfolding changed based
  by_place b e = ap (λ (b : Bool). pick b (renewed (based l) s) (based (with_change l p s))) e

  pub at_once : {c : ℕ} → l.mode ≡ 1 → c ≡ l.cipher → p ≡ l.n → plain_line 1 c 0 s ≡ shown (changed (based l) p s)
  unfolding renewed based
  at_once {c} m e h =
      ap₂ (λ (x y : ℕ). plain_line x y 0 s) (sym m) e ∙ sym (start-shown l.mode l.cipher s) ∙ ap shown (sym (by_place true (eq-eqb p l.n h)))

  pub later : (p ≡ l.n → ⊥) → with_change l p s ≡ shown (changed (based l) p s)
  later f = sym (shown-based (with_change l p s)) ∙ ap shown (sym (by_place false (ne_eqb p l.n f)))

  pub changed-plain : Plain l → length s ≡ state_words → Plain (shown (changed (based l) p s))
  unfolding renewed based
  changed-plain h n = go (eqb p l.n) refl
    where
      go : (b : Bool) → eqb p l.n ≡ b → Plain (shown (changed (based l) p s))
      go true e = subst Plain (sym (ap shown (by_place true e) ∙ start-shown l.mode l.cipher s)) (record { mode = h.mode; cipher = h.cipher; full = n; waits-full = refl })
      go false e = subst Plain (sym (ap shown (by_place false e) ∙ shown-based (with_change l p s))) (record { mode = h.mode; cipher = h.cipher; full = h.full; waits-full = n })
