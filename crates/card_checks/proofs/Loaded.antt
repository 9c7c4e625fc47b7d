-- What 255 asks of a loaded line, test by test: each that fails refuses it, and where the first three pass the last one decides.
-- Assumes nothing.
use mathlib.Core.Path.{◌≡◌, ap, sym, ◌∙◌}
use mathlib.Core.Bool.{Bool, true, false}
use mathlib.Core.List.{List}
use Prim.Native.Nat.{ℕ}
use lib.Dec.{eqb}
use lib.ListN.{length, get_or, take, drop}
use borrow.Author.Tests.{eq-eqb, ne_eqb}
use Rattle.words.specs.Tests.{both}
use Rattle.words.proofs.Tests.{both_false}
use Rattle.card_sizes.specs.Sizes.{due_at, line_size}
use Rattle.ciphers.specs.Table.{is_cipher, all_zero}
use Rattle.ciphers.specs.Kept.{keeps_ok}
use Rattle.machine.specs.Machine.{loaded_ok, line_ok}
use Rattle.card_line.specs.Words.{line_in}
use Rattle.card_line.proofs.Lines.{loaded-line}
use Rattle.card_checks.proofs.Changes.{quiet_is}

-- the four tests
abbrev tests : (c n quiet kept : Bool) → Bool
tests c n quiet kept = both c (both n (both quiet kept))

module _ (ws : List ℕ) (size : length ws ≡ line_size) (two : get_or ws 0 0 ≡ 2) where
  abbrev quiet : Bool
  quiet = both (eqb (line_in ws).due 0) (all_zero (line_in ws).waiting)

  abbrev kept : Bool
  kept = keeps_ok (line_in ws).cipher (line_in ws).words

  by_tests : tests (is_cipher (line_in ws).cipher) (eqb (line_in ws).n 0) quiet kept ≡ line_ok (line_in ws)
  unfolding loaded_ok
  by_tests = loaded-line ws two

  pub no-cipher : is_cipher (line_in ws).cipher ≡ false → false ≡ line_ok (line_in ws)
  no-cipher h = sym (ap (λ (b : Bool). tests b (eqb (line_in ws).n 0) quiet kept) h) ∙ by_tests

  pub has-moved : ((line_in ws).n ≡ 0 → ⊥) → false ≡ line_ok (line_in ws)
  has-moved f =
      sym (both_false (is_cipher (line_in ws).cipher) (both (eqb (line_in ws).n 0) (both quiet kept)) (ap (λ (b : Bool). both b (both quiet kept)) (ne_eqb (line_in ws).n 0 f))) ∙ by_tests

  pub has-change : all_zero (take 40 (drop due_at ws)) ≡ false → false ≡ line_ok (line_in ws)
  has-change h =
      sym (both_false (is_cipher (line_in ws).cipher) (both (eqb (line_in ws).n 0) (both quiet kept))
      (both_false (eqb (line_in ws).n 0) (both quiet kept) (ap (λ (b : Bool). both b kept) (quiet_is ws size false h)))) ∙ by_tests

  pub by-kept : is_cipher (line_in ws).cipher ≡ true → (line_in ws).n ≡ 0 → all_zero (take 40 (drop due_at ws)) ≡ true → {b : Bool} → b ≡ kept → b ≡ line_ok (line_in ws)
  by-kept c n h e =
      e ∙ sym (λ j. tests (c j) (eq-eqb (line_in ws).n 0 n j) (quiet_is ws size true h j) kept) ∙ by_tests
