-- A call of the plain machine answers 0 or a number of document 01's list: each row gives its own, and nothing else gives one.
-- Assumes nothing.
use mathlib.Core.Path.{◌≡◌, subst}
use mathlib.Core.Bool.{Bool, true, false}
use mathlib.Core.List.{List, []}
use Prim.Native.Nat.{ℕ, ◌≤◌}
use lib.Dec.{lit≤}
use native.Mathlib.Omega.{arith}
use Rattle.std.specs.Prelude.{Result, Ok, Err}
use Rattle.words.specs.Tests.{pick}
use Rattle.command.specs.declared.Command.{Command}
use Rattle.command.specs.declared.Command.TheVariants.{Tray, Own, Crypt, Park, Resume, Close, Change, Load, Start}
use Rattle.command.specs.declared.Refusal.{Refusal}
use Rattle.command.specs.Decode.{refusal_number, decode_of}
use Rattle.command.proofs.Rows.{above, below}
use Rattle.command.proofs.Reading.{ReadIn, refused-in, read-in}
use Rattle.machine.specs.Machine.{Machine, Seen, Shown, Call, Effect, effect_of, of_decoded, decide, public, answer, perform, step, shows, back, card_ok, card_step, last_number}
use Rattle.machine.proofs.Rows.{decided-by}

-- a command that is not read is not answered with 0
pub refusal-told : (s : List ℕ) (k : Refusal) → decode_of s ≡ Err k → refusal_number k ≡ 0 → ⊥
refusal-told s k e z = by (subst (ReadIn s) e (read-in s))
  where
    by : ReadIn s (Err k) → ⊥
    by (refused-in n) = let h = above (refusal_number k) n in omega (arith, h, z)

module _ (m : Machine) (a : Call) where
  abbrev Small : Effect → Type 0
  Small e = (perform m a.text e).outcome.code ≤ last_number

  effect-small : (c : Command) → Small (effect_of c (public m) a)
  effect-small (Tray i c k) = lit≤ tt
  effect-small (Own i c) = lit≤ tt
  effect-small (Crypt i n) = lit≤ tt
  effect-small (Park i) = lit≤ tt
  effect-small (Resume i) = lit≤ tt
  effect-small (Close i) = lit≤ tt
  effect-small (Change i k p) = lit≤ tt
  effect-small (Load i c k) = lit≤ tt
  effect-small (Start i) = lit≤ tt

  decoded-small : (d : Result Command Refusal) → ReadIn a.command d → Small (of_decoded d (public m) a)
  decoded-small (Ok c) h = decided-by Small below c (public m) a (λ _. effect-small c)
  decoded-small (Err e) (refused-in n) = below (refusal_number e) n

  pub code-small : (step m a).outcome.code ≤ last_number
  unfolding step decide
  code-small = decoded-small (decode_of a.command) (read-in a.command)

-- What is so of 255 with the card as it was, and of the machine's step, is so of the card's.
pub of-card : (P : Shown → Type 0) (c : Seen) (a : Call) → P (record { outcome = answer 255 0 0 []; card = c }) → P (shows (step (back c) a)) → P (card_step c a)
unfolding card_step
of-card P c a damaged whole = by (card_ok c)
  where
    by : (b : Bool) → P (pick b (shows (step (back c) a)) (record { outcome = answer 255 0 0 []; card = c }))
    by true = whole
    by false = damaged
