-- `card_crypt::renew` meets its contract: the words that waited are the state of an open line at 0.
-- Assumes nothing.
use mathlib.Core.Path.{ap₂, ◌∙◌}
use mathlib.Core.List.{List}
use Prim.Native.Nat.{ℕ}
use Rattle.machine.specs.Machine.{plain_line}
use Rattle.card_line.specs.Words.{line_words}
use Rattle.card_line.proofs.Lines.{waiting-slice}
use Rattle.card_crypt.proofs.renew.Goals as goal

pub returns : goal.returns
returns c =
    c.put_words.ensures ∙ ap₂ (λ (x : ℕ) (w : List ℕ). line_words (plain_line 1 x 0 w)) c.cipher_of-cipher.ensures (c.state_of-state.ensures ∙ waiting-slice c.args.line.now c.requires)
