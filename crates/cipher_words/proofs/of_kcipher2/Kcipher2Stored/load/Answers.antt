-- `cipher_words::of_kcipher2::Kcipher2::load` meets its contract: the registers are those of the state that the words hold.
-- Assumes nothing.
use mathlib.Core.Path.{ap, ◌∙◌}
use lib.ListN.{get_or, take}
use Rattle.keystream.proofs.Parts.{tail-part}
use Rattle.ciphers.specs.States.{kcipher2_state}
use Rattle.cipher_words.proofs.of_kcipher2.Kcipher2Stored.load.Goals as goal

pub returns : goal.returns
unfolding kcipher2_state
returns c =
    λ j. record {
      a = c.front.ensures j;
      b = (c.front-2.ensures ∙ ap (take 11) (tail-part 5 c.args.w.now)) j;
      r1 = get_or c.args.w.now 16 0;
      l1 = get_or c.args.w.now 17 0;
      r2 = get_or c.args.w.now 18 0;
      l2 = get_or c.args.w.now 19 0;
    }
