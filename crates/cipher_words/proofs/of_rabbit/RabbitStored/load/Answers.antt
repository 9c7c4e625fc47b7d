-- `cipher_words::of_rabbit::Rabbit::load` meets its contract: the registers and the carry are those of the state that the words hold.
-- Assumes nothing.
use mathlib.Core.Path.{ap, ◌∙◌}
use Prim.Native.Nat.{◌/◌, ◌^◌}
use lib.ListN.{get_or, take}
use Rattle.keystream.proofs.Parts.{tail-part}
use Rattle.ciphers.specs.States.{rabbit_state}
use Rattle.cipher_words.proofs.of_rabbit.RabbitStored.load.Goals as goal

pub returns : goal.returns
unfolding rabbit_state
returns c = λ j. record { x = c.front.ensures j; c = (c.front-2.ensures ∙ ap (take 8) (tail-part 8 c.args.w.now)) j; b = get_or c.args.w.now 16 0 / 2 ^ 24 }
