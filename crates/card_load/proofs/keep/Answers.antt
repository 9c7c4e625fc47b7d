-- `card_load::keep` meets its contract: Rabbit keeps its state, and the other ciphers the bytes of the key, which are whole words.
-- Assumes nothing.
use borrow.Enum.Refused.{opened}
use mathlib.Core.Path.{ap, ◌∙◌}
use Prim.Native.Nat.{ℕ, ◌%◌}
use native.Mathlib.Omega.{arith}
use Rattle.command.specs.Decode.{number_of}
use Rattle.ciphers.proofs.Rows.{key_fits}
use Rattle.card_load.proofs.Sorts.{rabbit-key, rabbit-kept, key-whole, key-kept}
use Rattle.card_load.proofs.keep.Goals as goal

pub keep-requires : goal.keep-requires
keep-requires c = c.requires ∙ rabbit-key c.in-Rabbit.is

pub key_words-requires : goal.key_words-requires
key_words-requires c =
    let n = number_of c.args.c in
    let f = key_fits n in
    (omega (arith, c.requires, f), ap (λ (k : ℕ). k % 4) c.requires ∙ key-whole n)

pub returns-in-Rabbit : goal.returns-in-Rabbit
returns-in-Rabbit c = rabbit-kept c.args.key.now c.in-Rabbit.is c.keep.ensures

pub returns-in_default : goal.returns-in_default
returns-in_default c =
    key-kept c.args.c (opened c.in_default.in_default-own.keys2) c.args.key.now c.key_words.ensures
