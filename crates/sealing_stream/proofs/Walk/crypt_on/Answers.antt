-- `sealing_stream::Walk::crypt_on` meets its contract: a crypt from a place within a unit is one from a byte of the stream.
-- Assumes nothing.
use mathlib.Core.Path.{refl}
use native.Mathlib.Nat.{mod-lt}
use native.Mathlib.Omega.{arith}
use borrow.Author.Rules.{rules}
use lib.ListN.{length}
use Rattle.command.specs.Decode.{number_of}
use Rattle.ciphers.proofs.Sound.{unit-up, place-within}
use Rattle.sealing_stream.proofs.Walks.{unit-most, walk-admitted, on-fit, crypted-on}
use Rattle.sealing_stream.proofs.Walk.crypt_on.Goals as goal

pub nonzero_rem-self : goal.nonzero_rem-self
nonzero_rem-self c = unit-up (number_of c.args.self.now.cipher) _ c.unit_of-unit.ensures

pub overflow_add-self : goal.overflow_add-self
overflow_add-self c =
    let m = unit-most (number_of c.args.self.now.cipher) in
    let p = mod-lt (length c.args.text.now) (unit-up (number_of c.args.self.now.cipher) _ c.unit_of-unit.ensures) in
    let k = c.args.self.now.within in
    record { fits = omega (arith, c.unit_of-unit.ensures, m, p, k) }

pub crypt-requires-clause-w_len : goal.crypt-requires-clause-w_len
crypt-requires-clause-w_len c = (search rules, walk-admitted c.args.self.now)

pub invariant_of-self-clause-fit : goal.invariant_of-self-clause-fit
invariant_of-self-clause-fit c = on-fit c.args.self.now _ c.args.text.now c.args.out.now _ _ c.unit_of-unit.ensures c.crypt.ensures.0 c.crypt.ensures.1

pub invariant_of-self-clause-within : goal.invariant_of-self-clause-within
invariant_of-self-clause-within c = place-within (number_of c.args.self.now.cipher) _ _ c.unit_of-unit.ensures

pub returns : goal.returns
returns c =
    crypted-on c.args.self.now _ c.args.text.now c.args.out.now _ _ c.unit_of-unit.ensures c.crypt.ensures.0 c.crypt.ensures.1 refl refl refl
