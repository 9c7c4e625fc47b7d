-- `sealing_stream::Walk::start` meets its contract: the front of the key is that of the cipher's length, and S(0) is fit.
-- Assumes nothing.
use mathlib.Core.Path.{refl, ap, sym, subst, ◌∙◌}
use mathlib.Core.List.{List}
use Prim.Native.Nat.{ℕ, ◌≤◌}
use native.Mathlib.Omega.{arith}
use lib.ListN.{length, take}
use lib.Seq.{length-take-le}
use Rattle.words.proofs.Ranges.{all-by}
use Rattle.ciphers.specs.Table.{cipher_at}
use Rattle.ciphers.specs.Fit.{Fit}
use Rattle.ciphers.proofs.Sound.{sound}
use Rattle.ciphers.proofs.Rows.{key_fits}
use Rattle.ciphers.proofs.States.{all_take}
use Rattle.command.specs.Decode.{number_of}
use Rattle.machine.specs.Machine.{iv_for}
use Rattle.sealing_stream.proofs.Walks.{at_first}
use Rattle.sealing_stream.proofs.Walk.start.Goals as goal

pub slice_bounds-first_state-end : goal.slice_bounds-first_state-end
slice_bounds-first_state-end c = sym (length-take-le _ c.args.key.now ((let it : c.key_of-k.result ≤ length c.args.key.now = let f = key_fits (number_of c.args.cipher) in omega (arith, c.key_of-k.ensures, c.requires.0, f) in it)))

pub first_state-words-requires-clause-key_len : goal.first_state-words-requires-clause-key_len
first_state-words-requires-clause-key_len c = length-take-le _ c.args.key.now ((let it : c.key_of-k.result ≤ length c.args.key.now = let f = key_fits (number_of c.args.cipher) in omega (arith, c.key_of-k.ensures, c.requires.0, f) in it)) ∙ c.key_of-k.ensures

pub invariant_of-result-clause-fit : goal.invariant_of-result-clause-fit
invariant_of-result-clause-fit c =
    let n = number_of c.args.cipher in
    let key = all-by c.args.key.now (λ i _. (c.type_inv.key i).fits) in
    let iv = all-by c.args.iv.now (λ i _. (c.type_inv.iv i).fits) in
    ∣ subst (λ (w : List ℕ). Fit (cipher_at n) w) (sym c.first_state-words.ensures) ((sound n).init-fit _ _ (all_take c.key_of-k.result key) (all_take (cipher_at n).iv iv)) ∣₁

pub invariant_of-result-clause-within : goal.invariant_of-result-clause-within
invariant_of-result-clause-within c = (sound (number_of c.args.cipher)).unit-pos

pub returns : goal.returns
returns c =
    at_first _ _ (c.first_state-words.ensures ∙ ap (λ (x : ℕ). (cipher_at (number_of c.args.cipher)).init (take x c.args.key.now) (iv_for (number_of c.args.cipher) c.args.iv.now)) c.key_of-k.ensures) refl
