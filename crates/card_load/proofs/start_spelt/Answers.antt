-- `card_load::start_spelt` meets its contract: the key is the front of the bytes that eight words spell.
-- Assumes nothing.
use mathlib.Core.Path.{◌≡◌, ap, sym, ◌∙◌}
use mathlib.Core.List.{List}
use Prim.Native.Nat.{◌≤◌}
use native.Mathlib.Omega.{arith}
use lib.ListN.{length, take}
use lib.Seq.{length-take-le}
use Rattle.ciphers.specs.Table.{cipher_at}
use Rattle.command.specs.Decode.{number_of}
use Rattle.ciphers.proofs.Rows.{key_fits}
use Rattle.card_load.proofs.Sorts.{key-front}
use borrow.Author.Rules.{rules}
use Rattle.card_load.proofs.start_spelt.Goals as goal

pub slice_bounds-put_words-end : goal.slice_bounds-put_words-end
slice_bounds-put_words-end c = sym ((let it : length (take 8 c.args.kept.now) ≡ 8 = length-take-le 8 c.args.kept.now (omega (arith, c.requires.0)) in it))

pub put_words-requires : goal.put_words-requires
put_words-requires c = let e = (let it : length (take 8 c.args.kept.now) ≡ 8 = length-take-le 8 c.args.kept.now (omega (arith, c.requires.0)) in it) in omega (arith, e)

pub slice_bounds-key-end : goal.slice_bounds-key-end
slice_bounds-key-end c = (let it : c.key_of-k.result ≤ length c.put_words.new.out = let f = key_fits (number_of c.args.c) in let n : length c.put_words.new.out ≡ 32 = search rules in omega (arith, f, c.key_of-k.ensures, n) in it)

pub slice_bounds-first_state-end : goal.slice_bounds-first_state-end
slice_bounds-first_state-end c = sym (length-take-le _ c.put_words.new.out ((let it : c.key_of-k.result ≤ length c.put_words.new.out = let f = key_fits (number_of c.args.c) in let n : length c.put_words.new.out ≡ 32 = search rules in omega (arith, f, c.key_of-k.ensures, n) in it)))

pub first_state-requires : goal.first_state-requires
first_state-requires c = record { key_len = length-take-le _ c.put_words.new.out ((let it : c.key_of-k.result ≤ length c.put_words.new.out = let f = key_fits (number_of c.args.c) in let n : length c.put_words.new.out ≡ 32 = search rules in omega (arith, f, c.key_of-k.ensures, n) in it)) ∙ c.key_of-k.ensures; iv_len = c.requires.1 }

pub returns : goal.returns
returns c =
    let n = number_of c.args.c in
    c.first_state.ensures ∙ ap (λ (x : List _). (cipher_at n).init x (take (cipher_at n).iv c.args.iv.now)) (key-front n c.args.kept.now c.requires.0 c.key_of-k.ensures c.put_words.ensures)
