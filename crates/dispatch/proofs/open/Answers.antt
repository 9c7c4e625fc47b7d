-- `dispatch::open` meets its contract: each arm is a row of the table of ciphers.
-- Assumes nothing.
use mathlib.Core.Path.{ap, sym, subst, ◌∙◌}
use Rattle.words.specs.Lists.{Byte}
use Rattle.words.proofs.Ranges.{all_known}
use Rattle.ciphers.specs.States.{zuc_words, rabbit_words, snow2_words, kcipher2_words, mugi_words}
use Rattle.ciphers.specs.Table.{cipher_at, zuc, rabbit, snow128, snow256, kcipher2, mugi}
use Rattle.ciphers.proofs.Sound.{Laws, zuc-laws, rabbit-laws, snow128-laws, snow256-laws, kcipher2-laws, mugi-laws}
use Rattle.dispatch.proofs.Asks.{asked, given, in_range}
use Rattle.dispatch.proofs.open.Goals as goal

pub returns-in-Zuc : goal.returns-in-Zuc
unfolding cipher_at zuc rabbit snow128 snow256 kcipher2 mugi
returns-in-Zuc c = given c.args.key.now c.args.iv.now c.in-Zuc.is (c.words.ensures ∙ ap zuc_words c.init.ensures)

pub returns-in-Rabbit : goal.returns-in-Rabbit
unfolding cipher_at zuc rabbit snow128 snow256 kcipher2 mugi
returns-in-Rabbit c = given c.args.key.now c.args.iv.now c.in-Rabbit.is (c.words-in-Rabbit.ensures ∙ ap rabbit_words c.init-in-Rabbit.ensures)

pub returns-in-Snow128 : goal.returns-in-Snow128
unfolding cipher_at zuc rabbit snow128 snow256 kcipher2 mugi
returns-in-Snow128 c = given c.args.key.now c.args.iv.now c.in-Snow128.is (c.words-in-Snow128.ensures ∙ ap snow2_words c.init128.ensures)

pub returns-in-Snow256 : goal.returns-in-Snow256
unfolding cipher_at zuc rabbit snow128 snow256 kcipher2 mugi
returns-in-Snow256 c = given c.args.key.now c.args.iv.now c.in-Snow256.is (c.words-in-Snow256.ensures ∙ ap snow2_words c.init256.ensures)

pub returns-in-Kcipher2 : goal.returns-in-Kcipher2
unfolding cipher_at zuc rabbit snow128 snow256 kcipher2 mugi
returns-in-Kcipher2 c = given c.args.key.now c.args.iv.now c.in-Kcipher2.is (c.words-in-Kcipher2.ensures ∙ ap kcipher2_words c.init-in-Kcipher2.ensures)

pub returns-in-Mugi : goal.returns-in-Mugi
unfolding cipher_at zuc rabbit snow128 snow256 kcipher2 mugi
returns-in-Mugi c = given c.args.key.now c.args.iv.now c.in-Mugi.is (c.words-in-Mugi.ensures ∙ ap mugi_words c.init-in-Mugi.ensures)

pub init-requires : goal.init-requires
unfolding cipher_at zuc rabbit snow128 snow256 kcipher2 mugi
init-requires c =
    let q = asked _ _ c.in-Zuc.is (c.requires.key_len, c.requires.iv_len) in
    record { key_len = q.0; iv_len = q.1 }

pub words-requires : goal.words-requires
words-requires c = in_range zuc-laws c.init.ensures (λ i. (c.type_inv.key i).fits) (λ i. (c.type_inv.iv i).fits)

pub init-requires-in-Rabbit : goal.init-requires-in-Rabbit
unfolding cipher_at zuc rabbit snow128 snow256 kcipher2 mugi
init-requires-in-Rabbit c =
    let q = asked _ _ c.in-Rabbit.is (c.requires.key_len, c.requires.iv_len) in
    record { key_len = q.0; iv_len = q.1 }

pub words-requires-in-Rabbit : goal.words-requires-in-Rabbit
words-requires-in-Rabbit c = in_range rabbit-laws c.init-in-Rabbit.ensures (λ i. (c.type_inv.key i).fits) (λ i. (c.type_inv.iv i).fits)

pub init128-requires : goal.init128-requires
unfolding cipher_at zuc rabbit snow128 snow256 kcipher2 mugi
init128-requires c =
    let q = asked _ _ c.in-Snow128.is (c.requires.key_len, c.requires.iv_len) in
    record { key_len = q.0; iv_len = q.1 }

pub words-requires-in-Snow128 : goal.words-requires-in-Snow128
words-requires-in-Snow128 c = in_range snow128-laws c.init128.ensures (λ i. (c.type_inv.key i).fits) (λ i. (c.type_inv.iv i).fits)

pub init256-requires : goal.init256-requires
unfolding cipher_at zuc rabbit snow128 snow256 kcipher2 mugi
init256-requires c =
    let q = asked _ _ c.in-Snow256.is (c.requires.key_len, c.requires.iv_len) in
    record { key_len = q.0; iv_len = q.1 }

pub words-requires-in-Snow256 : goal.words-requires-in-Snow256
words-requires-in-Snow256 c = in_range snow256-laws c.init256.ensures (λ i. (c.type_inv.key i).fits) (λ i. (c.type_inv.iv i).fits)

pub init-requires-in-Kcipher2 : goal.init-requires-in-Kcipher2
unfolding cipher_at zuc rabbit snow128 snow256 kcipher2 mugi
init-requires-in-Kcipher2 c =
    let q = asked _ _ c.in-Kcipher2.is (c.requires.key_len, c.requires.iv_len) in
    record { key_len = q.0; iv_len = q.1 }

pub words-requires-in-Kcipher2 : goal.words-requires-in-Kcipher2
words-requires-in-Kcipher2 c = in_range kcipher2-laws c.init-in-Kcipher2.ensures (λ i. (c.type_inv.key i).fits) (λ i. (c.type_inv.iv i).fits)

pub init-requires-in-Mugi : goal.init-requires-in-Mugi
unfolding cipher_at zuc rabbit snow128 snow256 kcipher2 mugi
init-requires-in-Mugi c =
    let q = asked _ _ c.in-Mugi.is (c.requires.key_len, c.requires.iv_len) in
    record { key_len = q.0; iv_len = q.1 }

pub words-requires-in-Mugi : goal.words-requires-in-Mugi
words-requires-in-Mugi c = in_range mugi-laws c.init-in-Mugi.ensures (λ i. (c.type_inv.key i).fits) (λ i. (c.type_inv.iv i).fits)
