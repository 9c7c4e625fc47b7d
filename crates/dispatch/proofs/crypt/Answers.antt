-- `dispatch::crypt` meets its contract: each arm is a row of the table of ciphers, and both key lengths of SNOW 2.0 go on alike.
-- Assumes nothing.
use Rattle.ciphers.specs.Table.{cipher_at, zuc, rabbit, snow128, snow256, kcipher2, mugi}
use Rattle.dispatch.proofs.Asks.{asks, gives}
use borrow.Author.Rules.{rules}
use Rattle.dispatch.proofs.crypt.Goals as goal

pub returns-in-Zuc : goal.returns-in-Zuc
unfolding cipher_at zuc rabbit snow128 snow256 kcipher2 mugi
returns-in-Zuc c = gives c.args.skip c.args.text.now c.args.out.now c.args.w.now _ _ c.in-Zuc.is c.xor_text.ensures

pub returns-in-Rabbit : goal.returns-in-Rabbit
unfolding cipher_at zuc rabbit snow128 snow256 kcipher2 mugi
returns-in-Rabbit c = gives c.args.skip c.args.text.now c.args.out.now c.args.w.now _ _ c.in-Rabbit.is c.xor_text-in-Rabbit.ensures

pub returns-in-Snow128 : goal.returns-in-Snow128
unfolding cipher_at zuc rabbit snow128 snow256 kcipher2 mugi
returns-in-Snow128 c = gives c.args.skip c.args.text.now c.args.out.now c.args.w.now _ _ c.in-Snow128.is c.xor_text-in-Snow128.ensures

pub returns-in-Snow256 : goal.returns-in-Snow256
unfolding cipher_at zuc rabbit snow128 snow256 kcipher2 mugi
returns-in-Snow256 c = gives c.args.skip c.args.text.now c.args.out.now c.args.w.now _ _ c.in-Snow256.is c.xor_text-in-Snow256.ensures

pub returns-in-Kcipher2 : goal.returns-in-Kcipher2
unfolding cipher_at zuc rabbit snow128 snow256 kcipher2 mugi
returns-in-Kcipher2 c = gives c.args.skip c.args.text.now c.args.out.now c.args.w.now _ _ c.in-Kcipher2.is c.xor_text-in-Kcipher2.ensures

pub returns-in-Mugi : goal.returns-in-Mugi
unfolding cipher_at zuc rabbit snow128 snow256 kcipher2 mugi
returns-in-Mugi c = gives c.args.skip c.args.text.now c.args.out.now c.args.w.now _ _ c.in-Mugi.is c.xor_text-in-Mugi.ensures

pub xor_text-requires : goal.xor_text-requires
unfolding cipher_at zuc rabbit snow128 snow256 kcipher2 mugi
xor_text-requires c =
    let q = asks c.args.w.now c.args.skip _ _ c.in-Zuc.is (c.requires.w_len, c.requires.skip_bound) in
    record { w_len = q.0; skip_bound = q.1 }

pub xor_text-requires-in-Rabbit : goal.xor_text-requires-in-Rabbit
unfolding cipher_at zuc rabbit snow128 snow256 kcipher2 mugi
xor_text-requires-in-Rabbit c =
    let q = asks c.args.w.now c.args.skip _ _ c.in-Rabbit.is (c.requires.w_len, c.requires.skip_bound) in
    record { w_len = q.0; skip_bound = q.1 }

pub xor_text-requires-in-Snow128 : goal.xor_text-requires-in-Snow128
unfolding cipher_at zuc rabbit snow128 snow256 kcipher2 mugi
xor_text-requires-in-Snow128 c =
    let q = asks c.args.w.now c.args.skip _ _ c.in-Snow128.is (c.requires.w_len, c.requires.skip_bound) in
    record { w_len = q.0; skip_bound = q.1 }

pub xor_text-requires-in-Snow256 : goal.xor_text-requires-in-Snow256
unfolding cipher_at zuc rabbit snow128 snow256 kcipher2 mugi
xor_text-requires-in-Snow256 c =
    let q = asks c.args.w.now c.args.skip _ _ c.in-Snow256.is (c.requires.w_len, c.requires.skip_bound) in
    record { w_len = q.0; skip_bound = q.1 }

pub xor_text-requires-in-Kcipher2 : goal.xor_text-requires-in-Kcipher2
unfolding cipher_at zuc rabbit snow128 snow256 kcipher2 mugi
xor_text-requires-in-Kcipher2 c =
    let q = asks c.args.w.now c.args.skip _ _ c.in-Kcipher2.is (c.requires.w_len, c.requires.skip_bound) in
    record { w_len = q.0; skip_bound = q.1 }

pub xor_text-requires-in-Mugi : goal.xor_text-requires-in-Mugi
unfolding cipher_at zuc rabbit snow128 snow256 kcipher2 mugi
xor_text-requires-in-Mugi c =
    let q = asks c.args.w.now c.args.skip _ _ c.in-Mugi.is (c.requires.w_len, c.requires.skip_bound) in
    record { w_len = q.0; skip_bound = q.1 }
