-- `card_admits::admits` meets its contract: each arm asks what its cipher asks.
-- Assumes nothing.
use Rattle.std.proofs.Common.{◌≡◌, ℕ, Bool, List, sym, refl, subst, rules}
use Rattle.command.specs.declared.Cipher.{Cipher}
use Rattle.command.specs.Decode.{number_of}
use Rattle.ciphers.specs.Table.{cipher_at, zuc, rabbit, snow128, snow256, kcipher2, mugi}
use Rattle.card_admits.proofs.admits.Goals as goal

-- what a cipher admits, once it is known which it is
by-cipher : {c d : Cipher} {b : Bool} (w : List ℕ) → c ≡ d → b ≡ (cipher_at (number_of d)).admits w → b ≡ (cipher_at (number_of c)).admits w
by-cipher {b = b} w e h = subst (λ (x : Cipher). b ≡ (cipher_at (number_of x)).admits w) (sym e) h

pub returns-in-Zuc : goal.returns-in-Zuc
unfolding cipher_at zuc rabbit snow128 snow256 kcipher2 mugi
returns-in-Zuc c = by-cipher c.args.w.now c.in-Zuc.is c.zuc_admits.ensures

pub returns-in-Rabbit : goal.returns-in-Rabbit
unfolding cipher_at zuc rabbit snow128 snow256 kcipher2 mugi
returns-in-Rabbit c = by-cipher c.args.w.now c.in-Rabbit.is c.rabbit_admits.ensures

pub returns-in-Snow128 : goal.returns-in-Snow128
unfolding cipher_at zuc rabbit snow128 snow256 kcipher2 mugi
returns-in-Snow128 c = by-cipher c.args.w.now c.in-Snow128.is c.spare.ensures

pub returns-in-Snow256 : goal.returns-in-Snow256
unfolding cipher_at zuc rabbit snow128 snow256 kcipher2 mugi
returns-in-Snow256 c = by-cipher c.args.w.now c.in-Snow256.is c.spare-in-Snow256.ensures

pub returns-in-Kcipher2 : goal.returns-in-Kcipher2
unfolding cipher_at zuc rabbit snow128 snow256 kcipher2 mugi
returns-in-Kcipher2 c = by-cipher c.args.w.now c.in-Kcipher2.is c.spare-in-Kcipher2.ensures

pub returns-in-Mugi : goal.returns-in-Mugi
unfolding cipher_at zuc rabbit snow128 snow256 kcipher2 mugi
returns-in-Mugi c = by-cipher c.args.w.now c.in-Mugi.is refl
