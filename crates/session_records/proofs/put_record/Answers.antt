-- `session_records::put_record` meets its contract: a refusal and any other command than a crypt leave nothing, a crypt its record.
-- Assumes nothing.
use Prim.Native.Nat.{◌≤◌}
use native.Mathlib.Omega.{arith}
use lib.ListN.{length}
use Rattle.session_records.proofs.Put.{put_refused, put_other, put-crypt}
use borrow.Author.Rules.{rules}
use Rattle.session_records.proofs.put_record.Goals as goal

pub returns-then-code-ne0 : goal.returns-then-code-ne0
returns-then-code-ne0 c = put_refused _ _ _ _ c.requires.room c.if-code-ne0.true

pub bounds-command-0 : goal.bounds-command-0
bounds-command-0 c = let h = (let it : 2 ≤ length c.args.command.now = c.requires.named.long c.if-code-ne0.false in it) in omega arith

pub returns-then-command-ne3 : goal.returns-then-command-ne3
returns-then-command-ne3 c =
    put_other _ _ _ _ c.requires.room c.if-code-ne0.false c.if-command-ne3.true

pub bounds-command-1 : goal.bounds-command-1
bounds-command-1 c = let h = (let it : 2 ≤ length c.args.command.now = c.requires.named.long c.if-code-ne0.false in it) in omega arith

pub cipher_at-cipher-requires : goal.cipher_at-cipher-requires
cipher_at-cipher-requires c = (search rules, c.requires.named.line c.if-code-ne0.false)

pub returns : goal.returns
returns c =
    put-crypt _ _ _ _ c.if-code-ne0.false c.if-command-ne3.false c.cipher_at-cipher.ensures c.put.ensures
