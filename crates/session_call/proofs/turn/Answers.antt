-- `session_call::turn` meets its contract: the call is lent what is left of the buffers, and its line and its record go behind those before them.
-- Assumes nothing.
use Prim.Native.Nat.{◌+◌, ◌^◌, ◌<◌, ◌≤◌}
use native.Mathlib.Omega.{arith}
use lib.ListN.{length, length-drop}
use Rattle.session_call.proofs.Answers.{turned, names, command-within, text-within, out_within}
use Rattle.text.proofs.Pieces.{written-at}
use borrow.Author.Rules.{rules}
use Rattle.session_call.proofs.turn.Goals as goal

pub put_record-requires : goal.put_record-requires
put_record-requires c =
    record { named = names c.args.p c.args.commands.now c.args.tray.now c.args.text.now c.args.out.now _ _ c.call-answer.ensures; room = (let e = c.new-kept_records.ensures.len_is in let f = c.new-kept_records.ensures.out_is in search rules) }

pub overflow_add-command : goal.overflow_add-command
overflow_add-command c =
    let h = command-within c.args.p c.args.commands.now c.args.tray.now c.args.text.now c.args.out.now _ _ c.call-answer.ensures in
    let l = (let it : length c.args.commands.now < 2 ^ 63 = search rules in it) in
    record { fits = omega (arith, length-drop c.args.p.command c.args.commands.now) }

pub overflow_add-data : goal.overflow_add-data
overflow_add-data c =
    let h = text-within c.args.p c.args.commands.now c.args.tray.now c.args.text.now c.args.out.now _ _ c.call-answer.ensures in
    let l = (let it : length c.args.text.now < 2 ^ 63 = search rules in it) in
    record { fits = omega (arith, length-drop c.args.p.«data» c.args.text.now) }

pub overflow_add-filled : goal.overflow_add-filled
overflow_add-filled c =
    let l = (let it : length c.args.out.now < 2 ^ 63 = search rules in it) in
    let h = (let it : c.args.p.out + c.call-answer.result.outcome.written ≤ length c.args.out.now = let h = out_within c.args.p c.args.commands.now c.args.tray.now c.args.text.now c.args.out.now _ _ c.call-answer.ensures c.call-answer.auto.out in omega (arith, length-drop c.args.p.out c.args.out.now) in it) in
    record { fits = omega arith }

pub returns : goal.returns
returns c =
    let m =
    turned c.args.p c.args.commands.now c.args.tray.now c.args.text.now c.args.out.now _ _ c.call-answer.ensures c.args.table.now _ c.args.records.now _ _ _
    (let h = out_within c.args.p c.args.commands.now c.args.tray.now c.args.text.now c.args.out.now _ _ c.call-answer.ensures c.call-answer.auto.out in omega (arith, length-drop c.args.p.out c.args.out.now))
    (written-at c.new-rows.ensures.len_is c.new-rows.ensures.out_is c.put_row.ensures)
    (written-at c.new-kept_records.ensures.len_is c.new-kept_records.ensures.out_is c.put_record.ensures) in
    search (rules, m)
