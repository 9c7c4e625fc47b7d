-- `tables_text::tables` meets its contract: the tables stand one behind the other.
-- Assumes nothing.
use Rattle.std.proofs.Common.{sym, rules, arith}
use Rattle.tables_text.proofs.Entries.{table-room, table-end}
use Rattle.tables_text.proofs.Printed.{printed-by}
use Rattle.tables_text.proofs.tables.Goals as goal

pub put_table-requires-2 : goal.put_table-requires-2
put_table-requires-2 c = let h = table-room 2 _ c.put_table.ensures (sym c.substitution.ensures.value_2) 13824 (search rules) in let l = c.products.ensures.value_2 in omega arith

pub put_table-requires-3 : goal.put_table-requires-3
put_table-requires-3 c = let h = table-room 8 _ c.put_table-2.ensures (sym c.products.ensures.value_2) 11520 (table-room 2 _ c.put_table.ensures (sym c.substitution.ensures.value_2) 13824 (search rules)) in let l = c.products-2.ensures.value_2 in omega arith

pub put_table-requires-4 : goal.put_table-requires-4
put_table-requires-4 c = let h = table-room 8 _ c.put_table-3.ensures (sym c.products-2.ensures.value_2) 9216 (table-room 8 _ c.put_table-2.ensures (sym c.products.ensures.value_2) 11520 (table-room 2 _ c.put_table.ensures (sym c.substitution.ensures.value_2) 13824 (search rules))) in let l = c.products-3.ensures.value_2 in omega arith

pub put_table-requires-5 : goal.put_table-requires-5
put_table-requires-5 c = let h = table-room 8 _ c.put_table-4.ensures (sym c.products-3.ensures.value_2) 6912 (table-room 8 _ c.put_table-3.ensures (sym c.products-2.ensures.value_2) 9216 (table-room 8 _ c.put_table-2.ensures (sym c.products.ensures.value_2) 11520 (table-room 2 _ c.put_table.ensures (sym c.substitution.ensures.value_2) 13824 (search rules)))) in let l = c.products-4.ensures.value_2 in omega arith

pub put_table-requires-6 : goal.put_table-requires-6
put_table-requires-6 c = let h = table-room 8 _ c.put_table-5.ensures (sym c.products-4.ensures.value_2) 4608 (table-room 8 _ c.put_table-4.ensures (sym c.products-3.ensures.value_2) 6912 (table-room 8 _ c.put_table-3.ensures (sym c.products-2.ensures.value_2) 9216 (table-room 8 _ c.put_table-2.ensures (sym c.products.ensures.value_2) 11520 (table-room 2 _ c.put_table.ensures (sym c.substitution.ensures.value_2) 13824 (search rules))))) in let l = c.products-5.ensures.value_2 in omega arith

pub put_table-requires-7 : goal.put_table-requires-7
put_table-requires-7 c = let h = table-room 8 _ c.put_table-6.ensures (sym c.products-5.ensures.value_2) 2304 (table-room 8 _ c.put_table-5.ensures (sym c.products-4.ensures.value_2) 4608 (table-room 8 _ c.put_table-4.ensures (sym c.products-3.ensures.value_2) 6912 (table-room 8 _ c.put_table-3.ensures (sym c.products-2.ensures.value_2) 9216 (table-room 8 _ c.put_table-2.ensures (sym c.products.ensures.value_2) 11520 (table-room 2 _ c.put_table.ensures (sym c.substitution.ensures.value_2) 13824 (search rules)))))) in let l = c.products-6.ensures.value_2 in omega arith

pub returns : goal.returns
returns c =
    let z = c.new-text.ensures.len_is in
    let e0 = table-end 2 _ c.put_table.ensures (sym c.substitution.ensures.value_2) in
    let e1 = table-end 8 _ c.put_table-2.ensures (sym c.products.ensures.value_2) in
    let e2 = table-end 8 _ c.put_table-3.ensures (sym c.products-2.ensures.value_2) in
    let e3 = table-end 8 _ c.put_table-4.ensures (sym c.products-3.ensures.value_2) in
    let e4 = table-end 8 _ c.put_table-5.ensures (sym c.products-4.ensures.value_2) in
    let e5 = table-end 8 _ c.put_table-6.ensures (sym c.products-5.ensures.value_2) in
    let e6 = table-end 8 _ c.put_table-7.ensures (sym c.products-6.ensures.value_2) in
    let q =
    printed-by c.new-text.ensures.len_is (search rules) c.over_alpha.ensures
    c.substitution.ensures.value c.products.ensures.value c.products-2.ensures.value c.products-3.ensures.value c.products-4.ensures.value c.products-5.ensures.value c.products-6.ensures.value
    c.put_table.ensures c.put_table-2.ensures c.put_table-3.ensures c.put_table-4.ensures c.put_table-5.ensures c.put_table-6.ensures c.put_table-7.ensures
    (omega arith) in
    record { out_after = q.0; value = q.1 }
