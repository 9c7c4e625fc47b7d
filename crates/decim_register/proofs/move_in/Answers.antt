-- `decim_register::move_in` meets its contract: six words moved by one bit are the register's bits moved by one.
-- Assumes nothing.
use Rattle.std.proofs.Common.{◌≡◌, ℕ, ◌/◌, ◌%◌, ◌^◌, ◌<◌, get_or, sym, arith, rules}
use Rattle.decim_register.proofs.Bits.{moved}
use Rattle.decim_register.proofs.move_in.Goals as goal

-- the top bit of a word
top : (x : ℕ) → x < 2 ^ 32 → x / 2 ^ 31 ≡ x / 2 ^ 31 % 2
top x h = omega arith

pub returns : goal.returns
returns c =
    let fits : (i : ℕ) → get_or c.args.a i 0 < 2 ^ 32 = λ i. search rules in
    rw (
      c.splice-5.ensures,
      c.splice-4.ensures,
      c.splice-3.ensures,
      c.splice-2.ensures,
      c.splice.ensures,
      top (get_or c.args.a 1 0) (fits 1),
      top (get_or c.args.a 2 0) (fits 2),
      top (get_or c.args.a 3 0) (fits 3),
      top (get_or c.args.a 4 0) (fits 4),
      top (get_or c.args.a 5 0) (fits 5),
    )
    (sym (moved c.args.a c.args.r))
