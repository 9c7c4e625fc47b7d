-- `rabbit::count` meets its contract. The loop's invariant: the first i counters are those after the step, and the carry is the one into counter i.
-- Assumes nothing.
use Rattle.std.proofs.Common.{◌≡◌, ℕ, ◌+◌, ◌/◌, ◌%◌, ◌^◌, ◌<◌, List, ◌++◌, length, get_or, drop, set, refl, ◌∙◌, add-one, arith, rules}
use Rattle.words.specs.Lists.{tab}
use Rattle.words.proofs.Registers.{fill}
use Rattle.rabbit_tables.specs.Tables.{a_list}
use Rattle.rabbit.specs.Cipher.{counted, counter_at, carry_at}
use Rattle.rabbit.proofs.Filling.{whole}
use Rattle.rabbit.proofs.count.Goals as goal

-- one counter more
module _ (c : List ℕ) (b i temp : ℕ) (t : temp ≡ get_or c i 0 + get_or a_list i 0 + carry_at c b i) where
  counter-more : {next : List ℕ} → i < length c → next ≡ tab i (counter_at c b) ++ drop i c
      → set next i (temp % 2 ^ 32) ≡ tab (i + 1) (counter_at c b) ++ drop (i + 1) c
  counter-more h n = rw (n, t) (fill i (counter_at c b) c h)

  carry-more : temp / 2 ^ 32 ≡ carry_at c b (i + 1)
  unfolding carry_at
  carry-more = rw (add-one, t)

pub loop-i-init : goal.loop-i-init
unfolding carry_at
loop-i-init c = (refl, refl)

pub loop-i-preserved : goal.loop-i-preserved
loop-i-preserved c =
    let t : c.sum-temp.result ≡ get_or c.args.c c.loop-i.i 0 + get_or a_list c.loop-i.i 0 + carry_at c.args.c c.args.b c.loop-i.i =
    c.sum-temp.ensures.0 ∙ rw (c.a-a.ensures, c.loop-i.invariant.1) in (
      counter-more c.args.c c.args.b c.loop-i.i c.sum-temp.result t (search rules) c.loop-i.invariant.0,
      carry-more c.args.c c.args.b c.loop-i.i c.sum-temp.result t,
    )

pub returns : goal.returns
unfolding counted
returns c =
    let e : c.loop-i.i ≡ 8 = omega arith in
    rw (
      whole 8 c.loop-i.i (counter_at c.args.c c.args.b) c.args.c c.loop-i.next e (search rules) c.loop-i.invariant.0,
      c.loop-i.invariant.1,
      e,
    )
