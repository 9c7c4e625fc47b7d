-- `decim_buffer::draw_bits` meets its contract: the first i bits are all but the lowest 32 - i, and from 31 on the last bit stays as it is.
-- Assumes nothing.
use mathlib.Core.Path.{◌≡◌, refl, ap, sym, ◌∙◌}
use Prim.Native.Nat.{ℕ, suc, ◌+◌, ◌-◌, ◌*◌, ◌/◌, ◌%◌, ◌^◌, ◌<◌}
use native.Mathlib.Omega.{arith}
use Rattle.decim_buffer.specs.Buffers.{drawn_bits}
use Rattle.decim_buffer.proofs.Draws.{drawn-none, drawn-is, drawn-more}
use Rattle.decim_buffer.proofs.draw_bits.Goals as goal

pub returns-then-i-eq0 : goal.returns-then-i-eq0
returns-then-i-eq0 c =
    let h : c.args.b < 2 ^ 32 = omega arith in
    drawn-none c.args.b h ∙ ap (drawn_bits c.args.b) (sym c.if-i-eq0.true)

pub returns-then-i-lt31 : goal.returns-then-i-lt31
returns-then-i-lt31 c =
    let z : c.args.i ≡ 0 → ⊥ = c.if-i-eq0.false in
    let e : c.args.i + suc (31 - c.args.i) ≡ 32 = omega arith in
    let k : 32 - c.args.i ≡ suc (31 - c.args.i) = omega arith in
    c.up_above.ensures ∙ ap (λ (p : ℕ). c.args.b * 2 % 2 ^ 32 / 2 ^ p * 2 ^ p + c.args.b % 2 ^ p) k ∙ drawn-is c.args.b c.args.i (31 - c.args.i) e

pub returns : goal.returns
returns c =
    c.up_above-2.ensures ∙ drawn-is c.args.b 31 0 refl ∙ drawn-more c.args.b c.args.i c.if-i-lt31.false
