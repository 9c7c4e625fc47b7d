-- The table of refusals as a whole: a claim about every decision follows where it holds of each refusal, and of the effect of a command that passed every row.
-- Assumes nothing.
use mathlib.Core.Path.{◌≡◌, refl}
use mathlib.Core.Bool.{Bool, true, false}
use Prim.Native.Nat.{ℕ}
use lib.Dec.{T}
use Rattle.command.specs.declared.Command.{Command}
use Rattle.command.proofs.Rows.{AllPassed, condition_of, none-given, by_rows, is_number}
use Rattle.machine.specs.Machine.{Call, Public, Effect, refuse, refuse_if, rows_of, effect_of, decided}

-- a command that passed every row
pub record Passed (c : Command) (v : Public) (a : Call) : Type 0 where
  pub all : AllPassed (rows_of c v a)

-- the condition of number k did not hold
pub passed : {c : Command} {v : Public} {a : Call} (k : ℕ) → Passed c v a → condition_of k (rows_of c v a) ≡ false
passed {c} {v} {a} k p = none-given k (rows_of c v a) p.all

-- what is so of each refusal, and of the effect of a command that passed every row, is so of the decision

module _ (P : Effect → Type 0) (refused : (k : ℕ) → T (is_number k) → P (refuse k)) where
  row : (b : Bool) (k : ℕ) (e : Effect) → T (is_number k) → (b ≡ false → P e) → P (refuse_if b k e)
  unfolding refuse_if
  row true k e z h = refused k z
  row false k e z h = h refl

  pub decided-by : (c : Command) (v : Public) (a : Call) → (Passed c v a → P (effect_of c v a)) → P (decided c v a)
  unfolding decided
  decided-by c v a h = by_rows P refuse_if is_number row (rows_of c v a) (effect_of c v a) tt (λ p. h (record { all = p }))
