-- `decim::taken` meets its contract. The loop's invariant: the buffer is that after k bits, and z has those bits.
-- Assumes nothing.
use mathlib.Core.Path.{◌≡◌}
use Prim.Native.Nat.{ℕ}
use Rattle.decim_register.specs.Register.{bit_in}
use Rattle.decim_buffer.specs.declared.Buffer.{Buffer}
use Rattle.decim_buffer.specs.Buffers.{refills}
use Rattle.decim.specs.Cipher.{joined_up}
use Rattle.decim.proofs.taken.Given as goal

-- the bit that is taken after k others
abbrev pub bit_after : ℕ → Buffer → ℕ → ℕ
bit_after f h k = bit_in (refills f h k).b 0

abbrev pub invariant-loop-k : goal.invariant-loop-k
invariant-loop-k l = (l.held ≡ refills l.f l.initial.held l.k) × (l.z ≡ joined_up l.k (bit_after l.f l.initial.held))
