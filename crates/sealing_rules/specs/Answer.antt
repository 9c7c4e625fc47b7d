-- What the code of the pair answers: the cipher, or the check that refuses; and for an outcome the number, the count of bytes written and what is left
-- in out.
-- Assumes nothing.
use Rattle.std.specs.Prelude.{◌≡◌, List, ◌++◌, ℕ, length, drop, Result, Ok, Err}
use Rattle.command.specs.declared.Cipher.{Cipher}
use Rattle.command.specs.declared.Refusal.{Refusal}
use Rattle.command.specs.Decode.{number_of, refusal_number, refusal_of}
use Rattle.sealing_rules.specs.Sealing.{Outcome}

-- k is the number of the checks, b the byte that names the cipher
pub data Admits (k b : ℕ) : Result Cipher Refusal → Type 0 where
  runs : {c : Cipher} → k ≡ 0 → b ≡ number_of c → Admits k b (Ok c)
  refuses : {e : Refusal} → k ≡ refusal_number e → Admits k b (Err e)

-- how many bytes were written: none by what is refused
abbrev pub written_of : Result ℕ Refusal → ℕ
written_of (Ok n) = n
written_of (Err e) = 0

pub record Answered (o : Outcome) (out : List ℕ) (r : Result ℕ Refusal) (out' : List ℕ) : Type 0 where
  pub code_is : refusal_of r ≡ o.code
  pub count-is : written_of r ≡ length o.bytes
  pub out-is : out' ≡ o.bytes ++ drop (length o.bytes) out
