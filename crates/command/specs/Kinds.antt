-- The kinds of commands as their first bytes, and what reading one gives.
-- Assumes nothing.
use Rattle.std.specs.Prelude.{◌≡◌, ℕ, Result, MatchResult}
use Rattle.command.specs.declared.Kind.{Kind}
use Rattle.command.specs.declared.Kind.TheVariants.{Tray, Own, Crypt, Park, Resume, Close, Change, Load, Start}
use Rattle.command.specs.declared.Refusal.{Refusal}
use Rattle.command.specs.declared.Refusal.TheVariants.{UnknownCommand}
use Rattle.command.specs.Decode.{length_of}

-- the first byte of a command of a kind
abbrev pub kind_number : Kind → ℕ
kind_number Tray = 1
kind_number Own = 2
kind_number Crypt = 3
kind_number Park = 4
kind_number Resume = 5
kind_number Close = 6
kind_number Change = 7
kind_number Load = 8
kind_number Start = 9

-- the kind with this first byte, or number 2 where no command begins with it
abbrev pub ReadsKind : ℕ → Result Kind Refusal → Type 0
ReadsKind b r = MatchResult r (λ k. kind_number k ≡ b) (λ e. (e ≡ UnknownCommand) × (length_of b ≡ 0))
