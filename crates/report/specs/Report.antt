-- The month's traffic sheet: bytes for each line, for each cipher and in all, one figure to a line; of records that it refuses the number only.
-- Assumes nothing.
use Rattle.std.specs.Prelude.{◌≡◌, Bool, List, [], ◌++◌, ℕ, zero, suc, eqb, length, drop}
use Rattle.words.specs.Tests.{pick}
use Rattle.card_sizes.specs.Sizes.{line_count}
use Rattle.command.specs.Rows.{code_of}
use Rattle.text.specs.Text.{figure, newline}
use Rattle.records.specs.Records.{Use, uses}
use Rattle.traffic.specs.Traffic.{sum_of, on_line, by_cipher, every, sheet_rows, code_given}
use Rattle.report.specs.declared.Reported.{Reported}

-- the ciphers in force, from 1 on
abbrev pub cipher_count : ℕ
cipher_count = 6

-- k lines: the sum over the records that pass test v, over those that pass test v + 1, and so on
unfoldable pub figures : (ℕ → Use → Bool) → (v k : ℕ) → List Use → List ℕ
figures test v zero us = []
figures test v (suc k) us = figure (sum_of (test v) us) newline ++ figures test (suc v) k us

-- the sheet: each line, each cipher, the total
unfoldable pub sheet_of : List Use → List ℕ
sheet_of us = (figures on_line 0 line_count us ++ figures by_cipher 1 cipher_count us) ++ figure (sum_of every us) newline

-- what is printed of the records in s
unfoldable pub report_of : List ℕ → List ℕ
report_of s = let code = code_of (sheet_rows s) in pick (eqb code 0) (sheet_of (uses s)) (figure code newline)

-- what a report leaves in out, whole: what is behind the text stays
pub record ReportLeaves (s out out' : List ℕ) (r : Reported) : Type 0 where
  pub code_is : code_given r.judged ≡ code_of (sheet_rows s)
  pub written_is : r.written ≡ length (report_of s)
  pub out-is : out' ≡ report_of s ++ drop r.written out
