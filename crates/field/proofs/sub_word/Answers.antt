-- `field::sub_word` meets its contract: the four entries, turned, add up to T.
-- Assumes nothing.
use Rattle.std.proofs.Common.{◌≡◌, ℕ, ◌<◌, ◌^◌, ◌∙◌, get_or, lit<}
use Rattle.std.specs.Int.{w32, rotate_left}
use Rattle.words.specs.Word.{◌⊕◌, rotl, b0, b1, b2, b3}
use Rattle.words.specs.Lists.{All, Word}
use Rattle.words.proofs.Table.{all_under}
use Rattle.words.proofs.Ranges.{all-at}
use Rattle.words.proofs.Rotations.{rotated}
use Rattle.field.specs.Tables.{column_list}
use Rattle.field.proofs.Columns.{fn_t-by}
use Rattle.field.proofs.sub_word.Goals as goal

entries-words : All Word column_list
unfolding column_list
entries-words = all_under (2 ^ 32) column_list tt

turned : (k i : ℕ) → 0 < k → k < 32 → rotate_left w32 (get_or column_list i 0) k ≡ rotl k (get_or column_list i 0)
turned k i p q = rotated k (get_or column_list i 0) p q (all-at (lit< tt) entries-words i)

pub returns : goal.returns
returns c =
    let w : ℕ = c.args.w in
    let e1 = turned 8 (b1 w) (lit< tt) (lit< tt) in
    let e2 = turned 16 (b2 w) (lit< tt) (lit< tt) in
    let e3 = turned 24 (b3 w) (lit< tt) (lit< tt) in
    rw (c.rotate_left-x3.ensures, c.rotate_left-x2.ensures, c.rotate_left-x1.ensures, c.column-t.ensures, c.to_be_bytes.ensures)
    ((λ i. get_or column_list (b0 w) 0 ⊕ e1 i ⊕ e2 i ⊕ e3 i) ∙ fn_t-by w)
