-- `mugi::mixed` meets its contract: the four entries, turned, add up to M with its halves exchanged.
-- Assumes nothing.
use Rattle.std.proofs.Common.{get_or, lit<}
use Rattle.words.specs.Word.{b0, b2, b3}
use Rattle.words.specs.Strings.{bytes_of}
use Rattle.words.proofs.Rotations.{rotated}
use Rattle.mugi_tables.specs.Tables.{mixing_list}
use Rattle.mugi.proofs.Blocks.{entry-word, mixed-by}
use Rattle.mugi.proofs.mixed.Goals as goal

pub returns : goal.returns
unfolding bytes_of
returns c =
    rw (
      c.rotate_left-3.ensures,
      c.rotate_left-2.ensures,
      c.rotate_left.ensures,
      c.mixing-t.ensures,
      c.bytes-b.ensures,
      rotated 24 (get_or mixing_list (b0 c.args.w) 0) (lit< tt) (lit< tt) (entry-word (b0 c.args.w)),
      rotated 8 (get_or mixing_list (b2 c.args.w) 0) (lit< tt) (lit< tt) (entry-word (b2 c.args.w)),
      rotated 16 (get_or mixing_list (b3 c.args.w) 0) (lit< tt) (lit< tt) (entry-word (b3 c.args.w)),
    )
    (mixed-by c.args.w)
