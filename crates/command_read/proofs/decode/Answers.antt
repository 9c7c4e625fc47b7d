-- `command_read::decode` meets its contract: its tests are the rows, in their order.
-- Assumes nothing.
use Rattle.std.proofs.Common.{rules}
use mathlib.Core.Path.{sym, ◌∙◌}
use borrow.Author.Tests.{eq-eqb, lt-ltb, le-ltb}
use Rattle.command.specs.Decode.{decode_of}
use Rattle.command_read.proofs.Whole.{two_bytes, known}
use Rattle.command_read.proofs.decode.Goals as goal

pub returns-then-is_empty : goal.returns-then-is_empty
unfolding decode_of
returns-then-is_empty c = simp (sym c.is_empty.ensures ∙ c.if-is_empty.true)

pub returns-in_err-kind : goal.returns-in_err-kind
unfolding decode_of
returns-in_err-kind c = simp (sym c.is_empty.ensures ∙ c.if-is_empty.false, eq-eqb _ _ c.in_err-kind.ensures.1, sym c.in_err-kind.ensures.0) (search rules)

pub returns-then-command-length : goal.returns-then-command-length
unfolding decode_of
returns-then-command-length c =
    simp (
      sym c.is_empty.ensures ∙ c.if-is_empty.false,
      sym c.in_ok-kind.ensures,
      known c.in_ok-kind.kind,
      lt-ltb _ _ (rw c.length.ensures at c.if-command-length.true),
    )

pub bounds-command-1 : goal.bounds-command-1
bounds-command-1 c = let h = two_bytes c.in_ok-kind.kind (rw c.length.ensures at c.if-command-length.false) in search rules

pub returns-then-command-gt7 : goal.returns-then-command-gt7
unfolding decode_of
returns-then-command-gt7 c =
    simp (
      sym c.is_empty.ensures ∙ c.if-is_empty.false,
      sym c.in_ok-kind.ensures,
      known c.in_ok-kind.kind,
      le-ltb _ _ (rw c.length.ensures at c.if-command-length.false),
      lt-ltb _ _ c.if-command-gt7.true,
    )

pub returns : goal.returns
unfolding decode_of
returns c =
    simp (
      sym c.is_empty.ensures ∙ c.if-is_empty.false,
      sym c.in_ok-kind.ensures,
      known c.in_ok-kind.kind,
      le-ltb _ _ (rw c.length.ensures at c.if-command-length.false),
      le-ltb _ _ c.if-command-gt7.false,
    )
    c.read_command.ensures
