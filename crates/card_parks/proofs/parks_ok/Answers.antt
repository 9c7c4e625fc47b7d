-- `card_parks::parks_ok` meets its contract: where a number is held each is looked at, and where none is there is nothing above a count.
-- Assumes nothing.
use Rattle.std.proofs.Common.{sym, ◌∙◌}
use Rattle.card_parks.proofs.Parks.{none-ok}
use Rattle.card_parks.proofs.parks_ok.Goals as goal

pub returns-then-words_zero : goal.returns-then-words_zero
returns-then-words_zero c =
    c.if-words_zero.true ∙ sym (none-ok c.args.card.now (sym c.words_zero.ensures ∙ c.if-words_zero.true))
