-- `card_line::put_head` meets its contract: two words and a number's two are stored, and what is behind them stays.
-- Assumes nothing.
use Rattle.std.proofs.Common.{ap, ◌∙◌, List, [], ℕ, ◌∷◌, ◌++◌, ◌/◌, ◌%◌, ◌^◌, drop}
use Rattle.card_sizes.specs.Sizes.{head_words}
use Rattle.card_line.proofs.Lines.{head-stored}
use Rattle.card_line.proofs.put_head.Goals as goal

pub returns : goal.returns
returns c =
    head-stored c.args.mode c.from.result _ c.args.line.now c.requires
    ∙ ap (λ (ys : List ℕ). (c.args.mode ∷ c.from.result ∷ ys) ++ drop head_words c.args.line.now) c.put_number.ensures
    ∙ ap (λ (x : ℕ). c.args.mode ∷ x ∷ (c.args.n / 2 ^ 32 ∷ c.args.n % 2 ^ 32 ∷ []) ++ drop head_words c.args.line.now) c.from.ensures
