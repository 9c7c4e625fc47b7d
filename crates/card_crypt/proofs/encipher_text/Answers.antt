-- `card_crypt::encipher_text` meets its contract: past the change where it comes due, else along the line's stream.
-- Assumes nothing.
use mathlib.Core.Path.{◌≡◌, ap₂, sym, ◌∙◌}
use mathlib.Core.Bool.{true, false}
use Prim.Native.Nat.{ℕ, ◌-◌}
use native.Mathlib.Omega.{arith}
use lib.ListN.{length}
use Rattle.card_moves.specs.Moves.{comes_due}
use Rattle.card_moves.proofs.Due.{due-told}
use Rattle.card_line.specs.Words.{line_in}
use Rattle.card_crypt.proofs.Past.{short-asks, short-gives}
use Rattle.card_crypt.proofs.encipher_text.Goals as goal

pub overflow_sub-old : goal.overflow_sub-old
overflow_sub-old c =
    let h = due-told ((line_in c.args.line.now)).n ((line_in c.args.line.now)).due (length c.args.text.now) ((let it : comes_due ((line_in c.args.line.now)).n ((line_in c.args.line.now)).due (length c.args.text.now) ≡ true = sym ((let it : c.comes_due-past.result ≡ comes_due ((line_in c.args.line.now)).n ((line_in c.args.line.now)).due (length c.args.text.now) = c.comes_due-past.ensures ∙ ap₂ (λ (n x : ℕ). comes_due n x (length c.args.text.now)) c.position_of-n.ensures.0 c.due_of-due.ensures.0 in it)) ∙ c.if-past.true in it)) in
    omega (arith, h.0, c.position_of-n.ensures.0, c.due_of-due.ensures.0)

pub encipher_past-requires : goal.encipher_past-requires
encipher_past-requires c =
    record { asks = c.requires; comes = (let it : comes_due ((line_in c.args.line.now)).n ((line_in c.args.line.now)).due (length c.args.text.now) ≡ true = sym ((let it : c.comes_due-past.result ≡ comes_due ((line_in c.args.line.now)).n ((line_in c.args.line.now)).due (length c.args.text.now) = c.comes_due-past.ensures ∙ ap₂ (λ (n x : ℕ). comes_due n x (length c.args.text.now)) c.position_of-n.ensures.0 c.due_of-due.ensures.0 in it)) ∙ c.if-past.true in it); old-is = ap₂ (λ (x n : ℕ). x - n) c.due_of-due.ensures.0 c.position_of-n.ensures.0 }

pub encipher-requires : goal.encipher-requires
encipher-requires c =
    short-asks c.args.line.now c.args.text.now c.args.out.now c.requires ((let it : comes_due ((line_in c.args.line.now)).n ((line_in c.args.line.now)).due (length c.args.text.now) ≡ false = sym ((let it : c.comes_due-past.result ≡ comes_due ((line_in c.args.line.now)).n ((line_in c.args.line.now)).due (length c.args.text.now) = c.comes_due-past.ensures ∙ ap₂ (λ (n x : ℕ). comes_due n x (length c.args.text.now)) c.position_of-n.ensures.0 c.due_of-due.ensures.0 in it)) ∙ c.if-past.false in it))

pub returns : goal.returns
returns c =
    short-gives c.args.line.now c.args.text.now c.args.out.now c.requires ((let it : comes_due ((line_in c.args.line.now)).n ((line_in c.args.line.now)).due (length c.args.text.now) ≡ false = sym ((let it : c.comes_due-past.result ≡ comes_due ((line_in c.args.line.now)).n ((line_in c.args.line.now)).due (length c.args.text.now) = c.comes_due-past.ensures ∙ ap₂ (λ (n x : ℕ). comes_due n x (length c.args.text.now)) c.position_of-n.ensures.0 c.due_of-due.ensures.0 in it)) ∙ c.if-past.false in it)) _ _ c.encipher.ensures
