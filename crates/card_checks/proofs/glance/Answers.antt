-- `card_checks::glance` meets its contract: the answers follow the tests in their order, by the cipher's number.
-- Assumes nothing.
use mathlib.Core.Path.{sym, ◌∙◌}
use borrow.Author.Tests.{eq-eqb, ne_eqb}
use Rattle.card_checks.proofs.Glances.{glanced-mugi, glanced-kcipher2, glanced-not, glanced-snow128, glanced-zuc, glanced-rabbit, glanced-snow256}
use Rattle.card_checks.proofs.glance.Goals as goal

pub returns-then-c-eq6 : goal.returns-then-c-eq6
returns-then-c-eq6 c =
    c.words_zero.ensures ∙ glanced-mugi c.args.line.now c.requires c.args.c c.if-c-eq6.true

pub returns-then-c-eq5 : goal.returns-then-c-eq5
returns-then-c-eq5 c =
    c.words_zero-then-c-eq5.ensures ∙ glanced-kcipher2 c.args.line.now c.requires c.args.c c.if-c-eq5.true

pub returns-then-not-rest : goal.returns-then-not-rest
returns-then-not-rest c =
    glanced-not c.args.line.now c.requires c.args.c c.if-c-eq6.false c.if-c-eq5.false (sym c.words_zero-rest.ensures ∙ c.if-not-rest.true)

pub returns-then-c-eq3 : goal.returns-then-c-eq3
returns-then-c-eq3 c =
    glanced-snow128 c.args.line.now c.requires c.args.c c.if-c-eq6.false c.if-c-eq5.false (sym c.words_zero-rest.ensures ∙ c.if-not-rest.false) c.if-c-eq3.true

pub returns-then-c-eq1 : goal.returns-then-c-eq1
returns-then-c-eq1 c =
    c.cells.ensures ∙ glanced-zuc c.args.line.now c.requires c.args.c c.if-c-eq6.false c.if-c-eq5.false (sym c.words_zero-rest.ensures ∙ c.if-not-rest.false) c.if-c-eq1.true

pub returns-then-spare-ne0 : goal.returns-then-spare-ne0
returns-then-spare-ne0 c =
    glanced-rabbit c.args.line.now c.requires c.args.c c.if-c-eq6.false c.if-c-eq5.false (sym c.words_zero-rest.ensures ∙ c.if-not-rest.false) c.if-c-eq2.true (ne_eqb _ 0 c.if-spare-ne0.true)

pub returns-then-c-eq2 : goal.returns-then-c-eq2
returns-then-c-eq2 c =
    c.is_carry.ensures ∙ glanced-rabbit c.args.line.now c.requires c.args.c c.if-c-eq6.false c.if-c-eq5.false (sym c.words_zero-rest.ensures ∙ c.if-not-rest.false) c.if-c-eq2.true (eq-eqb _ 0 c.if-spare-ne0.false)

pub returns : goal.returns
returns c =
    glanced-snow256 c.args.line.now c.requires c.args.c c.if-c-eq6.false c.if-c-eq5.false (sym c.words_zero-rest.ensures ∙ c.if-not-rest.false) c.if-c-eq3.false c.if-c-eq1.false c.if-c-eq2.false
