-- `card_park::run_park` meets its contract: its line's rows refuse, each test after them is a row, and what is left writes the line's image, idles the line and counts the park.
-- Assumes nothing.
use Rattle.std.proofs.Common.{◌≡◌, refl, ap, ap₂, sym, ◌∙◌, true, false, ℕ, suc, ◌+◌, ◌<◌, ◌≤◌, List, ◌++◌, length, drop, add-one, arith, rules}
use borrow.Author.Tests.{lt-ltb, le-ltb, le-leb, lt-leb}
use Rattle.card_sizes.specs.Sizes.{image_length, park_length}
use Rattle.command.specs.declared.Refusal.TheVariants.{NoParkLeft, OutTooShort}
use Rattle.command.specs.Rows.{code_of}
use Rattle.command.proofs.Rows.{code-passed}
use Rattle.card_rows.specs.Rows.{park_rows}
use Rattle.machine.specs.Machine.{Line, image_of, idle_line}
use Rattle.machine.specs.Parks.{Parks, last_park, no_more, number_now, parked}
use Rattle.machine.specs.Calls.{line_on}
use Rattle.card_layout.specs.Words.{card_in, put_parks}
use Rattle.card_line.proofs.Lines.{idle-plain}
use Rattle.card_layout.proofs.Cards.{held-of}
use Rattle.card_outcome.specs.Leaves.{public_of}
use Rattle.card_outcome.proofs.Laws.{handed-on, by-rows, full_is, put-parks, given-true, given-false, given-err, given-check, given-passed, given-park}
use Rattle.card_park.proofs.Rows.{park_with, park-decided}
use Rattle.card_park.proofs.run_park.Goals as goal

-- the rows, by what is read of the line
by-line : (l : Line) {k m d : ℕ} → k ≡ code_of (park_rows m d) → m ≡ l.mode → d ≡ l.due → k ≡ code_of (park_rows l.mode l.due)
by-line l e a b = e ∙ ap₂ (λ (x y : ℕ). code_of (park_rows x y)) a b

pub returns-in_err-park_check : goal.returns-in_err-park_check
returns-in_err-park_check c =
    let ws = c.args.card.now in
    let l = line_on (card_in ws) c.args.i in
    λ m y t. by-rows ws _ _ (park-decided ws c.args.i m y t c.args.out.now)
    (given-check ws t c.args.out.now (park_rows l.mode l.due) (park_with c.args.i (no_more (public_of ws).parks c.args.i) (length c.args.out.now))
    (by-line l c.in_err-park_check.ensures c.mode_at-mode.ensures c.due_at-due.ensures) (handed-on c.from_residual.result c.from_residual.ensures))

pub returns-then-count : goal.returns-then-count
returns-then-count c =
    let ws = c.args.card.now in
    let l = line_on (card_in ws) c.args.i in
    let passed = code-passed (park_rows l.mode l.due) tt (sym (by-line l c.in_ok-park_check.ensures c.mode_at-mode.ensures c.due_at-due.ensures)) in
    let last : last_park ≤ c.park_count-count.result = omega (arith, c.if-count.true) in
    λ m y t. by-rows ws _ _ (park-decided ws c.args.i m y t c.args.out.now)
    (given-passed ws t c.args.out.now (park_rows l.mode l.due) (park_with c.args.i (no_more (public_of ws).parks c.args.i) (length c.args.out.now)) passed
    (given-true ws t c.args.out.now _ 15 _ (full_is ws c.args.i c.park_count-count.ensures true (le-leb _ _ last)) (given-err ws t c.args.out.now NoParkLeft)))

pub returns-then-out-lt-IMAGE : goal.returns-then-out-lt-IMAGE
returns-then-out-lt-IMAGE c =
    let ws = c.args.card.now in
    let l = line_on (card_in ws) c.args.i in
    let passed = code-passed (park_rows l.mode l.due) tt (sym (by-line l c.in_ok-park_check.ensures c.mode_at-mode.ensures c.due_at-due.ensures)) in
    let before : c.park_count-count.result < last_park = omega (arith, c.if-count.false, c.park_count-count.type_inv) in
    λ m y t. by-rows ws _ _ (park-decided ws c.args.i m y t c.args.out.now)
    (given-passed ws t c.args.out.now (park_rows l.mode l.due) (park_with c.args.i (no_more (public_of ws).parks c.args.i) (length c.args.out.now)) passed
    (given-false ws t c.args.out.now _ 15 _ (full_is ws c.args.i c.park_count-count.ensures false (lt-leb _ _ before))
    (given-true ws t c.args.out.now _ 12 _ (lt-ltb _ _ c.if-out-lt-IMAGE.true) (given-err ws t c.args.out.now OutTooShort))))

pub put-requires : goal.put-requires
put-requires c =
    record { line_held = (held-of c.args.card.now c.args.i c.requires.0 c.requires.1 c.line_of.ensures.words c.line_of.ensures.len, c.requires.1); image_length_in_bounds = c.if-out-lt-IMAGE.false }

pub put_parked-requires : goal.put_parked-requires
unfolding number_now
put_parked-requires c =
    let n = ap (λ (x : List ℕ). (card_in x).parks) c.clear_line.ensures ∙ put-parks c.args.card.now _ idle_line (search rules) c.requires.0 idle-plain in
    record { card_len = search rules; n_value = add-one c.park_count-count.result ∙ ap suc c.park_count-count.ensures ∙ ap (λ (x : Parks). number_now x c.args.i) (sym n) }

pub returns : goal.returns
unfolding number_now
returns c =
    let ws = c.args.card.now in
    let l = line_on (card_in ws) c.args.i in
    let passed = code-passed (park_rows l.mode l.due) tt (sym (by-line l c.in_ok-park_check.ensures c.mode_at-mode.ensures c.due_at-due.ensures)) in
    let before : c.park_count-count.result < last_park = omega (arith, c.if-count.false, c.park_count-count.type_inv) in
    let q : c.park_count-count.result + 1 ≡ number_now (card_in ws).parks c.args.i = add-one c.park_count-count.result ∙ ap suc c.park_count-count.ensures in
    let i = c.line_of.ensures.line in
    let n = ap₂ (λ (j : ℕ) (x : Line). length (image_of c.args.i j x)) (sym q) (sym i) ∙ c.put.ensures.0 in
    let v = c.put.ensures.1 ∙ ap₂ (λ (j : ℕ) (x : Line). image_of c.args.i j x ++ drop image_length c.args.out.now) q i in
    let next = c.put_parked.ensures ∙ ap (λ (x : List ℕ). put_parks x (parked (card_in x).parks c.args.i)) c.clear_line.ensures in
    λ m y t. by-rows ws _ _ (park-decided ws c.args.i m y t c.args.out.now)
    (given-passed ws t c.args.out.now (park_rows l.mode l.due) (park_with c.args.i (no_more (public_of ws).parks c.args.i) (length c.args.out.now)) passed
    (given-false ws t c.args.out.now _ 15 _ (full_is ws c.args.i c.park_count-count.ensures false (lt-leb _ _ before))
    (given-false ws t c.args.out.now _ 12 _ (le-ltb _ _ c.if-out-lt-IMAGE.false) (given-park ws t c.args.out.now c.requires.0 c.args.i c.requires.1 park_length n next v refl))))
