-- `card_crypt::run_crypt` meets its contract: its rows refuse, and what is left takes the line on by as many bytes as are counted.
-- Assumes nothing.
use Rattle.std.proofs.Common.{◌≡◌, refl, ap, ap₂, sym, subst, ◌∙◌, ℕ, ◌+◌, ◌-◌, ◌*◌, ◌≤◌, ◌++◌, length, take, drop, arith}
use lib.Seq.{length-take-le}
use Rattle.card_sizes.specs.Sizes.{line_size, crypt_length}
use Rattle.command.specs.Rows.{code_of}
use Rattle.command.proofs.Rows.{code-passed}
use Rattle.card_rows.specs.Rows.{crypt_rows}
use Rattle.card_moves.specs.Moves.{position_on}
use Rattle.card_rows.proofs.Codes.{crypt-passed}
use Rattle.machine.specs.Machine.{Line, crypt, open_ok, based, shown, moved, enciphered, limit}
use Rattle.machine.specs.Calls.{line_on}
use Rattle.card_line.specs.Words.{line_in, line_words}
use Rattle.card_layout.specs.Words.{card_in}
use Rattle.card_layout.proofs.Cards.{part_held, line-part, part-put}
use Rattle.card_outcome.proofs.Laws.{handed-on, by-rows, sound-ok, sound-plain, open-ok-of, given-check, given-passed, given-crypt}
use Rattle.card_crypt.proofs.Crypts.{moved_plain, crypt-decided}
use Rattle.card_crypt.proofs.run_crypt.Goals as goal

-- the rows, by what is read of the line
by-line : (l : Line) (count text out : ℕ) {k m n d : ℕ} → k ≡ code_of (crypt_rows m n d count text out) → m ≡ l.mode → n ≡ l.n → d ≡ l.due → k ≡ code_of (crypt_rows l.mode l.n l.due count text out)
by-line l count text out {n = n} {d = d} e a b f =
    e ∙ ap (λ (x : ℕ). code_of (crypt_rows x n d count text out)) a ∙ ap₂ (λ (x y : ℕ). code_of (crypt_rows l.mode x y count text out)) b f

pub returns-in_err-crypt_check : goal.returns-in_err-crypt_check
returns-in_err-crypt_check c =
    let ws = c.args.card.now in
    let l = line_on (card_in ws) c.args.i in
    let text = c.args.«data».now in
    let out = c.args.out.now in
    λ command tray. by-rows ws _ _ (crypt-decided ws c.args.i c.args.count command tray text out)
    (given-check ws text out (crypt_rows l.mode l.n l.due c.args.count (length text) (length out)) (crypt c.args.i c.args.count crypt_length)
    (by-line l c.args.count (length text) (length out) c.in_err-crypt_check.ensures c.mode_at-mode.ensures c.position_at-n.ensures c.due_at-due.ensures) (handed-on c.from_residual.result c.from_residual.ensures))

pub slice_bounds-encipher_text-end-2 : goal.slice_bounds-encipher_text-end-2
slice_bounds-encipher_text-end-2 c =
    let l = line_on (card_in c.args.card.now) c.args.i in
    let rows = by-line l c.args.count (length c.args.«data».now) (length c.args.out.now) c.in_ok-crypt_check.ensures c.mode_at-mode.ensures c.position_at-n.ensures c.due_at-due.ensures in
    sym (length-take-le c.args.count c.args.«data».now (crypt-passed _ _ _ _ _ _ (sym rows)).text_in)

pub encipher_text-requires : goal.encipher_text-requires
encipher_text-requires c =
    let ws = c.args.card.now in
    let l = line_on (card_in ws) c.args.i in
    let rows = by-line l c.args.count (length c.args.«data».now) (length c.args.out.now) c.in_ok-crypt_check.ensures c.mode_at-mode.ensures c.position_at-n.ensures c.due_at-due.ensures in
    let passed = crypt-passed _ _ _ _ _ _ (sym rows) in
    let i = line-part ws c.args.i c.requires.1 c.requires.0.size in
    let n = length-take-le c.args.count c.args.«data».now passed.text_in in
    record {
      held = part_held ws c.args.i c.requires.1 c.requires.0.size c.requires.0.held;
      up = ap (λ (l : Line). l.mode) i ∙ passed.open-line;
      ok = ap open_ok i ∙ open-ok-of _ (sound-ok ws c.requires.0 c.args.i c.requires.1) passed.open-line;
      within = subst (λ (x : ℕ). x ≤ limit) (sym (ap₂ (λ (l : Line) (k : ℕ). position_on l.n l.due k) i n)) passed.within;
      room = omega (arith, n, passed.out-in);
    }

pub returns : goal.returns
returns c =
    let ws = c.args.card.now in
    let text = c.args.«data».now in
    let out = c.args.out.now in
    let l : Line = line_on (card_in ws) c.args.i in
    let all = crypt_rows l.mode l.n l.due c.args.count (length text) (length out) in
    let rows = by-line l c.args.count (length text) (length out) c.in_ok-crypt_check.ensures c.mode_at-mode.ensures c.position_at-n.ensures c.due_at-due.ensures in
    let passed = crypt-passed _ _ _ _ _ _ (sym rows) in
    let part = take (line_size * c.args.i + line_size - line_size * c.args.i) (drop (line_size * c.args.i) ws) in
    let n = length-take-le c.args.count text passed.text_in in
    let i = line-part ws c.args.i c.requires.1 c.requires.0.size in
    let next : shown (moved (based (line_in part)) (length (take c.args.count text))) ≡ shown (moved (based l) c.args.count) = ap₂ (λ (x : Line) (j : ℕ). shown (moved (based x) j)) i n in
    let full = sym (ap (λ (x : Line). length x.words) next) ∙ c.encipher_text.ensures.full in
    let put = part-put ws c.args.i c.requires.1 c.requires.0.size _ _ (c.encipher_text.ensures.words_are ∙ ap line_words next) in
    let given = c.encipher_text.ensures.out-is ∙ ap₂ (λ (x : Line) (j : ℕ). enciphered (based x) (take c.args.count text) ++ drop j out) i n in
    λ command tray. by-rows ws _ _ (crypt-decided ws c.args.i c.args.count command tray text out)
    (given-passed ws text out all _ (code-passed all tt (sym rows))
    (given-crypt ws text out c.requires.0 c.args.i c.requires.1 c.args.count 4 passed.text_in _ refl (moved_plain l c.args.count (sound-plain ws c.requires.0 c.args.i c.requires.1) full) put given refl))
