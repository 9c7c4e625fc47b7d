-- `card_crypt::encipher` meets its contract: the state is taken on where it stands, from a place within a unit, and the words before it are written anew.
-- Assumes nothing.
use mathlib.Core.Path.{◌≡◌, ap, sym, ◌∙◌}
use mathlib.Core.Bool.{true, true≢false}
use mathlib.Core.List.{List, ◌++◌}
use Prim.Native.Nat.{ℕ, ◌+◌}
use lib.ListN.{length, take, drop}
use Rattle.command.specs.declared.Cipher.{Cipher}
use Rattle.command.specs.Decode.{number_of}
use Rattle.ciphers.specs.Table.{is_cipher}
use Rattle.ciphers.proofs.Numbers.{read_none, read_is}
use Rattle.card_sizes.specs.Sizes.{state_words, head_words}
use Rattle.machine.specs.Machine.{Line, based, shown, along, xored, image_ok}
use Rattle.machine.proofs.Lines.{state-cipher, state-admits}
use Rattle.card_line.specs.Words.{line_in, line_words}
use Rattle.card_line.proofs.Lines.{state-slice, head-back}
use Rattle.ciphers.proofs.Sound.{unit-up, place-within}
use Rattle.card_crypt.proofs.Crypts.{crypted-line}
use borrow.Author.Rules.{rules}
use Rattle.card_crypt.proofs.encipher.Goals as goal

-- the line as it is read: open, on the cipher that its byte names, at its position
abbrev read : List ℕ → Cipher → ℕ → Line
read ws c n = let l = line_in ws in record { mode = 1; cipher = number_of c; n = n; words = take state_words (drop head_words ws); due = l.due; waiting = l.waiting }

-- an open line's byte names a cipher
pub returns-in_default : goal.returns-in_default
returns-in_default c =
    let l = line_in c.args.line.now in
    let known : is_cipher c.cipher_of-cipher.result ≡ true = ap is_cipher c.cipher_of-cipher.ensures ∙ state-cipher l.cipher l.n l.words c.requires.ok in
    absurd (true≢false (sym known ∙ read_none _ (sym c.try_from.ensures ∙ c.in_default.is)))

pub nonzero_rem-skip : goal.nonzero_rem-skip
nonzero_rem-skip c = unit-up ((read c.args.line.now c.in-Ok.c c.position_of-n.result)).cipher _ c.unit_of-unit.ensures

pub crypt-requires : goal.crypt-requires
crypt-requires c =
    let n : length (take state_words (drop head_words c.args.line.now)) ≡ state_words = search rules in
    record { w_len = (n, state-admits ((read c.args.line.now c.in-Ok.c c.position_of-n.result)).cipher ((read c.args.line.now c.in-Ok.c c.position_of-n.result)).n ((read c.args.line.now c.in-Ok.c c.position_of-n.result)).words (ap image_ok ((let it : (read c.args.line.now c.in-Ok.c c.position_of-n.result) ≡ line_in c.args.line.now = λ j. record { mode = sym c.requires.up j; cipher = (sym ((let it : c.cipher_of-cipher.result ≡ number_of c.in-Ok.c = (read_is _ (sym c.try_from.ensures ∙ c.in-Ok.is)).0 in it)) ∙ c.cipher_of-cipher.ensures) j; n = c.position_of-n.ensures.0 j; words = state-slice c.args.line.now c.requires.held.size j; due = (line_in c.args.line.now).due; waiting = (line_in c.args.line.now).waiting } in it)) ∙ c.requires.ok)); skip_bound = (place-within ((read c.args.line.now c.in-Ok.c c.position_of-n.result)).cipher ((read c.args.line.now c.in-Ok.c c.position_of-n.result)).n _ c.unit_of-unit.ensures, c.requires.room) }

pub returns : goal.returns
returns c =
    let n : length c.crypt.new.w ≡ state_words = search rules in
    let g = crypted-line ((read c.args.line.now c.in-Ok.c c.position_of-n.result)) _ c.unit_of-unit.ensures c.args.text.now c.args.out.now c.crypt.new.w c.crypt.new.out c.crypt.ensures.0 c.crypt.ensures.1 in
    let t = head-back 1 c.cipher_of-cipher.result (((read c.args.line.now c.in-Ok.c c.position_of-n.result)).n + length c.args.text.now) c.crypt.new.w c.args.line.now _ c.requires.held c.put_head.ensures in
    let l = line_in c.args.line.now in
    let e : record { mode = 1; cipher = c.cipher_of-cipher.result; n = ((read c.args.line.now c.in-Ok.c c.position_of-n.result)).n + length c.args.text.now; words = c.crypt.new.w; due = l.due; waiting = l.waiting } ≡ shown (along (based l) (length c.args.text.now)) =
    ap (λ (x : ℕ). record { mode = 1; cipher = x; n = ((read c.args.line.now c.in-Ok.c c.position_of-n.result)).n + length c.args.text.now; words = c.crypt.new.w; due = l.due; waiting = l.waiting }) ((let it : c.cipher_of-cipher.result ≡ number_of c.in-Ok.c = (read_is _ (sym c.try_from.ensures ∙ c.in-Ok.is)).0 in it))
    ∙ g.0
    ∙ ap (λ (x : Line). shown (along (based x) (length c.args.text.now))) ((let it : (read c.args.line.now c.in-Ok.c c.position_of-n.result) ≡ line_in c.args.line.now = λ j. record { mode = sym c.requires.up j; cipher = (sym ((let it : c.cipher_of-cipher.result ≡ number_of c.in-Ok.c = (read_is _ (sym c.try_from.ensures ∙ c.in-Ok.is)).0 in it)) ∙ c.cipher_of-cipher.ensures) j; n = c.position_of-n.ensures.0 j; words = state-slice c.args.line.now c.requires.held.size j; due = (line_in c.args.line.now).due; waiting = (line_in c.args.line.now).waiting } in it)) in
    record {
      words_are = t ∙ ap line_words e;
      full = sym (ap (λ (x : Line). length x.words) e) ∙ n;
      out-is = g.1 ∙ ap (λ (x : Line). xored (based x) c.args.text.now ++ drop (length c.args.text.now) c.args.out.now) ((let it : (read c.args.line.now c.in-Ok.c c.position_of-n.result) ≡ line_in c.args.line.now = λ j. record { mode = sym c.requires.up j; cipher = (sym ((let it : c.cipher_of-cipher.result ≡ number_of c.in-Ok.c = (read_is _ (sym c.try_from.ensures ∙ c.in-Ok.is)).0 in it)) ∙ c.cipher_of-cipher.ensures) j; n = c.position_of-n.ensures.0 j; words = state-slice c.args.line.now c.requires.held.size j; due = (line_in c.args.line.now).due; waiting = (line_in c.args.line.now).waiting } in it));
    }
