-- The claim is not empty: a pair of lists that differ in every byte that may differ, a refused call of each kind among them, and the trace that both leave, computed.
-- Assumes nothing.
use mathlib.Core.Path.{◌≡◌, refl, ap, sym, ◌∙◌}
use mathlib.Core.List.{List, [], ◌∷◌, ◌++◌, map}
use Prim.Native.Nat.{ℕ, ◌-◌}
use lib.ListN.{get_or, replicate}
use Rattle.words.specs.Strings.{word_at}
use Rattle.keystream.specs.Stream.{xor_from}
use Rattle.card_sizes.specs.Sizes.{key_length, iv_length, image_length}
use Rattle.card_moves.specs.Moves.{comes_due, position_on}
use Rattle.ciphers.specs.Table.{cipher_at, zuc, rabbit, snow128, snow256, kcipher2, mugi}
use Rattle.command.specs.Decode.{read_of, length_of, open_of, crypt_of, change_of, command_of, decode_of}
use Rattle.machine.specs.Machine.{Call, shown, opened, loaded_line, started_line, along, renewed, moved, xored, enciphered, changed, image_of, view_of, spare_used, blank_key, refuse_if, decided, decide, step, fresh_machine}
use Rattle.machine.specs.Parks.{no_more, number_now, parked}
use Rattle.machine.specs.Calls.{machine_run}
use Rattle.trace.specs.Trace.{Trace, traced, AlikeLists}
use Rattle.trace.proofs.Shared.{same-trace}
use Rattle.trace.proofs.Bytes.{all_share}
use Rattle.trace.proofs.Tested.{lists-tested}

-- n bytes x, and zeros to a field of this size
field : (x n size : ℕ) → List ℕ
field x n size = replicate n x ++ replicate (size - n) 0

-- A list of calls with all that may differ made of one byte x: the keys of the tray within their lengths and every other record of it, the tray as a whole where no key is taken from it, a key of a
-- command's own, the IVs, the data, and what out held.
pub talk : ℕ → List Call
talk x =
    lent (1 ∷ 0 ∷ 1 ∷ 1 ∷ field x 16 iv_length) tray []
    ∷ lent (3 ∷ 0 ∷ 0 ∷ 3 ∷ []) whole (replicate 3 x)
    ∷ lent (2 ∷ 1 ∷ 3 ∷ (field x 16 key_length ++ field x 16 iv_length)) whole []
    ∷ lent (3 ∷ 1 ∷ 0 ∷ 2 ∷ []) whole (replicate 5 x)
    -- a change of line 0 two bytes on, which comes due within the crypt behind it
    ∷ lent (7 ∷ 0 ∷ 1 ∷ (field x 16 iv_length ++ (0 ∷ 0 ∷ 0 ∷ 0 ∷ 0 ∷ 0 ∷ 0 ∷ 5 ∷ []))) tray []
    ∷ lent (3 ∷ 0 ∷ 0 ∷ 4 ∷ []) whole (replicate 4 x)
    -- a load and a start, with Rabbit
    ∷ lent (8 ∷ 3 ∷ 2 ∷ 1 ∷ []) tray []
    ∷ lent (9 ∷ 3 ∷ field x 8 iv_length) whole []
    -- refused: line 0 is open, a key beyond its cipher's length, a key all zero, data too short, a start on an open line, an idle line
    ∷ lent (1 ∷ 0 ∷ 1 ∷ 1 ∷ field x 16 iv_length) tray []
    ∷ lent (1 ∷ 2 ∷ 1 ∷ 0 ∷ field x 16 iv_length) spare []
    ∷ lent (1 ∷ 2 ∷ 2 ∷ 0 ∷ field x 8 iv_length) blank []
    ∷ lent (3 ∷ 1 ∷ 0 ∷ 9 ∷ []) whole (replicate 8 x)
    ∷ lent (9 ∷ 0 ∷ field x 16 iv_length) whole []
    ∷ lent (4 ∷ 1 ∷ []) whole (replicate 2 x)
    ∷ lent (3 ∷ 1 ∷ 0 ∷ 2 ∷ []) whole (replicate 2 x)
    ∷ lent (6 ∷ 0 ∷ []) whole []
    ∷ []
  where
    tray : List ℕ
    tray = replicate key_length x ++ field x 16 key_length

    whole : List ℕ
    whole = replicate 64 x

    spare : List ℕ
    spare = replicate 16 x ++ (7 ∷ replicate 15 0)

    blank : List ℕ
    blank = replicate key_length 0 ++ replicate key_length x

    lent : List ℕ → List ℕ → List ℕ → Call
    lent command tray text = record { command = command; tray = tray; text = text; out = replicate image_length x }

pub talks-alike : AlikeLists (talk 1) (talk 2)
unfolding talk field step decide decode_of command_of length_of read_of open_of crypt_of change_of decided refuse_if spare_used blank_key view_of comes_due position_on opened loaded_line started_line changed moved along renewed no_more parked cipher_at zuc rabbit snow128 snow256 kcipher2 mugi word_at
talks-alike = lists-tested (talk 1) (talk 2) fresh_machine refl

-- code, bytes used of command and data, bytes written, and the positions of lines 0 and 1
abbrev pub figures : Trace → List ℕ
figures t = t.code ∷ t.used-command ∷ t.used-data ∷ t.written ∷ get_or (map (λ v. v.pos) t.card.lines) 0 0 ∷ get_or (map (λ v. v.pos) t.card.lines) 1 0 ∷ []

pub their-trace : List (List ℕ)
their-trace =
    (0 ∷ 20 ∷ 0 ∷ 0 ∷ 0 ∷ 0 ∷ [])
    ∷ (0 ∷ 4 ∷ 3 ∷ 3 ∷ 3 ∷ 0 ∷ [])
    ∷ (0 ∷ 51 ∷ 0 ∷ 0 ∷ 3 ∷ 0 ∷ [])
    ∷ (0 ∷ 4 ∷ 2 ∷ 2 ∷ 3 ∷ 2 ∷ [])
    ∷ (0 ∷ 27 ∷ 0 ∷ 0 ∷ 3 ∷ 2 ∷ [])
    ∷ (0 ∷ 4 ∷ 4 ∷ 4 ∷ 2 ∷ 2 ∷ [])
    ∷ (0 ∷ 4 ∷ 0 ∷ 0 ∷ 2 ∷ 2 ∷ [])
    ∷ (0 ∷ 18 ∷ 0 ∷ 0 ∷ 2 ∷ 2 ∷ [])
    ∷ (5 ∷ 0 ∷ 0 ∷ 0 ∷ 2 ∷ 2 ∷ [])
    ∷ (7 ∷ 0 ∷ 0 ∷ 0 ∷ 2 ∷ 2 ∷ [])
    ∷ (16 ∷ 0 ∷ 0 ∷ 0 ∷ 2 ∷ 2 ∷ [])
    ∷ (11 ∷ 0 ∷ 0 ∷ 0 ∷ 2 ∷ 2 ∷ [])
    ∷ (19 ∷ 0 ∷ 0 ∷ 0 ∷ 2 ∷ 2 ∷ [])
    ∷ (0 ∷ 2 ∷ 0 ∷ 166 ∷ 2 ∷ 0 ∷ [])
    ∷ (6 ∷ 0 ∷ 0 ∷ 0 ∷ 2 ∷ 0 ∷ [])
    ∷ (0 ∷ 2 ∷ 0 ∷ 0 ∷ 0 ∷ 0 ∷ [])
    ∷ []

-- The trace of the first, by computation, and so, by the claim, the second's.
pub first-trace : map figures (map traced (machine_run fresh_machine (talk 1))) ≡ their-trace
unfolding talk field their-trace step decide decode_of command_of length_of read_of open_of crypt_of change_of decided refuse_if spare_used blank_key view_of comes_due position_on opened loaded_line started_line changed moved along renewed no_more number_now parked cipher_at zuc rabbit snow128 snow256 kcipher2 mugi word_at shown enciphered xored xor_from image_of
first-trace = refl

pub second-trace : map figures (map traced (machine_run fresh_machine (talk 2))) ≡ their-trace
second-trace = sym (ap (map figures) (same-trace (all_share (talk 1) (talk 2) fresh_machine talks-alike) fresh_machine refl)) ∙ first-trace
