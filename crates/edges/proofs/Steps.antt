-- Every call of the table answers as it states: the card's step computes on its bytes and lines.
-- Assumes nothing.
use mathlib.Core.Path.{◌≡◌, refl}
use mathlib.Core.List.{map}
use Rattle.words.specs.Lists.{iter}
use Rattle.words.specs.Strings.{word_at, bytes_of}
use Rattle.keystream.specs.Stream.{state_at, byte_at, xor_from}
use Rattle.rabbit_tables.specs.Tables.{a_list}
use Rattle.rabbit.specs.Cipher.{g, carry_at, counted, gs, mixed, next, half_at, parts8, parts4, arranged, loaded, master, iv_words, modified, with_iv, started, init}
use Rattle.snow2.specs.Cipher.{f, strm, unit}
use Rattle.ciphers.specs.States.{rabbit_words, rabbit_state, snow2_state}
use Rattle.ciphers.specs.Table.{cipher_at, zuc, rabbit, snow128, snow256, kcipher2, mugi}
use Rattle.command.specs.Decode.{read_of, length_of, open_of, crypt_of, change_of, command_of, decode_of}
use Rattle.card_moves.specs.Moves.{comes_due, position_on}
use Rattle.machine.specs.Machine.{unit_at, state_of, byte_of, shown, based, enciphered, moved, opened, image_of, image_line, image_from, image_number, loaded_line, started_line, along, renewed, xored, changed, state_ok, change_ok, open_ok, idle_ok, loaded_ok, line_ok, view_of, spare_used, blank_key, refuse_if, decided, decide, step, card_step}
use Rattle.machine.specs.Parks.{no_more, number_now, parked, holds, taken, parks_ok}
use Rattle.ciphers.specs.Kept.{kept_of, start_of, keeps_ok}
use Rattle.edges.specs.Steps.{Step, answer, modes, positions, dues, state_on, done, numbers, writes, reads, openness, opens, images, crypts, parks, changes, comings, loads, damage, calls}

pub steps : map (λ (s : Step). s.computed) calls ≡ map (λ (s : Step). s.stated) calls
unfolding calls reads openness opens images crypts parks changes comings loads damage answer modes positions dues state_on done numbers writes no_more number_now parked holds taken parks_ok image_from image_number card_step step decide decided refuse_if spare_used blank_key view_of line_ok idle_ok loaded_ok open_ok change_ok state_ok image_line image_of opened loaded_line started_line changed moved enciphered xored renewed along based shown byte_of state_of unit_at decode_of command_of change_of crypt_of open_of length_of read_of cipher_at kept_of start_of keeps_ok zuc rabbit snow128 snow256 kcipher2 mugi word_at bytes_of iter state_at byte_at xor_from comes_due position_on a_list g carry_at counted gs mixed next half_at parts8 parts4 arranged loaded master iv_words modified with_iv started init rabbit_words rabbit_state snow2_state f strm unit
steps = refl
