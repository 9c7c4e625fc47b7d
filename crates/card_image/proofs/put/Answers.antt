-- `card_image::put` meets its contract: the cipher's byte, the words of the position, the line, the number and the words of the state, each behind the one before it.
-- Assumes nothing.
use mathlib.Core.Path.{subst}
use mathlib.Core.List.{List, [], ◌∷◌, ◌++◌}
use Prim.Native.Nat.{ℕ, ◌-◌}
use native.Mathlib.Omega.{arith}
use lib.ListN.{length, take, drop, set}
use borrow.Rule.Slice.PartMut.{put_mid}
use Rattle.words.specs.Strings.{bytes_of}
use Rattle.card_sizes.specs.Sizes.{image_length}
use Rattle.ciphers.specs.States.{spelt}
use Rattle.machine.specs.Machine.{image_of}
use Rattle.card_line.specs.Words.{line_in}
use Rattle.buffer.proofs.Fronts.{Front, front_length, front-room, front-within}
use Rattle.card_image.proofs.Fronts.{front-1, front-place, front-from, front-number, front-state, parts-image, place-length, state-length}
use borrow.Author.Rules.{rules}
use Rattle.card_image.proofs.put.Goals as goal

pub slice_bounds-put_words-count-2 : goal.slice_bounds-put_words-count-2
slice_bounds-put_words-count-2 c = front-within ((let it : Front (c.cipher_of-cipher.result ∷ []) c.args.out.now ((set c.args.out.now 0 c.cipher_of-cipher.result)) 1 = front-1 c.args.line.now c.requires.line_held.0 c.args.out.now c.requires.image_length_in_bounds c.cipher_of-cipher.result in it))

pub slice_bounds-put_words-start-2 : goal.slice_bounds-put_words-start-2
slice_bounds-put_words-start-2 c = front-within ((let it : Front (c.cipher_of-cipher.result ∷ []) c.args.out.now ((set c.args.out.now 0 c.cipher_of-cipher.result)) 1 = front-1 c.args.line.now c.requires.line_held.0 c.args.out.now c.requires.image_length_in_bounds c.cipher_of-cipher.result in it))

pub put_words-requires : goal.put_words-requires
put_words-requires c =
    let r = front-room ((let it : Front (c.cipher_of-cipher.result ∷ []) c.args.out.now ((set c.args.out.now 0 c.cipher_of-cipher.result)) 1 = front-1 c.args.line.now c.requires.line_held.0 c.args.out.now c.requires.image_length_in_bounds c.cipher_of-cipher.result in it)) 8 (omega (arith, c.requires.image_length_in_bounds)) in
    let n = place-length c.args.line.now c.requires.line_held.0 c.args.out.now c.requires.image_length_in_bounds in
    omega (arith, r, n)

pub bounds-out-9 : goal.bounds-out-9
bounds-out-9 c =
    let n = front_length ((let it : Front ((c.cipher_of-cipher.result ∷ []) ++ spelt (take 2 (drop 2 c.args.line.now))) c.args.out.now ((let o = (set c.args.out.now 0 c.cipher_of-cipher.result) in put_mid 1 (length o - 1) o c.put_words.new.out)) 9 = front-place c.args.line.now c.requires.line_held.0 c.args.out.now c.requires.image_length_in_bounds c.cipher_of-cipher.result _ c.put_words.ensures in it)) in
    omega (arith, n, c.requires.image_length_in_bounds)

pub slice_bounds-put_word-count : goal.slice_bounds-put_word-count
slice_bounds-put_word-count c = front-within ((let it : Front (((c.cipher_of-cipher.result ∷ []) ++ spelt (take 2 (drop 2 c.args.line.now))) ++ (c.args.from ∷ [])) c.args.out.now ((set ((let o = (set c.args.out.now 0 c.cipher_of-cipher.result) in put_mid 1 (length o - 1) o c.put_words.new.out)) 9 c.args.from)) 10 = front-from c.args.line.now c.requires.line_held.0 c.args.out.now c.requires.image_length_in_bounds c.args.from ((let it : Front ((c.cipher_of-cipher.result ∷ []) ++ spelt (take 2 (drop 2 c.args.line.now))) c.args.out.now ((let o = (set c.args.out.now 0 c.cipher_of-cipher.result) in put_mid 1 (length o - 1) o c.put_words.new.out)) 9 = front-place c.args.line.now c.requires.line_held.0 c.args.out.now c.requires.image_length_in_bounds c.cipher_of-cipher.result _ c.put_words.ensures in it)) in it))

pub slice_bounds-put_word-start : goal.slice_bounds-put_word-start
slice_bounds-put_word-start c = front-within ((let it : Front (((c.cipher_of-cipher.result ∷ []) ++ spelt (take 2 (drop 2 c.args.line.now))) ++ (c.args.from ∷ [])) c.args.out.now ((set ((let o = (set c.args.out.now 0 c.cipher_of-cipher.result) in put_mid 1 (length o - 1) o c.put_words.new.out)) 9 c.args.from)) 10 = front-from c.args.line.now c.requires.line_held.0 c.args.out.now c.requires.image_length_in_bounds c.args.from ((let it : Front ((c.cipher_of-cipher.result ∷ []) ++ spelt (take 2 (drop 2 c.args.line.now))) c.args.out.now ((let o = (set c.args.out.now 0 c.cipher_of-cipher.result) in put_mid 1 (length o - 1) o c.put_words.new.out)) 9 = front-place c.args.line.now c.requires.line_held.0 c.args.out.now c.requires.image_length_in_bounds c.cipher_of-cipher.result _ c.put_words.ensures in it)) in it))

pub put_word-requires : goal.put_word-requires
put_word-requires c =
    front-room ((let it : Front (((c.cipher_of-cipher.result ∷ []) ++ spelt (take 2 (drop 2 c.args.line.now))) ++ (c.args.from ∷ [])) c.args.out.now ((set ((let o = (set c.args.out.now 0 c.cipher_of-cipher.result) in put_mid 1 (length o - 1) o c.put_words.new.out)) 9 c.args.from)) 10 = front-from c.args.line.now c.requires.line_held.0 c.args.out.now c.requires.image_length_in_bounds c.args.from ((let it : Front ((c.cipher_of-cipher.result ∷ []) ++ spelt (take 2 (drop 2 c.args.line.now))) c.args.out.now ((let o = (set c.args.out.now 0 c.cipher_of-cipher.result) in put_mid 1 (length o - 1) o c.put_words.new.out)) 9 = front-place c.args.line.now c.requires.line_held.0 c.args.out.now c.requires.image_length_in_bounds c.cipher_of-cipher.result _ c.put_words.ensures in it)) in it)) 4 (omega (arith, c.requires.image_length_in_bounds))

pub slice_bounds-put_words-count-4 : goal.slice_bounds-put_words-count-4
slice_bounds-put_words-count-4 c = front-within ((let it : Front ((((c.cipher_of-cipher.result ∷ []) ++ spelt (take 2 (drop 2 c.args.line.now))) ++ (c.args.from ∷ [])) ++ bytes_of c.args.number) c.args.out.now ((let o = (set ((let o = (set c.args.out.now 0 c.cipher_of-cipher.result) in put_mid 1 (length o - 1) o c.put_words.new.out)) 9 c.args.from) in put_mid 10 (length o - 10) o c.put_word.new.out)) 14 = front-number c.args.line.now c.requires.line_held.0 c.args.out.now c.requires.image_length_in_bounds c.args.number _ ((let it : Front (((c.cipher_of-cipher.result ∷ []) ++ spelt (take 2 (drop 2 c.args.line.now))) ++ (c.args.from ∷ [])) c.args.out.now ((set ((let o = (set c.args.out.now 0 c.cipher_of-cipher.result) in put_mid 1 (length o - 1) o c.put_words.new.out)) 9 c.args.from)) 10 = front-from c.args.line.now c.requires.line_held.0 c.args.out.now c.requires.image_length_in_bounds c.args.from ((let it : Front ((c.cipher_of-cipher.result ∷ []) ++ spelt (take 2 (drop 2 c.args.line.now))) c.args.out.now ((let o = (set c.args.out.now 0 c.cipher_of-cipher.result) in put_mid 1 (length o - 1) o c.put_words.new.out)) 9 = front-place c.args.line.now c.requires.line_held.0 c.args.out.now c.requires.image_length_in_bounds c.cipher_of-cipher.result _ c.put_words.ensures in it)) in it)) c.put_word.ensures in it))

pub slice_bounds-put_words-start-4 : goal.slice_bounds-put_words-start-4
slice_bounds-put_words-start-4 c = front-within ((let it : Front ((((c.cipher_of-cipher.result ∷ []) ++ spelt (take 2 (drop 2 c.args.line.now))) ++ (c.args.from ∷ [])) ++ bytes_of c.args.number) c.args.out.now ((let o = (set ((let o = (set c.args.out.now 0 c.cipher_of-cipher.result) in put_mid 1 (length o - 1) o c.put_words.new.out)) 9 c.args.from) in put_mid 10 (length o - 10) o c.put_word.new.out)) 14 = front-number c.args.line.now c.requires.line_held.0 c.args.out.now c.requires.image_length_in_bounds c.args.number _ ((let it : Front (((c.cipher_of-cipher.result ∷ []) ++ spelt (take 2 (drop 2 c.args.line.now))) ++ (c.args.from ∷ [])) c.args.out.now ((set ((let o = (set c.args.out.now 0 c.cipher_of-cipher.result) in put_mid 1 (length o - 1) o c.put_words.new.out)) 9 c.args.from)) 10 = front-from c.args.line.now c.requires.line_held.0 c.args.out.now c.requires.image_length_in_bounds c.args.from ((let it : Front ((c.cipher_of-cipher.result ∷ []) ++ spelt (take 2 (drop 2 c.args.line.now))) c.args.out.now ((let o = (set c.args.out.now 0 c.cipher_of-cipher.result) in put_mid 1 (length o - 1) o c.put_words.new.out)) 9 = front-place c.args.line.now c.requires.line_held.0 c.args.out.now c.requires.image_length_in_bounds c.cipher_of-cipher.result _ c.put_words.ensures in it)) in it)) c.put_word.ensures in it))

pub put_words-requires-2 : goal.put_words-requires-2
put_words-requires-2 c =
    let r = front-room ((let it : Front ((((c.cipher_of-cipher.result ∷ []) ++ spelt (take 2 (drop 2 c.args.line.now))) ++ (c.args.from ∷ [])) ++ bytes_of c.args.number) c.args.out.now ((let o = (set ((let o = (set c.args.out.now 0 c.cipher_of-cipher.result) in put_mid 1 (length o - 1) o c.put_words.new.out)) 9 c.args.from) in put_mid 10 (length o - 10) o c.put_word.new.out)) 14 = front-number c.args.line.now c.requires.line_held.0 c.args.out.now c.requires.image_length_in_bounds c.args.number _ ((let it : Front (((c.cipher_of-cipher.result ∷ []) ++ spelt (take 2 (drop 2 c.args.line.now))) ++ (c.args.from ∷ [])) c.args.out.now ((set ((let o = (set c.args.out.now 0 c.cipher_of-cipher.result) in put_mid 1 (length o - 1) o c.put_words.new.out)) 9 c.args.from)) 10 = front-from c.args.line.now c.requires.line_held.0 c.args.out.now c.requires.image_length_in_bounds c.args.from ((let it : Front ((c.cipher_of-cipher.result ∷ []) ++ spelt (take 2 (drop 2 c.args.line.now))) c.args.out.now ((let o = (set c.args.out.now 0 c.cipher_of-cipher.result) in put_mid 1 (length o - 1) o c.put_words.new.out)) 9 = front-place c.args.line.now c.requires.line_held.0 c.args.out.now c.requires.image_length_in_bounds c.cipher_of-cipher.result _ c.put_words.ensures in it)) in it)) c.put_word.ensures in it)) 152 c.requires.image_length_in_bounds in
    let n = state-length c.args.line.now c.requires.line_held.0 c.args.out.now c.requires.image_length_in_bounds in
    omega (arith, r, n)

pub shape_of-out : goal.shape_of-out
shape_of-out c = front_length ((let it : Front (image_of c.args.from c.args.number (line_in c.args.line.now)) c.args.out.now ((let o = (let o = (set ((let o = (set c.args.out.now 0 c.cipher_of-cipher.result) in put_mid 1 (length o - 1) o c.put_words.new.out)) 9 c.args.from) in put_mid 10 (length o - 10) o c.put_word.new.out) in put_mid 14 (length o - 14) o c.put_words-2.new.out)) image_length = subst (λ (x : List ℕ). Front x c.args.out.now ((let o = (let o = (set ((let o = (set c.args.out.now 0 c.cipher_of-cipher.result) in put_mid 1 (length o - 1) o c.put_words.new.out)) 9 c.args.from) in put_mid 10 (length o - 10) o c.put_word.new.out) in put_mid 14 (length o - 14) o c.put_words-2.new.out)) image_length) (parts-image c.args.line.now c.requires.line_held.0 c.args.out.now c.requires.image_length_in_bounds c.cipher_of-cipher.result c.args.from c.args.number c.cipher_of-cipher.ensures c.requires.line_held.1) (front-state c.args.line.now c.requires.line_held.0 c.args.out.now c.requires.image_length_in_bounds _ ((let it : Front ((((c.cipher_of-cipher.result ∷ []) ++ spelt (take 2 (drop 2 c.args.line.now))) ++ (c.args.from ∷ [])) ++ bytes_of c.args.number) c.args.out.now ((let o = (set ((let o = (set c.args.out.now 0 c.cipher_of-cipher.result) in put_mid 1 (length o - 1) o c.put_words.new.out)) 9 c.args.from) in put_mid 10 (length o - 10) o c.put_word.new.out)) 14 = front-number c.args.line.now c.requires.line_held.0 c.args.out.now c.requires.image_length_in_bounds c.args.number _ ((let it : Front (((c.cipher_of-cipher.result ∷ []) ++ spelt (take 2 (drop 2 c.args.line.now))) ++ (c.args.from ∷ [])) c.args.out.now ((set ((let o = (set c.args.out.now 0 c.cipher_of-cipher.result) in put_mid 1 (length o - 1) o c.put_words.new.out)) 9 c.args.from)) 10 = front-from c.args.line.now c.requires.line_held.0 c.args.out.now c.requires.image_length_in_bounds c.args.from ((let it : Front ((c.cipher_of-cipher.result ∷ []) ++ spelt (take 2 (drop 2 c.args.line.now))) c.args.out.now ((let o = (set c.args.out.now 0 c.cipher_of-cipher.result) in put_mid 1 (length o - 1) o c.put_words.new.out)) 9 = front-place c.args.line.now c.requires.line_held.0 c.args.out.now c.requires.image_length_in_bounds c.cipher_of-cipher.result _ c.put_words.ensures in it)) in it)) c.put_word.ensures in it)) c.put_words-2.ensures) in it))

pub returns : goal.returns
returns c = let f = (let it : Front (image_of c.args.from c.args.number (line_in c.args.line.now)) c.args.out.now ((let o = (let o = (set ((let o = (set c.args.out.now 0 c.cipher_of-cipher.result) in put_mid 1 (length o - 1) o c.put_words.new.out)) 9 c.args.from) in put_mid 10 (length o - 10) o c.put_word.new.out) in put_mid 14 (length o - 14) o c.put_words-2.new.out)) image_length = subst (λ (x : List ℕ). Front x c.args.out.now ((let o = (let o = (set ((let o = (set c.args.out.now 0 c.cipher_of-cipher.result) in put_mid 1 (length o - 1) o c.put_words.new.out)) 9 c.args.from) in put_mid 10 (length o - 10) o c.put_word.new.out) in put_mid 14 (length o - 14) o c.put_words-2.new.out)) image_length) (parts-image c.args.line.now c.requires.line_held.0 c.args.out.now c.requires.image_length_in_bounds c.cipher_of-cipher.result c.args.from c.args.number c.cipher_of-cipher.ensures c.requires.line_held.1) (front-state c.args.line.now c.requires.line_held.0 c.args.out.now c.requires.image_length_in_bounds _ ((let it : Front ((((c.cipher_of-cipher.result ∷ []) ++ spelt (take 2 (drop 2 c.args.line.now))) ++ (c.args.from ∷ [])) ++ bytes_of c.args.number) c.args.out.now ((let o = (set ((let o = (set c.args.out.now 0 c.cipher_of-cipher.result) in put_mid 1 (length o - 1) o c.put_words.new.out)) 9 c.args.from) in put_mid 10 (length o - 10) o c.put_word.new.out)) 14 = front-number c.args.line.now c.requires.line_held.0 c.args.out.now c.requires.image_length_in_bounds c.args.number _ ((let it : Front (((c.cipher_of-cipher.result ∷ []) ++ spelt (take 2 (drop 2 c.args.line.now))) ++ (c.args.from ∷ [])) c.args.out.now ((set ((let o = (set c.args.out.now 0 c.cipher_of-cipher.result) in put_mid 1 (length o - 1) o c.put_words.new.out)) 9 c.args.from)) 10 = front-from c.args.line.now c.requires.line_held.0 c.args.out.now c.requires.image_length_in_bounds c.args.from ((let it : Front ((c.cipher_of-cipher.result ∷ []) ++ spelt (take 2 (drop 2 c.args.line.now))) c.args.out.now ((let o = (set c.args.out.now 0 c.cipher_of-cipher.result) in put_mid 1 (length o - 1) o c.put_words.new.out)) 9 = front-place c.args.line.now c.requires.line_held.0 c.args.out.now c.requires.image_length_in_bounds c.cipher_of-cipher.result _ c.put_words.ensures in it)) in it)) c.put_word.ensures in it)) c.put_words-2.ensures) in it) in (f.size, f.is)
