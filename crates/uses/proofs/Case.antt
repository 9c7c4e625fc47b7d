-- The claim is not empty: a list of calls with their real bytes, computed. A line is parked and taken up on another, where a crypt spans a change of key; a second resume with the same image is refused, and a line is
-- loaded and started. What each call did, which bytes were used, that the claim's conditions hold, and so the claim.
-- Assumes nothing.
use Prim.Native.Nat.{ℕ, ◌^◌}
use mathlib.Core.Path.{◌≡◌, refl, ap, sym, subst}
use mathlib.Core.Bool.{Bool, true}
use mathlib.Core.List.{List, [], ◌∷◌, ◌++◌, map}
use native.Mathlib.Omega.{arith}
use lib.Dec.{ltb}
use lib.ListN.{get_or, replicate}
use borrow.Author.Tests.{ltb-true}
use Rattle.words.specs.Lists.{All, none, more, Byte, shifted, iter}
use Rattle.words.specs.Strings.{word_at, bytes_of}
use Rattle.words.specs.Tests.{both}
use Rattle.words.proofs.Tests.{both_left, both_right}
use Rattle.card_sizes.specs.Sizes.{image_length}
use Rattle.card_moves.specs.Moves.{comes_due, position_on}
use Rattle.keystream.specs.Stream.{state_at, byte_at, xor_from}
use Rattle.zuc_tables.specs.Tables.{sub1, sub2, d}
use Rattle.zuc.specs.Cipher as Z
use Rattle.zuc.specs.Generator.{gen}
use Rattle.ciphers.specs.States.{zuc_words, zuc_state}
use Rattle.ciphers.specs.Table.{cipher_at, zuc, rabbit, snow128, snow256, kcipher2, mugi}
use Rattle.ciphers.specs.Kept.{kept_of, start_of}
use Rattle.command.specs.Decode.{read_of, length_of, open_of, crypt_of, change_of, command_of, decode_of}
use Rattle.machine.specs.Machine.{Call, plain_line, unit_at, state_of, byte_of, shown, based, opened, loaded_line, started_line, along, renewed, moved, xored, enciphered, changed, image_of, image_line, image_from, image_number, state_ok, view_of, spare_used, blank_key, refuse_if, decided, decide, step, fresh_machine}
use Rattle.machine.specs.Parks.{no_more, number_now, parked, holds, taken}
use Rattle.machine.specs.Calls.{Made, machine_run, BytesIn}
use Rattle.lists.specs.Logs.{Did, did_nothing, did-open, did-crypt, did-park, did-resume, did-change, did-load, did-start, did}
use Rattle.uses.specs.Uses.{Origin, bytes_from, changed_at, no_notes, notes_after, notes_of, In, in_head, in_tail, NoneTwice, FreshKeys, UnalteredAfter, Unaltered, KeystreamOnce}
use Rattle.uses.proofs.Twice.{in-none}
use Rattle.uses.proofs.Once.{machine-keystream-once}

-- ---- the list

-- a key of 16 bytes x in a field of 32, an IV of 16 bytes x
key_of : ℕ → List ℕ
key_of x = replicate 16 x ++ replicate 16 0

-- a call with a tray of two keys and four bytes of data
lent : List ℕ → Call
lent command = record { command = command; tray = key_of 7 ++ key_of 9; text = 0 ∷ 1 ∷ 2 ∷ 3 ∷ []; out = replicate image_length 0 }

-- the image of line 0, parked in byte 3 of ZUC's stream for the first key and IV: S(0), its cells and R1 and R2
image : List ℕ
image =
    image_of 0 1
    (plain_line 1 1 3
    (0x2e0e08dc ∷ 0x221c1214 ∷ 0x0dc652e6 ∷ 0x4a7448ce ∷ 0x2eca5b8f ∷ 0x71626d66 ∷ 0x03e3fcdb ∷ 0x7de7f98b ∷ 0x36e9fe50 ∷ 0x65c5b820 ∷ 0x52a273fd ∷ 0x6194333e ∷ 0x6f27d341
    ∷ 0x751c462f ∷ 0x35b25481 ∷ 0x4abde3e4 ∷ 0xec1ff6f3 ∷ 0x67f3a7e7 ∷ replicate 20 0))

pub calls : List Call
calls =
    -- line 0 is opened with ZUC, enciphers three bytes and is parked
    lent (1 ∷ 0 ∷ 1 ∷ 0 ∷ replicate 16 1)
    ∷ lent (3 ∷ 0 ∷ 0 ∷ 3 ∷ [])
    ∷ lent (4 ∷ 0 ∷ [])
    -- line 1 takes it up, is to change at position 5, and enciphers four bytes
    ∷ lent (5 ∷ 1 ∷ image)
    ∷ lent (7 ∷ 1 ∷ 1 ∷ (replicate 16 2 ++ (0 ∷ 0 ∷ 0 ∷ 0 ∷ 0 ∷ 0 ∷ 0 ∷ 5 ∷ [])))
    ∷ lent (3 ∷ 1 ∷ 0 ∷ 4 ∷ [])
    -- the image again, on line 2
    ∷ lent (5 ∷ 2 ∷ image)
    -- line 2 is loaded, started, and enciphers a byte
    ∷ lent (8 ∷ 2 ∷ 1 ∷ 1 ∷ [])
    ∷ lent (9 ∷ 2 ∷ replicate 16 3)
    ∷ lent (3 ∷ 2 ∷ 0 ∷ 1 ∷ [])
    ∷ []

pub xs : List Made
xs = machine_run fresh_machine calls

-- what they did, with the bytes that were written
pub done : List Did
done =
    did-open 0 1 (replicate 16 7) (replicate 16 1)
    ∷ did-crypt 0 (0 ∷ 1 ∷ 2 ∷ []) (179 ∷ 191 ∷ 20 ∷ [])
    ∷ did-park 0 image
    ∷ did-resume 1 image
    ∷ did-change 1 5 (key_of 9) (replicate 16 2)
    ∷ did-crypt 1 (0 ∷ 1 ∷ 2 ∷ 3 ∷ []) (69 ∷ 126 ∷ 247 ∷ 127 ∷ [])
    ∷ did_nothing
    ∷ did-load 2 1 (replicate 16 9)
    ∷ did-start 2 (replicate 16 3)
    ∷ did-crypt 2 (0 ∷ []) (163 ∷ [])
    ∷ []

-- the machine is run: they did so, and the second resume was answered 14
pub ran : (map did xs ≡ done) × (map (λ x. x.code) xs ≡ 0 ∷ 0 ∷ 0 ∷ 0 ∷ 0 ∷ 0 ∷ 14 ∷ 0 ∷ 0 ∷ 0 ∷ [])
unfolding xs calls done lent key_of image step decide decode_of command_of length_of read_of open_of crypt_of change_of decided refuse_if spare_used blank_key view_of comes_due position_on unit_at state_of byte_of shown based opened loaded_line started_line changed moved along renewed xored enciphered xor_from state_at byte_at image_of image_line image_from image_number state_ok no_more number_now parked holds taken kept_of start_of cipher_at zuc rabbit snow128 snow256 kcipher2 mugi word_at bytes_of shifted iter zuc_words zuc_state sub1 sub2 d Z.l1 Z.l2 Z.ss Z.w Z.weighed Z.mended Z.fed Z.fed_init Z.next_r1 Z.next_r2 Z.clocked Z.next Z.next_init Z.strm Z.loaded Z.init Z.unit
ran = (refl, refl)

-- ---- the bytes that were used

abbrev pub origin : (key iv : ℕ) → Origin
origin key iv = record { cipher = 1; key = replicate 16 key; iv = replicate 16 iv }

-- line 0 used bytes 0, 1 and 2 of its stream, line 1 went on with 3 and 4 and with the first two of the stream that its change brought, and line 2 used the first of its own
pub used-bytes : (notes_of xs).used
    ≡ bytes_from (origin 7 1) 0 ∷ bytes_from (origin 7 1) 1 ∷ bytes_from (origin 7 1) 2 ∷ bytes_from (origin 7 1) 3 ∷ bytes_from (origin 7 1) 4
    ∷ bytes_from (origin 9 2) 0 ∷ bytes_from (origin 9 2) 1 ∷ bytes_from (origin 9 3) 0 ∷ []
unfolding done key_of image changed_at image_of image_from cipher_at zuc
used-bytes = ap (λ (ds : List Did). (notes_after no_notes ds).used) ran.0

-- ---- what is asked of the list

nope : ◌≡◌ {A = ℕ} 0 1 → ⊥
nope z = omega (arith, z)

not-among : {A : Type 0} {x y : A} {l : List A} → (x ≡ y → ⊥) → (In x l → ⊥) → In x (y ∷ l) → ⊥
not-among f g in_head = f refl
not-among f g (in_tail i) = g i

-- three streams were begun, with different IVs
pub fresh-here : FreshKeys xs
unfolding done key_of image changed_at image_of image_from cipher_at zuc
fresh-here =
    subst (λ (ds : List Did). NoneTwice (notes_after no_notes ds).begun) (sym ran.0) (
      not-among (λ e. let z : ◌≡◌ {A = ℕ} 1 2 = ivs e in omega (arith, z)) (not-among (λ e. let z : ◌≡◌ {A = ℕ} 1 3 = ivs e in omega (arith, z)) in-none),
      (not-among (λ e. let z : ◌≡◌ {A = ℕ} 2 3 = ivs e in omega (arith, z)) in-none, (in-none, tt)),
    )
  where
    ivs : {o o' : Origin} → o ≡ o' → get_or o.iv 0 0 ≡ get_or o'.iv 0 0
    ivs e = ap (λ (o : Origin). get_or o.iv 0 0) e

-- the one resume that was accepted brought the image that line 0 was parked in
pub unaltered-here : Unaltered xs
unfolding done
unaltered-here =
    subst (UnalteredAfter no_notes) (sym ran.0) (
      λ j y e. absurd (nope cc),
      (
        λ j y e. absurd (nope cc),
        (
          λ j y e. absurd (nope cc),
          (
            λ j y e. subst (λ (z : List ℕ). In z (image ∷ [])) (let q : image ≡ y = cc in q) in_head,
            (λ j y e. absurd (nope cc), (λ j y e. absurd (nope cc), (λ j y e. absurd (nope cc), (λ j y e. absurd (nope cc), (λ j y e. absurd (nope cc), (λ j y e. absurd (nope cc), tt)))))),
          ),
        ),
      ),
    )

-- commands and trays hold bytes
are_bytes : List ℕ → Bool
are_bytes [] = true
are_bytes (x ∷ l) = both (ltb x (2 ^ 8)) (are_bytes l)

bytes-told : (l : List ℕ) → are_bytes l ≡ true → All Byte l
unfolding are_bytes
bytes-told [] h = none
bytes-told (x ∷ l) h = more (ltb-true x (2 ^ 8) (both_left (ltb x (2 ^ 8)) _ h)) (bytes-told l (both_right (ltb x (2 ^ 8)) _ h))

all_bytes : List Call → Bool
all_bytes [] = true
all_bytes (a ∷ rest) = both (are_bytes a.command) (both (are_bytes a.tray) (all_bytes rest))

all_told : (list : List Call) → all_bytes list ≡ true → BytesIn list
unfolding all_bytes
all_told [] h = tt
all_told (a ∷ rest) h =
    let t = both_right (are_bytes a.command) _ h in
    (record { command = bytes-told a.command (both_left (are_bytes a.command) _ h); tray = bytes-told a.tray (both_left (are_bytes a.tray) _ t) }, all_told rest (both_right (are_bytes a.tray) _ t))

pub bytes-here : BytesIn calls
unfolding calls lent key_of image image_of are_bytes all_bytes
bytes-here = all_told calls refl

-- So the claim holds of it: every byte that lines 0, 1 and 2 made was XORed with the byte that is noted above, and none of them twice.
pub once-here : KeystreamOnce xs
unfolding xs calls
once-here = machine-keystream-once xs refl bytes-here unaltered-here fresh-here
