-- A walk along a keystream: a crypt from a place within a unit is one from a byte of the stream, a crypt of eight zeros reads a block, and the first
-- block that is not 0 is found by reading block after block. States stay fit on the way.
-- Assumes nothing.
use mathlib.Core.Path.{◌≡◌, refl, ap, sym, subst, ◌∙◌}
use mathlib.Core.Bool.{true, Bool-set}
use mathlib.Core.Logic.{∥∥₁_elim, ∥∥₁_map}
use mathlib.Core.List.{List, ◌++◌}
use Prim.Native.Nat.{ℕ, ◌+◌, ◌*◌, ◌/◌, ◌%◌, ◌<◌, ◌≤◌}
use native.Mathlib.Nat.{add-zero, zero-div, zero-mod, mod-add-mod, add-mod-mod, not-suc-le-zero}
use native.Mathlib.Omega.{arith}
use borrow.Author.Count.{below_more}
use lib.Dec.{lit≤}
use lib.ListN.{length, drop, replicate}
use Rattle.words.specs.Word.{◌⊕◌}
use Rattle.words.specs.Lists.{All, none, more, Byte}
use Rattle.words.specs.Strings.{word_at}
use Rattle.words.proofs.Ranges.{iter-keeps}
use Rattle.keystream.specs.Stream.{state_at, byte_at, xor_from}
use Rattle.keystream.proofs.Laws.{state_at-here, xor_from-length, xor_from-rebase}
use Rattle.keystream.proofs.Parts.{state-on, xor_from-place}
use Rattle.command.specs.Decode.{number_of}
use Rattle.ciphers.specs.Table.{CipherRow, cipher_at, zuc, rabbit, snow128, snow256, kcipher2, mugi}
use Rattle.ciphers.specs.Fit.{Fit}
use Rattle.ciphers.proofs.Sound.{sound}
use Rattle.ciphers.proofs.Rows.{every-row}
use Rattle.blocks.specs.Blocks.{block_at}
use Rattle.blocks.proofs.Spelling.{block_within}
use Rattle.multi_s01.specs.Stream.{block_of, lowest, tries}
use Rattle.multi_s01.proofs.Stream.{crypt-block}
use Rattle.multi_s01.proofs.Lowest.{lowest-found, lowest-none}
use Rattle.sealing_rules.specs.Sealing.{stream_bytes, blocks_from}
use Rattle.sealing_rules.proofs.Streams.{stream-bytes}
use Rattle.sealing_stream.specs.declared.Walk.{Walk}
use Rattle.sealing_stream.specs.Walk.{At, Crypted, Read, First, CryptsOn}

pub fit_on : (c : ℕ) (w : List ℕ) (i : ℕ) → Fit (cipher_at c) w → Fit (cipher_at c) (state_at (cipher_at c).gen w 0 i)
unfolding state_at
fit_on c w i h = iter-keeps (Fit (cipher_at c)) (cipher_at c).gen.next (sound c).next-fit _ w h

-- the row of a walk's cipher
abbrev row : Walk → CipherRow
row w = cipher_at (number_of w.cipher)

-- what a walk's words hold is admitted
pub walk-admitted : (w : Walk) → (cipher_at (number_of w.cipher)).admits w.words ≡ true
walk-admitted w = ∥∥₁_elim w.fit (Bool-set _ _) (λ h. h.admitted)

-- a unit has sixteen bytes at most
pub unit-most : (c : ℕ) → (cipher_at c).gen.unit ≤ 16
unfolding zuc rabbit snow128 snow256 kcipher2 mugi
unit-most = every-row (λ r. r.gen.unit ≤ 16) (lit≤ tt) (lit≤ tt) (lit≤ tt) (lit≤ tt) (lit≤ tt) (lit≤ tt)

-- the start of a stream
pub at_first : (s : List ℕ) (w : Walk) → w.words ≡ s → w.skip ≡ 0 → At (number_of w.cipher) s 0 w
at_first s w e k =
    let g = (row w).gen in
    record { cipher = refl; state = e ∙ sym (ap (state_at g s 0) (zero-div g.unit) ∙ state_at-here g (sound (number_of w.cipher)).unit-pos s 0); place = k ∙ sym (zero-mod g.unit) }

-- ---- a crypt from where a walk stands

module _ (w : Walk) (u : ℕ) (text out words' out' : List ℕ) (eu : u ≡ (cipher_at (number_of w.cipher)).gen.unit)
    (ew : words' ≡ state_at (cipher_at (number_of w.cipher)).gen w.words 0 ((w.skip + length text) / (cipher_at (number_of w.cipher)).gen.unit))
    (eo : out' ≡ xor_from (byte_at (cipher_at (number_of w.cipher)).gen w.words 0) w.skip text ++ drop (length text) out) where
  pub on-fit : ∥ Fit (cipher_at (number_of w.cipher)) words' ∥₁
  on-fit = ∥∥₁_map w.fit (λ h. subst (λ (x : List ℕ). Fit (row w) x) (sym ew) (fit_on (number_of w.cipher) w.words ((w.skip + length text) / (row w).gen.unit) h))

  module _ {w' : Walk} (same : w'.cipher ≡ w.cipher) (words-is : w'.words ≡ words') (skip-is : w'.skip ≡ (w.skip + length text % u) % u) where
    on-from : (s : List ℕ) (n : ℕ) → At (number_of w.cipher) s n w → Crypted (number_of w.cipher) s n text out w' out'
    on-from s n a =
        let g = (row w).gen in
        let pos = (sound (number_of w.cipher)).unit-pos in
        let e = a.state in
        let p = a.place in
        record {
          stands = record {
            cipher = ap number_of same;
            state =
                words-is
                ∙ ew
                ∙ ap (λ (x : ℕ). state_at g w.words 0 ((x + length text) / g.unit)) p
                ∙ ap (λ (x : List ℕ). state_at g x 0 ((n % g.unit + length text) / g.unit)) e
                ∙ state-on g pos s n (length text);
            place =
                skip-is
                ∙ add-mod-mod w.skip (length text) u
                ∙ ap (λ (x : ℕ). (w.skip + length text) % x) eu
                ∙ ap (λ (x : ℕ). (x + length text) % g.unit) p
                ∙ mod-add-mod n g.unit (length text);
          };
          bytes =
              eo
              ∙ ap (λ (x : List ℕ). x ++ drop (length text) out)
              (ap (λ (x : ℕ). xor_from (byte_at g w.words 0) x text) p
              ∙ ap (λ (x : List ℕ). xor_from (byte_at g x 0) (n % g.unit) text) e
              ∙ sym (xor_from-place g pos (state_at g s 0 (n / g.unit)) n text)
              ∙ xor_from-rebase g pos s 0 n text (omega arith));
        }

    pub crypted-on : CryptsOn w text out w' out'
    crypted-on = record { crypted = λ c s n a. subst (λ (k : ℕ). At k s n w → Crypted k s n text out w' out') a.cipher (on-from s n) a }

-- ---- the next block

zero-bytes : All Byte (replicate 8 0)
zero-bytes = let z : Byte 0 = omega arith in more z (more z (more z (more z (more z (more z (more z (more z none)))))))

no_block : block_at (replicate 8 0) (8 * 0) ≡ 0
unfolding block_at word_at
no_block = refl

pub block_read : (c : ℕ) (s : List ℕ) (i x : ℕ) (z : List ℕ) (w' : Walk) (z' : List ℕ) → Crypted c s (8 * i) (replicate 8 0) z w' z' → x ≡ block_at z' 0 → Read c s i x w'
block_read c s i x z w' z' d e =
    let f = stream_bytes c s in
    let X = xor_from f (8 * i) (replicate 8 0) in
    let n : 8 * i + 8 ≡ 8 * (i + 1) = omega arith in
    record {
      stands = subst (λ (k : ℕ). At c s k w') n d.stands;
      block =
          e
          ∙ ap (λ (l : List ℕ). block_at l 0) d.bytes
          ∙ block_within X (drop 8 z) 0 (omega (arith, xor_from-length f (8 * i) (replicate 8 0)))
          ∙ crypt-block f i (replicate 8 0) 0 zero-bytes (stream-bytes c s) (omega arith)
          ∙ ap (λ (k : ℕ). k ⊕ block_of f (i + 0)) no_block
          ∙ ap (block_of f) (add-zero i);
    }

-- ---- the first block that is not 0

-- i blocks are read, and all are 0
pub record Passed (c : ℕ) (s : List ℕ) (w : Walk) (i : ℕ) : Type 0 where
  pub stands : At c s (8 * i) w
  pub blank : (k : ℕ) → k < i → blocks_from c s k ≡ 0

pub passed_none : {c : ℕ} {s : List ℕ} {w : Walk} → At c s 0 w → Passed c s w 0
passed_none a = record { stands = a; blank = λ k q. absurd (not-suc-le-zero q) }

pub passed-more : {c : ℕ} {s : List ℕ} {w w' : Walk} {i x : ℕ} → Passed c s w i → Read c s i x w' → x ≡ 0 → Passed c s w' (i + 1)
passed-more {i = i} p r e = record { stands = r.stands; blank = below_more _ i p.blank (sym r.block ∙ e) }

pub passed-found : {c : ℕ} {s : List ℕ} {w w' : Walk} {i x : ℕ} → i < tries → Passed c s w i → Read c s i x w' → (x ≡ 0 → ⊥) → First c s (record { t = i; a = x }) w'
passed-found {c} {s} {i = i} h p r e =
    record {
      tried = h;
      index = sym (lowest-found tries (blocks_from c s) i h p.blank (λ z. e (r.block ∙ z)));
      stands = r.stands;
      block = r.block;
    }

pub passed-all : {c : ℕ} {s : List ℕ} {w : Walk} {i : ℕ} → tries ≤ i → Passed c s w i → lowest tries (blocks_from c s) ≡ tries
passed-all {c} {s} h p = lowest-none tries (blocks_from c s) (λ k q. p.blank k (omega arith))

-- where the walk then stands
pub passed_end : {c : ℕ} {s : List ℕ} {w : Walk} {i : ℕ} → i ≤ tries → tries ≤ i → Passed c s w i → At c s (8 * tries) w
passed_end {c} {s} {w} {i} m h p = let e : i ≡ tries = omega arith in subst (λ (k : ℕ). At c s (8 * k) w) e p.stands
