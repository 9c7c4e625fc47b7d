-- What the card relies on of every cipher, by number: a unit of at least one byte, states that stay fit from S(0) on, and outputs of u bytes. It follows once for any cipher from the laws of
-- what it fills.
-- Assumes nothing.
use mathlib.Core.Path.{◌≡◌, sym, subst}
use mathlib.Core.List.{List}
use Prim.Native.Nat.{ℕ, zero, ◌%◌, ◌<◌}
use native.Mathlib.Nat.{mod-lt}
use lib.Dec.{lit<}
use lib.ListN.{length}
use Rattle.words.specs.Lists.{All, Byte}
use Rattle.zuc.specs.Range as ZR
use Rattle.zuc.proofs.Ranges as Z
use Rattle.rabbit.specs.Range as RR
use Rattle.rabbit.proofs.Ranges as R
use Rattle.snow2.specs.Range as SR
use Rattle.snow2.proofs.Ranges as S
use Rattle.kcipher2.specs.Range as KR
use Rattle.kcipher2.proofs.Ranges as K
use Rattle.mugi.specs.Range as MR
use Rattle.mugi.proofs.Ranges as M
use Rattle.ciphers.specs.Table.{CipherRow, Interface, row_of, zuc_face, zuc, rabbit_face, rabbit, snow128_face, snow128, snow256_face, snow256, kcipher2_face, kcipher2, mugi_face, mugi, cipher_at}
use Rattle.ciphers.specs.Fit.{Fit}
use Rattle.ciphers.proofs.Rows.{every-row}
use Rattle.ciphers.proofs.States.{zuc-back, zuc-fit, zuc-range, zuc-held, rabbit-back, rabbit-fit, rabbit-range, rabbit-held, snow2-back, snow128-fit, snow256-fit, snow2-range, snow2-held, kcipher2-back, kcipher2-fit, kcipher2-range, kcipher2-held, mugi-back, mugi-fit, mugi-range, mugi-held}

pub record Sound (c : CipherRow) : Type 0 where
  pub unit-pos : zero < c.gen.unit
  pub init-fit : (k iv : List ℕ) → All Byte k → All Byte iv → Fit c (c.init k iv)
  pub next-fit : (w : List ℕ) → Fit c w → Fit c (c.gen.next w)
  pub strm-length : (w : List ℕ) → length (c.gen.strm w) ≡ c.gen.unit
  pub strm-bytes : (w : List ℕ) → All Byte (c.gen.strm w)

-- ---- what a cipher proves of what it fills, with the range P of its states: the range is kept, outputs have u bytes, and its words hold a state in range exactly where they are fit

pub record Laws {S : Type 0} (i : Interface S) (P : S → Type 0) : Type 0 where
  pub unit-pos : zero < i.gen.unit
  pub init-range : (k iv : List ℕ) → All Byte k → All Byte iv → P (i.init k iv)
  pub next-range : (s : S) → P s → P (i.gen.next s)
  pub unit-length : (s : S) → length (i.gen.strm s) ≡ i.gen.unit
  pub unit-bytes : (s : S) → All Byte (i.gen.strm s)
  pub read_back : (s : S) → P s → i.from_words (i.to_words s) ≡ s
  pub fit : (s : S) → P s → Fit (row_of i) (i.to_words s)
  pub range : (w : List ℕ) → Fit (row_of i) w → P (i.from_words w)
  pub held : (w : List ℕ) → Fit (row_of i) w → i.to_words (i.from_words w) ≡ w

-- then its row is sound
pub sound-row : {S : Type 0} (i : Interface S) (P : S → Type 0) → Laws i P → Sound (row_of i)
sound-row i P l =
    record {
      unit-pos = l.unit-pos;
      init-fit = λ k iv hk hv. l.fit _ (l.init-range k iv hk hv);
      next-fit = λ w h. l.fit _ (l.next-range (i.from_words w) (l.range w h));
      strm-length = λ w. l.unit-length (i.from_words w);
      strm-bytes = λ w. l.unit-bytes (i.from_words w);
    }

-- ---- each cipher

pub zuc-laws : Laws zuc_face ZR.InRange
unfolding zuc
zuc-laws =
    record {
      unit-pos = lit< tt;
      init-range = Z.init-range;
      next-range = Z.next-range;
      unit-length = Z.unit-length;
      unit-bytes = Z.unit-bytes;
      read_back = λ s r. zuc-back s r.sixteen;
      fit = zuc-fit;
      range = zuc-range;
      held = zuc-held;
    }

pub rabbit-laws : Laws rabbit_face RR.InRange
unfolding rabbit
rabbit-laws =
    record {
      unit-pos = lit< tt;
      init-range = R.init-range;
      next-range = R.next-range;
      unit-length = R.unit-length;
      unit-bytes = R.unit-bytes;
      read_back = λ s r. rabbit-back s r.eight-x r.eight-c;
      fit = rabbit-fit;
      range = rabbit-range;
      held = rabbit-held;
    }

pub snow128-laws : Laws snow128_face SR.InRange
unfolding snow128
snow128-laws =
    record {
      unit-pos = lit< tt;
      init-range = S.init128-range;
      next-range = S.next-range;
      unit-length = S.unit-length;
      unit-bytes = S.unit-bytes;
      read_back = λ s r. snow2-back s r.sixteen;
      fit = snow128-fit;
      range = λ w h. snow2-range w h.full h.words;
      held = λ w h. snow2-held w h.full h.admitted;
    }

pub snow256-laws : Laws snow256_face SR.InRange
unfolding snow256
snow256-laws =
    record {
      unit-pos = lit< tt;
      init-range = S.init256-range;
      next-range = S.next-range;
      unit-length = S.unit-length;
      unit-bytes = S.unit-bytes;
      read_back = λ s r. snow2-back s r.sixteen;
      fit = snow256-fit;
      range = λ w h. snow2-range w h.full h.words;
      held = λ w h. snow2-held w h.full h.admitted;
    }

pub kcipher2-laws : Laws kcipher2_face KR.InRange
unfolding kcipher2
kcipher2-laws =
    record {
      unit-pos = lit< tt;
      init-range = K.init-range;
      next-range = K.next-range;
      unit-length = K.unit-length;
      unit-bytes = K.unit-bytes;
      read_back = λ s r. kcipher2-back s r.five r.eleven;
      fit = kcipher2-fit;
      range = λ w h. kcipher2-range w h.full h.words;
      held = λ w h. kcipher2-held w h.full h.admitted;
    }

pub mugi-laws : Laws mugi_face MR.InRange
unfolding mugi
mugi-laws =
    record {
      unit-pos = lit< tt;
      init-range = M.init-range;
      next-range = M.next-range;
      unit-length = M.unit-length;
      unit-bytes = M.unit-bytes;
      read_back = λ s r. mugi-back s r.three r.sixteen;
      fit = mugi-fit;
      range = λ w h. mugi-range w h.words;
      held = λ w h. mugi-held w h.full h.words;
    }

-- ---- by number

-- every number's cipher is sound
pub sound : (c : ℕ) → Sound (cipher_at c)
unfolding zuc rabbit snow128 snow256 kcipher2 mugi
sound =
    every-row Sound (sound-row zuc_face ZR.InRange zuc-laws) (sound-row rabbit_face RR.InRange rabbit-laws) (sound-row snow128_face SR.InRange snow128-laws)
    (sound-row snow256_face SR.InRange snow256-laws) (sound-row kcipher2_face KR.InRange kcipher2-laws) (sound-row mugi_face MR.InRange mugi-laws)

-- its unit, as the code reads it, is not 0, and what is left of a position lies within it
pub unit-up : (c u : ℕ) → u ≡ (cipher_at c).gen.unit → 0 < u
unit-up c u e = subst (λ (x : ℕ). 0 < x) (sym e) (sound c).unit-pos

pub place-within : (c n u : ℕ) → u ≡ (cipher_at c).gen.unit → n % u < (cipher_at c).gen.unit
place-within c n u e = subst (λ (x : ℕ). n % x < (cipher_at c).gen.unit) (sym e) (mod-lt n (sound c).unit-pos)
