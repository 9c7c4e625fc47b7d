-- Document 01's table of ciphers, by number: key and IV bytes, unit, S(0), Next and Strm, and what number 8 asks of a state.
-- Assumes nothing.
use Rattle.std.specs.Prelude.{Bool, true, List, [], ◌∷◌, ℕ, ◌-◌, ◌^◌, leb, eqb, get_or, take, drop}
use Rattle.keystream.specs.Stream.{Gen}
use Rattle.words.specs.Tests.{both, pick}
use Rattle.zuc.specs.declared.Zuc.{Zuc}
use Rattle.zuc.specs.Cipher as Z
use Rattle.rabbit.specs.declared.Rabbit.{Rabbit}
use Rattle.rabbit.specs.Cipher as R
use Rattle.snow2.specs.declared.Snow2.{Snow2}
use Rattle.snow2.specs.Cipher as S
use Rattle.kcipher2.specs.declared.Kcipher2.{Kcipher2}
use Rattle.kcipher2.specs.Cipher as K
use Rattle.mugi.specs.declared.Mugi.{Mugi}
use Rattle.mugi.specs.Cipher as M
use Rattle.ciphers.specs.States.{zuc_words, zuc_state, rabbit_words, rabbit_state, snow2_words, snow2_state, kcipher2_words, kcipher2_state, mugi_words, mugi_state}

-- a cipher as a line holds it, with states as words
pub record CipherRow : Type 0 where
  -- the bytes of its key and of its IV
  pub key : ℕ
  pub iv : ℕ
  -- its unit u, Next and Strm
  pub gen : Gen (List ℕ)
  -- S(0) of a key and an IV of its lengths
  pub init : List ℕ → List ℕ → List ℕ
  -- whether a state is one that number 8 admits
  pub admits : List ℕ → Bool

-- What a cipher fills: the bytes of its key and of its IV; u, Next, Strm and S(0) over its own state S; a state as words, and the state that words hold; and what number 8 admits.
pub record Interface (S : Type 0) : Type 0 where
  pub key : ℕ
  pub iv : ℕ
  pub gen : Gen S
  pub init : List ℕ → List ℕ → S
  pub to_words : S → List ℕ
  pub from_words : List ℕ → S
  pub admits : List ℕ → Bool

-- its row of the table
abbrev pub row_of : {S : Type 0} → Interface S → CipherRow
row_of i =
    record {
      key = i.key;
      iv = i.iv;
      gen = record { unit = i.gen.unit; next = λ w. i.to_words (i.gen.next (i.from_words w)); strm = λ w. i.gen.strm (i.from_words w) };
      init = λ k iv. i.to_words (i.init k iv);
      admits = i.admits;
    }

-- a test that each element passes
abbrev pub all_of : (ℕ → Bool) → List ℕ → Bool
all_of t [] = true
all_of t (x ∷ l) = both (t x) (all_of t l)

-- from 1 to 2^31 - 1
abbrev pub is_cell : ℕ → Bool
is_cell x = both (leb 1 x) (leb x (2 ^ 31 - 1))

abbrev pub are_cells : List ℕ → Bool
are_cells l = all_of is_cell l

abbrev pub is_zero : ℕ → Bool
is_zero x = eqb x 0

abbrev pub all_zero : List ℕ → Bool
all_zero l = all_of is_zero l

-- the words from k on are padding
abbrev pub zeros_from : ℕ → List ℕ → Bool
zeros_from k w = all_zero (drop k w)

-- 1: ZUC. No cell is 0 or over 2^31 - 1.
abbrev pub zuc_face : Interface Zuc
zuc_face =
    record {
      key = 16;
      iv = 16;
      gen = record { unit = Z.u; next = Z.next; strm = Z.unit };
      init = Z.init;
      to_words = zuc_words;
      from_words = zuc_state;
      admits = λ w. both (are_cells (take 16 w)) (zeros_from 18 w);
    }

unfoldable pub zuc : CipherRow
zuc = row_of zuc_face

-- 2: Rabbit. The carry is 0 or 1, and nothing but zeros comes after its byte.
abbrev pub rabbit_face : Interface Rabbit
rabbit_face =
    record {
      key = 16;
      iv = 8;
      gen = record { unit = R.u; next = R.next; strm = R.unit };
      init = R.init;
      to_words = rabbit_words;
      from_words = rabbit_state;
      admits = λ w. both (pick (eqb (get_or w 16 0) 0) true (eqb (get_or w 16 0) (2 ^ 24))) (zeros_from 17 w);
    }

unfoldable pub rabbit : CipherRow
rabbit = row_of rabbit_face

-- 3 and 4: SNOW 2.0, with a key of 16 bytes and of 32
abbrev pub snow128_face : Interface Snow2
snow128_face =
    record {
      key = 16;
      iv = 16;
      gen = record { unit = S.u; next = S.next; strm = S.unit };
      init = S.init128;
      to_words = snow2_words;
      from_words = snow2_state;
      admits = zeros_from 18;
    }

unfoldable pub snow128 : CipherRow
snow128 = row_of snow128_face

abbrev pub snow256_face : Interface Snow2
snow256_face =
    record {
      key = 32;
      iv = 16;
      gen = record { unit = S.u; next = S.next; strm = S.unit };
      init = S.init256;
      to_words = snow2_words;
      from_words = snow2_state;
      admits = zeros_from 18;
    }

unfoldable pub snow256 : CipherRow
snow256 = row_of snow256_face

-- 5: KCipher-2
abbrev pub kcipher2_face : Interface Kcipher2
kcipher2_face =
    record {
      key = 16;
      iv = 16;
      gen = record { unit = K.u; next = K.next; strm = K.unit };
      init = K.init;
      to_words = kcipher2_words;
      from_words = kcipher2_state;
      admits = zeros_from 20;
    }

unfoldable pub kcipher2 : CipherRow
kcipher2 = row_of kcipher2_face

-- 6: MUGI, whose state has all the words
abbrev pub mugi_face : Interface Mugi
mugi_face =
    record {
      key = 16;
      iv = 16;
      gen = record { unit = M.u; next = M.next; strm = M.unit };
      init = M.init;
      to_words = mugi_words;
      from_words = mugi_state;
      admits = λ w. true;
    }

unfoldable pub mugi : CipherRow
mugi = row_of mugi_face

-- the numbers that 4 and 8 admit
abbrev pub is_cipher : ℕ → Bool
is_cipher c = both (leb 1 c) (leb c 6)

-- the cipher of a number; a line that is idle has none, and there the last stands
unfoldable pub cipher_at : ℕ → CipherRow
cipher_at c = pick (eqb c 1) zuc (pick (eqb c 2) rabbit (pick (eqb c 3) snow128 (pick (eqb c 4) snow256 (pick (eqb c 5) kcipher2 mugi))))
