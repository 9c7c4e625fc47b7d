-- Keystreams (document 01, "Words and streams" and "The card"): a generator is a unit u, a step Next and an output Strm of u bytes; byte j of a line whose state
-- at unit m is B is byte j mod u of Strm (Next applied (j div u) - m times to B).
-- Assumes nothing.
use Rattle.std.specs.Prelude.{◌≡◌, List, [], ◌∷◌, ◌++◌, ℕ, suc, ◌+◌, ◌-◌, ◌/◌, ◌%◌, length, get_or, take, drop}
use Rattle.words.specs.Word.{◌⊕◌}
use Rattle.words.specs.Lists.{iter}

-- a generator over states of the type S: document 01's unit u, Next and Strm
pub record Gen (S : Type 0) : Type 0 where
  pub unit : ℕ
  pub next : S → S
  pub strm : S → List ℕ

-- S(i) of a line whose S(m) is B, for i from m on
unfoldable pub state_at : {S : Type 0} → Gen S → S → ℕ → ℕ → S
state_at g B m i = iter (i - m) g.next B

-- its keystream byte j
unfoldable pub byte_at : {S : Type 0} → Gen S → S → ℕ → ℕ → ℕ
byte_at g B m j = get_or (g.strm (state_at g B m (j / g.unit))) (j % g.unit) 0

-- a text, each byte XORed with the stream's byte at its position, the first at position n
unfoldable pub xor_from : (ℕ → ℕ) → ℕ → List ℕ → List ℕ
xor_from f n [] = []
xor_from f n (d ∷ ds) = d ⊕ f n ∷ xor_from f (suc n) ds

-- What a writing did: the first k bytes of a text, XORed with the bytes ks from byte n on, stand at the start of out, and the rest of out is as before.
abbrev pub BytesPut : (ks : List ℕ) (n k : ℕ) (text out out' : List ℕ) → Type 0
BytesPut ks n k text out out' = out' ≡ xor_from (λ j. get_or ks j 0) n (take k text) ++ drop k out

-- What the writing of a unit did: the u bytes of a text from byte at on, XORed with the bytes ks, stand in out from its byte at on, and the rest of out is as before.
abbrev pub UnitPut : (ks : List ℕ) (u : ℕ) (text : List ℕ) (at : ℕ) (out out' : List ℕ) → Type 0
UnitPut ks u text at out out' = out' ≡ take at out ++ (xor_from (λ j. get_or ks j 0) 0 (take u (drop at text)) ++ drop (at + u) out)

-- What a crypt of a whole text leaves: the text, XORed from byte n of the unit of s on, stands at the start of out, and the state is that of the unit in which the next byte lies.
abbrev pub TextCrypted : {S : Type 0} → Gen S → (n : ℕ) → S → (text out : List ℕ) → S → List ℕ → Type 0
TextCrypted g n s text out s' out' =
    (s' ≡ state_at g s 0 ((n + length text) / g.unit)) × (out' ≡ xor_from (byte_at g s 0) n text ++ drop (length text) out)

-- What a part of a crypt did: k bytes of text, from byte n of the unit of s on, went to the start of out, and the state is that of the unit in which the
-- next byte lies.
pub record PartCrypted {S : Type 0} (g : Gen S) (n : ℕ) (s : S) (k : ℕ) (text out : List ℕ) (s' : S) (out' : List ℕ) : Type 0 where
  pub state-is : s' ≡ state_at g s 0 ((n + k) / g.unit)
  pub out-is : out' ≡ xor_from (byte_at g s 0) n (take k text) ++ drop k out
