-- Fields: what is written in fields of any widths is read back, so an image says exactly its line. A field of four bytes is a word, and one of eight two of them.
-- Assumes nothing.
use mathlib.Core.Path.{◌≡◌, refl, ap, ap₂, sym, ◌∙◌}
use mathlib.Core.List.{List, [], ◌∷◌, ◌++◌, append_assoc}
use Prim.Native.Nat.{ℕ, zero, suc, ◌+◌, ◌*◌, ◌/◌, ◌%◌, ◌^◌, ◌<◌}
use native.Mathlib.Nat.{mod-eq_of_lt, div-div-eq-div-mul, add-zero}
use native.Mathlib.Omega.{arith}
use lib.ListN.{length, get_or, replicate, length-append}
use lib.Seq.{get_or-append-add}
use lib.Pow.{mod-pow-add}
use Rattle.ciphers.specs.States.{state_words, spelt}
use Rattle.keystream.proofs.Tables.{tab-agree}
use Rattle.words.specs.Lists.{All, more as more-words, Word, tab}
use Rattle.words.specs.Word.{word}
use Rattle.words.specs.Strings.{word_at, bytes_of}
use Rattle.machine.specs.Fields.{field_bytes, number_at, in_fields, fields_at}
use Rattle.machine.specs.Machine.{zeros, Line, image_widths, image_of, fields_line, image_line, image_from, image_number}

-- ---- any widths

-- numbers that fields of these widths can hold
pub data Fits : List ℕ → List ℕ → Type 0 where
  none : Fits [] []
  more : {w x : ℕ} {ws xs : List ℕ} → x < 2 ^ (8 * w) → Fits ws xs → Fits (w ∷ ws) (x ∷ xs)

field-length : (w x : ℕ) → length (field_bytes w x) ≡ w
field-length zero x = refl
field-length (suc w) x = ap suc (field-length w x)

-- a field behind p is read as far as it can hold its number
number_in : (w x : ℕ) (p s : List ℕ) (i : ℕ) → length p ≡ i → number_at w (p ++ (field_bytes w x ++ s)) i ≡ x % 2 ^ (8 * w)
number_in zero x p s i e = omega arith
number_in (suc w) x p s i e =
    let d : ℕ = x / 2 ^ (8 * w) % 2 ^ 8 in
    let here : get_or (p ++ (d ∷ (field_bytes w x ++ s))) i 0 ≡ d =
    ap (λ (k : ℕ). get_or (p ++ (d ∷ (field_bytes w x ++ s))) k 0) (sym (add-zero (length p) ∙ e)) ∙ get_or-append-add p (d ∷ (field_bytes w x ++ s)) 0 0 in
    let rest : number_at w (p ++ (d ∷ (field_bytes w x ++ s))) (i + 1) ≡ x % 2 ^ (8 * w) =
    ap (λ (t : List ℕ). number_at w t (i + 1)) (sym (append_assoc p (d ∷ []) (field_bytes w x ++ s)))
    ∙ number_in w x (p ++ (d ∷ [])) s (i + 1) (length-append p (d ∷ []) ∙ ap (λ (k : ℕ). k + 1) e) in
    ap₂ (λ (a b : ℕ). a * 2 ^ (8 * w) + b) here rest
    ∙ sym (mod-pow-add x 8 (8 * w))
    ∙ ap (λ (k : ℕ). x % 2 ^ k) (let q : 8 + 8 * w ≡ 8 * suc w = omega arith in q)

fields_in : {ws xs : List ℕ} → Fits ws xs → (p : List ℕ) (i : ℕ) → length p ≡ i → fields_at ws (p ++ in_fields ws xs) i ≡ xs
fields_in none p i e = refl
fields_in (more {w} {x} {ws} {xs} h f) p i e =
    ap₂ ◌∷◌ (number_in w x p (in_fields ws xs) i e ∙ mod-eq_of_lt h)
    (ap (λ (t : List ℕ). fields_at ws t (i + w)) (sym (append_assoc p (field_bytes w x) (in_fields ws xs)))
    ∙ fields_in f (p ++ field_bytes w x) (i + w) (length-append p (field_bytes w x) ∙ ap₂ ◌+◌ e (field-length w x)))

-- what is written is read back
pub fields_back : {ws xs : List ℕ} → Fits ws xs → fields_at ws (in_fields ws xs) 0 ≡ xs
fields_back f = fields_in f [] 0 refl

-- ---- words

four : (a b c d : ℕ) → a * 2 ^ 24 + (b * 2 ^ 16 + (c * 2 ^ 8 + (d * 2 ^ 0 + 0))) ≡ word a b c d
four a b c d = omega arith

-- a field of four bytes is a word
pub word-field : (x : ℕ) → field_bytes 4 x ≡ bytes_of x
unfolding bytes_of
word-field x = let e : x / 2 ^ 0 % 2 ^ 8 ≡ x % 2 ^ 8 = omega arith in rw e

pub word_number : (s : List ℕ) (i : ℕ) → number_at 4 s i ≡ word_at s i
unfolding word_at
word_number s i =
    let e : i + 1 + 1 ≡ i + 2 = omega arith in
    let f : i + 1 + 1 + 1 ≡ i + 3 = omega arith in
    four (get_or s i 0) (get_or s (i + 1) 0) (get_or s (i + 1 + 1) 0) (get_or s (i + 1 + 1 + 1) 0)
    ∙ ap₂ (λ (a b : ℕ). word (get_or s i 0) (get_or s (i + 1) 0) (get_or s a 0) (get_or s b 0)) e f

-- words, each in its field
pub words-written : (n : ℕ) (xs : List ℕ) → length xs ≡ n → in_fields (replicate n 4) xs ≡ spelt xs
words-written zero [] e = refl
words-written zero (x ∷ xs) e = absurd (omega arith)
words-written (suc n) [] e = absurd (omega arith)
words-written (suc n) (x ∷ xs) e = ap₂ ◌++◌ (word-field x) (words-written n xs (omega arith))

pub words-read : (n : ℕ) (s : List ℕ) (i : ℕ) → fields_at (replicate n 4) s i ≡ tab n (λ k. word_at s (i + 4 * k))
words-read zero s i = refl
words-read (suc n) s i =
    ap₂ ◌∷◌ (word_number s i ∙ ap (word_at s) (let e : i ≡ i + 4 * 0 = omega arith in e))
    (words-read n s (i + 4) ∙ tab-agree n (λ k. word_at s (i + 4 + 4 * k)) (λ k. word_at s (i + 4 * suc k)) (λ k _. ap (word_at s) (let e : i + 4 + 4 * k ≡ i + 4 * suc k = omega arith in e)))

-- a field of eight bytes is two words
high : (x k : ℕ) → x / 2 ^ 32 / 2 ^ k % 2 ^ 8 ≡ x / (2 ^ 32 * 2 ^ k) % 2 ^ 8
high x k = ap (λ (y : ℕ). y % 2 ^ 8) (div-div-eq-div-mul x (2 ^ 32) (2 ^ k))

pub long-field : (x : ℕ) → field_bytes 8 x ≡ bytes_of (x / 2 ^ 32) ++ bytes_of (x % 2 ^ 32)
unfolding bytes_of
long-field x =
    let a = high x 24 in
    let b = high x 16 in
    let c = high x 8 in
    let e : x % 2 ^ 32 / 2 ^ 24 % 2 ^ 8 ≡ x / 2 ^ 24 % 2 ^ 8 = omega arith in
    let f : x % 2 ^ 32 / 2 ^ 16 % 2 ^ 8 ≡ x / 2 ^ 16 % 2 ^ 8 = omega arith in
    let g : x % 2 ^ 32 / 2 ^ 8 % 2 ^ 8 ≡ x / 2 ^ 8 % 2 ^ 8 = omega arith in
    let h : x % 2 ^ 32 % 2 ^ 8 ≡ x / 2 ^ 0 % 2 ^ 8 = omega arith in
    rw (a, b, c, e, f, g, h)

pub long-number : (s : List ℕ) (i : ℕ) → number_at 8 s i ≡ word_at s i * 2 ^ 32 + word_at s (i + 4)
long-number s i =
    split (get_or s i 0) (get_or s (i + 1) 0) (get_or s (i + 1 + 1) 0) (get_or s (i + 1 + 1 + 1) 0) (number_at 4 s (i + 1 + 1 + 1 + 1))
    ∙ ap₂ (λ (x y : ℕ). x * 2 ^ 32 + y) (word_number s i) (word_number s (i + 1 + 1 + 1 + 1) ∙ ap (word_at s) (let e : i + 1 + 1 + 1 + 1 ≡ i + 4 = omega arith in e))
  where
    split : (a b c d r : ℕ) → a * 2 ^ 56 + (b * 2 ^ 48 + (c * 2 ^ 40 + (d * 2 ^ 32 + r))) ≡ (a * 2 ^ 24 + (b * 2 ^ 16 + (c * 2 ^ 8 + (d * 2 ^ 0 + 0)))) * 2 ^ 32 + r
    split a b c d r = omega arith

-- ---- an image, by its words

-- a field of one byte
byte-number : (s : List ℕ) (i : ℕ) → number_at 1 s i ≡ get_or s i 0
byte-number s i = one (get_or s i 0)
  where
    one : (x : ℕ) → x * 2 ^ 0 + 0 ≡ x
    one x = omega arith

byte-field : (x : ℕ) → x < 2 ^ 8 → field_bytes 1 x ≡ x ∷ []
byte-field x h = let e : x / 2 ^ 0 % 2 ^ 8 ≡ x = omega (arith, h) in ap (λ (y : ℕ). y ∷ []) e

pub image-cipher : (img : List ℕ) → (image_line img).cipher ≡ get_or img 0 0
unfolding image_line
image-cipher img = byte-number img 0

pub image-position : (img : List ℕ) → (image_line img).n ≡ word_at img 1 * 2 ^ 32 + word_at img 5
unfolding image_line
image-position img = long-number img 1

pub image-state : (img : List ℕ) → (image_line img).words ≡ tab state_words (λ k. word_at img (14 + 4 * k))
unfolding image_line
image-state img = words-read state_words img 14

pub image-from : (img : List ℕ) → image_from img ≡ get_or img 9 0
unfolding image_from
image-from img = byte-number img 9

pub image-number : (img : List ℕ) → image_number img ≡ word_at img 10
unfolding image_number
image-number img = word_number img 10

pub image-spelt : (i k : ℕ) (l : Line) → i < 2 ^ 8 → l.cipher < 2 ^ 8 → length l.words ≡ state_words →
    image_of i k l ≡ l.cipher ∷ (spelt (l.n / 2 ^ 32 ∷ l.n % 2 ^ 32 ∷ []) ++ (i ∷ spelt (k ∷ l.words)))
unfolding image_of bytes_of
image-spelt i k l b h e =
    ap₂ ◌++◌ (byte-field l.cipher h)
    (ap₂ ◌++◌ (long-field l.n) (ap₂ ◌++◌ (byte-field i b) (ap₂ ◌++◌ (word-field k) (words-written state_words l.words e))))

-- ---- an image says exactly its line

words-fit : (n : ℕ) (xs : List ℕ) → length xs ≡ n → All Word xs → Fits (replicate n 4) xs
words-fit zero [] e h = none
words-fit zero (x ∷ xs) e h = absurd (omega arith)
words-fit (suc n) [] e h = absurd (omega arith)
words-fit (suc n) (x ∷ xs) e (more-words p h) = more p (words-fit n xs (omega arith) h)

-- an open line with nothing waiting whose fields can hold it
pub record Sized (l : Line) : Type 0 where
  pub up : l.mode ≡ 1
  pub cipher : l.cipher < 2 ^ 8
  pub pos : l.n < 2 ^ 64
  pub full : length l.words ≡ state_words
  pub words : All Word l.words
  pub none-due : l.due ≡ 0
  pub none-waits : l.waiting ≡ zeros

module _ (i k : ℕ) (b : i < 2 ^ 8) (h : Word k) (l : Line) (s : Sized l) where
  image-fields : fields_at image_widths (image_of i k l) 0 ≡ l.cipher ∷ l.n ∷ i ∷ k ∷ l.words
  unfolding image_of
  image-fields =
      fields_back {ws = image_widths} {xs = l.cipher ∷ l.n ∷ i ∷ k ∷ l.words} (more s.cipher (more s.pos (more b (more h (words-fit state_words l.words s.full s.words)))))

  -- the line that parked it, and the number of its park
  pub from_back : image_from (image_of i k l) ≡ i
  unfolding image_from
  from_back = ap (λ (x : List ℕ). get_or x 2 0) image-fields

  pub number-back : image_number (image_of i k l) ≡ k
  unfolding image_number
  number-back = ap (λ (x : List ℕ). get_or x 3 0) image-fields

  pub image-back : image_line (image_of i k l) ≡ l
  unfolding image_line
  image-back =
      ap fields_line image-fields
      ∙ (λ j. record { mode = sym s.up j; cipher = l.cipher; n = l.n; words = l.words; due = sym s.none-due j; waiting = sym s.none-waits j })
