-- Two lists that are alike in bytes share what decisions read: a command is read by bytes that are none of a key or an IV, and what a decision reads of the rest is lengths, the bytes beyond a cipher's
-- lengths, and whether a key is all zero.
-- Assumes nothing.
use mathlib.Core.Path.{◌≡◌, refl, ap, ap₂, sym, ◌∙◌, subst}
use mathlib.Core.Bool.{Bool, true, false, not}
use mathlib.Core.List.{List, [], ◌∷◌}
use Prim.Native.Nat.{ℕ, suc, ◌+◌, ◌-◌, ◌*◌, ◌^◌, ◌<◌, ◌≤◌}
use native.Mathlib.Omega.{arith}
use lib.Dec.{eqb, leb}
use lib.ListN.{length, get_or, take, drop, length-take, length-drop}
use lib.Seq.{ext_get_or, get_or-take, get_or-drop}
use borrow.Author.Tests.{eqb-true, lt-leb, le-leb, le-ltb}
use Rattle.std.specs.Prelude.{Result, Ok, Err}
use Rattle.words.specs.Strings.{word_at}
use Rattle.words.specs.Tests.{both, pick}
use Rattle.card_sizes.specs.Sizes.{key_length, iv_length, tray_iv, own_key, own_iv, change_iv, change_at, start_iv}
use Rattle.ciphers.specs.Table.{cipher_at, all_zero}
use Rattle.ciphers.proofs.Numbers.{Reads, reads, reads_none, byte_reads}
use Rattle.ciphers.proofs.Rows.{key_fits, iv-fits}
use Rattle.command.specs.declared.Cipher.{Cipher}
use Rattle.command.specs.declared.Command.{Command}
use Rattle.command.specs.declared.Command.TheVariants.{Tray, Own, Crypt, Park, Resume, Close, Change, Load, Start}
use Rattle.command.specs.declared.Refusal.{Refusal}
use Rattle.command.specs.Rows.{either}
use Rattle.command.specs.Decode.{number_of, read_of, with_cipher, open_of, crypt_of, change_of, Form, forms, read_in, refused_if, unread, command_of, decode_of, Operands, operands_of}
use Rattle.command.proofs.Rows.{by_rows}
use Rattle.machine.specs.Machine.{Call, Machine, public, from_tray, key_field, iv_field, cipher_for, spare_used, facts_of, step}
use Rattle.trace.specs.Trace.{operands_for, operands_at, within, uses_byte, AlikeFrom, Shares, AllShare, none, call}

-- ---- the bytes from one place to another

before : (from i : ℕ) (b : Bool) → i < from → both (leb from i) b ≡ false
before from i b h = ap (λ (x : Bool). both x b) (lt-leb from i h)

behind : (from n i : ℕ) → from + n ≤ i → within from n i ≡ false
behind from n i h = ap₂ both (le-leb from i (omega (arith, h))) (le-ltb i (from + n) h)

neither : {a b : Bool} → a ≡ false → b ≡ false → either a b ≡ false
neither h k = rw (h, k)

-- by whether two numbers are the same
by_number : (P : Bool → Type 0) (k n : ℕ) → (k ≡ n → P true) → P false → P (eqb k n)
by_number P k n h g = by (eqb k n) refl
  where
    by : (b : Bool) → eqb k n ≡ b → P b
    by true e = h (eqb-true k n e)
    by false e = g

-- two strings that agree in a field behind its first n bytes
rest-same : (x y : List ℕ) (at n size : ℕ) → length x ≡ length y → ((i : ℕ) → at + n ≤ i → i < at + size → get_or x i 0 ≡ get_or y i 0) →
    drop n (take size (drop at x)) ≡ drop n (take size (drop at y))
rest-same x y at n size e h =
    ext_get_or 0 (rest x) (rest y) (let a = rest-length x in let b = rest-length y in omega (arith, a, b, e))
    (λ j q.
    let a = rest-length x in
    let lt : n + j < size = omega (arith, a, q) in
    get x j lt ∙ h (at + (n + j)) (omega arith) (omega (arith, lt)) ∙ sym (get y j lt))
  where
    rest : List ℕ → List ℕ
    rest z = drop n (take size (drop at z))

    rest-length : (z : List ℕ) → length (drop n (take size (drop at z))) ≡ Prim.Native.Nat.min size (length z - at) - n
    rest-length z = length-drop n (take size (drop at z)) ∙ ap (λ (k : ℕ). k - n) (length-take size (drop at z) ∙ ap (Prim.Native.Nat.min size) (length-drop at z))

    get : (z : List ℕ) (j : ℕ) → n + j < size → get_or (drop n (take size (drop at z))) j 0 ≡ get_or z (at + (n + j)) 0
    get z j lt = get_or-drop n (take size (drop at z)) j 0 ∙ get_or-take size (drop at z) (n + j) 0 lt ∙ get_or-drop at z (n + j) 0

-- ---- a command that is read has the operands that stand in its bytes

data Spells (s : List ℕ) : Result Command Refusal → Type 0 where
  spells-number : {e : Refusal} → Spells s (Err e)
  spells-run : {c : Command} → operands_of c ≡ operands_at s → Spells s (Ok c)

data AllSpell (s : List ℕ) : List Form → Type 0 where
  none-spells : AllSpell s []
  each-spells : {f : Form} {fs : List Form} → (get_or s 0 0 ≡ f.kind → Spells s (f.read s)) → AllSpell s fs → AllSpell s (f ∷ fs)

module _ (s : List ℕ) where
  of-kind : (k : ℕ) {c : Command} → get_or s 0 0 ≡ k → operands_of c ≡ operands_for k s → Spells s (Ok c)
  of-kind k e h = spells-run (h ∙ ap (λ (x : ℕ). operands_for x s) (sym e))

  spells-cipher : (f : Cipher → Result Command Refusal) → ((c : Cipher) → number_of c ≡ get_or s 2 0 → Spells s (f c)) → Spells s (with_cipher (read_of (get_or s 2 0)) f)
  spells-cipher f h = by (read_of (get_or s 2 0)) (byte_reads (get_or s 2 0))
    where
      by : (r : Result Cipher Refusal) → Reads (get_or s 2 0) r → Spells s (with_cipher r f)
      by (Ok c) (reads e t) = h c (sym e)
      by (Err e) (reads_none t) = spells-number

  spells-row : (b : Bool) (e : Refusal) (d : Result Command Refusal) → (b ≡ false → Spells s d) → Spells s (refused_if b e d)
  spells-row true e d h = spells-number
  spells-row false e d h = h refl

  forms-spell : AllSpell s forms
  unfolding open_of crypt_of change_of
  forms-spell =
      each-spells
      (λ e. spells-cipher _ (λ c n. of-kind 1 e (λ j. record { kind = 1; line = get_or s 1 0; cipher = n j; key_number = get_or s 3 0; iv_at = tray_iv; count = 0; position = 0 })))
      (each-spells (λ e. spells-cipher _ (λ c n. of-kind 2 e (λ j. record { kind = 2; line = get_or s 1 0; cipher = n j; key_number = 0; iv_at = own_iv; count = 0; position = 0 })))
      (each-spells (λ e. of-kind 3 e refl)
      (each-spells (λ e. of-kind 4 e refl) (each-spells (λ e. of-kind 5 e refl)
      (each-spells (λ e. of-kind 6 e refl)
      (each-spells (λ e. of-kind 7 e refl)
      (each-spells (λ e. spells-cipher _ (λ c n. of-kind 8 e (λ j. record { kind = 8; line = get_or s 1 0; cipher = n j; key_number = get_or s 3 0; iv_at = 0; count = 0; position = 0 })))
      (each-spells (λ e. of-kind 9 e refl) none-spells))))))))

  spells-in : (fs : List Form) → AllSpell s fs → Spells s (read_in fs (get_or s 0 0) s)
  spells-in [] none-spells = spells-number
  spells-in (f ∷ fs) (each-spells g h) = by_number (λ (b : Bool). Spells s (pick b (f.read s) (read_in fs (get_or s 0 0) s))) (get_or s 0 0) f.kind g (spells-in fs h)

  spelt : Spells s (decode_of s)
  unfolding decode_of command_of
  spelt = by_rows (Spells s) refused_if (λ e. true) (λ b e d _ h. spells-row b e d h) (unread s) _ tt (λ _. spells-in forms forms-spell)

  read-operands : (c : Command) → decode_of s ≡ Ok c → operands_of c ≡ operands_at s
  read-operands c e = told (subst (Spells s) e spelt)
    where
      told : Spells s (Ok c) → operands_of c ≡ operands_at s
      told (spells-run h) = h

-- ---- the kinds that bring a key or an IV

data Kind : ℕ → Type 0 where
  kind-tray : Kind 1
  kind-own : Kind 2
  kind-change : Kind 7
  kind-load : Kind 8
  kind-start : Kind 9
  kind-other : {k : ℕ} → eqb k 1 ≡ false → eqb k 2 ≡ false → eqb k 7 ≡ false → eqb k 8 ≡ false → eqb k 9 ≡ false → Kind k

kind-of : (k : ℕ) → Kind k
kind-of k = try 1 kind-tray (λ p. try 2 kind-own (λ q. try 7 kind-change (λ r. try 8 kind-load (λ s. try 9 kind-start (λ t. kind-other p q r s t)))))
  where
    try : (j : ℕ) → Kind j → (eqb k j ≡ false → Kind k) → Kind k
    try j x f = by (eqb k j) refl
      where
        by : (b : Bool) → eqb k j ≡ b → Kind k
        by true e = subst Kind (sym (eqb-true k j e)) x
        by false e = f e

-- the first two bytes are none of a key or an IV
low_free : (k : ℕ) → Kind k → (s : List ℕ) (c i : ℕ) → i < 2 → uses_byte (operands_for k s) c i ≡ false
low_free _ kind-tray s c i h = before _ i _ (omega (arith, h))
low_free _ kind-own s c i h = neither (before _ i _ (omega (arith, h))) (before _ i _ (omega (arith, h)))
low_free _ kind-change s c i h = before _ i _ (omega (arith, h))
low_free _ kind-load s c i h = refl
low_free _ kind-start s c i h = before _ i _ h
low_free k (kind-other p q r _ f) s c i h = rw (p, q, r, f)

-- two strings that each form reads alike, where it is theirs
data AllSame (x y : List ℕ) : List Form → Type 0 where
  none-same : AllSame x y []
  each_same : {f : Form} {fs : List Form} → (get_or x 0 0 ≡ f.kind → f.read x ≡ f.read y) → AllSame x y fs → AllSame x y (f ∷ fs)

-- ---- the first calls of two lists that are alike

module _ (m : Machine) (a b : Call) {more more' : List Call} (h : AlikeFrom m (a ∷ more) (b ∷ more')) where
  abbrev x : List ℕ
  x = a.command

  abbrev y : List ℕ
  y = b.command

  -- the cipher whose lengths its key and its IV have
  abbrev c : ℕ
  c = cipher_for (operands_at x) (public m)

  module _ (k : ℕ) (e : get_or x 0 0 ≡ k) where
    same_byte : (i : ℕ) → uses_byte (operands_for k x) c i ≡ false → get_or x i 0 ≡ get_or y i 0
    same_byte i q = h.command 0 i (ap (λ (k : ℕ). uses_byte (operands_for k x) c i) e ∙ q)

    same_word : (i : ℕ) → ((j : ℕ) → i ≤ j → uses_byte (operands_for k x) c j ≡ false) → word_at x i ≡ word_at y i
    unfolding word_at
    same_word i q = rw (same_byte i (q i (omega arith)), same_byte (i + 1) (q (i + 1) (omega arith)), same_byte (i + 2) (q (i + 2) (omega arith)), same_byte (i + 3) (q (i + 3) (omega arith)))

    -- the key and the IV beyond the cipher's lengths
    same-record : from_tray (operands_for k x) ≡ true → drop (cipher_at c).key (key_field (operands_for k x) a) ≡ drop (cipher_at c).key (key_field (operands_for k x) b)
    same-record t =
        subst (λ (k : ℕ). drop (cipher_at c).key (key_field (operands_for k x) a) ≡ drop (cipher_at c).key (key_field (operands_for k x) b)) e
        (h.beyond-key 0 (ap (λ (k : ℕ). from_tray (operands_for k x)) e ∙ t))

    same-field : (at n size : ℕ) → ((i : ℕ) → at + n ≤ i → i < at + size → uses_byte (operands_for k x) c i ≡ false) → drop n (take size (drop at x)) ≡ drop n (take size (drop at y))
    same-field at n size f = rest-same x y at n size (h.command-length 0) (λ i p q. same_byte i (f i p q))

  key-rest : (k : ℕ) → get_or x 0 0 ≡ k → Kind k → drop (cipher_at c).key (key_field (operands_for k x) a) ≡ drop (cipher_at c).key (key_field (operands_for k x) b)
  key-rest _ e kind-tray = same-record 1 e refl
  key-rest _ e kind-own =
      same-field 2 e own_key (cipher_at c).key key_length (λ i p q. neither (behind own_key (cipher_at c).key i p) (before own_iv i _ q))
  key-rest _ e kind-change = same-record 7 e refl
  key-rest _ e kind-load = same-record 8 e refl
  key-rest _ e kind-start = refl
  key-rest k e (kind-other p q r s _) = rw (p, q, r, s)

  iv-rest : (k : ℕ) → get_or x 0 0 ≡ k → Kind k → drop (cipher_at c).iv (iv_field (operands_for k x) a) ≡ drop (cipher_at c).iv (iv_field (operands_for k x) b)
  iv-rest _ e kind-tray = same-field 1 e tray_iv (cipher_at c).iv iv_length (λ i p _. behind tray_iv (cipher_at c).iv i p)
  iv-rest _ e kind-own =
      let f = key_fits c in
      same-field 2 e own_iv (cipher_at c).iv iv_length (λ i p _. neither (behind own_key (cipher_at c).key i (omega (arith, f, p))) (behind own_iv (cipher_at c).iv i p))
  iv-rest _ e kind-change = same-field 7 e change_iv (cipher_at c).iv iv_length (λ i p _. behind change_iv (cipher_at c).iv i p)
  iv-rest _ e kind-load = refl
  iv-rest _ e kind-start = same-field 9 e start_iv (cipher_at c).iv iv_length (λ i p _. behind start_iv (cipher_at c).iv i p)
  iv-rest k e (kind-other p q r _ t) = rw (p, q, r, t)

  -- ---- the command that is read

  kind-is : get_or x 0 0 ≡ get_or y 0 0
  kind-is = let k = get_or x 0 0 in same_byte k refl 0 (low_free k (kind-of k) x c 0 (omega arith))

  line-is : get_or x 1 0 ≡ get_or y 1 0
  line-is = let k = get_or x 0 0 in same_byte k refl 1 (low_free k (kind-of k) x c 1 (omega arith))

  -- the position of a change stands behind its IV
  same-change : get_or x 0 0 ≡ 7 → change_of x ≡ change_of y
  unfolding change_of
  same-change e =
      let f = iv-fits c in
      let free : (j : ℕ) → change_at ≤ j → uses_byte (operands_for 7 x) c j ≡ false = λ j q. behind change_iv (cipher_at c).iv j (omega (arith, f, q)) in
      let high = same_word 7 e change_at (λ j q. free j q) in
      let low = same_word 7 e (change_at + 4) (λ j q. free j (omega (arith, q))) in
      let key = same_byte 7 e 2 refl in
      λ j. Ok (Change (line-is j) (key j) (high j * 2 ^ 32 + low j))

  forms-same : AllSame x y forms
  unfolding open_of crypt_of
  forms-same =
      each_same (λ e. let k = same_byte 1 e 2 refl in let n = same_byte 1 e 3 refl in λ j. with_cipher (read_of (k j)) (λ c. Ok (Tray (line-is j) c (n j))))
      (each_same (λ e. let k = same_byte 2 e 2 refl in λ j. with_cipher (read_of (k j)) (λ c. Ok (Own (line-is j) c)))
      (each_same (λ e. let h = same_byte 3 e 2 refl in let l = same_byte 3 e 3 refl in λ j. Ok (Crypt (line-is j) (h j * 256 + l j)))
      (each_same (λ e. λ j. Ok (Park (line-is j)))
      (each_same (λ e. λ j. Ok (Resume (line-is j)))
      (each_same (λ e. λ j. Ok (Close (line-is j)))
      (each_same same-change
      (each_same (λ e. let k = same_byte 8 e 2 refl in let n = same_byte 8 e 3 refl in λ j. with_cipher (read_of (k j)) (λ c. Ok (Load (line-is j) c (n j))))
      (each_same (λ e. λ j. Ok (Start (line-is j))) none-same))))))))

  same_in : (fs : List Form) → AllSame x y fs → read_in fs (get_or x 0 0) x ≡ read_in fs (get_or x 0 0) y
  same_in [] none-same = refl
  same_in (f ∷ fs) (each_same g h) =
      by_number (λ (b : Bool). pick b (f.read x) (read_in fs (get_or x 0 0) x) ≡ pick b (f.read y) (read_in fs (get_or x 0 0) y)) (get_or x 0 0) f.kind g (same_in fs h)

  same_read : decode_of x ≡ decode_of y
  unfolding decode_of command_of
  same_read = rw (same_in forms forms-same, h.command-length 0, kind-is, line-is)

  -- ---- what a decision reads

  -- the image that a resume brings, none here
  no-image : (i j : List ℕ) → pick (eqb (get_or x 0 0) 5) i [] ≡ pick (eqb (get_or x 0 0) 5) j []
  no-image i j = by_number (λ (b : Bool). pick b i [] ≡ pick b j []) (get_or x 0 0) 5 (λ e. absurd (h.no-resume 0 e)) refl

  same-facts : facts_of (operands_at x) (public m) a ≡ facts_of (operands_at x) (public m) b
  unfolding spare_used
  same-facts =
      let k = get_or x 0 0 in
      let key = key-rest k refl (kind-of k) in
      let iv = iv-rest k refl (kind-of k) in
      let image = no-image _ _ in
      λ j. record {
        tray_count = h.tray-length 0 j;
        text_count = h.text-length 0 j;
        out_count = h.out-length 0 j;
        spare = not (both (all_zero (key j)) (all_zero (iv j)));
        blank = h.blank 0 j;
        image = image j;
      }

  alike-shares : Shares (public m) a b
  alike-shares =
      record {
        read = same_read;
        facts = λ k e. subst (λ (o : Operands). facts_of o (public m) a ≡ facts_of o (public m) b) (sym (read-operands x k e)) same-facts;
        no-resume = λ i e. h.no-resume 0 (sym (ap (λ (o : Operands). o.kind) (read-operands x (Resume i) e)));
      }

  -- and the calls behind them
  alike-behind : AlikeFrom (step m a).machine more more'
  alike-behind =
      record {
        as_many = let q = h.as_many in omega (arith, q);
        command-length = λ n. h.command-length (suc n);
        tray-length = λ n. h.tray-length (suc n);
        text-length = λ n. h.text-length (suc n);
        out-length = λ n. h.out-length (suc n);
        no-resume = λ n. h.no-resume (suc n);
        command = λ n. h.command (suc n);
        beyond-key = λ n. h.beyond-key (suc n);
        blank = λ n. h.blank (suc n);
      }

-- Two lists that are alike in bytes share, call by call, what decisions read.
pub all_share : (calls calls' : List Call) (m : Machine) → AlikeFrom m calls calls' → AllShare m calls calls'
all_share [] [] m h = none
all_share [] (b ∷ more') m h = let q = h.as_many in absurd (omega (arith, q))
all_share (a ∷ more) [] m h = let q = h.as_many in absurd (omega (arith, q))
all_share (a ∷ more) (b ∷ more') m h = call (alike-shares m a b h) (all_share more more' (step m a).machine (alike-behind m a b h))
