-- The checks before the keystream: what is accepted passed each of them, and what passes each is accepted; and what the code finds, test by test, is
-- what the rows say.
-- Assumes nothing.
use mathlib.Core.Path.{◌≡◌, refl, ap, sym, ◌∙◌}
use mathlib.Core.Bool.{Bool, true, false, not}
use mathlib.Core.List.{List}
use Prim.Native.Nat.{ℕ, zero, suc, ◌+◌, ◌-◌, ◌%◌, ◌<◌, ◌≤◌}
use native.Mathlib.Nat.{suc-ne-zero}
use native.Mathlib.Omega.{arith}
use lib.Dec.{leb, ltb, eqb}
use borrow.Author.Tests.{not-false, leb-true, eqb-true, ltb-false, le-leb, lt-ltb, le-ltb}
use Rattle.words.specs.Tests.{pick}
use Rattle.words.proofs.Tests.{both_left, both_right, both_true}
use Rattle.command.specs.declared.Cipher.{Cipher}
use Rattle.command.specs.Decode.{number_of}
use Rattle.ciphers.specs.Table.{is_cipher}
use Rattle.ciphers.proofs.Numbers.{is-cipher}
use Rattle.machine.specs.Machine.{spare_used, blank_key}
use Rattle.card_keys.specs.Keys.{key_code}
use Rattle.sealing_rules.specs.Sealing.{Outcome, refused, message_ok, sealed_ok, check_of, refused_where, past}

-- ---- one row

row-passed : (b : Bool) (k n : ℕ) → (k ≡ 0 → ⊥) → pick b k n ≡ 0 → (b ≡ false) × (n ≡ 0)
row-passed true k n h e = absurd (h e)
row-passed false k n h e = (refl, e)

row-given : {b : Bool} (k n : ℕ) → b ≡ true → pick b k n ≡ k
row-given k n e = ap (λ (b : Bool). pick b k n) e

row_next : {b : Bool} (k n : ℕ) → b ≡ false → pick b k n ≡ n
row_next k n e = ap (λ (b : Bool). pick b k n) e

pub past-accepted : (n : ℕ) (o : Outcome) → (past n o).code ≡ 0 → (n ≡ 0) × (past n o ≡ o)
unfolding past
past-accepted zero o h = (refl, refl)
past-accepted (suc n) o h = absurd (suc-ne-zero n h)

pub past-none : {n : ℕ} (o : Outcome) → n ≡ 0 → past n o ≡ o
unfolding past
past-none o e = ap (λ (k : ℕ). past k o) e

pub past-some : {n k : ℕ} (o : Outcome) → n ≡ k → (k ≡ 0 → ⊥) → past n o ≡ refused k
unfolding past
past-some {n} {k} o e h = ap (λ (x : ℕ). past x o) e ∙ by k h
  where
    by : (k : ℕ) → (k ≡ 0 → ⊥) → past k o ≡ refused k
    by zero h = absurd (h refl)
    by (suc k) h = refl

pub refuse-passed : (b : Bool) (k : ℕ) (o : Outcome) → (k ≡ 0 → ⊥) → (refused_where b k o).code ≡ 0 → (b ≡ false) × (refused_where b k o ≡ o)
unfolding refused_where
refuse-passed true k o h e = absurd (h e)
refuse-passed false k o h e = (refl, refl)

pub refuse-pass : {b : Bool} (k : ℕ) (o : Outcome) → b ≡ false → refused_where b k o ≡ o
unfolding refused_where
refuse-pass k o e = ap (λ (b : Bool). refused_where b k o) e

pub refuse-given : {b : Bool} (k : ℕ) (o : Outcome) → b ≡ true → refused_where b k o ≡ refused k
unfolding refused_where
refuse-given k o e = ap (λ (b : Bool). refused_where b k o) e

-- ---- all rows

-- what length, cipher, key, IV and room pass
pub record Fitting (ok : Bool) (c : ℕ) (key iv : List ℕ) (need room : ℕ) : Type 0 where
  pub size : ok ≡ true
  pub known : is_cipher c ≡ true
  pub spare : spare_used c key iv ≡ false
  pub blank : blank_key c key ≡ false
  pub room_for : need ≤ room

module _ (ok : Bool) (c : ℕ) (key iv : List ℕ) (need room : ℕ) where
  pub check-passed : check_of ok c key iv need room ≡ 0 → Fitting ok c key iv need room
  unfolding check_of
  check-passed e =
      let a = row-passed (not ok) 23 _ (omega arith) e in
      let b = row-passed (not (is_cipher c)) 4 _ (omega arith) a.1 in
      let d = row-passed (spare_used c key iv) 7 _ (omega arith) b.1 in
      let f = row-passed (blank_key c key) 16 _ (omega arith) d.1 in
      let g = row-passed (ltb room need) 12 0 (omega arith) f.1 in
      record { size = not-false ok a.0; known = not-false (is_cipher c) b.0; spare = d.0; blank = f.0; room_for = ltb-false room need g.0 }

  pub check-pass : Fitting ok c key iv need room → check_of ok c key iv need room ≡ 0
  unfolding check_of
  check-pass f =
      row_next 23 _ (ap not f.size) ∙ row_next 4 _ (ap not f.known) ∙ row_next 7 _ f.spare ∙ row_next 16 _ f.blank
      ∙ row_next 12 0 (le-ltb room need f.room_for)

  pub check-size : ok ≡ false → check_of ok c key iv need room ≡ 23
  unfolding check_of
  check-size e = row-given 23 _ (ap not e)

  pub check-unknown : ok ≡ true → is_cipher c ≡ false → check_of ok c key iv need room ≡ 4
  unfolding check_of
  check-unknown h e = row_next 23 _ (ap not h) ∙ row-given 4 _ (ap not e)

-- where the length is right and the byte is a cipher's number
pub check-known : (key iv : List ℕ) (need room : ℕ) {ok : Bool} {b n : ℕ} → ok ≡ true → b ≡ n → check_of ok b key iv need room ≡ check_of true n key iv need room
check-known key iv need room p q = λ j. check_of (p j) (q j) key iv need room

-- ---- key, IV and room, in the code's order

module _ (c : Cipher) (key iv : List ℕ) (need room : ℕ) {k : ℕ} (e : k ≡ key_code (number_of c) key iv) where
  to-key : check_of true (number_of c) key iv need room ≡ pick (spare_used (number_of c) key iv) 7 (pick (blank_key (number_of c) key) 16 (pick (ltb room need) 12 0))
  unfolding check_of
  to-key = row_next 4 _ (ap not (is-cipher c))

  pub key-refused : (k ≡ 0 → ⊥) → k ≡ check_of true (number_of c) key iv need room
  unfolding key_code
  key-refused h = sym (to-key ∙ same (spare_used (number_of c) key iv) (blank_key (number_of c) key) _ (λ q. h (e ∙ q)) ∙ sym e)
    where
      same : (a b : Bool) (n : ℕ) → (◌≡◌ {A = ℕ} (pick a 7 (pick b 16 0)) 0 → ⊥) → ◌≡◌ {A = ℕ} (pick a 7 (pick b 16 n)) (pick a 7 (pick b 16 0))
      same true b n h = refl
      same false true n h = refl
      same false false n h = absurd (h refl)

  key-passed : k ≡ 0 → check_of true (number_of c) key iv need room ≡ pick (ltb room need) 12 0
  unfolding key_code
  key-passed h =
      let a = row-passed (spare_used (number_of c) key iv) 7 _ (omega arith) (sym e ∙ h) in
      let b = row-passed (blank_key (number_of c) key) 16 0 (omega arith) a.1 in
      to-key ∙ row_next 7 _ a.0 ∙ row_next 16 _ b.0

  pub no_room : k ≡ 0 → room < need → 12 ≡ check_of true (number_of c) key iv need room
  no_room h q = sym (key-passed h ∙ row-given 12 0 (lt-ltb room need q))

  pub all_right : k ≡ 0 → need ≤ room → 0 ≡ check_of true (number_of c) key iv need room
  all_right h q = sym (key-passed h ∙ row_next 12 0 (le-ltb room need q))

-- ---- lengths

pub message-whole : (n : ℕ) → message_ok n ≡ true → n % 8 ≡ 0
message-whole n h = eqb-true (n % 8) 0 (both_right (leb n 16384) (eqb (n % 8) 0) h)

pub message-most : (n : ℕ) → message_ok n ≡ true → n ≤ 16384
message-most n h = leb-true n 16384 (both_left (leb n 16384) (eqb (n % 8) 0) h)

-- the length of what a message is sealed to
pub sealed-ok : (n k : ℕ) → k ≡ n + 16 → message_ok n ≡ true → sealed_ok k ≡ true
sealed-ok n k e h =
    let d : k - 16 ≡ n = omega arith in
    both_true (le-leb 16 k (omega arith)) (ap message_ok d ∙ h)

pub sealed-least : (n : ℕ) → sealed_ok n ≡ true → 16 ≤ n
sealed-least n h = leb-true 16 n (both_left (leb 16 n) (message_ok (n - 16)) h)

pub sealed-message : (n : ℕ) → sealed_ok n ≡ true → message_ok (n - 16) ≡ true
sealed-message n h = both_right (leb 16 n) (message_ok (n - 16)) h

pub sealed-most : (n : ℕ) → sealed_ok n ≡ true → n ≤ 16400
sealed-most n h = let l = sealed-least n h in let m = message-most (n - 16) (sealed-message n h) in omega arith

pub sealed-whole : (n : ℕ) → sealed_ok n ≡ true → n % 8 ≡ 0
sealed-whole n h = let l = sealed-least n h in let m = message-whole (n - 16) (sealed-message n h) in omega arith
