-- What a command that is read has: the kind that its first byte says, a line of the card, which its second byte names, and all its bytes; and one that is not read has a number of document 01's.
-- Each follows from the rows and from what each form says.
-- Assumes nothing.
use mathlib.Core.Path.{◌≡◌, refl, sym, subst, ◌∙◌}
use mathlib.Core.Bool.{Bool, true, false}
use mathlib.Core.List.{List, [], ◌∷◌}
use Prim.Native.Nat.{ℕ, ◌<◌, ◌≤◌}
use native.Mathlib.Omega.{arith}
use lib.Dec.{T, leb, eqb, leb→le}
use lib.ListN.{length, get_or}
use Rattle.std.specs.Prelude.{Result, Ok, Err}
use borrow.Author.Tests.{ltb-false, eqb-true}
use Rattle.words.specs.Tests.{both, pick}
use Rattle.words.proofs.Table.{both_left, both_right}
use Rattle.command.specs.declared.Cipher.{Cipher}
use Rattle.command.specs.declared.Command.{Command}
use Rattle.command.specs.declared.Refusal.{Refusal}
use Rattle.command.specs.Decode.{refusal_number, read_of, with_cipher, open_of, crypt_of, change_of, Form, forms, size_in, read_in, length_of, refused_if, unread, command_of, decode_of, operands_of, line_of, size_of}
use Rattle.command.proofs.Rows.{by_rows, is_number}

-- ---- each form

-- a known kind's command has at least two bytes
abbrev two_or_more : List Form → Bool
two_or_more [] = true
two_or_more (f ∷ fs) = both (leb 2 f.size) (two_or_more fs)

two-or : (b : Bool) {n m : ℕ} → 2 ≤ n → ((m ≡ 0 → ⊥) → 2 ≤ m) → (pick b n m ≡ 0 → ⊥) → 2 ≤ pick b n m
two-or true h k g = h
two-or false h k g = k g

two_in : (fs : List Form) → T (two_or_more fs) → (k : ℕ) → (size_in fs k ≡ 0 → ⊥) → 2 ≤ size_in fs k
two_in [] t k h = absurd (h refl)
two_in (f ∷ fs) t k h =
    two-or (eqb k f.kind) (leb→le 2 f.size (both_left (leb 2 f.size) (two_or_more fs) t)) (two_in fs (both_right (leb 2 f.size) (two_or_more fs) t) k) h

pub two_bytes : (k : ℕ) → (length_of k ≡ 0 → ⊥) → 2 ≤ length_of k
unfolding length_of
two_bytes k h = two_in forms tt k h

-- what a form says: a number, or a command of its kind on the line that the second byte names
data Says (n : ℕ) (s : List ℕ) : Result Command Refusal → Type 0 where
  says-number : {e : Refusal} → T (is_number (refusal_number e)) → Says n s (Err e)
  says-run : {c : Command} → (operands_of c).kind ≡ n → line_of c ≡ get_or s 1 0 → Says n s (Ok c)

data AllSay : List Form → Type 0 where
  none-says : AllSay []
  each-says : {f : Form} {fs : List Form} → ((s : List ℕ) → Says f.kind s (f.read s)) → AllSay fs → AllSay (f ∷ fs)

-- a cipher that is read, or a refusal with a number
data ReadsCipher : Result Cipher Refusal → Type 0 where
  reads-number : {e : Refusal} → T (is_number (refusal_number e)) → ReadsCipher (Err e)
  reads-cipher : {c : Cipher} → ReadsCipher (Ok c)

reads-pick : (b : Bool) (c : Cipher) (r : Result Cipher Refusal) → ReadsCipher r → ReadsCipher (pick b (Ok c) r)
reads-pick true c r h = reads-cipher
reads-pick false c r h = h

reads : (b : ℕ) → ReadsCipher (read_of b)
unfolding read_of
reads b =
    reads-pick (eqb b 1) _ _ (reads-pick (eqb b 2) _ _ (reads-pick (eqb b 3) _ _ (reads-pick (eqb b 4) _ _ (reads-pick (eqb b 5) _ _ (reads-pick (eqb b 6) _ _ (reads-number tt))))))

says-cipher : {n : ℕ} {s : List ℕ} (r : Result Cipher Refusal) (f : Cipher → Result Command Refusal) → ReadsCipher r → ((c : Cipher) → Says n s (f c)) → Says n s (with_cipher r f)
says-cipher (Ok c) f t h = h c
says-cipher (Err e) f (reads-number t) h = says-number t

forms-say : AllSay forms
unfolding open_of crypt_of change_of
forms-say =
    each-says (λ s. says-cipher (read_of (get_or s 2 0)) _ (reads (get_or s 2 0)) (λ c. says-run refl refl))
    (each-says (λ s. says-cipher (read_of (get_or s 2 0)) _ (reads (get_or s 2 0)) (λ c. says-run refl refl))
    (each-says (λ s. says-run refl refl)
    (each-says (λ s. says-run refl refl)
    (each-says (λ s. says-run refl refl)
    (each-says (λ s. says-run refl refl)
    (each-says (λ s. says-run refl refl)
    (each-says (λ s. says-cipher (read_of (get_or s 2 0)) _ (reads (get_or s 2 0)) (λ c. says-run refl refl)) (each-says (λ s. says-run refl refl) none-says))))))))

-- ---- a command

pub record Has (s : List ℕ) (c : Command) : Type 0 where
  pub kind : (operands_of c).kind ≡ get_or s 0 0
  pub line : line_of c < 8
  pub named : line_of c ≡ get_or s 1 0
  pub whole : size_of c ≤ length s

pub data ReadIn (s : List ℕ) : Result Command Refusal → Type 0 where
  refused-in : {e : Refusal} → T (is_number (refusal_number e)) → ReadIn s (Err e)
  run_in : {c : Command} → Has s c → ReadIn s (Ok c)

module _ (s : List ℕ) where
  in_row : (b : Bool) (e : Refusal) (d : Result Command Refusal) → T (is_number (refusal_number e)) → (b ≡ false → ReadIn s d) → ReadIn s (refused_if b e d)
  in_row true k d z h = refused-in z
  in_row false k d z h = h refl

  in-pick : (b : Bool) (x y : Result Command Refusal) → (b ≡ true → ReadIn s x) → ReadIn s y → ReadIn s (pick b x y)
  in-pick true x y h k = h refl
  in-pick false x y h k = k

  module _ (whole : length_of (get_or s 0 0) ≤ length s) (line : get_or s 1 0 < 8) where
    in-form : (n : ℕ) (d : Result Command Refusal) → Says n s d → eqb (get_or s 0 0) n ≡ true → ReadIn s d
    in-form n (Err j) (says-number z) e = refused-in z
    in-form n (Ok c) (says-run q l) e =
        let k : (operands_of c).kind ≡ get_or s 0 0 = q ∙ sym (eqb-true (get_or s 0 0) n e) in
        run_in
        (record {
          kind = k;
          line = subst (λ (i : ℕ). i < 8) (sym l) line;
          named = l;
          whole = subst (λ (x : ℕ). length_of x ≤ length s) (sym k) whole;
        })

    in-forms : (fs : List Form) → AllSay fs → ReadIn s (read_in fs (get_or s 0 0) s)
    in-forms [] none-says = refused-in tt
    in-forms (f ∷ fs) (each-says g h) = in-pick (eqb (get_or s 0 0) f.kind) _ _ (in-form f.kind (f.read s) (g s)) (in-forms fs h)

  pub read-in : ReadIn s (decode_of s)
  unfolding decode_of command_of
  read-in =
      by_rows (ReadIn s) refused_if (λ e. is_number (refusal_number e)) in_row (unread s) _ tt
      (λ p.
      let far = ltb-false 7 (get_or s 1 0) p.1.1.1.0 in
      in-forms (ltb-false (length s) (length_of (get_or s 0 0)) p.1.1.0) (omega (arith, far)) forms forms-say)

-- what holds of a command that was read
pub run-has : (s : List ℕ) (d : Result Command Refusal) (c : Command) → d ≡ Ok c → ReadIn s d → Has s c
run-has s (Ok x) c e (run_in h) = subst (Has s) (let z : x ≡ c = cc in z) h
run-has s (Err k) c e (refused-in n) = absurd (let z : ◌≡◌ {A = ℕ} 0 1 = cc in omega arith)
