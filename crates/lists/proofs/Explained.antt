-- What a call did, as its log has it by what was lent and answered, is what the machine was decided to do: the written bytes stand first in out, and a refusal has a number that is not 0.
-- Assumes nothing.
use mathlib.Core.Path.{◌≡◌, refl, sym, subst}
use mathlib.Core.Bool.{true, false}
use mathlib.Core.List.{List, ◌++◌}
use Prim.Native.Nat.{ℕ, ◌*◌, ◌<◌, ◌≤◌}
use lib.Dec.{eqb}
use lib.ListN.{length, get_or, take, drop}
use lib.Seq.{take_at}
use borrow.Author.Tests.{ltb-false, not-false}
use Rattle.std.specs.Prelude.{Result, Ok, Err}
use Rattle.words.specs.Tests.{pick}
use Rattle.words.specs.Lists.{All, Byte}
use Rattle.words.proofs.Ranges.{all_drop}
use Rattle.card_sizes.specs.Sizes.{key_length}
use Rattle.ciphers.specs.Table.{cipher_at}
use Rattle.ciphers.proofs.States.{all_take}
use Rattle.command.specs.declared.Command.{Command}
use Rattle.command.specs.declared.Command.TheVariants.{Tray, Own, Crypt, Park, Resume, Close, Change, Load, Start}
use Rattle.command.specs.declared.Refusal.{Refusal}
use Rattle.command.specs.Decode.{refusal_number, decode_of, number_of, operands_of, line_of, size_of}
use Rattle.command.proofs.Rows.{not-zero}
use Rattle.command.proofs.Reading.{ReadIn, refused-in, run_in, Has, read-in}
use Rattle.machine.specs.Machine.{Machine, line_at, idle, shown, based, opened, loaded_line, enciphered, stream_of, image_of, image_line, image_from, image_number, Call, Effect, refuse, put, crypt, park, resume, change, start, public, key_field, iv_field, iv_for, view_of, effect_of, of_decoded, decide, perform, step, shows}
use Rattle.machine.specs.Parks.{no_more, number_now, holds}
use Rattle.machine.specs.Calls.{Made, made_of}
use Rattle.lists.specs.Logs.{Did, did_nothing, did-open, did-crypt, did-park, did-resume, did-close, did-change, did-load, did-start, done_by, did}
use Rattle.machine.proofs.Rows.{Passed, passed, decided-by}
use Rattle.machine.proofs.Simulation.{of-view, is_open_lem, is-loaded, key-length, none-due, not-below}

-- the line that a call names
pub record Names (a : Call) (j : ℕ) : Type 0 where
  pub below : j < 8
  pub named : j ≡ get_or a.command 1 0

pub data Explained (m : Machine) (a : Call) : Effect → Did → Type 0 where
  was-refused : {k : ℕ} → Explained m a (refuse k) did_nothing
  was-open : {j size c : ℕ} {key iv : List ℕ} → Names a j → Explained m a (put j (opened c key iv) size) (did-open j c key iv)
  was-crypt : {j n size : ℕ} → Names a j → n ≤ length a.text
      → Explained m a (crypt j n size) (did-crypt j (take n a.text) (enciphered (line_at m j) (take n a.text)))
  was-park : {j size : ℕ} → Names a j → (line_at m j).mode ≡ 1 → (line_at m j).due ≡ 0 → no_more m.parks j ≡ false
      → Explained m a (park j size) (did-park j (image_of j (number_now m.parks j) (shown (line_at m j))))
  was-resume : {j size : ℕ} {image : List ℕ} → Names a j → holds m.parks (image_from image) (image_number image) ≡ true
      → Explained m a (resume j (based (image_line image)) (image_from image) size) (did-resume j image)
  was-close : {j size : ℕ} → Names a j → Explained m a (put j idle size) (did-close j)
  was-change : {j p size : ℕ} {key iv : List ℕ} → Names a j → (line_at m j).mode ≡ 1 → (line_at m j).due ≡ 0 → (line_at m j).pos ≤ p →
      Explained m a (change j p (stream_of (line_at m j).cipher key iv) size) (did-change j p key iv)
  was-load : {j size c : ℕ} {key : List ℕ} → Names a j → (All Byte a.tray → All Byte key) → length key ≡ (cipher_at c).key → Explained m a (put j (loaded_line c key) size) (did-load j c key)
  was-start : {j size : ℕ} {iv : List ℕ} → Names a j → (line_at m j).mode ≡ 2 → Explained m a (start j (iv_for (line_at m j).cipher iv) size) (did-start j iv)

module _ (m : Machine) (a : Call) where
  abbrev made : Effect → Made
  made e = made_of a (shows (perform m a.text e))

  -- an effect, and what the log makes of it for a command that was read so
  record Explains (d : Result Command Refusal) (e : Effect) : Type 0 where
    pub is : Explained m a e (pick (eqb (made e).code 0) (done_by (made e) d) did_nothing)

  -- the bytes written stand first in out
  first : (w : List ℕ) → take (length w) (w ++ drop (length w) a.out) ≡ w
  first w = take_at w (drop (length w) a.out) (length w) refl

  explains-refusal : (d : Result Command Refusal) (k : ℕ) → eqb k 0 ≡ false → Explains d (refuse k)
  explains-refusal d k z = record { is = rw z was-refused }

  names : (c : Command) → Has a.command c → Names a (line_of c)
  names c h = record { below = h.line; named = h.named }

  explains-effect : (c : Command) → Has a.command c → Passed c (public m) a → Explains (Ok c) (effect_of c (public m) a)
  unfolding view_of
  explains-effect (Tray i c k) h p = record { is = was-open (names (Tray i c k) h) }
  explains-effect (Own i c) h p = record { is = was-open (names (Own i c) h) }
  explains-effect (Crypt i n) h p =
      record {
        is =
            subst (λ (y : List ℕ). Explained m a (effect_of (Crypt i n) (public m) a) (did-crypt i (take n a.text) y)) (sym (first (enciphered (line_at m i) (take n a.text))))
            (was-crypt (names (Crypt i n) h) (ltb-false (length a.text) n (passed 11 p)));
      }
  explains-effect (Park i) h p =
      record {
        is =
            subst (λ (y : List ℕ). Explained m a (effect_of (Park i) (public m) a) (did-park i y)) (sym (first (image_of i (number_now m.parks i) (shown (line_at m i)))))
            (was-park (names (Park i) h) (is_open_lem m a i (passed 6 p)) (none-due m a i (passed 17 p)) (passed 15 p));
      }
  explains-effect (Resume i) h p = record { is = was-resume (names (Resume i) h) (not-false _ (passed 14 p)) }
  explains-effect (Close i) h p = record { is = was-close (names (Close i) h) }
  explains-effect (Change i k q) h p =
      let key = key_field (operands_of (Change i k q)) a in
      let iv = iv_field (operands_of (Change i k q)) a in
      record {
        is =
            subst (λ (c : ℕ). Explained m a (change i q (stream_of c key iv) (size_of (Change i k q))) (did-change i q key iv)) (sym (of-view m a i (λ v. v.cipher)))
            (was-change (names (Change i k q) h) (is_open_lem m a i (passed 6 p)) (none-due m a i (passed 17 p)) (not-below m a i q (passed 18 p)));
      }
  explains-effect (Load i c k) h p =
      record {
        is =
            was-load (names (Load i c k) h) (λ b. all_take (cipher_at (number_of c)).key (all_take key_length (all_drop (key_length * k) b))) (key-length m a (number_of c) k (passed 10 p));
      }
  explains-effect (Start i) h p =
      let iv = iv_field (operands_of (Start i)) a in
      record {
        is =
            subst (λ (c : ℕ). Explained m a (start i (iv_for c iv) (size_of (Start i))) (did-start i iv)) (sym (of-view m a i (λ v. v.cipher)))
            (was-start (names (Start i) h) (is-loaded m a i (passed 19 p)));
      }

  explains-decoded : (d : Result Command Refusal) → ReadIn a.command d → Explains d (of_decoded d (public m) a)
  explains-decoded (Err e) (refused-in n) = explains-refusal (Err e) (refusal_number e) (not-zero (refusal_number e) n)
  explains-decoded (Ok c) (run_in h) = decided-by (Explains (Ok c)) (λ k z. explains-refusal (Ok c) k (not-zero k z)) c (public m) a (explains-effect c h)

  pub explained : Explained m a (decide (public m) a) (did (made_of a (shows (step m a))))
  unfolding step decide
  explained = (explains-decoded (decode_of a.command) (read-in a.command)).is
