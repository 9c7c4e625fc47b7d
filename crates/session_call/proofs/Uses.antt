-- The record of a call: what is put by its code, the first bytes of its command and the card after it is what its log says. An accepted command was read, so its first byte is its kind and the
-- second its line. There is one record at most, and of an accepted call only.
-- Assumes nothing.
use mathlib.Core.Path.{◌≡◌, refl, ap, sym, ◌∙◌}
use mathlib.Core.Bool.{Bool, true, false}
use mathlib.Core.List.{List, [], ◌∷◌, append-nil}
use Prim.Native.Nat.{ℕ, ◌*◌, ◌≤◌, ◌<◌, ◌^◌}
use native.Mathlib.Nat.{min-le_right}
use native.Mathlib.Omega.{arith}
use lib.Dec.{eqb}
use lib.ListN.{length, take, get_or, length-take}
use lib.Seq.{length-take-le}
use borrow.Author.Tests.{eq-eqb, ne_eqb, eqb-true}
use Rattle.words.specs.Tests.{both, pick}
use Rattle.command.specs.declared.Command.{Command}
use Rattle.command.specs.declared.Command.TheVariants.{Tray, Own, Crypt, Park, Resume, Close, Change, Load, Start}
use Rattle.command.specs.declared.Refusal.{Refusal}
use Rattle.std.specs.Prelude.{Result, Ok, Err}
use Rattle.command.specs.Decode.{decode_of, refusal_number}
use Rattle.command.proofs.Reading.{ReadIn, refused-in, run_in, Has, read-in}
use Rattle.machine.specs.Machine.{Machine, Call, Seen, public, of_decoded, decide, perform, step, back, card_step}
use Rattle.machine.specs.Calls.{Made, made_of, line_on}
use Rattle.machine.proofs.Codes.{refusal-told, of-card}
use Rattle.lists.specs.Logs.{did_nothing, done_by, did}
use Rattle.records.specs.Records.{Use, record_of, records_of}
use Rattle.records.proofs.Reading.{records-length, Fit, none, more}
use Rattle.session_records.specs.Recorded.{record_for, Named}
use Rattle.session_call.specs.Turn.{made, used_by}
use Rattle.session_call.proofs.Bounds.{bounded}

-- ---- an accepted command was read

record Read (s : List ℕ) : Type 0 where
  pub command : Command
  pub is : decode_of s ≡ Ok command
  pub has : Has s command

refused-code : (m : Machine) (a : Call) (k : Refusal) → decode_of a.command ≡ Err k → (step m a).outcome.code ≡ refusal_number k
unfolding step decide
refused-code m a k e = ap (λ (d : Result Command Refusal). (perform m a.text (of_decoded d (public m) a)).outcome.code) e

module _ (c : Seen) (a : Call) where
  accepted-read : (card_step c a).outcome.code ≡ 0 → Read a.command
  accepted-read z = by (decode_of a.command) refl (read-in a.command)
    where
      not-refused : (k : Refusal) → decode_of a.command ≡ Err k → (card_step c a).outcome.code ≡ 0 → ⊥
      not-refused k e =
          of-card (λ x. x.outcome.code ≡ 0 → ⊥) c a (λ q. absurd (let y : ◌≡◌ {A = ℕ} 255 0 = q in omega arith))
          (λ q. refusal-told a.command k e (sym (refused-code (back c) a k e) ∙ q))

      by : (d : Result Command Refusal) → decode_of a.command ≡ d → ReadIn a.command d → Read a.command
      by (Ok x) e (run_in h) = record { command = x; is = e; has = h }
      by (Err k) e (refused-in n) = absurd (not-refused k e z)

  -- so it has a first byte, and a line of the card behind it
  pub named : Named (card_step c a).outcome.code a.command
  named =
      record {
        long = λ z. let b = bounded c a in let s = b.some z in let i = b.command-in in omega arith;
        line = λ z. let h = (accepted-read z).has in let l = h.line in let n = h.named in omega arith;
      }

-- ---- by the log

-- an accepted command by its first two bytes, and what the log makes of it
module _ (s : List ℕ) (c : Seen) (used : ℕ) where
  abbrev recorded : List ℕ
  recorded = pick (eqb (get_or s 0 0) 3) (record_of (get_or s 1 0) (line_on c (get_or s 1 0)).cipher used) []

  other : (k : ℕ) → k ≡ get_or s 0 0 → (k ≡ 3 → ⊥) → recorded ≡ []
  other k e n = ap (λ (b : Bool). pick b (record_of (get_or s 1 0) (line_on c (get_or s 1 0)).cipher used) []) (ne_eqb (get_or s 0 0) 3 (λ z. n (e ∙ z)))

  crypt : (i n : ℕ) → Has s (Crypt i n) → recorded ≡ record_of i (line_on c i).cipher used
  crypt i n h =
      (λ j. pick (eqb (sym h.kind j) 3) (record_of (sym h.named j) (line_on c (sym h.named j)).cipher used) [])

module _ (x : Made) (h : x.used-data ≤ length x.call.text) where
  -- what the log says of a command that was read so
  by-command : (k : Command) → Has x.call.command k → recorded x.call.command x.card x.used-data ≡ records_of (used_by x.card (done_by x (Ok k)))
  unfolding used_by records_of
  by-command (Tray i c k) r = other x.call.command x.card x.used-data 1 r.kind (λ e. absurd (omega arith))
  by-command (Own i c) r = other x.call.command x.card x.used-data 2 r.kind (λ e. absurd (omega arith))
  by-command (Crypt i n) r =
      crypt x.call.command x.card x.used-data i n r
      ∙ ap (record_of i (line_on x.card i).cipher) (sym (length-take-le x.used-data x.call.text h))
      ∙ sym (append-nil (record_of i (line_on x.card i).cipher (length (take x.used-data x.call.text))))
  by-command (Park i) r = other x.call.command x.card x.used-data 4 r.kind (λ e. absurd (omega arith))
  by-command (Resume i) r = other x.call.command x.card x.used-data 5 r.kind (λ e. absurd (omega arith))
  by-command (Close i) r = other x.call.command x.card x.used-data 6 r.kind (λ e. absurd (omega arith))
  by-command (Change i k p) r = other x.call.command x.card x.used-data 7 r.kind (λ e. absurd (omega arith))
  by-command (Load i c k) r = other x.call.command x.card x.used-data 8 r.kind (λ e. absurd (omega arith))
  by-command (Start i) r = other x.call.command x.card x.used-data 9 r.kind (λ e. absurd (omega arith))

  record_is : (x.code ≡ 0 → Read x.call.command) → record_for x.code x.call.command x.card x.used-data ≡ records_of (used_by x.card (did x))
  unfolding record_for used_by records_of
  record_is f = by (eqb x.code 0) refl
    where
      by : (b : Bool) → eqb x.code 0 ≡ b →
          pick (both b (eqb (get_or x.call.command 0 0) 3)) (record_of (get_or x.call.command 1 0) (line_on x.card (get_or x.call.command 1 0)).cipher x.used-data) []
          ≡ records_of (used_by x.card (pick b (done_by x (decode_of x.call.command)) did_nothing))
      by false e = refl
      by true e =
          let r = f (eqb-true x.code 0 e) in
          by-command r.command r.has ∙ ap (λ (d : Result Command Refusal). records_of (used_by x.card (done_by x d))) (sym r.is)

pub call-recorded : (c : Seen) (a : Call) →
    record_for (made c a).code a.command (made c a).card (made c a).used-data ≡ records_of (used_by (made c a).card (did (made c a)))
unfolding made
call-recorded c a = record_is (made_of a (card_step c a)) (bounded c a).text_in (accepted-read c a)

-- ---- one record at most

data Recorded (x : Made) : List Use → Type 0 where
  recorded-none : Recorded x []
  recorded-one : {i : ℕ} → x.code ≡ 0 → Recorded x (record { line = i; cipher = (line_on x.card i).cipher; bytes = length (take x.used-data x.call.text) } ∷ [])

recorded-by : (x : Made) → Recorded x (used_by x.card (did x))
unfolding used_by
recorded-by x = by (eqb x.code 0) refl (decode_of x.call.command)
  where
    by : (b : Bool) → eqb x.code 0 ≡ b → (d : Result Command Refusal) → Recorded x (used_by x.card (pick b (done_by x d) did_nothing))
    by false e d = recorded-none
    by true e (Ok (Tray i c k)) = recorded-none
    by true e (Ok (Own i c)) = recorded-none
    by true e (Ok (Crypt i n)) = recorded-one (eqb-true x.code 0 e)
    by true e (Ok (Park i)) = recorded-none
    by true e (Ok (Resume i)) = recorded-none
    by true e (Ok (Close i)) = recorded-none
    by true e (Ok (Change i k p)) = recorded-none
    by true e (Ok (Load i c k)) = recorded-none
    by true e (Ok (Start i)) = recorded-none
    by true e (Err k) = recorded-none

pub record-few : (x : Made) → length (records_of (used_by x.card (did x))) ≤ 10 * pick (eqb x.code 0) 1 0
record-few x = let h = by (used_by x.card (did x)) (recorded-by x) in omega (arith, records-length (used_by x.card (did x)))
  where
    by : (us : List Use) → Recorded x us → length us ≤ pick (eqb x.code 0) 1 0
    by [] recorded-none = omega arith
    by (u ∷ []) (recorded-one e) = let z : ◌≡◌ {A = ℕ} (pick (eqb x.code 0) 1 0) 1 = ap (λ (b : Bool). pick b 1 0) (eq-eqb x.code 0 e) in omega arith
    by (u ∷ (_ ∷ _)) r = elim r [ ]

-- its number is that of some bytes of data
pub record-fits : (x : Made) → length x.call.text < 2 ^ 64 → Fit (used_by x.card (did x))
record-fits x h = by (used_by x.card (did x)) (recorded-by x)
  where
    by : (us : List Use) → Recorded x us → Fit us
    by [] recorded-none = none
    by (u ∷ []) (recorded-one e) =
        let q : length (take x.used-data x.call.text) < 2 ^ 64 = omega (arith, length-take x.used-data x.call.text, min-le_right x.used-data (length x.call.text)) in
        more q none
    by (u ∷ (_ ∷ _)) r = elim r [ ]
