-- Of the program's calls demand 3 holds, and they end as document 01 has it: each call is made on the card that the one before it returned, and every accepted one takes bytes away. What is
-- read of its records is what they were made of, since no number in them is above the length of the data.
-- Assumes nothing.
use mathlib.Core.Path.{◌≡◌, refl}
use mathlib.Core.Bool.{Bool, true, false}
use mathlib.Core.List.{List, [], ◌∷◌}
use Prim.Native.Nat.{ℕ, zero, suc, ◌≤◌, ◌<◌, ◌^◌}
use native.Mathlib.Omega.{arith}
use lib.Dec.{eqb}
use lib.ListN.{length, take, length-take, length-drop}
use native.Mathlib.Nat.{min-le_left}
use borrow.Author.Tests.{eqb-true, eqb-false}
use Rattle.words.specs.Lists.{All, Byte}
use Rattle.words.specs.Tests.{pick}
use Rattle.words.proofs.Ranges.{all_drop}
use Rattle.machine.specs.Machine.{Call, Seen, card_step, fresh_card}
use Rattle.machine.specs.Calls.{Made}
use Rattle.lists.specs.OneStream.{OneStream}
use Rattle.lists.specs.Counted.{Counted}
use Rattle.lists.specs.Parking.{ParkedCalls}
use Rattle.lists.specs.Steps.{Steps, none, step}
use Rattle.lists.proofs.Steps.{steps-one-stream, steps-counted, steps-parked-calls}
use Rattle.ciphers.proofs.States.{all_take}
use Rattle.records.specs.Records.{uses}
use Rattle.records.proofs.Reading.{Fit, none as none-fits, fit_append, uses-back}
use Rattle.session_call.specs.Turn.{made}
use Rattle.session_call.proofs.Bounds.{bounded}
use Rattle.session_call.proofs.Uses.{record-fits}
use Rattle.session.specs.declared.Ended.{Ended}
use Rattle.session.specs.Progress.{RunPromise}
use Rattle.session.specs.Session.{rest, calls, read_length, lent, session, uses_by, records_by}

-- ---- demand 3

-- the program's calls are steps of its card, and lent bytes where its buffers hold bytes
calls-steps : (k : ℕ) (c : Seen) (a : Call) → All Byte a.command → All Byte a.tray → Steps c (calls k c a)
unfolding calls made rest
calls-steps zero c a p q = none
calls-steps (suc k) c a p q =
    first (eqb (length a.command) 0)
    (next (eqb (made c a).code 0) (calls-steps k (made c a).card (rest a (made c a)) (all_drop (made c a).used-command p) q))
  where
    next : (b : Bool) {xs : List Made} → Steps (made c a).card xs → Steps (made c a).card (pick b xs [])
    next true h = h
    next false h = none

    first : (b : Bool) {xs : List Made} → Steps (made c a).card xs → Steps c (pick b [] (made c a ∷ xs))
    first true h = none
    first false h = step (record { command = p; tray = q }) h

module _ (commands tray text out : List ℕ) (p : All Byte (take read_length commands)) (q : All Byte (take read_length tray)) where
  all-steps : Steps fresh_card (session commands tray text out)
  all-steps = calls-steps read_length fresh_card (lent commands tray text out) p q

  pub session-one-stream : OneStream (session commands tray text out)
  session-one-stream = steps-one-stream (session commands tray text out) all-steps

  pub session-counted : Counted (session commands tray text out)
  session-counted = steps-counted (session commands tray text out) all-steps

  pub session-parked-calls : ParkedCalls (session commands tray text out)
  session-parked-calls = steps-parked-calls (session commands tray text out) all-steps

-- Demand 3 of every run of the program, by its promise alone, and what becomes of its parked calls.
module _ {commands tray text out table records out' table' records' : List ℕ} {r : Ended} (h : RunPromise commands tray text out table records out' table' records' r) where
  pub run-one-stream : OneStream (session commands tray text out)
  run-one-stream = session-one-stream commands tray text out (all_take read_length h.command-bytes) (all_take read_length h.tray-bytes)

  pub run-counted : Counted (session commands tray text out)
  run-counted = session-counted commands tray text out (all_take read_length h.command-bytes) (all_take read_length h.tray-bytes)

  pub run-parked-calls : ParkedCalls (session commands tray text out)
  run-parked-calls = session-parked-calls commands tray text out (all_take read_length h.command-bytes) (all_take read_length h.tray-bytes)

-- ---- where it ends

-- commands run until the end or the first refusal
pub data Complete : Seen → Call → List Made → Type 0 where
  used-up : {c : Seen} {a : Call} → length a.command ≡ 0 → Complete c a []
  refused : {c : Seen} {a : Call} → ((made c a).code ≡ 0 → ⊥) → Complete c a (made c a ∷ [])
  accepted : {c : Seen} {a : Call} {xs : List Made} → (made c a).code ≡ 0 → Complete (made c a).card (rest a (made c a)) xs → Complete c a (made c a ∷ xs)

-- an accepted call leaves fewer bytes
shorter : (c : Seen) (a : Call) (k : ℕ) → length a.command ≤ suc k → (made c a).code ≡ 0 → length (rest a (made c a)).command ≤ k
unfolding made rest
shorter c a k h e =
    let s = (bounded c a).some e in
    omega (arith, length-drop (card_step c a).outcome.used-command a.command)

calls-complete : (k : ℕ) (c : Seen) (a : Call) → length a.command ≤ k → Complete c a (calls k c a)
unfolding calls
calls-complete zero c a h = let e : length a.command ≡ 0 = omega arith in used-up e
calls-complete (suc k) c a h =
    first (eqb (length a.command) 0) refl _
    (next (eqb (made c a).code 0) refl _ (λ e. calls-complete k (made c a).card (rest a (made c a)) (shorter c a k h e)))
  where
    next : (b : Bool) → eqb (made c a).code 0 ≡ b → (xs : List Made) → ((made c a).code ≡ 0 → Complete (made c a).card (rest a (made c a)) xs) →
        Complete c a (made c a ∷ pick b xs [])
    next true e xs f = let z = eqb-true (made c a).code 0 e in accepted z (f z)
    next false e xs f = refused (eqb-false (made c a).code 0 e)

    first : (b : Bool) → eqb (length a.command) 0 ≡ b → (xs : List Made) → Complete c a (made c a ∷ xs) → Complete c a (pick b [] (made c a ∷ xs))
    first true e xs g = used-up (eqb-true (length a.command) 0 e)
    first false e xs g = g

pub session-complete : (commands tray text out : List ℕ) → Complete fresh_card (lent commands tray text out) (session commands tray text out)
session-complete commands tray text out =
    calls-complete read_length fresh_card (lent commands tray text out) (omega (arith, length-take read_length commands, min-le_left read_length (length commands)))

-- ---- what is read of its records

calls-fit : (k : ℕ) (c : Seen) (a : Call) → length a.text < 2 ^ 64 → Fit (uses_by (calls k c a))
unfolding calls uses_by made rest
calls-fit zero c a h = none-fits
calls-fit (suc k) c a h =
    first (eqb (length a.command) 0) _
    (fit_append (record-fits (made c a) h)
    (next (eqb (made c a).code 0) _ (calls-fit k (made c a).card (rest a (made c a)) (omega (arith, length-drop (made c a).used-data a.text)))))
  where
    next : (b : Bool) (xs : List Made) → Fit (uses_by xs) → Fit (uses_by (pick b xs []))
    next true xs g = g
    next false xs g = none-fits

    first : (b : Bool) (xs : List Made) → Fit (uses_by (made c a ∷ xs)) → Fit (uses_by (pick b [] (made c a ∷ xs)))
    first true xs g = none-fits
    first false xs g = g

-- what is read of the records that a run leaves is what it did: its accepted crypts, in order
pub session-uses : (commands tray text out : List ℕ) → uses (records_by (session commands tray text out)) ≡ uses_by (session commands tray text out)
session-uses commands tray text out =
    uses-back (uses_by (session commands tray text out))
    (calls-fit read_length fresh_card (lent commands tray text out) (omega (arith, length-take read_length text, min-le_left read_length (length text))))
