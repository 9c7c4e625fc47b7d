-- One call more: the parts that are lent are what is left of the buffers, and the call's answer is that of the card's step on them.
-- Assumes nothing.
use mathlib.Core.Path.{◌≡◌, refl, ap, sym, ◌∙◌, subst}
use mathlib.Core.List.{List, ◌++◌}
use Prim.Native.Nat.{ℕ, ◌+◌, ◌-◌, ◌≤◌}
use native.Mathlib.Omega.{arith}
use borrow.Rule.Slice.PartMut.{put_mid}
use lib.ListN.{length, take, drop, length-append}
use lib.Seq.{take_at}
use Rattle.keystream.proofs.Parts.{tail-part}
use Rattle.machine.specs.Machine.{Call, card_step}
use Rattle.lists.specs.Logs.{did}
use Rattle.card_outcome.specs.declared.Outcome.{Outcome}
use Rattle.card_outcome.specs.Outcomes.{outcome_of}
use Rattle.card_outcome.specs.Leaves.{call_of, out_of, CallLeaves}
use Rattle.card.specs.declared.Answer.{Answer}
use Rattle.card.specs.Ran.{seen_of, CallPromise}
use Rattle.card.proofs.Calls.{called}
use Rattle.text.specs.Text.{Behind}
use Rattle.text.proofs.Pieces.{behind-part}
use Rattle.records.specs.Records.{records_of}
use Rattle.session_records.specs.Recorded.{record_for, Named}
use Rattle.session_table.specs.Table.{call_row}
use Rattle.session_call.specs.declared.Progress.{Progress}
use Rattle.session_call.specs.Turn.{made, used_by, here, next, Turned}
use Rattle.session_call.proofs.Bounds.{bounded}
use Rattle.session_call.proofs.Uses.{named, call-recorded}

-- the part of a buffer from byte a on, as it is lent
abbrev pub part : ℕ → List ℕ → List ℕ
part a l = take (length l - a) (drop a l)

-- the progress after an answer, whose line of the table ends at e and whose record at u
abbrev pub after : Progress → Answer → (e u : ℕ) → Progress
after p r e u =
    record {
      card = r.card;
      command = p.command + r.outcome.used_command;
      «data» = p.«data» + r.outcome.used_data;
      out = p.out + r.outcome.written;
      table = e;
      records = u;
      calls = p.calls + 1;
      code = r.outcome.code;
    }

module _ (p : Progress) (commands tray text out : List ℕ) (r : Answer) (ys : List ℕ) where
  abbrev pub Given : Type 0
  Given = CallPromise p.card (call_of (part p.command commands) tray (part p.«data» text) (part p.out out)) r ys

  module _ (g : Given) where
    answered : CallLeaves p.card.words (here p commands tray text out) r.outcome r.card.words ys
    unfolding here
    answered =
        subst (λ (a : Call). CallLeaves p.card.words a r.outcome r.card.words ys)
        (λ i. call_of (tail-part p.command commands i) tray (tail-part p.«data» text i) (tail-part p.out out i)) (called p.card _ r ys g)

    -- an accepted command names a line of the card
    pub names : Named r.outcome.code (part p.command commands)
    unfolding outcome_of here
    names =
        subst (λ (k : ℕ). Named k (part p.command commands)) (sym (ap (λ (x : Outcome). x.code) answered.outcome-is))
        (subst (λ (l : List ℕ). Named (card_step (seen_of p.card) (here p commands tray text out)).outcome.code l) (sym (tail-part p.command commands))
        (named (seen_of p.card) (here p commands tray text out)))

    -- the bytes that it wrote
    wrote : p.out + r.outcome.written ≤ length out →
        Behind (take (next p commands tray text out).written (next p commands tray text out).out) p.out out (put_mid p.out (length out - p.out) out ys) (p.out + r.outcome.written)
    unfolding next made outcome_of out_of here
    wrote h =
        let w = (card_step (seen_of p.card) (here p commands tray text out)).outcome.output in
        let n : r.outcome.written ≡ length w = ap (λ (x : Outcome). x.written) answered.outcome-is in
        let o = drop p.out out in
        let t : take (length w) (w ++ drop (length w) o) ≡ w = take_at w (drop (length w) o) (length w) refl in
        behind-part (take (length w) (w ++ drop (length w) o)) ys out p.out r.outcome.written (ap length t ∙ sym n) h
        (answered.out-is ∙ (λ i. sym t i ++ drop (sym n i) (sym (tail-part p.out out) i)))

    -- and its record
    recorded : {records records' : List ℕ} {u : ℕ} →
        Behind (record_for r.outcome.code (part p.command commands) (seen_of r.card) r.outcome.used_data) p.records records records' u →
        Behind (records_of (used_by (next p commands tray text out).card (did (next p commands tray text out)))) p.records records records' u
    unfolding next made outcome_of here
    recorded {records} {records'} {u} d =
        let a = answered.outcome-is in
        subst (λ (l : List ℕ). Behind l p.records records records' u)
        ((λ i. record_for (a i).code (tail-part p.command commands i) (answered.card-is i) (a i).used_data) ∙ call-recorded (seen_of p.card) (here p commands tray text out)) d

    pub turned : (table table' records records' : List ℕ) (e u : ℕ) → p.out + r.outcome.written ≤ length out →
        Behind (call_row (p.calls + 1) r.outcome.code r.outcome.used_command r.outcome.used_data r.outcome.written) p.table table table' e →
        Behind (record_for r.outcome.code (part p.command commands) (seen_of r.card) r.outcome.used_data) p.records records records' u →
        Turned p commands tray text out table records (after p r e u) (put_mid p.out (length out - p.out) out ys) table' records'
    unfolding next made outcome_of
    turned table table' records records' e u h b d =
        let a = answered.outcome-is in
        record {
          card-is = answered.card-is;
          command-is = ap (λ (x : Outcome). p.command + x.used_command) a;
          text-is = ap (λ (x : Outcome). p.«data» + x.used_data) a;
          calls_is = refl;
          code_is = ap (λ (x : Outcome). x.code) a;
          out-is = wrote h;
          table_is =
              subst (λ (x : Outcome). Behind (call_row (p.calls + 1) r.outcome.code x.used_command x.used_data x.written) p.table table table' e) a b;
          records_is = recorded d;
        }

    -- no more is used than is left
    pub command-within : r.outcome.used_command ≤ length (drop p.command commands)
    unfolding outcome_of here
    command-within =
        let b = (bounded (seen_of p.card) (here p commands tray text out)).command-in in
        let e = ap (λ (x : Outcome). x.used_command) answered.outcome-is in
        omega arith

    pub text-within : r.outcome.used_data ≤ length (drop p.«data» text)
    unfolding outcome_of here
    text-within =
        let b = (bounded (seen_of p.card) (here p commands tray text out)).text_in in
        let e = ap (λ (x : Outcome). x.used_data) answered.outcome-is in
        omega arith

    pub out_within : length ys ≡ length (part p.out out) → r.outcome.written ≤ length (drop p.out out)
    unfolding outcome_of out_of
    out_within k =
        let w = (card_step (seen_of p.card) (here p commands tray text out)).outcome.output in
        let e = ap (λ (x : Outcome). x.written) answered.outcome-is in
        let l : length ys ≡ length (w ++ drop (length w) (here p commands tray text out).out) = ap length answered.out-is in
        let f = ap length (tail-part p.out out) in
        omega (arith, length-append w (drop (length w) (here p commands tray text out).out))
