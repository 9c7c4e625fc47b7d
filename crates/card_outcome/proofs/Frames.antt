-- Two frames through the entries: crypts of two calls, on whatever cards, whose lines are seen alike give each other's text back, also where one end's line was taken up from an image. What a call
-- wrote is what the card's step writes.
-- Assumes nothing.
use mathlib.Core.Path.{◌≡◌, ap, sym, ◌∙◌}
use mathlib.Core.List.{List}
use Prim.Native.Nat.{ℕ}
use lib.ListN.{length, take, drop}
use lib.Seq.{take_at}
use Rattle.machine.specs.Machine.{Seen, Call, card_step, fresh_card}
use Rattle.machine.specs.Calls.{Made, card_after, line_on, AllBytes}
use Rattle.lists.specs.Logs.{did, did-park, did-resume}
use Rattle.lists.specs.OneStream.{Stands, OneStream}
use Rattle.machine.proofs.Frames.{Frame, frames-back}
use Rattle.lists.proofs.Trunk.{taken-up}
use Rattle.card_layout.specs.Words.{card_in}
use Rattle.card_outcome.specs.declared.Outcome.{Outcome}
use Rattle.card_outcome.specs.Outcomes.{outcome_of}
use Rattle.card_outcome.specs.Leaves.{out_of, CallLeaves, Crypts}

module _ (ws : List ℕ) (a : Call) {r : Outcome} {ws' o : List ℕ} (h : CallLeaves ws a r ws' o) where
  framed : {i n : ℕ} → Crypts a r i n → Frame (card_in ws) a i n
  unfolding outcome_of
  framed k = record { read = k.read; accepted = sym (ap (λ (x : Outcome). x.code) h.outcome-is) ∙ k.accepted }

  -- the bytes that are counted as written
  written_is : take r.written o ≡ (card_step (card_in ws) a).outcome.output
  unfolding outcome_of out_of
  written_is =
      let w = (card_step (card_in ws) a).outcome.output in
      ap (take r.written) h.out-is ∙ take_at w (drop (length w) a.out) r.written (sym (ap (λ (x : Outcome). x.written) h.outcome-is))

module _ (ws vs : List ℕ) (a b : Call) {r q : Outcome} {ws' vs' o p : List ℕ} (near : CallLeaves ws a r ws' o) (far : CallLeaves vs b q vs' p) {i j n : ℕ} (c : Crypts a r i n) (d : Crypts b q j n) where
  -- The second crypt, of what the first wrote, writes the first's data.
  pub calls_back : line_on (card_in vs) j ≡ line_on (card_in ws) i → take n b.text ≡ take r.written o → take q.written p ≡ take n a.text
  calls_back e t = written_is vs b far ∙ frames-back (card_in ws) (card_in vs) a b i j n (framed ws a near c) (framed vs b far d) e (t ∙ written_is ws a near)

  -- The far end stood where the near end stands (after the list before), was parked from line k and taken up on line j: its crypt gives the near end's data back as well.
  pub resumed-back : (xs : List Made) → OneStream xs → AllBytes xs → {before sofar : List Made} {x park : Made} → Stands sofar x xs → Stands before park sofar → (k : ℕ) (image : List ℕ) →
      did park ≡ did-park k image → did x ≡ did-resume j image → card_in vs ≡ x.card → line_on (card_after fresh_card before) k ≡ line_on (card_in ws) i →
      take n b.text ≡ take r.written o → take q.written p ≡ take n a.text
  resumed-back xs u v s t k image dp dx e m =
      calls_back (ap (λ (y : Seen). line_on y j) e ∙ taken-up xs u v s t k j image dp dx ∙ m)
