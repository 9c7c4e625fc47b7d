-- The promises of the pair, said of what the program answers: an accepted sealing, opened, returns the message; one of whose blocks was changed has
-- number 24; and a refusal leaves out as it stood and counts 0.
-- Assumes nothing.
use mathlib.Core.Path.{◌≡◌, refl, ap, ap₂, sym, ◌∙◌}
use mathlib.Core.List.{List, ◌++◌}
use Prim.Native.Nat.{ℕ, ◌≤◌}
use lib.ListN.{length, take, drop}
use lib.Seq.{take_at}
use Rattle.words.specs.Lists.{All, Byte}
use Rattle.std.specs.Prelude.{Result}
use Rattle.command.specs.declared.Refusal.{Refusal}
use Rattle.command.specs.Decode.{refusal_of}
use Rattle.sealing_rules.specs.Sealing.{Outcome, accepted, seal_of, unseal_of}
use Rattle.sealing_rules.specs.Clause.{OneChanged}
use Rattle.sealing_rules.specs.Answer.{written_of, Answered}
use Rattle.sealing_rules.proofs.Accepts.{Blank, seal-blank, open-blank}
use Rattle.sealing_rules.proofs.Returned.{opened-sealed}
use Rattle.sealing_rules.proofs.Changed.{changed-refused}

-- the bytes that an answer wrote
module _ {o : Outcome} {out out' : List ℕ} {r : Result ℕ Refusal} (a : Answered o out r out') where
  written_is : take (written_of r) out' ≡ o.bytes
  written_is = ap₂ take a.count-is a.out-is ∙ take_at o.bytes (drop (length o.bytes) out) (length o.bytes) refl

  accepted-is : refusal_of r ≡ 0 → o ≡ accepted (take (written_of r) out')
  accepted-is e = λ j. record { code = (sym a.code_is ∙ e) j; bytes = sym written_is j }

  refused-is : Blank o → (refusal_of r ≡ 0 → ⊥) → (out' ≡ out) × (written_of r ≡ 0)
  refused-is b h =
      let n = b.nothing (λ e. h (a.code_is ∙ e)) in
      (a.out-is ∙ ap (λ (l : List ℕ). l ++ drop (length l) out) n, a.count-is ∙ ap length n)

-- ---- sealed, then opened

pub record Returns (m : List ℕ) (r : Result ℕ Refusal) (out : List ℕ) : Type 0 where
  pub accepts : refusal_of r ≡ 0
  pub count : written_of r ≡ length m
  pub bytes : take (written_of r) out ≡ m

module _ (c : ℕ) (key iv red m : List ℕ) (hr : All Byte red) (hm : All Byte m) where
  pub seal-then-open : {out out' : List ℕ} {r : Result ℕ Refusal} → Answered (seal_of c key iv red m (length out)) out r out' → refusal_of r ≡ 0
      → {room room' : List ℕ} {r' : Result ℕ Refusal} → length m ≤ length room → Answered (unseal_of c key iv red (take (written_of r) out') (length room)) room r' room'
      → Returns m r' room'
  seal-then-open {out} {out'} {r} a e {room} {room'} {r'} q b =
      let back = opened-sealed c key iv red m (take (written_of r) out') (length out) (length room) hr hm (accepted-is a e) q in
      record {
        accepts = b.code_is ∙ ap (λ (o : Outcome). o.code) back;
        count = b.count-is ∙ ap (λ (o : Outcome). length o.bytes) back;
        bytes = written_is b ∙ ap (λ (o : Outcome). o.bytes) back;
      }

-- ---- sealed, changed in one block, then opened

pub record Refuses (k : ℕ) (out : List ℕ) (r : Result ℕ Refusal) (out' : List ℕ) : Type 0 where
  pub code_is : refusal_of r ≡ k
  pub count : written_of r ≡ 0
  pub stands : out' ≡ out

module _ (c : ℕ) (key iv red m s' : List ℕ) (hr : All Byte red) (hm : All Byte m) (hs : All Byte s') where
  pub seal-change-open : {out out' : List ℕ} {r : Result ℕ Refusal} → Answered (seal_of c key iv red m (length out)) out r out' → refusal_of r ≡ 0 → OneChanged (take (written_of r) out') s'
      → {room room' : List ℕ} {r' : Result ℕ Refusal} → length m ≤ length room → Answered (unseal_of c key iv red s' (length room)) room r' room' → Refuses 24 room r' room'
  seal-change-open {out} {out'} {r} a e d {room} {room'} {r'} q b =
      let o = changed-refused c key iv red m (take (written_of r) out') s' (length out) (length room) hr hm hs (accepted-is a e) d q in
      record {
        code_is = b.code_is ∙ ap (λ (x : Outcome). x.code) o;
        count = b.count-is ∙ ap (λ (x : Outcome). length x.bytes) o;
        stands = b.out-is ∙ ap (λ (x : Outcome). x.bytes ++ drop (length x.bytes) room) o;
      }

-- ---- refusals

module _ (c : ℕ) (key iv red x : List ℕ) {out out' : List ℕ} {r : Result ℕ Refusal} where
  pub seal-refused : Answered (seal_of c key iv red x (length out)) out r out' → (refusal_of r ≡ 0 → ⊥) → (out' ≡ out) × (written_of r ≡ 0)
  seal-refused a h = refused-is a (seal-blank c key iv red x (length out)) h

  pub open-refused : Answered (unseal_of c key iv red x (length out)) out r out' → (refusal_of r ≡ 0 → ⊥) → (out' ≡ out) × (written_of r ≡ 0)
  open-refused a h = refused-is a (open-blank c key iv red x (length out)) h
